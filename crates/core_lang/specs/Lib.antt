-- The definitions of this crate, each file behind those that it cites. What contracts say is told by these; `Laws` holds
-- proofs alone.
pub mod Layout
pub mod State
pub mod Copying
pub mod Filling
pub mod Acts
pub mod Run
pub mod WellFormed
pub mod Counts
pub mod Following
pub mod Addresses
pub mod Laws
pub mod Examples
pub mod Instances
