-- The definitions of this crate, each file behind those that it cites. What contracts say is told by these; `Laws` holds
-- proofs alone.
pub mod Keys
pub mod Rows
pub mod Laws
