-- The definitions of this crate, each file behind those that it cites. What contracts say is told by these; `Laws` holds
-- proofs alone.
pub mod World
pub mod Promises
pub mod Widening
pub mod Laws
