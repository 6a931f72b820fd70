-- Lemmas that the proofs of this crate's functions share, and that crates above cite; `specs/Laws` has those that speak of
-- definitions alone.
pub mod Bounds
