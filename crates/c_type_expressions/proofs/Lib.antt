-- The lemmas on rows of expressions that the proofs of the functions cite,
-- each about definitions alone.
pub mod Ends
pub mod Values
pub mod Combined
pub mod Settled
pub mod Arguments
pub mod Called
pub mod Linked
pub mod Targets
