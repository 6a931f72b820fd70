-- The lemmas on types and operands that the proofs of the rules cite,
-- each about definitions alone.
pub mod Derivations
pub mod Qualified
pub mod Rows
pub mod SameTargets
pub mod WithEach
pub mod Trees
pub mod VoidPointers
