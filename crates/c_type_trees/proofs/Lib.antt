-- The lemmas of c_type_trees, by subject: a line for each file of this folder.
-- The folders have the proofs of functions, each beside the path of its function in src.
pub mod After
pub mod Arms
pub mod Firsts
pub mod Kept
pub mod Loops
pub mod Nodes
pub mod Pops
pub mod Prototypes
pub mod Rounds
pub mod Steps
pub mod Turns
pub mod Begins
