-- The lemmas of c_type_walk, by subject: a line for each file of this folder.
-- The folders have the proofs of functions, each beside the path of its function in src.
pub mod Walked
pub mod Numbers
pub mod Visible
