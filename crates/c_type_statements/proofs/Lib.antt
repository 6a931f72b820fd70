-- The lemmas of c_type_statements, by subject: a line for each file of this folder.
-- The folders have the proofs of functions, each beside the path of its function in src.
pub mod Left
pub mod Elses
pub mod Owned
pub mod Counted
pub mod Rows
pub mod Turns
pub mod CaseValues
