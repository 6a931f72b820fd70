-- The lemmas of c_type_declarators, by subject: a line for each file of this folder.
-- The folders have the proofs of functions, each beside the path of its function in src.
pub mod Left
pub mod NamedByWords
