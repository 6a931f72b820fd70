-- The lemmas of c_type_initialisers, by subject: a line for each file of this folder.
-- The folders have the proofs of functions, each beside the path of its function in src.
pub mod Rows
pub mod Turned
pub mod Depth
pub mod Remains
pub mod Thens
pub mod Loops
pub mod Typed
pub mod Items
pub mod Braced
