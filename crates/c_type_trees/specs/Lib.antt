-- The definitions of c_type_trees that contracts cite, its own and those of the crates above:
-- a line for each file of this folder.
pub mod Strings
pub mod Lists
pub mod Sequences
pub mod Calls
pub mod Operands
pub mod Specifying
pub mod Nested
