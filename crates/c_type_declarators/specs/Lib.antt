-- The definitions of c_type_declarators that contracts cite, its own and those of the crates above:
-- a line for each file of this folder.
pub mod Words
pub mod Specifiers
pub mod Derivations
pub mod Enumerations
pub mod Parameters
