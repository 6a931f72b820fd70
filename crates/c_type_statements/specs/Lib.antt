-- The definitions of c_type_statements that contracts cite, its own and those of the crates above:
-- a line for each file of this folder.
pub mod Statements
pub mod Nested
