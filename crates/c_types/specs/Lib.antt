-- The definitions of c_types that contracts cite, its own and those of the crates above:
-- a line for each file of this folder.
pub mod Definitions
pub mod Check
