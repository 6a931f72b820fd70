-- The definitions of c_type_walk that contracts cite, its own and those of the crates above:
-- a line for each file of this folder.
pub mod Walks
pub mod Nests
