-- The definitions of c_type_initialisers that contracts cite, its own and those of the crates above:
-- a line for each file of this folder.
pub mod Stacks
pub mod Joined
pub mod Braced
