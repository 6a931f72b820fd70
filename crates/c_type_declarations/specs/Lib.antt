-- The definitions of c_type_declarations that contracts cite, its own and those of the crates above:
-- a line for each file of this folder.
pub mod Counting
pub mod Linkage
pub mod Starting
pub mod Slots
pub mod Rows
