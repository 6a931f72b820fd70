-- The lemmas of this crate.
-- Those on marks, turns, lists and names serve the parser of units too.
pub mod Turns
pub mod Lists
pub mod Levels
pub mod Depth
pub mod AtFront
pub mod Firsts
pub mod Marks
pub mod Names
pub mod Strings
