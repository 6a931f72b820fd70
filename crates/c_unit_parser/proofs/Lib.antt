-- The lemmas of this crate.
-- What lists, marks and names have in common with the parser of expressions stands there.
pub mod Places
pub mod Answers
pub mod Turns
pub mod Firsts
pub mod Called
pub mod NextToName
pub mod Puts
pub mod Declared
pub mod Whole
pub mod Depth
pub mod Refused
