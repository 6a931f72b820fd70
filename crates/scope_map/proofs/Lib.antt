pub mod Marks
pub mod Latest
pub mod Linked
pub mod Sought
