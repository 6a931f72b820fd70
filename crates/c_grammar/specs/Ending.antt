-- How a tree ends.
pub mod OfTrees
pub mod Trees
