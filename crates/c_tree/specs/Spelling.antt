-- The spelling of each tree: its tokens in order, each with the place that the tree keeps.
pub mod Tokens
pub mod OfTrees
pub mod Trees
pub mod OfInitialisers
pub mod Initialisers
pub mod Declarations
pub mod OfStatements
pub mod Statements
pub mod Units
