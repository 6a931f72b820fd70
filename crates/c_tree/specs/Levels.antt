-- Whether each part of a tree is of the production that the grammar names there.
pub mod Names
pub mod Productions
pub mod Facts
pub mod StatementFacts
pub mod Layers
pub mod OfTrees
pub mod Trees
pub mod OfInitialisers
pub mod Initialisers
pub mod Declarations
pub mod OfStatements
pub mod Statements
pub mod Units
