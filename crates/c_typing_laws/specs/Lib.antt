-- Proofs on the definition of typing, each file behind those that it cites; `Laws` states what the calls of this crate
-- promise.
pub mod Scopes
pub mod Expressions
pub mod Declarators
pub mod OfTrees
pub mod Known
pub mod Trees
pub mod OfInitialisers
pub mod Starts
pub mod Declarations
pub mod OfStatements
pub mod Units
pub mod Levels
pub mod Initialisers
pub mod Statements
pub mod Laws
