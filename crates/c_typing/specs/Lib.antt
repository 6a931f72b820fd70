-- The definition of typing, each file behind those that it cites: faults, types, scopes and operands, then the rows of
-- each kind of tree, and at the end the whole unit. `Laws` holds proofs and `Examples` closed cases.
pub mod Faults
pub mod Types
pub mod Conversions
pub mod Scopes
pub mod Operands
pub mod Operators
pub mod Expressions
pub mod Declarators
pub mod Parts
pub mod OfTrees
pub mod Trees
pub mod OfInitialisers
pub mod Initialisers
pub mod Starts
pub mod Declarations
pub mod OfStatements
pub mod Statements
pub mod Units
pub mod Examples
pub mod Laws
