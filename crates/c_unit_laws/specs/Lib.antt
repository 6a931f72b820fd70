-- What hangs together in the typed tree of a unit, each file behind those that it cites; `Laws` has what is said.
pub mod Walks
pub mod Placed
pub mod Declarations
pub mod OfStatements
pub mod Statements
pub mod Units
pub mod Objects
pub mod Laws
