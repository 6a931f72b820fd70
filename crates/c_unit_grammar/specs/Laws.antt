-- The laws that tie the parser to the spelling, the levels and the nesting of trees.
pub mod Common
pub mod Shapes
pub mod Initialisers
pub mod Declarations
pub mod StatementFacts
pub mod Conditions
pub mod Bodies
pub mod Loops
pub mod Elses
pub mod Statements
pub mod Externals
pub mod Units
