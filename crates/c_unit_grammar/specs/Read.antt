-- The grammar as a parser on lists of tokens.
pub mod Words
pub mod Initialisers
pub mod Declarations
pub mod Statements
pub mod Units
