-- What sources of the first form are, and the program that runs what they say.
pub mod Lexemes
pub mod Form
pub mod Refused
pub mod Code
