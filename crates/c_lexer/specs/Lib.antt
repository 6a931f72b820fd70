-- What the tokens of a source are, each file behind those that it cites: fronts of bytes, then the forms of tokens, then
-- what a token is read as, and at the end the whole source.
pub mod Fronts
pub mod WhiteSpace
pub mod Names
pub mod Numbers
pub mod Literals
pub mod Punctuators
pub mod Features
pub mod Lexemes
pub mod Tokens
pub mod Scan
