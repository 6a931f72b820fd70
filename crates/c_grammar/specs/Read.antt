-- The grammar as a parser on lists of tokens.
pub mod Nodes
pub mod Inner
pub mod Expressions
pub mod Specifiers
pub mod Declarators
pub mod Depth
