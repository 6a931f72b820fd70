-- Closed cases of typing, worked out by the definition: what each kind of tree gives, and which fault a source has first.
-- No contract cites them.
pub mod Read
pub mod Expressions
pub mod Operators
pub mod Declarators
pub mod Units
pub mod Statements
