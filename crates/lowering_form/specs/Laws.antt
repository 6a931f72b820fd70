-- Laws of the definitions, by subject.
pub mod Expressions
pub mod Statements
pub mod Added
pub mod Behind
