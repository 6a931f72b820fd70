-- The definitions of this crate, each file behind those that it cites; `Laws` holds proofs alone.
pub mod Code
pub mod Places
pub mod Operators
pub mod Expressions
pub mod Objects
pub mod Statements
pub mod Functions
pub mod Added
pub mod Examples
pub mod Laws
