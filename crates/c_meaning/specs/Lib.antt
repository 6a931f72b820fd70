-- The definitions of this crate, each file behind those that it cites. What contracts say is told by these; `Laws` holds
-- proofs alone.
pub mod Environment
pub mod Operators
pub mod Expressions
pub mod Statements
pub mod Units
pub mod Examples
pub mod Kinds
pub mod Laws
pub mod Instances
