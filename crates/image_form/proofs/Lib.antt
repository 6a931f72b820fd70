-- Lemmas of this crate.
pub mod Chain
pub mod Right
pub mod Whole
pub mod Numbers
pub mod CodeTables
pub mod Rows
pub mod Again
pub mod Listed
pub mod Laws
pub mod Written
pub mod Put
