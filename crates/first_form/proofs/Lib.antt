-- Lemmas of this crate.
pub mod Lexemes
pub mod Forms
pub mod Programs
