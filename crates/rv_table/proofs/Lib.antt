-- Lemmas of this crate.
pub mod Choice
