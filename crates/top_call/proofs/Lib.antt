-- Lemmas of this crate.
pub mod Tells
pub mod Runs
pub mod FirstForms
pub mod Sources
