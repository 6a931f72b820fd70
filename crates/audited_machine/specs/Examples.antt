-- Closed audits, of images without records and with records.
pub mod Plain
pub mod Recorded
