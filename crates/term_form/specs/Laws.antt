-- Laws of the definitions beside this file, by subject.
-- No contract cites these files: they hold proofs.
pub mod Loads
pub mod Walks
pub mod Leads
