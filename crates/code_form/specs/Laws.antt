-- Laws of the definitions beside this file, by subject.
-- No contract cites these files: they hold proofs.
pub mod Patterns
pub mod Constants
pub mod Emitted
pub mod Examples
