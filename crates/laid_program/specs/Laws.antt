-- Laws of the definitions beside this file.
-- No contract cites these files: they hold proofs.
pub mod Near
pub mod Examples
