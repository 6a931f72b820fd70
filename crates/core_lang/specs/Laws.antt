-- Laws of the definitions beside this file, by subject.
-- No contract cites these files: they hold proofs.
pub mod Lists
pub mod Clock
pub mod Depth
pub mod WellFormed
pub mod Counts
pub mod Following
pub mod Keeping
pub mod Variables
pub mod Regions
pub mod Copies
pub mod Filling
pub mod Units
pub mod Reads
pub mod Locals
pub mod Pointers
pub mod Addresses
pub mod Statics
pub mod Returns
pub mod Layouts
pub mod Outcomes
