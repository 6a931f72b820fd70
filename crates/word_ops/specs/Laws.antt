-- Laws of the definitions beside this file, by subject.
-- No contract cites these files: they hold proofs.
pub mod Lists
pub mod Operations
pub mod Widths
pub mod Regions
pub mod Accesses
pub mod Loads
pub mod MayLoads
pub mod Fading
pub mod Values
pub mod Words
pub mod Addresses
pub mod Runs
pub mod Clock
pub mod Depth
pub mod Outcomes
pub mod FadedStores
pub mod Bytes
pub mod Pointers
