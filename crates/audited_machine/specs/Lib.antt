-- The account of a run, and the machine that keeps it. Each file after those that it cites.
pub mod Functions
pub mod Account
pub mod Blocks
pub mod Terms
pub mod Effects
pub mod Arrival
pub mod Settling
pub mod Audit
pub mod Examples
pub mod Laws
