-- Functions laid out in a text, with their records, and the runs of both. Each file after those that it cites.
pub mod Addresses
pub mod Text
pub mod Records
pub mod Stack
pub mod Memory
pub mod Moments
pub mod Runs
pub mod Examples
pub mod Laws
