-- The definitions of this crate, each file after those that it cites.
pub mod Interval
pub mod Bits
pub mod Congruence
pub mod Meets
pub mod Narrower
pub mod Records
pub mod Walk
pub mod Scope
pub mod Graphs
pub mod Leads
pub mod Best
pub mod Examples
pub mod Instances
pub mod Laws
