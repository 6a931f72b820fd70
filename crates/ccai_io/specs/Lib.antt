-- The definitions that contracts of this crate cite.
pub mod Outside
pub mod Calls
pub mod Table
pub mod MemShelf
pub mod Sure
pub mod FileShelf
pub mod Coded
pub mod MemSource
pub mod MemSink
