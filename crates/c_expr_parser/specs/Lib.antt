-- What the contracts of this crate cite.
-- Calls has what the public calls ensure, the others what the productions do.
pub mod Numbers
pub mod Reads
pub mod Wanted
pub mod Nests
pub mod Parts
pub mod Calls
