-- What the contracts of this crate cite.
-- Units has what `parse` ensures, the others what the productions do.
pub mod Reads
pub mod Kinds
pub mod Wanted
pub mod Nests
pub mod Beside
pub mod Parts
pub mod Declares
pub mod Units
