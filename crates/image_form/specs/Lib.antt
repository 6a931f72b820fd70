-- The form of an image as bytes, its limits, and what bytes of the form hold.
pub mod Limits
pub mod Codes
pub mod Words
pub mod Bytes
pub mod Rightness
pub mod Form
pub mod Contents
pub mod Checked
pub mod Header
pub mod Laws
pub mod Examples
