-- When a typed unit hangs together.
pub mod Weights
pub mod Statements
pub mod Units
pub mod Lists
pub mod Examples
