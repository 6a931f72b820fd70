pub mod Composites
pub mod First
