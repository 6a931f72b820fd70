-- Instructions over operands, when they are right, and the laws of both. Each file after those that it cites.
pub mod Registers
pub mod Patterns
pub mod Instructions
pub mod Recognition
pub mod Frames
pub mod Emitted
pub mod Contents
pub mod Selected
pub mod Assigned
pub mod Examples
pub mod Laws
