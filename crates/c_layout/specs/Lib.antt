-- Sizes, layouts of structures and values of constants, each file behind those that it cites. `Laws` holds proofs and
-- `Examples` closed cases.
pub mod Tags
pub mod Sizes
pub mod Structures
pub mod Constants
pub mod ConstantNodes
pub mod Laws
pub mod Examples
