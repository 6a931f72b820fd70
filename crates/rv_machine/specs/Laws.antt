-- Laws of the definitions beside this file, by subject: proofs, which contracts cite in the carriers of src/laws.rt alone.
pub mod After
pub mod Bytes
pub mod Cells
pub mod Registers
pub mod Arithmetic
pub mod Instructions
pub mod Sound
pub mod Reading
