-- The table of the instructions, what words and instructions are to each other, and the laws of both.
pub mod Table
pub mod Fields
pub mod Instruction
pub mod Candidate
pub mod Laws
