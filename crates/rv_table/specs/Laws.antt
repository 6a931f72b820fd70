-- Laws of the table: words and instructions undo each other, and no two rows match one word. They are proofs, which no
-- contract cites: the clauses of `decode` say what they come to.
pub mod Masks
pub mod Immediates
pub mod Formats
pub mod Search
pub mod Uniqueness
pub mod Decoding
