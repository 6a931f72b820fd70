-- What the grammar of C11 6.7.9, 6.8 and 6.9 says of tokens, as functions on lists and as productions; each file stands
-- behind those that it cites. `Laws` holds proofs alone.
pub mod Keywords
pub mod Read
pub mod Examples
pub mod Sentences
pub mod Laws
