-- What the grammar of C11 6.5 to 6.7 says of tokens, as functions on lists and as productions; each file stands behind
-- those that it cites. `Laws` holds proofs alone.
pub mod Punctuators
pub mod Input
pub mod Read
pub mod Examples
pub mod Ending
pub mod Fronts
pub mod Productions
pub mod Laws
