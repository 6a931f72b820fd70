-- What acts come to in records, what they cost, and the words that follow.
pub mod Weights
pub mod Costs
pub mod Sizes
pub mod Laws
