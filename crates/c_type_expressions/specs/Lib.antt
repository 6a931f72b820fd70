-- The words that the contracts of the rows of expressions cite,
-- beside those of c_typing.
pub mod Told
pub mod Prefixes
pub mod Lvalues
pub mod Calls
pub mod Chains
pub mod Assignments
pub mod Preceded
