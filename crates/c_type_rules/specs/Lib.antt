-- The words that the contracts of rules on types and operands cite,
-- beside those of c_typing.
pub mod Shapes
pub mod Qualifiers
pub mod Compatibility
pub mod Composites
pub mod Constants
pub mod Values
pub mod Operators
pub mod Pointers
