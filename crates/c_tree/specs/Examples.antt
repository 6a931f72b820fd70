-- Small trees, and what the definitions say of them.
pub mod Built
pub mod Expressions
pub mod Declared
pub mod Declarators
pub mod Branching
pub mod Statements
pub mod Units
