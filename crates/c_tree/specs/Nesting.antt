-- How many constructs are open at the deepest token of a tree: brackets, each `?` with its `:`, and bodies of
-- `if`, `else`, `while`, `do` and `for` that are no blocks. A bracket is inside itself.
pub mod OfTrees
pub mod Trees
pub mod OfInitialisers
pub mod Initialisers
pub mod Declarations
pub mod OfStatements
pub mod Statements
pub mod Units
