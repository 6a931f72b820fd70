-- Closed examples, each computed from the definitions alone: a law of each says what the run of a unit comes to. The units are
-- typed trees made by hand; the line of C above each says what it stands for.
pub mod Trees
pub mod Runs
pub mod Undefined
pub mod Operators
pub mod Statements
pub mod Clock
