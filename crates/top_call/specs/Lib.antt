-- What a call of the program comes to.
pub mod CommandLine
pub mod Outcome
pub mod Lines
pub mod FirstForm
pub mod Drive
pub mod Steps
