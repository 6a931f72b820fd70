-- Lemmas that only this crate's functions need: that the decoded text is the text, and that stretches make
-- runs.
pub mod Slots
pub mod Program
pub mod Runs
pub mod Loading
pub mod Told
pub mod Faults
