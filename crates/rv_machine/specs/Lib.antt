-- What a machine is, what its steps and runs do, and the laws of both.
pub mod State
pub mod Arithmetic
pub mod Bytes
pub mod Effect
pub mod Step
pub mod Run
pub mod Start
pub mod After
pub mod Reading
pub mod Decoded
pub mod Pc
pub mod Pause
pub mod Sound
pub mod Operations
pub mod Laws
pub mod Examples
