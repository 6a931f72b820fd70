-- Laws of the definitions beside this file.
-- No contract cites these files: they hold proofs.
pub mod Congruence
pub mod Related
pub mod Clock
pub mod Depth
pub mod OperatorKinds
pub mod ValueKinds
pub mod CallKinds
pub mod Equations
pub mod StatementEquations
pub mod Names
