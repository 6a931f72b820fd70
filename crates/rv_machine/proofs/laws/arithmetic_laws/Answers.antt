-- The laws of rows that compute.
use Rattle.rv_machine.specs.Laws.Arithmetic.{effect-registers, effect-immediate}
use Rattle.rv_machine.proofs.laws.arithmetic_laws.Goals as goal

pub returns-clause-registers : goal.returns-clause-registers
returns-clause-registers c = effect-registers

pub returns-clause-immediate : goal.returns-clause-immediate
returns-clause-immediate c = effect-immediate
