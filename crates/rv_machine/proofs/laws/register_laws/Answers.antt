-- The laws of registers.
use Rattle.rv_machine.specs.Laws.Registers.{register_in-written, register_in-other, register_in-zero, with_register-zero}
use Rattle.rv_machine.proofs.laws.register_laws.Goals as goal

pub returns-clause-read : goal.returns-clause-read
returns-clause-read c = register_in-written

pub returns-clause-other : goal.returns-clause-other
returns-clause-other c = register_in-other

pub returns-clause-zero : goal.returns-clause-zero
returns-clause-zero c = λ registers word. (register_in-zero registers, with_register-zero registers word)
