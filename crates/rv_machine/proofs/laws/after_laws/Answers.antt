-- The laws of a machine after a number of steps.
use Rattle.std.proofs.Common.{◌∙◌, ap}
use Rattle.rv_machine.specs.After.{next}
use Rattle.rv_machine.specs.Laws.After.{after-zero, after-suc, after-add, after-ended, after-moves, next-going}
use Rattle.rv_machine.proofs.laws.after_laws.Goals as goal

pub returns-clause-zero : goal.returns-clause-zero
returns-clause-zero c = after-zero

pub returns-clause-add : goal.returns-clause-add
returns-clause-add c = after-add

pub returns-clause-one : goal.returns-clause-one
returns-clause-one c = λ text w. after-suc text 0 w ∙ ap (next text) (after-zero text w)

pub returns-clause-going : goal.returns-clause-going
returns-clause-going c = next-going

pub returns-clause-ended : goal.returns-clause-ended
returns-clause-ended c = after-ended

pub returns-clause-moves : goal.returns-clause-moves
returns-clause-moves c = after-moves
