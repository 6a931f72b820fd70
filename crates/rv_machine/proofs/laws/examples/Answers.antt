-- The examples, each by computation.
use Rattle.rv_machine.specs.Examples.Programs.{programs_end, steps_go, steps_spent}
use Rattle.rv_machine.specs.Examples.Rows.{computes, goes}
use Rattle.rv_machine.specs.Examples.Words.{words_read}
use Rattle.rv_machine.proofs.laws.examples.Goals as goal

pub returns-clause-computations : goal.returns-clause-computations
returns-clause-computations c = computes

pub returns-clause-branches : goal.returns-clause-branches
returns-clause-branches c = goes

pub returns-clause-programs : goal.returns-clause-programs
returns-clause-programs c = programs_end

pub returns-clause-spent : goal.returns-clause-spent
returns-clause-spent c = steps_spent

pub returns-clause-steps : goal.returns-clause-steps
returns-clause-steps c = steps_go

pub returns-clause-words : goal.returns-clause-words
returns-clause-words c = words_read
