-- The laws of states that a machine can be in.
use Rattle.rv_machine.specs.Laws.Sound.{start-sound, step_of-sound, step_of-puts, after-sound, Steps-sound, Run-sound}
use Rattle.rv_machine.proofs.laws.sound_laws.Goals as goal

pub returns-clause-start : goal.returns-clause-start
returns-clause-start c = start-sound

pub returns-clause-step : goal.returns-clause-step
returns-clause-step c = step_of-sound

pub returns-clause-puts : goal.returns-clause-puts
returns-clause-puts c = step_of-puts

pub returns-clause-after : goal.returns-clause-after
returns-clause-after c = after-sound

pub returns-clause-steps : goal.returns-clause-steps
returns-clause-steps c = Steps-sound

pub returns-clause-run : goal.returns-clause-run
returns-clause-run c = Run-sound
