-- The instructions so far led here.
use Rattle.rv_machine.specs.State.{state}
use Rattle.rv_machine.specs.Decoded.{MovesIn}
use Rattle.rv_machine.proofs.stretch.run_stretch.Given as goal

abbrev pub invariant-loop-done : goal.invariant-loop-done
invariant-loop-done l = MovesIn l.code l.done (state l.fn.registers l.fn.pc l.base l.fn.memory) (state l.registers l.pc l.base l.memory)
