-- The steps so far all went on.
use Rattle.std.proofs.Common.{◌≡◌, ◌-◌, ◌≤◌}
use Rattle.rv_machine.specs.Run.{Went, world}
use Rattle.rv_machine.proofs.runner.run_steps.Given as goal

abbrev pub invariant-loop-rest : goal.invariant-loop-rest
invariant-loop-rest g l = record {
  went : Went l.fn.machine.text (l.fn.steps - l.rest) (world l.fn.machine.state (g.R.Source.left l.fn.input) (g.W.Sink.held l.fn.out) (g.R.Source.faults l.fn.input) (g.W.Sink.faults l.fn.out)) (world l.machine.state (g.R.Source.left l.input) (g.W.Sink.held l.out) (g.R.Source.faults l.input) (g.W.Sink.faults l.out));
  text : l.machine.text ≡ l.fn.machine.text;
  bound : l.rest ≤ l.fn.steps;
}

abbrev pub decreases-loop-rest : goal.decreases-loop-rest
decreases-loop-rest g l = l.rest
