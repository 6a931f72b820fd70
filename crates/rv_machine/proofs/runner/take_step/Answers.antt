-- A stretch of one instruction, or of none and a call, is a step.
use Rattle.std.proofs.Common.{ap, ◌<◌}
use Rattle.std.specs.Prelude.{is_some}
use Rattle.rv_machine.proofs.Runs.{one_step, first_step}
use Rattle.rv_machine.proofs.runner.take_step.Goals as goal

pub returns-in-None-clause-step : goal.returns-in-None-clause-step
returns-in-None-clause-step g c = one_step c.args.machine.now.text c.advance.result.steps c.args.machine.now.state c.advance.new.self.state (g.R.Source.left c.args.input.now) (g.W.Sink.held c.args.out.now) (g.R.Source.faults c.args.input.now) (g.W.Sink.faults c.args.out.now) (c.advance.ensures.all (ap is_some c.in-None.is)) c.advance.ensures.moves

pub returns-in-Some-clause-step : goal.returns-in-Some-clause-step
returns-in-Some-clause-step g c = first_step c.args.machine.now.text c.advance.new.self.text c.advance.result.steps c.args.machine.now.state c.advance.new.self.state c.advance.result.stop c.in-Some.stop (g.R.Source.left c.args.input.now) (g.W.Sink.held c.args.out.now) (g.R.Source.faults c.args.input.now) (g.W.Sink.faults c.args.out.now) c.call.result _ (let fewer : c.advance.result.steps < 1 = c.advance.ensures.some (ap is_some c.in-Some.is) in fewer) c.advance.ensures.moves c.advance.ensures.text c.in-Some.is c.advance.ensures.stop c.call.ensures.acts
