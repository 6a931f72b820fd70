-- A stretch and the call that ends it are steps more of the run.
use Rattle.std.proofs.Common.{◌≡◌, ◌≤◌, ◌<◌, ℕ, List, ◌-◌, sym, ◌∙◌, ap, arith}
use Rattle.std.specs.Prelude.{Option, Some, None, is_some}
use Rattle.rv_machine.specs.State.{State, Loaded}
use Rattle.rv_machine.specs.Run.{World, world, Steps, Went}
use Rattle.rv_machine.proofs.Runs.{stop_step, stretch_went, call_went, call_ended}
use Rattle.rv_machine.proofs.runner.run_steps.Goals as goal

pub returns-in-Some-ending-clause-run : goal.returns-in-Some-ending-clause-run
returns-in-Some-ending-clause-run g c =
    let fewer : c.advance-advance.result.steps < c.loop-rest.rest = c.advance-advance.ensures.some (ap is_some c.in-Some.is) in
    let start : World = world c.args.machine.now.state (g.R.Source.left c.args.input.now) (g.W.Sink.held c.args.out.now) (g.R.Source.faults c.args.input.now) (g.W.Sink.faults c.args.out.now) in
    let went = stretch_went c.args.machine.now.text c.args.steps c.loop-rest.rest c.advance-advance.result.steps c.loop-rest.invariant.bound start c.loop-rest.machine.text c.loop-rest.machine.state c.advance-advance.new.self.state (g.R.Source.left c.loop-rest.input) (g.W.Sink.held c.loop-rest.out) (g.R.Source.faults c.loop-rest.input) (g.W.Sink.faults c.loop-rest.out) (omega arith) c.loop-rest.invariant.text c.loop-rest.invariant.went c.advance-advance.ensures.moves in
    let last = stop_step c.args.machine.now.text c.advance-advance.new.self.text c.advance-advance.new.self.state c.advance-advance.result.stop c.in-Some.stop (g.R.Source.left c.loop-rest.input) (g.W.Sink.held c.loop-rest.out) (g.R.Source.faults c.loop-rest.input) (g.W.Sink.faults c.loop-rest.out) c.call.result _ (c.advance-advance.ensures.text ∙ c.loop-rest.invariant.text) c.in-Some.is c.advance-advance.ensures.stop c.call.ensures.acts in
    call_ended c.args.machine.now.text c.args.steps c.loop-rest.rest c.advance-advance.result.steps c.loop-rest.invariant.bound start _ _ c.call.result c.in-Some-ending.end fewer (sym c.ending.ensures ∙ c.in-Some-ending.is) went last

pub loop-rest-preserved-in_default-ending : goal.loop-rest-preserved-in_default-ending
loop-rest-preserved-in_default-ending g c =
    let fewer : c.advance-advance.result.steps < c.loop-rest.rest = c.advance-advance.ensures.some (ap is_some c.in-Some.is) in
    let start : World = world c.args.machine.now.state (g.R.Source.left c.args.input.now) (g.W.Sink.held c.args.out.now) (g.R.Source.faults c.args.input.now) (g.W.Sink.faults c.args.out.now) in
    let went = stretch_went c.args.machine.now.text c.args.steps c.loop-rest.rest c.advance-advance.result.steps c.loop-rest.invariant.bound start c.loop-rest.machine.text c.loop-rest.machine.state c.advance-advance.new.self.state (g.R.Source.left c.loop-rest.input) (g.W.Sink.held c.loop-rest.out) (g.R.Source.faults c.loop-rest.input) (g.W.Sink.faults c.loop-rest.out) (omega arith) c.loop-rest.invariant.text c.loop-rest.invariant.went c.advance-advance.ensures.moves in
    let last = stop_step c.args.machine.now.text c.advance-advance.new.self.text c.advance-advance.new.self.state c.advance-advance.result.stop c.in-Some.stop (g.R.Source.left c.loop-rest.input) (g.W.Sink.held c.loop-rest.out) (g.R.Source.faults c.loop-rest.input) (g.W.Sink.faults c.loop-rest.out) c.call.result _ (c.advance-advance.ensures.text ∙ c.loop-rest.invariant.text) c.in-Some.is c.advance-advance.ensures.stop c.call.ensures.acts in
    record {
      went = call_went c.args.machine.now.text c.args.steps c.loop-rest.rest c.advance-advance.result.steps c.loop-rest.invariant.bound start _ _ c.call.result fewer (sym c.ending.ensures ∙ c.in_default-ending.is) went last;
      text = c.call.ensures.text ∙ c.advance-advance.ensures.text ∙ c.loop-rest.invariant.text;
      bound = omega arith;
    }

pub loop-rest-preserved : goal.loop-rest-preserved
loop-rest-preserved g c =
    let all : c.advance-advance.result.steps ≡ c.loop-rest.rest = c.advance-advance.ensures.all (ap is_some c.in_default.is) in
    let start : World = world c.args.machine.now.state (g.R.Source.left c.args.input.now) (g.W.Sink.held c.args.out.now) (g.R.Source.faults c.args.input.now) (g.W.Sink.faults c.args.out.now) in
    record {
      went = stretch_went c.args.machine.now.text c.args.steps c.loop-rest.rest c.advance-advance.result.steps c.loop-rest.invariant.bound start c.loop-rest.machine.text c.loop-rest.machine.state c.advance-advance.new.self.state (g.R.Source.left c.loop-rest.input) (g.W.Sink.held c.loop-rest.out) (g.R.Source.faults c.loop-rest.input) (g.W.Sink.faults c.loop-rest.out) (omega arith) c.loop-rest.invariant.text c.loop-rest.invariant.went c.advance-advance.ensures.moves;
      text = c.advance-advance.ensures.text ∙ c.loop-rest.invariant.text;
      bound = omega arith;
    }
