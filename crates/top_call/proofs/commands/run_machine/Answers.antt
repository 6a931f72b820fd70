-- The run of a machine is that of its image.
use Rattle.top_call.specs.Drive.{streams}
use Rattle.top_call.proofs.Sources.{machine_ran}
use Rattle.top_call.proofs.commands.run_machine.Goals as goal

pub returns-in-Ok : goal.returns-in-Ok
returns-in-Ok g c =
    machine_ran c.args.image.now c.in-Ok.machine c.args.steps
    (streams g.R.Source g.W.Sink c.args.input.now c.args.out.now)
    (streams g.R.Source g.W.Sink c.run.new.input c.run.new.out)
    c.run.result c.run.new.machine.state _ c.in-Ok.ensures c.answer_of_end.ensures c.run.ensures.run c.run.ensures.told
