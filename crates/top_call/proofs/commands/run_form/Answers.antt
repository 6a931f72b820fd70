-- The image of a source puts out what the source says.
use Rattle.top_call.proofs.Sources.{constants_run}
use Rattle.top_call.proofs.commands.run_form.Goals as goal

pub returns-in-Ok : goal.returns-in-Ok
returns-in-Ok g c = constants_run c.args.form.now.puts c.args.form.now.status c.in-Ok.image _ _ _ _ c.in-Ok.ensures.value c.len.ensures c.requires c.run_machine.ensures
