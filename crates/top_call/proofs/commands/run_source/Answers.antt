-- What a source comes to is what its form says.
use Rattle.std.proofs.Common.{◌≤◌, ◌^◌, length, arith}
use Rattle.top_call.proofs.Sources.{source_runs}
use Rattle.top_call.proofs.commands.run_source.Goals as goal

pub returns-in-Ok : goal.returns-in-Ok
returns-in-Ok g c =
    let small : length c.args.bytes.now ≤ 2 ^ 24 = omega arith in
    source_runs c.args.bytes.now (record { declared = c.in-Ok.ensures.form.0; puts = c.in-Ok.form.puts; status = c.in-Ok.form.status }) _ _ _ small c.in-Ok.ensures.form.1 c.run_form.ensures
