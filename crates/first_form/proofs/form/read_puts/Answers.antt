-- A statement more was taken.
use Rattle.std.proofs.Common.{ap, ◌∙◌, ◌++◌}
use Rattle.std.specs.List.{flat_map}
use Rattle.first_form.specs.Form.{put_statement}
use Rattle.first_form.proofs.Forms.{if_err_so, puts_unfit, unfits_so}
use Rattle.first_form.proofs.form.read_puts.Goals as goal

pub returns-in_err-value-clause-unfit : goal.returns-in_err-value-clause-unfit
returns-in_err-value-clause-unfit c =
    if_err_so c.from_residual.result c.in_err-value.field-0.0 _ c.from_residual.ensures.1
    (unfits_so _ (λ unfit. puts_unfit c.loop-cursor.puts.items c.args.cursor.now c.goes.new.self c.loop-cursor.invariant.small
    (c.loop-cursor.invariant.taken ∙ ap (λ l. flat_map put_statement c.loop-cursor.puts.items ++ l) c.loop-cursor-test.ensures.taken) unfit)
    c.in_err-value.ensures.unfit)
