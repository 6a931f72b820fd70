-- Where a part does not fit, no form has these lexemes.
use Rattle.first_form.proofs.Forms.{if_err_so, unit_unfit, unfits_so}
use Rattle.first_form.proofs.form.read_unit.Goals as goal

pub returns-in_err-status-clause-unfit : goal.returns-in_err-status-clause-unfit
returns-in_err-status-clause-unfit c =
    if_err_so c.from_residual-in_err-status.result c.in_err-status.field-0.0 _ c.from_residual-in_err-status.ensures.1
    (unfits_so _ (λ unfit. unit_unfit c.in_ok-declared.declared c.in_ok-puts.puts.items c.args.cursor.now c.read_head.new.cursor c.read_puts_if.new.cursor
    c.in_ok-declared.ensures.taken c.in_ok-puts.ensures.taken c.in_ok-puts.ensures.small c.in_ok-puts.ensures.over unfit)
    c.in_err-status.ensures.unfit)
