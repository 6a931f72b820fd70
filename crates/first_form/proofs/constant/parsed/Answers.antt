-- A text that is no number is not the digits of one.
use Rattle.std.proofs.Common.{sym, subst, ◌∙◌}
use Rattle.std.specs.Str.{IsUtf8}
use Rattle.first_form.proofs.Forms.{decimal_utf8, parsed_decimal}
use Rattle.first_form.proofs.constant.parsed.Goals as goal

pub returns-in-Ok : goal.returns-in-Ok
returns-in-Ok c = λ n h e. c.ok.ensures.value ∙ parsed_decimal n c.in-Ok.text.now c.parse.result h (c.in-Ok.ensures.cases.0 ∙ e) c.parse.ensures.value.0

pub returns-in-Err : goal.returns-in-Err
returns-in-Err c = λ n h e. absurd (c.in-Err.ensures.cases.0 (subst IsUtf8 (sym e) (decimal_utf8 n h)))
