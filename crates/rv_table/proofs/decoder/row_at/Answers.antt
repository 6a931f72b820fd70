-- The row that a word matches is the candidate, or there is none.
use Rattle.std.proofs.Common.{sym, ◌∙◌, arith}
use Rattle.rv_table.proofs.Choice.{row_of-candidate, row_of-refused, row_of-unlisted}
use Rattle.rv_table.proofs.decoder.row_at.Goals as goal

pub returns-in-Some : goal.returns-in-Some
returns-in-Some c = sym (row_of-candidate c.args.word c.in-Some.row (sym c.if-is_match.ensures))

pub returns-in_default : goal.returns-in_default
returns-in_default c = sym (row_of-refused c.args.word c.in-Some.row (omega arith) (sym c.candidate.ensures ∙ c.in-Some.is) (sym c.if-is_match.ensures))

pub returns-in_default-2 : goal.returns-in_default-2
returns-in_default-2 c = sym (row_of-unlisted c.args.word (omega arith) (sym c.candidate.ensures ∙ c.in_default.is))
