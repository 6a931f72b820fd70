use Rattle.std.proofs.Common.{append_assoc}
use Rattle.c_tree.proofs.Appends.{told-append}
use Rattle.c_tree.proofs.spelling.statement.for_head.Goals as goal

pub returns-in_ok-punct-in-Expression : goal.returns-in_ok-punct-in-Expression
returns-in_ok-punct-in-Expression g c = rw (c.in-Expression.is, c.in_ok-punct-in-Expression.ensures, c.in_ok-value_at-in-Expression.ensures) (simp (told-append g.S.Taker.shown, append_assoc))
