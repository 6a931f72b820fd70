use Rattle.std.proofs.Common.{append_assoc}
use Rattle.c_tree.proofs.Appends.{told-append}
use Rattle.c_tree.proofs.spelling.statement.for_control.Goals as goal

pub returns : goal.returns
returns g c = rw (c.in_ok-punct-3.ensures, c.in_ok-value_at-2.ensures, c.in_ok-punct-2.ensures, c.in_ok-value_at.ensures, c.in_ok-for_head.ensures, c.in_ok-punct.ensures) (simp (told-append g.S.Taker.shown, append_assoc))
