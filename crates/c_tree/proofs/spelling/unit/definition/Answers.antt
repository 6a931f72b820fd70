use Rattle.std.proofs.Common.{append_assoc}
use Rattle.c_tree.proofs.Appends.{told-append}
use Rattle.c_tree.proofs.spelling.unit.definition.Goals as goal

pub returns : goal.returns
returns g c = rw (c.in_ok-block.ensures, c.in_ok-declarator.ensures, c.in_ok-specifiers.ensures, c.as_slice.ensures) (simp (told-append g.S.Taker.shown, append_assoc))
