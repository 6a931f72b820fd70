-- `expression_item` of src/expressions.rt: what the check leaves open of its proof.
-- An expression in a list, and the part at which it stands: it initialises that part, or the first one of it that it takes (C11 6.7.9p20).
use Rattle.std.proofs.Common.{sym, ◌∙◌}
use Rattle.c_typing.specs.Trees.{expr_typing}
use Rattle.c_type_initialisers.specs.Stacks.{stack, placed}
use Rattle.c_type_initialisers.proofs.Items.{value_item}
use Rattle.c_type_initialisers.proofs.expressions.expression_item.Goals as goal

pub returns : goal.returns
returns c =
    value_item (expr_typing c.args.tree.now) c.first_token-first.result c.in-Ok.literal (stack c.args.frames.now) c.args.piece
    c.args.around.now c.args.found.now c.expr.new.found c.expression_placed-2.new.found c.in-Ok-expr.value (placed c.expression_placed-2.result c.expression_placed-2.new.frames)
    c.first_token-first.ensures c.in-Ok.ensures (sym (c.in-Ok-is_string_for.ensures c.in-Ok.literal c.is_some.ensures) ∙ c.if-is_string.false)
    c.in-Ok-expr.ensures c.expression_placed-2.ensures
