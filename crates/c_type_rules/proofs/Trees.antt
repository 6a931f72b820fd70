-- Trees whose value is dropped:
-- the drop of a comma reaches its last operand.
use Rattle.std.proofs.Common.{◌≡◌, refl, List}
use Rattle.c_tree.specs.declared.typed.types.CType.{CType}
use Rattle.c_tree.specs.declared.typed.expression.TExpr.{TExpr}
use Rattle.c_tree.specs.declared.typed.expression.TExpr.TheVariants as x
use Rattle.c_typing.specs.Types.{void}
use Rattle.c_typing.specs.Operands.{dropped}

pub dropped-Comma : (t : CType) (ds : List TExpr) (a : TExpr) → dropped (x.Comma t ds a) ≡ x.Comma void ds (dropped a)
unfolding Rattle.c_tree.specs.declared.typed.expression.Step.TheBlock.hidden-the_row-TExpr-0 denote.Hole.Carrier.hidden
dropped-Comma t ds a = refl
