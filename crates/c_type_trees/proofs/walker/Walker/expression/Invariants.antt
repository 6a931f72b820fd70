-- `expression` of src/expressions.rt: what holds in its loop, and why that ends.
-- What typing makes of an expression.
use Rattle.c_tree.specs.declared.expression.Expr.{size-Expr}
use Rattle.c_typing.specs.Scopes.{◌>>=◌}
use Rattle.c_typing.specs.Trees.{expr_typing}
use Rattle.c_type_trees.specs.Operands.{behind_all}
use Rattle.c_type_trees.proofs.After.{Same}
use Rattle.c_type_trees.proofs.walker.Walker.expression.Given as goal

abbrev pub invariant-loop-operand : goal.invariant-loop-operand
invariant-loop-operand g l = Same (expr_typing l.fn.tree).typed ((expr_typing l.innermost).typed >>= behind_all l.begun)

abbrev pub decreases-loop-operand : goal.decreases-loop-operand
decreases-loop-operand g l = size-Expr l.innermost
