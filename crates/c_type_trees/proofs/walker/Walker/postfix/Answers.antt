-- `postfix` of src/suffixes.rt: what the check leaves open of its proof.
-- An operand and the suffixes behind it; a name directly before the `(` of a call is that of a function (C11 6.5.2.2p1).
use Rattle.std.proofs.Common.{sym, map}
use Rattle.c_typing.specs.Trees.{expr_typing, suffix_typing}
use Rattle.c_type_trees.proofs.Arms.{postfix_plain, postfix_called}
use Rattle.c_type_trees.proofs.walker.Walker.postfix.Goals as goal

pub returns-in-Some : goal.returns-in-Some
returns-in-Some g c =
    postfix_called (expr_typing c.args.operand.now) (expr_typing c.args.operand.now).callee (map suffix_typing c.args.all.now) c.in-Some.function.now c.args.around.now _ _ _ (sym c.in-Some.ensures) c.call_first.ensures

pub returns-in_ok-value-in-None : goal.returns-in_ok-value-in-None
returns-in_ok-value-in-None g c =
    postfix_plain (expr_typing c.args.operand.now) (expr_typing c.args.operand.now).callee (map suffix_typing c.args.all.now) c.args.around.now _ _ _ _ _ (sym c.in-None.ensures) c.in_ok-value-in-None.ensures c.suffixes.ensures
