-- `prefix` of src/prefixes.rt: what the check leaves open of its proof.
-- What a prefix does to the operand behind it.
use Rattle.c_typing.specs.Trees.{type_name_typing, prefix_typing-Operator, prefix_typing-Sizeof, prefix_typing-Cast}
use Rattle.c_type_trees.proofs.Nodes.{offered, cast_walked}
use Rattle.c_type_trees.proofs.walker.Walker.prefix.Goals as goal

pub returns-in-Operator : goal.returns-in-Operator
returns-in-Operator g c =
    rw (c.in-Operator.is, prefix_typing-Operator) (offered _ c.args.around.now c.args.found.now)

pub returns-in-Sizeof : goal.returns-in-Sizeof
returns-in-Sizeof g c =
    rw (c.in-Sizeof.is, prefix_typing-Sizeof) (offered _ c.args.around.now c.args.found.now)

pub returns-in_ok-ctype-in-Cast : goal.returns-in_ok-ctype-in-Cast
returns-in_ok-ctype-in-Cast g c =
    rw (c.in-Cast.is, prefix_typing-Cast)
    (cast_walked (type_name_typing c.in-Cast.tree) c.in-Cast.from _ _ c.args.around.now _ _ c.in_ok-ctype-in-Cast.ensures c.casting_if_any.ensures)
