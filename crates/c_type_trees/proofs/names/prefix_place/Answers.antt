-- `prefix_place` of src/names.rt: what the check leaves open of its proof.
-- The place of the first token of a prefix.
use Rattle.std.proofs.Common.{refl}
use Rattle.c_typing.specs.Trees.{prefix_typing-Cast, prefix_typing-Operator, prefix_typing-Sizeof}
use Rattle.c_type_trees.proofs.names.prefix_place.Goals as goal

pub returns-in-Operator : goal.returns-in-Operator
returns-in-Operator c = rw (c.in-Operator.is, prefix_typing-Operator) refl

pub returns-in-Sizeof : goal.returns-in-Sizeof
returns-in-Sizeof c = rw (c.in-Sizeof.is, prefix_typing-Sizeof) refl

pub returns-in-Cast : goal.returns-in-Cast
returns-in-Cast c = rw (c.in-Cast.is, prefix_typing-Cast) refl
