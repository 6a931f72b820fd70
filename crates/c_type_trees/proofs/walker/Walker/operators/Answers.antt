-- `operators` of src/operators.rt: what the check leaves open of its proof.
-- Operators of one level behind their first operand (C11 6.5.5 to 6.5.14).
use Rattle.std.proofs.Common.{map}
use Rattle.c_typing.specs.Trees.{next_typing}
use Rattle.c_type_trees.proofs.Nodes.{level_plain}
use Rattle.c_type_trees.proofs.walker.Walker.operators.Goals as goal

pub returns-in-Or : goal.returns-in-Or
returns-in-Or g c =
    rw c.in-Or.is c.logical.ensures

pub returns-in-And : goal.returns-in-And
returns-in-And g c =
    rw c.in-And.is c.logical-in-And.ensures

pub returns-in_default : goal.returns-in_default
returns-in_default g c =
    rw (level_plain c.args.level c.args.first (map next_typing c.args.rest.now) c.in_default.not-Or c.in_default.not-And) c.binaries.ensures
