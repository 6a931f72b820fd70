-- `typed` of src/specifying.rt: what the check leaves open of its proof.
-- The type that a specifier names, behind the specifiers before it.
use Rattle.c_typing.specs.Trees.{specifier_typing}
use Rattle.c_type_declarators.specs.Specifiers.{parts_of}
use Rattle.c_type_trees.proofs.Nodes.{named_walked}
use Rattle.c_type_trees.proofs.walker.Walker.typed.Goals as goal

pub returns : goal.returns
returns g c =
    named_walked parts_of c.args.alone (parts_of c.args.parts) (specifier_typing c.args.tree.now).specifying _ _ c.args.around.now _ _ c.in-Ok.ensures c.with_type.ensures
