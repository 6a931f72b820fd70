-- `declared_type` of src/walker.rt: what the check leaves open of its proof.
-- The type that a declarator makes of another one (C11 6.7.6p4, p5); the place stands for the name where there is none.
use Rattle.std.proofs.Common.{◌≡◌}
use Rattle.c_typing.specs.Declarators.{name_place}
use Rattle.c_typing.specs.Trees.{declarator_typing}
use Rattle.c_type_trees.proofs.Arms.{declared}
use Rattle.c_type_trees.proofs.walker.Walker.declared_type.Goals as goal

pub returns : goal.returns
returns g c =
    let place : c.name_place-place.result ≡ name_place (declarator_typing c.args.tree.now).name c.args.place = cc in
    declared (declarator_typing c.args.tree.now) c.args.defining c.args.place c.args.basis c.args.around.now _ _ _ _ _ c.in-Ok.ensures (rw place at c.derive_if_both.ensures)
