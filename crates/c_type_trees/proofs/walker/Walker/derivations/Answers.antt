-- `derivations` of src/declarators.rt: what the check leaves open of its proof.
-- The derivations of a declarator, each applied to the type before it; the parameters of the part beside the name are kept in scope where it is that of a definition.
use Rattle.std.proofs.Common.{◌≡◌, map}
use Rattle.std.specs.Prelude.{◌&&◌, not, is_some}
use Rattle.c_tree.specs.declared.declarator.Declarator.{out-Declarator}
use Rattle.c_typing.specs.Trees.{declarator_typing-is, direct_typing, declarator_suffix_typing}
use Rattle.c_type_trees.proofs.Nodes.{derived}
use Rattle.c_type_trees.proofs.walker.Walker.derivations.Goals as goal

pub returns : goal.returns
returns g c =
    let node = out-Declarator c.args.tree.now in
    let inside : c.defines_inside-inside.result ≡ (is_some (direct_typing node.direct).makes && c.args.defining) = cc in
    let beside : c.defines_beside-beside.result ≡ (not (is_some (direct_typing node.direct).makes) && c.args.defining) = cc in
    rw (declarator_typing-is c.args.tree.now)
    (derived (direct_typing node.direct) (map declarator_suffix_typing node.suffixes) node.pointers c.args.defining _ _ _ _ c.parts_if_both.result c.args.around.now _ _ c.suffixes_parts.new.found
    inside beside c.in_ok-inner.ensures (rw c.as_slice.ensures at c.in-Ok.ensures) (rw c.as_slice-2.ensures at c.parts_if_both.ensures))
