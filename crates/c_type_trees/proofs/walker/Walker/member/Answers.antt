-- `member` of src/members.rt: what the check leaves open of its proof.
-- A declaration of members.
use Rattle.std.proofs.Common.{map}
use Rattle.std.specs.Prelude.{false}
use Rattle.c_tree.specs.declared.specifier.Member.{out-Member}
use Rattle.c_typing.specs.Declarators.{specifiers_row, one_member}
use Rattle.c_typing.specs.Trees.{specifier_typing, member_declarator_typing, member_typing-is}
use Rattle.c_type_trees.specs.Lists.{all_in_row}
use Rattle.c_type_trees.proofs.Arms.{then_walk}
use Rattle.c_type_trees.proofs.walker.Walker.member.Goals as goal

pub returns : goal.returns
returns g c =
    let node = out-Member c.args.tree.now in
    rw (member_typing-is c.args.tree.now)
    (then_walk (specifiers_row false (map specifier_typing node.specifiers)) (λ b. all_in_row (map (one_member b) (map member_declarator_typing node.declarators))) c.args.around.now _ _ _ _ _ (rw c.as_slice.ensures at c.in_ok-basis.ensures) (rw c.as_slice-2.ensures at c.member_declarators-all.ensures))
