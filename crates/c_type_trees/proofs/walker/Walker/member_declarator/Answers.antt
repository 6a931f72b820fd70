-- `member_declarator` of src/members.rt: what the check leaves open of its proof.
-- A member's declarator.
use Rattle.c_tree.specs.declared.specifier.MemberDeclarator.{out-MemberDeclarator}
use Rattle.c_typing.specs.Trees.{declarator_typing, member_declarator_typing-is}
use Rattle.c_type_trees.proofs.Arms.{membered}
use Rattle.c_type_trees.proofs.walker.Walker.member_declarator.Goals as goal

pub returns : goal.returns
returns g c =
    let d = declarator_typing (out-MemberDeclarator c.args.tree.now).declarator in
    rw (member_declarator_typing-is c.args.tree.now)
    (membered c.args.basis.now d c.args.around.now _ _ _ _ _ (rw c.in_ok-basis.ensures at c.in_ok-ctype.ensures) (rw c.name.ensures at c.member_named.ensures))
