-- `type_name` of src/walker.rt: what the check leaves open of its proof.
-- The type that a type name names (C11 6.7.7), at the operator to which it belongs.
use Rattle.std.proofs.Common.{map}
use Rattle.std.specs.Prelude.{false}
use Rattle.std.specs.Option.{option_map}
use Rattle.c_tree.specs.declared.expression.TypeName.{out-TypeName}
use Rattle.c_typing.specs.Declarators.{basis_type, specifiers_row, declared_type}
use Rattle.c_typing.specs.Trees.{specifier_typing, declarator_typing, type_name_typing-is}
use Rattle.c_type_trees.proofs.Arms.{then_walk}
use Rattle.c_type_trees.proofs.walker.Walker.type_name.Goals as goal

pub returns : goal.returns
returns g c =
    let node = out-TypeName c.args.tree.now in
    rw (type_name_typing-is c.args.tree.now)
    (then_walk (specifiers_row false (map specifier_typing node.specifiers)) (λ b. declared_type (declarator_typing node.declarator) false c.args.place (option_map basis_type b)) c.args.around.now _ _ _ _ _
    (rw c.as_slice.ensures at c.in_ok-basis.ensures) (rw c.basis_type-basis.ensures at c.declared_type.ensures))
