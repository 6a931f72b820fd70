-- `declaration_row` of src/declarations.rt: what the check leaves open of its proof.
-- A declaration, by the statements that it comes to: initial values of automatic objects.
use Rattle.std.proofs.Common.{map}
use Rattle.std.specs.Option.{option_copied}
use Rattle.c_typing.specs.Declarators.{specifiers_row}
use Rattle.c_typing.specs.Trees.{specifier_typing}
use Rattle.c_typing.specs.Declarations as spec
use Rattle.c_type_walk.specs.Walks.{Gave, fixed}
use Rattle.c_type_declarations.proofs.Declared.{stands_alone, declaration_says}
use Rattle.c_type_declarations.proofs.declarations.declaration_row.Goals as goal

pub returns : goal.returns
returns c =
    let tree = c.args.tree.now in
    let around = fixed c.args.around.now in
    let basis : Gave (specifiers_row c.is_empty-alone.result (map specifier_typing c.as_slice-list.result.now) around c.args.found.now.state) c.args.found.now c.specifiers.new.found c.in_ok-basis.basis =
    c.in_ok-basis.ensures in
    let made : Gave (spec.init_declarators_row c.first_specifier-first.result (option_copied c.as_ref.result) (map spec.beginning_of c.as_slice-declarators.result.now) around c.specifiers.new.found.state)
    c.specifiers.new.found c.init_declarators_row-made.new.found c.in-Ok.made = c.in-Ok.ensures in
    rw c.behind_any.ensures (declaration_says tree c.is_empty-alone.result around c.args.found.now c.specifiers.new.found c.init_declarators_row-made.new.found c.in_ok-basis.basis c.in-Ok.made
    (stands_alone tree.declarators c.is_empty-alone.result c.is_empty-alone.ensures)
    (rw c.as_slice-list.ensures at basis)
    (rw (c.as_ref.ensures.value, c.first_specifier-first.ensures, c.as_slice-list.ensures, c.as_slice-declarators.ensures) at made))
