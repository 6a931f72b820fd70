-- `init_declarators_row` of src/declarations.rt: what the check leaves open of its proof.
-- The declarators of a declaration, in order: what one declares is visible in the next (C11 6.2.1p7).
use Rattle.std.proofs.Common.{◌≡◌, ◌+◌, ◌<◌, refl, sym, subst, Option, length, drop, map, arith}
use Rattle.std.specs.Option.{option_copied}
use Rattle.c_typing.specs.Declarations as spec
use Rattle.c_type_walk.specs.Walks.{fixed}
use Rattle.c_type_declarations.specs.Rows.{both}
use Rattle.c_type_declarations.proofs.InTurn.{SoFar, further_each}
use Rattle.c_type_declarations.proofs.declarations.init_declarators_row.Goals as goal

pub loop-one-preserved : goal.loop-one-preserved
loop-one-preserved c =
    let basis = option_copied c.args.basis in
    let list = c.args.list.now in
    let i = c.loop-one.one-index in
    let around = fixed c.args.around.now in
    let below : i < length list = omega arith in
    let both_made : c.in_ok-made.made ≡ both c.loop-one.made c.in-Ok.next = c.in_ok-made.ensures in
    let P : Option spec.Made → Type 0 = λ made.
    SoFar (spec.init_declarators_row c.args.first basis (map spec.beginning_of list)) (spec.init_declarators_row c.args.first basis (map spec.beginning_of (drop (i + 1) list)))
    around c.args.found.now c.init_declarator_row.new.found made in
    subst P (sym both_made) (further_each (spec.init_declarators_row c.args.first basis) (spec.init_declarator_row c.args.first basis) (λ d ds. refl)
    spec.beginning_of list i c.one-item.result below c.one-item.is around c.args.found.now c.loop-one.found c.init_declarator_row.new.found
    c.loop-one.made c.in-Ok.next c.loop-one.invariant c.in-Ok.ensures)
