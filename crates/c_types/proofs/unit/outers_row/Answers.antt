-- `outers_row` of src/unit.rt: what the check leaves open of its proof.
-- Declarations and definitions, in order.
use Rattle.std.proofs.Common.{◌≡◌, ◌+◌, ◌<◌, refl, sym, subst, List, Option, length, drop, map, arith}
use Rattle.c_tree.specs.declared.typed.unit.TFunction.{TFunction}
use Rattle.c_typing.specs.Units as spec
use Rattle.c_type_walk.specs.Walks.{fixed}
use Rattle.c_type_declarations.specs.Rows.{both}
use Rattle.c_type_declarations.proofs.InTurn.{SoFar, further_each}
use Rattle.c_types.proofs.unit.outers_row.Goals as goal

pub loop-one-preserved : goal.loop-one-preserved
loop-one-preserved c =
    let list = c.args.list.now in
    let i = c.loop-one.one-index in
    let around = fixed c.args.around.now in
    let below : i < length list = omega arith in
    let both_made : c.in_ok-made.made ≡ both c.loop-one.made c.in_ok-next.next = c.in_ok-made.ensures in
    let P : Option (List TFunction) → Type 0 = λ made.
    SoFar (spec.outers_row (map spec.outer_of list)) (spec.outers_row (map spec.outer_of (drop (i + 1) list))) around c.args.found.now c.outer_row.new.found made in
    subst P (sym both_made) (further_each spec.outers_row spec.outer_row (λ x xs. refl) spec.outer_of list i c.one-item.result below c.one-item.is around
    c.args.found.now c.loop-one.found c.outer_row.new.found c.loop-one.made c.in_ok-next.next c.loop-one.invariant c.in_ok-next.ensures)
