-- `parts_row` of src/switches.rt: what the check leaves open of its proof.
-- The body of a `switch` from label to label.
use Rattle.std.proofs.Common.{◌≡◌, ◌∙◌, ◌+◌, ◌<◌, ◌&&◌, Bool, List, ap, true, drop, map, length, subst, sym, arith}
use Rattle.c_tree.specs.declared.typed.statement.Part.{Part}
use Rattle.c_typing.specs.Scopes.{Walk}
use Rattle.c_typing.specs.OfStatements as spec
use Rattle.c_typing.specs.Statements.{block_item_typing}
use Rattle.c_type_walk.specs.Walks.{fixed}
use Rattle.c_type_statements.specs.Statements.{parting_of}
use Rattle.c_type_statements.proofs.Left.{Left, whole}
use Rattle.c_type_statements.proofs.Turns.{parts_further, parts_ended, parts_faulty}
use Rattle.c_type_statements.proofs.walker.Walker.parts_row.Goals as goal
use Rattle.c_type_statements.proofs.walker.Walker.parts_row.Goals.{then-good, else-good}

pub loop-item-init : goal.loop-item-init
loop-item-init g c =
    let items = map block_item_typing c.args.items.now in
    let around = fixed c.args.around.now in
    let all = spec.parts_row spec.no_parts true items in
    let P : spec.Parting → Type 0 = λ p. Left all (spec.parts_row p true items) around c.args.found.now c.args.found.now in
    subst P (sym c.new-parting.ensures) (whole all around c.args.found.now)

pub loop-item-preserved : goal.loop-item-preserved
loop-item-preserved g c =
    let items = c.args.items.now in
    let i = c.loop-item.item-index in
    let around = fixed c.args.around.now in
    let before = c.loop-item.good in
    let fine = c.in-Ok.fine in
    let all : Walk (List Part) = spec.parts_row spec.no_parts true (map block_item_typing items) in
    let rest : Bool → Walk (List Part) = λ b. spec.parts_row (parting_of c.part_row.new.parting) b (map block_item_typing (drop (i + 1) items)) in
    let P : Bool → Type 0 = λ b. Left all (rest b) around c.args.found.now c.part_row.new.found in
    let below : i < length items = omega arith in
    let made : P (before && fine) = parts_further items i c.item-item.result below c.item-item.is all around c.args.found.now c.loop-item.found c.part_row.new.found
    (parting_of c.loop-item.parting) (parting_of c.part_row.new.parting) before fine c.loop-item.invariant c.in-Ok.ensures in
    let joined : c.if-good.good ≡ (before && fine) = elim c.if-good.branch [
      | then-good w ↦ w.good-is ∙ ap (λ (b : Bool). b && fine) (sym w.if-good.true)
      | else-good w ↦ w.good-is ∙ (w.if-good.false ∙ ap (λ (b : Bool). b && fine) (sym w.if-good.false))
    ] in
    subst P (sym joined) made

pub returns : goal.returns
returns g c =
    parts_ended c.args.items.now c.loop-item.item-index c.loop-item-test.false _ (fixed c.args.around.now) c.args.found.now c.loop-item.found (parting_of c.loop-item.parting) c.loop-item.good _
    c.if-not-good.false c.in_ok-finish.ensures c.loop-item.invariant

pub returns-then-not-good : goal.returns-then-not-good
returns-then-not-good g c =
    parts_faulty c.args.items.now c.loop-item.item-index c.loop-item-test.false _ (fixed c.args.around.now) c.args.found.now c.loop-item.found (parting_of c.loop-item.parting) c.loop-item.good
    c.if-not-good.true c.loop-item.invariant
