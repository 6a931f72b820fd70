-- `switch_body` of src/switches.rt: what the check leaves open of its proof.
-- The block of a `switch`, which has a scope of its own.
use Rattle.std.proofs.Common.{ℕ, true, map, subst}
use Rattle.c_typing.specs.OfStatements as spec
use Rattle.c_typing.specs.Statements.{block_item_typing}
use Rattle.c_type_walk.specs.Walks.{Gave, fixed}
use Rattle.c_type_statements.proofs.Rows.{objects_walked, paired}
use Rattle.c_type_statements.proofs.walker.Walker.switch_body.Goals as goal

pub returns : goal.returns
returns g c =
    let items = map block_item_typing c.args.items.now in
    let w = spec.in_switch (spec.parts_row spec.no_parts true items) in
    let P : ℕ → Type 0 = λ n. Gave (spec.with_objects n w (fixed c.args.around.now) c.args.found.now.state) c.args.found.now c.close.new.self c.zip.result in
    subst P c.in_ok-count.ensures (paired (spec.with_objects c.in_ok-count.count w (fixed c.args.around.now) c.args.found.now.state) c.args.found.now c.close.new.self
    c.in-Ok-end_objects.objects c.in-Ok.parts c.zip.result c.zip.ensures
    (objects_walked c.in_ok-count.count w c.args.around.now c.in_scope-scope.result c.in_ok-outside.within c.args.found.now _ _ _ _ _ _ _ _
    c.in_scope-scope.ensures c.begin_objects.ensures.faults c.in_ok-outside.ensures.state c.in_ok-outside.ensures.outside.0 c.in_ok-outside.ensures.outside.1 c.in_ok-outside.ensures.within
    c.in-Ok.ensures c.in-Ok-end_objects.ensures.given c.end_objects.ensures.faults c.in-Ok-end_objects.ensures.state c.close.ensures.faults c.close.ensures.state))
