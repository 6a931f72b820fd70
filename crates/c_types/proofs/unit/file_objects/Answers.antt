-- `file_objects` of src/unit.rt: what the check leaves open of its proof.
-- The file-level objects that a unit defines, each once, by their names, in order.
use Rattle.std.proofs.Common.{◌∙◌, ◌<◌, ap, length, arith}
use Rattle.c_type_declarations.specs.Counting.{named}
use Rattle.c_types.proofs.FileObjects.{begun, declared, defined}
use Rattle.c_types.proofs.unit.file_objects.Goals as goal
use Rattle.c_types.proofs.unit.file_objects.Goals.{in-Declaration+in_ok-defined_objects, in_default}

pub loop-one-init : goal.loop-one-init
loop-one-init c = begun c.args.list.now (named c.new-names.result) c.new-all.result c.new-names.ensures c.new-all.ensures

pub loop-one-preserved : goal.loop-one-preserved
loop-one-preserved c =
    let list = c.args.list.now in
    let turn = c.loop-one in
    let x = c.one-item.result in
    let below : turn.one-index < length list = omega arith in
    elim c.match-one.branch [
      | in-Declaration+in_ok-defined_objects w ↦ declared list turn.one-index x w.in-Declaration.tree (named turn.names) (named c.match-one.names) turn.all c.match-one.all _ below
          c.one-item.is w.in-Declaration.is (ap named w.names-is ∙ w.in_ok-defined_objects.ensures.names) (w.all-is ∙ w.in_ok-defined_objects.ensures.all) turn.invariant
      | in_default w ↦ defined list turn.one-index x w.in_default.field-0 (named turn.names) (named c.match-one.names) turn.all c.match-one.all _ below
          c.one-item.is w.in_default.is (ap named w.names-is) w.all-is turn.invariant
    ]
