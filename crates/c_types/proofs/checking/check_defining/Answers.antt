-- `check_defining` of src/checking.rt: what the check leaves open of its proof.
-- A unit that defines these functions and file-level objects, walked to its end.
use Rattle.std.proofs.Common.{◌∙◌, sym}
use Rattle.c_type_walk.specs.Walks.{fixed}
use Rattle.c_types.proofs.Settled.{settled, typed_as, is_given}
use Rattle.c_types.proofs.checking.check_defining.Goals as goal

pub unreachable-requires : goal.unreachable-requires
unreachable-requires c =
    let end = settled c.args.unit.now c.as_slice.result.now c.args.functions.now c.args.objects.now c.args.void.now (fixed c.around_unit-around.result)
    c.new-found.result c.outers_row.new.found c.tell_if.new.self c.in-Ok.made c.in_ok-main.main c.is_none.result
    c.as_slice.ensures (rw c.as_slice.ensures c.requires.functions) (rw c.as_slice.ensures c.requires.objects) c.requires.void c.around_unit-around.ensures c.new-found.ensures.faults
    c.new-found.ensures.state c.in-Ok.ensures c.in_ok-main.ensures c.is_none.ensures c.in-Ok-tell_if.ensures.faults c.tell_if.ensures.state in
    is_given c.args.unit.now c.outers_row.new.found c.in-Ok.made c.requires.unit end.walk (end.first ∙ sym c.first_told.ensures ∙ c.in_default-first_told.is) c.in_default-made.is

pub returns-in-Some : goal.returns-in-Some
returns-in-Some c =
    let end = settled c.args.unit.now c.as_slice.result.now c.args.functions.now c.args.objects.now c.args.void.now (fixed c.around_unit-around.result)
    c.new-found.result c.outers_row.new.found c.tell_if.new.self c.in-Ok.made c.in_ok-main.main c.is_none.result
    c.as_slice.ensures (rw c.as_slice.ensures c.requires.functions) (rw c.as_slice.ensures c.requires.objects) c.requires.void c.around_unit-around.ensures c.new-found.ensures.faults
    c.new-found.ensures.state c.in-Ok.ensures c.in_ok-main.ensures c.is_none.ensures c.in-Ok-tell_if.ensures.faults c.tell_if.ensures.state in
    end.first ∙ sym c.first_told.ensures ∙ c.in-Some.is

pub returns : goal.returns
returns c =
    let end = settled c.args.unit.now c.as_slice.result.now c.args.functions.now c.args.objects.now c.args.void.now (fixed c.around_unit-around.result)
    c.new-found.result c.outers_row.new.found c.tell_if.new.self c.in-Ok.made c.in_ok-main.main c.is_none.result
    c.as_slice.ensures (rw c.as_slice.ensures c.requires.functions) (rw c.as_slice.ensures c.requires.objects) c.requires.void c.around_unit-around.ensures c.new-found.ensures.faults
    c.new-found.ensures.state c.in-Ok.ensures c.in_ok-main.ensures c.is_none.ensures c.in-Ok-tell_if.ensures.faults c.tell_if.ensures.state in
    record {
      clean = end.first ∙ sym c.first_told.ensures ∙ c.in_default-first_told.is;
      typed_tree = typed_as c.args.unit.now c.args.functions.now c.args.objects.now c.outers_row.new.found c.tell_if.new.self c.in-Some-made.made c.in_ok-main.main
          c.unwrap_or.result c.in_ok-typed_unit.field-0 (rw c.in-Some-made.is at end.walk) end.functions end.objects c.tell_if.ensures.state c.in_ok-main.ensures
          c.unwrap_or.ensures c.in_ok-typed_unit.ensures;
    }
