-- The records before this one were put.
use Rattle.std.proofs.Common.{◌≡◌, ◌++◌, All, take}
use Rattle.std.specs.List.{flat_map}
use Rattle.image_form.specs.Limits.{IsRecord}
use Rattle.image_form.specs.Bytes.{record_bytes}
use Rattle.image_form.proofs.writing.put_records.Given as goal

abbrev pub invariant-loop-listed : goal.invariant-loop-listed
invariant-loop-listed l = record {
  bytes : l.out.items ≡ l.fn.out.items ++ flat_map record_bytes (take l.listed-index l.records);
  fits : All IsRecord (take l.listed-index l.records);
}
