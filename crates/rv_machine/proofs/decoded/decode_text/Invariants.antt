-- The words before this one were decoded.
use Rattle.std.proofs.Common.{◌≡◌, take}
use Rattle.std.specs.Prelude.{IsTrue}
use Rattle.std.specs.List.{list_all}
use Rattle.rv_machine.specs.Decoded.{is_in_range, program}
use Rattle.rv_machine.proofs.decoded.decode_text.Given as goal

abbrev pub invariant-loop-word : goal.invariant-loop-word
invariant-loop-word l = record {
  value : l.code.items ≡ program (take l.word-index l.text);
  range : IsTrue (list_all is_in_range l.code.items);
}
