-- What is loaded hangs together.
use Rattle.std.proofs.Common.{◌≡◌, ℕ, ◌+◌, ◌-◌, ◌*◌, ◌^◌, ◌≤◌, refl, sym, ◌∙◌, ap, arith, List, length, replicate, ◌++◌, length-append}
use Rattle.std.specs.Prelude.{IsTrue}
use Rattle.std.specs.List.{list_all}
use Rattle.std.proofs.lemmas.List.{length-map, length-replicate}
use Rattle.rv_machine.specs.declared.decoded.Decoded.{Decoded}
use Rattle.rv_machine.specs.Decoded.{IsConsistent, decoded_of, is_in_range, program}
use Rattle.rv_machine.specs.Start.{up_to_eight}

length-program : (text : List ℕ) → length (program text) ≡ length text
unfolding program
length-program text = length-map text decoded_of

pub consistent : (text words : List ℕ) (code : List Decoded) (base stack : ℕ) (memory statics : List ℕ) → text ≡ words → code ≡ program words → IsTrue (list_all is_in_range code) → length words ≤ 2 ^ 28 → length statics ≤ 2 ^ 24 → stack ≤ 2 ^ 30 → base ≡ up_to_eight (0x10000 + 4 * length words) → memory ≡ statics ++ replicate (up_to_eight (length statics) + stack - length statics) 0 → IsConsistent text code base memory
consistent text words code base stack memory statics same coded range few small low placed filled =
    let count : length code ≡ length words = ap length coded ∙ length-program words in
    let size : length memory ≡ length statics + (up_to_eight (length statics) + stack - length statics) = ap length filled ∙ length-append statics _ ∙ ap (λ k. length statics + k) (length-replicate _ _) in
    record {
      decoded = coded ∙ ap program (sym same);
      range = range;
      words = omega arith;
      count = ap length same ∙ sym count;
      room = omega arith;
    }
