-- Records in a row: what is read is spelled so, and what is spelled so is right and is read.
use Rattle.std.proofs.Common.{◌≡◌, ℕ, zero, suc, ◌+◌, ◌-◌, ◌*◌, ◌^◌, ◌<◌, ◌≤◌, length, drop, List, [], ◌∷◌, ◌++◌, None, refl, sym, ap, ◌∙◌, subst, arith}
use Rattle.std.specs.List.{flat_map, AllByRecursion}
use Rattle.std.proofs.lemmas.List.{append_assoc, length-append, length-drop}
use Rattle.std.proofs.lemmas.List.Elements.{All-from_recursion, recursion_from_All}
use Rattle.term_form.specs.declared.listing.Effect.{Effect}
use Rattle.term_form.specs.declared.listing.Effect.TheVariants as effects
use Rattle.term_form.specs.declared.listing.Record.{Record}
use Rattle.term_form.specs.declared.listing.Record.TheVariants as records
use Rattle.term_form.specs.Records.{IsToldRecord}
use Rattle.image_form.specs.Limits.{IsRecord}
use Rattle.image_form.specs.Words.{words_of}
use Rattle.image_form.specs.Bytes.{number_bytes, record_bytes}
use Rattle.image_form.specs.Form.{word_at, ◌>>◌, records_wrong}
use Rattle.image_form.specs.Contents.{record_of, words_at, records_at}
use Rattle.image_form.proofs.Numbers.{IsBytes, AreWords, words_here, words_again}
use Rattle.image_form.proofs.Right.{RightWords, records_right, right_record}
use Rattle.image_form.proofs.Rows.{row, row_is, row_fits, kept}
use Rattle.image_form.proofs.Again.{again, right_again}

-- what is asked of a record besides the range of its words
pub record IsSound (r : Record) : Type 0 where
  pub image : IsRecord r
  pub told : IsToldRecord r

-- a record of which the words are right
pub record_here : (b : List ℕ) (at : ℕ) → IsBytes b → RightWords b at → (drop at b ≡ record_bytes (record_of (word_at b at) b at) ++ drop (at + 64) b) × IsSound (record_of (word_at b at) b at)
record_here b at fits w =
    let k = kept b at fits w in
    let same : words_at b at 16 ≡ words_of (record_of (word_at b at) b at) = row_is b at ∙ sym k.0 in
    let words : AreWords (words_of (record_of (word_at b at) b at)) = subst (λ (l : List ℕ). AreWords l) (sym k.0) (row_fits b at fits) in (
      (words_here b at 16 fits (omega (arith, w.there))).0 ∙ ap (λ l. flat_map number_bytes l ++ drop (at + 64) b) same,
      record { image = record { words = All-from_recursion (λ n. n < 2 ^ 32) _ words; signed = k.2 }; told = k.1 },
    )

sixteen : (r : Record) → length (words_of r) ≡ 16
sixteen (records.Function f) = refl
sixteen (records.Block b) = refl
sixteen (records.Term t) = refl
sixteen (records.Effect e) = by e.effect
  where
    by : (x : Effect) → length (words_of (records.Effect (record { block = e.block; address = e.address; effect = x }))) ≡ 16
    by (effects.Store width a v) = refl
    by _ = refl
sixteen (records.Argument a) = refl
sixteen (records.Edge e) = refl
sixteen (records.End e) = refl

pub length-bytes : (ws : List ℕ) → length (flat_map number_bytes ws) ≡ 4 * length ws
length-bytes [] = refl
length-bytes (w ∷ ws) = let rest = length-bytes ws in let more = length-append (number_bytes w) (flat_map number_bytes ws) in omega arith

pub record_length : (r : Record) → length (record_bytes r) ≡ 64
record_length r = length-bytes (words_of r) ∙ ap (λ n. 4 * n) (sixteen r)

-- a record that is spelled at an offset
pub record_again : (b rest : List ℕ) (at : ℕ) (r : Record) → IsSound r → drop at b ≡ record_bytes r ++ rest → RightWords b at × (record_of (word_at b at) b at ≡ r) × (drop (at + 64) b ≡ rest)
record_again b rest at r sound e =
    let words = recursion_from_All (λ n. n < 2 ^ 32) (words_of r) sound.image.words in
    let w = words_again b rest (words_of r) at words e in
    let same : words_at b at 16 ≡ words_of r = ap (words_at b at) (sym (sixteen r)) ∙ w.0 in
    let behind : drop (at + 64) b ≡ rest = ap (λ n. drop (at + 4 * n) b) (sym (sixteen r)) ∙ w.1 in
    let row_same : row b at ≡ words_of r = sym (row_is b at) ∙ same in
    let long : length b - at ≡ length (record_bytes r) + length rest = sym (length-drop at b) ∙ ap length e ∙ length-append (record_bytes r) rest in
    let bytes = record_length r in
    (right_again b at r (omega arith) row_same, again b at r sound.told sound.image.signed row_same, behind)

pub records_here : (b : List ℕ) (at n : ℕ) → IsBytes b → at ≤ length b → records_wrong b at n ≡ None
    → (drop at b ≡ flat_map record_bytes (records_at b at n) ++ drop (at + 64 * n) b) × AllByRecursion IsSound (records_at b at n) × (length (records_at b at n) ≡ n)
unfolding records_at
records_here b at zero fits h e = (ap (λ k. drop k b) (omega arith), tt, refl)
records_here b at (suc n) fits h e =
    let p = records_right b at n e in
    let first = record_here b at fits p.0 in
    let more = records_here b (at + 64) n fits p.0.there p.1 in
    let end : at + 64 + 64 * n ≡ at + 64 * suc n = omega arith in
    let bytes = record_bytes (record_of (word_at b at) b at) in
    let all : drop at b ≡ (bytes ++ flat_map record_bytes (records_at b (at + 64) n)) ++ drop (at + 64 * suc n) b =
    first.0 ∙ ap (λ t. bytes ++ t) (more.0 ∙ ap (λ k. flat_map record_bytes (records_at b (at + 64) n) ++ drop k b) end)
    ∙ sym (append_assoc bytes (flat_map record_bytes (records_at b (at + 64) n)) (drop (at + 64 * suc n) b)) in
    (all, (first.1, more.1), ap suc more.2)

pub records_again : (b rest : List ℕ) (at : ℕ) (rs : List Record) → AllByRecursion IsSound rs → drop at b ≡ flat_map record_bytes rs ++ rest
    → (records_wrong b at (length rs) ≡ None) × (records_at b at (length rs) ≡ rs) × (drop (at + 64 * length rs) b ≡ rest)
unfolding records_wrong records_at
records_again b rest at [] sound e = (refl, refl, ap (λ k. drop k b) (omega arith) ∙ e)
records_again b rest at (r ∷ rs) sound e =
    let split : drop at b ≡ record_bytes r ++ (flat_map record_bytes rs ++ rest) = e ∙ append_assoc (record_bytes r) (flat_map record_bytes rs) rest in
    let first = record_again b (flat_map record_bytes rs ++ rest) at r sound.0 split in
    let more = records_again b rest (at + 64) rs sound.1 first.2 in
    let end : at + 64 * suc (length rs) ≡ at + 64 + 64 * length rs = omega arith in (
      ap (λ t. t >> records_wrong b (at + 64) (length rs)) (right_record b at first.0) ∙ more.0,
      rw (first.1, more.1) refl,
      ap (λ k. drop k b) end ∙ more.2,
    )
