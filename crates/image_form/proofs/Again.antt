-- A record that was written is right, and is read again.
use Rattle.std.proofs.Common.{◌≡◌, ℕ, zero, suc, ◌+◌, ◌*◌, ◌/◌, ◌%◌, ◌<◌, ◌≤◌, Bool, true, false, cond, eqb, get_or, List, [], ◌∷◌, Option, Some, None, length, refl, sym, ap, ◌∙◌, subst, arith}
use Rattle.std.specs.Int.{w32, cast_signed}
use Rattle.std.proofs.lemmas.Bool.{eqb-true}
use Rattle.std.proofs.lemmas.Int.{to_z-of_z}
use Rattle.term_form.specs.declared.term.Term.{Term}
use Rattle.term_form.specs.declared.listing.FunctionRecord.{FunctionRecord}
use Rattle.term_form.specs.declared.listing.BlockRecord.{BlockRecord}
use Rattle.term_form.specs.declared.listing.TermRecord.{TermRecord}
use Rattle.term_form.specs.declared.listing.ArgumentRecord.{ArgumentRecord}
use Rattle.term_form.specs.declared.listing.EdgeRecord.{EdgeRecord}
use Rattle.term_form.specs.declared.listing.EndRecord.{EndRecord}
use Rattle.term_form.specs.declared.listing.StoreWidth.{StoreWidth}
use Rattle.term_form.specs.declared.listing.StoreWidth.TheVariants as stores
use Rattle.term_form.specs.declared.listing.Effect.{Effect}
use Rattle.term_form.specs.declared.listing.Effect.TheVariants as effects
use Rattle.term_form.specs.declared.listing.Record.{Record}
use Rattle.term_form.specs.declared.listing.Record.TheVariants as records
use Rattle.term_form.specs.Records.{none_word, IsTold, IsToldTerm, IsToldEffect, IsToldRecord}
use Rattle.image_form.specs.Limits.{HasSignedFacts}
use Rattle.image_form.specs.Words.{option_word, option_term_word, words_of}
use Rattle.image_form.specs.Rightness.{is_right}
use Rattle.image_form.specs.Form.{word_at}
use Rattle.image_form.specs.Contents.{option_of, term_of, option_term_of, kind_of, mode_of, record_of}
use Rattle.image_form.proofs.Right.{RightWords}
use Rattle.image_form.proofs.CodeTables.{all_below, at_each, term_code_again, end_back}
use Rattle.image_form.proofs.Rows.{row_from, row}

-- the word at a place of a row
from_get : (b : List ℕ) (at place count k : ℕ) → k < count → get_or (row_from b at place count) k 0 ≡ word_at b (at + 4 * (place + k))
from_get b at place zero k h = absurd (omega arith)
from_get b at place (suc count) zero h = ap (λ i. word_at b (at + 4 * i)) (omega arith)
from_get b at place (suc count) (suc k) h = from_get b at (place + 1) count k (omega arith) ∙ ap (λ i. word_at b (at + 4 * i)) (omega arith)

row_get : (b : List ℕ) (at k : ℕ) → k < 16 → get_or (row b at) k 0 ≡ word_at b (at + 4 * k)
row_get b at zero h = ap (word_at b) (omega arith)
row_get b at (suc k) h = from_get b at 1 15 k (omega arith) ∙ ap (λ i. word_at b (at + 4 * i)) (omega arith)

-- the words of a record are right
is_row_right : List ℕ → ℕ → Bool
is_row_right ws place = is_right (get_or ws 0 0) (get_or ws 2 0) place (get_or ws place 0)

words_right : (r : Record) → all_below (is_row_right (words_of r)) 16 ≡ true
unfolding is_row_right all_below
words_right (records.Function f) = by f.value
  where
    by : (v : Bool) → all_below (is_row_right (1 ∷ f.number ∷ f.entry ∷ f.frame ∷ f.parameters ∷ cond v 1 0 ∷ 0 ∷ 0 ∷ 0 ∷ 0 ∷ 0 ∷ 0 ∷ 0 ∷ 0 ∷ 0 ∷ 0 ∷ [])) 16 ≡ true
    by true = refl
    by false = refl
words_right (records.Block b) = refl
words_right (records.Term t) = rw ((term_code_again t.kind t.mode).right) refl
words_right (records.Effect e) = by e.effect
  where
    by : (x : Effect) → all_below (is_row_right (words_of (records.Effect (record { block = e.block; address = e.address; effect = x })))) 16 ≡ true
    by (effects.Store stores.Byte a v) = refl
    by (effects.Store stores.Half a v) = refl
    by (effects.Store stores.Word a v) = refl
    by (effects.Call f n c) = refl
    by (effects.Get g) = refl
    by (effects.Put t) = refl
    by (effects.Exit t) = refl
words_right (records.Argument a) = refl
words_right (records.Edge e) = refl
words_right (records.End e) = rw ((end_back e.kind).1) refl

pub right_again : (b : List ℕ) (at : ℕ) (r : Record) → at + 64 ≤ length b → row b at ≡ words_of r → RightWords b at
unfolding is_row_right
right_again b at r there e =
    let ws = row b at in
    let same : (k : ℕ) → k < 16 → is_row_right (row b at) k ≡ true = λ k lt. subst (λ (l : List ℕ). is_row_right l k ≡ true) (sym e) (at_each (is_row_right (words_of r)) 16 k (words_right r) lt) in
    record { there = there; right = λ k lt. subst (λ (w : ℕ). is_right (word_at b at) (word_at b (at + 8)) k w ≡ true) (row_get b at k lt) (same k lt) }

option_again : (o : Option ℕ) → IsTold o → option_of (option_word o) ≡ o
option_again None h = refl
option_again (Some n) h = by (eqb n none_word) refl
  where
    by : (t : Bool) → eqb n none_word ≡ t → cond t None (Some n) ≡ Some n
    by true e = let same = eqb-true n none_word e in absurd (omega arith)
    by false e = refl

option_term_again : (o : Option Term) → IsToldTerm o → option_term_of (option_term_word o) ≡ o
option_term_again None h = refl
option_term_again (Some t) h = by (eqb t.0 none_word) refl
  where
    by : (s : Bool) → eqb t.0 none_word ≡ s → cond s None (Some (term_of t.0)) ≡ Some t
    by true e = let same = eqb-true t.0 none_word e in absurd (omega arith)
    by false e = refl

flag_again : (v : Bool) → eqb (cond v 1 0) 1 ≡ v
flag_again true = refl
flag_again false = refl

-- the element of a row at a place
at_place : (b : List ℕ) (at : ℕ) (r : Record) (k : ℕ) → row b at ≡ words_of r → get_or (row b at) k 0 ≡ get_or (words_of r) k 0
at_place b at r k e = ap (λ l. get_or l k 0) e

again_function : (b : List ℕ) (at : ℕ) (f : FunctionRecord) → row b at ≡ words_of (records.Function f) → record_of (word_at b at) b at ≡ records.Function f
again_function b at f e =
    let place = λ (k : ℕ). at_place b at (records.Function f) k e in
    rw (place 0, place 1, place 2, place 3, place 4, place 5, flag_again f.value) refl

again_block : (b : List ℕ) (at : ℕ) (x : BlockRecord) → IsTold x.parent → row b at ≡ words_of (records.Block x) → record_of (word_at b at) b at ≡ records.Block x
again_block b at x told e =
    let place = λ (k : ℕ). at_place b at (records.Block x) k e in
    rw (place 0, place 1, place 2, place 3, place 4, option_again x.parent told) refl

again_term : (b : List ℕ) (at : ℕ) (t : TermRecord) → IsTold t.block → HasSignedFacts (records.Term t) → row b at ≡ words_of (records.Term t) → record_of (word_at b at) b at ≡ records.Term t
again_term b at t told signed e =
    let place = λ (k : ℕ). at_place b at (records.Term t) k e in
    let code = term_code_again t.kind t.mode in
    let kind : kind_of (word_at b (at + 12) % 65536) ≡ t.kind = ap (λ w. kind_of (w % 65536)) (place 3) ∙ code.kind_again in
    let mode : mode_of (word_at b (at + 12) / 65536) ≡ t.mode = ap (λ w. mode_of (w / 65536)) (place 3) ∙ code.mode_again in
    let block : option_of (word_at b (at + 8)) ≡ t.block = ap option_of (place 2) ∙ option_again t.block told in
    let low : cast_signed w32 (word_at b (at + 32)) ≡ t.facts.low = ap (cast_signed w32) (place 8) ∙ to_z-of_z w32 t.facts.low signed.0 in
    let high : cast_signed w32 (word_at b (at + 36)) ≡ t.facts.high = ap (cast_signed w32) (place 9) ∙ to_z-of_z w32 t.facts.high signed.1 in
    rw (place 0, kind, mode, block, low, high, place 1, place 4, place 5, place 6, place 7, place 10, place 11, place 12, place 13, place 14, place 15) refl

again_store : (b : List ℕ) (at block address : ℕ) (width : StoreWidth) (a v : Term) → row b at ≡ words_of (records.Effect (record { block = block; address = address; effect = effects.Store width a v }))
    → record_of (word_at b at) b at ≡ records.Effect (record { block = block; address = address; effect = effects.Store width a v })
again_store b at block address stores.Byte a v e = let place = λ (k : ℕ). at_place b at (records.Effect (record { block = block; address = address; effect = effects.Store stores.Byte a v })) k e in rw (place 0, place 1, place 2, place 3, place 4, place 5) refl
again_store b at block address stores.Half a v e = let place = λ (k : ℕ). at_place b at (records.Effect (record { block = block; address = address; effect = effects.Store stores.Half a v })) k e in rw (place 0, place 1, place 2, place 3, place 4, place 5) refl
again_store b at block address stores.Word a v e = let place = λ (k : ℕ). at_place b at (records.Effect (record { block = block; address = address; effect = effects.Store stores.Word a v })) k e in rw (place 0, place 1, place 2, place 3, place 4, place 5) refl

again_effect : (b : List ℕ) (at block address : ℕ) (x : Effect) → IsToldEffect x → row b at ≡ words_of (records.Effect (record { block = block; address = address; effect = x })) → record_of (word_at b at) b at ≡ records.Effect (record { block = block; address = address; effect = x })
again_effect b at block address (effects.Store width a v) told e = again_store b at block address width a v e
again_effect b at block address (effects.Call f n c) told e =
    let place = λ (k : ℕ). at_place b at (records.Effect (record { block = block; address = address; effect = effects.Call f n c })) k e in
    rw (place 0, place 1, place 2, place 3, place 4, place 5, place 6, option_term_again c told) refl
again_effect b at block address (effects.Get g) told e = let place = λ (k : ℕ). at_place b at (records.Effect (record { block = block; address = address; effect = effects.Get g })) k e in rw (place 0, place 1, place 2, place 3, place 4) refl
again_effect b at block address (effects.Put t) told e = let place = λ (k : ℕ). at_place b at (records.Effect (record { block = block; address = address; effect = effects.Put t })) k e in rw (place 0, place 1, place 2, place 3, place 4) refl
again_effect b at block address (effects.Exit t) told e = let place = λ (k : ℕ). at_place b at (records.Effect (record { block = block; address = address; effect = effects.Exit t })) k e in rw (place 0, place 1, place 2, place 3, place 4) refl

again_argument : (b : List ℕ) (at : ℕ) (x : ArgumentRecord) → row b at ≡ words_of (records.Argument x) → record_of (word_at b at) b at ≡ records.Argument x
again_argument b at x e = let place = λ (k : ℕ). at_place b at (records.Argument x) k e in rw (place 0, place 1, place 2) refl

again_edge : (b : List ℕ) (at : ℕ) (x : EdgeRecord) → row b at ≡ words_of (records.Edge x) → record_of (word_at b at) b at ≡ records.Edge x
again_edge b at x e = let place = λ (k : ℕ). at_place b at (records.Edge x) k e in rw (place 0, place 1, place 2, place 3, place 4) refl

again_end : (b : List ℕ) (at : ℕ) (x : EndRecord) → IsToldRecord (records.End x) → row b at ≡ words_of (records.End x) → record_of (word_at b at) b at ≡ records.End x
again_end b at x told e =
    let place = λ (k : ℕ). at_place b at (records.End x) k e in
    rw (place 0, place 1, place 2, (end_back x.kind).0, place 3, option_term_again x.term told.0, place 4, option_again x.first told.1, place 5, option_again x.second told.2, place 6) refl

pub again : (b : List ℕ) (at : ℕ) (r : Record) → IsToldRecord r → HasSignedFacts r → row b at ≡ words_of r → record_of (word_at b at) b at ≡ r
again b at (records.Function f) told signed e = again_function b at f e
again b at (records.Block x) told signed e = again_block b at x told e
again b at (records.Term t) told signed e = again_term b at t told signed e
again b at (records.Effect x) told signed e = again_effect b at x.block x.address x.effect told e
again b at (records.Argument x) told signed e = again_argument b at x e
again b at (records.Edge x) told signed e = again_edge b at x e
again b at (records.End x) told signed e = again_end b at x told e
