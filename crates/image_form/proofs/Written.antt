-- What was written has no wrong offset, and is read again.
use Rattle.std.proofs.Common.{◌≡◌, ◌↔◌, ℕ, ◌+◌, ◌*◌, ◌%◌, ◌^◌, ◌<◌, ◌≤◌, true, ◌&&◌, eqb, leb, length, get_or, take, drop, List, [], ◌∷◌, ◌++◌, Option, None, refl, sym, ap, ◌∙◌, arith}
use Rattle.std.specs.List.{flat_map, AllByRecursion}
use Rattle.std.proofs.lemmas.Bool.{eq-eqb, le-leb, lt-ltb}
use Rattle.std.proofs.lemmas.List.{append-nil, drop-drop, length-append, take_at, drop_at}
use Rattle.std.proofs.lemmas.List.Elements.{recursion_from_All}
use Rattle.term_form.specs.declared.listing.Record.{Record}
use Rattle.term_form.specs.Records.{IsToldRecord}
use Rattle.image_form.specs.declared.image.Image.{Image}
use Rattle.image_form.specs.Limits.{text_start, IsRecord}
use Rattle.image_form.specs.Bytes.{number_bytes, record_bytes}
use Rattle.image_form.specs.Form.{word_at, ◌>>◌, reaches, unless, byte_is, number_is, is_entry, header_wrong, records_wrong, records_start, ends, first_wrong}
use Rattle.image_form.specs.Contents.{words_at, records_at, image_at}
use Rattle.image_form.specs.Laws.{IsFileOf, IsImageFile}
use Rattle.image_form.proofs.Numbers.{IsBytes, number_again, words_again}
use Rattle.image_form.proofs.Right.{reached, right_number}
use Rattle.image_form.proofs.Listed.{IsSound, length-bytes, records_again, record_length}
use Rattle.image_form.proofs.Laws.{grouped, found}

-- the numbers of the header, and the parts behind it
pub record Header (b : List ℕ) (i : Image) : Type 0 where
  pub text : word_at b 4 ≡ length i.text
  pub statics : word_at b 8 ≡ length i.statics
  pub stack : word_at b 12 ≡ i.stack
  pub entry : word_at b 16 ≡ i.entry
  pub records : word_at b 20 ≡ length i.listing.records
  pub rest : drop 24 b ≡ flat_map number_bytes i.text ++ (i.statics ++ flat_map record_bytes i.listing.records)
  pub there : 24 ≤ length b

header_again : (b : List ℕ) (i : Image) → IsFileOf b i → Header b i
header_again b i a =
    let e = a.same ∙ grouped i in
    let text = number_again b _ 4 (length i.text) (omega (arith, a.limits.text)) (ap (drop 4) e) in
    let statics = number_again b _ 8 (length i.statics) (omega (arith, a.limits.statics)) text.1 in
    let stack = number_again b _ 12 i.stack (omega (arith, a.limits.stack)) statics.1 in
    let entry = number_again b _ 16 i.entry a.image.entry stack.1 in
    let records = number_again b _ 20 (length i.listing.records) a.limits.records entry.1 in
    record { text = text.0; statics = statics.0; stack = stack.0; entry = entry.0; records = records.0; rest = records.1; there = records.2 }

length-records : (rs : List Record) → length (flat_map record_bytes rs) ≡ 64 * length rs
length-records [] = refl
length-records (r ∷ rs) = let rest = length-records rs in let first = record_length r in let more = length-append (record_bytes r) (flat_map record_bytes rs) in omega arith

-- how many bytes an image has
length_is : (b : List ℕ) (i : Image) → IsFileOf b i → length b ≡ 24 + 4 * length i.text + length i.statics + 64 * length i.listing.records
length_is b i a =
    let text = length-bytes i.text in
    let records = length-records i.listing.records in
    let behind = length-append i.statics (flat_map record_bytes i.listing.records) in
    let all = length-append (flat_map number_bytes i.text) (i.statics ++ flat_map record_bytes i.listing.records) in
    let whole : length b ≡ 24 + length (flat_map number_bytes i.text ++ (i.statics ++ flat_map record_bytes i.listing.records)) = ap length (a.same ∙ grouped i) ∙ omega arith in
    omega arith

sound : (rs : List Record) → AllByRecursion IsRecord rs → AllByRecursion IsToldRecord rs → AllByRecursion IsSound rs
sound [] h k = tt
sound (r ∷ rs) h k = (record { image = h.0; told = k.0 }, sound rs h.1 k.1)

chain : (x y : Option ℕ) → x ≡ None → y ≡ None → x >> y ≡ None
chain x y e f = ap (λ t. t >> y) e ∙ f

byte_again : (b : List ℕ) (at value : ℕ) → at + 1 ≤ length b → get_or b at 0 ≡ value → byte_is b at value ≡ None
byte_again b at value h e = chain (reaches b (at + 1)) (unless at (eqb (get_or b at 0) value)) (reached b (at + 1) h) (rw (eq-eqb (get_or b at 0) value e) refl)

entry_again : (words entry : ℕ) → text_start ≤ entry → entry < text_start + 4 * words → entry % 4 ≡ 0 → is_entry words entry ≡ true
entry_again words entry low high step = rw (le-leb text_start entry low, lt-ltb entry (text_start + 4 * words) high, eq-eqb (entry % 4) 0 step) refl

header_right : (b : List ℕ) (i : Image) → IsFileOf b i → Header b i → header_wrong b ≡ None
unfolding header_wrong
header_right b i a h =
    let e = a.same ∙ grouped i in
    let byte = λ (k : ℕ). ap (λ l. get_or l k 0) e in
    let stack_test = λ (n : ℕ). leb n (2 ^ 30) && eqb (n % 8) 0 in
    let c4 = number_is b 4 (λ n. leb n (2 ^ 28)) in
    let c8 = number_is b 8 (λ n. leb n (2 ^ 24)) in
    let c12 = number_is b 12 stack_test in
    let c16 = number_is b 16 (is_entry (word_at b 4)) in
    let r4 = right_number b 4 (λ n. leb n (2 ^ 28)) (omega (arith, h.there)) (le-leb (word_at b 4) (2 ^ 28) (omega (arith, h.text, a.limits.text))) in
    let r8 = right_number b 8 (λ n. leb n (2 ^ 24)) (omega (arith, h.there)) (le-leb (word_at b 8) (2 ^ 24) (omega (arith, h.statics, a.limits.statics))) in
    let stack_low : leb (word_at b 12) (2 ^ 30) ≡ true = le-leb (word_at b 12) (2 ^ 30) (omega (arith, h.stack, a.limits.stack)) in
    let stack_step : eqb (word_at b 12 % 8) 0 ≡ true = eq-eqb (word_at b 12 % 8) 0 (ap (λ n. n % 8) h.stack ∙ a.limits.stack_step) in
    let r12 = right_number b 12 stack_test (omega (arith, h.there)) (rw (stack_low, stack_step) refl) in
    let entry = entry_again (word_at b 4) (word_at b 16) (omega (arith, h.entry, a.limits.entry_low)) (omega (arith, h.entry, h.text, a.limits.entry_high)) (ap (λ n. n % 4) h.entry ∙ a.limits.entry_step) in
    let r16 = right_number b 16 (is_entry (word_at b 4)) (omega (arith, h.there)) entry in
    chain (byte_is b 0 82) _ (byte_again b 0 82 (omega (arith, h.there)) (byte 0))
    (chain (byte_is b 1 86) _ (byte_again b 1 86 (omega (arith, h.there)) (byte 1))
    (chain (byte_is b 2 73) _ (byte_again b 2 73 (omega (arith, h.there)) (byte 2))
    (chain (byte_is b 3 49) _ (byte_again b 3 49 (omega (arith, h.there)) (byte 3))
    (chain c4 _ r4 (chain c8 _ r8 (chain c12 _ r12 (chain c16 _ r16 (reached b 24 h.there))))))))

-- the bytes of an image have no wrong offset, and hold that image
pub written : (b : List ℕ) (i : Image) → IsFileOf b i → (first_wrong b ≡ None) × (image_at b ≡ i)
unfolding first_wrong
written b i a =
    let h = header_again b i a in
    let long = length_is b i a in
    let k = 24 + 4 * length i.text in
    let rs = i.listing.records in
    let text = words_again b (i.statics ++ flat_map record_bytes rs) i.text 24 (recursion_from_All (λ n. n < 2 ^ 32) i.text a.image.text) h.rest in
    let statics : take (length i.statics) (drop k b) ≡ i.statics = ap (take (length i.statics)) text.1 ∙ take_at i.statics (flat_map record_bytes rs) (length i.statics) refl in
    let behind : drop (k + length i.statics) b ≡ flat_map record_bytes rs ++ [] = sym (drop-drop (length i.statics) k b) ∙ ap (drop (length i.statics)) text.1 ∙ drop_at i.statics (flat_map record_bytes rs) (length i.statics) refl ∙ sym (append-nil (flat_map record_bytes rs)) in
    let records = records_again b [] (k + length i.statics) rs (sound rs (recursion_from_All IsRecord rs a.image.records) (recursion_from_All IsToldRecord rs a.limits.told)) behind in
    let start : records_start b ≡ k + length i.statics = omega (arith, h.text, h.statics) in
    let right : records_wrong b (records_start b) (word_at b 20) ≡ None = ap (λ n. records_wrong b n (word_at b 20)) start ∙ ap (records_wrong b (k + length i.statics)) h.records ∙ records.0 in
    let end : ends b (records_start b + 64 * word_at b 20) ≡ None = rw (le-leb (length b) (records_start b + 64 * word_at b 20) (omega (arith, h.text, h.statics, h.records))) refl in
    let none : first_wrong b ≡ None =
    chain (header_wrong b) _ (header_right b i a h)
    (chain (reaches b (records_start b)) _ (reached b (records_start b) (omega (arith, h.text, h.statics))) (chain (records_wrong b (records_start b) (word_at b 20)) _ right end)) in
    let words : words_at b 24 (word_at b 4) ≡ i.text = ap (words_at b 24) h.text ∙ text.0 in
    let bytes : take (word_at b 8) (drop (24 + 4 * word_at b 4) b) ≡ i.statics = ap (λ n. take n (drop (24 + 4 * word_at b 4) b)) h.statics ∙ ap (λ n. take (length i.statics) (drop (24 + 4 * n) b)) h.text ∙ statics in
    let listed : records_at b (records_start b) (word_at b 20) ≡ rs = ap (λ n. records_at b n (word_at b 20)) start ∙ ap (records_at b (k + length i.statics)) h.records ∙ records.1 in
    (none, rw (words, bytes, h.stack, h.entry, listed) refl)

-- no offset is wrong exactly where some image has these bytes
pub form : (b : List ℕ) → IsBytes b → (first_wrong b ≡ None) ↔ IsImageFile b
form b fits = (λ h. (image_at b, found b fits h), λ a. (written b a.0 a.1).0)
