-- Bytes of which none is wrong are those of an image, and those of an image have none that is wrong.
use Rattle.std.proofs.Common.{◌≡◌, ℕ, ◌+◌, ◌*◌, ◌^◌, ◌<◌, length, get_or, take, drop, All, List, [], ◌∷◌, ◌++◌, None, refl, sym, ap, ◌∙◌, subst, arith}
use Rattle.std.specs.List.{flat_map, AllByRecursion}
use Rattle.std.proofs.lemmas.List.{append_assoc, append-nil, drop_all, drop_more, drop-drop, length-drop, length-take, get_or-take, get_or-drop, get_or_default, take-append-drop}
use Rattle.std.proofs.lemmas.List.Elements.{All-from_recursion}
use Rattle.term_form.specs.declared.listing.Record.{Record}
use Rattle.term_form.specs.Records.{IsToldRecord}
use Rattle.image_form.specs.declared.image.Image.{Image}
use Rattle.image_form.specs.Limits.{IsRecord}
use Rattle.image_form.specs.Bytes.{magic, number_bytes, record_bytes, bytes_of}
use Rattle.image_form.specs.Form.{word_at, records_start, first_wrong}
use Rattle.image_form.specs.Contents.{words_at, records_at, image_at}
use Rattle.image_form.specs.Laws.{IsFileOf}
use Rattle.image_form.proofs.Numbers.{IsBytes, AreWords, word_fits, number_here, words_here}
use Rattle.image_form.proofs.Whole.{Whole, whole, Sizes, sizes}
use Rattle.image_form.proofs.Listed.{IsSound, records_here}

-- the magic at the front
magic_here : (b : List ℕ) → Sizes b → b ≡ magic ++ drop 4 b
magic_here b s =
    drop_more b 0 0 (omega (arith, s.there)) ∙ rw (s.first) (ap (λ t. 82 ∷ t) (
    drop_more b 1 0 (omega (arith, s.there)) ∙ rw (s.second) (ap (λ t. 86 ∷ t) (
    drop_more b 2 0 (omega (arith, s.there)) ∙ rw (s.third) (ap (λ t. 73 ∷ t) (
    drop_more b 3 0 (omega (arith, s.there)) ∙ rw (s.fourth) refl))))))

-- the bytes of an image, grouped to the right
pub grouped : (i : Image) → bytes_of i ≡ magic ++ (number_bytes (length i.text) ++ (number_bytes (length i.statics) ++ (number_bytes i.stack ++ (number_bytes i.entry ++ (number_bytes (length i.listing.records)
    ++ (flat_map number_bytes i.text ++ (i.statics ++ flat_map record_bytes i.listing.records)))))))
grouped i = simp append_assoc

-- the parts of bytes of which none is wrong
pub record Parts (b : List ℕ) : Type 0 where
  pub text : (drop 24 b ≡ flat_map number_bytes (words_at b 24 (word_at b 4)) ++ drop (24 + 4 * word_at b 4) b) × AreWords (words_at b 24 (word_at b 4)) × (length (words_at b 24 (word_at b 4)) ≡ word_at b 4)
  pub statics : drop (24 + 4 * word_at b 4) b ≡ take (word_at b 8) (drop (24 + 4 * word_at b 4) b) ++ drop (records_start b) b
  pub statics_length : length (take (word_at b 8) (drop (24 + 4 * word_at b 4) b)) ≡ word_at b 8
  pub records : (drop (records_start b) b ≡ flat_map record_bytes (records_at b (records_start b) (word_at b 20)) ++ drop (records_start b + 64 * word_at b 20) b)
      × AllByRecursion IsSound (records_at b (records_start b) (word_at b 20)) × (length (records_at b (records_start b) (word_at b 20)) ≡ word_at b 20)
  pub end : drop (records_start b + 64 * word_at b 20) b ≡ []

parts : (b : List ℕ) → IsBytes b → Whole b → Parts b
parts b fits w =
    let k = 24 + 4 * word_at b 4 in
    let d = word_at b 8 in
    record {
      text = words_here b 24 (word_at b 4) fits (omega (arith, w.start));
      statics = sym (take-append-drop d (drop k b)) ∙ ap (λ t. take d (drop k b) ++ t) (drop-drop d k b);
      statics_length = length-take d (drop k b) ∙ omega (arith, length-drop k b, w.start);
      records = records_here b (records_start b) (word_at b 20) fits w.start w.records;
      end = drop_all (records_start b + 64 * word_at b 20) b (omega (arith, w.all));
    }

-- bytes of which none is wrong are spelled by what they hold
spelled : (b : List ℕ) → IsBytes b → Sizes b → Parts b → b ≡ bytes_of (image_at b)
spelled b fits s p =
    let i = image_at b in
    let records : drop (records_start b) b ≡ flat_map record_bytes i.listing.records = p.records.0 ∙ ap (λ t. flat_map record_bytes i.listing.records ++ t) p.end ∙ append-nil (flat_map record_bytes i.listing.records) in
    let statics = p.statics ∙ ap (λ t. i.statics ++ t) records in
    let text = p.text.0 ∙ ap (λ t. flat_map number_bytes i.text ++ t) statics in
    let at20 = number_here b 20 fits (omega (arith, s.there)) ∙ ap (λ t. number_bytes (word_at b 20) ++ t) text in
    let at16 = number_here b 16 fits (omega (arith, s.there)) ∙ ap (λ t. number_bytes (word_at b 16) ++ t) at20 in
    let at12 = number_here b 12 fits (omega (arith, s.there)) ∙ ap (λ t. number_bytes (word_at b 12) ++ t) at16 in
    let at8 = number_here b 8 fits (omega (arith, s.there)) ∙ ap (λ t. number_bytes (word_at b 8) ++ t) at12 in
    let at4 = number_here b 4 fits (omega (arith, s.there)) ∙ ap (λ t. number_bytes (word_at b 4) ++ t) at8 in
    magic_here b s ∙ ap (λ t. magic ++ t) at4
    ∙ ap (λ n. magic ++ (number_bytes n ++ (number_bytes (word_at b 8) ++ (number_bytes (word_at b 12) ++ (number_bytes (word_at b 16) ++ (number_bytes (word_at b 20) ++ (flat_map number_bytes i.text ++ (i.statics ++ flat_map record_bytes i.listing.records)))))))) (sym p.text.2)
    ∙ ap (λ n. magic ++ (number_bytes (length i.text) ++ (number_bytes n ++ (number_bytes (word_at b 12) ++ (number_bytes (word_at b 16) ++ (number_bytes (word_at b 20) ++ (flat_map number_bytes i.text ++ (i.statics ++ flat_map record_bytes i.listing.records)))))))) (sym p.statics_length)
    ∙ ap (λ n. magic ++ (number_bytes (length i.text) ++ (number_bytes (length i.statics) ++ (number_bytes (word_at b 12) ++ (number_bytes (word_at b 16) ++ (number_bytes n ++ (flat_map number_bytes i.text ++ (i.statics ++ flat_map record_bytes i.listing.records)))))))) (sym p.records.2)
    ∙ sym (grouped i)

-- each byte of a part
bytes_part : (b : List ℕ) (k n : ℕ) → IsBytes b → All (λ x. x < 2 ^ 8) (take n (drop k b))
bytes_part b k n fits i e lt =
    let short = length-take n (drop k b) in
    let long = length-drop k b in
    let same : get_or (take n (drop k b)) i e ≡ get_or b (k + i) 0 = get_or-take n (drop k b) i e (omega arith) ∙ get_or-drop k b i e ∙ get_or_default b (k + i) e 0 (omega arith) in
    subst (λ (x : ℕ). x < 2 ^ 8) (sym same) (fits (k + i))

sound_images : (rs : List Record) → AllByRecursion IsSound rs → AllByRecursion IsRecord rs
sound_images [] h = tt
sound_images (r ∷ rs) h = (h.0.image, sound_images rs h.1)

sound_told : (rs : List Record) → AllByRecursion IsSound rs → AllByRecursion IsToldRecord rs
sound_told [] h = tt
sound_told (r ∷ rs) h = (h.0.told, sound_told rs h.1)

-- what none of the bytes is wrong in is an image within the limits
pub found : (b : List ℕ) → IsBytes b → first_wrong b ≡ None → IsFileOf b (image_at b)
found b fits h =
    let w = whole b h in
    let s = sizes b w.header in
    let p = parts b fits w in
    let i = image_at b in
    record {
      image = record {
        text = All-from_recursion (λ n. n < 2 ^ 32) i.text p.text.1;
        statics = bytes_part b (24 + 4 * word_at b 4) (word_at b 8) fits;
        stack = word_fits b 12 fits;
        entry = word_fits b 16 fits;
        records = All-from_recursion IsRecord i.listing.records (sound_images i.listing.records p.records.1);
      };
      limits = record {
        text = omega (arith, p.text.2, s.text);
        statics = omega (arith, p.statics_length, s.statics);
        stack = s.stack;
        stack_step = s.stack_step;
        entry_low = s.entry_low;
        entry_high = omega (arith, p.text.2, s.entry_high);
        entry_step = s.entry_step;
        records = omega (arith, p.records.2, word_fits b 20 fits);
        told = All-from_recursion IsToldRecord i.listing.records (sound_told i.listing.records p.records.1);
      };
      same = spelled b fits s p;
    }
