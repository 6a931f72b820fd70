-- A number that is read is the number that was written, and what was written is read again.
use Rattle.std.proofs.Common.{◌≡◌, ℕ, zero, suc, ◌+◌, ◌-◌, ◌*◌, ◌^◌, ◌<◌, ◌≤◌, length, get_or, drop, List, [], ◌∷◌, ◌++◌, refl, sym, ap, ◌∙◌, arith}
use Rattle.std.specs.List.{flat_map, AllByRecursion}
use Rattle.std.specs.Int.{w32, from_le_bytes}
use Rattle.std.proofs.lemmas.List.{append_assoc, drop_more, drop-drop, get_or-drop, length-drop}
use Rattle.std.proofs.lemmas.Nat.{le_bytes_4, from_le_bytes-to_le_bytes_4}
use Rattle.image_form.specs.Bytes.{number_bytes}
use Rattle.image_form.specs.Form.{word_at}
use Rattle.image_form.specs.Contents.{words_at}

abbrev pub IsBytes : List ℕ → Type 0
IsBytes b = (i : ℕ) → get_or b i 0 < 256

abbrev pub AreWords : List ℕ → Type 0
AreWords ws = AllByRecursion (λ w. w < 2 ^ 32) ws

-- a number of bytes is a word
pub word_fits : (b : List ℕ) (at : ℕ) → IsBytes b → word_at b at < 2 ^ 32
unfolding word_at
word_fits b at fits = omega (arith, fits at, fits (at + 1), fits (at + 2), fits (at + 3))

four_fit : (a b c d : ℕ) → a < 256 → b < 256 → c < 256 → d < 256 → IsBytes (a ∷ b ∷ c ∷ d ∷ [])
four_fit a b c d p q r s zero = p
four_fit a b c d p q r s (suc zero) = q
four_fit a b c d p q r s (suc (suc zero)) = r
four_fit a b c d p q r s (suc (suc (suc zero))) = s
four_fit a b c d p q r s (suc (suc (suc (suc i)))) = omega arith

-- the rest of a list from a place, by its first element there
rest_at : (b : List ℕ) (at k : ℕ) → at + k < length b → drop (at + k) b ≡ get_or b (at + k) 0 ∷ drop (at + suc k) b
rest_at b at k h = let next : at + k + 1 ≡ at + suc k = omega arith in drop_more b (at + k) 0 h ∙ ap (λ n. get_or b (at + k) 0 ∷ drop n b) next

-- the number at an offset is spelled there
pub number_here : (b : List ℕ) (at : ℕ) → IsBytes b → at + 4 ≤ length b → drop at b ≡ number_bytes (word_at b at) ++ drop (at + 4) b
unfolding word_at
number_here b at fits h =
    let bs = get_or b at 0 ∷ get_or b (at + 1) 0 ∷ get_or b (at + 2) 0 ∷ get_or b (at + 3) 0 ∷ [] in
    let within = four_fit (get_or b at 0) (get_or b (at + 1) 0) (get_or b (at + 2) 0) (get_or b (at + 3) 0) (fits at) (fits (at + 1)) (fits (at + 2)) (fits (at + 3)) in
    let spelled : number_bytes (word_at b at) ≡ bs = le_bytes_4 bs (word_at b at) refl within refl in
    let parts : drop at b ≡ bs ++ drop (at + 4) b =
    drop_more b at 0 (omega arith)
    ∙ ap (λ t. get_or b at 0 ∷ t) (rest_at b at 1 (omega arith))
    ∙ ap (λ t. get_or b at 0 ∷ get_or b (at + 1) 0 ∷ t) (rest_at b at 2 (omega arith))
    ∙ ap (λ t. get_or b at 0 ∷ get_or b (at + 1) 0 ∷ get_or b (at + 2) 0 ∷ t) (rest_at b at 3 (omega arith)) in
    parts ∙ ap (λ t. t ++ drop (at + 4) b) (sym spelled)

-- what stands at a place of a part
there_at : (b rest : List ℕ) (at k : ℕ) → drop at b ≡ rest → get_or b (at + k) 0 ≡ get_or rest k 0
there_at b rest at k e = sym (get_or-drop at b k 0) ∙ ap (λ t. get_or t k 0) e

-- a number that is spelled at an offset is read there
pub number_again : (b rest : List ℕ) (at n : ℕ) → n < 2 ^ 32 → drop at b ≡ number_bytes n ++ rest → (word_at b at ≡ n) × (drop (at + 4) b ≡ rest) × (at + 4 ≤ length b)
unfolding word_at
number_again b rest at n h e =
    let first : get_or b at 0 ≡ get_or (number_bytes n) 0 0 = ap (λ i. get_or b i 0) (omega arith) ∙ there_at b (number_bytes n ++ rest) at 0 e in
    let value : word_at b at ≡ from_le_bytes w32 (number_bytes n) =
    rw (first, there_at b (number_bytes n ++ rest) at 1 e, there_at b (number_bytes n ++ rest) at 2 e, there_at b (number_bytes n ++ rest) at 3 e) refl in
    let long : length b - at ≡ suc (suc (suc (suc (length rest)))) = sym (length-drop at b) ∙ ap length e in
    (value ∙ from_le_bytes-to_le_bytes_4 n h, sym (drop-drop 4 at b) ∙ ap (drop 4) e, omega arith)

-- numbers in a row
pub words_here : (b : List ℕ) (at n : ℕ) → IsBytes b → at + 4 * n ≤ length b → (drop at b ≡ flat_map number_bytes (words_at b at n) ++ drop (at + 4 * n) b) × AreWords (words_at b at n) × (length (words_at b at n) ≡ n)
unfolding words_at
words_here b at zero fits h = (ap (λ k. drop k b) (omega arith), tt, refl)
words_here b at (suc n) fits h =
    let more = words_here b (at + 4) n fits (omega arith) in
    let end : at + 4 + 4 * n ≡ at + 4 * suc n = omega arith in
    let first = number_here b at fits (omega arith) in
    let all : drop at b ≡ (number_bytes (word_at b at) ++ flat_map number_bytes (words_at b (at + 4) n)) ++ drop (at + 4 * suc n) b =
    first ∙ ap (λ t. number_bytes (word_at b at) ++ t) (more.0 ∙ ap (λ k. flat_map number_bytes (words_at b (at + 4) n) ++ drop k b) end)
    ∙ sym (append_assoc (number_bytes (word_at b at)) (flat_map number_bytes (words_at b (at + 4) n)) (drop (at + 4 * suc n) b)) in
    (all, (word_fits b at fits, more.1), ap suc more.2)

pub words_again : (b rest ws : List ℕ) (at : ℕ) → AreWords ws → drop at b ≡ flat_map number_bytes ws ++ rest → (words_at b at (length ws) ≡ ws) × (drop (at + 4 * length ws) b ≡ rest)
unfolding words_at
words_again b rest [] at fits e = (refl, ap (λ k. drop k b) (omega arith) ∙ e)
words_again b rest (w ∷ ws) at fits e =
    let split : drop at b ≡ number_bytes w ++ (flat_map number_bytes ws ++ rest) = e ∙ append_assoc (number_bytes w) (flat_map number_bytes ws) rest in
    let first = number_again b (flat_map number_bytes ws ++ rest) at w fits.0 split in
    let more = words_again b rest ws (at + 4) fits.1 first.1 in
    let end : at + 4 * suc (length ws) ≡ at + 4 + 4 * length ws = omega arith in
    (rw (first.0, more.0) refl, ap (λ k. drop k b) end ∙ more.1)
