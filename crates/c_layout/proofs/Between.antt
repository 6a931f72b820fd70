-- Members lie in their structure.
use Rattle.std.proofs.Common.{◌≡◌, refl, sym, ap, ◌∙◌, ℕ, ◌+◌, ◌-◌, ◌%◌, ◌^◌, ◌<◌, ◌≤◌, true, List, [], ◌∷◌, Option, Some, None, unwrap_or, arith}
use Rattle.std.proofs.Math.Nat.{mod-lt, mod_self, mod-add-mod, add-mod-mod}
use Rattle.c_tree.specs.declared.typed.types.CType.{CType, out-CType}
use Rattle.c_layout.specs.Tags.{Structs, is_alignment, are_aligned}
use Rattle.c_layout.specs.Sizes.{capped, base_alignment, alignment_of, is_alignment_if_any}
use Rattle.c_layout.specs.Structures.{Declared, strictness_of, next_multiple, start_behind, end_behind, end_of, placed, strictest, layout}
use Rattle.c_layout.specs.Laws.{LieBetween}
use Rattle.c_layout.proofs.Caps.{capped_low}
use Rattle.c_layout.proofs.Completeness.{aligned-aligned, base_alignment-aligned}
use Rattle.c_layout.proofs.Members.{is_alignment-positive, is_alignment-max}

pub next_multiple-multiple : (n a : ℕ) → 0 < a → next_multiple n a % a ≡ 0
next_multiple-multiple n a pos =
    let below : n % a < a = mod-lt n pos in
    let whole : n % a + (a - n % a) ≡ a = omega (arith, below) in
    add-mod-mod n (a - n % a) a ∙ sym (mod-add-mod n a (a - n % a)) ∙ ap (λ k. k % a) whole ∙ mod_self a

pub next_multiple-above : (n a : ℕ) → n ≤ next_multiple n a
next_multiple-above n a = omega arith

pub next_multiple-least : (n a : ℕ) → 0 < a → next_multiple n a < n + a
next_multiple-least n a pos = let below : (a - n % a) % a < a = mod-lt (a - n % a) pos in omega (arith, below)

-- ---- alignments

if_any-positive : (o : Option ℕ) → is_alignment_if_any o ≡ true → is_alignment (unwrap_or o 1) ≡ true
if_any-positive None h = refl
if_any-positive (Some a) h = h

strictness-aligned : (tags : Structs) (t : CType) → are_aligned tags ≡ true → is_alignment (strictness_of tags t) ≡ true
strictness-aligned tags t h =
    if_any-positive (alignment_of tags t)
    (aligned-aligned (out-CType t).derived (base_alignment tags (out-CType t).base) (base_alignment-aligned tags (out-CType t).base h))

pub strictest-aligned : (tags : Structs) (ms : List Declared) → are_aligned tags ≡ true →
    is_alignment (strictest tags ms) ≡ true
strictest-aligned tags [] h = refl
strictest-aligned tags (m ∷ ms) h =
    is_alignment-max (strictness_of tags m.1) (strictest tags ms) (strictness-aligned tags m.1 h) (strictest-aligned tags ms h)

-- ---- members

pub end_of-above : (tags : Structs) (e : ℕ) (ms : List Declared) → e ≤ end_of tags e ms
end_of-above tags e [] = omega arith
end_of-above tags e (m ∷ ms) =
    let rest : end_behind tags e m ≤ end_of tags (end_behind tags e m) ms = end_of-above tags (end_behind tags e m) ms in
    let first : e ≤ start_behind tags e m = next_multiple-above e (strictness_of tags m.1) in
    omega (arith, rest, first)

pub placed-between : (tags : Structs) (e to : ℕ) (ms : List Declared) → are_aligned tags ≡ true →
    end_of tags e ms ≤ to → to ≤ 2 ^ 64 - 1 → LieBetween tags e to (placed tags e ms)
placed-between tags e to [] h below held = below
placed-between tags e to (m ∷ ms) h below held =
    let rest : end_behind tags e m ≤ end_of tags (end_behind tags e m) ms = end_of-above tags (end_behind tags e m) ms in
    let told : capped (start_behind tags e m) ≡ start_behind tags e m =
    capped_low (start_behind tags e m) (omega (arith, rest, below, held)) in
    rw told
    (next_multiple-above e (strictness_of tags m.1), next_multiple-multiple e (strictness_of tags m.1) (is_alignment-positive (strictness_of tags m.1) (strictness-aligned tags m.1 h)), placed-between tags (end_behind tags e m) to ms h below held)

-- ---- the whole structure

-- a size that is told in 64 bits and is not the greatest number is the size itself
told_below : (n : ℕ) → capped n < 2 ^ 64 - 1 → capped n ≡ n
told_below n below = omega (arith, below)

pub layout-multiple : (tags : Structs) (ms : List Declared) → are_aligned tags ≡ true →
    (layout tags ms).size < 2 ^ 64 - 1 → (layout tags ms).size % (layout tags ms).alignment ≡ 0
layout-multiple tags ms h below =
    let whole = next_multiple (end_of tags 0 ms) (strictest tags ms) in
    ap (λ n. n % strictest tags ms) (told_below whole below)
    ∙ next_multiple-multiple (end_of tags 0 ms) (strictest tags ms) (is_alignment-positive (strictest tags ms) (strictest-aligned tags ms h))

pub layout-between : (tags : Structs) (ms : List Declared) → are_aligned tags ≡ true →
    (layout tags ms).size < 2 ^ 64 - 1 → LieBetween tags 0 (layout tags ms).size (layout tags ms).members
layout-between tags ms h below =
    let above : end_of tags 0 ms ≤ next_multiple (end_of tags 0 ms) (strictest tags ms) =
    next_multiple-above (end_of tags 0 ms) (strictest tags ms) in
    placed-between tags 0 (capped (next_multiple (end_of tags 0 ms) (strictest tags ms))) ms h (omega (arith, above, below)) (omega (arith, below))
