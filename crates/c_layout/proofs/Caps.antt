-- A size that is capped at each derivation is capped at the end.
use Rattle.std.proofs.Common.{◌≡◌, refl, sym, ap, ◌∙◌, ℕ, zero, suc, ◌+◌, ◌-◌, ◌*◌, ◌^◌, ◌<◌, ◌≤◌, List, [], ◌∷◌, Option, Some, None, drop, length, get_or, arith, ◌⊎◌, inl, inr}
use Rattle.std.proofs.Math.Nat.{suc-mul}
use Rattle.std.proofs.lemmas.Bool.{cases_lt}
use Rattle.std.proofs.lemmas.List.{at_drop_more}
use Rattle.c_tree.specs.declared.typed.types.Derived.{Derived}
use Rattle.c_tree.specs.declared.typed.types.Derived.TheVariants as derived
use Rattle.c_layout.specs.Sizes.{capped, capped_size, sized, aligned, derived_size, derived_alignment}

pub capped_low : (n : ℕ) → n ≤ 2 ^ 64 - 1 → capped n ≡ n
capped_low n below = omega (arith, below)

pub capped_high : (n : ℕ) → 2 ^ 64 - 1 ≤ n → capped n ≡ 2 ^ 64 - 1
capped_high n above = omega (arith, above)

-- an array of capped elements
times_capped : (k n : ℕ) → (n < 2 ^ 64 - 1) ⊎ (2 ^ 64 - 1 ≤ n) → capped (k * capped n) ≡ capped (k * n)
times_capped zero n side = omega arith
times_capped (suc k) n (inl below) = ap (λ m. capped (suc k * m)) (capped_low n (omega (arith, below)))
times_capped (suc k) n (inr above) =
    let a : 2 ^ 64 - 1 ≤ suc k * (2 ^ 64 - 1) = rw (suc-mul k (2 ^ 64 - 1)) (omega arith) in
    let b : 2 ^ 64 - 1 ≤ suc k * n = rw (suc-mul k n) (omega (arith, above)) in
    ap (λ m. capped (suc k * m)) (capped_high n above) ∙ capped_high (suc k * (2 ^ 64 - 1)) a ∙ sym (capped_high (suc k * n) b)

pub derived_size_capped : (o : Option ℕ) (d : Derived) →
    capped_size (derived_size (capped_size o) d) ≡ capped_size (derived_size o d)
derived_size_capped o (derived.Pointer c) = refl
derived_size_capped (Some n) (derived.Array (Some k)) = ap Some (times_capped k n (cases_lt n (2 ^ 64 - 1)))
derived_size_capped None (derived.Array (Some k)) = refl
derived_size_capped o (derived.Array None) = refl
derived_size_capped o (derived.Function' n ps) = refl

pub sized_capped : (ds : List Derived) (o : Option ℕ) → capped_size (sized (capped_size o) ds) ≡ capped_size (sized o ds)
sized_capped [] None = refl
sized_capped [] (Some n) = ap Some (omega arith)
sized_capped (d ∷ ds) o =
    sym (sized_capped ds (derived_size (capped_size o) d)) ∙ ap (λ p. capped_size (sized p ds)) (derived_size_capped o d)
    ∙ sized_capped ds (derived_size o d)

-- one derivation more
pub sized_more : (ds : List Derived) (i : ℕ) (d : Derived) (o : Option ℕ) → i < length ds → d ≡ get_or ds i d →
    capped_size (sized (capped_size (derived_size o d)) (drop (i + 1) ds)) ≡ capped_size (sized o (drop i ds))
sized_more ds i d o below is =
    sized_capped (drop (i + 1) ds) (derived_size o d) ∙ ap (λ e. capped_size (sized (derived_size o e) (drop (i + 1) ds))) is
    ∙ sym (at_drop_more (λ l. capped_size (sized o l)) ds i d below)

pub aligned_more : (ds : List Derived) (i : ℕ) (d : Derived) (o : Option ℕ) → i < length ds → d ≡ get_or ds i d →
    aligned (derived_alignment o d) (drop (i + 1) ds) ≡ aligned o (drop i ds)
aligned_more ds i d o below is =
    ap (λ e. aligned (derived_alignment o e) (drop (i + 1) ds)) is ∙ sym (at_drop_more (λ l. aligned o l) ds i d below)
