-- One member more, and offsets that are capped at each member.
use Rattle.std.proofs.Common.{◌≡◌, refl, sym, ap, ◌∙◌, ℕ, zero, suc, ◌+◌, ◌-◌, ◌^◌, ◌<◌, ◌≤◌, ◌⊎◌, inl, inr, min, max, true, List, [], ◌∷◌, ◌++◌, All, arith}
use Rattle.std.proofs.lemmas.Bool.{cases_lt}
use Rattle.std.proofs.lemmas.List.Elements.{All-head, All-tail}
use Rattle.c_layout.specs.declared.tags.MemberLayout.{MemberLayout}
use Rattle.c_layout.specs.Tags.{Structs, is_alignment}
use Rattle.c_layout.specs.Sizes.{capped}
use Rattle.c_layout.specs.Structures.{Declared, strictness_of, next_multiple, start_behind, end_behind, end_of, placed, strictest}
use Rattle.c_layout.proofs.Caps.{capped_low, capped_high}

pub end_of-more : (tags : Structs) (e : ℕ) (ms : List Declared) (m : Declared) →
    end_of tags e (ms ++ m ∷ []) ≡ end_behind tags (end_of tags e ms) m
end_of-more tags e [] m = refl
end_of-more tags e (n ∷ ms) m = end_of-more tags (end_behind tags e n) ms m

-- a member where it lies
abbrev pub placed_at : Structs → ℕ → Declared → MemberLayout
placed_at tags e m = record { name = m.0; ctype = m.1; offset = capped (start_behind tags e m) }

pub placed-more : (tags : Structs) (e : ℕ) (ms : List Declared) (m : Declared) →
    placed tags e (ms ++ m ∷ []) ≡ placed tags e ms ++ placed_at tags (end_of tags e ms) m ∷ []
placed-more tags e [] m = refl
placed-more tags e (n ∷ ms) m = ap (λ l. placed_at tags e n ∷ l) (placed-more tags (end_behind tags e n) ms m)

pub strictest-more : (tags : Structs) (ms : List Declared) (m : Declared) →
    strictest tags (ms ++ m ∷ []) ≡ max (strictest tags ms) (strictness_of tags m.1)
strictest-more tags [] m = omega arith
strictest-more tags (n ∷ ms) m =
    ap (λ k. max (strictness_of tags n.1) k) (strictest-more tags ms m)
    ∙ max_assoc (strictness_of tags n.1) (strictest tags ms) (strictness_of tags m.1)
  where
    max_assoc : (a b c : ℕ) → max a (max b c) ≡ max (max a b) c
    max_assoc a b c = omega arith

-- what lies behind so many bytes lies behind them capped, as it is told
next_multiple_capped_by : (n a : ℕ) → (n < 2 ^ 64 - 1) ⊎ (2 ^ 64 - 1 ≤ n) →
    capped (next_multiple (capped n) a) ≡ capped (next_multiple n a)
next_multiple_capped_by n a (inl below) = ap (λ m. capped (next_multiple m a)) (capped_low n (omega (arith, below)))
next_multiple_capped_by n a (inr above) =
    ap (λ m. capped (next_multiple m a)) (capped_high n above)
    ∙ capped_high (next_multiple (2 ^ 64 - 1) a) (omega arith)
    ∙ sym (capped_high (next_multiple n a) (omega (arith, above)))

pub next_multiple_capped : (n a : ℕ) → capped (next_multiple (capped n) a) ≡ capped (next_multiple n a)
next_multiple_capped n a = next_multiple_capped_by n a (cases_lt n (2 ^ 64 - 1))

pub sum_capped : (m n : ℕ) → min (capped m + capped n) (2 ^ 64 - 1) ≡ capped (m + n)
sum_capped m n = omega arith

-- ---- alignments

pub is_alignment-positive : (a : ℕ) → is_alignment a ≡ true → 0 < a
is_alignment-positive zero h = cc
is_alignment-positive (suc n) h = omega arith

is_alignment-max_by : (a b : ℕ) → (a < b) ⊎ (b ≤ a) → is_alignment a ≡ true → is_alignment b ≡ true →
    is_alignment (max a b) ≡ true
is_alignment-max_by a b (inl below) h g = let e : max a b ≡ b = omega (arith, below) in rw e g
is_alignment-max_by a b (inr above) h g = let e : max a b ≡ a = omega (arith, above) in rw e h

pub is_alignment-max : (a b : ℕ) → is_alignment a ≡ true → is_alignment b ≡ true → is_alignment (max a b) ≡ true
is_alignment-max a b h g = is_alignment-max_by a b (cases_lt a b) h g

-- ---- what holds of each member holds of the one that comes next

pub All-next : {A : Type 0} (P : A → Type 0) (xs : List A) (x : A) (ys zs : List A) → xs ++ x ∷ ys ≡ zs → All P zs → P x
All-next P xs x ys zs e h = All-middle P xs x ys (rw e h)
  where
    All-middle : {A : Type 0} (P : A → Type 0) (xs : List A) (x : A) (ys : List A) → All P (xs ++ x ∷ ys) → P x
    All-middle P [] x ys h = All-head P x ys h
    All-middle P (y ∷ xs) x ys h = All-middle P xs x ys (All-tail P y (xs ++ x ∷ ys) h)
