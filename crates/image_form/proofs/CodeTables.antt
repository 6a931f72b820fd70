-- The codes of a listing lead to what they name and back.
use Rattle.std.proofs.Common.{◌≡◌, ℕ, zero, suc, ◌/◌, ◌%◌, ◌<◌, ◌≤◌, Bool, true, false, not, ◌&&◌, ◌||◌, eqb, leb, refl, ap, ◌∙◌, ◌⊎◌, inl, inr, subst, arith}
use Rattle.std.specs.Int.{is_in_range}
use Rattle.std.proofs.lemmas.Bool.{eqb-true, leb-true, cases_lt}
use Rattle.word_ops.specs.declared.operation.Op.{Op}
use Rattle.word_ops.specs.declared.operation.Op.TheVariants as ops
use Rattle.word_ops.specs.declared.operation.Width.{Width}
use Rattle.word_ops.specs.declared.operation.Width.TheVariants as widths
use Rattle.term_form.specs.declared.listing.TermKind.{TermKind}
use Rattle.term_form.specs.declared.listing.TermKind.TheVariants as kinds
use Rattle.term_form.specs.declared.listing.Mode.{Mode}
use Rattle.term_form.specs.declared.listing.Mode.TheVariants as modes
use Rattle.term_form.specs.declared.listing.EndKind.{EndKind}
use Rattle.term_form.specs.declared.listing.EndKind.TheVariants as ends
use Rattle.image_form.specs.Codes.{end_code, kind_code, mode_code, term_code, op_code}
use Rattle.image_form.specs.Contents.{kind_of, mode_of, end_of}
use Rattle.image_form.specs.Rightness.{is_term_code}

both : (s t : Bool) → s && t ≡ true → (s ≡ true) × (t ≡ true)
both true t h = (refl, h)
both false t h = absurd cc

-- a test of each number below a bound
unfoldable pub all_below : (ℕ → Bool) → ℕ → Bool
all_below test zero = true
all_below test (suc n) = test n && all_below test n

pub at_each : (test : ℕ → Bool) (n k : ℕ) → all_below test n ≡ true → k < n → test k ≡ true
unfolding all_below
at_each test zero k h lt = absurd (omega arith)
at_each test (suc n) k h lt =
    let p = both (test n) (all_below test n) h in
    elim (cases_lt k n) [
      | inl less ↦ at_each test n k p.1 less
      | inr here ↦ let same : n ≡ k = omega arith in subst (λ i. test i ≡ true) same p.0
    ]

-- a number is the code of a kind of term
is_kind : ℕ → Bool
is_kind n = is_in_range 1 27 n || is_in_range 100 106 n || is_in_range 110 114 n

table : ℕ → Bool
unfolding is_kind
table n = not (is_kind n) || eqb (kind_code (kind_of n)) n

table_holds : all_below table 115 ≡ true
unfolding all_below table is_kind
table_holds = refl

-- the bounds that a test of a range says
pub range_is : (low high n : ℕ) → is_in_range low high n ≡ true → (low ≤ n) × (n ≤ high)
range_is low high n h = let p = both (leb low n) (leb n high) h in (leb-true low n p.0, leb-true n high p.1)

either : (s t : Bool) → s || t ≡ true → (s ≡ true) ⊎ (t ≡ true)
either true t h = inl refl
either false t h = inr h

kind_small : (n : ℕ) → is_kind n ≡ true → n < 115
unfolding is_kind
kind_small n h =
    elim (either (is_in_range 1 27 n || is_in_range 100 106 n) (is_in_range 110 114 n) h) [
      | inl low ↦ elim (either (is_in_range 1 27 n) (is_in_range 100 106 n) low) [
        | inl a ↦ omega (arith, range_is 1 27 n a)
        | inr b ↦ omega (arith, range_is 100 106 n b)
      ]
      | inr c ↦ omega (arith, range_is 110 114 n c)
    ]

kind_kept : (n : ℕ) → is_kind n ≡ true → kind_code (kind_of n) ≡ n
unfolding table
kind_kept n h =
    let t : not (is_kind n) || eqb (kind_code (kind_of n)) n ≡ true = at_each table 115 n table_holds (kind_small n h) in
    eqb-true _ _ (subst (λ (s : Bool). not s || eqb (kind_code (kind_of n)) n ≡ true) h t)

mode_kept : (m : ℕ) → is_in_range 1 3 m ≡ true → mode_code (mode_of m) ≡ m
mode_kept zero h = absurd cc
mode_kept (suc zero) h = refl
mode_kept (suc (suc zero)) h = refl
mode_kept (suc (suc (suc zero))) h = refl
mode_kept (suc (suc (suc (suc m)))) h = let p = range_is 1 3 (suc (suc (suc (suc m)))) h in absurd (omega arith)

-- a word that is an op code with a mode is that of the kind and the mode that it leads to
pub term_code_kept : (w : ℕ) → is_term_code w ≡ true → term_code (kind_of (w % 65536)) (mode_of (w / 65536)) ≡ w
unfolding is_kind
term_code_kept w h =
    let p = both (is_in_range 1 3 (w / 65536)) (is_in_range 1 27 (w % 65536) || is_in_range 100 106 (w % 65536) || is_in_range 110 114 (w % 65536)) h in
    let kind = kind_kept (w % 65536) p.1 in
    let mode = mode_kept (w / 65536) p.0 in
    omega arith

op_back : (op : Op) → (kind_of (op_code op) ≡ kinds.Operate op) × (is_kind (op_code op) ≡ true)
unfolding is_kind
op_back ops.Add = (refl, refl)
op_back _ = (refl, refl)

load_back : (width : Width) → (kind_of (kind_code (kinds.Load width)) ≡ kinds.Load width) × (is_kind (kind_code (kinds.Load width)) ≡ true)
unfolding is_kind
load_back widths.U8 = (refl, refl)
load_back _ = (refl, refl)

kind_back : (kind : TermKind) → (kind_of (kind_code kind) ≡ kind) × (is_kind (kind_code kind) ≡ true)
unfolding is_kind
kind_back (kinds.Operate op) = op_back op
kind_back (kinds.Load width) = load_back width
kind_back _ = (refl, refl)

mode_back : (mode : Mode) → (mode_of (mode_code mode) ≡ mode) × (is_in_range 1 3 (mode_code mode) ≡ true)
mode_back modes.After = (refl, refl)
mode_back _ = (refl, refl)

-- the word of a kind and a mode is right and leads back to them
pub record TermCode (kind : TermKind) (mode : Mode) : Type 0 where
  pub kind_again : kind_of (term_code kind mode % 65536) ≡ kind
  pub mode_again : mode_of (term_code kind mode / 65536) ≡ mode
  pub right : is_term_code (term_code kind mode) ≡ true

pub term_code_again : (kind : TermKind) (mode : Mode) → TermCode kind mode
unfolding is_kind
term_code_again kind mode =
    let k = kind_back kind in
    let m = mode_back mode in
    let small = kind_small (kind_code kind) k.1 in
    let low : term_code kind mode % 65536 ≡ kind_code kind = omega arith in
    let high : term_code kind mode / 65536 ≡ mode_code mode = omega arith in
    record {
      kind_again = ap kind_of low ∙ k.0;
      mode_again = ap mode_of high ∙ m.0;
      right = rw (low, high, m.1) k.1;
    }

pub end_kept : (n : ℕ) → is_in_range 1 4 n ≡ true → end_code (end_of n) ≡ n
end_kept zero h = absurd cc
end_kept (suc zero) h = refl
end_kept (suc (suc zero)) h = refl
end_kept (suc (suc (suc zero))) h = refl
end_kept (suc (suc (suc (suc zero)))) h = refl
end_kept (suc (suc (suc (suc (suc n))))) h = let p = range_is 1 4 (suc (suc (suc (suc (suc n))))) h in absurd (omega arith)

pub end_back : (kind : EndKind) → (end_of (end_code kind) ≡ kind) × (is_in_range 1 4 (end_code kind) ≡ true)
end_back ends.Jump = (refl, refl)
end_back _ = (refl, refl)
