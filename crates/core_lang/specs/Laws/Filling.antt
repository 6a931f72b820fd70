-- Laws of filling: an object that may be written is filled by stores of zeros.
-- No contract cites this file: it holds proofs.
use Rattle.std.proofs.Common.{◌≡◌, refl, sym, ap, ◌∙◌, subst, ℕ, zero, suc, ◌+◌, ◌*◌, ◌≤◌, List, [], ◌∷◌, ◌++◌, length, take, drop, arith, ⊎_elim, replicate, length-append, length-drop}
use Rattle.std.proofs.Math.Nat.{suc-mul}
use Rattle.std.proofs.lemmas.List.{append-nil, length-replicate}
use Rattle.std.proofs.lemmas.Bool.Decides.{eqb_tells, nat_tests}
use Rattle.std.specs.Prelude.{Some, Bool, true, false, not, ◌&&◌, ◌==◌, ◌/◌, ◌%◌, nat_le, slice_get, slice_set}
use Rattle.std.specs.Option.{option_and_then}
use Rattle.word_ops.specs.declared.operation.Width.{Width}
use Rattle.word_ops.specs.declared.operation.Width.TheVariants.{U8, S8, U16, S16, Word}
use Rattle.word_ops.specs.Choice.{only_if, when}
use Rattle.word_ops.specs.Store.{Number, Pointer, Cell, Byte, Region, Store, change_found, refill_region}
use Rattle.word_ops.specs.Access.{bytes_of, number_cells, may_access, with_cells, put_in, put_cells, is_constant_in, initialise, write}
use Rattle.word_ops.specs.Laws.Lists.{slice_get-slice_set, slice_set-twice, slice_set-same}
use Rattle.core_lang.specs.Filling.{widths_of_fill, store_zeros}

-- ---- lists

abbrev zeros : ℕ → List Cell
zeros n = replicate n (Byte 0)

-- zeros at the first places of a list, and then zeros at the next ones
more_zeros : (o b : ℕ) (cs : List Cell) → o ≤ length cs →
    take o (zeros o ++ drop o cs) ++ (zeros b ++ drop (o + b) (zeros o ++ drop o cs)) ≡ zeros (o + b) ++ drop (o + b) cs
more_zeros zero b cs le =
    let z : 0 + b ≡ b = omega arith in
    ap (λ n. zeros b ++ drop n cs) z ∙ sym (ap (λ n. zeros n ++ drop n cs) z)
more_zeros (suc o) b [] le = absurd (omega (arith, le))
more_zeros (suc o) b (c ∷ cs) le =
    let z : suc o + b ≡ suc (o + b) = omega arith in
    ap (λ n. Byte 0 ∷ (take o (zeros o ++ drop o cs) ++ (zeros b ++ drop n (Byte 0 ∷ (zeros o ++ drop o cs))))) z
    ∙ ap (λ l. Byte 0 ∷ l) (more_zeros o b cs (omega (arith, le)))
    ∙ sym (ap (λ n. zeros n ++ drop n (c ∷ cs)) z)

all_zeros : (cs : List Cell) → zeros (length cs) ++ drop (length cs) cs ≡ zeros (length cs)
all_zeros [] = refl
all_zeros (c ∷ cs) = ap (λ l. Byte 0 ∷ l) (all_zeros cs)

-- ---- stores of zeros

-- a region whose first cells are zero
abbrev zeroed : Region → ℕ → Region
zeroed g o = record g { cells = zeros o ++ drop o g.cells }

length_zeroed : (g : Region) (o : ℕ) → o ≤ length g.cells → length (zeroed g o).cells ≡ length g.cells
length_zeroed g o le =
    length-append (zeros o) (drop o g.cells)
    ∙ omega (arith, length-replicate o (Byte 0), length-drop o g.cells, le)

zero_cells_of : (k : Width) → number_cells (bytes_of k) 0 ≡ zeros (bytes_of k)
zero_cells_of U8 = refl
zero_cells_of S8 = refl
zero_cells_of U16 = refl
zero_cells_of S16 = refl
zero_cells_of Word = refl

is_true : (a b : ℕ) → a ≡ b → a == b ≡ true
is_true a b e = ⊎_elim (λ t. t.0) (λ n. absurd (n.1 e)) (eqb_tells a b)

may_true : (live : Bool) (o b n : ℕ) (a : Bool) → live ≡ true → a ≡ true → o + b ≤ n → live && (a && nat_le (o + b) n) ≡ true
may_true true o b n true l q le = grind (arith, nat_tests)
may_true false o b n a l q le = absurd (false_true l)
  where
    false_true : false ≡ true → ⊥
    false_true e = cc
may_true true o b n false l q le = absurd (false_true q)
  where
    false_true : false ≡ true → ⊥
    false_true e = cc

-- the next place of a width is aligned
pub next_aligned : (k : Width) (o : ℕ) → o % bytes_of k ≡ 0 → (o + bytes_of k) % bytes_of k ≡ 0
next_aligned U8 o h = omega (arith, h)
next_aligned S8 o h = omega (arith, h)
next_aligned U16 o h = omega (arith, h)
next_aligned S16 o h = omega (arith, h)
next_aligned Word o h = omega (arith, h)

module _ (s : Store) (r : ℕ) (g : Region) (there : slice_get s r ≡ Some g) (alive : g.live ≡ true) (modifiable : g.constant ≡ false) where
  abbrev at : ℕ → Store
  at o = slice_set s r (zeroed g o)

  at_there : (o : ℕ) → slice_get (at o) r ≡ Some (zeroed g o)
  at_there o = slice_get-slice_set s r g (zeroed g o) there

  -- one store of zeros where the cells before are zero
  one : (k : Width) (o : ℕ) → o % bytes_of k == 0 ≡ true → o + bytes_of k ≤ length g.cells →
      write (at o) k (Pointer r o) (Number 0) ≡ Some (at (o + bytes_of k))
  one k o aligned le =
      let b = bytes_of k in
      let z = zeroed g o in
      let access : may_access z (length (zeros b)) b o ≡ true = ap (λ n. may_access z n b o) (length-replicate b (Byte 0)) ∙ ap (λ n. g.live && ((o % b == 0) && nat_le (o + b) n)) (length_zeroed g o (omega (arith, le))) ∙ may_true g.live o b (length g.cells) (o % b == 0) alive aligned le in
      let cells : (with_cells z o (zeros b)).cells ≡ (zeroed g (o + b)).cells = ap (λ n. take o z.cells ++ (zeros b ++ drop (o + n) z.cells)) (length-replicate b (Byte 0)) ∙ more_zeros o b g.cells (omega (arith, le)) in
      let put : put_cells (at o) (Pointer r o) b (zeros b) ≡ Some (at (o + b)) = ap (put_in (at o) r o b (zeros b)) (at_there o) ∙ ap (λ t. only_if t (slice_set (at o) r (with_cells z o (zeros b)))) access ∙ ap (λ st. Some st) (slice_set-twice s r z (with_cells z o (zeros b))) ∙ ap (λ cs. Some (slice_set s r (record g { cells = cs }))) cells in
      ap (λ x. when (not (is_constant_in x)) (initialise (at o) k (Pointer r o) (Number 0))) (at_there o)
      ∙ ap (λ c. when (not c) (initialise (at o) k (Pointer r o) (Number 0))) modifiable
      ∙ ap (put_cells (at o) (Pointer r o) b) (zero_cells_of k)
      ∙ put

  -- each store lies at a multiple of its width, and all of them take so many bytes
  abbrev Fits : ℕ → List Width → Type 0
  Fits o [] = o ≡ length g.cells
  Fits o (k ∷ ks) = (o % bytes_of k == 0 ≡ true) × (o + bytes_of k ≤ length g.cells) × Fits (o + bytes_of k) ks

  many : (o : ℕ) (ks : List Width) → Fits o ks → store_zeros (at o) r o ks ≡ Some (at (length g.cells))
  many o [] h = ap (λ o. Some (at o)) h
  many o (k ∷ ks) h =
      ap (option_and_then (λ t. store_zeros t r (o + bytes_of k) ks)) (one k o h.0 h.1) ∙ many (o + bytes_of k) ks h.2

  -- several of one width, and others behind them
  several : (k : Width) (m o : ℕ) (ks : List Width) → o % bytes_of k ≡ 0 → o + m * bytes_of k ≤ length g.cells →
      Fits (o + m * bytes_of k) ks → Fits o (replicate m k ++ ks)
  several k zero o ks a le h = let z : o + zero * bytes_of k ≡ o = omega arith in subst (λ o. Fits o ks) z h
  several k (suc m) o ks a le h =
      let z : o + suc m * bytes_of k ≡ o + bytes_of k + m * bytes_of k = omega (arith, suc-mul m (bytes_of k)) in
      (is_true (o % bytes_of k) 0 a, omega (arith, le, z), several k m (o + bytes_of k) ks (next_aligned k o a) (omega (arith, le, z)) (subst (λ o. Fits o ks) z h))

  fits : (n : ℕ) → n ≡ length g.cells → Fits 0 (widths_of_fill n)
  fits n e =
      several Word (n / 4) 0 (replicate (n % 4 / 2) U16 ++ replicate (n % 2) U8) refl (omega (arith, e)) (several U16 (n % 4 / 2) (0 + n / 4 * 4) (replicate (n % 2) U8) (omega arith) (omega (arith, e)) (subst (Fits (0 + n / 4 * 4 + n % 4 / 2 * 2)) (append-nil (replicate (n % 2) U8)) (several U8 (n % 2) (0 + n / 4 * 4 + n % 4 / 2 * 2) [] (omega arith) (omega (arith, e)) (omega (arith, e)))))

  filled : store_zeros s r 0 (widths_of_fill (length g.cells)) ≡ Some (refill_region s r (Byte 0))
  filled =
      ap (λ s. store_zeros s r 0 (widths_of_fill (length g.cells))) (sym (slice_set-same s r (zeroed g 0) there))
      ∙ many 0 (widths_of_fill (length g.cells)) (fits (length g.cells) refl)
      ∙ ap (λ cs. Some (slice_set s r (record g { cells = cs }))) (all_zeros g.cells)
      ∙ ap (λ x. Some (change_found s r (λ g. record g { cells = replicate (length g.cells) (Byte 0) }) x)) (sym there)

-- an object that lives and is not constant is filled by stores of zeros
pub store_zeros-fill : (s : Store) (r : ℕ) (g : Region) → slice_get s r ≡ Some g → g.live ≡ true → g.constant ≡ false →
    store_zeros s r 0 (widths_of_fill (length g.cells)) ≡ Some (refill_region s r (Byte 0))
store_zeros-fill s r g there alive modifiable = filled s r g there alive modifiable
