-- What the laws ask can be met: the program of the examples is well formed, and its layout keeps its objects apart.
use Rattle.std.specs.Prelude.{◌%◌, ◌≡◌, ◌≢◌, ℕ, zero, suc, ◌+◌, ◌*◌, ◌<◌, ◌≤◌, ◌==◌, List, [], ◌∷◌, Some, slice_get}
use Rattle.std.proofs.Common.{refl, sym, ap, ◌∙◌, subst, arith, inl, inr, ⊎_elim}
use Rattle.std.proofs.lemmas.Bool.Decides.{eqb_tells}
use Rattle.std.proofs.lemmas.Option.{none-some, same_Some}
use Rattle.word_ops.specs.Stack.{bytes_of_objects}
use Rattle.word_ops.specs.Word.{number_of_truth}
use Rattle.core_lang.specs.declared.act.Atom.TheVariants as at
use Rattle.core_lang.specs.declared.act.Core.{Core}
use Rattle.core_lang.specs.declared.act.Core.TheVariants as c
use Rattle.core_lang.specs.declared.program.CoreFunction.{CoreFunction}
use Rattle.core_lang.specs.declared.program.Program.{Program}
use Rattle.core_lang.specs.declared.program.StaticObject.{StaticObject}
use Rattle.core_lang.specs.WellFormed.{AreActsIn, IsUnits, IsFunctionIn, ArePartsIn, IsWellFormed, places_in}
use Rattle.core_lang.specs.Counts.{count_of_acts, assigned_below}
use Rattle.core_lang.specs.Addresses.{LieApart, IsLayoutOf}
use Rattle.core_lang.specs.Examples.{computed, spacious, down, own, swap, objects, program, sum}

-- ---- a property at each place of a list

abbrev EachAt : {A : Type 0} → (ℕ → A → Type 0) → ℕ → List A → Type 0
EachAt P k [] = Unit {0}
EachAt P k (x ∷ xs) = P k x × EachAt P (k + 1) xs

each_at : {A : Type 0} (P : ℕ → A → Type 0) (k : ℕ) (xs : List A) (i : ℕ) (x : A) → EachAt P k xs →
    slice_get xs i ≡ Some x → P (k + i) x
each_at P k [] i x h e = absurd (none-some x e)
each_at P k (y ∷ xs) zero x h e =
    let z : k ≡ k + zero = omega arith in subst (λ j. P j x) z (subst (P k) (same_Some y x e) h.0)
each_at P k (y ∷ xs) (suc i) x h e =
    let z : k + 1 + i ≡ k + suc i = omega arith in subst (λ j. P j x) z (each_at P (k + 1) xs i x h.1 e)

at_each : {A : Type 0} (P : ℕ → A → Type 0) (xs : List A) (i : ℕ) (x : A) → EachAt P 0 xs → slice_get xs i ≡ Some x →
    P i x
at_each P xs i x h e = let z : 0 + i ≡ i = omega arith in subst (λ j. P j x) z (each_at P 0 xs i x h e)

-- ---- places

tells_not : (x y : ℕ) → x ≢ y → number_of_truth (x == y) ≡ 0
tells_not x y ne = ⊎_elim (λ e. absurd (ne e.1)) (λ n. ap number_of_truth n.0) (eqb_tells x y)

tells_most : (x y : ℕ) → number_of_truth (x == y) ≤ 1
tells_most x y =
    ⊎_elim (λ e. let t : number_of_truth (x == y) ≡ 1 = ap number_of_truth e.0 in omega (arith, t)) (λ n. let t : number_of_truth (x == y) ≡ 0 = ap number_of_truth n.0 in omega (arith, t)) (eqb_tells x y)

tells_one : (x y z : ℕ) → y ≢ z → number_of_truth (x == y) + number_of_truth (x == z) ≤ 1
tells_one x y z ne =
    ⊎_elim
    (λ e. let t = tells_not x z (λ q. ne (sym e.1 ∙ q)) in omega (arith, t, tells_most x y))
    (λ n. let t : number_of_truth (x == y) ≡ 0 = ap number_of_truth n.0 in omega (arith, t, tells_most x z))
    (eqb_tells x y)

above : (x y : ℕ) → y < x → number_of_truth (x == y) ≡ 0
above x y lt = tells_not x y (λ e. omega (arith, e, lt))

-- ---- the program of the examples whose main is the sum

main_formed : (g : CoreFunction) → slice_get (program sum).functions 0 ≡ Some g → IsFunctionIn (program sum) g
unfolding computed program sum down own swap objects
main_formed g e = subst (IsFunctionIn (program sum)) (same_Some _ g e) (record {
  params = omega arith;
  body = ((omega arith, omega arith), ((omega arith, omega arith), (((omega arith, inl (omega arith), omega arith), ((inr (inl refl), ((omega arith, inl (omega arith), inl (omega arith)), ((omega arith, inr (inl refl)), ((omega arith, inl (omega arith), omega arith), ((omega arith, inr (inl refl)), tt)))), (omega arith, tt)), tt)), (inl (omega arith), tt))));
  once = λ x le. omega (arith, above x 0 (omega (arith, le)), above x 1 (omega (arith, le)), tells_one x 4 5 (λ e. omega (arith, e)), tells_one x 4 6 (λ e. omega (arith, e)), tells_one x 5 6 (λ e. omega (arith, e)));
})

down_formed : (g : CoreFunction) → slice_get (program sum).functions 1 ≡ Some g → IsFunctionIn (program sum) g
unfolding computed program sum down own swap objects
down_formed g e = subst (IsFunctionIn (program sum)) (same_Some _ g e) (record {
  params = omega arith;
  body = ((inl (omega arith), ((omega arith, inl (omega arith), omega arith), ((omega arith, refl, (inr (inl refl), tt)), (inr (inl refl), tt))), tt), (omega arith, tt));
  once = λ x le. omega (arith, tells_one x 1 2 (λ e. omega (arith, e)));
})

own_formed : (g : CoreFunction) → slice_get (program sum).functions 2 ≡ Some g → IsFunctionIn (program sum) g
unfolding computed program sum down own swap objects
own_formed g e = subst (IsFunctionIn (program sum)) (same_Some _ g e) (record {
  params = omega arith;
  body = (omega arith, ((omega arith, omega arith), (omega arith, tt)));
  once = λ x le. omega arith;
})

swap_formed : (g : CoreFunction) → slice_get (program sum).functions 3 ≡ Some g → IsFunctionIn (program sum) g
unfolding computed program sum down own swap objects
swap_formed g e = subst (IsFunctionIn (program sum)) (same_Some _ g e) (record {
  params = omega arith;
  body = ((omega arith, inl (omega arith)), ((omega arith, inl (omega arith)), ((inl (omega arith), inr (inl refl)), ((inl (omega arith), inr (inr (inl refl))), tt))));
  once = λ x le. omega (arith, tells_one x 2 3 (λ e. omega (arith, e)));
})

functions_formed : (f : ℕ) (g : CoreFunction) → slice_get (program sum).functions f ≡ Some g → IsFunctionIn (program sum) g
unfolding program
functions_formed zero g e = main_formed g e
functions_formed (suc zero) g e = down_formed g e
functions_formed (suc (suc zero)) g e = own_formed g e
functions_formed (suc (suc (suc zero))) g e = swap_formed g e
functions_formed (suc (suc (suc (suc f)))) g e = absurd (past f g e)
  where
    past : (f : ℕ) (g : CoreFunction) → slice_get (program sum).functions (suc (suc (suc (suc f)))) ≡ Some g → ⊥
    past f g e = none-some g e

pub sum_formed : IsWellFormed (program sum)
unfolding computed program sum down own swap objects
sum_formed = record {
  main = record { params = refl; returns = refl; ends = refl; gives = refl };
  functions = functions_formed;
  objects = λ x o e. at_each (λ x o. ArePartsIn (program sum) o.size o.parts) objects x o ((omega arith, omega arith, (inl (omega arith), tt), (omega arith, omega arith, tt, tt)), ((omega arith, (refl, omega arith), tt, tt), tt)) e;
}

-- ---- its layout

-- places of at most 8 bytes each, 16 bytes after one another, lie apart
steps_apart : (x y n m : ℕ) → n ≤ 8 → m ≤ 8 → x ≢ y → LieApart (16 * x) n (16 * y) m
steps_apart x y n m a b ne = grind arith

-- no local object of the program is larger
sizes_small : (f : ℕ) (g : CoreFunction) (x n : ℕ) → slice_get (program sum).functions f ≡ Some g →
    slice_get g.locals x ≡ Some n → n ≤ 8
unfolding computed program sum down own swap objects
sizes_small f g x n e h =
    at_each (λ f g. (x n : ℕ) → slice_get g.locals x ≡ Some n → n ≤ 8) (program sum).functions f g ((λ x n h. at_each (λ x n. n ≤ 8) (8 ∷ 8 ∷ 4 ∷ []) x n (omega arith, (omega arith, (omega arith, tt))) h), ((λ x n h. absurd (none-some n h)), ((λ x n h. at_each (λ x n. n ≤ 8) (4 ∷ []) x n (omega arith, tt) h), ((λ x n h. absurd (none-some n h)), tt)))) e x n h

pub sum_laid_out : IsLayoutOf spacious (program sum) 200
unfolding computed program sum down own swap objects
sum_laid_out = record {
  bottom = 65664;
  largest = 64;
  above_zero = omega arith;
  top = omega arith;
  room = omega arith;
  top_aligned = refl;
  static = λ x o e. at_each (λ x o. (0 < spacious.static x) × (spacious.static x + o.size + 8 ≤ 65664) × (spacious.static x % 8 ≡ 0)) objects x o ((omega arith, omega arith, refl), ((omega arith, omega arith, refl), tt)) e;
  static_apart = λ x y o q e f ne. at_each (λ x o. (y : ℕ) (q : StaticObject) → slice_get objects y ≡ Some q → x ≢ y → LieApart (spacious.static x) o.size (spacious.static y) q.size) objects x o ((λ y q f. at_each (λ y q. 0 ≢ y → LieApart (spacious.static 0) 3 (spacious.static y) q.size) objects y q ((λ ne. absurd (ne refl)), ((λ ne. inl (omega arith)), tt)) f), ((λ y q f. at_each (λ y q. 1 ≢ y → LieApart (spacious.static 1) 8 (spacious.static y) q.size) objects y q ((λ ne. inr (omega arith)), ((λ ne. absurd (ne refl)), tt)) f), tt)) e y q f ne;
  frame = λ f g e. (omega arith, refl);
  local = λ f g x n e h. at_each (λ f g. (x n : ℕ) → slice_get g.locals x ≡ Some n → (spacious.local f x + n + 8 ≤ 64) × (spacious.local f x % 8 ≡ 0)) (program sum).functions f g ((λ x n h. at_each (λ x n. (16 * x + n + 8 ≤ 64) × (16 * x % 8 ≡ 0)) (8 ∷ 8 ∷ 4 ∷ []) x n ((omega arith, refl), ((omega arith, refl), ((omega arith, refl), tt))) h), ((λ x n h. absurd (none-some n h)), ((λ x n h. at_each (λ x n. (16 * x + n + 8 ≤ 64) × (16 * x % 8 ≡ 0)) (4 ∷ []) x n ((omega arith, refl), tt) h), ((λ x n h. absurd (none-some n h)), tt)))) e x n h;
  local_apart = λ f g x y n m e h k ne. steps_apart x y n m (sizes_small f g x n e h) (sizes_small f g y m e k) ne;
}

-- ---- acts that are not well formed, each beside a neighbour that is

-- a temporary is read behind the branch in which it is assigned
unfoldable pub behind_branch : List Core
behind_branch = c.If (at.Var 0) (c.Move 4 (at.Word 1) ∷ []) [] ∷ c.Put (at.Var 4) ∷ []

pub behind_branch_ill : (p : Program) (g : CoreFunction) → g.vars ≡ 4 → AreActsIn p g 0 [] behind_branch → ⊥
unfolding computed behind_branch
behind_branch_ill p g v h = ⊎_elim (λ lt. omega (arith, v, lt)) (λ b. b) h.1.0

-- it is read in the branch
unfoldable pub in_branch : List Core
in_branch = c.If (at.Var 0) (c.Move 4 (at.Word 1) ∷ c.Put (at.Var 4) ∷ []) [] ∷ []

pub in_branch_formed : (p : Program) (g : CoreFunction) → g.vars ≡ 4 → g.temps ≡ 8 → AreActsIn p g 0 [] in_branch
unfolding computed in_branch
in_branch_formed p g v t =
    ((inl (omega (arith, v)), ((omega (arith, v, t), omega arith), (inr (inl refl), tt)), tt), tt)

-- one temporary is assigned in both branches, and a variable may be
unfoldable pub in_both : ℕ → List Core
in_both x = c.If (at.Var 0) (c.Move x (at.Word 1) ∷ []) (c.Move x (at.Word 2) ∷ []) ∷ []

pub in_both_twice : places_in 4 (in_both 4) ≡ 2
unfolding computed in_both
in_both_twice = refl

pub in_both_once : (x : ℕ) → 4 ≤ x → places_in x (in_both 3) ≤ 1
unfolding computed in_both
in_both_once x le = omega (arith, above x 3 (omega (arith, le)))

-- a break out of two, with one or two around it
unfoldable pub out_of_one : List Core
out_of_one = c.Block (c.Break 1 ∷ []) ∷ []

pub out_of_one_ill : (p : Program) (g : CoreFunction) → AreActsIn p g 0 [] out_of_one → ⊥
unfolding computed out_of_one
out_of_one_ill p g h = omega (arith, h.0.0)

unfoldable pub out_of_two : List Core
out_of_two = c.Loop (c.Block (c.Break 1 ∷ []) ∷ []) ∷ []

pub out_of_two_formed : (p : Program) (g : CoreFunction) → AreActsIn p g 0 [] out_of_two
unfolding computed out_of_two
out_of_two_formed p g = (((omega arith, tt), tt), tt)

-- a copy of 6 bytes in units of 4, or of 2
pub units_of_four_ill : IsUnits 6 4 → ⊥
units_of_four_ill h = omega (arith, h.whole)

pub units_of_two : IsUnits 6 2
units_of_two = record { unit = inr (inl refl); count = 3; some = omega arith; whole = refl }

-- ---- counts

-- four acts in a row of which one is a loop of two, of which one is a choice of four and one
pub sum_counts : count_of_acts (8 ∷ 8 ∷ 4 ∷ []) sum ≡ 11
unfolding computed sum
sum_counts = refl

pub sum_assigns : assigned_below 4 sum ≡ 2
unfolding computed sum
sum_assigns = refl

-- 7 bytes are filled by a word, a half word and a byte, and copied by a load and a store each
pub fill_counts : count_of_acts (7 ∷ []) (c.Fill 0 ∷ []) ≡ 3
fill_counts = refl

pub copy_counts : count_of_acts [] (c.Copy (at.Global 0) (at.Global 1) 7 1 ∷ []) ≡ 14
copy_counts = refl

-- objects of 8, 8 and 4 bytes take 16 each
pub objects_take : bytes_of_objects (8 ∷ 8 ∷ 4 ∷ []) ≡ 48
objects_take = refl
