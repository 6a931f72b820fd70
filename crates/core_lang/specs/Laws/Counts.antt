-- Laws of counts: lists that stand in acts, and one list behind another.
-- No contract cites this file: it holds proofs.
use Rattle.std.proofs.Common.{◌≡◌, refl, ap, ◌∙◌, ℕ, ◌+◌, List, [], ◌∷◌, ◌++◌, arith}
use Rattle.core_lang.specs.declared.act.Atom.{Atom}
use Rattle.core_lang.specs.declared.act.Core.{Core, Row_of-Core, end_of-Core, more_of-Core, items-the_row-Core, items_hidden-the_row-Core-0}
use Rattle.core_lang.specs.declared.act.Core.TheBlock.{hidden-the_row-Core-0}
use Rattle.core_lang.specs.declared.act.Core.TheVariants as c
use Rattle.core_lang.specs.Counts.{count_of_act, count_of_row, count_of_acts}

pub count_of_row-list : (ls : List ℕ) (n : _) (r : Row_of-Core n) →
    count_of_row ls r ≡ count_of_acts ls (items-the_row-Core n r)
count_of_row-list ls n end_of-Core = refl
count_of_row-list ls n (more_of-Core a rest) = ap (λ k. count_of_act ls a + k) (count_of_row-list ls _ rest)

row_hidden : (ls : List ℕ) (xs : List Core) → count_of_row ls (hidden-the_row-Core-0 xs) ≡ count_of_acts ls xs
row_hidden ls xs =
    count_of_row-list ls _ (hidden-the_row-Core-0 xs) ∙ ap (count_of_acts ls) (items_hidden-the_row-Core-0 xs)

pub count-Block : (ls : List ℕ) (xs : List Core) → count_of_act ls (c.Block xs) ≡ 1 + count_of_acts ls xs
count-Block ls xs = ap (λ k. 1 + k) (row_hidden ls xs)

pub count-Loop : (ls : List ℕ) (xs : List Core) → count_of_act ls (c.Loop xs) ≡ 1 + count_of_acts ls xs
count-Loop ls xs = ap (λ k. 1 + k) (row_hidden ls xs)

pub count-If : (ls : List ℕ) (v : Atom) (xs ys : List Core) →
    count_of_act ls (c.If v xs ys) ≡ 1 + count_of_acts ls xs + count_of_acts ls ys
count-If ls v xs ys =
    ap (λ k. 1 + k + count_of_row ls (hidden-the_row-Core-0 ys)) (row_hidden ls xs)
    ∙ ap (λ k. 1 + count_of_acts ls xs + k) (row_hidden ls ys)

pub count-append : (ls : List ℕ) (xs ys : List Core) →
    count_of_acts ls (xs ++ ys) ≡ count_of_acts ls xs + count_of_acts ls ys
count-append ls [] ys = omega arith
count-append ls (a ∷ xs) ys = omega (arith, count-append ls xs ys)
