-- Laws of acts one after another, and of the lists that stand in acts.
-- No contract cites this file: it holds proofs.
use Rattle.std.proofs.Common.{◌≡◌, refl, sym, ap, ◌∙◌, List, [], ◌∷◌, ◌++◌}
use Rattle.word_ops.specs.Run.{Outside, Run, Gives, Ends, Undefined, then_do}
use Rattle.core_lang.specs.declared.act.Atom.{Atom}
use Rattle.core_lang.specs.declared.act.Core.{Core, Row_of-Core, end_of-Core, more_of-Core, items-the_row-Core, items_hidden-the_row-Core-0}
use Rattle.core_lang.specs.declared.act.Core.TheBlock.{hidden-the_row-Core-0}
use Rattle.core_lang.specs.declared.act.Core.TheVariants as c
use Rattle.core_lang.specs.State.{State, Activation, value_of_atom}
use Rattle.core_lang.specs.Acts.{Calls, Flow, Falls, Leaves, Returned, Does, behind, in_turn, as_block, as_loop, by_truth, act, acts, row}

-- ---- a list that stands in an act is a list of acts

pub row-list : (call : Calls) (e : Activation) (n : _) (r : Row_of-Core n) →
    row call e r ≡ acts call e (items-the_row-Core n r)
row-list call e n end_of-Core = refl
row-list call e n (more_of-Core x rest) = ap {B = Does} (in_turn (act call e x)) (row-list call e _ rest)

row_hidden : (call : Calls) (e : Activation) (xs : List Core) →
    row call e (hidden-the_row-Core-0 xs) ≡ acts call e xs
row_hidden call e xs = row-list call e _ (hidden-the_row-Core-0 xs) ∙ ap {B = Does} (acts call e) (items_hidden-the_row-Core-0 xs)

pub act-Block : (call : Calls) (e : Activation) (xs : List Core) → act call e (c.Block xs) ≡ as_block (acts call e xs)
act-Block call e xs = ap {B = Does} as_block (row_hidden call e xs)

pub act-Loop : (call : Calls) (e : Activation) (xs : List Core) → act call e (c.Loop xs) ≡ as_loop (acts call e xs)
act-Loop call e xs = ap {B = Does} as_loop (row_hidden call e xs)

pub act-If : (call : Calls) (e : Activation) (v : Atom) (xs ys : List Core) (s : State) (w : Outside) →
    act call e (c.If v xs ys) s w ≡ by_truth (value_of_atom e s v) (acts call e xs) (acts call e ys) s w
act-If call e v xs ys s w =
    ap (λ (k : Does). by_truth (value_of_atom e s v) k (row call e (hidden-the_row-Core-0 ys)) s w) (row_hidden call e xs)
    ∙ ap (λ (k : Does). by_truth (value_of_atom e s v) (acts call e xs) k s w) (row_hidden call e ys)

-- ---- one after another

behind_behind : (f : Flow) (g h : Does) (s : State) (w : Outside) →
    then_do (behind f g s w) (λ s w d. behind d h s w) ≡ behind f (in_turn g h) s w
behind_behind Falls g h s w = refl
behind_behind (Leaves k) g h s w = refl
behind_behind (Returned v) g h s w = refl

then_behind : (r : Run State Flow) (g h : Does) →
    then_do (then_do r (λ s w d. behind d g s w)) (λ s w d. behind d h s w) ≡ then_do r (λ s w d. behind d (in_turn g h) s w)
then_behind (Gives s w f) g h = behind_behind f g h s w
then_behind (Ends e w) g h = refl
then_behind Undefined g h = refl

-- the acts of two lists are those of the first and then those of the second
pub acts-append : (call : Calls) (e : Activation) (xs ys : List Core) (s : State) (w : Outside) →
    acts call e (xs ++ ys) s w ≡ in_turn (acts call e xs) (acts call e ys) s w
acts-append call e [] ys s w = refl
acts-append call e (x ∷ xs) ys s w =
    ap (λ (k : Does). in_turn (act call e x) k s w) (λ i s w. acts-append call e xs ys s w i)
    ∙ sym (then_behind (act call e x s w) (acts call e xs) (acts call e ys))

-- one act alone
then_falls : (r : Run State Flow) → then_do r (λ s w f. behind f (λ s w. Gives s w Falls) s w) ≡ r
then_falls (Gives s w Falls) = refl
then_falls (Gives s w (Leaves k)) = refl
then_falls (Gives s w (Returned v)) = refl
then_falls (Ends e w) = refl
then_falls Undefined = refl

pub acts-one : (call : Calls) (e : Activation) (x : Core) (s : State) (w : Outside) →
    acts call e (x ∷ []) s w ≡ act call e x s w
acts-one call e x s w = then_falls (act call e x s w)
