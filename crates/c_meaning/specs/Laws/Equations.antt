-- What each form means, over plain lists of its operands: the definitions go by the rows in which a tree keeps its lists, and
-- proofs about code go by lists.
-- No contract cites this file: it holds proofs.
use Rattle.std.proofs.Common.{◌≡◌, refl, ap, ◌∙◌, ℕ, List, [], ◌∷◌}
use Rattle.word_ops.specs.Store.{Value, Number, Store}
use Rattle.word_ops.specs.Run.{Outside, Run, Gives, then_do, given}
use Rattle.c_tree.specs.declared.typed.types.CType.{CType}
use Rattle.c_tree.specs.declared.typed.expression.TExpr.{TExpr, Row_of-TExpr, end_of-TExpr, more_of-TExpr, Row_of-Step, end_of-Step, more_of-Step, Row_of-Arm, end_of-Arm, more_of-Arm, Row_of-Target, end_of-Target, more_of-Target, items-the_row-TExpr, items_hidden-the_row-TExpr-2, items-the_row-Step, items_hidden-the_row-Step-1, items-the_row-Arm, items_hidden-the_row-Arm-3, items-the_row-Target, items_hidden-the_row-Target-4}
use Rattle.c_tree.specs.declared.typed.expression.TExpr.TheVariants as x
use Rattle.c_tree.specs.declared.typed.expression.Step.{Step}
use Rattle.c_tree.specs.declared.typed.expression.Step.TheVariants as step
use Rattle.c_tree.specs.declared.typed.expression.Step.TheBlock.{hidden-the_row-TExpr-2, hidden-the_row-Step-1, hidden-the_row-Arm-3, hidden-the_row-Target-4}
use Rattle.c_tree.specs.declared.typed.expression.Arm.{Arm}
use Rattle.c_tree.specs.declared.typed.expression.Target.{Target}
use Rattle.c_tree.specs.declared.typed.expression.Target.TheVariants as target
use Rattle.c_meaning.specs.Environment.{Environment, automatic_place}
use Rattle.c_meaning.specs.Operators.{arithmetic_value, assigned, unary_value}
use Rattle.c_meaning.specs.Expressions.{Calls, gives_changed, by_truth, gives_number, called, called_only, put_value, exit_value, value, values, every, some, stepped, chosen, assigning}

-- what a part of an expression does, told its environment
abbrev pub Does : Type 0 → Type 0
Does A = Environment → Store → Outside → Run Store A

-- ---- the same over lists

-- the values of expressions, from left to right
abbrev pub values_of : Calls → List TExpr → Does (List Value)
values_of call [] env st w = Gives st w []
values_of call (a ∷ rest) env st w =
    then_do (value call a env st w) (λ st w v. then_do (values_of call rest env st w) (λ st w vs. Gives st w (v ∷ vs)))

-- the operands of `&&`
abbrev pub every_of : Calls → List TExpr → Does Value
every_of call [] env st w = Gives st w (Number 1)
every_of call (a ∷ rest) env st w =
    then_do (value call a env st w) (λ st w v. by_truth v (every_of call rest env) (gives_number 0) st w)

-- the operands of `||`
abbrev pub some_of : Calls → List TExpr → Does Value
some_of call [] env st w = Gives st w (Number 0)
some_of call (a ∷ rest) env st w =
    then_do (value call a env st w) (λ st w v. by_truth v (gives_number 1) (some_of call rest env) st w)

-- what is done with a value, step by step
abbrev pub stepped_of : Calls → List Step → Value → Does Value
stepped_of call [] v env st w = Gives st w v
stepped_of call (step.Unary u ∷ rest) v env st w =
    given (unary_value st u v) (λ h. stepped_of call rest h.value env h.store w)
stepped_of call (step.Binary o b ∷ rest) v env st w =
    then_do (value call b env st w) (λ st w y. given (arithmetic_value st o v y) (λ v. stepped_of call rest v env st w))

-- the arms of `? :`
abbrev pub chosen_of : Calls → List Arm → (last : Store → Outside → Run Store Value) → Does Value
chosen_of call [] last env st w = last st w
chosen_of call (a ∷ rest) last env st w =
    then_do (value call a.condition env st w) (λ st w v. by_truth v (value call a.chosen env) (chosen_of call rest last env) st w)

-- the left sides of assignments
abbrev pub assigning_of : Calls → List Target → (last : Store → Outside → Run Store Value) → Does Value
assigning_of call [] last env st w = last st w
assigning_of call (target.Variable i c ∷ rest) last env st w =
    given (automatic_place env i) (λ p. then_do (assigning_of call rest last env st w) (λ st w v. given (assigned st c p v) (gives_changed w)))
assigning_of call (target.Place a c ∷ rest) last env st w =
    then_do (value call a env st w) (λ st w p. then_do (assigning_of call rest last env st w) (λ st w v. given (assigned st c p v) (gives_changed w)))

-- ---- a row does what its list does

values-row : (call : Calls) (n : _) (r : Row_of-TExpr n) → values call r ≡ values_of call (items-the_row-TExpr n r)
values-row call n end_of-TExpr = refl
values-row call n (more_of-TExpr a rest) =
    ap {B = Does (List Value)} (λ k env st w. then_do (value call a env st w) (λ st w v. then_do (k env st w) (λ st w vs. Gives st w (v ∷ vs)))) (values-row call _ rest)

every-row : (call : Calls) (n : _) (r : Row_of-TExpr n) → every call r ≡ every_of call (items-the_row-TExpr n r)
every-row call n end_of-TExpr = refl
every-row call n (more_of-TExpr a rest) =
    ap {B = Does Value} (λ k env st w. then_do (value call a env st w) (λ st w v. by_truth v (k env) (gives_number 0) st w)) (every-row call _ rest)

some-row : (call : Calls) (n : _) (r : Row_of-TExpr n) → some call r ≡ some_of call (items-the_row-TExpr n r)
some-row call n end_of-TExpr = refl
some-row call n (more_of-TExpr a rest) =
    ap {B = Does Value} (λ k env st w. then_do (value call a env st w) (λ st w v. by_truth v (gives_number 1) (k env) st w)) (some-row call _ rest)

stepped-row : (call : Calls) (n : _) (r : Row_of-Step n) → stepped call r ≡ stepped_of call (items-the_row-Step n r)
stepped-row call n end_of-Step = refl
stepped-row call n (more_of-Step (step.Unary u) rest) =
    ap {B = Value → Does Value} (λ k v env st w. given (unary_value st u v) (λ h. k h.value env h.store w)) (stepped-row call _ rest)
stepped-row call n (more_of-Step (step.Binary o b) rest) =
    ap {B = Value → Does Value} (λ k v env st w. then_do (value call b env st w) (λ st w y. given (arithmetic_value st o v y) (λ v. k v env st w))) (stepped-row call _ rest)

chosen-row : (call : Calls) (n : _) (r : Row_of-Arm n) → chosen call r ≡ chosen_of call (items-the_row-Arm n r)
chosen-row call n end_of-Arm = refl
chosen-row call n (more_of-Arm a b rest) =
    ap {B = (Store → Outside → Run Store Value) → Does Value} (λ k last env st w. then_do (value call a env st w) (λ st w v. by_truth v (value call b env) (k last env) st w)) (chosen-row call _ rest)

assigning-row : (call : Calls) (n : _) (r : Row_of-Target n) → assigning call r ≡ assigning_of call (items-the_row-Target n r)
assigning-row call n end_of-Target = refl
assigning-row call n (more_of-Target (target.Variable i c) rest) =
    ap {B = (Store → Outside → Run Store Value) → Does Value} (λ k last env st w. given (automatic_place env i) (λ p. then_do (k last env st w) (λ st w v. given (assigned st c p v) (gives_changed w)))) (assigning-row call _ rest)
assigning-row call n (more_of-Target (target.Place a c) rest) =
    ap {B = (Store → Outside → Run Store Value) → Does Value} (λ k last env st w. then_do (value call a env st w) (λ st w p. then_do (k last env st w) (λ st w v. given (assigned st c p v) (gives_changed w)))) (assigning-row call _ rest)

values-list : (call : Calls) (es : List TExpr) → values call (hidden-the_row-TExpr-2 es) ≡ values_of call es
values-list call es =
    values-row call _ (hidden-the_row-TExpr-2 es) ∙ ap (λ es. values_of call es) (items_hidden-the_row-TExpr-2 es)

-- ---- each form

pub value-Applied : (call : Calls) (t : CType) (a : TExpr) (steps : List Step) (env : Environment) (st : Store) (w : Outside) →
    value call (x.Applied t a steps) env st w ≡ then_do (value call a env st w) (λ st w v. stepped_of call steps v env st w)
unfolding Rattle.c_tree.specs.declared.typed.expression.Step.TheBlock.hidden-the_row-TExpr-0 denote.Hole.Carrier.hidden
value-Applied call t a steps env st w =
    ap (λ k. then_do (value call a env st w) (λ st w v. k v env st w)) (stepped-row call _ (hidden-the_row-Step-1 steps) ∙ ap (λ es. stepped_of call es) (items_hidden-the_row-Step-1 steps))

pub value-All : (call : Calls) (t : CType) (es : List TExpr) (env : Environment) (st : Store) (w : Outside) →
    value call (x.All t es) env st w ≡ every_of call es env st w
value-All call t es env st w =
    ap (λ k. k env st w) (every-row call _ (hidden-the_row-TExpr-2 es) ∙ ap (λ es. every_of call es) (items_hidden-the_row-TExpr-2 es))

pub value-Any : (call : Calls) (t : CType) (es : List TExpr) (env : Environment) (st : Store) (w : Outside) →
    value call (x.Any t es) env st w ≡ some_of call es env st w
value-Any call t es env st w =
    ap (λ k. k env st w) (some-row call _ (hidden-the_row-TExpr-2 es) ∙ ap (λ es. some_of call es) (items_hidden-the_row-TExpr-2 es))

pub value-Choose : (call : Calls) (t : CType) (arms : List Arm) (a : TExpr) (env : Environment) (st : Store) (w : Outside) →
    value call (x.Choose t arms a) env st w ≡ chosen_of call arms (value call a env) env st w
unfolding Rattle.c_tree.specs.declared.typed.expression.Step.TheBlock.hidden-the_row-TExpr-0 denote.Hole.Carrier.hidden
value-Choose call t arms a env st w =
    ap (λ k. k (value call a env) env st w) (chosen-row call _ (hidden-the_row-Arm-3 arms) ∙ ap (λ es. chosen_of call es) (items_hidden-the_row-Arm-3 arms))

pub value-Comma : (call : Calls) (t : CType) (es : List TExpr) (a : TExpr) (env : Environment) (st : Store) (w : Outside) →
    value call (x.Comma t es a) env st w ≡ then_do (values_of call es env st w) (λ st w vs. value call a env st w)
unfolding Rattle.c_tree.specs.declared.typed.expression.Step.TheBlock.hidden-the_row-TExpr-0 denote.Hole.Carrier.hidden
value-Comma call t es a env st w =
    ap (λ k. then_do (k env st w) (λ st w vs. value call a env st w)) (values-list call es)

pub value-Assign : (call : Calls) (t : CType) (targets : List Target) (a : TExpr) (env : Environment) (st : Store) (w : Outside) →
    value call (x.Assign t targets a) env st w ≡ assigning_of call targets (value call a env) env st w
unfolding Rattle.c_tree.specs.declared.typed.expression.Step.TheBlock.hidden-the_row-TExpr-0 denote.Hole.Carrier.hidden
value-Assign call t targets a env st w =
    ap (λ k. k (value call a env) env st w) (assigning-row call _ (hidden-the_row-Target-4 targets) ∙ ap (λ es. assigning_of call es) (items_hidden-the_row-Target-4 targets))

pub value-Call : (call : Calls) (t : CType) (f : ℕ) (es : List TExpr) (env : Environment) (st : Store) (w : Outside) →
    value call (x.Call t f es) env st w ≡ then_do (values_of call es env st w) (λ st w vs. called call f vs st w)
value-Call call t f es env st w =
    ap (λ k. then_do (k env st w) (λ st w vs. called call f vs st w)) (values-list call es)

pub value-DroppedCall : (call : Calls) (t : CType) (f : ℕ) (es : List TExpr) (env : Environment) (st : Store) (w : Outside) →
    value call (x.DroppedCall t f es) env st w ≡ then_do (values_of call es env st w) (λ st w vs. called_only call f vs st w)
value-DroppedCall call t f es env st w =
    ap (λ k. then_do (k env st w) (λ st w vs. called_only call f vs st w)) (values-list call es)

pub value-PutChar : (call : Calls) (t : CType) (a : TExpr) (env : Environment) (st : Store) (w : Outside) →
    value call (x.PutChar t a) env st w ≡ then_do (value call a env st w) (λ st w v. put_value v st w)
unfolding Rattle.c_tree.specs.declared.typed.expression.Step.TheBlock.hidden-the_row-TExpr-0 denote.Hole.Carrier.hidden
value-PutChar call t a env st w = refl

pub value-Exit : (call : Calls) (t : CType) (a : TExpr) (env : Environment) (st : Store) (w : Outside) →
    value call (x.Exit t a) env st w ≡ then_do (value call a env st w) (λ st w v. exit_value v st w)
unfolding Rattle.c_tree.specs.declared.typed.expression.Step.TheBlock.hidden-the_row-TExpr-0 denote.Hole.Carrier.hidden
value-Exit call t a env st w = refl
