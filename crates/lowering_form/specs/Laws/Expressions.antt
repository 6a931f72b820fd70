-- The code of each form of expression, over plain lists of its operands: the definitions go by the rows in which a tree keeps
-- its lists, and proofs about code go by lists. No contract cites this file: it holds proofs.
use Rattle.std.proofs.Common.{◌≡◌, refl, ap, ◌∙◌, ℕ, List, [], ◌∷◌}
use Rattle.core_lang.specs.declared.act.Core.TheVariants as c
use Rattle.c_tree.specs.declared.typed.types.CType.{CType}
use Rattle.c_tree.specs.declared.typed.expression.TExpr.{TExpr, Row_of-TExpr, end_of-TExpr, more_of-TExpr, Row_of-Step, end_of-Step, more_of-Step, Row_of-Arm, end_of-Arm, more_of-Arm, Row_of-Target, end_of-Target, more_of-Target, items-the_row-TExpr, items_hidden-the_row-TExpr-2, items-the_row-Step, items_hidden-the_row-Step-1, items-the_row-Arm, items_hidden-the_row-Arm-3, items-the_row-Target, items_hidden-the_row-Target-4}
use Rattle.c_tree.specs.declared.typed.expression.TExpr.TheVariants as x
use Rattle.c_tree.specs.declared.typed.expression.Step.{Step}
use Rattle.c_tree.specs.declared.typed.expression.Step.TheVariants as step
use Rattle.c_tree.specs.declared.typed.expression.Step.TheBlock.{hidden-the_row-TExpr-2, hidden-the_row-Step-1, hidden-the_row-Arm-3, hidden-the_row-Target-4}
use Rattle.c_tree.specs.declared.typed.expression.Arm.{Arm}
use Rattle.c_tree.specs.declared.typed.expression.Target.{Target}
use Rattle.c_tree.specs.declared.typed.expression.Target.TheVariants as target
use Rattle.lowering_form.specs.declared.place.Place.TheVariants as place
use Rattle.lowering_form.specs.Code.{Code, Valued, Listed, begun, assigned, with_list}
use Rattle.lowering_form.specs.Places.{Scope, place_in}
use Rattle.lowering_form.specs.Operators.{arithmetic_code, changed_code, unary_code}
use Rattle.lowering_form.specs.Expressions.{joined, settled_by_last, settled_by_false, settled_by_true, settled, settled_and_left, call_code, dropped_call_code, put_code, exit_code, listed, value_code, steps_code, values_code, every_code, some_code, arms_code, targets_code}

-- ---- the same over lists

-- what is done with a value, step by step
abbrev pub steps_of : List Step → Scope → Valued → Valued
steps_of [] sc v = v
steps_of (step.Unary u ∷ rest) sc v = steps_of rest sc (unary_code u v)
steps_of (step.Binary o b ∷ rest) sc v =
    let right = value_code b sc v.code in steps_of rest sc (arithmetic_code o v.atom right.atom right.code)

-- expressions from left to right
abbrev pub values_of : List TExpr → Scope → Code → Listed
values_of [] sc k = record { code = k; atoms = [] }
values_of (a ∷ rest) sc k = let first = value_code a sc k in listed first.atom (values_of rest sc first.code)

-- the operands of `&&`
abbrev pub every_of : List TExpr → Scope → Code → Code
every_of [] sc k = k
every_of (a ∷ []) sc k = settled_by_last sc.level (value_code a sc k)
every_of (a ∷ b ∷ rest) sc k = every_of (b ∷ rest) sc (settled_by_false sc.level (value_code a sc k))

-- the operands of `||`
abbrev pub some_of : List TExpr → Scope → Code → Code
some_of [] sc k = k
some_of (a ∷ []) sc k = settled_by_last sc.level (value_code a sc k)
some_of (a ∷ b ∷ rest) sc k = some_of (b ∷ rest) sc (settled_by_true sc.level (value_code a sc k))

-- the arms of `? :` but the last
abbrev pub arms_of : List Arm → Scope → Code → Code
arms_of [] sc k = k
arms_of (a ∷ rest) sc k =
    let condition = value_code a.condition sc k in
    arms_of rest sc (with_list (λ acts. c.If condition.atom acts []) condition.code (settled_and_left sc.level (value_code a.chosen sc (begun condition.code))))

-- the left sides of assignments
abbrev pub targets_of : List Target → (last : Code → Valued) → Scope → Code → Valued
targets_of [] last sc k = last k
targets_of (target.Variable i h ∷ rest) last sc k = changed_code (place_in sc i) h (targets_of rest last sc k)
targets_of (target.Place a h ∷ rest) last sc k =
    let address = value_code a sc k in
    changed_code (place.Memory address.atom) h (targets_of rest last sc address.code)

-- ---- a row is lowered as its list

steps-row : (n : _) (r : Row_of-Step n) → steps_code r ≡ steps_of (items-the_row-Step n r)
steps-row n end_of-Step = refl
steps-row n (more_of-Step (step.Unary u) rest) =
    ap {B = Scope → Valued → Valued} (λ f sc v. f sc (unary_code u v)) (steps-row _ rest)
steps-row n (more_of-Step (step.Binary o b) rest) =
    ap {B = Scope → Valued → Valued} (λ f sc v. let right = value_code b sc v.code in f sc (arithmetic_code o v.atom right.atom right.code)) (steps-row _ rest)

values-row : (n : _) (r : Row_of-TExpr n) → values_code r ≡ values_of (items-the_row-TExpr n r)
values-row n end_of-TExpr = refl
values-row n (more_of-TExpr a rest) =
    ap {B = Scope → Code → Listed} (λ f sc k. let first = value_code a sc k in listed first.atom (f sc first.code)) (values-row _ rest)

every-row : (n : _) (r : Row_of-TExpr n) → every_code r ≡ every_of (items-the_row-TExpr n r)
every-row n end_of-TExpr = refl
every-row n (more_of-TExpr a end_of-TExpr) = refl
every-row n (more_of-TExpr a (more_of-TExpr b rest)) =
    ap {B = Scope → Code → Code} (λ f sc k. f sc (settled_by_false sc.level (value_code a sc k))) (every-row _ (more_of-TExpr b rest))

some-row : (n : _) (r : Row_of-TExpr n) → some_code r ≡ some_of (items-the_row-TExpr n r)
some-row n end_of-TExpr = refl
some-row n (more_of-TExpr a end_of-TExpr) = refl
some-row n (more_of-TExpr a (more_of-TExpr b rest)) =
    ap {B = Scope → Code → Code} (λ f sc k. f sc (settled_by_true sc.level (value_code a sc k))) (some-row _ (more_of-TExpr b rest))

arms-row : (n : _) (r : Row_of-Arm n) → arms_code r ≡ arms_of (items-the_row-Arm n r)
arms-row n end_of-Arm = refl
arms-row n (more_of-Arm e a rest) =
    ap {B = Scope → Code → Code} (λ f sc k. let condition = value_code e sc k in f sc (with_list (λ acts. c.If condition.atom acts []) condition.code (settled_and_left sc.level (value_code a sc (begun condition.code))))) (arms-row _ rest)

targets-row : (n : _) (r : Row_of-Target n) → targets_code r ≡ targets_of (items-the_row-Target n r)
targets-row n end_of-Target = refl
targets-row n (more_of-Target (target.Variable i h) rest) =
    ap {B = (Code → Valued) → Scope → Code → Valued} (λ f last sc k. changed_code (place_in sc i) h (f last sc k)) (targets-row _ rest)
targets-row n (more_of-Target (target.Place a h) rest) =
    ap {B = (Code → Valued) → Scope → Code → Valued} (λ f last sc k. let address = value_code a sc k in changed_code (place.Memory address.atom) h (f last sc address.code)) (targets-row _ rest)

values-list : (es : List TExpr) → values_code (hidden-the_row-TExpr-2 es) ≡ values_of es
values-list es = values-row _ (hidden-the_row-TExpr-2 es) ∙ ap values_of (items_hidden-the_row-TExpr-2 es)

-- ---- each form

pub value-Applied : (t : CType) (a : TExpr) (steps : List Step) (sc : Scope) (k : Code) →
    value_code (x.Applied t a steps) sc k ≡ steps_of steps sc (value_code a sc k)
unfolding Rattle.c_tree.specs.declared.typed.expression.Step.TheBlock.hidden-the_row-TExpr-0 denote.Hole.Carrier.hidden
value-Applied t a steps sc k =
    ap (λ f. f sc (value_code a sc k)) (steps-row _ (hidden-the_row-Step-1 steps) ∙ ap steps_of (items_hidden-the_row-Step-1 steps))

pub value-All : (t : CType) (es : List TExpr) (sc : Scope) (k : Code) →
    value_code (x.All t es) sc k ≡ joined sc.level k (every_of es sc (begun k))
value-All t es sc k =
    ap (λ f. joined sc.level k (f sc (begun k))) (every-row _ (hidden-the_row-TExpr-2 es) ∙ ap every_of (items_hidden-the_row-TExpr-2 es))

pub value-Any : (t : CType) (es : List TExpr) (sc : Scope) (k : Code) →
    value_code (x.Any t es) sc k ≡ joined sc.level k (some_of es sc (begun k))
value-Any t es sc k =
    ap (λ f. joined sc.level k (f sc (begun k))) (some-row _ (hidden-the_row-TExpr-2 es) ∙ ap some_of (items_hidden-the_row-TExpr-2 es))

pub value-Choose : (t : CType) (arms : List Arm) (a : TExpr) (sc : Scope) (k : Code) →
    value_code (x.Choose t arms a) sc k ≡ joined sc.level k (settled sc.level (value_code a sc (arms_of arms sc (begun k))))
unfolding Rattle.c_tree.specs.declared.typed.expression.Step.TheBlock.hidden-the_row-TExpr-0 denote.Hole.Carrier.hidden
value-Choose t arms a sc k =
    ap (λ f. joined sc.level k (settled sc.level (value_code a sc (f sc (begun k))))) (arms-row _ (hidden-the_row-Arm-3 arms) ∙ ap arms_of (items_hidden-the_row-Arm-3 arms))

pub value-Comma : (t : CType) (es : List TExpr) (a : TExpr) (sc : Scope) (k : Code) →
    value_code (x.Comma t es a) sc k ≡ value_code a sc (values_of es sc k).code
unfolding Rattle.c_tree.specs.declared.typed.expression.Step.TheBlock.hidden-the_row-TExpr-0 denote.Hole.Carrier.hidden
value-Comma t es a sc k = ap (λ (f : Scope → Code → Listed). value_code a sc (f sc k).code) (values-list es)

pub value-Assign : (t : CType) (targets : List Target) (a : TExpr) (sc : Scope) (k : Code) →
    value_code (x.Assign t targets a) sc k ≡ targets_of targets (value_code a sc) sc k
unfolding Rattle.c_tree.specs.declared.typed.expression.Step.TheBlock.hidden-the_row-TExpr-0 denote.Hole.Carrier.hidden
value-Assign t targets a sc k =
    ap (λ f. f (value_code a sc) sc k) (targets-row _ (hidden-the_row-Target-4 targets) ∙ ap targets_of (items_hidden-the_row-Target-4 targets))

pub value-Call : (t : CType) (f : ℕ) (es : List TExpr) (sc : Scope) (k : Code) →
    value_code (x.Call t f es) sc k ≡ call_code f (values_of es sc k)
value-Call t f es sc k = ap (λ g. call_code f (g sc k)) (values-list es)

pub value-DroppedCall : (t : CType) (f : ℕ) (es : List TExpr) (sc : Scope) (k : Code) →
    value_code (x.DroppedCall t f es) sc k ≡ dropped_call_code f (values_of es sc k)
value-DroppedCall t f es sc k = ap (λ g. dropped_call_code f (g sc k)) (values-list es)

pub value-PutChar : (t : CType) (a : TExpr) (sc : Scope) (k : Code) →
    value_code (x.PutChar t a) sc k ≡ put_code (value_code a sc k)
unfolding Rattle.c_tree.specs.declared.typed.expression.Step.TheBlock.hidden-the_row-TExpr-0 denote.Hole.Carrier.hidden
value-PutChar t a sc k = refl

pub value-Exit : (t : CType) (a : TExpr) (sc : Scope) (k : Code) →
    value_code (x.Exit t a) sc k ≡ exit_code (value_code a sc k)
unfolding Rattle.c_tree.specs.declared.typed.expression.Step.TheBlock.hidden-the_row-TExpr-0 denote.Hole.Carrier.hidden
value-Exit t a sc k = refl
