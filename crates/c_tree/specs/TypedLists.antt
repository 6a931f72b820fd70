-- The kinds of typed expressions over plain lists of their operands, as code that builds a tree has them.
use Rattle.std.proofs.Common.{◌≡◌, refl, ap, ◌∙◌, subst, ℕ, List, [], ◌∷◌, ◌++◌}
use Rattle.std.specs.Prelude.{Option, Some, None, slice_get}
use Rattle.c_tree.specs.declared.typed.types.CType.{CType}
use Rattle.c_tree.specs.declared.typed.operator.Scalar.{Scalar}
use Rattle.c_tree.specs.declared.typed.operator.Scalar.TheVariants as scalar
use Rattle.c_tree.specs.declared.typed.expression.TExpr.{TExpr, Row_of-TExpr, end_of-TExpr, more_of-TExpr, Row_of-Step, end_of-Step, more_of-Step, Row_of-Arm, end_of-Arm, more_of-Arm, Row_of-Target, end_of-Target, more_of-Target, items-the_row-TExpr, items_hidden-the_row-TExpr-2, items-the_row-Step, items_hidden-the_row-Step-1, items-the_row-Arm, items_hidden-the_row-Arm-3, items-the_row-Target, items_hidden-the_row-Target-4}
use Rattle.c_tree.specs.declared.typed.expression.TExpr.TheVariants as x
use Rattle.c_tree.specs.declared.typed.expression.Step.{Step}
use Rattle.c_tree.specs.declared.typed.expression.Step.TheVariants as step
use Rattle.c_tree.specs.declared.typed.expression.Step.TheBlock.{hidden-the_row-TExpr-2, hidden-the_row-Step-1, hidden-the_row-Arm-3, hidden-the_row-Target-4}
use Rattle.c_tree.specs.declared.typed.expression.Arm.{Arm}
use Rattle.c_tree.specs.declared.typed.expression.Target.{Target}
use Rattle.c_tree.specs.declared.typed.expression.Target.TheVariants as target
use Rattle.c_tree.specs.TypedKinds.{Kind, Void, Holds, Signature, Names, IsScalarAt, word, IsScalar, IsInteger, ArithmeticGives, Changes, UnaryGives, ResultIs, IsOfKind, StepsGive, AreScalar, AreDropped, AreArguments, ArmsGive, TargetsGive}

-- ---- the same over lists

-- a step leads from one kind to another
abbrev pub StepGives : Names → Step → Kind → Kind → Type 0
StepGives c (step.Unary u) j g = UnaryGives u j g
StepGives c (step.Binary o b) j g = (k : Kind) × IsOfKind c b k × ArithmeticGives o j k g

-- steps lead from one kind to another
abbrev pub StepsLead : Names → List Step → Kind → Kind → Type 0
StepsLead c [] j g = g ≡ j
StepsLead c (step.Unary u ∷ rest) j g = (i : Kind) × UnaryGives u j i × StepsLead c rest i g
StepsLead c (step.Binary o b ∷ rest) j g =
    (k : Kind) × IsOfKind c b k × (i : Kind) × ArithmeticGives o j k i × StepsLead c rest i g

-- each expression gives a value that is true or false
abbrev pub AllScalar : Names → List TExpr → Type 0
AllScalar c [] = Unit {0}
AllScalar c (a ∷ rest) = (j : Kind) × IsOfKind c a j × IsScalar j × AllScalar c rest

-- the value of each expression is dropped
abbrev pub AllDropped : Names → List TExpr → Type 0
AllDropped c [] = Unit {0}
AllDropped c (a ∷ rest) = IsOfKind c a Void × AllDropped c rest

-- each expression gives what a parameter holds, and there are as many
abbrev pub AllArguments : Names → List TExpr → List (Option Scalar) → Type 0
AllArguments c [] [] = Unit {0}
AllArguments c [] (k ∷ ks) = ⊥
AllArguments c (a ∷ rest) [] = ⊥
AllArguments c (a ∷ rest) (None ∷ ks) = ⊥
AllArguments c (a ∷ rest) (Some k ∷ ks) = IsOfKind c a (Holds k) × AllArguments c rest ks

-- each condition is true or false, and what is chosen gives this kind
abbrev pub ArmsLead : Names → List Arm → Kind → Type 0
ArmsLead c [] g = Unit {0}
ArmsLead c (a ∷ rest) g =
    (j : Kind) × IsOfKind c a.condition j × IsScalar j × IsOfKind c a.chosen g × ArmsLead c rest g

-- left sides lead from the kind of the value at the right end to that of the whole
abbrev pub TargetsLead : Names → List Target → Kind → Kind → Type 0
TargetsLead c [] j g = g ≡ j
TargetsLead c (target.Variable i h ∷ rest) j g =
    (k : Kind) × TargetsLead c rest j k × IsScalarAt c i h.scalar × Changes h k × (g ≡ Holds h.scalar)
TargetsLead c (target.Place a h ∷ rest) j g =
    (k : Kind) × TargetsLead c rest j k × IsOfKind c a (Holds scalar.Pointer) × Changes h k × (g ≡ Holds h.scalar)

-- ---- a row is its list

steps-row : (c : Names) (n : _) (r : Row_of-Step n) → StepsGive c r ≡ StepsLead c (items-the_row-Step n r)
steps-row c n end_of-Step = refl
steps-row c n (more_of-Step (step.Unary u) rest) =
    ap {B = Kind → Kind → Type 0} (λ (T : Kind → Kind → Type 0) j g. (i : Kind) × UnaryGives u j i × T i g) (steps-row c _ rest)
steps-row c n (more_of-Step (step.Binary o b) rest) =
    ap {B = Kind → Kind → Type 0} (λ (T : Kind → Kind → Type 0) j g. (k : Kind) × IsOfKind c b k × (i : Kind) × ArithmeticGives o j k i × T i g) (steps-row c _ rest)

scalar-row : (c : Names) (n : _) (r : Row_of-TExpr n) → AreScalar c r ≡ AllScalar c (items-the_row-TExpr n r)
scalar-row c n end_of-TExpr = refl
scalar-row c n (more_of-TExpr a rest) =
    ap (λ (T : Type 0). (j : Kind) × IsOfKind c a j × IsScalar j × T) (scalar-row c _ rest)

dropped-row : (c : Names) (n : _) (r : Row_of-TExpr n) → AreDropped c r ≡ AllDropped c (items-the_row-TExpr n r)
dropped-row c n end_of-TExpr = refl
dropped-row c n (more_of-TExpr a rest) = ap (λ (T : Type 0). IsOfKind c a Void × T) (dropped-row c _ rest)

arguments-row : (c : Names) (n : _) (r : Row_of-TExpr n) (ks : List (Option Scalar)) →
    AreArguments c r ks ≡ AllArguments c (items-the_row-TExpr n r) ks
arguments-row c n end_of-TExpr [] = refl
arguments-row c n end_of-TExpr (k ∷ ks) = refl
arguments-row c n (more_of-TExpr a rest) [] = refl
arguments-row c n (more_of-TExpr a rest) (None ∷ ks) = refl
arguments-row c n (more_of-TExpr a rest) (Some k ∷ ks) =
    ap (λ (T : Type 0). IsOfKind c a (Holds k) × T) (arguments-row c _ rest ks)

arms-row : (c : Names) (n : _) (r : Row_of-Arm n) (g : Kind) → ArmsGive c r g ≡ ArmsLead c (items-the_row-Arm n r) g
arms-row c n end_of-Arm g = refl
arms-row c n (more_of-Arm a b rest) g =
    ap (λ (T : Type 0). (j : Kind) × IsOfKind c a j × IsScalar j × IsOfKind c b g × T) (arms-row c _ rest g)

targets-row : (c : Names) (n : _) (r : Row_of-Target n) → TargetsGive c r ≡ TargetsLead c (items-the_row-Target n r)
targets-row c n end_of-Target = refl
targets-row c n (more_of-Target (target.Variable i h) rest) =
    ap {B = Kind → Kind → Type 0} (λ (T : Kind → Kind → Type 0) j g. (k : Kind) × T j k × IsScalarAt c i h.scalar × Changes h k × (g ≡ Holds h.scalar)) (targets-row c _ rest)
targets-row c n (more_of-Target (target.Place a h) rest) =
    ap {B = Kind → Kind → Type 0} (λ (T : Kind → Kind → Type 0) j g. (k : Kind) × T j k × IsOfKind c a (Holds scalar.Pointer) × Changes h k × (g ≡ Holds h.scalar)) (targets-row c _ rest)

-- ---- each form

pub kind-Applied : (c : Names) (t : CType) (a : TExpr) (steps : List Step) (g : Kind) →
    IsOfKind c (x.Applied t a steps) g ≡ ((j : Kind) × IsOfKind c a j × StepsLead c steps j g)
unfolding Rattle.c_tree.specs.declared.typed.expression.Step.TheBlock.hidden-the_row-TExpr-0 denote.Hole.Carrier.hidden
kind-Applied c t a steps g =
    ap (λ (T : Kind → Kind → Type 0). (j : Kind) × IsOfKind c a j × T j g) (steps-row c _ (hidden-the_row-Step-1 steps) ∙ ap (λ es. StepsLead c es) (items_hidden-the_row-Step-1 steps))

pub kind-All : (c : Names) (t : CType) (es : List TExpr) (g : Kind) → IsOfKind c (x.All t es) g ≡ (AllScalar c es × (g ≡ word))
kind-All c t es g =
    ap (λ (T : Type 0). T × (g ≡ word)) (scalar-row c _ (hidden-the_row-TExpr-2 es) ∙ ap (λ es. AllScalar c es) (items_hidden-the_row-TExpr-2 es))

pub kind-Any : (c : Names) (t : CType) (es : List TExpr) (g : Kind) → IsOfKind c (x.Any t es) g ≡ (AllScalar c es × (g ≡ word))
kind-Any c t es g =
    ap (λ (T : Type 0). T × (g ≡ word)) (scalar-row c _ (hidden-the_row-TExpr-2 es) ∙ ap (λ es. AllScalar c es) (items_hidden-the_row-TExpr-2 es))

pub kind-Choose : (c : Names) (t : CType) (arms : List Arm) (a : TExpr) (g : Kind) →
    IsOfKind c (x.Choose t arms a) g ≡ (ArmsLead c arms g × IsOfKind c a g)
unfolding Rattle.c_tree.specs.declared.typed.expression.Step.TheBlock.hidden-the_row-TExpr-0 denote.Hole.Carrier.hidden
kind-Choose c t arms a g =
    ap (λ (T : Type 0). T × IsOfKind c a g) (arms-row c _ (hidden-the_row-Arm-3 arms) g ∙ ap (λ es. ArmsLead c es g) (items_hidden-the_row-Arm-3 arms))

pub kind-Comma : (c : Names) (t : CType) (es : List TExpr) (a : TExpr) (g : Kind) →
    IsOfKind c (x.Comma t es a) g ≡ (AllDropped c es × IsOfKind c a g)
unfolding Rattle.c_tree.specs.declared.typed.expression.Step.TheBlock.hidden-the_row-TExpr-0 denote.Hole.Carrier.hidden
kind-Comma c t es a g =
    ap (λ (T : Type 0). T × IsOfKind c a g) (dropped-row c _ (hidden-the_row-TExpr-2 es) ∙ ap (λ es. AllDropped c es) (items_hidden-the_row-TExpr-2 es))

pub kind-Assign : (c : Names) (t : CType) (targets : List Target) (a : TExpr) (g : Kind) →
    IsOfKind c (x.Assign t targets a) g ≡ ((j : Kind) × IsOfKind c a j × TargetsLead c targets j g)
unfolding Rattle.c_tree.specs.declared.typed.expression.Step.TheBlock.hidden-the_row-TExpr-0 denote.Hole.Carrier.hidden
kind-Assign c t targets a g =
    ap (λ (T : Kind → Kind → Type 0). (j : Kind) × IsOfKind c a j × T j g) (targets-row c _ (hidden-the_row-Target-4 targets) ∙ ap (λ es. TargetsLead c es) (items_hidden-the_row-Target-4 targets))

arguments-list : (c : Names) (es : List TExpr) (ks : List (Option Scalar)) →
    AreArguments c (hidden-the_row-TExpr-2 es) ks ≡ AllArguments c es ks
arguments-list c es ks =
    arguments-row c _ (hidden-the_row-TExpr-2 es) ks ∙ ap (λ es. AllArguments c es ks) (items_hidden-the_row-TExpr-2 es)

pub kind-Call : (c : Names) (t : CType) (f : ℕ) (es : List TExpr) (g : Kind) →
    IsOfKind c (x.Call t f es) g ≡ ((h : Signature) × (slice_get c.functions f ≡ Some h) × AllArguments c es h.parameters × ResultIs h.result g)
kind-Call c t f es g =
    λ i. (h : Signature) × (slice_get c.functions f ≡ Some h) × arguments-list c es h.parameters i × ResultIs h.result g

pub kind-DroppedCall : (c : Names) (t : CType) (f : ℕ) (es : List TExpr) (g : Kind) →
    IsOfKind c (x.DroppedCall t f es) g ≡ ((h : Signature) × (slice_get c.functions f ≡ Some h) × AllArguments c es h.parameters × (g ≡ Void))
kind-DroppedCall c t f es g =
    λ i. (h : Signature) × (slice_get c.functions f ≡ Some h) × arguments-list c es h.parameters i × (g ≡ Void)

pub kind-PutChar : (c : Names) (t : CType) (a : TExpr) (g : Kind) →
    IsOfKind c (x.PutChar t a) g ≡ ((j : Kind) × IsOfKind c a j × IsInteger j × (g ≡ word))
unfolding Rattle.c_tree.specs.declared.typed.expression.Step.TheBlock.hidden-the_row-TExpr-0 denote.Hole.Carrier.hidden
kind-PutChar c t a g = refl

pub kind-Exit : (c : Names) (t : CType) (a : TExpr) (g : Kind) →
    IsOfKind c (x.Exit t a) g ≡ ((j : Kind) × IsOfKind c a j × IsInteger j × (g ≡ Void))
unfolding Rattle.c_tree.specs.declared.typed.expression.Step.TheBlock.hidden-the_row-TExpr-0 denote.Hole.Carrier.hidden
kind-Exit c t a g = refl

-- ---- a further operand behind a list

pub steps-append : (c : Names) (steps : List Step) (s : Step) (j i g : Kind) → StepsLead c steps j i → StepGives c s i g →
    StepsLead c (steps ++ s ∷ []) j g
steps-append c [] (step.Unary u) j i g h k = (g, subst (λ i. UnaryGives u i g) h k, refl)
steps-append c [] (step.Binary o b) j i g h k =
    (k.0, k.1, g, subst (λ i. ArithmeticGives o i k.0 g) h k.2, refl)
steps-append c (step.Unary u ∷ rest) s j i g h k = (h.0, h.1, steps-append c rest s h.0 i g h.2 k)
steps-append c (step.Binary o b ∷ rest) s j i g h k = (h.0, h.1, h.2, h.3, steps-append c rest s h.2 i g h.4 k)

pub arguments-append : (c : Names) (es : List TExpr) (ks : List (Option Scalar)) (a : TExpr) (k : Scalar) →
    AllArguments c es ks → IsOfKind c a (Holds k) → AllArguments c (es ++ a ∷ []) (ks ++ Some k ∷ [])
arguments-append c [] [] a k h g = (g, tt)
arguments-append c [] (j ∷ ks) a k h g = absurd h
arguments-append c (e ∷ es) [] a k h g = absurd h
arguments-append c (e ∷ es) (None ∷ ks) a k h g = absurd h
arguments-append c (e ∷ es) (Some j ∷ ks) a k h g = (h.0, arguments-append c es ks a k h.1 g)

pub scalar-append : (c : Names) (es : List TExpr) (a : TExpr) (j : Kind) → AllScalar c es → IsOfKind c a j → IsScalar j →
    AllScalar c (es ++ a ∷ [])
scalar-append c [] a j h g i = (j, g, i, tt)
scalar-append c (e ∷ es) a j h g i = (h.0, h.1, h.2, scalar-append c es a j h.3 g i)

pub dropped-append : (c : Names) (es : List TExpr) (a : TExpr) → AllDropped c es → IsOfKind c a Void →
    AllDropped c (es ++ a ∷ [])
dropped-append c [] a h g = (g, tt)
dropped-append c (e ∷ es) a h g = (h.0, dropped-append c es a h.1 g)
