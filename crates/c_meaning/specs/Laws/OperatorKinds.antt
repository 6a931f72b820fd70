-- Operators give values of the kinds that stand for them.
-- No contract cites this file: it holds proofs.
use Rattle.std.proofs.Common.{◌≡◌, refl, sym, ap, ◌∙◌, subst, ℕ, ◌<◌, arith, ⊎_elim}
use Rattle.std.proofs.lemmas.Bool.{false≢true}
use Rattle.std.proofs.lemmas.Bool.Decides.{eqb_tells}
use Rattle.std.proofs.lemmas.Option.{none-some, same_Some, option_and_then_some}
use Rattle.std.specs.Prelude.{◌-◌, ◌^◌, ◌==◌, ◌%◌, Bool, true, false, not, ◌&&◌, nat_lt, nat_le, ℤ, pos, negsuc, ◌+ℤ◌, neg_ℤ, int_div, unsigned_abs, Option, Some, None, slice_get}
use Rattle.std.specs.Option.{option_map, option_and_then}
use Rattle.word_ops.specs.declared.operation.Op.{Op}
use Rattle.word_ops.specs.declared.operation.Op.TheVariants as op
use Rattle.word_ops.specs.declared.operation.Width.{Width}
use Rattle.word_ops.specs.declared.operation.Width.TheVariants as width
use Rattle.word_ops.specs.Choice.{only_if}
use Rattle.word_ops.specs.Word.{number_of_truth, word_of_integer}
use Rattle.word_ops.specs.Operation.{word_of_operation}
use Rattle.word_ops.specs.Store.{Value, Number, Pointer, Store, Shape, shape_at, is_live}
use Rattle.word_ops.specs.Access.{narrowed_to, IsInRange, is_kept_by, load, pointer_only, write}
use Rattle.word_ops.specs.Values.{value_of_operation, truth, is_pointer, is_pointer_or_null, equal_pointers, pointer_before, pointer_at_most, place_within, pointer_plus, pointer_minus}
use Rattle.word_ops.specs.Laws.Lists.{only_if-some, when-some}
use Rattle.word_ops.specs.Laws.Operations.{word_of_operation-small, word_of_integer-small, number_of_truth-le}
use Rattle.word_ops.specs.Laws.Widths.{narrowed_to-in_range, IsInRange-small}
use Rattle.word_ops.specs.Laws.Words.{number_some}
use Rattle.word_ops.specs.Laws.Loads.{load_integer-load, load-kept}
use Rattle.c_tree.specs.declared.typed.operator.Scalar.{Scalar}
use Rattle.c_tree.specs.declared.typed.operator.Scalar.TheVariants as scalar
use Rattle.c_tree.specs.declared.typed.operator.Sign.{Sign}
use Rattle.c_tree.specs.declared.typed.operator.Sign.TheVariants as sign
use Rattle.c_tree.specs.declared.typed.operator.Conversion.{Conversion}
use Rattle.c_tree.specs.declared.typed.operator.Conversion.TheVariants as conversion
use Rattle.c_tree.specs.declared.typed.operator.Relation.{Relation}
use Rattle.c_tree.specs.declared.typed.operator.Relation.TheVariants as relation
use Rattle.c_tree.specs.declared.typed.operator.Stride.{Stride}
use Rattle.c_tree.specs.declared.typed.operator.Arithmetic.{Arithmetic}
use Rattle.c_tree.specs.declared.typed.operator.Arithmetic.TheVariants as arithmetic
use Rattle.c_tree.specs.declared.typed.operator.Change.{Change}
use Rattle.c_tree.specs.declared.typed.operator.Given.{Given}
use Rattle.c_tree.specs.declared.typed.operator.Given.TheVariants as giving
use Rattle.c_tree.specs.declared.typed.operator.Increment.{Increment}
use Rattle.c_tree.specs.declared.typed.operator.Primary.{Primary}
use Rattle.c_tree.specs.declared.typed.operator.Primary.TheVariants as primary
use Rattle.c_tree.specs.declared.typed.operator.Unary.{Unary}
use Rattle.c_tree.specs.declared.typed.operator.Unary.TheVariants as unary
use Rattle.c_tree.specs.TypedKinds.{Kind, Void, Holds, Names, word, IsInteger, IsPointer, Converts, ArithmeticGives, ChangesBy, Changes, Increments, UnaryGives, PrimaryGives, width_of}
use Rattle.c_meaning.specs.Environment.{Environment, automatic_place, static_place}
use Rattle.c_meaning.specs.Operators.{value_at, narrowed_value, truth_value, converted, related, integers_compared, unequal_pointers, pointers_compared, bytes_moved, moved_forward, moved_back, elements_in, elements_between, arithmetic_value, Changed, unchanged, stored, operated, assigned_by, assigned, given_of, incremented, primary_value, negated, unary_value}
use Rattle.c_meaning.specs.Kinds.{IsValueOf}

-- ---- words

-- a number that is a word
abbrev pub IsWord : Value → Type 0
IsWord v = (n : ℕ) × (v ≡ Number n) × (n < 2 ^ 32)

pub integer-word : (j : Kind) (v : Value) → IsInteger j → IsValueOf j v → IsWord v
integer-word Void v i h = absurd i
integer-word (Holds (scalar.Integer k)) v i h = (h.0, h.1, IsInRange-small k h.0 h.2)
integer-word (Holds scalar.Pointer) v i h = absurd i

pub pointer-value : (j : Kind) (v : Value) → IsPointer j → IsValueOf j v → is_pointer_or_null v ≡ true
pointer-value Void v i h = absurd i
pointer-value (Holds (scalar.Integer k)) v i h = absurd i
pointer-value (Holds scalar.Pointer) v i h = h

-- the number of a truth
abbrev pub IsTruth : Value → Type 0
IsTruth v = (b : Bool) × (v ≡ Number (number_of_truth b))

truth-word : (v : Value) → IsTruth v → IsValueOf word v
truth-word v h = (number_of_truth h.0, h.1, omega (arith, number_of_truth-le h.0))

truth-byte : (v : Value) → IsTruth v → IsValueOf (Holds (scalar.Integer width.U8)) v
truth-byte v h = (number_of_truth h.0, h.1, omega (arith, number_of_truth-le h.0))

truth_value-truth : (o : Option Bool) (u : Value) → truth_value o ≡ Some u → IsTruth u
truth_value-truth None u e = absurd (none-some u e)
truth_value-truth (Some b) u e = (b, sym (same_Some (Number (number_of_truth b)) u e))

-- an operation on words gives a word
operation-kind : (st : Store) (o : Op) (x y u : Value) → IsWord x → IsWord y → value_of_operation st o x y ≡ Some u →
    IsValueOf word u
operation-kind st o x y u a b e =
    let h = number_some (word_of_operation o a.0 b.0) u (sym (ap (λ x. value_of_operation st o x y) a.1 ∙ ap (λ y. value_of_operation st o (Number a.0) y) b.1) ∙ e) in
    (h.0, h.2, word_of_operation-small o a.0 b.0 h.0 a.2 b.2 h.1)

-- ---- comparisons

related-such :
    (I Q : Value → Type 0) (less at_most equal different : Value → Value → Option Value) → ((x y u : Value) → I x → I y → less x y ≡ Some u → Q u) → ((x y u : Value) → I x → I y → at_most x y ≡ Some u → Q u) → ((x y u : Value) → I x → I y → equal x y ≡ Some u → Q u) → ((x y u : Value) → I x → I y → different x y ≡ Some u → Q u) → (r : Relation) (x y u : Value) → I x → I y → related less at_most equal different r x y ≡ Some u → Q u
related-such I Q l m e d hl hm he hd relation.Less x y u i j h = hl x y u i j h
related-such I Q l m e d hl hm he hd relation.Greater x y u i j h = hl y x u j i h
related-such I Q l m e d hl hm he hd relation.AtMost x y u i j h = hm x y u i j h
related-such I Q l m e d hl hm he hd relation.AtLeast x y u i j h = hm y x u j i h
related-such I Q l m e d hl hm he hd relation.Equal x y u i j h = he x y u i j h
related-such I Q l m e d hl hm he hd relation.NotEqual x y u i j h = hd x y u i j h

integers_compared-kind : (st : Store) (s : Sign) (r : Relation) (x y u : Value) → IsWord x → IsWord y →
    integers_compared st s r x y ≡ Some u → IsValueOf word u
integers_compared-kind st sign.Signed r x y u i j e =
    related-such IsWord (IsValueOf word) (value_of_operation st op.Lts) (value_of_operation st op.Les) (value_of_operation st op.Eq) (value_of_operation st op.Ne) (operation-kind st op.Lts) (operation-kind st op.Les) (operation-kind st op.Eq) (operation-kind st op.Ne) r x y u i j e
integers_compared-kind st sign.Unsigned r x y u i j e =
    related-such IsWord (IsValueOf word) (value_of_operation st op.Ltu) (value_of_operation st op.Leu) (value_of_operation st op.Eq) (value_of_operation st op.Ne) (operation-kind st op.Ltu) (operation-kind st op.Leu) (operation-kind st op.Eq) (operation-kind st op.Ne) r x y u i j e

only_if-truth : (b t : Bool) (u : Value) → only_if b (Number (number_of_truth t)) ≡ Some u → IsTruth u
only_if-truth b t u e = (t, sym (only_if-some b (Number (number_of_truth t)) u e).1)

before-truth : (st : Store) (x y u : Value) → value_of_operation st op.Ltu x y ≡ Some u → IsTruth u
before-truth st (Number a) (Number b) u e = (nat_lt a b, sym (same_Some (Number (number_of_truth (nat_lt a b))) u e))
before-truth st (Number a) (Pointer q p) u e = absurd (none-some u e)
before-truth st (Pointer r o) (Number b) u e = absurd (none-some u e)
before-truth st (Pointer r o) (Pointer q p) u e =
    only_if-truth (is_live (shape_at st r) && (r == q)) (nat_lt o p) u e

at_most-truth : (st : Store) (x y u : Value) → value_of_operation st op.Leu x y ≡ Some u → IsTruth u
at_most-truth st (Number a) (Number b) u e = (nat_le a b, sym (same_Some (Number (number_of_truth (nat_le a b))) u e))
at_most-truth st (Number a) (Pointer q p) u e = absurd (none-some u e)
at_most-truth st (Pointer r o) (Number b) u e = absurd (none-some u e)
at_most-truth st (Pointer r o) (Pointer q p) u e =
    only_if-truth (is_live (shape_at st r) && (r == q)) (nat_le o p) u e

equal-truth : (st : Store) (x y u : Value) → value_of_operation st op.Eq x y ≡ Some u → IsTruth u
equal-truth st (Number a) (Number b) u e = (a == b, sym (same_Some (Number (number_of_truth (a == b))) u e))
equal-truth st (Number a) (Pointer q p) u e = only_if-truth (is_live (shape_at st q) && (a == 0)) false u e
equal-truth st (Pointer r o) (Number b) u e = only_if-truth (is_live (shape_at st r) && (b == 0)) false u e
equal-truth st (Pointer r o) (Pointer q p) u e =
    only_if-truth (is_live (shape_at st r) && is_live (shape_at st q)) ((r == q) && (o == p)) u e

different-truth : (st : Store) (x y u : Value) → value_of_operation st op.Ne x y ≡ Some u → IsTruth u
different-truth st (Number a) (Number b) u e = (not (a == b), sym (same_Some (Number (number_of_truth (not (a == b)))) u e))
different-truth st (Number a) (Pointer q p) u e = only_if-truth (is_live (shape_at st q) && (a == 0)) true u e
different-truth st (Pointer r o) (Number b) u e = only_if-truth (is_live (shape_at st r) && (b == 0)) true u e
different-truth st (Pointer r o) (Pointer q p) u e =
    only_if-truth (is_live (shape_at st r) && is_live (shape_at st q)) (not ((r == q) && (o == p))) u e

abbrev IsAny : Value → Type 0
IsAny v = Unit {0}

pointers_compared-kind : (st : Store) (r : Relation) (x y u : Value) → pointers_compared st r x y ≡ Some u →
    IsValueOf word u
pointers_compared-kind st r x y u e =
    truth-word u (related-such IsAny IsTruth (pointer_before st) (pointer_at_most st) (equal_pointers st) (unequal_pointers st) (λ x y u i j e. before-truth st x y u (when-some (is_pointer x && is_pointer y) (value_of_operation st op.Ltu x y) u e).1) (λ x y u i j e. at_most-truth st x y u (when-some (is_pointer x && is_pointer y) (value_of_operation st op.Leu x y) u e).1) (λ x y u i j e. equal-truth st x y u (when-some (is_pointer_or_null x && is_pointer_or_null y) (value_of_operation st op.Eq x y) u e).1) (λ x y u i j e. different-truth st x y u (when-some (is_pointer_or_null x && is_pointer_or_null y) (value_of_operation st op.Ne x y) u e).1) r x y u tt tt e)

-- ---- pointers

place_within-pointer : (z : Option Shape) (r : ℕ) (i : ℤ) (u : Value) → place_within z r i ≡ Some u →
    is_pointer_or_null u ≡ true
place_within-pointer None r (pos o) u e = absurd (none-some u e)
place_within-pointer (Some z) r (pos o) u e =
    subst (λ u. is_pointer_or_null u ≡ true) (only_if-some (z.live && nat_le o z.size) (Pointer r o) u e).1 refl
place_within-pointer z r (negsuc n) u e = absurd (none-some u e)

pointer_plus-pointer : (st : Store) (v u : Value) (i : ℤ) → pointer_plus st v i ≡ Some u → is_pointer_or_null u ≡ true
pointer_plus-pointer st (Number n) u i e = absurd (none-some u e)
pointer_plus-pointer st (Pointer r o) u i e = place_within-pointer (shape_at st r) r (pos o +ℤ i) u e

moved_forward-pointer : (st : Store) (z : Stride) (p y u : Value) → moved_forward st z p y ≡ Some u →
    is_pointer_or_null u ≡ true
moved_forward-pointer st z p (Number n) u e = pointer_plus-pointer st p u (bytes_moved z n) e
moved_forward-pointer st z p (Pointer r o) u e = absurd (none-some u e)

moved_back-pointer : (st : Store) (z : Stride) (p y u : Value) → moved_back st z p y ≡ Some u →
    is_pointer_or_null u ≡ true
moved_back-pointer st z p (Number n) u e = pointer_plus-pointer st p u (neg_ℤ (bytes_moved z n)) e
moved_back-pointer st z p (Pointer r o) u e = absurd (none-some u e)

elements_between-kind : (st : Store) (n : ℕ) (x y u : Value) → elements_between st n x y ≡ Some u → IsValueOf word u
elements_between-kind st n x y u e =
    option_and_then_some (elements_in n) (pointer_minus st x y) u e (λ d c f. (word_of_integer (int_div d (pos n)), sym (only_if-some (unsigned_abs d % n == 0) (Number (word_of_integer (int_div d (pos n)))) u f).1, word_of_integer-small (int_div d (pos n))))

-- ---- reading

kept-in_range : (k : Width) (n : ℕ) → (narrowed_to k n == n) ≡ true → IsInRange k n
kept-in_range k n t =
    ⊎_elim (λ y. subst (IsInRange k) y.1 (narrowed_to-in_range k n)) (λ d. absurd (false≢true (sym d.0 ∙ t))) (eqb_tells (narrowed_to k n) n)

pub value_at-kind : (st : Store) (k : Scalar) (p u : Value) → value_at st k p ≡ Some u → IsValueOf (Holds k) u
value_at-kind st (scalar.Integer k) p u e =
    let h = load_integer-load st k p u e in
    (h.1.0, h.1.1, kept-in_range k h.1.0 (subst (λ u. is_kept_by k u ≡ true) h.1.1 (load-kept st k p u h.0)))
value_at-kind st scalar.Pointer p u e = option_and_then_some pointer_only (load st width.Word p) u e (λ v c d. go v d)
  where
    go : (v : Value) → pointer_only v ≡ Some u → is_pointer_or_null u ≡ true
    go (Number n) d =
        let h = only_if-some (n == 0) (Number n) u d in subst (λ u. is_pointer_or_null u ≡ true) h.1 h.0
    go (Pointer r o) d = subst (λ u. is_pointer_or_null u ≡ true) (same_Some (Pointer r o) u d) refl

-- ---- conversions

narrowed_value-kind : (k : Width) (v u : Value) → narrowed_value k v ≡ Some u → IsValueOf (Holds (scalar.Integer k)) u
narrowed_value-kind k (Number n) u e =
    (narrowed_to k n, sym (same_Some (Number (narrowed_to k n)) u e), narrowed_to-in_range k n)
narrowed_value-kind k (Pointer r o) u e = absurd (none-some u e)

same_word : (v u : Value) → IsWord v → Some v ≡ Some u → IsValueOf word u
same_word v u h e = (h.0, sym (same_Some v u e) ∙ h.1, h.2)

pub converted-kind : (st : Store) (c : Conversion) (j g : Kind) (v u : Value) → Converts c j g → IsValueOf j v →
    converted st c v ≡ Some u → IsValueOf g u
converted-kind st (conversion.Integer width.Word) j g v u c h e =
    subst (λ g. IsValueOf g u) (sym c.1) (same_word v u (integer-word j v c.0 h) e)
converted-kind st (conversion.Integer width.U8) j g v u c h e =
    subst (λ g. IsValueOf g u) (sym c.1) (narrowed_value-kind width.U8 v u e)
converted-kind st (conversion.Integer width.S8) j g v u c h e =
    subst (λ g. IsValueOf g u) (sym c.1) (narrowed_value-kind width.S8 v u e)
converted-kind st (conversion.Integer width.U16) j g v u c h e =
    subst (λ g. IsValueOf g u) (sym c.1) (narrowed_value-kind width.U16 v u e)
converted-kind st (conversion.Integer width.S16) j g v u c h e =
    subst (λ g. IsValueOf g u) (sym c.1) (narrowed_value-kind width.S16 v u e)
converted-kind st conversion.Bool j g v u c h e =
    subst (λ g. IsValueOf g u) (sym c.1) (truth-byte u (truth_value-truth (truth st v) u e))
converted-kind st conversion.Pointer j g v u c h e =
    subst (λ g. IsValueOf g u) (sym c.1) (subst (λ u. is_pointer_or_null u ≡ true) (same_Some v u e) (pointer-value j v c.0 h))

-- ---- binary operators

pub arithmetic-kind : (st : Store) (o : Arithmetic) (i j g : Kind) (x y u : Value) → ArithmeticGives o i j g →
    IsValueOf i x → IsValueOf j y → arithmetic_value st o x y ≡ Some u → IsValueOf g u
arithmetic-kind st (arithmetic.Word o) i j g x y u c hx hy e =
    subst (λ g. IsValueOf g u) (sym c.2) (operation-kind st o x y u (integer-word i x c.0 hx) (integer-word j y c.1 hy) e)
arithmetic-kind st (arithmetic.Compare r s) i j g x y u c hx hy e =
    subst (λ g. IsValueOf g u) (sym c.2) (integers_compared-kind st s r x y u (integer-word i x c.0 hx) (integer-word j y c.1 hy) e)
arithmetic-kind st (arithmetic.ComparePointers r) i j g x y u c hx hy e =
    subst (λ g. IsValueOf g u) (sym c.2) (pointers_compared-kind st r x y u e)
arithmetic-kind st (arithmetic.PointerPlus z) i j g x y u c hx hy e =
    subst (λ g. IsValueOf g u) (sym c.3) (moved_forward-pointer st z x y u e)
arithmetic-kind st (arithmetic.PlusPointer z) i j g x y u c hx hy e =
    subst (λ g. IsValueOf g u) (sym c.3) (moved_forward-pointer st z y x u e)
arithmetic-kind st (arithmetic.PointerMinus z) i j g x y u c hx hy e =
    subst (λ g. IsValueOf g u) (sym c.3) (moved_back-pointer st z x y u e)
arithmetic-kind st (arithmetic.Difference n) i j g x y u c hx hy e =
    subst (λ g. IsValueOf g u) (sym c.3) (elements_between-kind st n x y u e)

-- ---- what changes an object

pub unchanged-value : (st : Store) (o : Option Value) (h : Changed) → unchanged st o ≡ Some h → o ≡ Some h.value
unchanged-value st None h e = absurd (none-some h e)
unchanged-value st (Some v) h e =
    ap (λ (h : Changed). Some h.value) (same_Some (record { store = st; value = v }) h e)

pub stored-value : (st : Store) (k : Scalar) (p v : Value) (h : Changed) → stored st k p v ≡ Some h → v ≡ h.value
stored-value st k p v h e = go (write st (width_of k) p v) e
  where
    go : (o : Option Store) → option_map (λ t. record { store = t; value = v }) o ≡ Some h → v ≡ h.value
    go None e = absurd (none-some h e)
    go (Some t) e = ap (λ (h : Changed). h.value) (same_Some (record { store = t; value = v }) h e)

stored-kind : (st : Store) (g : Kind) (k : Scalar) (p : Value) (o : Option Value) (h : Changed) →
    ((v : Value) → o ≡ Some v → IsValueOf g v) → option_and_then (stored st k p) o ≡ Some h → IsValueOf g h.value
stored-kind st g k p o h f e =
    option_and_then_some (stored st k p) o h e (λ v c d. subst (IsValueOf g) (stored-value st k p v h d) (f v c))

operated-kind : (st : Store) (o : Arithmetic) (c : Conversion) (i j k g : Kind) (x y u : Value) →
    ArithmeticGives o i j k → Converts c k g → IsValueOf i x → IsValueOf j y → operated st o c x y ≡ Some u →
    IsValueOf g u
operated-kind st o c i j k g x y u a b hx hy e =
    option_and_then_some (converted st c) (arithmetic_value st o x y) u e (λ v q d. converted-kind st c k g v u b (arithmetic-kind st o i j k x y v a hx hy q) d)

pub assigned-kind : (st : Store) (c : Change) (j : Kind) (p v : Value) (h : Changed) → Changes c j → IsValueOf j v →
    assigned st c p v ≡ Some h → IsValueOf (Holds c.scalar) h.value
assigned-kind st c j p v h ch hv e = go c.operator ch e
  where
    go : (o : Option Arithmetic) → ChangesBy c.scalar c.conversion o j → assigned_by st c p v o ≡ Some h →
        IsValueOf (Holds c.scalar) h.value
    go None ch e =
        stored-kind st (Holds c.scalar) c.scalar p (converted st c.conversion v) h (λ u q. converted-kind st c.conversion j (Holds c.scalar) v u ch hv q) e
    go (Some o) ch e =
        option_and_then_some (λ x. option_and_then (stored st c.scalar p) (operated st o c.conversion x v)) (value_at st c.scalar p) h e (λ x q d. stored-kind st (Holds c.scalar) c.scalar p (operated st o c.conversion x v) h (λ u r. operated-kind st o c.conversion (Holds c.scalar) j ch.0 (Holds c.scalar) x v u ch.1 ch.2 (value_at-kind st c.scalar p x q) hv r) d)

pub one : IsValueOf word (Number 1)
one = (1, refl, omega arith)

pub incremented-kind : (st : Store) (i : Increment) (p : Value) (h : Changed) → Increments i →
    incremented st i p ≡ Some h → IsValueOf (Holds i.scalar) h.value
incremented-kind st i p h c e =
    option_and_then_some (λ x. option_map (λ (h : Changed). record { store = h.store; value = given_of i.given x h.value }) (option_and_then (stored st i.scalar p) (operated st i.operator i.conversion x (Number 1)))) (value_at st i.scalar p) h e (λ x q d. go x (value_at-kind st i.scalar p x q) (option_and_then (stored st i.scalar p) (operated st i.operator i.conversion x (Number 1))) refl d)
  where
    given : (g : Given) (x y : Value) → IsValueOf (Holds i.scalar) x → IsValueOf (Holds i.scalar) y →
        IsValueOf (Holds i.scalar) (given_of g x y)
    given giving.Old x y a b = a
    given giving.New x y a b = b

    go : (x : Value) → IsValueOf (Holds i.scalar) x → (o : Option Changed) →
        option_and_then (stored st i.scalar p) (operated st i.operator i.conversion x (Number 1)) ≡ o →
        option_map (λ (h : Changed). record { store = h.store; value = given_of i.given x h.value }) o ≡ Some h →
        IsValueOf (Holds i.scalar) h.value
    go x hx None q d = absurd (none-some h d)
    go x hx (Some k) q d =
        subst (λ (h : Changed). IsValueOf (Holds i.scalar) h.value) (same_Some (record { store = k.store; value = given_of i.given x k.value }) h d) (given i.given x k.value hx (stored-kind st (Holds i.scalar) i.scalar p (operated st i.operator i.conversion x (Number 1)) k (λ u r. operated-kind st i.operator i.conversion (Holds i.scalar) word c.0 (Holds i.scalar) x (Number 1) u c.1 c.2 hx one r) q))

-- ---- unary operators

negated-kind : (st : Store) (s : Sign) (v u : Value) → IsWord v → negated st s v ≡ Some u → IsValueOf word u
negated-kind st sign.Signed v u h e = operation-kind st op.Subs (Number 0) v u (0, refl, omega arith) h e
negated-kind st sign.Unsigned v u h e = operation-kind st op.Sub (Number 0) v u (0, refl, omega arith) h e

pub unary-kind : (st : Store) (o : Unary) (j g : Kind) (v : Value) (h : Changed) → UnaryGives o j g → IsValueOf j v →
    unary_value st o v ≡ Some h → IsValueOf g h.value
unary-kind st (unary.Load k) j g v h c hv e =
    subst (λ g. IsValueOf g h.value) (sym c.1) (value_at-kind st k v h.value (unchanged-value st (value_at st k v) h e))
unary-kind st (unary.Convert k) j g v h c hv e =
    converted-kind st k j g v h.value c hv (unchanged-value st (converted st k v) h e)
unary-kind st (unary.Negate s) j g v h c hv e =
    subst (λ g. IsValueOf g h.value) (sym c.1) (negated-kind st s v h.value (integer-word j v c.0 hv) (unchanged-value st (negated st s v) h e))
unary-kind st unary.Complement j g v h c hv e =
    subst (λ g. IsValueOf g h.value) (sym c.1) (operation-kind st op.Xor v (Number (2 ^ 32 - 1)) h.value (integer-word j v c.0 hv) (2 ^ 32 - 1, refl, omega arith) (unchanged-value st (value_of_operation st op.Xor v (Number (2 ^ 32 - 1))) h e))
unary-kind st unary.Not j g v h c hv e =
    subst (λ g. IsValueOf g h.value) (sym c.1) (truth-word h.value (truth_value-truth (option_map not (truth st v)) h.value (unchanged-value st (truth_value (option_map not (truth st v))) h e)))
unary-kind st (unary.Member n) j g v h c hv e =
    subst (λ g. IsValueOf g h.value) (sym c.2) (pointer_plus-pointer st v h.value (pos n) (unchanged-value st (pointer_plus st v (pos n)) h e))
unary-kind st (unary.Increment i) j g v h c hv e =
    subst (λ g. IsValueOf g h.value) (sym c.2) (incremented-kind st i v h c.1 e)
unary-kind st unary.Drop j g v h c hv e = subst (λ g. IsValueOf g h.value) (sym c) tt

-- ---- what an expression begins with

address-kind : (o : Option ℕ) (u : Value) → option_map (λ r. Pointer r 0) o ≡ Some u → is_pointer_or_null u ≡ true
address-kind None u e = absurd (none-some u e)
address-kind (Some r) u e = subst (λ u. is_pointer_or_null u ≡ true) (same_Some (Pointer r 0) u e) refl

pub primary-kind : (c : Names) (env : Environment) (st : Store) (p : Primary) (g : Kind) (h : Changed) →
    PrimaryGives c p g → primary_value env st p ≡ Some h → IsValueOf g h.value
primary-kind c env st (primary.Number n) g h k e =
    subst (λ g. IsValueOf g h.value) (sym k.1) (n, sym (same_Some (Number n) h.value (unchanged-value st (Some (Number n)) h e)), k.0)
primary-kind c env st primary.Null g h k e =
    subst (λ g. IsValueOf g h.value) (sym k) (subst (λ u. is_pointer_or_null u ≡ true) (same_Some (Number 0) h.value (unchanged-value st (Some (Number 0)) h e)) refl)
primary-kind c env st (primary.Variable s i) g h k e =
    subst (λ g. IsValueOf g h.value) (sym k.1) (option_and_then_some (value_at st s) (automatic_place env i) h.value (unchanged-value st (option_and_then (value_at st s) (automatic_place env i)) h e) (λ p q d. value_at-kind st s p h.value d))
primary-kind c env st (primary.Address i) g h k e =
    subst (λ g. IsValueOf g h.value) (sym k.1) (address-kind (slice_get env.objects i) h.value (unchanged-value st (automatic_place env i) h e))
primary-kind c env st (primary.Static i) g h k e =
    subst (λ g. IsValueOf g h.value) (sym k.1) (subst (λ u. is_pointer_or_null u ≡ true) (only_if-some (nat_lt i env.statics) (Pointer i 0) h.value (unchanged-value st (static_place env i) h e)).1 refl)
primary-kind c env st (primary.Increment i inc) g h k e =
    subst (λ g. IsValueOf g h.value) (sym k.2) (option_and_then_some (incremented st inc) (automatic_place env i) h e (λ p q d. incremented-kind st inc p h k.1 d))
