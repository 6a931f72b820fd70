-- Laws of values and of operations on them: in another store, and in words.
-- No contract cites this file: it holds proofs.
use Rattle.std.proofs.Common.{◌≡◌, refl, sym, ap, ◌∙◌, ℕ, ◌+◌}
use Rattle.std.proofs.lemmas.Option.{none-some}
use Rattle.std.specs.Prelude.{Option, Some, None, Bool, true, false, not, ◌&&◌, ◌-◌, ◌%◌, ◌^◌, ◌==◌}
use Rattle.word_ops.specs.declared.operation.Op.{Op}
use Rattle.word_ops.specs.declared.operation.Op.TheVariants.{Add, Sub, Eq, Ne, Ltu, Leu}
use Rattle.word_ops.specs.Choice.{only_if, when}
use Rattle.word_ops.specs.Word.{number_of_truth}
use Rattle.word_ops.specs.Operation.{machine_word}
use Rattle.word_ops.specs.Store.{Value, Number, Pointer, Store, Shape, shape_at, is_live}
use Rattle.word_ops.specs.Values.{pointer_within, of_pointer_and_number, of_number_and_pointer, of_pointers, value_of_operation, truth, is_pointer, is_pointer_or_null, moved_pointer, pointer_difference, equal_pointers, pointer_before, pointer_at_most}
use Rattle.word_ops.specs.Addresses.{address_in, word_of_value, IsOffsetIn, IsValueIn}
use Rattle.word_ops.specs.Laws.Lists.{when-some}
use Rattle.word_ops.specs.Changes.{SameRegions}

-- ---- in a store with the same regions

-- what the second knows of an object, it knows as the first does
abbrev Knows : Option Shape → Option Shape → Type 0
Knows y z = (u : Shape) → y ≡ Some u → z ≡ Some u

within_same : (y z : Option Shape) (r o : ℕ) (v : Value) → Knows y z → pointer_within y r o ≡ Some v →
    pointer_within z r o ≡ Some v
within_same None z r o v h e = absurd (none-some v e)
within_same (Some u) z r o v h e = rw (h u refl) e

live_same : (y z : Option Shape) (b : Bool) (w v : Value) → Knows y z → only_if (is_live y && b) w ≡ Some v →
    only_if (is_live z && b) w ≡ Some v
live_same None z b w v h e = absurd (none-some v e)
live_same (Some u) z b w v h e = rw (h u refl) e

both_same : (x y x2 y2 : Option Shape) (w v : Value) → Knows x x2 → Knows y y2 →
    only_if (is_live x && is_live y) w ≡ Some v → only_if (is_live x2 && is_live y2) w ≡ Some v
both_same None y x2 y2 w v h k e = absurd (none-some v e)
both_same (Some t) None x2 y2 w v h k e =
    absurd (none-some v ((let no : t.live && false ≡ false = none_live t.live in ap (λ b. only_if b w) (sym no)) ∙ e))
  where
    none_live : (b : Bool) → b && false ≡ false
    none_live true = refl
    none_live false = refl
both_same (Some t) (Some u) x2 y2 w v h k e = rw (h t refl, k u refl) e

pointer_number_same : (y z : Option Shape) (op : Op) (r o n : ℕ) (v : Value) → Knows y z →
    of_pointer_and_number y op r o n ≡ Some v → of_pointer_and_number z op r o n ≡ Some v
pointer_number_same y z Add r o n v h e = within_same y z r ((o + n) % 2 ^ 32) v h e
pointer_number_same y z Sub r o n v h e = within_same y z r ((o + (2 ^ 32 - n)) % 2 ^ 32) v h e
pointer_number_same y z Eq r o n v h e = live_same y z (n == 0) (Number 0) v h e
pointer_number_same y z Ne r o n v h e = live_same y z (n == 0) (Number 1) v h e
pointer_number_same y z _ r o n v h e = absurd (none-some v e)

number_pointer_same : (y z : Option Shape) (op : Op) (n r o : ℕ) (v : Value) → Knows y z →
    of_number_and_pointer y op n r o ≡ Some v → of_number_and_pointer z op n r o ≡ Some v
number_pointer_same y z Add n r o v h e = within_same y z r ((n + o) % 2 ^ 32) v h e
number_pointer_same y z Eq n r o v h e = live_same y z (n == 0) (Number 0) v h e
number_pointer_same y z Ne n r o v h e = live_same y z (n == 0) (Number 1) v h e
number_pointer_same y z _ n r o v h e = absurd (none-some v e)

pointers_same : (x y x2 y2 : Option Shape) (op : Op) (r o q p : ℕ) (v : Value) → Knows x x2 → Knows y y2 →
    of_pointers x y op r o q p ≡ Some v → of_pointers x2 y2 op r o q p ≡ Some v
pointers_same x y x2 y2 Sub r o q p v h k e = live_same x x2 (r == q) (Number (machine_word Sub o p)) v h e
pointers_same x y x2 y2 Ltu r o q p v h k e = live_same x x2 (r == q) (Number (machine_word Ltu o p)) v h e
pointers_same x y x2 y2 Leu r o q p v h k e = live_same x x2 (r == q) (Number (machine_word Leu o p)) v h e
pointers_same x y x2 y2 Eq r o q p v h k e =
    both_same x y x2 y2 (Number (number_of_truth ((r == q) && (o == p)))) v h k e
pointers_same x y x2 y2 Ne r o q p v h k e =
    both_same x y x2 y2 (Number (number_of_truth (not ((r == q) && (o == p))))) v h k e
pointers_same x y x2 y2 _ r o q p v h k e = absurd (none-some v e)

-- an operation that has a value keeps it
pub operation-same : (s t : Store) (op : Op) (x y v : Value) → SameRegions s t →
    value_of_operation s op x y ≡ Some v → value_of_operation t op x y ≡ Some v
operation-same s t op (Number a) (Number b) v h e = e
operation-same s t op (Pointer r o) (Number b) v h e =
    pointer_number_same (shape_at s r) (shape_at t r) op r o b v (h r) e
operation-same s t op (Number a) (Pointer q p) v h e =
    number_pointer_same (shape_at s q) (shape_at t q) op a q p v (h q) e
operation-same s t op (Pointer r o) (Pointer q p) v h e =
    pointers_same (shape_at s r) (shape_at s q) (shape_at t r) (shape_at t q) op r o q p v (h r) (h q) e

pub truth-same : (s t : Store) (v : Value) (b : Bool) → SameRegions s t → truth s v ≡ Some b → truth t v ≡ Some b
truth-same s t (Number n) b h e = e
truth-same s t (Pointer r o) b h e = go (shape_at s r) (h r) e
  where
    go : (y : Option Shape) → Knows y (shape_at t r) → only_if (is_live y) true ≡ Some b →
        only_if (is_live (shape_at t r)) true ≡ Some b
    go None k e = absurd (none-some b e)
    go (Some u) k e = rw (k u refl) e

offset_same : (y z : Option Shape) (o : ℕ) → Knows y z → IsOffsetIn y o → IsOffsetIn z o
offset_same None z o h k = absurd k
offset_same (Some u) z o h k = rw (h u refl) k

pub IsValueIn-same : (s t : Store) (v : Value) → SameRegions s t → IsValueIn s v → IsValueIn t v
IsValueIn-same s t (Number n) h k = k
IsValueIn-same s t (Pointer r o) h k = offset_same (shape_at s r) (shape_at t r) o (h r) k

address_same : (y z : Option Shape) (o : ℕ) → Knows y z → IsOffsetIn y o → address_in z ≡ address_in y
address_same None z o h k = absurd k
address_same (Some u) z o h k = ap address_in (h u refl)

pub word_of_value-same : (s t : Store) (v : Value) → SameRegions s t → IsValueIn s v →
    word_of_value t v ≡ word_of_value s v
word_of_value-same s t (Number n) h k = refl
word_of_value-same s t (Pointer r o) h k = ap (λ a. a + o) (address_same (shape_at s r) (shape_at t r) o (h r) k)

-- ---- operations on pointers alone are operations on values

when_is : {A : Type 0} (b : Bool) (o : Option A) (v : A) → when b o ≡ Some v → o ≡ Some v
when_is b o v e = (when-some b o v e).1

pub moved_pointer-operation : (s : Store) (x y v : Value) → moved_pointer s x y ≡ Some v →
    value_of_operation s Add x y ≡ Some v
moved_pointer-operation s x y v e = when_is (is_pointer x && not (is_pointer y)) (value_of_operation s Add x y) v e

pub pointer_difference-operation : (s : Store) (x y v : Value) → pointer_difference s x y ≡ Some v →
    value_of_operation s Sub x y ≡ Some v
pointer_difference-operation s x y v e = when_is (is_pointer x && is_pointer y) (value_of_operation s Sub x y) v e

pub equal_pointers-operation : (s : Store) (x y v : Value) → equal_pointers s x y ≡ Some v →
    value_of_operation s Eq x y ≡ Some v
equal_pointers-operation s x y v e =
    when_is (is_pointer_or_null x && is_pointer_or_null y) (value_of_operation s Eq x y) v e

pub pointer_before-operation : (s : Store) (x y v : Value) → pointer_before s x y ≡ Some v →
    value_of_operation s Ltu x y ≡ Some v
pointer_before-operation s x y v e = when_is (is_pointer x && is_pointer y) (value_of_operation s Ltu x y) v e

pub pointer_at_most-operation : (s : Store) (x y v : Value) → pointer_at_most s x y ≡ Some v →
    value_of_operation s Leu x y ≡ Some v
pointer_at_most-operation s x y v e = when_is (is_pointer x && is_pointer y) (value_of_operation s Leu x y) v e
