-- The words of values: an operation on values that is defined is the operation on their words.
-- No contract cites this file: it holds proofs.
use Rattle.std.proofs.Common.{◌≡◌, ◌≢◌, refl, sym, ap, ◌∙◌, subst, ℕ, zero, suc, ◌+◌, ◌≤◌, ◌<◌, arith, ⊎_elim, ◌⊎◌}
use Rattle.std.proofs.lemmas.Bool.{eqb-true}
use Rattle.std.proofs.lemmas.Bool.Decides.{eqb_tells, nat_tests}
use Rattle.std.proofs.lemmas.Option.{none-some, same_Some}
use Rattle.std.specs.Prelude.{Option, Some, None, Bool, true, false, not, ◌&&◌, ◌-◌, ◌%◌, ◌^◌, ◌==◌, nat_lt, nat_le}
use Rattle.std.specs.Option.{option_map}
use Rattle.word_ops.specs.declared.operation.Op.{Op}
use Rattle.word_ops.specs.declared.operation.Op.TheVariants.{Add, Sub, Eq, Ne, Ltu, Leu}
use Rattle.word_ops.specs.Choice.{only_if}
use Rattle.word_ops.specs.Word.{number_of_truth}
use Rattle.word_ops.specs.Operation.{machine_word, word_of_operation}
use Rattle.word_ops.specs.Store.{Value, Number, Pointer, Store, Shape, shape_at, is_live}
use Rattle.word_ops.specs.Values.{pointer_within, of_pointer_and_number, of_number_and_pointer, of_pointers, value_of_operation, truth}
use Rattle.word_ops.specs.Addresses.{address_in, word_of_value, IsOffsetIn, IsValueIn, IsAddressed}
use Rattle.word_ops.specs.Laws.Lists.{and_both, only_if-some}
use Rattle.word_ops.specs.Laws.Operations.{word_of_operation-small, number_of_truth-le}

-- ---- words are below 2^32

-- what is asked of an object alone
abbrev HasBounds : Option Shape → Type 0
HasBounds z = (u : Shape) → z ≡ Some u → (0 < u.address) × (u.address + u.size < 2 ^ 32)

small_at : (z : Option Shape) (o : ℕ) → HasBounds z → IsOffsetIn z o → address_in z + o < 2 ^ 32
small_at None o h k = absurd k
small_at (Some u) o h k = let b = h u refl in omega (arith, b, k)

pub word_of_value-small : (s : Store) (v : Value) → IsAddressed s → IsValueIn s v → word_of_value s v < 2 ^ 32
word_of_value-small s (Number n) i k = k
word_of_value-small s (Pointer r o) i k = small_at (shape_at s r) o (i.bounds r) k

some_at : (z : Option Shape) (o : ℕ) → HasBounds z → IsOffsetIn z o → address_in z + o ≢ 0
some_at None o h k = absurd k
some_at (Some u) o h k = let b = h u refl in omega (arith, b, k)

-- no pointer has the word of the null pointer
pub word_of_pointer-some : (s : Store) (r o : ℕ) → IsAddressed s → IsValueIn s (Pointer r o) →
    word_of_value s (Pointer r o) ≢ 0
word_of_pointer-some s r o i k = some_at (shape_at s r) o (i.bounds r) k

-- ---- an operation gives a value of the store

pub number_some : (o : Option ℕ) (v : Value) → option_map Number o ≡ Some v → (n : ℕ) × (o ≡ Some n) × (v ≡ Number n)
number_some None v e = absurd (none-some v e)
number_some (Some n) v e = (n, refl, sym (same_Some (Number n) v e))

-- a pointer that is within a live object
pub record IsWithin (z : Option Shape) (r o : ℕ) (v : Value) : Type 0 where
  pub found : Shape
  pub is : z ≡ Some found
  pub live : found.live ≡ true
  pub inside : o ≤ found.size
  pub value : v ≡ Pointer r o

pub pointer_within-some : (z : Option Shape) (r o : ℕ) (v : Value) → pointer_within z r o ≡ Some v → IsWithin z r o v
pointer_within-some None r o v e = absurd (none-some v e)
pointer_within-some (Some u) r o v e =
    let h = only_if-some (u.live && nat_le o u.size) (Pointer r o) v e in
    let b = and_both u.live (nat_le o u.size) h.0 in
    record { found = u; is = refl; live = b.0; inside = let t = b.1 in grind (arith, nat_tests); value = sym h.1 }

within_in : (s : Store) (r o : ℕ) (v : Value) → pointer_within (shape_at s r) r o ≡ Some v → IsValueIn s v
within_in s r o v e =
    let h = pointer_within-some (shape_at s r) r o v e in
    subst (IsValueIn s) (sym h.value) (subst (λ z. IsOffsetIn z o) (sym h.is) h.inside)

number_in : (s : Store) (b : Bool) (n : ℕ) (v : Value) → n < 2 ^ 32 → only_if b (Number n) ≡ Some v → IsValueIn s v
number_in s b n v lt e = subst (IsValueIn s) (only_if-some b (Number n) v e).1 lt

truth_small : (b : Bool) → number_of_truth b < 2 ^ 32
truth_small b = omega (arith, number_of_truth-le b)

pointer_number_in : (s : Store) (op : Op) (r o n : ℕ) (v : Value) →
    of_pointer_and_number (shape_at s r) op r o n ≡ Some v → IsValueIn s v
pointer_number_in s Add r o n v e = within_in s r ((o + n) % 2 ^ 32) v e
pointer_number_in s Sub r o n v e = within_in s r ((o + (2 ^ 32 - n)) % 2 ^ 32) v e
pointer_number_in s Eq r o n v e = number_in s (is_live (shape_at s r) && (n == 0)) 0 v (omega arith) e
pointer_number_in s Ne r o n v e = number_in s (is_live (shape_at s r) && (n == 0)) 1 v (omega arith) e
pointer_number_in s _ r o n v e = absurd (none-some v e)

number_pointer_in : (s : Store) (op : Op) (n r o : ℕ) (v : Value) →
    of_number_and_pointer (shape_at s r) op n r o ≡ Some v → IsValueIn s v
number_pointer_in s Add n r o v e = within_in s r ((n + o) % 2 ^ 32) v e
number_pointer_in s Eq n r o v e = number_in s (is_live (shape_at s r) && (n == 0)) 0 v (omega arith) e
number_pointer_in s Ne n r o v e = number_in s (is_live (shape_at s r) && (n == 0)) 1 v (omega arith) e
number_pointer_in s _ n r o v e = absurd (none-some v e)

pointers_in : (s : Store) (y z : Option Shape) (op : Op) (r o q p : ℕ) (v : Value) →
    of_pointers y z op r o q p ≡ Some v → IsValueIn s v
pointers_in s y z Sub r o q p v e = number_in s (is_live y && (r == q)) (machine_word Sub o p) v (omega arith) e
pointers_in s y z Ltu r o q p v e =
    number_in s (is_live y && (r == q)) (machine_word Ltu o p) v (truth_small (nat_lt o p)) e
pointers_in s y z Leu r o q p v e =
    number_in s (is_live y && (r == q)) (machine_word Leu o p) v (truth_small (nat_le o p)) e
pointers_in s y z Eq r o q p v e =
    number_in s (is_live y && is_live z) (number_of_truth ((r == q) && (o == p))) v (truth_small ((r == q) && (o == p))) e
pointers_in s y z Ne r o q p v e =
    number_in s (is_live y && is_live z) (number_of_truth (not ((r == q) && (o == p)))) v (truth_small (not ((r == q) && (o == p)))) e
pointers_in s y z _ r o q p v e = absurd (none-some v e)

pub operation-in : (s : Store) (op : Op) (x y v : Value) → IsValueIn s x → IsValueIn s y →
    value_of_operation s op x y ≡ Some v → IsValueIn s v
operation-in s op (Number a) (Number b) v h k e =
    let n = number_some (word_of_operation op a b) v e in subst (IsValueIn s) (sym n.2) (word_of_operation-small op a b n.0 h k n.1)
operation-in s op (Pointer r o) (Number b) v h k e = pointer_number_in s op r o b v e
operation-in s op (Number a) (Pointer q p) v h k e = number_pointer_in s op a q p v e
operation-in s op (Pointer r o) (Pointer q p) v h k e = pointers_in s (shape_at s r) (shape_at s q) op r o q p v e

-- ---- the operation on the words

moved_word : (s : Store) (r o n m : ℕ) (v : Value) → HasBounds (shape_at s r) → IsOffsetIn (shape_at s r) o →
    n < 2 ^ 32 → m ≡ (o + n) % 2 ^ 32 → pointer_within (shape_at s r) r m ≡ Some v →
    (address_in (shape_at s r) + o + n) % 2 ^ 32 ≡ word_of_value s v
moved_word s r o n m v h k lt q e =
    let w = pointer_within-some (shape_at s r) r m v e in
    let b = h w.found w.is in
    let a : address_in (shape_at s r) ≡ w.found.address = ap address_in w.is in
    let sum : (w.found.address + o + n) % 2 ^ 32 ≡ w.found.address + m = omega (arith, b, q, w.inside) in
    ap (λ a. (a + o + n) % 2 ^ 32) a ∙ sum ∙ ap (λ a. a + m) (sym a) ∙ ap (word_of_value s) (sym w.value)

live_zero : (z : Option Shape) (n : ℕ) (b : Bool) → b ≡ is_live z && (n == 0) → b ≡ true → n ≡ 0
live_zero z n b e t = eqb-true n 0 (and_both (is_live z) (n == 0) (sym e ∙ t)).1

-- a pointer against the null pointer
null_word : (s : Store) (r o n m : ℕ) (v : Value) (f : Bool → Bool) → HasBounds (shape_at s r) →
    IsOffsetIn (shape_at s r) o → m ≡ number_of_truth (f false) →
    only_if (is_live (shape_at s r) && (n == 0)) (Number m) ≡ Some v →
    number_of_truth (f (address_in (shape_at s r) + o == n)) ≡ word_of_value s v
null_word s r o n m v f h k q e =
    let t = only_if-some (is_live (shape_at s r) && (n == 0)) (Number m) v e in
    let z : n ≡ 0 = live_zero (shape_at s r) n _ refl t.0 in
    let ne : address_in (shape_at s r) + o ≢ 0 = some_at (shape_at s r) o h k in
    let no : (address_in (shape_at s r) + o == n) ≡ false = differs (address_in (shape_at s r) + o) n z ne in
    ap (λ b. number_of_truth (f b)) no ∙ sym q ∙ ap (word_of_value s) t.1
  where
    differs : (a n : ℕ) → n ≡ 0 → a ≢ 0 → (a == n) ≡ false
    differs a n z ne = grind (arith, nat_tests)

pointer_number_word : (s : Store) (op : Op) (r o n : ℕ) (v : Value) → HasBounds (shape_at s r) →
    IsOffsetIn (shape_at s r) o → n < 2 ^ 32 → of_pointer_and_number (shape_at s r) op r o n ≡ Some v →
    word_of_operation op (address_in (shape_at s r) + o) n ≡ Some (word_of_value s v)
pointer_number_word s Add r o n v h k lt e = ap Some (moved_word s r o n ((o + n) % 2 ^ 32) v h k lt refl e)
pointer_number_word s Sub r o n v h k lt e = ap Some (back n lt e)
  where
    back : (n : ℕ) → n < 2 ^ 32 → pointer_within (shape_at s r) r ((o + (2 ^ 32 - n)) % 2 ^ 32) ≡ Some v →
        (address_in (shape_at s r) + o + (2 ^ 32 - n)) % 2 ^ 32 ≡ word_of_value s v
    back zero lt e =
        let same : (o + (2 ^ 32 - 0)) % 2 ^ 32 ≡ (o + 0) % 2 ^ 32 = omega arith in
        let here : (address_in (shape_at s r) + o + (2 ^ 32 - 0)) % 2 ^ 32 ≡ (address_in (shape_at s r) + o + 0) % 2 ^ 32 = omega arith in
        here ∙ moved_word s r o 0 ((o + (2 ^ 32 - 0)) % 2 ^ 32) v h k (omega arith) same e
    back (suc n) lt e =
        moved_word s r o (2 ^ 32 - suc n) ((o + (2 ^ 32 - suc n)) % 2 ^ 32) v h k (omega (arith, lt)) refl e
pointer_number_word s Eq r o n v h k lt e = ap Some (null_word s r o n 0 v (λ b. b) h k refl e)
pointer_number_word s Ne r o n v h k lt e = ap Some (null_word s r o n 1 v not h k refl e)
pointer_number_word s _ r o n v h k lt e = absurd (none-some v e)

swapped_equal : (a b : ℕ) → (a == b) ≡ (b == a)
swapped_equal a b = grind (arith, nat_tests)

number_pointer_word : (s : Store) (op : Op) (n r o : ℕ) (v : Value) → HasBounds (shape_at s r) →
    IsOffsetIn (shape_at s r) o → n < 2 ^ 32 → of_number_and_pointer (shape_at s r) op n r o ≡ Some v →
    word_of_operation op n (address_in (shape_at s r) + o) ≡ Some (word_of_value s v)
number_pointer_word s Add n r o v h k lt e =
    let here : (n + (address_in (shape_at s r) + o)) % 2 ^ 32 ≡ (address_in (shape_at s r) + o + n) % 2 ^ 32 = omega arith in
    let same : (n + o) % 2 ^ 32 ≡ (o + n) % 2 ^ 32 = omega arith in
    ap Some (here ∙ moved_word s r o n ((n + o) % 2 ^ 32) v h k lt same e)
number_pointer_word s Eq n r o v h k lt e =
    ap (λ b. Some (number_of_truth b)) (swapped_equal n (address_in (shape_at s r) + o))
    ∙ ap Some (null_word s r o n 0 v (λ b. b) h k refl e)
number_pointer_word s Ne n r o v h k lt e =
    ap (λ b. Some (number_of_truth (not b))) (swapped_equal n (address_in (shape_at s r) + o))
    ∙ ap Some (null_word s r o n 1 v not h k refl e)
number_pointer_word s _ n r o v h k lt e = absurd (none-some v e)

-- two places of one object
record SameObject (a o p : ℕ) : Type 0 where
  difference : (a + o + (2 ^ 32 - (a + p))) % 2 ^ 32 ≡ (o + (2 ^ 32 - p)) % 2 ^ 32
  before : nat_lt (a + o) (a + p) ≡ nat_lt o p
  at_most : nat_le (a + o) (a + p) ≡ nat_le o p
  equal : (a + o == a + p) ≡ (o == p)

same_object : (z : Option Shape) (o p : ℕ) → HasBounds z → IsOffsetIn z o → IsOffsetIn z p →
    SameObject (address_in z) o p
same_object None o p h k l = absurd k
same_object (Some u) o p h k l =
    let b = h u refl in
    record {
      difference = omega (arith, b, k, l);
      before = grind (arith, nat_tests);
      at_most = grind (arith, nat_tests);
      equal = grind (arith, nat_tests);
    }

-- two places in one live object, where the operation is the one on the offsets
in_one : (s : Store) (op : Op) (r o q p : ℕ) (v : Value) → HasBounds (shape_at s r) → IsOffsetIn (shape_at s r) o →
    IsOffsetIn (shape_at s q) p →
    (SameObject (address_in (shape_at s r)) o p → machine_word op (address_in (shape_at s r) + o) (address_in (shape_at s r) + p) ≡ machine_word op o p) →
    only_if (is_live (shape_at s r) && (r == q)) (Number (machine_word op o p)) ≡ Some v →
    machine_word op (address_in (shape_at s r) + o) (address_in (shape_at s q) + p) ≡ word_of_value s v
in_one s op r o q p v h k l go e =
    let t = only_if-some (is_live (shape_at s r) && (r == q)) (Number (machine_word op o p)) v e in
    let same : q ≡ r = sym (eqb-true r q (and_both (is_live (shape_at s r)) (r == q) t.0).1) in
    let here : shape_at s q ≡ shape_at s r = ap (shape_at s) same in
    ap (λ z. machine_word op (address_in (shape_at s r) + o) (address_in z + p)) here
    ∙ go (same_object (shape_at s r) o p h k (subst (λ z. IsOffsetIn z p) here l))
    ∙ ap (word_of_value s) t.1

-- whether two pointers are the same place is whether their words are equal
equal_words : (s : Store) (r o q p : ℕ) → IsAddressed s → IsOffsetIn (shape_at s r) o → IsOffsetIn (shape_at s q) p →
    is_live (shape_at s r) ≡ true → is_live (shape_at s q) ≡ true →
    (address_in (shape_at s r) + o == address_in (shape_at s q) + p) ≡ (r == q) && (o == p)
equal_words s r o q p i k l live alive =
    ⊎_elim
    (λ y.
    let here : shape_at s q ≡ shape_at s r = ap (shape_at s) (sym y.1) in
    ap (λ z. address_in (shape_at s r) + o == address_in z + p) here
    ∙ (same_object (shape_at s r) o p (i.bounds r) k (subst (λ z. IsOffsetIn z p) here l)).equal
    ∙ ap (λ b. b && (o == p)) (sym y.0))
    (λ n. two (shape_at s r) (shape_at s q) refl refl k l live alive n.1 ∙ ap (λ b. b && (o == p)) (sym n.0))
    (eqb_tells r q)
  where
    apart : (a m b n o p : ℕ) → o ≤ m → p ≤ n → (a + m + 8 ≤ b) ⊎ (b + n + 8 ≤ a) → (a + o == b + p) ≡ false
    apart a m b n o p h k far = grind (arith, nat_tests)

    two : (y z : Option Shape) → shape_at s r ≡ y → shape_at s q ≡ z → IsOffsetIn y o → IsOffsetIn z p →
        is_live y ≡ true → is_live z ≡ true → r ≢ q → (address_in y + o == address_in z + p) ≡ false
    two None z ey ez k l live alive ne = absurd k
    two (Some y) None ey ez k l live alive ne = absurd l
    two (Some y) (Some z) ey ez k l live alive ne =
        apart y.address y.size z.address z.size o p k l (i.apart r q y z ey ez live alive ne)

pointers_word : (s : Store) (op : Op) (r o q p : ℕ) (v : Value) → IsAddressed s → IsOffsetIn (shape_at s r) o →
    IsOffsetIn (shape_at s q) p → of_pointers (shape_at s r) (shape_at s q) op r o q p ≡ Some v →
    word_of_operation op (address_in (shape_at s r) + o) (address_in (shape_at s q) + p) ≡ Some (word_of_value s v)
pointers_word s Sub r o q p v i k l e = ap Some (in_one s Sub r o q p v (i.bounds r) k l (λ h. h.difference) e)
pointers_word s Ltu r o q p v i k l e =
    ap Some (in_one s Ltu r o q p v (i.bounds r) k l (λ h. ap number_of_truth h.before) e)
pointers_word s Leu r o q p v i k l e =
    ap Some (in_one s Leu r o q p v (i.bounds r) k l (λ h. ap number_of_truth h.at_most) e)
pointers_word s Eq r o q p v i k l e =
    let t = only_if-some (is_live (shape_at s r) && is_live (shape_at s q)) (Number (number_of_truth ((r == q) && (o == p)))) v e in
    let b = and_both (is_live (shape_at s r)) (is_live (shape_at s q)) t.0 in
    ap (λ b. Some (number_of_truth b)) (equal_words s r o q p i k l b.0 b.1) ∙ ap (λ v. Some (word_of_value s v)) t.1
pointers_word s Ne r o q p v i k l e =
    let t = only_if-some (is_live (shape_at s r) && is_live (shape_at s q)) (Number (number_of_truth (not ((r == q) && (o == p))))) v e in
    let b = and_both (is_live (shape_at s r)) (is_live (shape_at s q)) t.0 in
    ap (λ b. Some (number_of_truth (not b))) (equal_words s r o q p i k l b.0 b.1)
    ∙ ap (λ v. Some (word_of_value s v)) t.1
pointers_word s _ r o q p v i k l e = absurd (none-some v e)

-- wherever an operation on values is defined, its word is the operation on the words of the values
pub operation-word : (s : Store) (op : Op) (x y v : Value) → IsAddressed s → IsValueIn s x → IsValueIn s y →
    value_of_operation s op x y ≡ Some v →
    word_of_operation op (word_of_value s x) (word_of_value s y) ≡ Some (word_of_value s v)
operation-word s op (Number a) (Number b) v i h k e =
    let n = number_some (word_of_operation op a b) v e in n.1 ∙ ap (λ v. Some (word_of_value s v)) (sym n.2)
operation-word s op (Pointer r o) (Number b) v i h k e = pointer_number_word s op r o b v (i.bounds r) h k e
operation-word s op (Number a) (Pointer q p) v i h k e = number_pointer_word s op a q p v (i.bounds q) k h e
operation-word s op (Pointer r o) (Pointer q p) v i h k e = pointers_word s op r o q p v i h k e

-- ---- truth, and operations that give a number

-- a value is true where its word is not 0
pub truth-word : (s : Store) (v : Value) (b : Bool) → IsAddressed s → IsValueIn s v → truth s v ≡ Some b →
    b ≡ not (word_of_value s v == 0)
truth-word s (Number n) b i k e = sym (same_Some (not (n == 0)) b e)
truth-word s (Pointer r o) b i k e =
    let t = only_if-some (is_live (shape_at s r)) true b e in
    let ne = word_of_pointer-some s r o i k in
    sym t.1 ∙ differs (address_in (shape_at s r) + o) ne
  where
    differs : (a : ℕ) → a ≢ 0 → true ≡ not (a == 0)
    differs a ne = grind (arith, nat_tests)

is_number : (s : Store) (b : Bool) (n : ℕ) (v : Value) → only_if b (Number n) ≡ Some v →
    v ≡ Number (word_of_value s v)
is_number s b n v e = let t = only_if-some b (Number n) v e in sym t.1 ∙ ap (λ v. Number (word_of_value s v)) t.1

pointer_number_number : (s : Store) (z : Option Shape) (op : Op) (r o n : ℕ) (v : Value) → op ≢ Add → op ≢ Sub →
    of_pointer_and_number z op r o n ≡ Some v → v ≡ Number (word_of_value s v)
pointer_number_number s z Add r o n v a b e = absurd (a refl)
pointer_number_number s z Sub r o n v a b e = absurd (b refl)
pointer_number_number s z Eq r o n v a b e = is_number s (is_live z && (n == 0)) 0 v e
pointer_number_number s z Ne r o n v a b e = is_number s (is_live z && (n == 0)) 1 v e
pointer_number_number s z _ r o n v a b e = absurd (none-some v e)

number_pointer_number : (s : Store) (z : Option Shape) (op : Op) (n r o : ℕ) (v : Value) → op ≢ Add →
    of_number_and_pointer z op n r o ≡ Some v → v ≡ Number (word_of_value s v)
number_pointer_number s z Add n r o v a e = absurd (a refl)
number_pointer_number s z Eq n r o v a e = is_number s (is_live z && (n == 0)) 0 v e
number_pointer_number s z Ne n r o v a e = is_number s (is_live z && (n == 0)) 1 v e
number_pointer_number s z _ n r o v a e = absurd (none-some v e)

pointers_number : (s : Store) (y z : Option Shape) (op : Op) (r o q p : ℕ) (v : Value) →
    of_pointers y z op r o q p ≡ Some v → v ≡ Number (word_of_value s v)
pointers_number s y z Sub r o q p v e = is_number s (is_live y && (r == q)) (machine_word Sub o p) v e
pointers_number s y z Ltu r o q p v e = is_number s (is_live y && (r == q)) (machine_word Ltu o p) v e
pointers_number s y z Leu r o q p v e = is_number s (is_live y && (r == q)) (machine_word Leu o p) v e
pointers_number s y z Eq r o q p v e =
    is_number s (is_live y && is_live z) (number_of_truth ((r == q) && (o == p))) v e
pointers_number s y z Ne r o q p v e =
    is_number s (is_live y && is_live z) (number_of_truth (not ((r == q) && (o == p)))) v e
pointers_number s y z _ r o q p v e = absurd (none-some v e)

-- only sums and differences give pointers
pub operation-number : (s : Store) (op : Op) (x y v : Value) → op ≢ Add → op ≢ Sub →
    value_of_operation s op x y ≡ Some v → v ≡ Number (word_of_value s v)
operation-number s op (Number a) (Number b) v f g e =
    let n = number_some (word_of_operation op a b) v e in n.2 ∙ ap (λ v. Number (word_of_value s v)) (sym n.2)
operation-number s op (Pointer r o) (Number b) v f g e = pointer_number_number s (shape_at s r) op r o b v f g e
operation-number s op (Number a) (Pointer q p) v f g e = number_pointer_number s (shape_at s q) op a q p v f e
operation-number s op (Pointer r o) (Pointer q p) v f g e =
    pointers_number s (shape_at s r) (shape_at s q) op r o q p v e
