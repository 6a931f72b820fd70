-- Laws of sums and differences of pointers: those in integers are those on words.
-- No contract cites this file: it holds proofs.
use Rattle.std.proofs.Common.{◌≡◌, refl, ap, ◌∙◌, ℕ, ◌+◌, ◌<◌, arith}
use Rattle.std.proofs.lemmas.Int.{ints}
use Rattle.std.proofs.lemmas.Option.{none-some}
use Rattle.std.specs.Prelude.{Option, Some, None, ◌&&◌, ◌-◌, ◌%◌, ◌^◌, ◌==◌, ℤ, pos, negsuc, ◌+ℤ◌, ◌-ℤ◌}
use Rattle.word_ops.specs.declared.operation.Op.TheVariants.{Sub}
use Rattle.word_ops.specs.Choice.{only_if}
use Rattle.word_ops.specs.Word.{word_of_integer}
use Rattle.word_ops.specs.Operation.{machine_word}
use Rattle.word_ops.specs.Store.{Value, Number, Pointer, Store, Shape, shape_at, is_live, AreSmall}
use Rattle.word_ops.specs.Values.{pointer_within, moved_pointer, pointer_difference, place_within, pointer_plus, pointer_minus}
use Rattle.word_ops.specs.Addresses.{IsOffsetIn, IsValueIn}
use Rattle.word_ops.specs.Laws.Lists.{only_if-some}
use Rattle.word_ops.specs.Laws.Words.{pointer_within-some}

-- a place that an integer reaches is the one that its word reaches
reached : (o n : ℕ) (i : ℤ) → n < 2 ^ 32 → pos o +ℤ i ≡ pos n → (o + word_of_integer i) % 2 ^ 32 ≡ n
reached o n (pos j) lt e = omega (arith, ints, lt, e)
reached o n (negsuc j) lt e = omega (arith, ints, lt, e)

pub pointer_plus-moved : (s : Store) (p v : Value) (i : ℤ) → AreSmall s → pointer_plus s p i ≡ Some v →
    moved_pointer s p (Number (word_of_integer i)) ≡ Some v
pointer_plus-moved s (Number n) v i h e = absurd (none-some v e)
pointer_plus-moved s (Pointer r o) v i h e = go (pos o +ℤ i) refl e
  where
    go : (z : ℤ) → pos o +ℤ i ≡ z → place_within (shape_at s r) r z ≡ Some v →
        pointer_within (shape_at s r) r ((o + word_of_integer i) % 2 ^ 32) ≡ Some v
    go (pos n) q e =
        let w = pointer_within-some (shape_at s r) r n v e in
        let lt : n < 2 ^ 32 = omega (arith, w.inside, h r w.found w.is) in
        ap (pointer_within (shape_at s r) r) (reached o n i lt q) ∙ e
    go (negsuc n) q e = absurd (none-some v e)

distance : (o p : ℕ) (z : ℤ) → o < 2 ^ 32 → p < 2 ^ 32 → pos o -ℤ pos p ≡ z →
    (o + (2 ^ 32 - p)) % 2 ^ 32 ≡ word_of_integer z
distance o p (pos j) h k e = omega (arith, ints, h, k, e)
distance o p (negsuc j) h k e = omega (arith, ints, h, k, e)

pub pointer_minus-difference : (s : Store) (x y : Value) (z : ℤ) → AreSmall s → IsValueIn s x → IsValueIn s y →
    pointer_minus s x y ≡ Some z → pointer_difference s x y ≡ Some (Number (word_of_integer z))
pointer_minus-difference s (Number n) y z h i j e = absurd (none-some z e)
pointer_minus-difference s (Pointer r o) (Number n) z h i j e = absurd (none-some z e)
pointer_minus-difference s (Pointer r o) (Pointer q p) z h i j e =
    let t = only_if-some (is_live (shape_at s r) && (r == q)) (pos o -ℤ pos p) z e in
    ap (λ b. only_if b (Number (machine_word Sub o p))) t.0 ∙ ap (λ n. Some (Number n)) (distance o p z (small r o i) (small q p j) t.1)
  where
    small : (r o : ℕ) → IsValueIn s (Pointer r o) → o < 2 ^ 32
    small r o i = go (shape_at s r) refl i
      where
        go : (x : Option Shape) → shape_at s r ≡ x → IsOffsetIn x o → o < 2 ^ 32
        go None e i = absurd i
        go (Some u) e i = omega (arith, i, h r u e)
