-- Proof of what the code of expressions adds: clause by clause, each part behind the one before it.
use Rattle.std.proofs.Common.{◌≡◌, refl, sym, ap, ◌∙◌, ℕ, zero, suc, ◌+◌, ◌-◌, ◌^◌, ◌≤◌, ◌==◌, if◌then◌else◌, Bool, true, false, List, [], ◌∷◌, ◌++◌, length, append_assoc, append-nil, le_trans, le_refl, arith, Some, None, Option}
use Rattle.word_ops.specs.declared.operation.Op.{Op}
use Rattle.word_ops.specs.declared.operation.Op.TheVariants as op
use Rattle.core_lang.specs.declared.act.Atom.{Atom}
use Rattle.core_lang.specs.declared.act.Atom.TheVariants as at
use Rattle.core_lang.specs.declared.act.PointerOp.TheVariants as pointer
use Rattle.core_lang.specs.declared.act.Core.{Core}
use Rattle.core_lang.specs.declared.act.Core.TheVariants as c
use Rattle.core_lang.specs.Counts.{count_of_act, count_of_acts}
use Rattle.core_lang.specs.Laws.Counts.{count-Block, count-If, count-append}
use Rattle.c_tree.specs.declared.typed.operator.Sign.{Sign}
use Rattle.c_tree.specs.declared.typed.operator.Sign.TheVariants as sign
use Rattle.c_tree.specs.declared.typed.operator.Conversion.{Conversion}
use Rattle.c_tree.specs.declared.typed.operator.Conversion.TheVariants as conversion
use Rattle.c_tree.specs.declared.typed.operator.Relation.{Relation}
use Rattle.c_tree.specs.declared.typed.operator.Relation.TheVariants as relation
use Rattle.c_tree.specs.declared.typed.operator.Arithmetic.{Arithmetic}
use Rattle.c_tree.specs.declared.typed.operator.Arithmetic.TheVariants as arithmetic
use Rattle.c_tree.specs.declared.typed.operator.Scalar.{Scalar}
use Rattle.c_tree.specs.declared.typed.operator.Change.{Change}
use Rattle.c_tree.specs.declared.typed.operator.Increment.{Increment}
use Rattle.c_tree.specs.declared.typed.operator.Primary.{Primary}
use Rattle.c_tree.specs.declared.typed.operator.Primary.TheVariants as primary
use Rattle.c_tree.specs.declared.typed.operator.Unary.{Unary}
use Rattle.c_tree.specs.declared.typed.operator.Unary.TheVariants as unary
use Rattle.c_tree.specs.declared.typed.expression.TExpr.{TExpr, Row_of-TExpr, end_of-TExpr, more_of-TExpr, Row_of-Step, end_of-Step, more_of-Step, Row_of-Arm, end_of-Arm, more_of-Arm, Row_of-Target, end_of-Target, more_of-Target}
use Rattle.c_tree.specs.declared.typed.expression.TExpr.TheVariants as x
use Rattle.c_tree.specs.declared.typed.expression.Step.TheVariants as step
use Rattle.c_tree.specs.declared.typed.expression.Target.TheVariants as target
use Rattle.c_tree.specs.TypedKinds.{width_of}
use Rattle.lowering_form.specs.declared.place.Place.{Place}
use Rattle.lowering_form.specs.declared.place.Place.TheVariants as place
use Rattle.lowering_form.specs.Code.{Code, Valued, Listed, begun, given, with_act, assigned, with_list}
use Rattle.lowering_form.specs.Places.{Scope, place_in, read_code, write_code, offset_code}
use Rattle.lowering_form.specs.Operators.{compare_act, compare_pointers_act, multiplied_code, scaled_code, moved_code, negated_word, divided_code, arithmetic_code, narrowing, narrowed_by, converted_code, increased_code, increment_code, operated_code, changed_code, primary_code, unary_code}
use Rattle.lowering_form.specs.Expressions.{joined, settles, settled_by_last, settled_by_false, settled_by_true, settled, settled_and_left, value_code, steps_code, values_code, every_code, some_code, arms_code, targets_code}
use Rattle.lowering_form.specs.Added.{Adds, weight_of_arithmetic, weight_by_word, weight_of_conversion, weight_of_narrowing, weight_of_increment, weight_of_operated, weight_of_change, weight_of_primary, weight_of_unary, weight_of_join, count_of_row, weight_of, weight_of_steps, weight_of_values, weight_of_operands, weight_of_arms, weight_of_targets}

-- ---- how parts are put together

-- nothing
pub adds_none : (k : Code) → Adds 0 k k
adds_none k =
    record { added = []; acts = sym (append-nil k.acts); few = λ ls. omega arith; later = omega arith; near = omega arith }

-- one part behind another
pub adds_then : {v w : ℕ} {k l m : Code} → Adds v k l → Adds w l m → Adds (v + w) k m
adds_then {v} {w} {k} {l} {m} p q =
    record {
      added = p.added ++ q.added;
      acts = q.acts ∙ ap (λ xs. xs ++ q.added) p.acts ∙ append_assoc k.acts p.added q.added;
      few = λ ls. omega (arith, count-append ls p.added q.added, p.few ls, q.few ls);
      later = omega (arith, p.later, q.later);
      near = omega (arith, p.near, q.near);
    }

-- what weighs less weighs no more than this
pub adds_at_most : {v w : ℕ} {k l : Code} → v ≤ w → Adds v k l → Adds w k l
adds_at_most {v} {w} {k} {l} le p =
    record { added = p.added; acts = p.acts; few = λ ls. omega (arith, le, p.few ls); later = p.later; near = omega (arith, le, p.near) }

-- one act
pub adds_act : (w : ℕ) (k : Code) (a : Core) → ((ls : List ℕ) → count_of_act ls a ≡ w) → Adds w k (with_act a k)
adds_act w k a one =
    record { added = a ∷ []; acts = refl; few = λ ls. omega (arith, one ls); later = omega arith; near = omega arith }

-- an act that assigns the next temporary
pub adds_assigned : (w : ℕ) (k : Code) (act : ℕ → Core) → ((ls : List ℕ) → count_of_act ls (act k.next) ≡ suc w) →
    Adds (suc w) k (assigned act k).code
adds_assigned w k act one =
    record { added = act k.next ∷ []; acts = refl; few = λ ls. omega (arith, one ls); later = omega arith; near = omega arith }

-- an act with a list in it
pub adds_list : (w : ℕ) (k : Code) (act : List Core → Core) (inner : Code) → ((ls : List ℕ) (xs : List Core) → count_of_act ls (act xs) ≡ 1 + count_of_acts ls xs) →
    Adds w (begun k) inner → Adds (1 + w) k (with_list act k inner)
adds_list w k act inner counts p =
    record {
      added = act inner.acts ∷ [];
      acts = refl;
      few = λ ls. omega (arith, counts ls inner.acts, ap (count_of_acts ls) p.acts, p.few ls);
      later = p.later;
      near = omega (arith, p.near);
    }

-- ---- places

read-adds : (p : Place) (s : Scalar) (k : Code) → Adds 1 k (read_code p s k).code
read-adds (place.Variable x) s k = adds_assigned 0 k (λ t. c.Move t (at.Var x)) (λ ls. refl)
read-adds (place.Memory p) s k = adds_assigned 0 k (λ t. c.Load t (width_of s) p) (λ ls. refl)

pub write-adds : (p : Place) (s : Scalar) (v : Atom) (k : Code) → Adds 1 k (write_code p s v k)
write-adds (place.Variable x) s v k = adds_act 1 k (c.Move x v) (λ ls. refl)
write-adds (place.Memory p) s v k = adds_act 1 k (c.Store (width_of s) p v) (λ ls. refl)

-- an act that is not always there
unless-adds : (b : Bool) (k : Code) (v : Atom) (act : ℕ → Core) → ((ls : List ℕ) → count_of_act ls (act k.next) ≡ 1) →
    Adds 1 k (if b then given v k else assigned act k).code
unless-adds true k v act one = adds_at_most (omega arith) (adds_none k)
unless-adds false k v act one = adds_assigned 0 k act one

pub offset-adds : (p : Atom) (n : ℕ) (k : Code) → Adds 1 k (offset_code p n k).code
offset-adds p n k = unless-adds (n == 0) k p (λ t. c.Pointer t pointer.Offset p (at.Word n)) (λ ls. refl)

-- ---- operators

compare-one : (r : Relation) (s : Sign) (a b : Atom) (t : ℕ) (ls : List ℕ) → count_of_act ls (compare_act r s a b t) ≡ 1
compare-one relation.Less sign.Signed a b t ls = refl
compare-one relation.Less sign.Unsigned a b t ls = refl
compare-one relation.Greater sign.Signed a b t ls = refl
compare-one relation.Greater sign.Unsigned a b t ls = refl
compare-one relation.AtMost sign.Signed a b t ls = refl
compare-one relation.AtMost sign.Unsigned a b t ls = refl
compare-one relation.AtLeast sign.Signed a b t ls = refl
compare-one relation.AtLeast sign.Unsigned a b t ls = refl
compare-one relation.Equal s a b t ls = refl
compare-one relation.NotEqual s a b t ls = refl

compare_pointers-one : (r : Relation) (a b : Atom) (t : ℕ) (ls : List ℕ) → count_of_act ls (compare_pointers_act r a b t) ≡ 1
compare_pointers-one relation.Less a b t ls = refl
compare_pointers-one relation.Greater a b t ls = refl
compare_pointers-one relation.AtMost a b t ls = refl
compare_pointers-one relation.AtLeast a b t ls = refl
compare_pointers-one relation.Equal a b t ls = refl
compare_pointers-one relation.NotEqual a b t ls = refl

multiplied-adds : (v : Atom) (n : ℕ) (k : Code) → Adds 1 k (multiplied_code v n k).code
multiplied-adds v n k = unless-adds (n == 1) k v (λ t. c.Operate t op.Mul v (at.Word n)) (λ ls. refl)

scaled-adds : (v : Atom) (n : ℕ) (k : Code) → Adds 1 k (scaled_code v n k).code
scaled-adds (at.Word m) n k = adds_at_most (omega arith) (adds_none k)
scaled-adds (at.Var x) n k = multiplied-adds (at.Var x) n k
scaled-adds (at.Global x) n k = multiplied-adds (at.Global x) n k
scaled-adds (at.Local x) n k = multiplied-adds (at.Local x) n k

pointed-adds : (p : Atom) (v : Valued) → Adds 1 v.code (assigned (λ t. c.Pointer t pointer.Offset p v.atom) v.code).code
pointed-adds p v = adds_assigned 0 v.code (λ t. c.Pointer t pointer.Offset p v.atom) (λ ls. refl)

moved-adds : (p : Atom) (n : ℕ) (v : Atom) (k : Code) → Adds 2 k (moved_code p n v k).code
moved-adds p n v k = adds_then (scaled-adds v n k) (pointed-adds p (scaled_code v n k))

moved_by_word-adds : (p : Atom) (n m : ℕ) (k : Code) → Adds 1 k (moved_code p n (at.Word m) k).code
moved_by_word-adds p n m k = pointed-adds p (scaled_code (at.Word m) n k)

divided-adds : (b : Bool) (n : ℕ) (d : Valued) →
    Adds 1 d.code (if b then d else assigned (λ t. c.Operate t op.Divs d.atom (at.Word n)) d.code).code
divided-adds true n d = adds_at_most (omega arith) (adds_none d.code)
divided-adds false n d = adds_assigned 0 d.code (λ t. c.Operate t op.Divs d.atom (at.Word n)) (λ ls. refl)

difference-adds : (n : ℕ) (a b : Atom) (k : Code) → Adds 2 k (arithmetic_code (arithmetic.Difference n) a b k).code
difference-adds n a b k =
    adds_then (adds_assigned 0 k (λ t. c.Pointer t pointer.Difference a b) (λ ls. refl)) (divided-adds (n == 1) n (assigned (λ t. c.Pointer t pointer.Difference a b) k))

arithmetic-adds : (o : Arithmetic) (a b : Atom) (k : Code) → Adds (weight_of_arithmetic o) k (arithmetic_code o a b k).code
arithmetic-adds (arithmetic.Word o) a b k = adds_assigned 0 k (λ t. c.Operate t o a b) (λ ls. refl)
arithmetic-adds (arithmetic.Compare r s) a b k = adds_assigned 0 k (compare_act r s a b) (compare-one r s a b k.next)
arithmetic-adds (arithmetic.ComparePointers r) a b k =
    adds_assigned 0 k (compare_pointers_act r a b) (compare_pointers-one r a b k.next)
arithmetic-adds (arithmetic.PointerPlus z) a b k = moved-adds a z.element b k
arithmetic-adds (arithmetic.PlusPointer z) a b k = moved-adds b z.element a k
arithmetic-adds (arithmetic.PointerMinus z) a b k = moved-adds a (negated_word z.element) b k
arithmetic-adds (arithmetic.Difference n) a b k = difference-adds n a b k

by_word-adds : (o : Arithmetic) (a : Atom) (m : ℕ) (k : Code) → Adds (weight_by_word o) k (arithmetic_code o a (at.Word m) k).code
by_word-adds (arithmetic.Word o) a m k = adds_assigned 0 k (λ t. c.Operate t o a (at.Word m)) (λ ls. refl)
by_word-adds (arithmetic.Compare r s) a m k =
    adds_assigned 0 k (compare_act r s a (at.Word m)) (compare-one r s a (at.Word m) k.next)
by_word-adds (arithmetic.ComparePointers r) a m k =
    adds_assigned 0 k (compare_pointers_act r a (at.Word m)) (compare_pointers-one r a (at.Word m) k.next)
by_word-adds (arithmetic.PointerPlus z) a m k = moved_by_word-adds a z.element m k
by_word-adds (arithmetic.PlusPointer z) a m k = moved-adds (at.Word m) z.element a k
by_word-adds (arithmetic.PointerMinus z) a m k = moved_by_word-adds a (negated_word z.element) m k
by_word-adds (arithmetic.Difference n) a m k = difference-adds n a (at.Word m) k

narrowed-adds : (o : Option Op) (v : Valued) → Adds (weight_of_narrowing o) v.code (narrowed_by o v).code
narrowed-adds None v = adds_none v.code
narrowed-adds (Some o) v = adds_assigned 0 v.code (λ t. c.Operate t o v.atom (at.Word 0)) (λ ls. refl)

converted-adds : (h : Conversion) (v : Valued) → Adds (weight_of_conversion h) v.code (converted_code h v).code
converted-adds (conversion.Integer w) v = narrowed-adds (narrowing w) v
converted-adds conversion.Bool v = adds_assigned 0 v.code (λ t. c.Operate t op.Ne v.atom (at.Word 0)) (λ ls. refl)
converted-adds conversion.Pointer v = adds_none v.code

increment-adds : (p : Place) (h : Increment) (k : Code) → Adds (weight_of_increment h) k (increment_code p h k).code
increment-adds p h k =
    let old = read_code p h.scalar k in
    let sum = arithmetic_code h.operator old.atom (at.Word 1) old.code in
    let new = converted_code h.conversion sum in
    adds_then (adds_then (adds_then (read-adds p h.scalar k) (by_word-adds h.operator old.atom 1 old.code)) (converted-adds h.conversion sum)) (write-adds p h.scalar new.atom new.code)

operated-adds : (p : Place) (s : Scalar) (o : Option Arithmetic) (v : Valued) →
    Adds (weight_of_operated o) v.code (operated_code p s o v).code
operated-adds p s None v = adds_none v.code
operated-adds p s (Some o) v =
    let old = read_code p s v.code in
    adds_then (read-adds p s v.code) (arithmetic-adds o old.atom v.atom old.code)

changed-adds : (p : Place) (h : Change) (v : Valued) → Adds (weight_of_change h) v.code (changed_code p h v).code
changed-adds p h v =
    let result = operated_code p h.scalar h.operator v in
    let new = converted_code h.conversion result in
    adds_then (adds_then (operated-adds p h.scalar h.operator v) (converted-adds h.conversion result)) (write-adds p h.scalar new.atom new.code)

primary-adds : (p : Primary) (sc : Scope) (k : Code) → Adds (weight_of_primary p) k (primary_code p sc k).code
primary-adds (primary.Number n) sc k = adds_none k
primary-adds primary.Null sc k = adds_none k
primary-adds (primary.Variable s i) sc k = read-adds (place_in sc i) s k
primary-adds (primary.Address i) sc k = adds_none k
primary-adds (primary.Static i) sc k = adds_none k
primary-adds (primary.Increment i h) sc k = increment-adds (place_in sc i) h k

unary-adds : (u : Unary) (v : Valued) → Adds (weight_of_unary u) v.code (unary_code u v).code
unary-adds (unary.Load s) v = read-adds (place.Memory v.atom) s v.code
unary-adds (unary.Convert h) v = converted-adds h v
unary-adds (unary.Negate sign.Signed) v = adds_assigned 0 v.code (λ t. c.Operate t op.Subs (at.Word 0) v.atom) (λ ls. refl)
unary-adds (unary.Negate sign.Unsigned) v = adds_assigned 0 v.code (λ t. c.Operate t op.Sub (at.Word 0) v.atom) (λ ls. refl)
unary-adds unary.Complement v = adds_assigned 0 v.code (λ t. c.Operate t op.Xor v.atom (at.Word (2 ^ 32 - 1))) (λ ls. refl)
unary-adds unary.Not v = adds_assigned 0 v.code (λ t. c.Operate t op.Eq v.atom (at.Word 0)) (λ ls. refl)
unary-adds (unary.Member n) v = offset-adds v.atom n v.code
unary-adds (unary.Increment h) v = increment-adds (place.Memory v.atom) h v.code
unary-adds unary.Drop v = adds_none v.code

-- ---- joins

joined-adds : (w x : ℕ) (k inner : Code) → Adds w (begun k) inner → Adds (weight_of_join w) k (joined x k inner).code
joined-adds w x k inner p =
    adds_then (adds_list w k c.Block inner count-Block p) (adds_assigned 0 (with_list c.Block k inner) (λ t. c.Move t (at.Var x)) (λ ls. refl))

last-adds : (x : ℕ) (v : Valued) → Adds 1 v.code (settled_by_last x v)
last-adds x v = adds_act 1 v.code (c.Operate x op.Ne v.atom (at.Word 0)) (λ ls. refl)

false-adds : (x : ℕ) (v : Valued) → Adds 3 v.code (settled_by_false x v)
false-adds x v = adds_act 3 v.code (c.If v.atom [] (settles x (at.Word 0))) (λ ls. count-If ls v.atom [] (settles x (at.Word 0)))

true-adds : (x : ℕ) (v : Valued) → Adds 3 v.code (settled_by_true x v)
true-adds x v = adds_act 3 v.code (c.If v.atom (settles x (at.Word 1)) []) (λ ls. count-If ls v.atom (settles x (at.Word 1)) [])

settled-adds : (x : ℕ) (v : Valued) → Adds 1 v.code (settled x v)
settled-adds x v = adds_act 1 v.code (c.Move x v.atom) (λ ls. refl)

left-adds : (x : ℕ) (v : Valued) → Adds 1 (settled x v) (settled_and_left x v)
left-adds x v = adds_act 1 (settled x v) (c.Break 0) (λ ls. refl)

count_of_first : (v : Atom) (ls : List ℕ) (xs : List Core) → count_of_act ls (c.If v xs []) ≡ 1 + count_of_acts ls xs
count_of_first v ls xs = omega (arith, count-If ls v xs [])

-- ---- calls

atoms-counted : {n : _} (all : Row_of-TExpr n) (sc : Scope) (k : Code) → length (values_code all sc k).atoms ≡ count_of_row all
atoms-counted end_of-TExpr sc k = refl
atoms-counted (more_of-TExpr a rest) sc k = ap suc (atoms-counted rest sc (value_code a sc k).code)

call-adds : (f n : ℕ) (vs : Listed) → length vs.atoms ≡ n →
    Adds (1 + n) vs.code (assigned (λ t. c.Call (Some t) f vs.atoms) vs.code).code
call-adds f n vs e = adds_at_most (omega (arith, e)) (adds_assigned (length vs.atoms) vs.code (λ t. c.Call (Some t) f vs.atoms) (λ ls. omega arith))

dropped_call-adds : (f n : ℕ) (vs : Listed) → length vs.atoms ≡ n → Adds (1 + n) vs.code (with_act (c.Call None f vs.atoms) vs.code)
dropped_call-adds f n vs e = adds_act (1 + n) vs.code (c.Call None f vs.atoms) (λ ls. omega (arith, e))

put-adds : (v : Valued) → Adds 1 v.code (with_act (c.Put v.atom) v.code)
put-adds v = adds_act 1 v.code (c.Put v.atom) (λ ls. refl)

byte-adds : (v : Atom) (k : Code) → Adds 1 k (assigned (λ t. c.Operate t op.Zext8 v (at.Word 0)) k).code
byte-adds v k = adds_assigned 0 k (λ t. c.Operate t op.Zext8 v (at.Word 0)) (λ ls. refl)

exit-adds : (v : Valued) → Adds 1 v.code (with_act (c.Exit v.atom) v.code)
exit-adds v = adds_act 1 v.code (c.Exit v.atom) (λ ls. refl)

-- ---- expressions

mutual
  pub value-adds : (a : TExpr) (sc : Scope) (k : Code) → Adds (weight_of a) k (value_code a sc k).code
  value-adds (x.Primary t p) sc k = primary-adds p sc k
  value-adds (x.Applied' t p (more_of-TExpr a end_of-TExpr) n steps) sc k =
      adds_then (value-adds a sc k) (steps-add steps sc (value_code a sc k))
  value-adds (x.All' t n all) sc k =
      joined-adds (weight_of_operands all) sc.level k (every_code all sc (begun k)) (every-adds all sc (begun k))
  value-adds (x.Any' t n all) sc k =
      joined-adds (weight_of_operands all) sc.level k (some_code all sc (begun k)) (some-adds all sc (begun k))
  value-adds (x.Choose' t n arms p (more_of-TExpr a end_of-TExpr)) sc k =
      let behind = arms_code arms sc (begun k) in let last = value_code a sc behind in
      joined-adds (weight_of_arms arms + weight_of a + 1) sc.level k (settled sc.level last) (adds_then (adds_then (arms-add arms sc (begun k)) (value-adds a sc behind)) (settled-adds sc.level last))
  value-adds (x.Comma' t n all p (more_of-TExpr a end_of-TExpr)) sc k =
      adds_then (values-add all sc k) (value-adds a sc (values_code all sc k).code)
  value-adds (x.Assign' t n targets p (more_of-TExpr a end_of-TExpr)) sc k =
      targets-add targets (weight_of a) (value_code a sc) (value-adds a sc) sc k
  value-adds (x.Call' t f n all) sc k =
      adds_then (values-add all sc k) (call-adds f (count_of_row all) (values_code all sc k) (atoms-counted all sc k))
  value-adds (x.DroppedCall' t f n all) sc k =
      adds_then (values-add all sc k) (dropped_call-adds f (count_of_row all) (values_code all sc k) (atoms-counted all sc k))
  value-adds (x.GetChar t) sc k = adds_assigned 0 k (λ t. c.Get t) (λ ls. refl)
  value-adds (x.PutChar' t p (more_of-TExpr a end_of-TExpr)) sc k =
      let v = value_code a sc k in
      adds_then (adds_then (value-adds a sc k) (put-adds v)) (byte-adds v.atom (with_act (c.Put v.atom) v.code))
  value-adds (x.Exit' t p (more_of-TExpr a end_of-TExpr)) sc k =
      adds_then (value-adds a sc k) (exit-adds (value_code a sc k))

  steps-add : {n : _} (steps : Row_of-Step n) (sc : Scope) (v : Valued) →
      Adds (weight_of_steps steps) v.code (steps_code steps sc v).code
  steps-add end_of-Step sc v = adds_none v.code
  steps-add (more_of-Step (step.Unary u) rest) sc v = adds_then (unary-adds u v) (steps-add rest sc (unary_code u v))
  steps-add (more_of-Step (step.Binary o b) rest) sc v =
      let right = value_code b sc v.code in
      adds_then (adds_then (value-adds b sc v.code) (arithmetic-adds o v.atom right.atom right.code)) (steps-add rest sc (arithmetic_code o v.atom right.atom right.code))

  values-add : {n : _} (all : Row_of-TExpr n) (sc : Scope) (k : Code) →
      Adds (weight_of_values all) k (values_code all sc k).code
  values-add end_of-TExpr sc k = adds_none k
  values-add (more_of-TExpr a rest) sc k = adds_then (value-adds a sc k) (values-add rest sc (value_code a sc k).code)

  every-adds : {n : _} (all : Row_of-TExpr n) (sc : Scope) (k : Code) →
      Adds (weight_of_operands all) k (every_code all sc k)
  every-adds end_of-TExpr sc k = adds_none k
  every-adds (more_of-TExpr a end_of-TExpr) sc k =
      adds_then (value-adds a sc k) (last-adds sc.level (value_code a sc k))
  every-adds (more_of-TExpr a (more_of-TExpr b rest)) sc k =
      let v = value_code a sc k in
      adds_then (adds_then (value-adds a sc k) (false-adds sc.level v)) (every-adds (more_of-TExpr b rest) sc (settled_by_false sc.level v))

  some-adds : {n : _} (all : Row_of-TExpr n) (sc : Scope) (k : Code) →
      Adds (weight_of_operands all) k (some_code all sc k)
  some-adds end_of-TExpr sc k = adds_none k
  some-adds (more_of-TExpr a end_of-TExpr) sc k =
      adds_then (value-adds a sc k) (last-adds sc.level (value_code a sc k))
  some-adds (more_of-TExpr a (more_of-TExpr b rest)) sc k =
      let v = value_code a sc k in
      adds_then (adds_then (value-adds a sc k) (true-adds sc.level v)) (some-adds (more_of-TExpr b rest) sc (settled_by_true sc.level v))

  arms-add : {n : _} (arms : Row_of-Arm n) (sc : Scope) (k : Code) → Adds (weight_of_arms arms) k (arms_code arms sc k)
  arms-add end_of-Arm sc k = adds_none k
  arms-add (more_of-Arm e a rest) sc k =
      let condition = value_code e sc k in
      let v = value_code a sc (begun condition.code) in
      let choice : List Core → Core = λ acts. c.If condition.atom acts [] in
      let inner = settled_and_left sc.level v in
      adds_then (adds_then (value-adds e sc k) (adds_list (weight_of a + 1 + 1) condition.code choice inner (count_of_first condition.atom) (adds_then (adds_then (value-adds a sc (begun condition.code)) (settled-adds sc.level v)) (left-adds sc.level v)))) (arms-add rest sc (with_list choice condition.code inner))

  targets-add : {n : _} (targets : Row_of-Target n) (w : ℕ) (last : Code → Valued) → ((k : Code) → Adds w k (last k).code) →
      (sc : Scope) (k : Code) → Adds (weight_of_targets targets w) k (targets_code targets last sc k).code
  targets-add end_of-Target w last h sc k = h k
  targets-add (more_of-Target (target.Variable i g) rest) w last h sc k =
      adds_then (targets-add rest w last h sc k) (changed-adds (place_in sc i) g (targets_code rest last sc k))
  targets-add (more_of-Target (target.Place a g) rest) w last h sc k =
      let address = value_code a sc k in
      adds_then (adds_then (value-adds a sc k) (targets-add rest w last h sc address.code)) (changed-adds (place.Memory address.atom) g (targets_code rest last sc address.code))
