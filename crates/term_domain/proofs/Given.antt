-- What the calls that answer a term promise of it.
use Rattle.std.proofs.Common.{rules, ◌≡◌, ◌≢◌, refl, sym, ◌∙◌, ap, subst, arith, ℕ, ◌<◌, ◌≤◌, ◌^◌, bit_and, Option, true, inl, inr, ◌⊎◌, List, length, Some, None}
use Rattle.std.specs.Prelude.{negsuc, pos, ◌≤ℤ◌, ◌-◌, ◌%◌}
use Rattle.std.specs.Int.Bits.{and_zero_r}
use Rattle.std.proofs.Math.Nat.{mod-eq_of_lt}
use Rattle.std.proofs.lemmas.Bool.{false≢true, eqb-true}
use Rattle.std.proofs.lemmas.Nat.{and_assoc, and_mask}
use Rattle.std.proofs.lemmas.Int.{ints, to_z_pos}
use Rattle.std.specs.Int.{w32}
use Rattle.term_form.specs.Interval.{signed}
use Rattle.word_ops.specs.declared.operation.Width.{Width}
use Rattle.word_ops.specs.declared.operation.Width.TheVariants.{U8, S8, U16, S16, Word}
use Rattle.word_ops.specs.declared.operation.Op.{Op}
use Rattle.word_ops.specs.Store.{Value, Number, Pointer, Cell, Store}
use Rattle.word_ops.specs.Access.{narrowed_to, is_kept_by, IsInRange, decode, cells_at}
use Rattle.word_ops.specs.Values.{value_of_operation}
use Rattle.word_ops.specs.Addresses.{word_of_value, IsValueIn}
use Rattle.word_ops.specs.Changes.{MayLoad, IsInRangeUnless}
use Rattle.word_ops.specs.Laws.Widths.{narrowed_to-in_range}
use Rattle.word_ops.specs.Laws.Operations.{signed_value-word_of_integer}
use Rattle.word_ops.specs.Laws.Loads.{decode-kept}
use Rattle.word_ops.specs.Laws.Words.{word_of_value-small, operation-in}
use Rattle.term_form.specs.declared.term.Term.{Term}
use Rattle.term_form.specs.declared.term.Root.{Root}
use Rattle.term_form.specs.declared.term.Root.TheVariants as roots
use Rattle.term_form.specs.declared.term.Node.{Node}
use Rattle.term_form.specs.declared.term.Node.TheVariants as nodes
use Rattle.term_form.specs.declared.facts.Facts.{Facts}
use Rattle.term_form.specs.Meets.{Meets}
use Rattle.term_form.specs.Narrower.{any_word}
use Rattle.term_form.proofs.Widths.{any_meets}
use Rattle.domain_laws.specs.World.{World, IsByteOrEnd, IsOfRoot, with_term}
use Rattle.domain_laws.specs.Promises.{IsObject, IsOverScope, NodeSays}
use Rattle.domain_laws.specs.Laws.Worlds.{IsOfRoot-inside, MayLoad-inside, IsAtHome-one}
use Rattle.term_domain.specs.Keys.{own_place}
use Rattle.term_domain.specs.Rows.{Rows, node_in, facts_in, node_at, facts_at, IsNew, IsShared, TableStands, facts_of_root, facts_of_width}
use Rattle.term_domain.specs.Laws.{MayBe, row_behind, stands-push, stands-again}

-- ---- the node and the facts of a new term

pub pushed_node : (old new : Rows) (node : Node) (facts : Facts) (t : ℕ) → IsNew old node facts t new → node_at new t ≡ node
pushed_node old new node facts t n =
    let e = n.number in
    let p = n.pushed in
    ap (λ t. node_at new t) e ∙ ap (λ (rows : Rows). node_at rows (length old)) p.2 ∙ ap node_in (row_behind old (p.0, facts)) ∙ p.1

pub pushed_facts : (old new : Rows) (node : Node) (facts : Facts) (t : ℕ) → IsNew old node facts t new → facts_at new t ≡ facts
pushed_facts old new node facts t n =
    let e = n.number in
    let p = n.pushed in
    ap (λ t. facts_at new t) e ∙ ap (λ (rows : Rows). facts_at rows (length old)) p.2 ∙ ap facts_in (row_behind old (p.0, facts))

-- the answered term has the node, and is the one that has it
pub shared_is : (old new : Rows) (node : Node) (facts : Facts) (t : ℕ) → IsShared old node facts t new → node_at new t ≡ node
shared_is old new node facts t (inl f) = ap (λ (rows : Rows). node_at rows t) f.same ∙ f.node_is
shared_is old new node facts t (inr a) = pushed_node old new node facts t a.fresh

pub shared_one : (old new : Rows) (node : Node) (facts : Facts) (t : ℕ) → IsShared old node facts t new → (x : ℕ) → x < length old →
    node_at old x ≡ node → x ≡ t
shared_one old new node facts t (inl f) x lt e = f.only x lt e
shared_one old new node facts t (inr a) x lt e = absurd (a.alone x lt e)

pub shared_alone : (old new : Rows) (node : Node) (facts : Facts) (t : ℕ) → IsShared old node facts t new → (t < length old → ⊥) →
    (x : ℕ) → x < length old → node_at old x ≢ node_at new t
shared_alone old new node facts t (inl f) fresh x lt e = absurd (fresh f.within)
shared_alone old new node facts t (inr a) fresh x lt e = a.alone x lt (e ∙ pushed_node old new node facts t a.fresh)

-- ---- its values

pub gives_pushed : (Kind : World → Value → Type 0) (old new : Rows) (node : Node) (facts : Facts) (t : ℕ) → IsNew old node facts t new →
    IsOverScope (λ y. y < length old) node →
    ((w : World) (v : Value) → TableStands old w → Kind w v → MayBe w node facts v) →
    (w : World) (v : Value) → TableStands old w → Kind w v → TableStands new (with_term w t v) × (t < length old → w.values t ≡ v)
gives_pushed Kind old new node facts t n older may w v h k =
    let e = n.number in
    let p = n.pushed in (
      subst (λ t. TableStands new (with_term w t v)) (sym e) (stands-push old new node facts w v p older h (may w v h k)),
      λ lt. absurd (omega (arith, e, lt)),
    )

pub gives_shared : (Kind : World → Value → Type 0) (old new : Rows) (node : Node) (facts : Facts) (t : ℕ) → IsShared old node facts t new →
    IsOverScope (λ y. y < length old) node → ((w : World) (v : Value) → TableStands old w → Kind w v → MayBe w node facts v) →
    ((w : World) (u v : Value) → NodeSays w node u → Kind w v → u ≡ v) →
    (w : World) (v : Value) → TableStands old w → Kind w v → TableStands new (with_term w t v) × (t < length old → w.values t ≡ v)
gives_shared Kind old new node facts t (inr a) older may one w v h k = gives_pushed Kind old new node facts t a.fresh older may w v h k
gives_shared Kind old new node facts t (inl f) older may one w v h k =
    let is : w.values t ≡ v = one w (w.values t) v (subst (λ (n : Node). NodeSays w n (w.values t)) f.node_is (h.each t f.within).says) k in
    (subst (λ (rows : Rows). TableStands rows (with_term w t v)) (sym f.same) (stands-again old w t v h is), λ lt. is)

-- a value of the store meets the facts that say nothing
any_met : (rows : Rows) (w : World) (facts : Facts) (v : Value) → facts ≡ any_word → TableStands rows w → IsValueIn w.store v →
    Meets facts (word_of_value w.store v)
any_met rows w facts v e h i =
    subst (λ (f : Facts). Meets f (word_of_value w.store v)) (sym e) (any_meets (word_of_value w.store v) (word_of_value-small w.store v h.sound.addressed i))

-- ---- constants

pub konst_may : (rows : Rows) (word : ℕ) (facts : Facts) → word < 2 ^ 32 → Meets facts word → (w : World) (v : Value) → TableStands rows w →
    v ≡ Number word → MayBe w (nodes.Konst word) facts v
konst_may rows word facts lt m w v h e = record {
  inside = subst (IsValueIn w.store) (sym e) lt;
  says = e;
  meets = subst (λ (v : Value). Meets facts (word_of_value w.store v)) (sym e) m;
}

-- ---- roots

signed_byte : (n : ℕ) → n < 256 → (negsuc 0 ≤ℤ signed n) × (signed n ≤ℤ pos 255)
signed_byte n lt = let e : signed n ≡ pos n = to_z_pos w32 n (omega (arith, lt)) in (omega (arith, ints, e), omega (arith, ints, e, lt))

signed_end : (negsuc 0 ≤ℤ signed (2 ^ 32 - 1)) × (signed (2 ^ 32 - 1) ≤ℤ pos 255)
signed_end = (search rules, search rules)

got_met : (n : ℕ) → n < 2 ^ 32 → (negsuc 0 ≤ℤ signed n) × (signed n ≤ℤ pos 255) → Meets (facts_of_root roots.Got) n
got_met n lt s = let a = any_meets n lt in record {
  between = record { low = s.0; high = s.1; least = a.between.least; most = a.between.most };
  bits = record { zeros = a.bits.zeros; ones = a.bits.ones };
  rest = a.rest;
}

byte_met : (s : Store) (v : Value) → IsByteOrEnd v → Meets (facts_of_root roots.Got) (word_of_value s v)
byte_met s (Pointer r o) k = absurd k
byte_met s (Number n) (inl lt) = got_met n (omega (arith, lt)) (signed_byte n lt)
byte_met s (Number n) (inr e) = subst (Meets (facts_of_root roots.Got)) (sym e) (got_met (2 ^ 32 - 1) (omega arith) signed_end)

root_met : (rows : Rows) (w : World) (r : Root) (v : Value) → TableStands rows w → IsValueIn w.store v → IsOfRoot w r v →
    Meets (facts_of_root r) (word_of_value w.store v)
root_met rows w (roots.Global g) v h i k = any_met rows w any_word v refl h i
root_met rows w (roots.Local l) v h i k = any_met rows w any_word v refl h i
root_met rows w (roots.Param n) v h i k = any_met rows w any_word v refl h i
root_met rows w roots.Got v h i k = byte_met w.store v k
root_met rows w roots.Called v h i k = any_met rows w any_word v refl h i

pub root_may : (rows : Rows) (r : Root) (facts : Facts) → facts ≡ facts_of_root r → (w : World) (v : Value) → TableStands rows w →
    IsOfRoot w r v → MayBe w (nodes.Root r) facts v
root_may rows r facts e w v h k =
    let i = IsOfRoot-inside w r v h.sound k in
    record { inside = i; says = k; meets = subst (λ (f : Facts). Meets f (word_of_value w.store v)) (sym e) (root_met rows w r v h i k) }

-- ---- operations

pub operation_may : (rows : Rows) (op : Op) (a b : Term) (facts : Facts) → a.0 < length rows → b.0 < length rows → facts ≡ any_word →
    (w : World) (v : Value) → TableStands rows w → value_of_operation w.store op (w.values a.0) (w.values b.0) ≡ Some v →
    MayBe w (nodes.Operate op a b) facts v
operation_may rows op a b facts la lb e w v h k =
    let i = operation-in w.store op (w.values a.0) (w.values b.0) v (h.each a.0 la).inside (h.each b.0 lb).inside k in
    record { inside = i; says = k; meets = any_met rows w facts v e h i }

pub same_Some : (x y : Value) → Some x ≡ Some y → x ≡ y
same_Some x y e = cc

-- ---- phis

pub phi_may : (rows : Rows) (facts : Facts) → (w : World) (v : Value) → TableStands rows w →
    IsValueIn w.store v × Meets facts (word_of_value w.store v) → MayBe w nodes.Phi facts v
phi_may rows facts w v h k = record { inside = k.0; says = tt; meets = k.1 }

-- ---- loads

-- the bits above the low ones are clear in a number that has no others
high_clear : (n b m : ℕ) → n < 2 ^ b → bit_and (2 ^ b - 1) m ≡ 0 → bit_and n m ≡ 0
high_clear n b m lt e =
    let mask : bit_and n (2 ^ b - 1) ≡ n = and_mask n b ∙ mod-eq_of_lt lt in
    ap (λ k. bit_and k m) (sym mask) ∙ and_assoc m n (2 ^ b - 1) ∙ ap (bit_and n) e ∙ and_zero_r n

-- facts of a byte and a half word that are extended with zeros
unsigned_met : (n b most zeros : ℕ) → n ≤ most → most < 2 ^ 31 → n < 2 ^ b → bit_and (2 ^ b - 1) zeros ≡ 0 →
    Meets (record any_word { low = pos 0; high = pos most; most = most; zeros = zeros }) n
unsigned_met n b most zeros le lt below clear =
    let a = any_meets n (omega (arith, le, lt)) in
    let e : signed n ≡ pos n = to_z_pos w32 n (omega (arith, le, lt)) in
    record {
      between = record { low = omega (arith, ints, e); high = omega (arith, ints, e, le); least = a.between.least; most = le };
      bits = record { zeros = high_clear n b zeros below clear; ones = a.bits.ones };
      rest = a.rest;
    }

-- a word whose highest bit is set
negative : (n k : ℕ) → k < 2 ^ 31 → n ≡ 2 ^ 32 - 1 - k → signed n ≡ negsuc k
negative n k lt e =
    let z : n ≡ 2 ^ 32 - 1 - k % 2 ^ 32 = omega (arith, e, lt) in
    ap signed z ∙ signed_value-word_of_integer (negsuc k) (record { sfits = lt })

-- those that are extended with their sign
signed_met : (n m : ℕ) → m < 2 ^ 31 → (n ≤ m) ⊎ ((2 ^ 32 - 1 - m ≤ n) × (n < 2 ^ 32)) →
    Meets (record any_word { low = negsuc m; high = pos m }) n
signed_met n m lt (inl le) =
    let a = any_meets n (omega (arith, le, lt)) in
    let e : signed n ≡ pos n = to_z_pos w32 n (omega (arith, le, lt)) in
    record {
      between = record { low = omega (arith, ints, e); high = omega (arith, ints, e, le); least = a.between.least; most = a.between.most };
      bits = record { zeros = a.bits.zeros; ones = a.bits.ones };
      rest = a.rest;
    }
signed_met n m lt (inr h) =
    let a = any_meets n h.1 in
    let k : 2 ^ 32 - 1 - n ≤ m = omega (arith, h.0, h.1) in
    let e : signed n ≡ negsuc (2 ^ 32 - 1 - n) = negative n (2 ^ 32 - 1 - n) (omega (arith, k, lt)) (omega (arith, h.1)) in
    record {
      between = record { low = omega (arith, ints, e, k); high = omega (arith, ints, e); least = a.between.least; most = a.between.most };
      bits = record { zeros = a.bits.zeros; ones = a.bits.ones };
      rest = a.rest;
    }

-- a number in the range of a width meets the facts of the width
width_met : (k : Width) (n : ℕ) → IsInRange k n → Meets (facts_of_width k) n
width_met U8 n h = unsigned_met n 8 255 (2 ^ 32 - 2 ^ 8) (omega (arith, h)) (omega arith) h refl
width_met U16 n h = unsigned_met n 16 65535 (2 ^ 32 - 2 ^ 16) (omega (arith, h)) (omega arith) h refl
width_met S8 n (inl h) = signed_met n 127 (omega arith) (inl (omega (arith, h)))
width_met S8 n (inr h) = let le = h.0 in signed_met n 127 (omega arith) (inr (omega (arith, le), h.1))
width_met S16 n (inl h) = signed_met n 32767 (omega arith) (inl (omega (arith, h)))
width_met S16 n (inr h) = let le = h.0 in signed_met n 32767 (omega arith) (inr (omega (arith, le), h.1))
width_met Word n h = any_meets n h

-- so does a value that a width keeps
kept_met : (s : Store) (k : Width) (v : Value) → is_kept_by k v ≡ true → word_of_value s v < 2 ^ 32 →
    Meets (facts_of_width k) (word_of_value s v)
kept_met s k (Number n) e lt =
    width_met k n (subst (IsInRange k) (eqb-true (narrowed_to k n) n e) (narrowed_to-in_range k n))
kept_met s U8 (Pointer r o) e lt = absurd (false≢true e)
kept_met s S8 (Pointer r o) e lt = absurd (false≢true e)
kept_met s U16 (Pointer r o) e lt = absurd (false≢true e)
kept_met s S16 (Pointer r o) e lt = absurd (false≢true e)
kept_met s Word (Pointer r o) e lt = any_meets (word_of_value s (Pointer r o)) lt

-- and what a load may give anew
loaded_met : (s : Store) (k : Width) (cells : List Cell) (v : Value) → MayLoad s k cells v →
    IsInRangeUnless k (decode k cells) v → word_of_value s v < 2 ^ 32 → Meets (facts_of_width k) (word_of_value s v)
loaded_met s k cells v m r lt = go (decode k cells) refl r
  where
    go : (o : Option Value) → decode k cells ≡ o → IsInRangeUnless k o v → Meets (facts_of_width k) (word_of_value s v)
    go None d r = subst (λ v. Meets (facts_of_width k) (word_of_value s v)) (sym r.1) (width_met k r.0 r.2)
    go (Some u) d r = kept_met s k v (decode-kept k cells v (d ∙ ap Some (sym (m.defined u d)))) lt

pub load_may : (rows : Rows) (k : Width) (p : Term) (facts : Facts) → facts ≡ facts_of_width k → (w : World) (cells : List Cell) (v : Value) →
    TableStands rows w → cells_at w.store k (w.values p.0) ≡ Some cells → MayLoad w.store k cells v → IsInRangeUnless k (decode k cells) v →
    MayBe w (nodes.Load k p) facts v
load_may rows k p facts e w cells v h c m r =
    let i = MayLoad-inside w.store k (w.values p.0) cells v h.sound.addressed c m r in
    record {
      inside = i;
      says = tt;
      meets = subst (λ (f : Facts). Meets f (word_of_value w.store v)) (sym e) (loaded_met w.store k cells v m r (word_of_value-small w.store v h.sound.addressed i));
    }

pub load_given : (old new : Rows) (k : Width) (p : Term) (facts : Facts) (t : ℕ) → IsNew old (nodes.Load k p) facts t new →
    p.0 < length old → facts ≡ facts_of_width k → (w : World) (cells : List Cell) → TableStands old w → cells_at w.store k (w.values p.0) ≡ Some cells →
    (t < length old → TableStands new w × MayLoad w.store k cells (w.values t)) ×
    ((t < length old → ⊥) → (v : Value) → MayLoad w.store k cells v → IsInRangeUnless k (decode k cells) v → TableStands new (with_term w t v))
load_given old new k p facts t n lp is w cells h c =
    let e = n.number in
    let q = n.pushed in (
      λ lt. absurd (omega (arith, e, lt)),
      λ fresh v m r. subst (λ t. TableStands new (with_term w t v)) (sym e)
          (stands-push old new (nodes.Load k p) facts w v q lp h (load_may old k p facts is w cells v h c m r)),
    )

-- ---- objects

own_some : (x : ℕ) → Some x ≡ None → ⊥
own_some x e = cc

-- of a root whose terms are shared one value alone is told
pub root_one : (r : Root) → ((x : ℕ) → own_place (nodes.Root r) x ≡ None) → (w : World) (u v : Value) → IsOfRoot w r u → IsOfRoot w r v → u ≡ v
root_one (roots.Global g) s w u v h k = IsAtHome-one (w.home (roots.Global g)) u v h k
root_one (roots.Local l) s w u v h k = IsAtHome-one (w.home (roots.Local l)) u v h k
root_one (roots.Param i) s w u v h k = absurd (own_some 0 (s 0))
root_one roots.Got s w u v h k = absurd (own_some 0 (s 0))
root_one roots.Called s w u v h k = absurd (own_some 0 (s 0))

-- which roots are objects
pub object_shared : (r : Root) → ((g : ℕ) × (r ≡ roots.Global g)) ⊎ ((l : ℕ) × (r ≡ roots.Local l)) → (x : ℕ) → own_place (nodes.Root r) x ≡ None
object_shared r (inl h) x = ap (λ r. own_place (nodes.Root r) x) h.1
object_shared r (inr h) x = ap (λ r. own_place (nodes.Root r) x) h.1

pub no_object : (r : Root) → ((i : ℕ) × (r ≡ roots.Param i)) ⊎ ((r ≡ roots.Got) ⊎ (r ≡ roots.Called)) → IsObject r → ⊥
no_object r (inl h) o = subst IsObject h.1 o
no_object r (inr (inl h)) o = subst IsObject h o
no_object r (inr (inr h)) o = subst IsObject h o
