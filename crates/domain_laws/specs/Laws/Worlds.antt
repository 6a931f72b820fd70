-- Laws of worlds: which changes keep one, and which values are those of its store.
-- No contract cites this file: it holds proofs.
use Rattle.std.proofs.Common.{◌≡◌, refl, sym, ◌∙◌, ap, subst, arith, ℕ, ◌^◌, ◌<◌, inl, inr, Bool, true, false, List, Option, Some, None}
use Rattle.std.specs.Prelude.{◌-◌, ◌==◌, if◌then◌else◌, nat_eq}
use Rattle.std.proofs.lemmas.Bool.{eqb-true, eq-eqb}
use Rattle.std.specs.Option.{option_and_then}
use Rattle.word_ops.specs.declared.operation.Width.{Width}
use Rattle.word_ops.specs.declared.operation.Op.{Op}
use Rattle.word_ops.specs.Store.{Value, Number, Pointer, Cell, Store, Shape, shape_at}
use Rattle.word_ops.specs.Access.{decode, cells_at, load, write}
use Rattle.word_ops.specs.Values.{value_of_operation}
use Rattle.word_ops.specs.Addresses.{word_of_value, IsValueIn, IsOffsetIn, IsAddressed}
use Rattle.word_ops.specs.Changes.{SameRegions, Fades, MayLoad, IsInRangeUnless}
use Rattle.word_ops.specs.Laws.Regions.{SameShapes-regions, Fades-shapes}
use Rattle.word_ops.specs.Laws.Accesses.{write-shapes}
use Rattle.word_ops.specs.Laws.Widths.{IsInRange-small}
use Rattle.word_ops.specs.Laws.Addresses.{load-in, IsAddressed-write, IsAddressed-fades}
use Rattle.word_ops.specs.Laws.Values.{operation-same, IsValueIn-same, word_of_value-same}
use Rattle.term_form.specs.declared.term.Root.{Root}
use Rattle.term_form.specs.declared.term.Root.TheVariants.{Global, Local, Param, Got, Called}
use Rattle.term_form.specs.declared.term.Node.{Node}
use Rattle.term_form.specs.declared.term.Node.TheVariants as nodes
use Rattle.term_form.specs.Walk.{Values, with_value}
use Rattle.domain_laws.specs.World.{World, IsWorld, IsAtHome, IsByteOrEnd, IsOfRoot, with_values, with_store, with_term, word_of_term}
use Rattle.domain_laws.specs.Promises.{NodeSays, IsOverScope}

-- ---- changes of the store

-- a store with the same regions has the homes of the roots where the old one has them
homes_same : (s t : Store) (home : Root → Option ℕ) → SameRegions s t → IsAddressed t → IsWorld s home → IsWorld t home
homes_same s t home same addressed h = record {
  addressed = addressed;
  homes = λ g r e. let z = h.homes g r e in (z.0, same r z.0 z.1, z.2);
  differ = h.differ;
}

pub IsWorld-write : (s t : Store) (home : Root → Option ℕ) (k : Width) (p v : Value) → write s k p v ≡ Some t → IsValueIn s v →
    IsWorld s home → IsWorld t home
IsWorld-write s t home k p v e i h =
    homes_same s t home (SameShapes-regions s t (write-shapes s t k p v e)) (IsAddressed-write s t k p v e i h.addressed) h

pub IsWorld-fades : (s t : Store) (home : Root → Option ℕ) → Fades s t → IsWorld s home → IsWorld t home
IsWorld-fades s t home f h = homes_same s t home (SameShapes-regions s t (Fades-shapes s t f)) (IsAddressed-fades s t f h.addressed) h

pub SameRegions-write : (s t : Store) (k : Width) (p v : Value) → write s k p v ≡ Some t → SameRegions s t
SameRegions-write s t k p v e = SameShapes-regions s t (write-shapes s t k p v e)

pub SameRegions-fades : (s t : Store) → Fades s t → SameRegions s t
SameRegions-fades s t f = SameShapes-regions s t (Fades-shapes s t f)

-- ---- values of the store

-- the first place of an object that is there
at_home : (s : Store) (r : ℕ) (v : Value) (z : Shape) → shape_at s r ≡ Some z → v ≡ Pointer r 0 → IsValueIn s v
at_home s r v z e p = subst (IsValueIn s) (sym p) (subst (λ o. IsOffsetIn o 0) (sym e) (omega arith))

home_inside : (w : World) (g : Root) (v : Value) → IsWorld w.store w.home → IsAtHome (w.home g) v → IsValueIn w.store v
home_inside w g v h k = by (w.home g) refl k
  where
    by : (o : Option ℕ) → w.home g ≡ o → IsAtHome o v → IsValueIn w.store v
    by None e k = absurd k
    by (Some r) e k = let z = h.homes g r e in at_home w.store r v z.0 z.1 k

byte_inside : (s : Store) (v : Value) → IsByteOrEnd v → IsValueIn s v
byte_inside s (Number n) (inl h) = omega (arith, h)
byte_inside s (Number n) (inr h) = omega (arith, h)
byte_inside s (Pointer r o) h = absurd h

pub IsOfRoot-inside : (w : World) (r : Root) (v : Value) → IsWorld w.store w.home → IsOfRoot w r v → IsValueIn w.store v
IsOfRoot-inside w (Global g) v h k = home_inside w (Global g) v h k
IsOfRoot-inside w (Local l) v h k = home_inside w (Local l) v h k
IsOfRoot-inside w (Param i) v h k = k
IsOfRoot-inside w Got v h k = byte_inside w.store v k
IsOfRoot-inside w Called v h k = k

-- what a load may give is a value of the store
pub MayLoad-inside : (s : Store) (k : Width) (p : Value) (cells : List Cell) (v : Value) → IsAddressed s → cells_at s k p ≡ Some cells →
    MayLoad s k cells v → IsInRangeUnless k (decode k cells) v → IsValueIn s v
MayLoad-inside s k p cells v a c m r = by (decode k cells) refl r
  where
    by : (o : Option Value) → decode k cells ≡ o → IsInRangeUnless k o v → IsValueIn s v
    by (Some u) d r = load-in s k p v a (ap (option_and_then (decode k)) c ∙ d ∙ ap Some (sym (m.defined u d)))
    by None d r = subst (IsValueIn s) (sym r.1) (IsInRange-small k r.0 r.2)

-- ---- nodes in other worlds

-- what holds of all terms of one kind holds of a node's terms that are of that kind
pub IsOverScope-map : (P Q : ℕ → Type 0) (n : Node) → ((y : ℕ) → P y → Q y) → IsOverScope P n → IsOverScope Q n
IsOverScope-map P Q (nodes.Konst k) f h = tt
IsOverScope-map P Q (nodes.Root r) f h = tt
IsOverScope-map P Q (nodes.Operate op a b) f h = (f a.0 h.0, f b.0 h.1)
IsOverScope-map P Q (nodes.Load k p) f h = f p.0 h
IsOverScope-map P Q nodes.Phi f h = tt

-- a node has one value at most, but for a root that is no object, a load and a phi
pub IsAtHome-one : (o : Option ℕ) (v u : Value) → IsAtHome o v → IsAtHome o u → v ≡ u
IsAtHome-one None v u h k = absurd h
IsAtHome-one (Some r) v u h k = h ∙ sym k

root_local : (w : World) (u : Values) (r : Root) (v : Value) → IsOfRoot w r v → IsOfRoot (with_values w u) r v
root_local w u (Global g) v h = h
root_local w u (Local l) v h = h
root_local w u (Param i) v h = h
root_local w u Got v h = h
root_local w u Called v h = h

pub NodeSays-local : (w : World) (u : Values) (n : Node) (v : Value) → IsOverScope (λ y. w.values y ≡ u y) n → NodeSays w n v →
    NodeSays (with_values w u) n v
NodeSays-local w u (nodes.Konst k) v o h = h
NodeSays-local w u (nodes.Root r) v o h = root_local w u r v h
NodeSays-local w u (nodes.Operate op a b) v o h =
    ap (λ y. value_of_operation w.store op y (u b.0)) (sym o.0) ∙ ap (λ y. value_of_operation w.store op (w.values a.0) y) (sym o.1) ∙ h
NodeSays-local w u (nodes.Load k p) v o h = tt
NodeSays-local w u nodes.Phi v o h = tt

root_store : (w : World) (s : Store) (r : Root) (v : Value) → SameRegions w.store s → IsOfRoot w r v → IsOfRoot (with_store w s) r v
root_store w s (Global g) v same h = h
root_store w s (Local l) v same h = h
root_store w s (Param i) v same h = IsValueIn-same w.store s v same h
root_store w s Got v same h = h
root_store w s Called v same h = IsValueIn-same w.store s v same h

-- a store with the same regions changes nothing of what nodes say
pub NodeSays-store : (w : World) (s : Store) (n : Node) (v : Value) → SameRegions w.store s → NodeSays w n v → NodeSays (with_store w s) n v
NodeSays-store w s (nodes.Konst k) v same h = h
NodeSays-store w s (nodes.Root r) v same h = root_store w s r v same h
NodeSays-store w s (nodes.Operate op a b) v same h = operation-same w.store s op (w.values a.0) (w.values b.0) v same h
NodeSays-store w s (nodes.Load k p) v same h = tt
NodeSays-store w s nodes.Phi v same h = tt

pub word_of_term-store : (w : World) (s : Store) (x : ℕ) → SameRegions w.store s → IsValueIn w.store (w.values x) →
    word_of_term (with_store w s) x ≡ word_of_term w x
word_of_term-store w s x same i = word_of_value-same w.store s (w.values x) same i

-- ---- a term with a value

pub with_value-here : (u : Values) (t : ℕ) (v : Value) → with_value u t v t ≡ v
with_value-here u t v = ap (λ b. if b then v else u t) (nat_eq_refl t)
  where
    nat_eq_refl : (n : ℕ) → (n == n) ≡ true
    nat_eq_refl n = eq-eqb n n refl

pub with_value-other : (u : Values) (t x : ℕ) (v : Value) → (x ≡ t → ⊥) → with_value u t v x ≡ u x
with_value-other u t x v ne = by (x == t) refl
  where
    by : (b : Bool) → (x == t) ≡ b → (if b then v else u x) ≡ u x
    by true e = absurd (ne (eqb-true x t e))
    by false e = refl

-- where the term has the value already, nothing changes
pub with_value-same : (u : Values) (t x : ℕ) (v : Value) → u t ≡ v → u x ≡ with_value u t v x
with_value-same u t x v h = by (x == t) refl
  where
    by : (b : Bool) → (x == t) ≡ b → u x ≡ (if b then v else u x)
    by true e = ap u (eqb-true x t e) ∙ h
    by false e = refl
