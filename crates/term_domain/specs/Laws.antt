-- Laws of tables: which worlds a table stands for after each change.
-- No contract's statement cites this file: it holds proofs, to which src/terms.rt points for the laws of the trait.
use Rattle.std.proofs.Common.{◌≡◌, refl, sym, ◌∙◌, ap, subst, arith, ℕ, zero, suc, ◌+◌, ◌<◌, inl, inr, ◌⊎◌, [], ◌∷◌, ◌++◌, length, take, Option, Some}
use Rattle.std.specs.Prelude.{slice_get}
use Rattle.std.proofs.lemmas.Grind.{common_steps}
use Rattle.word_ops.specs.declared.operation.Width.{Width}
use Rattle.word_ops.specs.Store.{Value, Store}
use Rattle.word_ops.specs.Access.{write}
use Rattle.word_ops.specs.Addresses.{word_of_value, IsValueIn}
use Rattle.word_ops.specs.Changes.{SameRegions, Fades}
use Rattle.word_ops.specs.Laws.Lists.{slice_get-append, slice_get-append_behind}
use Rattle.word_ops.specs.Laws.Values.{IsValueIn-same}
use Rattle.term_form.specs.declared.term.Term.{Term}
use Rattle.term_form.specs.declared.term.Node.{Node}
use Rattle.term_form.specs.declared.facts.Facts.{Facts}
use Rattle.term_form.specs.Meets.{Meets}
use Rattle.term_form.specs.Walk.{Values, with_value}
use Rattle.scope_map.specs.Scopes.{Marked}
use Rattle.domain_laws.specs.World.{World, IsWorld, with_values, with_store, with_term}
use Rattle.domain_laws.specs.Promises.{IsOverScope, NodeSays}
use Rattle.domain_laws.specs.Laws.Worlds.{IsWorld-write, IsWorld-fades, SameRegions-write, SameRegions-fades, NodeSays-local, NodeSays-store, IsOverScope-map, with_value-here, with_value-other, with_value-same, word_of_term-store}
use Rattle.term_domain.specs.declared.key.Key.{Key}
use Rattle.term_domain.specs.Rows.{Rows, node_in, facts_in, node_at, facts_at, IsPushed, RowStands, TableStands}

-- ---- other values and stores

-- the values of terms alone count
pub stands-local : (rows : Rows) (w : World) (u : Values) → ((x : ℕ) → x < length rows → w.values x ≡ u x) → TableStands rows w →
    TableStands rows (with_values w u)
stands-local rows w u same h = record {
  sound = h.sound;
  each = λ x lt.
      let r = h.each x lt in
      let e = same x lt in
      record {
        inside = subst (IsValueIn w.store) e r.inside;
        older = r.older;
        says = NodeSays-local w u (node_at rows x) (u x)
            (IsOverScope-map (λ y. y < x) (λ y. w.values y ≡ u y) (node_at rows x) (λ y less. same y (omega (arith, less, lt))) r.older)
            (subst (NodeSays w (node_at rows x)) e r.says);
        meets = subst (λ (v : Value). Meets (facts_at rows x) (word_of_value w.store v)) e r.meets;
      };
}

-- a store with the same regions changes nothing
pub stands-store : (rows : Rows) (w : World) (s : Store) → SameRegions w.store s → IsWorld s w.home → TableStands rows w →
    TableStands rows (with_store w s)
stands-store rows w s same sound h = record {
  sound = sound;
  each = λ x lt.
      let r = h.each x lt in
      record {
        inside = IsValueIn-same w.store s (w.values x) same r.inside;
        older = r.older;
        says = NodeSays-store w s (node_at rows x) (w.values x) same r.says;
        meets = subst (Meets (facts_at rows x)) (sym (word_of_term-store w s x same r.inside)) r.meets;
      };
}

pub stands-fades : (rows : Rows) (w : World) (s : Store) → Fades w.store s → TableStands rows w → TableStands rows (with_store w s)
stands-fades rows w s f h = stands-store rows w s (SameRegions-fades w.store s f) (IsWorld-fades w.store s w.home f h.sound) h

pub stands-write : (rows : Rows) (w : World) (s : Store) (k : Width) (p v : Term) → p.0 < length rows → v.0 < length rows →
    write w.store k (w.values p.0) (w.values v.0) ≡ Some s → TableStands rows w → TableStands rows (with_store w s)
stands-write rows w s k p v lp lv e h =
    stands-store rows w s (SameRegions-write w.store s k (w.values p.0) (w.values v.0) e)
    (IsWorld-write w.store s w.home k (w.values p.0) (w.values v.0) e (h.each v.0 lv).inside h.sound) h

-- ---- fewer and more terms

length-take_le : (rows : Rows) (n x : ℕ) → x < length (take n rows) → x < length rows
length-take_le rows n x lt = grind (arith, common_steps)

slice_get-take : (rows : Rows) (n x : ℕ) → x < length (take n rows) → slice_get (take n rows) x ≡ slice_get rows x
slice_get-take rows zero x lt = absurd (omega (arith, lt))
slice_get-take [] (suc n) x lt = refl
slice_get-take (r ∷ rows) (suc n) zero lt = refl
slice_get-take (r ∷ rows) (suc n) (suc x) lt = slice_get-take rows n x (omega (arith, lt))

pub stands-take : (rows : Rows) (n : ℕ) (w : World) → TableStands rows w → TableStands (take n rows) w
stands-take rows n w h = record {
  sound = h.sound;
  each = λ x lt.
      let e = slice_get-take rows n x lt in
      subst (λ (o : Option (Key × Facts)). RowStands w x (node_in o) (facts_in o)) (sym e) (h.each x (length-take_le rows n x lt));
}

-- a value that the new term of a node with facts may have
pub record MayBe (w : World) (node : Node) (facts : Facts) (v : Value) : Type 0 where
  pub inside : IsValueIn w.store v
  pub says : NodeSays w node v
  pub meets : Meets facts (word_of_value w.store v)

pub row_behind : (rows : Rows) (row : Key × Facts) → slice_get (rows ++ row ∷ []) (length rows) ≡ Some row
row_behind rows row = let e : length rows ≡ length rows + 0 = omega arith in ap (slice_get (rows ++ row ∷ [])) e ∙ slice_get-append_behind rows (row ∷ []) 0

last_or_old : (rows : Rows) (row : Key × Facts) (x : ℕ) → x < length (rows ++ row ∷ []) → (x < length rows) ⊎ (x ≡ length rows)
last_or_old [] row zero lt = inr refl
last_or_old [] row (suc x) lt = absurd (omega (arith, lt))
last_or_old (r ∷ rows) row zero lt = inl (omega arith)
last_or_old (r ∷ rows) row (suc x) lt = elim (last_or_old rows row x (omega (arith, lt))) [ inl a ↦ inl (omega (arith, a)) | inr b ↦ inr (ap suc b) ]

pub stands-push : (old new : Rows) (node : Node) (facts : Facts) (w : World) (v : Value) → IsPushed old node facts new →
    IsOverScope (λ y. y < length old) node → TableStands old w → MayBe w node facts v → TableStands new (with_term w (length old) v)
stands-push old new node facts w v p older h m =
    let t = length old in
    let u = with_value w.values t v in
    let before = stands-local old w u (λ x lt. sym (with_value-other w.values t x v (λ e. omega (arith, e, lt)))) h in
    subst (λ (rows : Rows). TableStands rows (with_term w t v)) (sym p.2) (record {
      sound = h.sound;
      each = λ x lt. elim (last_or_old old (p.0, facts) x lt) [
        | inl less ↦ subst (λ (o : Option (Key × Facts)). RowStands (with_term w t v) x (node_in o) (facts_in o)) (sym (slice_get-append old ((p.0, facts) ∷ []) x less)) (before.each x less)
        | inr e ↦ subst (λ x. RowStands (with_term w t v) x (node_at (old ++ (p.0, facts) ∷ []) x) (facts_at (old ++ (p.0, facts) ∷ []) x)) (sym e)
            (subst (λ (o : Option (Key × Facts)). RowStands (with_term w t v) t (node_in o) (facts_in o)) (sym (row_behind old (p.0, facts)))
            (subst (λ (n : Node). RowStands (with_term w t v) t n facts) (sym p.1) (last old node facts w v older m)))
      ];
    })
  where
    last : (old : Rows) (node : Node) (facts : Facts) (w : World) (v : Value) → IsOverScope (λ y. y < length old) node → MayBe w node facts v →
        RowStands (with_term w (length old) v) (length old) node facts
    last old node facts w v older m =
        let here = with_value-here w.values (length old) v in
        record {
          inside = subst (IsValueIn w.store) (sym here) m.inside;
          older = older;
          says = subst (NodeSays (with_term w (length old) v) node) (sym here)
              (NodeSays-local w (with_value w.values (length old) v) node v
              (IsOverScope-map (λ y. y < length old) (λ y. w.values y ≡ with_value w.values (length old) v y) node (λ y less. sym (with_value-other w.values (length old) y v (λ e. omega (arith, e, less)))) older) m.says);
          meets = subst (λ (x : Value). Meets facts (word_of_value w.store x)) (sym here) m.meets;
        }

-- a term that has the value already
pub stands-again : (rows : Rows) (w : World) (t : ℕ) (v : Value) → TableStands rows w → w.values t ≡ v → TableStands rows (with_term w t v)
stands-again rows w t v h e = stands-local rows w (with_value w.values t v) (λ x lt. with_value-same w.values t x v e) h

-- ---- marks

pub marked_older : (rows at : Rows) (count x : ℕ) → Marked rows count at → x < length at → x < length rows
marked_older rows at count x h lt = let e = h.made in let f = h.kept in grind (arith, common_steps)

pub below_stable : (x n : ℕ) → ((x < n → ⊥) → ⊥) → x < n
below_stable x zero h = absurd (h (λ k. omega (arith, k)))
below_stable zero (suc n) h = omega arith
below_stable (suc x) (suc n) h = let k = below_stable x n (λ f. h (λ k. f (omega (arith, k)))) in omega (arith, k)
