-- Laws of static objects: the store as a program begins is addressed, so main may be called.
-- No contract cites this file: it holds proofs.
use Rattle.std.proofs.Common.{◌≡◌, refl, sym, ap, ◌∙◌, subst, ℕ, zero, suc, ◌+◌, inl, inr, ⊎_elim, List, [], ◌∷◌, ◌++◌, length, arith}
use Rattle.std.proofs.lemmas.List.{length-replicate}
use Rattle.std.proofs.lemmas.Option.{none-some, same_Some}
use Rattle.std.specs.Prelude.{Option, Some, None, true, take, drop, slice_get}
use Rattle.word_ops.specs.Store.{Pointer, Byte, Region, Store, Shape, shape, shape_at, new_region, zero_cells}
use Rattle.word_ops.specs.Access.{with_cells}
use Rattle.word_ops.specs.Addresses.{IsOffsetIn, IsValueIn, AreCellsIn, IsAddressed}
use Rattle.word_ops.specs.Run.{Outside}
use Rattle.word_ops.specs.Laws.Regions.{shape_at-region, shape_at-some}
use Rattle.word_ops.specs.Laws.Accesses.{length-with_cells}
use Rattle.word_ops.specs.Laws.Addresses.{AreCellsIn-append, AreCellsIn-take, AreCellsIn-drop, AreCellsIn-replicate}
use Rattle.core_lang.specs.declared.program.Part.{Part}
use Rattle.core_lang.specs.declared.program.Program.{Program}
use Rattle.core_lang.specs.declared.program.Start.{Start}
use Rattle.core_lang.specs.declared.program.Start.TheVariants as st
use Rattle.core_lang.specs.declared.program.StaticObject.{StaticObject}
use Rattle.core_lang.specs.Layout.{Layout}
use Rattle.core_lang.specs.Run.{cells_of_start, with_parts, static_region, static_regions, first_call, calls}
use Rattle.core_lang.specs.WellFormed.{bytes_of_start, IsPlaceIn, IsStartIn, ArePartsIn, IsWellFormed}
use Rattle.core_lang.specs.Addresses.{IsLayoutOf, KeepsAddresses, IsCallable}
use Rattle.core_lang.specs.Following.{OnGives}
use Rattle.core_lang.specs.Laws.Addresses.{calls-sound}

-- ---- the regions

pub length-static_regions : (address : ℕ → ℕ) (k : ℕ) (xs : List StaticObject) →
    length (static_regions address k xs) ≡ length xs
length-static_regions address k [] = refl
length-static_regions address k (x ∷ xs) = ap suc (length-static_regions address (k + 1) xs)

pub static_regions-there : (address : ℕ → ℕ) (k : ℕ) (xs : List StaticObject) (i : ℕ) (o : StaticObject) →
    slice_get xs i ≡ Some o → slice_get (static_regions address k xs) i ≡ Some (static_region (address (k + i)) o)
static_regions-there address k [] i o e = absurd (none-some o e)
static_regions-there address k (x ∷ xs) zero o e =
    let z : k ≡ k + zero = omega arith in
    ap (λ k. Some (static_region (address k) x)) z ∙ ap (λ x. Some (static_region (address (k + zero)) x)) (same_Some x o e)
static_regions-there address k (x ∷ xs) (suc i) o e =
    let z : k + 1 + i ≡ k + suc i = omega arith in
    static_regions-there address (k + 1) xs i o e ∙ ap (λ k. Some (static_region (address k) o)) z

pub static_regions-at : (address : ℕ → ℕ) (k : ℕ) (xs : List StaticObject) (i : ℕ) (g : Region) →
    slice_get (static_regions address k xs) i ≡ Some g →
    (o : StaticObject) × (slice_get xs i ≡ Some o) × (g ≡ static_region (address (k + i)) o)
static_regions-at address k [] i g e = absurd (none-some g e)
static_regions-at address k (x ∷ xs) zero g e =
    let z : k ≡ k + zero = omega arith in
    (x, refl, sym (same_Some (static_region (address k) x) g e) ∙ ap (λ k. static_region (address k) x) z)
static_regions-at address k (x ∷ xs) (suc i) g e =
    let h = static_regions-at address (k + 1) xs i g e in
    let z : k + 1 + i ≡ k + suc i = omega arith in
    (h.0, h.1, h.2 ∙ ap (λ k. static_region (address k) h.0) z)

-- ---- their parts

length_start : (w : Start) → length (cells_of_start w) ≡ bytes_of_start w
length_start (st.Byte b) = refl
length_start (st.Address x o) = refl

-- parts inside an object leave its shape
parts_shape : (p : Program) (g : Region) (ps : List Part) → ArePartsIn p (length g.cells) ps →
    shape (with_parts g ps) ≡ shape g
parts_shape p g [] h = refl
parts_shape p g (y ∷ ys) h =
    let n : length (with_cells g y.offset (cells_of_start y.word)).cells ≡ length g.cells = length-with_cells g y.offset (cells_of_start y.word) (omega (arith, h.0, length_start y.word)) in
    parts_shape p (with_cells g y.offset (cells_of_start y.word)) ys (subst (λ n. ArePartsIn p n ys) (sym n) h.3)
    ∙ ap (λ n. record { size = n; live = g.live; constant = g.constant; address = g.address }) n

pub static_region-shape : (p : Program) (address : ℕ) (o : StaticObject) → ArePartsIn p o.size o.parts →
    shape (static_region address o) ≡ record { size = o.size; live = true; constant = o.constant; address = address }
static_region-shape p address o h =
    parts_shape p (new_region o.constant address (zero_cells o.size)) o.parts (subst (λ n. ArePartsIn p n o.parts) (sym (length-replicate o.size (Byte 0))) h)
    ∙ ap (λ n. record { size = n; live = true; constant = o.constant; address = address }) (length-replicate o.size (Byte 0))

module _ (l : Layout) (p : Program) (depth : ℕ) (layout : IsLayoutOf l p depth) (formed : IsWellFormed p) where
  abbrev store : Store
  store = static_regions l.static 0 p.objects

  -- the shape of a static object, and where it lies
  object_is : (x : ℕ) (z : Shape) → shape_at store x ≡ Some z →
      (o : StaticObject) × (slice_get p.objects x ≡ Some o) × (z.size ≡ o.size) × (z.address ≡ l.static x)
  object_is x z e =
      let g = shape_at-some store x z e in
      let h = static_regions-at l.static 0 p.objects x g.0 g.1 in
      let k : 0 + x ≡ x = omega arith in
      let s = sym g.2 ∙ ap shape h.2 ∙ static_region-shape p (l.static (0 + x)) h.0 (formed.objects x h.0 h.1) in
      (h.0, h.1, ap (λ (z : Shape). z.size) s, ap (λ (z : Shape). z.address) s ∙ ap l.static k)

  -- a place in a static object
  place_in : (x o : ℕ) → IsPlaceIn (slice_get p.objects x) o → IsValueIn store (Pointer x o)
  place_in x o h = go (slice_get p.objects x) refl h
    where
      go : (y : Option StaticObject) → slice_get p.objects x ≡ y → IsPlaceIn y o → IsOffsetIn (shape_at store x) o
      go None e h = absurd h
      go (Some y) e h =
          let s = shape_at-region store x (static_region (l.static (0 + x)) y) (static_regions-there l.static 0 p.objects x y e)
          ∙ ap Some (static_region-shape p (l.static (0 + x)) y (formed.objects x y e)) in
          subst (λ z. IsOffsetIn z o) (sym s) h

  start_cells : (offset : ℕ) (w : Start) → IsStartIn p offset w → AreCellsIn store (cells_of_start w)
  start_cells offset (st.Byte b) h = tt
  start_cells offset (st.Address x o) h =
      let v = place_in x o h.1 in (v, (v, (v, (v, tt))))

  parts_cells : (g : Region) (ps : List Part) (n : ℕ) → ArePartsIn p n ps → AreCellsIn store g.cells →
      AreCellsIn store (with_parts g ps).cells
  parts_cells g [] n h i = i
  parts_cells g (y ∷ ys) n h i =
      let cs = cells_of_start y.word in
      parts_cells (with_cells g y.offset cs) ys n h.3 (AreCellsIn-append store (take y.offset g.cells) (cs ++ drop (y.offset + length cs) g.cells) (AreCellsIn-take store y.offset g.cells i) (AreCellsIn-append store cs (drop (y.offset + length cs) g.cells) (start_cells y.offset y.word h.1) (AreCellsIn-drop store (y.offset + length cs) g.cells i)))

  static_addressed : IsAddressed store
  static_addressed = record {
    bounds = λ x z e. let h = object_is x z e in let b = layout.static x h.0 h.1 in (omega (arith, h.3, b.0), omega (arith, h.2, h.3, b.1, layout.room, layout.top));
    apart = λ x y u v eu ev lu lv ne.
        let a = object_is x u eu in
        let b = object_is y v ev in
        ⊎_elim (λ k. inl (omega (arith, a.2, a.3, b.3, k))) (λ k. inr (omega (arith, b.2, a.3, b.3, k))) (layout.static_apart x y a.0 b.0 a.1 b.1 ne);
    pointers = λ x g e.
        let h = static_regions-at l.static 0 p.objects x g e in
        subst (λ (g : Region). AreCellsIn store g.cells) (sym h.2) (parts_cells (new_region h.0.constant (l.static (0 + x)) (zero_cells h.0.size)) h.0.parts h.0.size (formed.objects x h.0 h.1) (AreCellsIn-replicate store h.0.size (Byte 0) tt));
  }

  -- main may be called
  pub main-callable : IsCallable p layout.bottom layout.largest depth (first_call l p)
  main-callable = record {
    addressed = static_addressed;
    arguments = tt;
    static = omega (arith, length-static_regions l.static 0 p.objects);
    free = λ x z e live. let h = object_is x z e in inl (omega (arith, h.2, h.3, (layout.static x h.0 h.1).1));
    room = layout.room;
    top = layout.top;
    aligned = λ x z e live. let h = object_is x z e in let a = h.3 in let b = (layout.static x h.0 h.1).2 in omega (arith, a, b);
    stack_aligned = layout.top_aligned;
  }

  pub main-sound : (w : Outside) → OnGives (KeepsAddresses store) (calls l p.functions depth (first_call l p) w)
  main-sound w = calls-sound l p depth layout formed depth (first_call l p) w main-callable
