-- Laws of two stores of which one has cells made Unset: the same changes keep them so.
-- No contract cites this file: it holds proofs.
use Rattle.std.proofs.Common.{◌≡◌, refl, sym, ap, ◌∙◌, subst, ℕ, zero, suc, ◌+◌, List, [], ◌∷◌, ◌++◌, length, take, drop, ⊎_elim}
use Rattle.std.proofs.lemmas.Bool.Decides.{eqb_tells}
use Rattle.std.specs.Prelude.{Option, Some, None, true, false, not, ◌&&◌, ◌%◌, ◌==◌, nat_le, replicate, slice_get, slice_set}
use Rattle.std.specs.Option.{option_map, option_and_then}
use Rattle.word_ops.specs.declared.operation.Width.{Width}
use Rattle.word_ops.specs.Choice.{only_if, when}
use Rattle.word_ops.specs.Store.{Value, Number, Pointer, Cell, Unset, Byte, Part, Region, Store, change_region, end_region, refill_region}
use Rattle.word_ops.specs.Access.{bytes_of, may_access, with_cells, put_in, put_cells, is_constant, is_constant_in, initialise, write, initialise_from, copy}
use Rattle.word_ops.specs.Changes.{CellsFade, RegionFades, Fades}
use Rattle.word_ops.specs.Laws.Lists.{slice_get-slice_set, slice_get-slice_set_other}
use Rattle.word_ops.specs.Laws.Regions.{length-CellsFade, change_region-there, change_region-other, change_region-at}
use Rattle.word_ops.specs.Laws.Accesses.{Puts, initialise-some, write-some, initialise_from-some, copy-some}
use Rattle.word_ops.specs.Laws.Fading.{CellsFade-refl, CellsFade-take, CellsFade-drop, Fades-cells}

pub CellsFade-append : (xs ys cs ds : List Cell) → CellsFade xs ys → CellsFade cs ds → CellsFade (xs ++ cs) (ys ++ ds)
CellsFade-append [] [] cs ds h k = k
CellsFade-append [] (y ∷ ys) cs ds h k = absurd h
CellsFade-append (x ∷ xs) [] cs ds h k = absurd h
CellsFade-append (x ∷ xs) (Unset ∷ ys) cs ds h k = CellsFade-append xs ys cs ds h k
CellsFade-append (x ∷ xs) (Byte b ∷ ys) cs ds h k = (h.0, CellsFade-append xs ys cs ds h.1 k)
CellsFade-append (x ∷ xs) (Part j r o ∷ ys) cs ds h k = (h.0, CellsFade-append xs ys cs ds h.1 k)

CellsFade-trans : (cs ds es : List Cell) → CellsFade cs ds → CellsFade ds es → CellsFade cs es
CellsFade-trans [] [] es h k = k
CellsFade-trans [] (d ∷ ds) es h k = absurd h
CellsFade-trans (c ∷ cs) [] es h k = absurd h
CellsFade-trans (c ∷ cs) (d ∷ ds) [] h k = absurd k
CellsFade-trans (c ∷ cs) (d ∷ ds) (Unset ∷ es) h k = CellsFade-trans cs ds es (rest d h) k
  where
    rest : (d : Cell) → CellsFade (c ∷ cs) (d ∷ ds) → CellsFade cs ds
    rest Unset h = h
    rest (Byte b) h = h.1
    rest (Part j r o) h = h.1
CellsFade-trans (c ∷ cs) (d ∷ ds) (Byte b ∷ es) h k =
    let H = subst (λ d. CellsFade (c ∷ cs) (d ∷ ds)) k.0 h in (H.0, CellsFade-trans cs ds es H.1 k.1)
CellsFade-trans (c ∷ cs) (d ∷ ds) (Part j r o ∷ es) h k =
    let H = subst (λ d. CellsFade (c ∷ cs) (d ∷ ds)) k.0 h in (H.0, CellsFade-trans cs ds es H.1 k.1)

pub RegionFades-refl : (x : Option Region) → RegionFades x x
RegionFades-refl None = tt
RegionFades-refl (Some g) = (refl, refl, refl, CellsFade-refl g.cells)

pub Fades-refl : (s : Store) → Fades s s
Fades-refl s r = RegionFades-refl (slice_get s r)

pub Fades-trans : (s t u : Store) → Fades s t → Fades t u → Fades s u
Fades-trans s t u h k r = go (slice_get s r) (slice_get t r) (slice_get u r) (h r) (k r)
  where
    go : (x y z : Option Region) → RegionFades x y → RegionFades y z → RegionFades x z
    go None None z h k = k
    go None (Some g) z h k = absurd h
    go (Some g) None z h k = absurd h
    go (Some f) (Some g) None h k = absurd k
    go (Some f) (Some g) (Some e) h k =
        (k.0 ∙ h.0, k.1 ∙ h.1, k.2 ∙ h.2, CellsFade-trans f.cells g.cells e.cells h.3 k.3)

-- the same place in two stores
at_place : (s t : Store) (r : ℕ) (h : Region) → Fades s t → slice_get t r ≡ Some h →
    (g : Region) × (slice_get s r ≡ Some g) × RegionFades (Some g) (Some h)
at_place s t r h f e = go (slice_get s r) refl (subst (RegionFades (slice_get s r)) e (f r))
  where
    go : (x : Option Region) → slice_get s r ≡ x → RegionFades x (Some h) →
        (g : Region) × (slice_get s r ≡ Some g) × RegionFades (Some g) (Some h)
    go None q k = absurd k
    go (Some g) q k = (g, q, k)

pub set_fades : (s t : Store) (r : ℕ) (g h g' h' : Region) → Fades s t → slice_get s r ≡ Some g → slice_get t r ≡ Some h →
    RegionFades (Some g') (Some h') → Fades (slice_set s r g') (slice_set t r h')
set_fades s t r g h g' h' f eg eh k q =
    ⊎_elim
    (λ y.
    let a : slice_get (slice_set s r g') q ≡ Some g' =
    ap (slice_get (slice_set s r g')) y.1 ∙ slice_get-slice_set s r g g' eg in
    let b : slice_get (slice_set t r h') q ≡ Some h' =
    ap (slice_get (slice_set t r h')) y.1 ∙ slice_get-slice_set t r h h' eh in
    subst (λ x. RegionFades x (slice_get (slice_set t r h') q)) (sym a) (subst (RegionFades (Some g')) (sym b) k))
    (λ n. subst (λ x. RegionFades x (slice_get (slice_set t r h') q)) (sym (slice_get-slice_set_other s r q g' n.1)) (subst (RegionFades (slice_get s q)) (sym (slice_get-slice_set_other t r q h' n.1)) (f q)))
    (eqb_tells q r)

pub with_cells_fade : (g h : Region) (o : ℕ) (cs ds : List Cell) → CellsFade cs ds → RegionFades (Some g) (Some h) →
    RegionFades (Some (with_cells g o cs)) (Some (with_cells h o ds))
with_cells_fade g h o cs ds f k =
    let behind : CellsFade (drop (o + length cs) g.cells) (drop (o + length ds) h.cells) = subst (λ n. CellsFade (drop (o + length cs) g.cells) (drop (o + n) h.cells)) (sym (length-CellsFade cs ds f)) (CellsFade-drop (o + length cs) g.cells h.cells k.3) in
    let front = CellsFade-take o g.cells h.cells k.3 in
    let all = CellsFade-append (take o g.cells) (take o h.cells) (cs ++ drop (o + length cs) g.cells) (ds ++ drop (o + length ds) h.cells) front (CellsFade-append cs ds (drop (o + length cs) g.cells) (drop (o + length ds) h.cells) f behind) in
    (k.0, k.1, k.2, all)

-- cells that are put into the store with Unset cells can be put into the other one too
pub Fades-puts : (s t u : Store) (p : Value) (a : ℕ) (cs ds : List Cell) → Fades s t → CellsFade cs ds →
    Puts t u p a ds → (v : Store) × (put_cells s p a cs ≡ Some v) × Fades v u
Fades-puts s t u p a cs ds f k h =
    let g = at_place s t h.region h.object f h.at in
    let new = with_cells g.0 h.offset cs in
    let access : may_access g.0 (length cs) a h.offset ≡ true =
    ap (λ n. may_access g.0 n a h.offset) (sym (length-CellsFade cs ds k))
    ∙ ap (λ b. b && ((h.offset % a == 0) && nat_le (h.offset + length ds) (length g.0.cells))) (sym g.2.0)
    ∙ ap (λ m. h.object.live && ((h.offset % a == 0) && nat_le (h.offset + length ds) m)) (sym (length-CellsFade g.0.cells h.object.cells g.2.3))
    ∙ h.access in
    let put : put_cells s p a cs ≡ Some (slice_set s h.region new) =
    ap (λ p. put_cells s p a cs) h.pointer ∙ ap (put_in s h.region h.offset a cs) g.1
    ∙ ap (λ b. only_if b (slice_set s h.region new)) access in
    let faded = set_fades s t h.region g.0 h.object new (with_cells h.object h.offset ds) f g.1 h.at (with_cells_fade g.0 h.object h.offset cs ds k g.2) in
    (slice_set s h.region new, put, subst (Fades (slice_set s h.region new)) h.after faded)

pub Fades-initialise : (s t t' : Store) (k : Width) (p v : Value) → Fades s t → initialise t k p v ≡ Some t' →
    (s' : Store) × (initialise s k p v ≡ Some s') × Fades s' t'
Fades-initialise s t t' k p v f e =
    let c = initialise-some t t' k p v e in
    let d = Fades-puts s t t' p (bytes_of k) c.0 c.0 f (CellsFade-refl c.0) c.2 in
    (d.0, ap (option_and_then (put_cells s p (bytes_of k))) c.1 ∙ d.1, d.2)

is_constant_same : (s t : Store) (p : Value) → Fades s t → is_constant s p ≡ is_constant t p
is_constant_same s t (Number n) f = refl
is_constant_same s t (Pointer r o) f = go (slice_get s r) (slice_get t r) (f r)
  where
    go : (x y : Option Region) → RegionFades x y → is_constant_in x ≡ is_constant_in y
    go None None k = refl
    go None (Some h) k = absurd k
    go (Some g) None k = absurd k
    go (Some g) (Some h) k = sym k.1

-- a store of a value that is defined in the store with Unset cells is defined in the other one too
pub Fades-write : (s t t' : Store) (k : Width) (p v : Value) → Fades s t → write t k p v ≡ Some t' →
    (s' : Store) × (write s k p v ≡ Some s') × Fades s' t'
Fades-write s t t' k p v f e =
    let w = write-some t t' k p v e in
    let d = Fades-initialise s t t' k p v f w.1 in
    (d.0, ap (λ b. when (not b) (initialise s k p v)) (is_constant_same s t p f ∙ w.0) ∙ d.1, d.2)

-- and so is a copy
pub Fades-copy : (s t u : Store) (p q : Value) (n a : ℕ) → Fades s t → copy t p q n a ≡ Some u →
    (v : Store) × (copy s p q n a ≡ Some v) × Fades v u
Fades-copy s t u p q n a f e =
    let w = copy-some t u p q n a e in
    let c = initialise_from-some t u p q n a w.1 in
    let b = Fades-cells s t q n a c.0 f c.1 in
    let d = Fades-puts s t u p a b.0 c.0 f b.2 c.2 in
    let here : copy s p q n a ≡ Some d.0 =
    ap (λ b. when (not b) (initialise_from s p q n a)) (is_constant_same s t p f ∙ w.0)
    ∙ ap (option_and_then (put_cells s p a)) b.1 ∙ d.1 in
    (d.0, here, d.2)

-- a change of one region that keeps fading regions fading
pub Fades-change : (s t : Store) (r : ℕ) (f : Region → Region) →
    ((g h : Region) → RegionFades (Some g) (Some h) → RegionFades (Some (f g)) (Some (f h))) → Fades s t →
    Fades (change_region s r f) (change_region t r f)
Fades-change s t r f k h q =
    ⊎_elim
    (λ y. subst (λ q. RegionFades (slice_get (change_region s r f) q) (slice_get (change_region t r f) q)) (sym y.1) (both (sym (change_region-there s r f)) (sym (change_region-there t r f)) (mapped (slice_get s r) (slice_get t r) (h r))))
    (λ n. both (sym (change_region-other s r q f n.1)) (sym (change_region-other t r q f n.1)) (h q))
    (eqb_tells q r)
  where
    mapped : (x y : Option Region) → RegionFades x y → RegionFades (option_map f x) (option_map f y)
    mapped None None m = tt
    mapped None (Some b) m = absurd m
    mapped (Some a) None m = absurd m
    mapped (Some a) (Some b) m = k a b m

    both : {x y u v : Option Region} → x ≡ u → y ≡ v → RegionFades x y → RegionFades u v
    both {x} {y} {u} {v} a b m = subst (λ u. RegionFades u v) a (subst (RegionFades x) b m)

pub Fades-end : (s t : Store) (r : ℕ) → Fades s t → Fades (end_region s r) (end_region t r)
Fades-end s t r h = Fades-change s t r (λ g. record g { live = false }) (λ g h k. (refl, k.1, k.2, k.3)) h

pub Fades-refill : (s t : Store) (r : ℕ) (c : Cell) → Fades s t → Fades (refill_region s r c) (refill_region t r c)
Fades-refill s t r c h =
    Fades-change s t r (λ g. record g { cells = replicate (length g.cells) c }) (λ g h k. (k.0, k.1, k.2, subst (λ n. CellsFade (replicate (length g.cells) c) (replicate n c)) (sym (length-CellsFade g.cells h.cells k.3)) (CellsFade-refl (replicate (length g.cells) c)))) h

-- an object whose cells are made Unset on one side alone
unset_fades : (cs : List Cell) → CellsFade cs (replicate (length cs) Unset)
unset_fades [] = tt
unset_fades (c ∷ cs) = unset_fades cs

pub Fades-unset : (s : Store) (r : ℕ) → Fades s (refill_region s r Unset)
Fades-unset s r q =
    ⊎_elim
    (λ a. subst (RegionFades (slice_get s q)) (sym a) (RegionFades-refl (slice_get s q)))
    (λ b. subst (RegionFades (slice_get s q)) (sym b.1) (go (slice_get s q)))
    (change_region-at s r q (λ g. record g { cells = replicate (length g.cells) Unset }))
  where
    go : (x : Option Region) →
        RegionFades x (option_map (λ (g : Region). record g { cells = replicate (length g.cells) Unset }) x)
    go None = tt
    go (Some g) = (refl, refl, refl, unset_fades g.cells)

-- the same new regions behind
pub Fades-append : (s t new : Store) → Fades s t → Fades (s ++ new) (t ++ new)
Fades-append [] [] new h r = Fades-refl new r
Fades-append [] (y ∷ t) new h r = absurd (h 0)
Fades-append (x ∷ s) [] new h r = absurd (h 0)
Fades-append (x ∷ s) (y ∷ t) new h zero = h 0
Fades-append (x ∷ s) (y ∷ t) new h (suc r) = Fades-append s t new (λ r. h (suc r)) r
