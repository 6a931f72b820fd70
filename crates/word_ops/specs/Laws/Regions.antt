-- Laws of regions: what changes of a store leave as it was.
-- No contract cites this file: it holds proofs.
use Rattle.std.proofs.Common.{◌≡◌, ◌≢◌, refl, sym, ap, ◌∙◌, ℕ, zero, suc, ◌+◌, ◌≤◌, ◌<◌, List, [], ◌∷◌, ◌++◌, length, arith, ⊎_elim, ◌⊎◌, inl, inr}
use Rattle.std.proofs.lemmas.Bool.{false≢true}
use Rattle.std.proofs.lemmas.List.{length-replicate}
use Rattle.std.proofs.lemmas.Bool.Decides.{eqb_tells}
use Rattle.std.proofs.lemmas.Option.{none-some, same_Some, slice_get_within}
use Rattle.std.specs.Prelude.{Option, Some, None, true, false, replicate, slice_get}
use Rattle.std.specs.Option.{option_map}
use Rattle.word_ops.specs.Store.{Cell, Unset, Byte, Part, Region, Store, Shape, shape, shape_at, change_region, change_found, end_region, end_regions, refill_region}
use Rattle.word_ops.specs.Changes.{SameRegions, SameShapes, CellsFade, RegionFades, Fades}
use Rattle.word_ops.specs.Laws.Lists.{slice_get-slice_set, slice_get-slice_set_other, length-slice_set, slice_get-append_keeps, slice_get-there}

-- ---- regions and their shapes

pub shape_at-region : (s : Store) (r : ℕ) (g : Region) → slice_get s r ≡ Some g → shape_at s r ≡ Some (shape g)
shape_at-region s r g e = ap (option_map shape) e

pub shape_at-some : (s : Store) (r : ℕ) (z : Shape) → shape_at s r ≡ Some z →
    (g : Region) × (slice_get s r ≡ Some g) × (shape g ≡ z)
shape_at-some s r z e = go (slice_get s r) refl e
  where
    go : (o : Option Region) → slice_get s r ≡ o → option_map shape o ≡ Some z →
        (g : Region) × (slice_get s r ≡ Some g) × (shape g ≡ z)
    go None q e = absurd (none-some z e)
    go (Some g) q e = (g, q, same_Some (shape g) z e)

-- ---- one region changed

pub change_region-same : (s : Store) (r : ℕ) (f : Region → Region) (g : Region) → slice_get s r ≡ Some g →
    slice_get (change_region s r f) r ≡ Some (f g)
change_region-same s r f g e = ap (λ o. slice_get (change_found s r f o) r) e ∙ slice_get-slice_set s r g (f g) e

pub change_region-other : (s : Store) (r q : ℕ) (f : Region → Region) → q ≢ r →
    slice_get (change_region s r f) q ≡ slice_get s q
change_region-other s r q f ne = go (slice_get s r)
  where
    go : (o : Option Region) → slice_get (change_found s r f o) q ≡ slice_get s q
    go None = refl
    go (Some g) = slice_get-slice_set_other s r q (f g) ne

pub length-change_region : (s : Store) (r : ℕ) (f : Region → Region) → length (change_region s r f) ≡ length s
length-change_region s r f = go (slice_get s r)
  where
    go : (o : Option Region) → length (change_found s r f o) ≡ length s
    go None = refl
    go (Some g) = length-slice_set s r (f g)

pub change_region-there : (s : Store) (r : ℕ) (f : Region → Region) →
    slice_get (change_region s r f) r ≡ option_map f (slice_get s r)
change_region-there s r f = go (slice_get s r) refl
  where
    go : (o : Option Region) → slice_get s r ≡ o → slice_get (change_region s r f) r ≡ option_map f (slice_get s r)
    go None e = ap (λ o. slice_get (change_found s r f o) r) e ∙ e ∙ sym (ap (option_map f) e)
    go (Some g) e = change_region-same s r f g e ∙ sym (ap (option_map f) e)

-- a place of the changed store is another place, or the changed region
pub change_region-at : (s : Store) (r q : ℕ) (f : Region → Region) →
    slice_get (change_region s r f) q ≡ slice_get s q ⊎ ((q ≡ r) × (slice_get (change_region s r f) q ≡ option_map f (slice_get s q)))
change_region-at s r q f =
    ⊎_elim
    (λ y. inr (y.1, ap (slice_get (change_region s r f)) y.1 ∙ change_region-there s r f ∙ ap (λ q. option_map f (slice_get s q)) (sym y.1)))
    (λ n. inl (change_region-other s r q f n.1))
    (eqb_tells q r)

-- a change that leaves the shape of each region leaves all shapes
pub change_region-shapes : (s : Store) (r : ℕ) (f : Region → Region) → ((g : Region) → shape (f g) ≡ shape g) →
    SameShapes s (change_region s r f)
change_region-shapes s r f h q =
    ⊎_elim
    (λ e. ap (option_map shape) e)
    (λ e. ap (option_map shape) e.1 ∙ go (slice_get s q))
    (change_region-at s r q f)
  where
    go : (o : Option Region) → option_map shape (option_map f o) ≡ option_map shape o
    go None = refl
    go (Some g) = ap Some (h g)

pub refill_region-shapes : (s : Store) (r : ℕ) (c : Cell) → SameShapes s (refill_region s r c)
refill_region-shapes s r c =
    change_region-shapes s r (λ g. record g { cells = replicate (length g.cells) c }) (λ g. ap (λ n. record { size = n; live = g.live; constant = g.constant; address = g.address }) (length-replicate (length g.cells) c))

-- ---- regions that end

pub length-end_regions : (s : Store) (first count : ℕ) → length (end_regions s first count) ≡ length s
length-end_regions s first zero = refl
length-end_regions s first (suc count) =
    length-end_regions (end_region s first) (first + 1) count
    ∙ length-change_region s first (λ g. record g { live = false })

pub end_regions-other : (s : Store) (first count r : ℕ) → (first ≤ r → r < first + count → ⊥) →
    slice_get (end_regions s first count) r ≡ slice_get s r
end_regions-other s first zero r out = refl
end_regions-other s first (suc count) r out =
    end_regions-other (end_region s first) (first + 1) count r (λ a b. out (omega (arith, a)) (omega (arith, b)))
    ∙ change_region-other s first r (λ g. record g { live = false }) (λ e. out (omega (arith, e)) (omega (arith, e)))

end_region-dead : (s : Store) (r : ℕ) (g : Region) → slice_get (end_region s r) r ≡ Some g → g.live ≡ false
end_region-dead s r g e = go (slice_get s r) refl e
  where
    go : (o : Option Region) → slice_get s r ≡ o →
        slice_get (change_found s r (λ g. record g { live = false }) o) r ≡ Some g → g.live ≡ false
    go None q e = absurd (none-some g (sym q ∙ e))
    go (Some h) q e =
        ap (λ (g : Region). g.live) (sym (same_Some (record h { live = false }) g (sym (slice_get-slice_set s r h (record h { live = false }) q) ∙ e)))

end_regions-dead : (s : Store) (first count r : ℕ) (g : Region) → first ≤ r → r < first + count →
    slice_get (end_regions s first count) r ≡ Some g → g.live ≡ false
end_regions-dead s first zero r g le lt e = absurd (omega (arith, le, lt))
end_regions-dead s first (suc count) r g le lt e =
    ⊎_elim
    (λ y. end_region-dead s first g (ap (slice_get (end_region s first)) (sym y.1) ∙ sym (end_regions-other (end_region s first) (first + 1) count r (λ a b. omega (arith, a, y.1))) ∙ e))
    (λ n. end_regions-dead (end_region s first) (first + 1) count r g (above first r le n.1) (omega (arith, lt)) e)
    (eqb_tells r first)
  where
    above : (k r : ℕ) → k ≤ r → r ≢ k → k + 1 ≤ r
    above k r le ne = grind arith

-- what is live after the ends was live before, and is none of those that ended
pub end_regions-live : (s : Store) (first count r : ℕ) (g : Region) →
    slice_get (end_regions s first count) r ≡ Some g → g.live ≡ true →
    (first ≤ r → r < first + count → ⊥) × (slice_get s r ≡ Some g)
end_regions-live s first count r g e l =
    let out : first ≤ r → r < first + count → ⊥ =
    λ a b. false≢true (sym (end_regions-dead s first count r g a b e) ∙ l) in
    (out, sym (end_regions-other s first count r out) ∙ e)

-- the end of a lifetime leaves all but the flag
pub end_region-at : (s : Store) (r q : ℕ) (g : Region) → slice_get (end_region s r) q ≡ Some g →
    (h : Region) × (slice_get s q ≡ Some h) × (g.constant ≡ h.constant) × (g.address ≡ h.address) × (g.cells ≡ h.cells) × (g.live ≡ true → h.live ≡ true)
end_region-at s r q g e =
    ⊎_elim
    (λ a. (g, sym a ∙ e, refl, refl, refl, λ l. l))
    (λ b. go (slice_get s q) refl (sym b.1 ∙ e))
    (change_region-at s r q (λ g. record g { live = false }))
  where
    go : (o : Option Region) → slice_get s q ≡ o → option_map (λ (g : Region). record g { live = false }) o ≡ Some g →
        (h : Region) × (slice_get s q ≡ Some h) × (g.constant ≡ h.constant) × (g.address ≡ h.address) × (g.cells ≡ h.cells) × (g.live ≡ true → h.live ≡ true)
    go None p e = absurd (none-some g e)
    go (Some h) p e =
        let same = sym (same_Some (record h { live = false }) g e) in
        (h, p, ap (λ (g : Region). g.constant) same, ap (λ (g : Region). g.address) same, ap (λ (g : Region). g.cells) same, λ l. absurd (false≢true (sym (ap (λ (g : Region). g.live) same) ∙ l)))

-- ---- the same regions

pub SameRegions-refl : (s : Store) → SameRegions s s
SameRegions-refl s r z e = e

pub SameRegions-trans : (s t u : Store) → SameRegions s t → SameRegions t u → SameRegions s u
SameRegions-trans s t u h k r z e = k r z (h r z e)

pub SameShapes-regions : (s t : Store) → SameShapes s t → SameRegions s t
SameShapes-regions s t h r z e = h r ∙ e

pub SameShapes-back : (s t : Store) → SameShapes s t → SameRegions t s
SameShapes-back s t h r z e = sym (h r) ∙ e

pub SameShapes-trans : (s t u : Store) → SameShapes s t → SameShapes t u → SameShapes s u
SameShapes-trans s t u h k r = k r ∙ h r

-- further regions leave the old ones
pub SameRegions-append : (s t : Store) → SameRegions s (s ++ t)
SameRegions-append s t r z e =
    let g = shape_at-some s r z e in
    shape_at-region (s ++ t) r g.0 (slice_get-append_keeps s t r g.0 g.1) ∙ ap Some g.2

pub SameRegions-length : (s t : Store) → SameRegions s t → length s ≤ length t
SameRegions-length s t h = go (length s) refl
  where
    go : (n : ℕ) → length s ≡ n → length s ≤ length t
    go zero e = omega (arith, e)
    go (suc n) e =
        let g = slice_get-there s n (omega (arith, e)) in
        let f = shape_at-some t n (shape g.0) (h n (shape g.0) (shape_at-region s n g.0 g.1)) in
        omega (arith, e, slice_get_within t n f.0 f.1)

-- regions that end leave those before them, as at the end of a call
pub SameRegions-ends : (s t : Store) (first count : ℕ) → length s ≤ first → SameRegions s t →
    SameRegions s (end_regions t first count)
SameRegions-ends s t first count le h r z e =
    let g = shape_at-some s r z e in
    let lt = slice_get_within s r g.0 g.1 in
    ap (option_map shape) (end_regions-other t first count r (λ a b. omega (arith, a, lt, le))) ∙ h r z e

pub length-CellsFade : (cs ds : List Cell) → CellsFade cs ds → length ds ≡ length cs
length-CellsFade [] [] h = refl
length-CellsFade [] (d ∷ ds) h = absurd h
length-CellsFade (c ∷ cs) [] h = absurd h
length-CellsFade (c ∷ cs) (Unset ∷ ds) h = ap suc (length-CellsFade cs ds h)
length-CellsFade (c ∷ cs) (Byte b ∷ ds) h = ap suc (length-CellsFade cs ds h.1)
length-CellsFade (c ∷ cs) (Part k r o ∷ ds) h = ap suc (length-CellsFade cs ds h.1)

-- cells made Unset leave the regions
pub Fades-shapes : (s t : Store) → Fades s t → SameShapes s t
Fades-shapes s t h r = go (slice_get s r) (slice_get t r) (h r)
  where
    go : (o p : Option Region) → RegionFades o p → option_map shape p ≡ option_map shape o
    go None None h = refl
    go None (Some g) h = absurd h
    go (Some g) None h = absurd h
    go (Some g) (Some k) h =
        let l = length-CellsFade g.cells k.cells h.3 in let a = h.0 in let b = h.1 in let c = h.2 in ap Some (rw (l, a, b, c) refl)
