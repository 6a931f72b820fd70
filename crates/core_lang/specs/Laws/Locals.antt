-- Laws of local objects: the regions of an activation as it begins.
-- No contract cites this file: it holds proofs.
use Rattle.std.proofs.Common.{◌≡◌, refl, sym, ap, ◌∙◌, ℕ, zero, suc, ◌+◌, List, [], ◌∷◌, length, arith}
use Rattle.std.proofs.lemmas.List.{length-replicate}
use Rattle.std.proofs.lemmas.Option.{none-some, same_Some}
use Rattle.std.specs.Prelude.{Some, true, false, slice_get}
use Rattle.word_ops.specs.Store.{Unset, Region, Shape, shape, shape_at, new_region, unset_cells}
use Rattle.word_ops.specs.Laws.Regions.{shape_at-some}
use Rattle.core_lang.specs.Run.{local_regions}

pub local_regions-there : (address : ℕ → ℕ) (k : ℕ) (sizes : List ℕ) (i n : ℕ) → slice_get sizes i ≡ Some n →
    slice_get (local_regions address k sizes) i ≡ Some (new_region false (address (k + i)) (unset_cells n))
local_regions-there address k [] i n e = absurd (none-some n e)
local_regions-there address k (m ∷ sizes) zero n e =
    let z : k ≡ k + zero = omega arith in
    ap (λ k. Some (new_region false (address k) (unset_cells m))) z
    ∙ ap (λ m. Some (new_region false (address (k + zero)) (unset_cells m))) (same_Some m n e)
local_regions-there address k (m ∷ sizes) (suc i) n e =
    let z : k + 1 + i ≡ k + suc i = omega arith in
    local_regions-there address (k + 1) sizes i n e
    ∙ ap (λ k. Some (new_region false (address k) (unset_cells n))) z

pub local_regions-at : (address : ℕ → ℕ) (k : ℕ) (sizes : List ℕ) (i : ℕ) (g : Region) →
    slice_get (local_regions address k sizes) i ≡ Some g →
    (n : ℕ) × (slice_get sizes i ≡ Some n) × (g ≡ new_region false (address (k + i)) (unset_cells n))
local_regions-at address k [] i g e = absurd (none-some g e)
local_regions-at address k (n ∷ sizes) zero g e =
    let z : k ≡ k + zero = omega arith in
    (n, refl, sym (same_Some (new_region false (address k) (unset_cells n)) g e) ∙ ap (λ k. new_region false (address k) (unset_cells n)) z)
local_regions-at address k (n ∷ sizes) (suc i) g e =
    let h = local_regions-at address (k + 1) sizes i g e in
    let z : k + 1 + i ≡ k + suc i = omega arith in
    (h.0, h.1, h.2 ∙ ap (λ k. new_region false (address k) (unset_cells h.0)) z)

pub length-local_regions : (address : ℕ → ℕ) (k : ℕ) (sizes : List ℕ) →
    length (local_regions address k sizes) ≡ length sizes
length-local_regions address k [] = refl
length-local_regions address k (n ∷ sizes) = ap suc (length-local_regions address (k + 1) sizes)

-- the shape of one of them
pub local_regions-shape : (address : ℕ → ℕ) (sizes : List ℕ) (i : ℕ) (z : Shape) →
    shape_at (local_regions address 0 sizes) i ≡ Some z →
    (n : ℕ) × (slice_get sizes i ≡ Some n) × (z ≡ record { size = n; live = true; constant = false; address = address i })
local_regions-shape address sizes i z e =
    let g = shape_at-some (local_regions address 0 sizes) i z e in
    let h = local_regions-at address 0 sizes i g.0 g.1 in
    let k : 0 + i ≡ i = omega arith in
    (h.0, h.1, sym g.2 ∙ ap shape h.2 ∙ ap (λ n. record { size = n; live = true; constant = false; address = address (0 + i) }) (length-replicate h.0 Unset) ∙ ap (λ k. record { size = h.0; live = true; constant = false; address = address k }) k)
