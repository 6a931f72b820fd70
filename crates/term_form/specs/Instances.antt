-- What is asked of graphs can be met: a graph of two blocks, with a phi in the second, hangs together. No contract cites this
-- file.
use Rattle.std.proofs.Common.{◌≡◌, refl, sym, ap, ◌∙◌, subst, ℕ, zero, suc, ◌<◌, ◌⊎◌, inl, inr, ⊎_elim, List, [], ◌∷◌, Option, Some, None, arith}
use Rattle.std.proofs.lemmas.Option.{none-some, same_Some}
use Rattle.std.specs.Prelude.{slice_get}
use Rattle.term_form.specs.declared.term.Node.TheVariants as nodes
use Rattle.term_form.specs.declared.graph.Graph.{Graph}
use Rattle.term_form.specs.declared.graph.Block.{Block}
use Rattle.term_form.specs.declared.graph.Definition.{Definition}
use Rattle.term_form.specs.declared.graph.Item.{Item}
use Rattle.term_form.specs.declared.graph.Item.TheVariants.{Define}
use Rattle.term_form.specs.declared.graph.Ending.TheVariants.{Jump, Return}
use Rattle.term_form.specs.declared.graph.EdgeArgument.{EdgeArgument}
use Rattle.term_form.specs.Scope.{Place, Standing, AnItem, AnEnd, standing_at, terms_used, terms_made, IsAmong, Uses, Makes, IsDefinedAt, IsReady, IsInScope, IsOneOf, targets_of, parent_of}
use Rattle.term_form.specs.Graphs.{IsEdge, IsWithin, HasTwoTargets, HasOnce, IsNodeIn, IsRecorded, IsPhiOf, IsArgumentAt, HasArguments, IsItemIn, HangsTogether}
use Rattle.term_form.specs.Examples.{t, anything, define, konst, block, phi_takes, graph_of}

abbrev seven : Definition
seven = record { term = t 0; node = nodes.Konst 7; facts = anything }

abbrev phi : Definition
phi = record { term = t 1; node = nodes.Phi; facts = anything }

abbrev first_block : Block
first_block = block None (Define seven ∷ []) (Jump 1) (phi_takes 1 1 0 ∷ [])

abbrev second_block : Block
second_block = block (Some 0) (Define phi ∷ []) (Return (Some (t 1))) []

abbrev pub two_blocks : Graph
two_blocks = graph_of (first_block ∷ second_block ∷ [])

-- ---- what stands where

block_cases : (P : ℕ → Block → Type 0) → P 0 first_block → P 1 second_block → (k : ℕ) (b : Block) →
    slice_get two_blocks.blocks k ≡ Some b → P k b
block_cases P x y zero b e = subst (P 0) (same_Some first_block b e) x
block_cases P x y (suc zero) b e = subst (P 1) (same_Some second_block b e) y
block_cases P x y (suc (suc k)) b e = absurd (none-some b e)

abbrev at : ℕ → ℕ → Place
at k i = record { block = k; item = i }

place_cases : (P : ℕ → ℕ → Standing → Type 0) → P 0 0 (AnItem (Define seven)) → P 0 1 (AnEnd first_block) →
    P 1 0 (AnItem (Define phi)) → P 1 1 (AnEnd second_block) → (k i : ℕ) (x : Standing) →
    standing_at two_blocks (at k i) ≡ Some x → P k i x
place_cases P a b c d zero zero x e = subst (P 0 0) (same_Some _ x e) a
place_cases P a b c d zero (suc zero) x e = subst (P 0 1) (same_Some _ x e) b
place_cases P a b c d zero (suc (suc i)) x e = absurd (none-some x e)
place_cases P a b c d (suc zero) zero x e = subst (P 1 0) (same_Some _ x e) c
place_cases P a b c d (suc zero) (suc zero) x e = subst (P 1 1) (same_Some _ x e) d
place_cases P a b c d (suc zero) (suc (suc i)) x e = absurd (none-some x e)
place_cases P a b c d (suc (suc k)) i x e = absurd (none-some x e)

-- a record that stands at a place is one of the two
abbrev IsItem : (Definition → Type 0) → Standing → Type 0
IsItem P (AnItem (Define d)) = P d
IsItem P (AnItem i) = Unit {0}
IsItem P (AnEnd b) = Unit {0}

defined_cases : (P : ℕ → ℕ → Definition → Type 0) → P 0 0 seven → P 1 0 phi → (k i : ℕ) (d : Definition) →
    standing_at two_blocks (at k i) ≡ Some (AnItem (Define d)) → P k i d
defined_cases P x y k i d e = place_cases (λ k i x. IsItem (P k i) x) x tt y tt k i (AnItem (Define d)) e

edge_cases : (P : ℕ → ℕ → Type 0) → P 0 1 → (k to : ℕ) → IsEdge two_blocks k to → P k to
edge_cases P x k to h =
    block_cases (λ k b. IsOneOf to (targets_of b.end) → P k to) (λ o. ⊎_elim (λ e. subst (P 0) e x) (λ n. absurd n) o) (λ o. absurd o) k h.0 h.1 h.2

-- ---- the graph hangs together

scoped : (n k i : ℕ) → Uses two_blocks n (at k i) → IsInScope two_blocks n (at k i)
scoped n k i h =
    place_cases (λ k i x. IsAmong n (terms_used x) → IsInScope two_blocks n (at k i)) (λ a. absurd a) (λ a. ⊎_elim (λ e. inr (inl (0, omega arith, (seven, refl, e)))) (λ n. absurd n) a) (λ a. absurd a) (λ a. ⊎_elim (λ e. inr (inl (0, omega arith, (phi, refl, e)))) (λ n. absurd n) a) k i h.0 h.1 h.2

-- the place of the record of a term
abbrev own : ℕ → ℕ → ℕ → Type 0
own n k i = (k ≡ n) × (i ≡ 0)

own_place : (n k i : ℕ) → IsDefinedAt two_blocks n (at k i) → own n k i
own_place n k i h = subst (λ n. own n k i) h.2 (defined_cases (λ k i d. own d.term.0 k i) (refl, refl) (refl, refl) k i h.0 h.1)

same_places : (k i l j : ℕ) → k ≡ l → i ≡ j → at k i ≡ at l j
same_places k i l j e f = ap (λ k. at k i) e ∙ ap (λ i. at l i) f

arguments : (k : ℕ) (b : Block) → slice_get two_blocks.blocks k ≡ Some b → HasArguments two_blocks b
arguments k b e = block_cases (λ k b. HasArguments two_blocks b) (record { some = some; one = one; no_other = no_other }) (record { some = λ to n o. absurd o; one = λ to n i j a b. absurd (none-some a.0 a.1); no_other = λ i m e. absurd (none-some m e) }) k b e
  where
    some : (to n : ℕ) → IsOneOf to (targets_of first_block.end) → IsPhiOf two_blocks to n → (i : ℕ) × IsArgumentAt first_block.edges to n i
    some to n o h = ⊎_elim (λ e. (0, (phi_takes 1 1 0, refl, e, e ∙ (own_place n to h.0 (h.1, h.2, h.3)).0))) (λ n. absurd n) o

    one : (to n i j : ℕ) → IsArgumentAt first_block.edges to n i → IsArgumentAt first_block.edges to n j → i ≡ j
    one to n zero zero a b = refl
    one to n zero (suc j) a b = absurd (none-some b.0 b.1)
    one to n (suc i) j a b = absurd (none-some a.0 a.1)

    no_other : (i : ℕ) (m : EdgeArgument) → slice_get first_block.edges i ≡ Some m → IsOneOf m.to (targets_of first_block.end) × IsPhiOf two_blocks m.to m.phi.0
    no_other zero m e = subst (λ (m : EdgeArgument). IsOneOf m.to (targets_of first_block.end) × IsPhiOf two_blocks m.to m.phi.0) (same_Some (phi_takes 1 1 0) m e) (inl refl, (0, phi, refl, refl, refl))
    no_other (suc i) m e = absurd (none-some m e)

once : HasOnce two_blocks
once = record {
  places = λ n p q a b.
      let x = own_place n p.block p.item a in
      let y = own_place n q.block q.item b in
      same_places p.block p.item q.block q.item (x.0 ∙ sym y.0) (x.1 ∙ sym y.1);
  ready = λ n p r a. none-some r.1 r.2;
  once = λ i j d e a b f. absurd (none-some d a);
}

recorded : (P : Definition → Type 0) → P seven → P phi → (d : Definition) → IsRecorded two_blocks d → P d
recorded P x y d (inl h) = defined_cases (λ k i d. P d) x y h.0.block h.0.item d h.1
recorded P x y d (inr h) = absurd (none-some d h.1)

-- what an item gives a value is one of the two terms
made : (n k i : ℕ) → Makes two_blocks n (at k i) → n < 2
made n k i h =
    place_cases (λ k i x. IsAmong n (terms_made x) → n < 2) (λ a. ⊎_elim (λ e. omega (arith, e)) (λ n. absurd n) a) (λ a. absurd a) (λ a. ⊎_elim (λ e. omega (arith, e)) (λ n. absurd n) a) (λ a. absurd a) k i h.0 h.1 h.2

abbrev IsAnItemIn : Standing → Type 0
IsAnItemIn (AnItem i) = IsItemIn (two_blocks ∷ []) i
IsAnItemIn (AnEnd b) = Unit {0}

pub two_blocks-hang : HangsTogether (two_blocks ∷ []) 0 two_blocks 2
two_blocks-hang = record {
  first = (first_block, refl, refl);
  parents = λ k b e. block_cases (λ k b. (j : ℕ) → k ≡ suc j → (outer : ℕ) × (b.parent ≡ Some outer) × (outer < suc j)) (λ j z. absurd (omega (arith, z))) (λ j z. (0, refl, omega arith)) (suc k) b e k refl;
  targets = λ k to h. edge_cases (λ k to. (0 < to) × (to < 2)) (omega arith, omega arith) k to h;
  inward = λ k to h. edge_cases (λ k to. (outer : ℕ) × (parent_of two_blocks to ≡ Some outer) × IsWithin two_blocks k outer) (0, refl, (0, refl)) k to h;
  branches = λ k b e. block_cases (λ k b. HasTwoTargets b.end) tt tt k b e;
  arguments = arguments;
  scoped = λ n p h. scoped n p.block p.item h;
  once = once;
  ready = λ i d e. absurd (none-some d e);
  named = λ d h. recorded (λ d. IsNodeIn 0 two_blocks d.node) tt tt d h;
  below = λ d h. recorded (λ d. d.term.0 < 2) (omega arith) (omega arith) d h;
  made_below = λ n q h. made n q.block q.item h;
  items = λ q i e. place_cases (λ k i x. IsAnItemIn x) tt tt tt tt q.block q.item (AnItem i) e;
}
