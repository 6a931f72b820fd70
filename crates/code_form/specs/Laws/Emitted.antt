-- What is asked of a graph from which code is selected can be met: that of the example over slots has the form.
-- No contract cites this file: it holds proofs.
use Rattle.std.proofs.Common.{◌≡◌, refl, sym, ap, ◌∙◌, subst, ℕ, zero, suc, ◌<◌, inl, inr, ⊎_elim, [], ◌∷◌, Some, arith}
use Rattle.std.proofs.lemmas.Option.{none-some, same_Some}
use Rattle.std.specs.Prelude.{slice_get}
use Rattle.word_ops.specs.declared.operation.Op.TheVariants as op
use Rattle.term_form.specs.declared.term.Node.TheVariants as nodes
use Rattle.term_form.specs.declared.term.Root.TheVariants as roots
use Rattle.term_form.specs.declared.graph.Block.{Block}
use Rattle.term_form.specs.declared.graph.Definition.{Definition}
use Rattle.term_form.specs.declared.graph.Item.TheVariants.{Define}
use Rattle.term_form.specs.Scope.{Place, Standing, AnItem, AnEnd, standing_at, terms_used, terms_made, IsAmong, Uses, Makes, IsDefinedAt, IsReady, IsInScope, IsOneOf, targets_of}
use Rattle.term_form.specs.Graphs.{IsEdge, HasTwoTargets, HasOnce, IsReadyNode, IsNodeIn, IsRecorded, HasArguments, IsItemIn, HangsTogether}
use Rattle.term_form.specs.Examples.{t}
use Rattle.code_form.specs.Emitted.{IsEmittedBlock, IsEmittedForm}
use Rattle.code_form.specs.Examples.{define, sum_block, sum_graph}

abbrev taken : Definition
taken = define 0 (nodes.Root (roots.Param 0))

abbrev added : Definition
added = define 1 (nodes.Operate op.Adds (t 0) (t 2))

abbrev five : Definition
five = define 2 (nodes.Konst 5)

-- ---- what stands where

block_cases : (P : ℕ → Block → Type 0) → P 0 sum_block → (k : ℕ) (b : Block) → slice_get sum_graph.blocks k ≡ Some b → P k b
block_cases P x zero b e = subst (P 0) (same_Some sum_block b e) x
block_cases P x (suc k) b e = absurd (none-some b e)

ready_cases : (P : ℕ → Definition → Type 0) → P 0 five → (i : ℕ) (d : Definition) → slice_get sum_graph.ready i ≡ Some d → P i d
ready_cases P x zero d e = subst (P 0) (same_Some five d e) x
ready_cases P x (suc i) d e = absurd (none-some d e)

abbrev at : ℕ → ℕ → Place
at k i = record { block = k; item = i }

place_cases : (P : ℕ → ℕ → Standing → Type 0) → P 0 0 (AnItem (Define taken)) → P 0 1 (AnItem (Define added)) →
    P 0 2 (AnEnd sum_block) → (k i : ℕ) (x : Standing) → standing_at sum_graph (at k i) ≡ Some x → P k i x
place_cases P a b c zero zero x e = subst (P 0 0) (same_Some _ x e) a
place_cases P a b c zero (suc zero) x e = subst (P 0 1) (same_Some _ x e) b
place_cases P a b c zero (suc (suc zero)) x e = subst (P 0 2) (same_Some _ x e) c
place_cases P a b c zero (suc (suc (suc i))) x e = absurd (none-some x e)
place_cases P a b c (suc k) i x e = absurd (none-some x e)

abbrev IsItem : (Definition → Type 0) → Standing → Type 0
IsItem P (AnItem (Define d)) = P d
IsItem P (AnItem i) = Unit {0}
IsItem P (AnEnd b) = Unit {0}

defined_cases : (P : ℕ → ℕ → Definition → Type 0) → P 0 0 taken → P 0 1 added → (k i : ℕ) (d : Definition) →
    standing_at sum_graph (at k i) ≡ Some (AnItem (Define d)) → P k i d
defined_cases P x y k i d e = place_cases (λ k i x. IsItem (P k i) x) x y tt k i (AnItem (Define d)) e

no_edge : (k to : ℕ) → IsEdge sum_graph k to → ⊥
no_edge k to h = block_cases (λ k b. IsOneOf to (targets_of b.end) → ⊥) (λ o. o) k h.0 h.1 h.2

-- ---- the graph hangs together

earlier : (n i : ℕ) → IsDefinedAt sum_graph n (at 0 i) → (j : ℕ) → i < j → IsInScope sum_graph n (at 0 j)
earlier n i d j h = inr (inl (i, h, d))

scoped : (n k i : ℕ) → Uses sum_graph n (at k i) → IsInScope sum_graph n (at k i)
scoped n k i h =
    place_cases (λ k i x. IsAmong n (terms_used x) → IsInScope sum_graph n (at k i)) (λ a. absurd a) (λ a. ⊎_elim (λ e. earlier n 0 (taken, refl, e) 1 (omega arith)) (λ a. ⊎_elim (λ e. inl (0, five, refl, e)) (λ a. absurd a) a) a) (λ a. ⊎_elim (λ e. earlier n 1 (added, refl, e) 2 (omega arith)) (λ a. absurd a) a) k i h.0 h.1 h.2

-- the place of the record of a term
abbrev own : ℕ → ℕ → ℕ → Type 0
own n k i = (k ≡ 0) × (i ≡ n) × (n < 2)

own_place : (n k i : ℕ) → IsDefinedAt sum_graph n (at k i) → own n k i
own_place n k i h = subst (λ n. own n k i) h.2 (defined_cases (λ k i d. own d.term.0 k i) (refl, refl, omega arith) (refl, refl, omega arith) k i h.0 h.1)

same_places : (k i l j : ℕ) → k ≡ l → i ≡ j → at k i ≡ at l j
same_places k i l j e f = ap (λ k. at k i) e ∙ ap (λ i. at l i) f

ready_term : (n : ℕ) → IsReady sum_graph n → n ≡ 2
ready_term n h = ready_cases (λ i d. d.term.0 ≡ n → n ≡ 2) (λ e. sym e) h.0 h.1 h.2 h.3

first_ready : (i : ℕ) (d : Definition) → slice_get sum_graph.ready i ≡ Some d → i ≡ 0
first_ready i d e = ready_cases (λ i d. i ≡ 0) refl i d e

once : HasOnce sum_graph
once = record {
  places = λ n p q a b. let x = own_place n p.block p.item a in let y = own_place n q.block q.item b in same_places p.block p.item q.block q.item (x.0 ∙ sym y.0) (x.1 ∙ sym y.1);
  ready = λ n p r a. let x = own_place n p.block p.item a in let y = ready_term n r in absurd (omega (arith, x.2, y));
  once = λ i j d e a b s. first_ready i d a ∙ sym (first_ready j e b);
}

recorded : (P : Definition → Type 0) → P taken → P added → P five → (d : Definition) → IsRecorded sum_graph d → P d
recorded P a b c d h =
    ⊎_elim (λ p. defined_cases (λ k i d. P d) a b p.0.block p.0.item d p.1) (λ r. ready_cases (λ i d. P d) c r.0 d r.1) h

made : (n k i : ℕ) → Makes sum_graph n (at k i) → n < 3
made n k i h =
    place_cases (λ k i x. IsAmong n (terms_made x) → n < 3) (λ a. ⊎_elim (λ e. omega (arith, e)) (λ n. absurd n) a) (λ a. ⊎_elim (λ e. omega (arith, e)) (λ n. absurd n) a) (λ a. absurd a) k i h.0 h.1 h.2

abbrev IsAnItemIn : Standing → Type 0
IsAnItemIn (AnItem i) = IsItemIn (sum_graph ∷ []) i
IsAnItemIn (AnEnd b) = Unit {0}

arguments : HasArguments sum_graph sum_block
arguments = record { some = λ to n o. absurd o; one = λ to n i j a b. absurd (none-some a.0 a.1); no_other = λ i m e. absurd (none-some m e) }

hangs : HangsTogether (sum_graph ∷ []) 0 sum_graph 3
hangs = record {
  first = (sum_block, refl, refl);
  parents = λ k b e. absurd (none-some b e);
  targets = λ k to h. absurd (no_edge k to h);
  inward = λ k to h. absurd (no_edge k to h);
  branches = λ k b e. block_cases (λ k b. HasTwoTargets b.end) tt k b e;
  arguments = λ k b e. block_cases (λ k b. HasArguments sum_graph b) arguments k b e;
  scoped = λ n p h. scoped n p.block p.item h;
  once = once;
  ready = λ i d e. ready_cases (λ i d. IsReadyNode d.node) tt i d e;
  named = λ d h. recorded (λ d. IsNodeIn 0 sum_graph d.node) (omega arith) tt tt d h;
  below = λ d h. recorded (λ d. d.term.0 < 3) (omega arith) (omega arith) (omega arith) d h;
  made_below = λ n q h. made n q.block q.item h;
  items = λ q i e. place_cases (λ k i x. IsAnItemIn x) tt tt tt q.block q.item (AnItem i) e;
}

-- ---- and has the form

block : IsEmittedBlock sum_block
block = record {
  items = (λ r. r, (λ r. r, tt));
  phis = (λ h. (λ e. cc, tt), (λ h. tt, tt));
  arguments = refl;
}

pub sum-emitted : IsEmittedForm (sum_graph ∷ []) 0 sum_graph 3
sum-emitted = record {
  hangs = hangs;
  shared = λ i j d e a b s. first_ready i d a ∙ sym (first_ready j e b);
  blocks = λ k b e. block_cases (λ k b. IsEmittedBlock b) block k b e;
}
