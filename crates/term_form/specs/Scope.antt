-- Scope and liveness of the terms of a graph (the usual notions of SSA form, read off the tree of blocks and paths of places).
use Rattle.std.specs.Prelude.{◌≡◌, ℕ, zero, suc, ◌+◌, ◌<◌, ◌⊎◌, List, [], ◌∷◌, ◌++◌, map, Option, Some, None, slice_get}
use Rattle.std.specs.Option.{option_and_then}
use Rattle.term_form.specs.declared.term.Term.{Term}
use Rattle.term_form.specs.declared.term.Node.{Node}
use Rattle.term_form.specs.declared.term.Node.TheVariants as nodes
use Rattle.term_form.specs.declared.graph.Graph.{Graph}
use Rattle.term_form.specs.declared.graph.Block.{Block}
use Rattle.term_form.specs.declared.graph.Definition.{Definition}
use Rattle.term_form.specs.declared.graph.Item.{Item}
use Rattle.term_form.specs.declared.graph.Item.TheVariants.{Define, Store, Call, Get, Put, Exit}
use Rattle.term_form.specs.declared.graph.Ending.{Ending}
use Rattle.term_form.specs.declared.graph.Ending.TheVariants.{Jump, Branch, Return, Stop}

-- ---- places

-- an item of a block by its number, or the end of the block with the number behind them
pub record Place : Type 0 where
  pub block : ℕ
  pub item : ℕ

-- what stands at a place
pub data Standing : Type 0 where
  AnItem : Item → Standing
  AnEnd : Block → Standing

abbrev pub standing_from : Block → List Item → ℕ → Option Standing
standing_from b [] zero = Some (AnEnd b)
standing_from b [] (suc n) = None
standing_from b (i ∷ rest) zero = Some (AnItem i)
standing_from b (i ∷ rest) (suc n) = standing_from b rest n

abbrev pub standing_at : Graph → Place → Option Standing
standing_at g p = option_and_then (λ b. standing_from b b.items p.item) (slice_get g.blocks p.block)

-- ---- uses

abbrev pub term_or_none : Option Term → List Term
term_or_none None = []
term_or_none (Some t) = t ∷ []

-- the operands of a node
abbrev pub terms_of_node : Node → List Term
terms_of_node (nodes.Konst k) = []
terms_of_node (nodes.Root r) = []
terms_of_node (nodes.Operate op a b) = a ∷ b ∷ []
terms_of_node (nodes.Load k p) = p ∷ []
terms_of_node nodes.Phi = []

-- the terms that an item uses
abbrev pub terms_of_item : Item → List Term
terms_of_item (Define d) = terms_of_node d.node
terms_of_item (Store k address value) = address ∷ value ∷ []
terms_of_item (Call f arguments called) = arguments
terms_of_item (Get got) = []
terms_of_item (Put term) = term ∷ []
terms_of_item (Exit term) = term ∷ []

abbrev pub terms_of_ending : Ending → List Term
terms_of_ending (Jump to) = []
terms_of_ending (Branch term first second) = term ∷ []
terms_of_ending (Return term) = term_or_none term
terms_of_ending Stop = []

-- a phi takes its argument at the end of the block that the edge leaves
abbrev pub terms_used : Standing → List Term
terms_used (AnItem i) = terms_of_item i
terms_used (AnEnd b) = terms_of_ending b.end ++ map (λ m. m.argument) b.edges

-- the terms that an item gives values
abbrev pub terms_made : Standing → List Term
terms_made (AnItem (Define d)) = d.term ∷ []
terms_made (AnItem (Store k address value)) = []
terms_made (AnItem (Call f arguments called)) = term_or_none called
terms_made (AnItem (Get got)) = got ∷ []
terms_made (AnItem (Put term)) = []
terms_made (AnItem (Exit term)) = []
terms_made (AnEnd b) = []

abbrev pub IsAmong : (term : ℕ) → List Term → Type 0
IsAmong t [] = ⊥
IsAmong t (x ∷ xs) = (x.0 ≡ t) ⊎ IsAmong t xs

-- what stands at the place uses the term
abbrev pub Uses : Graph → (term : ℕ) → Place → Type 0
Uses g t p = (x : Standing) × (standing_at g p ≡ Some x) × IsAmong t (terms_used x)

-- what stands at the place gives the term its value
abbrev pub Makes : Graph → (term : ℕ) → Place → Type 0
Makes g t p = (x : Standing) × (standing_at g p ≡ Some x) × IsAmong t (terms_made x)

-- ---- scope

-- the block in whose scope a block lies
abbrev pub parent_of : Graph → ℕ → Option ℕ
parent_of g b = option_and_then (λ k. k.parent) (slice_get g.blocks b)

-- the block so many steps up in the tree of blocks
abbrev pub ancestor_of : Graph → (steps : ℕ) → ℕ → Option ℕ
ancestor_of g zero b = Some b
ancestor_of g (suc n) b = option_and_then (λ k. ancestor_of g n k) (parent_of g b)

-- the record of a term stands at a place
abbrev pub IsDefinedAt : Graph → (term : ℕ) → Place → Type 0
IsDefinedAt g t p = (d : Definition) × (standing_at g p ≡ Some (AnItem (Define d))) × (d.term.0 ≡ t)

-- the term belongs to no block
abbrev pub IsReady : Graph → (term : ℕ) → Type 0
IsReady g t = (i : ℕ) × (d : Definition) × (slice_get g.ready i ≡ Some d) × (d.term.0 ≡ t)

-- the record of the term stands earlier in the same block
abbrev pub IsEarlier : Graph → (term : ℕ) → Place → Type 0
IsEarlier g t p = (i : ℕ) × (i < p.item) × IsDefinedAt g t (record { block = p.block; item = i })

-- the record of the term stands in an ancestor of the block
abbrev pub IsAbove : Graph → (term : ℕ) → Place → Type 0
IsAbove g t p = (n i b : ℕ) × (ancestor_of g (n + 1) p.block ≡ Some b) × IsDefinedAt g t (record { block = b; item = i })

-- the term may be used at the place
abbrev pub IsInScope : Graph → (term : ℕ) → Place → Type 0
IsInScope g t p = IsReady g t ⊎ (IsEarlier g t p ⊎ IsAbove g t p)

-- each use is of a term that is in scope there
abbrev pub IsScoped : Graph → Type 0
IsScoped g = (t : ℕ) (p : Place) → Uses g t p → IsInScope g t p

-- ---- liveness

-- the blocks to which an end leads
abbrev pub targets_of : Ending → List ℕ
targets_of (Jump to) = to ∷ []
targets_of (Branch term first second) = first ∷ second ∷ []
targets_of (Return term) = []
targets_of Stop = []

abbrev pub IsOneOf : ℕ → List ℕ → Type 0
IsOneOf n [] = ⊥
IsOneOf n (x ∷ xs) = (x ≡ n) ⊎ IsOneOf n xs

-- behind an item comes the next place of its block, behind an end the first place of a block to which it leads
abbrev pub ComesBehind : Standing → (p q : Place) → Type 0
ComesBehind (AnItem i) p q = (q.block ≡ p.block) × (q.item ≡ p.item + 1)
ComesBehind (AnEnd b) p q = IsOneOf q.block (targets_of b.end) × (q.item ≡ 0)

abbrev pub Follows : Graph → (p q : Place) → Type 0
Follows g p q = (x : Standing) × (standing_at g p ≡ Some x) × ComesBehind x p q

-- a path from a place on, through the places of the list in order, on which the term is not made before it is used at the last
abbrev pub LeadsToUse : Graph → (term : ℕ) → Place → List Place → Type 0
LeadsToUse g t p [] = Uses g t p
LeadsToUse g t p (q ∷ path) = (Makes g t p → ⊥) × Follows g p q × LeadsToUse g t q path

-- some path from the place uses the term before it is made again; ready terms are not counted
abbrev pub IsLive : Graph → (term : ℕ) → Place → Type 0
IsLive g t p = (IsReady g t → ⊥) × ((path : List Place) × LeadsToUse g t p path)
