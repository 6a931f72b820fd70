-- When a graph hangs together: each number names something, each term has one definition, and edges go inward. What draws
-- graphs gives it, and what reads them asks for it.
use Rattle.std.specs.Prelude.{◌≡◌, ◌≢◌, ℕ, zero, suc, ◌<◌, ◌⊎◌, false, List, [], ◌∷◌, length, Option, Some, None, slice_get}
use Rattle.term_form.specs.declared.term.Term.{Term}
use Rattle.term_form.specs.declared.term.Root.{Root}
use Rattle.term_form.specs.declared.term.Root.TheVariants as roots
use Rattle.term_form.specs.declared.term.Node.{Node}
use Rattle.term_form.specs.declared.term.Node.TheVariants as nodes
use Rattle.term_form.specs.declared.graph.Graph.{Graph}
use Rattle.term_form.specs.declared.graph.Block.{Block}
use Rattle.term_form.specs.declared.graph.Definition.{Definition}
use Rattle.term_form.specs.declared.graph.Item.{Item}
use Rattle.term_form.specs.declared.graph.Item.TheVariants.{Define, Store, Call, Get, Put, Exit}
use Rattle.term_form.specs.declared.graph.Ending.{Ending}
use Rattle.term_form.specs.declared.graph.Ending.TheVariants.{Jump, Branch, Return, Stop}
use Rattle.term_form.specs.declared.graph.EdgeArgument.{EdgeArgument}
use Rattle.term_form.specs.Walk.{Program}
use Rattle.term_form.specs.Scope.{Place, AnItem, standing_at, Makes, IsDefinedAt, IsReady, IsScoped, IsOneOf, targets_of, parent_of, ancestor_of}

-- ---- blocks and edges

-- a block is the other, or lies in its scope
abbrev pub IsWithin : Graph → (block outer : ℕ) → Type 0
IsWithin g k outer = (n : ℕ) × (ancestor_of g n k ≡ Some outer)

-- an edge leads from one block to another
abbrev pub IsEdge : Graph → (source target : ℕ) → Type 0
IsEdge g k to = (b : Block) × (slice_get g.blocks k ≡ Some b) × IsOneOf to (targets_of b.end)

-- the parent of the block to which an edge leads is the block that it leaves, or one round it: so whenever a block is entered,
-- all blocks round it were run to their ends
abbrev pub EdgesGoInward : Graph → Type 0
EdgesGoInward g = (k to : ℕ) → IsEdge g k to → (outer : ℕ) × (parent_of g to ≡ Some outer) × IsWithin g k outer

-- the two edges of a branch lead to two blocks
abbrev pub HasTwoTargets : Ending → Type 0
HasTwoTargets (Branch term first second) = first ≢ second
HasTwoTargets (Jump to) = Unit {0}
HasTwoTargets (Return term) = Unit {0}
HasTwoTargets Stop = Unit {0}

-- ---- terms

-- a term is defined once
pub record HasOnce (g : Graph) : Type 0 where
  pub places : (t : ℕ) (p q : Place) → IsDefinedAt g t p → IsDefinedAt g t q → p ≡ q
  pub ready : (t : ℕ) (p : Place) → IsReady g t → IsDefinedAt g t p → ⊥
  pub once : (i j : ℕ) (d e : Definition) → slice_get g.ready i ≡ Some d → slice_get g.ready j ≡ Some e → d.term.0 ≡ e.term.0 → i ≡ j

-- constants and addresses of objects are ready, and nothing else is
abbrev pub IsReadyNode : Node → Type 0
IsReadyNode (nodes.Konst k) = Unit {0}
IsReadyNode (nodes.Root (roots.Global x)) = Unit {0}
IsReadyNode (nodes.Root (roots.Local x)) = Unit {0}
IsReadyNode n = ⊥

-- the root of a term is there, among so many static objects
abbrev pub IsRootIn : (statics : ℕ) → Graph → Root → Type 0
IsRootIn m g (roots.Global x) = x < m
IsRootIn m g (roots.Local x) = x < length g.locals
IsRootIn m g (roots.Param i) = i < g.parameters
IsRootIn m g roots.Got = Unit {0}
IsRootIn m g roots.Called = Unit {0}

abbrev pub IsNodeIn : (statics : ℕ) → Graph → Node → Type 0
IsNodeIn m g (nodes.Root r) = IsRootIn m g r
IsNodeIn m g n = Unit {0}

-- a record of the graph, at a place or ready
abbrev pub IsRecorded : Graph → Definition → Type 0
IsRecorded g d = ((p : Place) × (standing_at g p ≡ Some (AnItem (Define d)))) ⊎ ((i : ℕ) × (slice_get g.ready i ≡ Some d))

-- ---- phis

-- the record of a phi stands in the block
abbrev pub IsPhiOf : Graph → (block term : ℕ) → Type 0
IsPhiOf g k t = (i : ℕ) × (d : Definition) × (standing_at g (record { block = k; item = i }) ≡ Some (AnItem (Define d))) × (d.term.0 ≡ t) × (d.node ≡ nodes.Phi)

-- in one place of a list of arguments, a phi has its argument on the edge to a block
abbrev pub IsArgumentAt : List EdgeArgument → (to phi place : ℕ) → Type 0
IsArgumentAt ms to t i = (m : EdgeArgument) × (slice_get ms i ≡ Some m) × (m.to ≡ to) × (m.phi.0 ≡ t)

-- each phi of a block has one argument on each edge to it, and there are no others
pub record HasArguments (g : Graph) (b : Block) : Type 0 where
  pub some : (to t : ℕ) → IsOneOf to (targets_of b.end) → IsPhiOf g to t → (i : ℕ) × IsArgumentAt b.edges to t i
  pub one : (to t i j : ℕ) → IsArgumentAt b.edges to t i → IsArgumentAt b.edges to t j → i ≡ j
  pub no_other : (i : ℕ) (m : EdgeArgument) → slice_get b.edges i ≡ Some m → IsOneOf m.to (targets_of b.end) × IsPhiOf g m.to m.phi.0

-- ---- calls

-- a function that is there is called with as many arguments as it has parameters, and its value is taken only where it has one
abbrev pub IsCallOf : Option Graph → (arguments : ℕ) → Option Term → Type 0
IsCallOf None n called = ⊥
IsCallOf (Some f) n called = (n ≡ f.parameters) × (f.value ≡ false → called ≡ None)

abbrev pub IsItemIn : Program → Item → Type 0
IsItemIn p (Call f arguments called) = IsCallOf (slice_get p f) (length arguments) called
IsItemIn p (Define d) = Unit {0}
IsItemIn p (Store k address value) = Unit {0}
IsItemIn p (Get got) = Unit {0}
IsItemIn p (Put term) = Unit {0}
IsItemIn p (Exit term) = Unit {0}

-- ---- graphs

-- a graph of a program hangs together, beside so many static objects and with terms below a number
pub record HangsTogether (p : Program) (statics : ℕ) (g : Graph) (terms : ℕ) : Type 0 where
  -- block 0 is there and has no parent; that of any other block has a lower number
  pub first : (b : Block) × (slice_get g.blocks 0 ≡ Some b) × (b.parent ≡ None)
  pub parents : (k : ℕ) (b : Block) → slice_get g.blocks (suc k) ≡ Some b → (outer : ℕ) × (b.parent ≡ Some outer) × (outer < suc k)
  -- an edge leads to a block that is there and is not the first
  pub targets : (k to : ℕ) → IsEdge g k to → (0 < to) × (to < length g.blocks)
  pub inward : EdgesGoInward g
  pub branches : (k : ℕ) (b : Block) → slice_get g.blocks k ≡ Some b → HasTwoTargets b.end
  pub arguments : (k : ℕ) (b : Block) → slice_get g.blocks k ≡ Some b → HasArguments g b
  -- each term that is used is in scope there, so it has a record; it has one alone
  pub scoped : IsScoped g
  pub once : HasOnce g
  pub ready : (i : ℕ) (d : Definition) → slice_get g.ready i ≡ Some d → IsReadyNode d.node
  pub named : (d : Definition) → IsRecorded g d → IsNodeIn statics g d.node
  pub below : (d : Definition) → IsRecorded g d → d.term.0 < terms
  pub made_below : (t : ℕ) (q : Place) → Makes g t q → t < terms
  pub items : (q : Place) (i : Item) → standing_at g q ≡ Some (AnItem i) → IsItemIn p i
