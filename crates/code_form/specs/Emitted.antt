-- When a graph has the form from which code is selected: it hangs together, and its records stand where their words are made.
use Rattle.std.specs.Prelude.{◌≡◌, ◌≢◌, ℕ, List, [], ◌∷◌, Some, None, slice_get}
use Rattle.term_form.specs.declared.term.Term.{Term}
use Rattle.term_form.specs.declared.term.Root.TheVariants as roots
use Rattle.term_form.specs.declared.term.Node.{Node}
use Rattle.term_form.specs.declared.term.Node.TheVariants as nodes
use Rattle.term_form.specs.declared.graph.Graph.{Graph}
use Rattle.term_form.specs.declared.graph.Block.{Block}
use Rattle.term_form.specs.declared.graph.Definition.{Definition}
use Rattle.term_form.specs.declared.graph.Item.{Item}
use Rattle.term_form.specs.declared.graph.Item.TheVariants.{Define, Store, Call, Get, Put, Exit}
use Rattle.term_form.specs.declared.graph.Ending.{Ending}
use Rattle.term_form.specs.declared.graph.Ending.TheVariants.{Jump, Branch, Return, Stop}
use Rattle.term_form.specs.declared.graph.EdgeArgument.{EdgeArgument}
use Rattle.term_form.specs.Walk.{Program}
use Rattle.term_form.specs.Graphs.{IsReadyNode, HangsTogether}

-- ---- items

-- the items begin with the record of a term with this node
abbrev pub BeginsWith : List Item → Term → Node → Type 0
BeginsWith (Define d ∷ is) t n = (d.term ≡ t) × (d.node ≡ n)
BeginsWith is t n = ⊥

-- what is ready is no item, and the record of a byte taken or of the value of a call stands directly behind its effect
abbrev pub IsItemBefore : Item → List Item → Type 0
IsItemBefore (Define d) is = IsReadyNode d.node → ⊥
IsItemBefore (Store k address value) is = Unit {0}
IsItemBefore (Call f arguments (Some t)) is = BeginsWith is t (nodes.Root roots.Called)
IsItemBefore (Call f arguments None) is = Unit {0}
IsItemBefore (Get t) is = BeginsWith is t (nodes.Root roots.Got)
IsItemBefore (Put t) is = Unit {0}
IsItemBefore (Exit t) is = Unit {0}

abbrev pub AreItems : List Item → Type 0
AreItems [] = Unit {0}
AreItems (i ∷ is) = IsItemBefore i is × AreItems is

-- ---- phis and edges

abbrev pub IsNoPhi : Item → Type 0
IsNoPhi (Define d) = d.node ≢ nodes.Phi
IsNoPhi i = Unit {0}

abbrev pub AreNoPhis : List Item → Type 0
AreNoPhis [] = Unit {0}
AreNoPhis (i ∷ is) = IsNoPhi i × AreNoPhis is

-- phis come first: behind an item that is none there is none
abbrev pub ArePhisFirst : List Item → Type 0
ArePhisFirst [] = Unit {0}
ArePhisFirst (i ∷ is) = (IsNoPhi i → AreNoPhis is) × ArePhisFirst is

-- phis have their arguments on the edges of jumps, where moves can stand; an edge of a branch has none
abbrev pub HasArgumentsOnJumps : Ending → List EdgeArgument → Type 0
HasArgumentsOnJumps (Jump to) ms = Unit {0}
HasArgumentsOnJumps (Branch t first second) ms = ms ≡ []
HasArgumentsOnJumps (Return t) ms = ms ≡ []
HasArgumentsOnJumps Stop ms = ms ≡ []

-- ---- graphs

-- a block of such a graph
pub record IsEmittedBlock (b : Block) : Type 0 where
  pub items : AreItems b.items
  pub phis : ArePhisFirst b.items
  pub arguments : HasArgumentsOnJumps b.end b.edges

-- a graph of a program has the form, beside so many static objects and with terms below a number; each constant and each address
-- of an object is one ready term
pub record IsEmittedForm (p : Program) (statics : ℕ) (g : Graph) (terms : ℕ) : Type 0 where
  pub hangs : HangsTogether p statics g terms
  pub shared : (i j : ℕ) (d e : Definition) → slice_get g.ready i ≡ Some d → slice_get g.ready j ≡ Some e → d.node ≡ e.node → i ≡ j
  pub blocks : (k : ℕ) (b : Block) → slice_get g.blocks k ≡ Some b → IsEmittedBlock b
