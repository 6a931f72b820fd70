-- Closed walks: four programs whose outcomes are computed from the definition.
use Rattle.std.specs.Prelude.{◌≡◌, ℕ, ◌+◌, ◌*◌, ◌-◌, ◌^◌, pos, negsuc, true, List, [], ◌∷◌, length, replicate, Option, Some, None}
use Rattle.word_ops.specs.declared.operation.Op.{Op}
use Rattle.word_ops.specs.declared.operation.Op.TheVariants as op
use Rattle.word_ops.specs.declared.operation.Width.TheVariants as width
use Rattle.word_ops.specs.Run.{Exit as Exits, Deep, More}
use Rattle.word_ops.specs.Outcome.{Outcome, outcome_of, start}
use Rattle.term_form.specs.declared.term.Term.{Term}
use Rattle.term_form.specs.declared.term.Root.TheVariants as roots
use Rattle.term_form.specs.declared.term.Node.{Node}
use Rattle.term_form.specs.declared.term.Node.TheVariants as nodes
use Rattle.term_form.specs.declared.facts.Facts.{Facts}
use Rattle.term_form.specs.declared.listing.StoreWidth.TheVariants as stored
use Rattle.term_form.specs.declared.graph.Graph.{Graph}
use Rattle.term_form.specs.declared.graph.Block.{Block}
use Rattle.term_form.specs.declared.graph.Item.{Item}
use Rattle.term_form.specs.declared.graph.Item.TheVariants.{Define, Store, Call, Get, Put}
use Rattle.term_form.specs.declared.graph.Ending.{Ending}
use Rattle.term_form.specs.declared.graph.Ending.TheVariants.{Jump, Branch, Return}
use Rattle.term_form.specs.declared.graph.EdgeArgument.{EdgeArgument}
use Rattle.term_form.specs.Walk.{Program, Layout, walk_of_program}

-- ---- short forms

abbrev pub t : ℕ → Term
t n = record { 0 = n }

abbrev pub anything : Facts
anything = record { low = negsuc (2 ^ 31 - 1); high = pos (2 ^ 31 - 1); least = 0; most = 2 ^ 32 - 1; zeros = 0; ones = 0; modulus = 1; rest = 0 }

abbrev pub define : ℕ → Node → Item
define n node = Define (record { term = t n; node = node; facts = anything })

abbrev pub konst : ℕ → ℕ → Item
konst n word = define n (nodes.Konst word)

abbrev pub operate : ℕ → Op → ℕ → ℕ → Item
operate n o a b = define n (nodes.Operate o (t a) (t b))

abbrev pub block : Option ℕ → List Item → Ending → List EdgeArgument → Block
block parent items end edges = record { parent = parent; items = items; end = end; edges = edges }

abbrev pub phi_takes : (to phi argument : ℕ) → EdgeArgument
phi_takes to phi argument = record { to = to; phi = t phi; argument = t argument }

abbrev pub graph_of : List Block → Graph
graph_of blocks = record { parameters = 0; value = true; locals = []; ready = []; blocks = blocks }

-- activations lie one above the other, each object of one 32 bytes above the one before
abbrev pub layout : Layout
layout functions object = 4096 * length functions + 32 * object

-- the outcome with enough steps for all of the programs below
abbrev pub outcome : Program → (depth : ℕ) → (input : List ℕ) → (clock : ℕ) → Option Outcome
outcome p depth input clock = outcome_of input clock (walk_of_program p layout 0 depth [] (replicate 60 0) (start input clock))

-- ---- a branch: a byte is taken; where it is 0 or the input is at its end, this is put out, else that

abbrev pub branching : Program
branching = graph_of
    (block None (Get (t 0) ∷ define 0 (nodes.Root roots.Got) ∷ konst 1 0 ∷ operate 2 op.Lts 1 0 ∷ []) (Branch (t 2) 1 2) []
    ∷ block (Some 0) (konst 3 97 ∷ Put (t 3) ∷ []) (Jump 3) (phi_takes 3 5 0 ∷ [])
    ∷ block (Some 0) (konst 4 98 ∷ Put (t 4) ∷ []) (Jump 3) (phi_takes 3 5 1 ∷ [])
    ∷ block (Some 0) (define 5 nodes.Phi ∷ []) (Return (Some (t 5))) []
    ∷ []) ∷ []

-- a byte of 7 puts 97 out and ends with 7; a tick for the byte taken and one for the byte put
abbrev pub TakesFirst : Type 0
TakesFirst = outcome branching 1 (7 ∷ []) 5 ≡ Some (record { end = Exits 7; output = 97 ∷ []; ticks = 2; taken = 1 })

-- at its end the input gives -1
abbrev pub TakesSecond : Type 0
TakesSecond = outcome branching 1 [] 5 ≡ Some (record { end = Exits 0; output = 98 ∷ []; ticks = 2; taken = 0 })

-- ---- a loop: two phis change places in each iteration, a third counts down from 3

abbrev pub swapping : Program
swapping = graph_of
    (block None (konst 0 1 ∷ konst 1 2 ∷ konst 2 3 ∷ konst 3 0 ∷ []) (Jump 1) (phi_takes 1 4 0 ∷ phi_takes 1 5 1 ∷ phi_takes 1 6 2 ∷ [])
    ∷ block (Some 0) (define 4 nodes.Phi ∷ define 5 nodes.Phi ∷ define 6 nodes.Phi ∷ []) (Branch (t 6) 2 3) []
    ∷ block (Some 1) (Put (t 4) ∷ operate 7 op.Subs 6 0 ∷ []) (Jump 1) (phi_takes 1 4 5 ∷ phi_takes 1 5 4 ∷ phi_takes 1 6 7 ∷ [])
    ∷ block (Some 1) [] (Return (Some (t 4))) []
    ∷ []) ∷ []

-- 1, 2 and 1 are put out, and 2 is given back; three ticks for the bytes and three for the edges that lead back
abbrev pub Swaps : Type 0
Swaps = outcome swapping 1 [] 9 ≡ Some (record { end = Exits 2; output = 1 ∷ 2 ∷ 1 ∷ []; ticks = 6; taken = 0 })

-- with three ticks the walk ends at the second edge back: 1 and 2 are out, and a fourth tick is due
abbrev pub RunsOut : Type 0
RunsOut = outcome swapping 1 [] 3 ≡ Some (record { end = More; output = 1 ∷ 2 ∷ []; ticks = 3; taken = 0 })

-- ---- a call: the function 1 adds up the numbers from its argument down by calling itself, through an object of its own

abbrev pub adding : Program
adding =
    graph_of (block None (konst 0 4 ∷ Call 1 (t 0 ∷ []) (Some (t 1)) ∷ define 1 (nodes.Root roots.Called) ∷ []) (Return (Some (t 1))) [] ∷ [])
    ∷ record {
      parameters = 1;
      value = true;
      locals = 4 ∷ [];
      ready = record { term = t 9; node = nodes.Root (roots.Local 0); facts = anything } ∷ [];
      blocks =
          block None (define 0 (nodes.Root (roots.Param 0)) ∷ []) (Branch (t 0) 1 2) []
          ∷ block (Some 0) (Store stored.Word (t 9) (t 0) ∷ konst 1 1 ∷ operate 2 op.Subs 0 1 ∷ Call 1 (t 2 ∷ []) (Some (t 3)) ∷ define 4 (nodes.Load width.Word (t 9)) ∷ operate 5 op.Adds 3 4 ∷ []) (Return (Some (t 5))) []
          ∷ block (Some 0) [] (Return (Some (t 0))) []
          ∷ [];
    }
    ∷ []

-- five calls, each with its tick; they nest to the depth 6 with that of main
abbrev pub Adds : Type 0
Adds = outcome adding 6 [] 5 ≡ Some (record { end = Exits 10; output = []; ticks = 5; taken = 0 })

-- at the depth 5 the fifth call is too deep; it has taken its tick
abbrev pub GoesTooDeep : Type 0
GoesTooDeep = outcome adding 5 [] 5 ≡ Some (record { end = Deep; output = []; ticks = 5; taken = 0 })

-- ---- a load of which the cells say half: the low byte was stored, the others are told by the choice

abbrev pub reading : Program
reading = record {
  parameters = 0;
  value = true;
  locals = 4 ∷ [];
  ready = [];
  blocks =
      block None (define 0 (nodes.Root (roots.Local 0)) ∷ konst 1 65 ∷ Store stored.Byte (t 0) (t 1) ∷ define 2 (nodes.Load width.Word (t 0)) ∷ konst 3 8 ∷ operate 4 op.Shru 2 3 ∷ Put (t 2) ∷ []) (Return (Some (t 4))) [] ∷ [];
} ∷ []

-- the fourth step has the choice 256 * 7 + 9, of which the 9 gives way to the byte that is there
abbrev pub Chooses : Type 0
Chooses = outcome_of [] 1 (walk_of_program reading layout 0 1 [] (0 ∷ 0 ∷ 0 ∷ (256 * 7 + 9) ∷ 0 ∷ 0 ∷ 0 ∷ 0 ∷ []) (start [] 1)) ≡ Some (record { end = Exits 7; output = 65 ∷ []; ticks = 1; taken = 0 })
