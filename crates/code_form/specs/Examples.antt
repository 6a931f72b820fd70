-- Functions over terms, over slots and over registers that do what their graphs do, and one that loses a word.
use Rattle.std.specs.Prelude.{◌≡◌, ℕ, zero, suc, Bool, ℤ, pos, negsuc, true, false, List, [], ◌∷◌, ◌++◌, Option, Some, None}
use Rattle.std.specs.Option.{option_map}
use Rattle.word_ops.specs.declared.operation.Op.TheVariants as op
use Rattle.word_ops.specs.declared.operation.Width.TheVariants as widths
use Rattle.term_form.specs.declared.term.Root.TheVariants as roots
use Rattle.term_form.specs.declared.term.Node.{Node}
use Rattle.term_form.specs.declared.term.Node.TheVariants as nodes
use Rattle.term_form.specs.declared.listing.StoreWidth.TheVariants as stores
use Rattle.term_form.specs.declared.graph.Graph.{Graph}
use Rattle.term_form.specs.declared.graph.Block.{Block}
use Rattle.term_form.specs.declared.graph.Definition.{Definition}
use Rattle.term_form.specs.declared.graph.Item.{Item}
use Rattle.term_form.specs.declared.graph.Item.TheVariants.{Define}
use Rattle.term_form.specs.declared.graph.Ending.TheVariants.{Jump, Branch, Return}
use Rattle.term_form.specs.declared.graph.EdgeArgument.{EdgeArgument}
use Rattle.term_form.specs.Examples.{t, anything, block, phi_takes}
use Rattle.rv_table.specs.declared.row.Row.TheVariants as rows
use Rattle.code_form.specs.declared.code.Operand.TheVariants.{Of, Fixed}
use Rattle.code_form.specs.declared.code.Loose.{Loose}
use Rattle.code_form.specs.declared.code.Piece.{Piece}
use Rattle.code_form.specs.declared.code.Code.{Code}
use Rattle.code_form.specs.declared.code.Assigned.{Assigned}
use Rattle.code_form.specs.Registers.{stack_pointer}
use Rattle.code_form.specs.Patterns.{on_immediate}
use Rattle.code_form.specs.Instructions.{load, store, set, move_to, jump_to, branch_to, return_to_link}
use Rattle.code_form.specs.Contents.{Held, Unknown, Value, Link, Contents, with_held, with_value, behind_all, behind_jump}
use Rattle.code_form.specs.Emitted.{IsEmittedForm}
use Rattle.code_form.specs.Selected.{IsSelected}
use Rattle.code_form.specs.Assigned.{Known, contents_of, setting_of, brings_all, IsAssigned}

-- ---- short forms

abbrev pub define : ℕ → Node → Definition
define n node' = record { term = t n; node = node'; facts = anything }

-- a slot is loaded, and a register is kept in one
abbrev pub get : (register : ℕ) → (slot : ℤ) → Loose
get r o = load widths.Word (Fixed r) stack_pointer o

abbrev pub put : (register : ℕ) → (slot : ℤ) → Loose
put r o = store stores.Word stack_pointer (Fixed r) o

abbrev pub copy : (to from : ℕ) → Loose
copy d s = move_to (Fixed d) (Fixed s)

abbrev pub add_to : (to from : ℕ) → ℤ → Loose
add_to d s k = on_immediate rows.Addi (Fixed d) (Fixed s) k

abbrev pub piece : (item start : ℕ) → List Loose → Piece
piece n k ws = record { item = n; start = k; words = ws }

abbrev pub known : (place : ℕ) → Held → Known
known p h = record { place = p; held = h }

-- ---- over slots: int f(int a) { return a + 5; }

abbrev pub sum_block : Block
sum_block = block None (Define (define 0 (nodes.Root (roots.Param 0))) ∷ Define (define 1 (nodes.Operate op.Adds (t 0) (t 2))) ∷ []) (Return (Some (t 1))) []

abbrev pub sum_graph : Graph
sum_graph = record { parameters = 1; value = true; locals = []; ready = define 2 (nodes.Konst 5) ∷ []; blocks = sum_block ∷ [] }

abbrev pub HasForm : Type 0
HasForm = IsEmittedForm (sum_graph ∷ []) 0 sum_graph 3

abbrev pub takes : Piece
takes = piece 0 2 (get 5 (pos 16) ∷ put 5 (pos 0) ∷ [])

abbrev pub adds : Piece
adds = piece 1 1 (get 5 (pos 0) ∷ add_to 7 5 (pos 5) ∷ put 7 (pos 4) ∷ [])

abbrev pub returns : Piece
returns = piece 2 3 (get 10 (pos 4) ∷ get 1 (pos 12) ∷ add_to 2 2 (pos 16) ∷ return_to_link ∷ [])

abbrev pub sum_of_slots : Assigned
sum_of_slots = record { emitted = record { graph = sum_graph }; places = 32 ∷ 36 ∷ 0 ∷ []; frame = 16; blocks = (takes ∷ adds ∷ returns ∷ []) ∷ [] }

abbrev pub Slots : Type 0
Slots = IsAssigned sum_of_slots

-- ---- the same over terms

abbrev pub sum_of_terms : Code
sum_of_terms = record {
  emitted = record { graph = sum_graph };
  blocks =
      (piece 0 0 []
      ∷ piece 1 0 (on_immediate rows.Addi (Of (t 1)) (Of (t 0)) (pos 5) ∷ [])
      ∷ piece 2 1 (move_to (Fixed 10) (Of (t 1)) ∷ return_to_link ∷ [])
      ∷ [])
      ∷ [];
}

abbrev pub Terms : Type 0
Terms = IsSelected sum_of_terms

-- ---- over registers: two phis change places in each iteration, and a third counts down from 3

abbrev pub phi : ℕ → Item
phi n = Define (define n nodes.Phi)

abbrev pub into_loop : List EdgeArgument
into_loop = phi_takes 1 4 0 ∷ phi_takes 1 5 1 ∷ phi_takes 1 6 2 ∷ []

-- on the edge that leads back
abbrev pub exchange : List EdgeArgument
exchange = phi_takes 1 4 5 ∷ phi_takes 1 5 4 ∷ phi_takes 1 6 7 ∷ []

abbrev pub swap_graph : Graph
swap_graph = record {
  parameters = 0;
  value = true;
  locals = [];
  ready = define 0 (nodes.Konst 1) ∷ define 1 (nodes.Konst 2) ∷ define 2 (nodes.Konst 3) ∷ [];
  blocks =
      block None [] (Jump 1) into_loop
      ∷ block (Some 0) (phi 4 ∷ phi 5 ∷ phi 6 ∷ []) (Branch (t 6) 2 3) []
      ∷ block (Some 1) (Define (define 7 (nodes.Operate op.Subs (t 6) (t 0))) ∷ []) (Jump 1) exchange
      ∷ block (Some 1) [] (Return (Some (t 4))) []
      ∷ [];
}

-- x8 and x9 change places through x30
abbrev pub moves : List Loose
moves = copy 30 8 ∷ copy 8 9 ∷ copy 9 30 ∷ copy 11 12 ∷ []

abbrev pub sets : Piece
sets = piece 0 3 (set 8 (pos 1) ∷ set 9 (pos 2) ∷ set 11 (pos 3) ∷ jump_to 1 ∷ [])

abbrev pub branches : Piece
branches = piece 3 0 (branch_to (Fixed 11) 2 ∷ jump_to 3 ∷ [])

abbrev pub subtracts : Piece
subtracts = piece 0 0 (add_to 12 11 (negsuc 0) ∷ [])

abbrev pub swaps : Piece
swaps = piece 1 4 (moves ++ jump_to 1 ∷ [])

abbrev pub gives_back : Piece
gives_back = piece 0 3 (copy 10 8 ∷ get 1 (pos 4) ∷ add_to 2 2 (pos 8) ∷ return_to_link ∷ [])

abbrev pub swapped : Assigned
swapped = record {
  emitted = record { graph = swap_graph };
  places = 0 ∷ 0 ∷ 0 ∷ 0 ∷ 8 ∷ 9 ∷ 11 ∷ 12 ∷ [];
  frame = 8;
  blocks =
      (sets ∷ [])
      ∷ (piece 0 0 [] ∷ piece 1 0 [] ∷ piece 2 0 [] ∷ branches ∷ [])
      ∷ (subtracts ∷ swaps ∷ [])
      ∷ (gives_back ∷ [])
      ∷ [];
}

abbrev pub Swaps : Type 0
Swaps = IsAssigned swapped

-- what is known as the blocks begin: of the first the return address, of the others the phis as well
abbrev pub phis_known : List Known
phis_known = known 36 Link ∷ known 8 (Value 4) ∷ known 9 (Value 5) ∷ known 11 (Value 6) ∷ []

abbrev pub entries : (block : ℕ) → List Known
entries zero = known 36 Link ∷ []
entries (suc k) = phis_known

-- behind the subtraction
abbrev pub counted_down : Contents
counted_down = with_value (with_held (contents_of phis_known) 30 Unknown) 12 7

-- x8 takes what x9 has, and then x9 what x8 has
abbrev pub wrong_moves : List Loose
wrong_moves = copy 8 9 ∷ copy 9 8 ∷ copy 11 12 ∷ []

-- whether the edge that leads back brings the block its phis behind these moves
abbrev pub exchanges : List Loose → Option Bool
exchanges ms = option_map (λ c. brings_all (setting_of swapped) (behind_jump c) exchange 1 phis_known) (behind_all (setting_of swapped) counted_down ms)

abbrev pub LosesSwap : Type 0
LosesSwap = (exchanges moves ≡ Some true) × (exchanges wrong_moves ≡ Some false)

-- where a term gets a new value, a place that had the one before has it no more
abbrev pub Forgets : Type 0
Forgets = with_value (with_held (contents_of phis_known) 9 (Value 7)) 12 7 9 ≡ Unknown
