-- When the words of functions over registers and slots lie in a text, piece by piece.
use Rattle.std.specs.Prelude.{◌≡◌, ℕ, ◌+◌, ◌*◌, ◌<◌, ◌≤◌, Bool, true, false, List, [], ◌∷◌, length, take, drop, Some, slice_get}
use Rattle.term_form.specs.declared.graph.Block.{Block}
use Rattle.term_form.specs.declared.graph.Item.{Item}
use Rattle.term_form.specs.declared.graph.Item.TheVariants.{Call}
use Rattle.rv_table.specs.declared.instruction.Instr.{Instr}
use Rattle.rv_table.specs.Instruction.{Valid, encode_of}
use Rattle.rv_machine.specs.Step.{fetched}
use Rattle.code_form.specs.declared.code.Loose.{Loose}
use Rattle.code_form.specs.declared.code.Piece.{Piece}
use Rattle.code_form.specs.declared.code.Assigned.{Assigned}
use Rattle.code_form.specs.Instructions.{entry_words}
use Rattle.code_form.specs.Frames.{link_slot}
use Rattle.code_form.specs.Contents.{Setting}
use Rattle.code_form.specs.Assigned.{setting_of}
use Rattle.laid_program.specs.Addresses.{Addresses, target, IsForm}

-- valid instructions stand one behind the other from an address on
abbrev pub Stand : (text : List ℕ) → (pc : ℕ) → List Instr → Type 0
Stand text pc [] = Unit {0}
Stand text pc (w ∷ ws) = Valid w × (fetched text pc ≡ Some (encode_of w)) × Stand text (pc + 4) ws

-- the forms of instructions of a function lie one behind the other from an address up to another
abbrev pub Lie : (text : List ℕ) → Addresses → Setting → (function : ℕ) → (pc : ℕ) → List Loose → (next : ℕ) → Type 0
Lie text a s f pc [] next = next ≡ pc
Lie text a s f pc (i ∷ is) next = (ws : List Instr) × IsForm a s pc i (target a f i) ws × Stand text pc ws × Lie text a s f (pc + 4 * length ws) is next

-- ---- items and ends

abbrev pub is_call_item : Item → Bool
is_call_item (Call f arguments called) = true
is_call_item i = false

-- an item lies here: so many of its words in front of its own address, and the others from there on; of a call the word there is
-- the last one of its jump
abbrev pub LiesItem : (text : List ℕ) → Addresses → Setting → (f k n : ℕ) → Piece → (is_call : Bool) → Type 0
LiesItem text a s f k n p false =
    Lie text a s f (a.item f k n) (take p.start p.words) (a.own f k n) × Lie text a s f (a.own f k n) (drop p.start p.words) (a.item f k (n + 1))
LiesItem text a s f k n p true =
    Lie text a s f (a.item f k n) (take (p.start + 1) p.words) (a.own f k n + 4) × Lie text a s f (a.own f k n + 4) (drop (p.start + 1) p.words) (a.item f k (n + 1))

-- an end lies here, and its last word is its own
abbrev pub LiesEnd : (text : List ℕ) → Addresses → Setting → (f k n : ℕ) → Piece → Type 0
LiesEnd text a s f k n p = Lie text a s f (a.item f k n) p.words (a.own f k n + 4) × (a.item f k (n + 1) ≡ a.own f k n + 4)

abbrev pub LieItems : (text : List ℕ) → Addresses → Setting → (f k n : ℕ) → List Item → List Piece → Type 0
LieItems text a s f k n [] (p ∷ []) = LiesEnd text a s f k n p
LieItems text a s f k n (i ∷ is) (p ∷ ps) = LiesItem text a s f k n p (is_call_item i) × LieItems text a s f k (n + 1) is ps
LieItems text a s f k n is ps = ⊥

-- ---- functions

-- behind the last word of a block
abbrev pub end_of_block : Addresses → (function block : ℕ) → Block → ℕ
end_of_block a f k b = a.item f k (length b.items + 1)

-- a function lies here: what takes its frame, and its blocks, of which each of a greater number lies behind
pub record LiesFunction (text : List ℕ) (a : Addresses) (f : ℕ) (g : Assigned) : Type 0 where
  pub entry : Lie text a (setting_of g) f (a.entry f) (entry_words g.frame (link_slot g.frame g.emitted.graph.locals)) (a.item f 0 0)
  pub blocks : (k : ℕ) (b : Block) (ps : List Piece) → slice_get g.emitted.graph.blocks k ≡ Some b → slice_get g.blocks k ≡ Some ps → LieItems text a (setting_of g) f k 0 b.items ps
  pub order : (j k : ℕ) (b : Block) → slice_get g.emitted.graph.blocks j ≡ Some b → j < k → k < length g.emitted.graph.blocks → end_of_block a f j b ≤ a.item f k 0
