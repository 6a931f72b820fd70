-- When a moment of a walk and one of the audited machine belong together: the machine's slots and registers hold the words that
-- they are known to hold by name, and its account has the words of terms.
use Rattle.std.specs.Prelude.{◌≡◌, ℕ, ◌+◌, ◌*◌, ◌/◌, ◌%◌, ◌^◌, ◌<◌, List, [], ◌∷◌, drop, Some, slice_get}
use Rattle.word_ops.specs.Store.{Value, Store as Objects}
use Rattle.word_ops.specs.Addresses.{word_of_value}
use Rattle.term_form.specs.declared.graph.Block.{Block}
use Rattle.term_form.specs.declared.graph.Definition.{Definition}
use Rattle.term_form.specs.Walk.{Values, Activation as Walking}
use Rattle.rv_machine.specs.State.{State, register_of}
use Rattle.code_form.specs.declared.code.Assigned.{Assigned}
use Rattle.code_form.specs.declared.code.Piece.{Piece}
use Rattle.code_form.specs.Contents.{Held, Unknown, Word, Frame, Upper, Object, Value as ValueOf, Argument, Link, Contents}
use Rattle.code_form.specs.Assigned.{Entries, setting_of, DoesRest}
use Rattle.audited_machine.specs.Functions.{Records}
use Rattle.audited_machine.specs.Account.{Words, Activation}
use Rattle.laid_program.specs.Memory.{slot_word}

-- what a name of a word stands for in an activation
pub record Meaning : Type 0 where
  pub store : Objects
  pub values : Values
  pub arguments : List Value
  pub pointer : ℕ
  pub object : (number : ℕ) → ℕ
  pub link : ℕ

abbrev pub Means : Meaning → Held → (word : ℕ) → Type 0
Means e Unknown w = Unit {0}
Means e (Word n) w = w ≡ n
Means e (Frame n) w = w ≡ (e.pointer + n) % 2 ^ 32
Means e (Upper g) w = w ≡ (e.object g + 2 ^ 11) / 2 ^ 12 * 2 ^ 12 % 2 ^ 32
Means e (Object g) w = w ≡ e.object g
Means e (ValueOf t) w = w ≡ word_of_value e.store (e.values t)
Means e (Argument i) w = (v : Value) × (slice_get e.arguments i ≡ Some v) × (w ≡ word_of_value e.store v)
Means e Link w = w ≡ e.link

abbrev pub AreSlots : Meaning → Contents → State → Type 0
AreSlots e c m = (o : ℕ) → Means e (c (32 + o)) (slot_word m (e.pointer + o))

abbrev pub AreRegisters : Meaning → Contents → State → Type 0
AreRegisters e c m = (n : ℕ) → n < 32 → Means e (c n) (register_of m n)

-- the account has the words of the terms that are held
abbrev pub IsTold : Meaning → Contents → Words → Type 0
IsTold e c ws = (p t : ℕ) → c p ≡ ValueOf t → ws t ≡ Some (word_of_value e.store (e.values t))

abbrev pub AreReadyTold : Meaning → List Definition → Words → Type 0
AreReadyTold e [] ws = Unit {0}
AreReadyTold e (d ∷ ds) ws = (ws d.term.0 ≡ Some (word_of_value e.store (e.values d.term.0))) × AreReadyTold e ds ws

-- an activation of a function of a walk and its account, both at an item, and what is known there
pub record IsAt (gs : List Assigned) (entries : (function : ℕ) → Entries) (records : (function : ℕ) → Records) (e : Meaning) (w : Walking) (a : Activation) (c : Contents) (item : ℕ) : Type 0 where
  pub function : Assigned
  pub block : Block
  pub pieces : List Piece
  pub function_is : slice_get gs w.function ≡ Some function
  pub block_is : slice_get function.emitted.graph.blocks w.block ≡ Some block
  pub rest_is : w.rest ≡ drop item block.items
  pub does : DoesRest (setting_of function) (entries w.function) w.block item c block w.rest pieces
  pub values : e.values ≡ w.values
  pub arguments : e.arguments ≡ w.arguments
  pub records_are : a.records ≡ records w.function
  pub present : a.block ≡ Some w.block
  pub due : a.due ≡ []
  pub told : IsTold e c a.words
  pub ready : AreReadyTold e function.emitted.graph.ready a.words
