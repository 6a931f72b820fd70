-- What a machine's memory has of a store: the bytes of the cells of each live object.
use Rattle.std.specs.Prelude.{◌≡◌, ℕ, ◌+◌, ◌-◌, ◌≤◌, ◌⊎◌, true, length, slice_index, Some, slice_get}
use Rattle.word_ops.specs.Store.{Cell, Region, Store as Objects}
use Rattle.word_ops.specs.Addresses.{byte_of_cell, IsByte}
use Rattle.rv_machine.specs.State.{State}
use Rattle.rv_machine.specs.Bytes.{word_in}

abbrev pub byte_at : State → ℕ → ℕ
byte_at m at = slice_index m.memory (at - m.base)

abbrev pub slot_word : State → ℕ → ℕ
slot_word m at = word_in m.memory (at - m.base)

-- the memory has an object: it lies there whole, and its bytes are those of its cells, where these have one
pub record HasObject (s : Objects) (m : State) (g : Region) : Type 0 where
  pub low : m.base ≤ g.address
  pub high : g.address + length g.cells ≤ m.base + length m.memory
  pub bytes : (o : ℕ) (c : Cell) → slice_get g.cells o ≡ Some c → IsByte (byte_of_cell s c) (byte_at m (g.address + o))

abbrev pub HasObjects : Objects → State → Type 0
HasObjects s m = (r : ℕ) (g : Region) → slice_get s r ≡ Some g → g.live ≡ true → HasObject s m g

-- no live object has a byte between two addresses
abbrev pub IsBeside : Objects → (from to : ℕ) → Type 0
IsBeside s from to = (r : ℕ) (g : Region) → slice_get s r ≡ Some g → g.live ≡ true → (g.address + length g.cells ≤ from) ⊎ (to ≤ g.address)
