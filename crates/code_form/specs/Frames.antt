-- How a frame is divided (the profile's choice), from the stack pointer up: the arguments of the calls that are made, then slots,
-- the last of which has the return address, then the local objects.
use Rattle.std.specs.Prelude.{ℕ, ◌-◌, List, drop}
use Rattle.word_ops.specs.Stack.{bytes_of_objects}

-- the bytes that hold no object
abbrev pub slot_bytes : (frame : ℕ) → (sizes : List ℕ) → ℕ
slot_bytes frame sizes = frame - bytes_of_objects sizes

-- where the return address is kept
abbrev pub link_slot : (frame : ℕ) → (sizes : List ℕ) → ℕ
link_slot frame sizes = slot_bytes frame sizes - 4

-- where the object of a number lies
abbrev pub object_offset : (frame : ℕ) → (sizes : List ℕ) → (number : ℕ) → ℕ
object_offset frame sizes l = frame - bytes_of_objects (drop l sizes)
