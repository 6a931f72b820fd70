-- How many bytes local objects take of the stack (the profile's choice: core code counts them, and a frame has room for them).
use Rattle.std.specs.Prelude.{ℕ, ◌+◌, ◌*◌, ◌/◌, List, [], ◌∷◌}

-- an object takes its size up to the next multiple of 8, and 8 bytes that keep it apart from the next one
abbrev pub bytes_of_object : (size : ℕ) → ℕ
bytes_of_object size = (size + 7) / 8 * 8 + 8

abbrev pub bytes_of_objects : (sizes : List ℕ) → ℕ
bytes_of_objects [] = 0
bytes_of_objects (size ∷ sizes) = bytes_of_object size + bytes_of_objects sizes
