-- Where an image is loaded, and what its machine is then.
use Rattle.std.specs.Prelude.{ℕ, ◌+◌, ◌-◌, ◌*◌, ◌/◌, List, ◌++◌, length, replicate}
use Rattle.image_form.specs.declared.image.Image.{Image}
use Rattle.rv_machine.specs.State.{State, Loaded}

-- the next multiple of 8
abbrev pub up_to_eight : ℕ → ℕ
up_to_eight n = (n + 7) / 8 * 8

-- The text is loaded at 0x10000, the data at the next multiple of 8, the stack at the multiple of 8 after
-- that. The gap after the data and the stack are zero, and so are all registers. pc is the entry.
abbrev pub start : Image → State
start image = record {
  registers = replicate 32 0;
  pc = image.entry;
  base = up_to_eight (0x10000 + 4 * length image.text);
  memory = image.statics ++ replicate (up_to_eight (length image.statics) + image.stack - length image.statics) 0;
}

abbrev pub loaded : Image → Loaded
loaded image = record { text = image.text; state = start image }
