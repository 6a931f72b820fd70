-- What a call of the program comes to, its status, and the line that it writes.
use Rattle.std.specs.Prelude.{ℕ, ◌+◌, ◌-◌, ◌/◌, ◌%◌, nat_lt, if◌then◌else◌, List, [], ◌∷◌, ◌++◌, codes, decimal}

pub data Outcome : Type 0 where
  -- the end of the program that was run
  Own : (status : ℕ) → Outcome
  Usage : Outcome
  Missing : (name : List ℕ) → Outcome
  ReadFault : Outcome
  WriteFault : Outcome
  -- a source that is not built yet, at a line and a column
  NotYet : (line column : ℕ) → Outcome
  -- a source that is too long
  Room : Outcome
  BadImage : (offset : ℕ) → Outcome
  Trap : (pc : ℕ) → Outcome
  StepsSpent : Outcome
  TooDeep : Outcome
  OutOfMemory : Outcome

abbrev pub status_of : Outcome → ℕ
status_of (Own status) = status
status_of Usage = 64
status_of (NotYet line column) = 65
status_of (Missing name) = 66
status_of (BadImage offset) = 67
status_of ReadFault = 68
status_of WriteFault = 69
status_of OutOfMemory = 70
status_of Room = 71
status_of (Trap pc) = 72
status_of StepsSpent = 73
status_of TooDeep = 74

-- a lower-case hexadecimal digit
abbrev pub hex_digit : ℕ → ℕ
hex_digit d = if nat_lt d 10 then 48 + d else 87 + d

-- a word in eight hexadecimal digits
abbrev pub hex_word : ℕ → List ℕ
hex_word w = hex_digit (w / 268435456 % 16) ∷ hex_digit (w / 16777216 % 16) ∷ hex_digit (w / 1048576 % 16) ∷ hex_digit (w / 65536 % 16)
    ∷ hex_digit (w / 4096 % 16) ∷ hex_digit (w / 256 % 16) ∷ hex_digit (w / 16 % 16) ∷ hex_digit (w % 16) ∷ []

-- the line behind `ccai: ` and before the newline
abbrev pub said : Outcome → List ℕ
said (Own status) = []
said Usage = codes "usage"
said (NotYet line column) = decimal line ++ (codes ":" ++ (decimal column ++ (codes ": " ++ codes "NotYet")))
said (Missing name) = codes "missing " ++ name
said (BadImage offset) = codes "bad image at " ++ decimal offset
said ReadFault = codes "read fault"
said WriteFault = codes "write fault"
said OutOfMemory = codes "out of memory"
said Room = codes "room source"
said (Trap pc) = codes "trap at " ++ hex_word pc
said StepsSpent = codes "steps spent"
said TooDeep = codes "too deep"

abbrev pub as_line : List ℕ → List ℕ
as_line text = codes "ccai: " ++ (text ++ codes "\n")

-- what is written on standard error: one line, or nothing where the program ended by itself
abbrev pub message : Outcome → List ℕ
message (Own status) = []
message outcome = as_line (said outcome)
