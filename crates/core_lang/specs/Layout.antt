-- Where the objects of a program lie. The meaning of a program never reads an address, so its outcome is the same for each
-- layout; a layout ties the objects to the words of a machine (the profile's model, as that of C11 6.2.6.1 is).
use Rattle.std.specs.Prelude.{ℕ}

-- the address of each static object; where the free part of the stack ends as main is called, for it grows downward; how
-- many bytes of it the frame of a function takes; and where in its frame each local object of a function lies
pub record Layout : Type 0 where
  pub static : (object : ℕ) → ℕ
  pub top : ℕ
  pub frame : (function : ℕ) → ℕ
  pub local : (function local : ℕ) → ℕ
