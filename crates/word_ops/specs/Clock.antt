-- What a run takes of the outside, and what it does with a longer clock (notions of this project).
use Rattle.std.specs.Prelude.{◌≡◌, ℕ, ◌+◌, ◌≤◌, List, ◌++◌}
use Rattle.word_ops.specs.Run.{Outside, Exit, Deep, More, Run, Gives, Ends, Undefined}

-- from the first moment to the second bytes of the input were taken, bytes were put, and ticks were taken
pub record Reaches (w u : Outside) : Type 0 where
  pub taken : List ℕ
  pub put : List ℕ
  pub input : w.input ≡ taken ++ u.input
  pub output : u.output ≡ w.output ++ put
  pub left : u.left ≤ w.left

-- a run that began at a moment reaches its last one; it ends for want of ticks only where none is left
abbrev pub RunReaches : {S A : Type 0} → Outside → Run S A → Type 0
RunReaches w (Gives s u a) = Reaches w u
RunReaches w (Ends More u) = Reaches w u × (u.left ≡ 0)
RunReaches w (Ends Deep u) = Reaches w u
RunReaches w (Ends (Exit n) u) = Reaches w u
RunReaches w Undefined = Unit {0}

-- the same moment with more ticks left
abbrev pub later : ℕ → Outside → Outside
later k w = record { input = w.input; output = w.output; left = w.left + k }

-- the second run is the first one with more ticks: it does the same, and goes on where the first ended for want of ticks
abbrev pub GoesOn : {S A : Type 0} → ℕ → Run S A → Run S A → Type 0
GoesOn k (Gives s u a) r = r ≡ Gives s (later k u) a
GoesOn k (Ends More u) r = RunReaches (later k u) r
GoesOn k (Ends Deep u) r = r ≡ Ends Deep (later k u)
GoesOn k (Ends (Exit n) u) r = r ≡ Ends (Exit n) (later k u)
GoesOn k Undefined r = r ≡ Undefined

-- what each part of a program is: at every moment its run reaches a later one, and with more ticks it goes on
pub record IsTimed {S A : Type 0} (h : Outside → Run S A) : Type 0 where
  pub reaches : (w : Outside) → RunReaches w (h w)
  pub goes_on : (k : ℕ) (w : Outside) → GoesOn k (h w) (h (later k w))
