-- What of a whole run is seen from outside (C11 5.1.2.3p6, with the profile's clock and depth).
use Rattle.std.specs.Prelude.{◌≡◌, ℕ, ◌-◌, ◌≤◌, List, [], ◌++◌, length, Option, Some, None}
use Rattle.word_ops.specs.Run.{Outside, End, More, Run, Gives, Ends, Undefined}

-- how a run ended, all its output, and how many ticks and bytes of input it took
pub record Outcome : Type 0 where
  pub end : End
  pub output : List ℕ
  pub ticks : ℕ
  pub taken : ℕ

-- before the first step: the whole input, and so many ticks to take
abbrev pub start : (input : List ℕ) (clock : ℕ) → Outside
start input clock = record { input = input; output = []; left = clock }

-- the outcome of a run that began there, or none where it is undefined
abbrev pub outcome_of : {S A : Type 0} → (input : List ℕ) (clock : ℕ) → Run S A → Option Outcome
outcome_of input clock (Ends e w) = Some (record { end = e; output = w.output; ticks = clock - w.left; taken = length input - length w.input })
outcome_of input clock (Gives s w a) = None
outcome_of input clock Undefined = None

-- the second outcome has all that the first has, and maybe more
pub record IsFurther (o p : Outcome) : Type 0 where
  pub more : List ℕ
  pub output : p.output ≡ o.output ++ more
  pub ticks : o.ticks ≤ p.ticks
  pub taken : o.taken ≤ p.taken

-- what is true of each outcome
pub record IsWithinClock (input : List ℕ) (clock : ℕ) (o : Outcome) : Type 0 where
  pub ticks : o.ticks ≤ clock
  pub taken : o.taken ≤ length input
  -- a run ends for want of ticks only once it has taken them all
  pub spent : o.end ≡ More → o.ticks ≡ clock
