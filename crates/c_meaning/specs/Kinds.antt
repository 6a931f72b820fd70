-- Values of a kind: what the value of an expression of that kind can be.
use Rattle.std.specs.Prelude.{◌≡◌, ℕ, true, Option, Some, None}
use Rattle.word_ops.specs.Store.{Value, Number}
use Rattle.word_ops.specs.Access.{IsInRange}
use Rattle.word_ops.specs.Values.{is_pointer_or_null}
use Rattle.word_ops.specs.Run.{Run, Gives, Ends, Undefined}
use Rattle.c_tree.specs.declared.typed.operator.Scalar.{Scalar}
use Rattle.c_tree.specs.declared.typed.operator.Scalar.TheVariants as scalar
use Rattle.c_tree.specs.TypedKinds.{Kind, Void, Holds, Signature}
use Rattle.c_meaning.specs.Statements.{Done, Normal, Breaks, Continues, Returns}

-- of an integer kind a number in the range of its width, of a pointer kind a pointer or the null pointer
abbrev pub IsValueOf : Kind → Value → Type 0
IsValueOf Void v = Unit {0}
IsValueOf (Holds (scalar.Integer k)) v = (n : ℕ) × (v ≡ Number n) × IsInRange k n
IsValueOf (Holds scalar.Pointer) v = is_pointer_or_null v ≡ true

-- the value that a call gives, where it gives one, is one that the function's type has
abbrev pub IsResultOf : Option Scalar → Option Value → Type 0
IsResultOf k None = Unit {0}
IsResultOf None (Some v) = Unit {0}
IsResultOf (Some k) (Some v) = IsValueOf (Holds k) v

-- the same by the signature of the function, where there is one
abbrev pub IsResultIn : Option Signature → Option Value → Type 0
IsResultIn None o = Unit {0}
IsResultIn (Some g) o = IsResultOf g.result o

-- a run gives such a result, where it gives one
abbrev pub GivesSuch : {S A : Type 0} → (A → Type 0) → Run S A → Type 0
GivesSuch P (Gives s w a) = P a
GivesSuch P (Ends e w) = Unit {0}
GivesSuch P Undefined = Unit {0}

-- a statement that returns gives back what the function's type has
abbrev pub IsDoneOf : Option Scalar → Done → Type 0
IsDoneOf k Normal = Unit {0}
IsDoneOf k Breaks = Unit {0}
IsDoneOf k Continues = Unit {0}
IsDoneOf k (Returns o) = IsResultOf k o
