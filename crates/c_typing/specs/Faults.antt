-- The faults of a source, and which of them comes first: the one at the earliest place, and of those at one place the one whose
-- kind comes first in `FaultKind`.
use Rattle.std.specs.Prelude.{◌≡◌, ℕ, Bool, false, ◌&&◌, ◌||◌, ◌==◌, nat_lt, if◌then◌else◌, List, [], ◌∷◌, Option, Some, None}
use Rattle.std.specs.List.{Contains, AllByRecursion}
use Rattle.c_tree.specs.declared.token.Pos.{Pos}
use Rattle.c_tree.specs.declared.refusal.FaultKind.{FaultKind}
use Rattle.c_tree.specs.declared.refusal.FaultKind.TheVariants as kind
pub use Rattle.c_typing.specs.declared.fault.Fault.{Fault}

-- a fault of this kind at this place
abbrev pub fault : FaultKind → Pos → Fault
fault k p = record { kind = k; place = p }

-- the order of the kinds
abbrev pub rank : FaultKind → ℕ
rank kind.BadSpecifier = 0
rank kind.Undeclared = 1
rank kind.Redeclared = 2
rank kind.Incomplete = 3
rank kind.BadSize = 4
rank kind.TooLarge = 5
rank kind.NotConstant = 6
rank kind.NotLvalue = 7
rank kind.ConstWrite = 8
rank kind.FunctionUse = 9
rank kind.BadCall = 10
rank kind.Mismatch = 11
rank kind.StructValue = 12
rank kind.Stray = 13
rank kind.NoBody = 14
rank kind.NoMain = 15

-- a place that stands before another in the source
abbrev pub stands_before : Pos → Pos → Bool
stands_before p q = nat_lt p.line q.line || ((p.line == q.line) && nat_lt p.column q.column)

-- the same place
abbrev pub is_at : Pos → Pos → Bool
is_at p q = (p.line == q.line) && (p.column == q.column)

-- a fault that is told rather than another
abbrev pub comes_before : Fault → Fault → Bool
comes_before f g = stands_before f.place g.place || (is_at f.place g.place && nat_lt (rank f.kind) (rank g.kind))

abbrev pub earlier : Option Fault → Fault → Fault
earlier None f = f
earlier (Some g) f = if comes_before f g then f else g

-- the first of some faults and of one that was found before, where there is any
abbrev pub first_of : Option Fault → List Fault → Option Fault
first_of found [] = found
first_of found (f ∷ fs) = first_of (Some (earlier found f)) fs

-- ---- what is meant by the first

-- of some faults: one of them, and none of them comes before it
abbrev pub IsFirst : List Fault → Fault → Type 0
IsFirst fs f = Contains fs f × AllByRecursion (λ g. comes_before g f ≡ false) fs
