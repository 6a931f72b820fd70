-- What the call tells of a unit.
-- The clause of `check` cites it: the one statement of all of typing.
use Rattle.std.specs.Prelude.{◌≡◌, Some, None, Result, Ok, Err}
use Rattle.c_tree.specs.declared.unit.Unit as tree
use Rattle.c_tree.specs.declared.typed.unit.Typed.{Typed}
use Rattle.c_typing.specs.Faults.{fault}
use Rattle.c_typing.specs.Units.{first_fault, typed_of}
use Rattle.c_types.specs.declared.checking.CheckFault.{CheckFault}
use Rattle.c_types.specs.declared.checking.CheckFault.TheVariants as refused

-- a unit without a fault has this typed tree
pub record IsTyped (unit : tree.Unit) (typed : Typed) : Type 0 where
  pub clean : first_fault unit ≡ None
  pub typed_tree : typed_of unit ≡ Some typed

-- a typed tree where there is no fault, and else the first fault, unless memory is wanting
abbrev pub Checked : tree.Unit → Result Typed CheckFault → Type 0
Checked unit (Ok typed) = IsTyped unit typed
Checked unit (Err (refused.Fault k p)) = first_fault unit ≡ Some (fault k p)
Checked unit (Err refused.Memory) = Unit {0}
