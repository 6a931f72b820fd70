-- What is true of the faults of every unit, and of composite types.
use Rattle.std.specs.Prelude.{◌≡◌, true, Some, None, []}
use Rattle.c_tree.specs.declared.unit.Unit as tree
use Rattle.c_tree.specs.declared.typed.types.CType.{CType}
use Rattle.c_typing.specs.Faults.{Fault, IsFirst}
use Rattle.c_typing.specs.Types.{compatible, composite}
use Rattle.c_typing.specs.Units.{faults_of, first_fault}

-- the fault that is told is one of the unit, and no other one comes before it
abbrev pub FirstIsTold : Type 0
FirstIsTold = (u : tree.Unit) (f : Fault) → first_fault u ≡ Some f → IsFirst (faults_of u) f

-- none is told of a unit that has none, and of no other
abbrev pub NoneIsTold : Type 0
NoneIsTold = (u : tree.Unit) → first_fault u ≡ None → faults_of u ≡ []

-- the composite type of two compatible types is compatible with both (C11 6.2.7p3)
abbrev pub CompositeFits : Type 0
CompositeFits = (t u : CType) → compatible t u ≡ true → (compatible (composite t u) t ≡ true) × (compatible (composite t u) u ≡ true)
