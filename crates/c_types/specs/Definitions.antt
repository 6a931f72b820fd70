-- The parts of a definition, and of what a unit comes to.
-- The clauses of `definitions` and `unit` cite them.
use Rattle.std.specs.Prelude.{ℕ, true, List, ◌++◌, Option, map, length}
use Rattle.c_tree.specs.declared.expression.Identifier.{Identifier}
use Rattle.c_tree.specs.declared.typed.types.CType.{CType}
use Rattle.c_tree.specs.declared.typed.unit.TFunction.{TFunction}
use Rattle.c_tree.specs.declared.typed.unit.Typed.{Typed}
use Rattle.c_typing.specs.declared.scope.State.{State}
use Rattle.c_typing.specs.Scopes.{Name, Walk}
use Rattle.c_typing.specs.declared.declarator.Parameter.{Parameter}
use Rattle.c_typing.specs.declared.declarator.Part.{Part}
use Rattle.c_typing.specs.Units.{Defined, readied, begun, defined_if, file_object}
use Rattle.c_typing.specs.Units as units
use Rattle.c_type_declarations.specs.Linkage.{linked_state}

-- a definition behind its header
abbrev pub behind_header : Defined → Option Identifier → Option (List Part × CType) → Walk TFunction
behind_header d = defined_if d.tokens d.body

-- where there is no fault in that
abbrev pub defined_as : Defined → Identifier → (List Part × CType) → Walk TFunction
defined_as d = units.defined_as d.tokens d.body

-- a function of this name, type and parameters begins
abbrev pub begun_as : Name → CType → List Parameter → State → State
begun_as name u ps s = begun (length ps) (linked_state name true u (readied ps s))

abbrev pub typed_of_parts : State → (objects : List Name) → List TFunction → (main : ℕ) → Typed
typed_of_parts s objects fs main = record { objects = map (file_object s) objects ++ s.statics; functions = fs; main = main }
