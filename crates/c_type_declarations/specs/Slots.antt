-- Where the next automatic or static object stands.
-- The clauses of `automatic` and `static_objects` cite them.
use Rattle.std.specs.Prelude.{ℕ, ◌+◌, Bool, [], ◌∷◌, ◌++◌, Option, Some, None, length}
use Rattle.c_tree.specs.declared.typed.types.CType.{CType}
use Rattle.c_tree.specs.declared.typed.statement.Initialiser.{Initialiser}
use Rattle.c_tree.specs.declared.typed.statement.TStmt.TheVariants as t
use Rattle.c_typing.specs.declared.scope.Meaning.{Meaning}
use Rattle.c_typing.specs.declared.scope.Meaning.TheVariants.{Automatic, Static}
use Rattle.c_typing.specs.declared.scope.State.{State}
use Rattle.c_typing.specs.Scopes.{Name, Around}
use Rattle.c_typing.specs.Declarations.{Made, static_object}
use Rattle.c_type_declarations.specs.declared.automatic.Slot.{Slot}
use Rattle.c_type_declarations.specs.declared.static_objects.StaticPlace.{StaticPlace}

abbrev pub slot_at : Around → State → Bool → Slot
slot_at c s r = record { place = c.own_from + length s.own; number = c.numbers_from + length s.own; in_register = r }

abbrev pub automatic_at : Slot → CType → Meaning
automatic_at slot u = Automatic u slot.place slot.number slot.in_register

abbrev pub static_place : Around → State → StaticPlace
static_place c s = record { number = length c.objects + length s.statics; index = length s.statics }

-- the statement that gives an automatic object its initial value, where it has a size and a value
abbrev pub initialised_at : ℕ → Option CType → Option Initialiser → Option Made
initialised_at place (Some u) (Some i) = Some (t.Initialise place i ∷ [])
initialised_at place _ _ = None

-- behind the declaration of a static object, in which nothing stands yet
abbrev pub static_declared : StaticPlace → Name → CType → State → State
static_declared p name u s =
    record s { statics = s.statics ++ static_object s.structs u [] ∷ []; names = s.names ++ (name, Static u p.number) ∷ [] }
