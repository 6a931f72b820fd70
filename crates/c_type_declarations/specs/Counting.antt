-- What the types of `counting` stand for.
-- The clauses of `counting` cite them, and those of `blocks` in c_type_statements.
use Rattle.std.specs.Prelude.{Bool, false, if◌then◌else◌, List, Option, Some, None, map}
use Rattle.std.specs.Option.{option_copied}
use Rattle.c_tree.specs.declared.specifier.Storage.{Storage}
use Rattle.c_typing.specs.declared.scope.State.{State}
use Rattle.c_typing.specs.Scopes.{Name, latest}
use Rattle.c_typing.specs.OfStatements.{function_names}
use Rattle.c_typing.specs.Declarations.{FunctionNames, Beginning, stored_typedef, stored_elsewhere, stored_outside, objects_among, started, name_of}
use Rattle.c_type_declarations.specs.declared.counting.FunctionNames as code
use Rattle.c_type_declarations.specs.declared.counting.Stored.{Stored}
use Rattle.c_type_declarations.specs.declared.counting.Stored.TheVariants as stored

-- the typedef names of function types that are visible in a state
abbrev pub names_in : Option State → FunctionNames
names_in (Some s) name = function_names s name
names_in None name = false

abbrev pub since_or : Option Bool → Bool → Bool
since_or (Some b) c = b
since_or None c = c

abbrev pub named : code.FunctionNames → FunctionNames
named t name = since_or (latest t.since name) (names_in (option_copied t.visible) name)

abbrev pub stored_by : Stored → Storage → Bool
stored_by stored.Typedef = stored_typedef
stored_by stored.Elsewhere = stored_elsewhere
stored_by stored.Outside = stored_outside

-- the names of the objects of a list, of those with an initialiser alone where that is told
abbrev pub object_names : (by_specifiers started_alone : Bool) → List Beginning → List Name
object_names b s ds =
    let objects : List Beginning = objects_among b ds in
    map (λ d. name_of d.declaring.name) (if s then started objects else objects)
