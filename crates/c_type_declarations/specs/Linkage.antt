-- The parts of what a declaration of a name with linkage is asked, and what is kept of it.
-- The clauses of `linkage` cite them.
use Rattle.std.specs.Prelude.{Bool, ◌&&◌, ◌||◌, not, [], ◌∷◌, ◌++◌, Option}
use Rattle.std.specs.Str.{bytes_eq}
use Rattle.c_tree.specs.declared.typed.types.CType.{CType}
use Rattle.c_typing.specs.Types.{int, compatible}
use Rattle.c_typing.specs.declared.scope.Meaning.{Meaning}
use Rattle.c_typing.specs.declared.scope.Meaning.TheVariants.{Linked}
use Rattle.c_typing.specs.declared.scope.Linkage.{Linkage}
use Rattle.c_typing.specs.declared.scope.State.{State}
use Rattle.c_typing.specs.Scopes.{Name, Around, latest}
use Rattle.c_typing.specs.Declarations.{allows_linked, agrees, is_defined, composed, breaks_library, main, function_type}

-- the declaration may not stand behind those before it; of its own scope it is told what that has declared by the name
abbrev pub breaks_linkage : State → Option Meaning → Name → (defines : Bool) → CType → Bool
breaks_linkage s own name defines u =
    not (allows_linked u own) || (not (agrees u (latest s.linked name))
    || ((defines && is_defined (latest s.linked name)) || breaks_library name defines u))

abbrev pub is_wrong_main : Around → Name → CType → Bool
is_wrong_main c name u = (c.at_file_level && bytes_eq name main) && not (compatible u (function_type int []))

abbrev pub linkage_of : State → Name → (defines : Bool) → CType → Linkage
linkage_of s name defines u = record { ctype = composed u (latest s.linked name); defined = defines || is_defined (latest s.linked name) }

abbrev pub kept_state : Name → (defines : Bool) → CType → State → State
kept_state name defines u s = record s { linked = s.linked ++ (name, linkage_of s name defines u) ∷ [] }

-- behind the declaration
abbrev pub linked_state : Name → (defines : Bool) → CType → State → State
linked_state name defines u s =
    record s { linked = s.linked ++ (name, linkage_of s name defines u) ∷ []; names = s.names ++ (name, Linked (composed u (latest s.linked name))) ∷ [] }
