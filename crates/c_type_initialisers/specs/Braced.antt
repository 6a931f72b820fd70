-- What stands in braces around a scalar or a string (C11 6.7.9p11, p14).
-- The clauses of `initialisers` and `leaves` cite them.
use Rattle.std.specs.Prelude.{if◌then◌else◌, [], ◌∷◌, ◌++◌, Option, Some, None}
use Rattle.c_tree.specs.declared.token.Pos.{Pos}
use Rattle.c_tree.specs.declared.refusal.FaultKind.TheVariants as kind
use Rattle.c_tree.specs.declared.typed.types.CType.{CType}
use Rattle.c_typing.specs.declared.initialiser.Filled.{Filled}
use Rattle.c_typing.specs.declared.initialiser.Leaf.TheVariants.{Wrong}
use Rattle.c_typing.specs.Declarators.{Expressed}
use Rattle.c_typing.specs.Faults.{fault}
use Rattle.c_typing.specs.OfInitialisers.{filled, string_fits}
use Rattle.c_typing.specs.Scopes.{Walk, asked, beside}
use Rattle.c_typing.specs.Types.{shape}

-- items behind the one that a scalar has
abbrev pub too_many : (list : Pos) → Option Filled → Walk Filled
too_many list o = asked o (λ r. beside (fault kind.Mismatch list ∷ []) (filled (r.leaves ++ Wrong ∷ [])))

-- an expression, where it is a string for an array of characters
abbrev pub string_if_fits : CType → Expressed → Option Expressed
string_if_fits t e = if string_fits (shape t) e.literal then Some e else None
