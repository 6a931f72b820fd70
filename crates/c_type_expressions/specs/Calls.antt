-- The row of a call in parts: what its arguments give one after another,
-- and what is made of them.
use Rattle.std.specs.Prelude.{ℕ, if◌then◌else◌, List, [], ◌∷◌, ◌++◌, Option, Some, None}
use Rattle.c_tree.specs.declared.expression.Identifier.{Identifier}
use Rattle.c_tree.specs.declared.typed.types.CType.{CType}
use Rattle.c_tree.specs.declared.typed.expression.TExpr.{TExpr}
use Rattle.c_typing.specs.declared.operand.Operand.{Operand}
use Rattle.c_typing.specs.Scopes.{Walk, ◌>>=◌, asked, unasked, here, number_in}
use Rattle.c_typing.specs.Expressions.{Argument, arguments_row, same_length, call_of, call_made, is_library, library_call}

-- a call with these arguments, by the number of the function that the unit defines
abbrev pub made : Identifier → CType → List TExpr → Option ℕ → Option Operand
made id t args (Some f) = Some (call_of t f args)
made id t args None = if is_library id.text then library_call id.text args else Some (call_of t 0 args)

-- a list with a value more, where each gives something
abbrev pub both_given : Option (List TExpr) → Option TExpr → Option (List TExpr)
both_given (Some es) (Some e) = Some (es ++ e ∷ [])
both_given _ _ = None

-- a call, once it has been told whether there are as many arguments as parameters
abbrev pub answered : Identifier → List Argument → List CType → CType → Walk Operand
answered id args ts t =
    arguments_row args ts >>= λ es.
    (if same_length args ts then asked es (λ es. here (λ c s. call_made id t es (number_in 0 c.functions id.text))) else unasked)
