-- What the definition of typing makes of a parameter whose type is as adjusted.
-- The clauses of `parameters` and of c_type_trees cite it.
use Rattle.std.specs.Prelude.{ℕ, Bool, Option}
use Rattle.c_tree.specs.declared.token.Pos.{Pos}
use Rattle.c_tree.specs.declared.expression.Identifier.{Identifier}
use Rattle.c_tree.specs.declared.typed.types.CType.{CType}
use Rattle.c_typing.specs.Scopes.{Walk, give, ◌>>=◌, asked}
use Rattle.c_typing.specs.declared.declarator.Parameter.{Parameter}
use Rattle.c_typing.specs.OfTrees.{parameter_named}

abbrev pub parameter_given : Option Identifier → Pos → ℕ → Bool → CType → Walk Parameter
parameter_given name first n r t = parameter_named name n r t >>= λ t. asked t (λ t.
    give (record { name = name; first = first; ctype = t; in_register = r }))
