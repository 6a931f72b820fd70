-- The type that one specifier names, and the specifiers before it with that type.
-- The clauses of `specifying` cite them.
use Rattle.std.specs.Prelude.{Bool}
use Rattle.c_tree.specs.declared.typed.types.CType.{CType}
use Rattle.c_typing.specs.Declarators.{Parts, Specifying, Naming, Using, typedef_name_row, with_type}
use Rattle.c_typing.specs.Scopes.{Walk, give, unasked, ◌>>=◌}

-- a storage word, `const` and a word name none
abbrev pub named_row : (alone : Bool) → Specifying → Walk CType
named_row alone (Naming f) = f alone
named_row alone (Using id) = typedef_name_row id
named_row alone s = unasked

abbrev pub with_named : (alone : Bool) → Parts → Specifying → Walk Parts
with_named alone p s = named_row alone s >>= λ t. give (with_type p t)
