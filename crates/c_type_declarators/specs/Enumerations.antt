-- How the definition of typing begins an enumeration, before its enumerators, and what it makes of an enumerator whose
-- expression has been read.
use Rattle.std.specs.Prelude.{ℕ, false, Option, Some, None, is_some}
use Rattle.c_tree.specs.declared.expression.Identifier.{Identifier}
use Rattle.c_tree.specs.declared.refusal.FaultKind.TheVariants as kind
use Rattle.c_tree.specs.declared.token.Pos.{Pos}
use Rattle.c_typing.specs.declared.scope.Tag.TheVariants.{EnumTag}
use Rattle.c_typing.specs.declared.operand.Operand.{Operand}
use Rattle.c_typing.specs.Scopes.{Walk, give, ◌>>=◌, asked, beside, fault_if, here, change, tagging, own_tag}
use Rattle.c_typing.specs.Declarators.{enumerator_declared, enumerator_value, add_enum}

-- the number of an enumerated type, for which its tag stands from here on
abbrev pub enum_numbered : Option Identifier → ℕ → Walk ℕ
enum_numbered None n = give n
enum_numbered (Some tag) n = here (λ c s.
    beside (fault_if (is_some (own_tag c s tag.text)) kind.Redeclared tag.place) (tagging tag.text (EnumTag n false) (give n)))

abbrev pub enum_begun : Option Identifier → Walk ℕ
enum_begun tag = here (λ c s. change add_enum (enum_numbered tag s.enums))

-- an enumerator and what its expression is, unless a fault stands in that
abbrev pub enumerator_with : Identifier → Pos → Option Operand → Walk ℕ
enumerator_with id first o = asked o (enumerator_value first) >>= enumerator_declared id
