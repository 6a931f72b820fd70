-- What the types of prefix operators stand for
-- in the row of the definition.
use Rattle.c_typing.specs.declared.operand.Operand.{Operand}
use Rattle.c_typing.specs.Expressions.{negated, complemented}
use Rattle.c_typing.specs.Parts as parts
use Rattle.c_type_expressions.specs.declared.arithmetic.Promoting.{Promoting}
use Rattle.c_type_expressions.specs.declared.arithmetic.Promoting.TheVariants as promoting
use Rattle.c_type_expressions.specs.declared.prefixes.Prefixing.{Prefixing}
use Rattle.c_type_expressions.specs.declared.prefixes.Prefixing.TheVariants as prefix

-- what an operator does to a promoted operand
abbrev pub done_to : Promoting → Operand → Operand
done_to promoting.Plus o = o
done_to promoting.Minus o = negated o
done_to promoting.Complement o = complemented o

abbrev pub prefixing : Prefixing → parts.Prefixing
prefixing (prefix.Marking m) = parts.Marking m
prefixing (prefix.Sizing p) = parts.Sizing p
prefixing (prefix.Casting p t) = parts.Casting p t
