-- The productions of expressions, tightest first, each by its number (C11 6.5).
use Rattle.std.specs.Prelude.{ℕ}
use Rattle.c_tree.specs.declared.token.Punct.{Punct}
use Rattle.c_tree.specs.declared.token.Punct.TheVariants as p
use Rattle.c_tree.specs.declared.expression.Level.{Level}
use Rattle.c_tree.specs.declared.expression.Level.TheVariants as level

-- names, constants, strings and brackets (C11 6.5.1)
abbrev pub primary : ℕ
primary = 0

-- a primary expression with suffixes (C11 6.5.2)
abbrev pub postfix : ℕ
postfix = 1

-- what may stand behind a run of prefixes: a postfix expression, or `sizeof` `(` type name `)`
abbrev pub prefixed : ℕ
prefixed = 2

-- a cast expression that does not begin with `(` type name `)`
abbrev pub unary : ℕ
unary = 3

-- a run that begins with `(` type name `)` (C11 6.5.4)
abbrev pub cast : ℕ
cast = 4

-- `*`, `/`, `%` (C11 6.5.5)
abbrev pub product : ℕ
product = 5

-- `+`, `-` (C11 6.5.6)
abbrev pub sum : ℕ
sum = 6

-- `<<`, `>>` (C11 6.5.7)
abbrev pub shift : ℕ
shift = 7

-- `<`, `>`, `<=`, `>=` (C11 6.5.8)
abbrev pub relation : ℕ
relation = 8

-- `==`, `!=` (C11 6.5.9)
abbrev pub equality : ℕ
equality = 9

-- `&` (C11 6.5.10)
abbrev pub bit_and : ℕ
bit_and = 10

-- `^` (C11 6.5.11)
abbrev pub bit_xor : ℕ
bit_xor = 11

-- `|` (C11 6.5.12)
abbrev pub bit_or : ℕ
bit_or = 12

-- `&&` (C11 6.5.13)
abbrev pub and : ℕ
and = 13

-- `||` (C11 6.5.14)
abbrev pub or : ℕ
or = 14

-- `? :` (C11 6.5.15)
abbrev pub conditional : ℕ
conditional = 15

-- assignments (C11 6.5.16)
abbrev pub assignment : ℕ
assignment = 16

-- expressions with commas between (C11 6.5.17)
abbrev pub comma : ℕ
comma = 17

-- of no production
abbrev pub none : ℕ
none = 100

-- the production of a level of binary operators
abbrev pub of_level : Level → ℕ
of_level level.Or = or
of_level level.And = and
of_level level.BitOr = bit_or
of_level level.BitXor = bit_xor
of_level level.BitAnd = bit_and
of_level level.Equality = equality
of_level level.Relation = relation
of_level level.Shift = shift
of_level level.Sum = sum
of_level level.Product = product

-- the production of the operands of a level
abbrev pub below : Level → ℕ
below level.Or = and
below level.And = bit_or
below level.BitOr = bit_xor
below level.BitXor = bit_and
below level.BitAnd = equality
below level.Equality = relation
below level.Relation = shift
below level.Shift = sum
below level.Sum = product
below level.Product = cast

-- the production that goes on with this punctuator behind an operand of it
abbrev pub joins : Punct → ℕ
joins p.LeftBracket = postfix
joins p.LeftParen = postfix
joins p.Dot = postfix
joins p.Arrow = postfix
joins p.Increment = postfix
joins p.Decrement = postfix
joins p.Star = product
joins p.Slash = product
joins p.Percent = product
joins p.Plus = sum
joins p.Minus = sum
joins p.ShiftLeft = shift
joins p.ShiftRight = shift
joins p.Less = relation
joins p.Greater = relation
joins p.LessEqual = relation
joins p.GreaterEqual = relation
joins p.Equal = equality
joins p.NotEqual = equality
joins p.Ampersand = bit_and
joins p.Caret = bit_xor
joins p.Bar = bit_or
joins p.AndAnd = and
joins p.OrOr = or
joins p.Question = conditional
joins p.Assign = assignment
joins p.StarAssign = assignment
joins p.SlashAssign = assignment
joins p.PercentAssign = assignment
joins p.PlusAssign = assignment
joins p.MinusAssign = assignment
joins p.ShiftLeftAssign = assignment
joins p.ShiftRightAssign = assignment
joins p.AmpersandAssign = assignment
joins p.CaretAssign = assignment
joins p.BarAssign = assignment
joins p.Comma = comma
joins _ = none
