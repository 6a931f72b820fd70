-- The productions, as the definitions of the grammar number them, and the uses of declarators.
-- The code has enums where the grammar counts.
use Rattle.std.specs.Prelude.{ℕ}
use Rattle.c_tree.specs.Levels.Productions as production
use Rattle.c_tree.specs.Levels.Facts as facts
use Rattle.c_expr_parser.specs.declared.production.Production.{Production}
use Rattle.c_expr_parser.specs.declared.production.Production.TheVariants as p
use Rattle.c_expr_parser.specs.declared.wanted.Within.{Within}
use Rattle.c_expr_parser.specs.declared.wanted.Within.TheVariants as within
use Rattle.c_expr_parser.specs.declared.wanted.Use.{Use}
use Rattle.c_expr_parser.specs.declared.wanted.Use.TheVariants as purpose

-- the number of a production
abbrev pub number : Production → ℕ
number p.Postfix = production.postfix
number p.Product = production.product
number p.Sum = production.sum
number p.Shift = production.shift
number p.Relation = production.relation
number p.Equality = production.equality
number p.BitAnd = production.bit_and
number p.BitXor = production.bit_xor
number p.BitOr = production.bit_or
number p.And = production.and
number p.Or = production.or
number p.Conditional = production.conditional
number p.Assignment = production.assignment
number p.Comma = production.comma
number p.Nothing = production.none

abbrev pub within_number : Within → ℕ
within_number within.Comma = production.comma
within_number within.Assignment = production.assignment
within_number within.Conditional = production.conditional

abbrev pub use_of : Use → facts.Use
use_of purpose.Declaring = facts.Declaring
use_of purpose.Abstract = facts.Abstract
use_of purpose.Parameter = facts.Parameter
