-- Expressions by what is walked first in them: an operand, or something else.
-- The clauses of `expressions` and `names` cite them.
use Rattle.std.specs.Prelude.{List, [], ◌∷◌, Option, Some, None, map}
use Rattle.c_tree.specs.Layers.{ExprLayer}
use Rattle.c_tree.specs.declared.declarator.DeclaratorSuffix.TheOpen.{Expr-F}
use Rattle.std.specs.Borrow.{Bor}
use Rattle.c_tree.specs.declared.expression.Expr.{Expr, out-Expr}
use Rattle.c_typing.specs.declared.operand.Operand.{Operand}
use Rattle.c_typing.specs.Types.{plain, int}
use Rattle.c_typing.specs.Conversions.{base_of_constant}
use Rattle.c_typing.specs.Operands.{number}
use Rattle.c_typing.specs.Expressions.{name_row}
use Rattle.c_typing.specs.Scopes.{Walk, give, offer, unasked, ◌>>=◌}
use Rattle.c_typing.specs.OfTrees.{postfix_row, level_row, commas_row}
use Rattle.c_typing.specs.Trees.{expr_typing, suffix_typing, prefix_typing, next_typing, branch_typing, type_name_typing}
use Rattle.c_type_trees.specs.Calls.{strings_row, sizeof_row}
use Rattle.c_type_trees.specs.Sequences.{prefixed_row, conditional_row, assignment_row}

-- the operand with which an expression begins that has operators behind it, or is in parentheses
abbrev pub first_operand : ExprLayer → Option Expr
first_operand (Expr-F.Paren from e to) = Some e
first_operand (Expr-F.Binary l e rest) = Some e
first_operand (Expr-F.Conditional e rest) = Some e
first_operand (Expr-F.Assign e rest) = Some e
first_operand (Expr-F.Comma e rest) = Some e
first_operand n = None

-- what stands behind that operand
abbrev pub behind_row : ExprLayer → Option Operand → Walk Operand
behind_row (Expr-F.Binary l e rest) o = level_row l o (map next_typing rest)
behind_row (Expr-F.Conditional e rest) o = conditional_row (map branch_typing rest) o
behind_row (Expr-F.Assign e rest) o = assignment_row (map next_typing rest) o
behind_row (Expr-F.Comma e rest) o = commas_row (map next_typing rest) [] o
behind_row n o = offer o

-- what stands behind the operands with which expressions begin, of which the last is the innermost
abbrev pub behind_all : List (Bor Expr) → Option Operand → Walk Operand
behind_all [] o = offer o
behind_all (t ∷ ts) o = behind_all ts o >>= behind_row (out-Expr t.now)

-- all other expressions
abbrev pub other_row : ExprLayer → Walk Operand
other_row (Expr-F.Name id) = name_row id
other_row (Expr-F.Number n k at) = give (number (plain (base_of_constant k)) n)
other_row (Expr-F.Char n at) = give (number int n)
other_row (Expr-F.Strings all) = strings_row all
other_row (Expr-F.Postfix e suffixes) = postfix_row (expr_typing e) (expr_typing e).callee (map suffix_typing suffixes)
other_row (Expr-F.SizeofType at from type to) = sizeof_row at (type_name_typing type)
other_row (Expr-F.Prefixed run e) = prefixed_row (map prefix_typing run) (expr_typing e)
other_row n = unasked
