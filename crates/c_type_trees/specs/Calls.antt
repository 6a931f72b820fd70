-- Calls of names, strings and `sizeof`, as one walk each.
-- The clauses of `names`, `operands`, `prefixes` and `suffixes` cite them.
use Rattle.std.specs.Prelude.{Bool, true, false, if◌then◌else◌, List, [], ◌∷◌, ◌++◌, Option, None, map}
use Rattle.c_tree.specs.declared.token.Pos.{Pos}
use Rattle.c_tree.specs.declared.refusal.FaultKind.TheVariants as kind
use Rattle.c_tree.specs.declared.expression.Identifier.{Identifier}
use Rattle.c_tree.specs.declared.expression.Expr.{Expr}
use Rattle.c_tree.specs.declared.expression.Literal.{Literal}
use Rattle.c_tree.specs.declared.expression.Next.{Next}
use Rattle.c_typing.specs.declared.operand.Operand.{Operand}
use Rattle.c_typing.specs.Scopes.{Walk, give, unasked, ◌>>=◌, asked, both_asked, tell}
use Rattle.c_typing.specs.Expressions.{Argument, string_row, size_row, call_row, index_row}
use Rattle.c_typing.specs.Declarators.{Expressed, TypeNamed, nowhere}
use Rattle.c_typing.specs.Parts.{Suffixing, Calling}
use Rattle.c_typing.specs.OfTrees.{bytes_of_all, first_literal, arguments, suffixes_row, operand_of}
use Rattle.c_typing.specs.Trees.{expr_typing, next_typing}

abbrev pub strings_row : List Literal → Walk Operand
strings_row all = string_row (first_literal all) (bytes_of_all all)

abbrev pub is_call : Suffixing → Bool
is_call (Calling at es) = true
is_call q = false

-- the name that stands directly before the `(` of a call
abbrev pub called : Option Identifier → List Suffixing → Option Identifier
called id [] = None
called id (q ∷ qs) = if is_call q then id else None

-- the arguments of a call, and the place of its bracket
abbrev pub arguments_of : Suffixing → Walk (List Argument)
arguments_of (Calling at es) = arguments es
arguments_of q = unasked

abbrev pub call_place : Suffixing → Pos
call_place (Calling at es) = at
call_place q = nowhere

-- a call of what a name stands for
abbrev pub call_of : Identifier → Suffixing → Walk Operand
call_of id q = arguments_of q >>= λ args. asked args (call_row id (call_place q))

-- suffixes of which the first is the call of a name
abbrev pub call_first : Identifier → List Suffixing → Walk Operand
call_first id [] = unasked
call_first id (q ∷ qs) = call_of id q >>= suffixes_row qs

abbrev pub operands : List Next → List Expressed
operands ns = map operand_of (map next_typing ns)

-- arguments behind those that were walked
abbrev pub more_arguments : List Argument → List Next → Walk (List Argument)
more_arguments before rest = arguments (operands rest) >>= λ more. asked more (λ more. give (before ++ more))

-- a first argument, and those behind it
abbrev pub all_arguments : Expr → List Next → Walk (List Argument)
all_arguments first rest = arguments (expr_typing first ∷ operands rest)

abbrev pub sizeof_row : Pos → TypeNamed → Walk Operand
sizeof_row at type = type.typed at >>= λ t. asked t (size_row at)

-- what stands in brackets behind an operand
abbrev pub indexed : Pos → Expressed → Option Operand → Walk Operand
indexed at i o = i.typed >>= λ i. both_asked o i (index_row at)

-- a call, with arguments, of what is not the name of a function
abbrev pub called_value : Pos → Expr → List Next → Option Operand → Walk Operand
called_value at first rest o = all_arguments first rest >>= λ args. asked o (λ o. tell kind.BadCall at)
