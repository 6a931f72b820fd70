-- Expressions, by recursive descent (C11 6.5). What stands in brackets is read by `inner`, where so many more brackets
-- may be opened.
use Rattle.std.specs.Prelude.{ℕ, Bool, true, false, not, ◌&&◌, ◌||◌, if◌then◌else◌, ◌==◌, List, ◌∷◌, Option, Some, None}
use Rattle.c_tree.specs.declared.token.Pos.{Pos}
use Rattle.c_tree.specs.declared.token.Punct.TheVariants as p
use Rattle.c_tree.specs.declared.token.Keyword.TheVariants as word
use Rattle.c_tree.specs.declared.token.TokenKind.{TokenKind}
use Rattle.c_tree.specs.declared.token.TokenKind.TheVariants as k
use Rattle.c_tree.specs.declared.expression.Literal.{Literal}
use Rattle.c_tree.specs.declared.expression.Mark.{Mark}
use Rattle.c_tree.specs.declared.expression.Level.{Level}
use Rattle.c_tree.specs.declared.expression.Level.TheVariants as level
use Rattle.c_tree.specs.declared.expression.Expr.{Expr}
use Rattle.c_tree.specs.declared.expression.Expr.TheVariants as expr
use Rattle.c_tree.specs.declared.expression.Prefix.{Prefix}
use Rattle.c_tree.specs.declared.expression.Prefix.TheVariants as prefix
use Rattle.c_tree.specs.declared.expression.Suffix.{Suffix}
use Rattle.c_tree.specs.declared.expression.Suffix.TheVariants as suffix
use Rattle.c_tree.specs.declared.expression.Next.{Next, roll-Next, out-Next}
use Rattle.c_tree.specs.declared.expression.Branch.{Branch, roll-Branch}
use Rattle.c_tree.specs.Levels.Names.{Names, is_typedef_name}
use Rattle.c_tree.specs.Levels.Productions as production
use Rattle.c_tree.specs.Levels.Facts.{PrefixKind, Loose, Tight, kind_of_mark}
use Rattle.c_grammar.specs.Input.{State, Parser, ◌>>=◌, pure, choose, peek, behind, is_bytes, sees, goes, one, expect, identifier, opening, many_by, many}
use Rattle.c_grammar.specs.Read.Nodes.{with_suffixes, with_run, with_operands, with_branches, with_targets, with_commas, is_unary, ties}
use Rattle.c_grammar.specs.Read.Inner.{Inner, type_name, is_sizeof, begins_type}

-- ---- one token

abbrev pub atom_at : Names → TokenKind → Pos → Option Expr
atom_at names (k.Name text) place = if is_typedef_name names text then None else Some (expr.Name (record { text = text; place = place }))
atom_at names (k.Number value kind) place = Some (expr.Number value kind place)
atom_at names (k.Char value) place = Some (expr.Char value place)
atom_at names _ place = None

abbrev pub literal_at : Names → TokenKind → Pos → Option Literal
literal_at names (k.Bytes bytes) place = Some (record { bytes = bytes; place = place })
literal_at names _ place = None

abbrev pub operator_at : Names → TokenKind → Pos → Option Mark
operator_at names (k.Punct op) place = Some (record { punct = op; place = place })
operator_at names _ place = None

abbrev pub prefix_of : PrefixKind → Mark → Option Prefix
prefix_of Loose m = Some (prefix.Operator m)
prefix_of Tight m = Some (prefix.Operator m)
prefix_of _ m = None

abbrev pub prefix_at : Names → TokenKind → Pos → Option Prefix
prefix_at names (k.Punct op) place = prefix_of (kind_of_mark op) (record { punct = op; place = place })
prefix_at names (k.Keyword word.Sizeof) place = Some (prefix.Sizeof place)
prefix_at names _ place = None

abbrev pub sizeof_at : Names → TokenKind → Pos → Option Pos
sizeof_at names (k.Keyword word.Sizeof) place = Some place
sizeof_at names _ place = None

-- ---- which prefix comes next

abbrev pub is_prefix_mark : PrefixKind → Bool
is_prefix_mark Loose = true
is_prefix_mark Tight = true
is_prefix_mark _ = false

abbrev pub begins_mark : Option TokenKind → Bool
begins_mark (Some (k.Punct op)) = is_prefix_mark (kind_of_mark op)
begins_mark _ = false

-- `(` and a token that begins a type name
unfoldable pub sees_cast : State → Bool
sees_cast i = sees p.LeftParen i && begins_type i.0 (peek (behind i.1))

-- `sizeof` `(` and a token that begins a type name
unfoldable pub sees_sizeof_type : State → Bool
sees_sizeof_type i = is_sizeof (peek i.1) && sees_cast (i.0, behind i.1)

-- A prefix comes next. None that is `(` type name `)` may stand behind `++`, `--` or `sizeof`.
unfoldable pub goes_prefix : Bool → State → Bool
goes_prefix tight i = begins_mark (peek i.1) || ((is_sizeof (peek i.1) && not (sees_sizeof_type i)) || (not tight && sees_cast i))

-- an operator and the operand behind it
unfoldable pub after_operator : Parser Expr → Parser Next
after_operator operand = do
  operator ← one operator_at
  x ← operand
  pure (roll-Next (record { operator = operator; operand = x }))

unfoldable pub nexts : ℕ → Parser Expr → Parser (List Next)
nexts level operand = many (goes level) (after_operator operand)

-- operators of one level, read to the left
unfoldable pub binary : Level → Parser Expr → Parser Expr
binary level operand = do
  first ← operand
  rest ← nexts (production.of_level level) operand
  pure (with_operands level first rest)

-- the list after an assignment's first operand goes on where the last operand so far is a unary expression
abbrev pub goes_assign : Bool → State → Bool
goes_assign unary i = unary && goes production.assignment i

abbrev pub last_unary : Bool → Next → Bool
last_unary before n = is_unary (out-Next n).operand

-- assignments, read to the right
unfoldable pub assigned_by : Parser Expr → Parser Expr
assigned_by operand = do
  first ← operand
  rest ← many_by goes_assign (λ _. after_operator operand) last_unary (is_unary first)
  pure (with_targets first rest)

unfoldable pub commas_by : Parser Expr → Parser Expr
commas_by operand = do
  first ← operand
  rest ← nexts production.comma operand
  pure (with_commas first rest)

module _ (more : ℕ) (inner : Inner) where
  -- ---- primary expressions (C11 6.5.1)

  unfoldable pub paren : Parser Expr
  paren = do
    from ← opening more p.LeftParen
    x ← inner.expr production.comma
    to ← expect p.RightParen
    pure (expr.Paren from x to)

  unfoldable pub strings : Parser Expr
  strings = do
    first ← one literal_at
    rest ← many (λ i. is_bytes (peek i.1)) (one literal_at)
    pure (expr.Strings (first ∷ rest))

  unfoldable pub primary : Parser Expr
  primary = choose (sees p.LeftParen) paren (choose (λ i. is_bytes (peek i.1)) strings (one atom_at))

  -- ---- postfix expressions (C11 6.5.2)

  unfoldable pub index : Parser Suffix
  index = do
    from ← opening more p.LeftBracket
    x ← inner.expr production.comma
    to ← expect p.RightBracket
    pure (suffix.Index from x to)

  abbrev pub no_arguments : Pos → Parser Suffix
  no_arguments from = do
    to ← expect p.RightParen
    pure (suffix.Call from to)

  abbrev pub arguments : Pos → Parser Suffix
  arguments from = do
    first ← inner.expr production.assignment
    rest ← nexts production.comma (inner.expr production.assignment)
    to ← expect p.RightParen
    pure (suffix.CallWith from first rest to)

  unfoldable pub call : Parser Suffix
  call = do
    from ← opening more p.LeftParen
    choose (sees p.RightParen) (no_arguments from) (arguments from)

  unfoldable pub member : Parser Suffix
  member = do
    at ← expect p.Dot
    name ← identifier
    pure (suffix.Member at name)

  unfoldable pub arrow : Parser Suffix
  arrow = do
    at ← expect p.Arrow
    name ← identifier
    pure (suffix.Arrow at name)

  unfoldable pub increment : Parser Suffix
  increment = do
    at ← expect p.Increment
    pure (suffix.Increment at)

  unfoldable pub decrement : Parser Suffix
  decrement = do
    at ← expect p.Decrement
    pure (suffix.Decrement at)

  unfoldable pub one_suffix : Parser Suffix
  one_suffix = choose (sees p.LeftBracket) index (choose (sees p.LeftParen) call (choose (sees p.Dot) member (choose (sees p.Arrow) arrow (choose (sees p.Increment) increment decrement))))

  unfoldable pub postfixed : Parser Expr
  postfixed = do
    a ← primary
    all ← many (goes production.postfix) one_suffix
    pure (with_suffixes a all)

  -- ---- unary expressions and casts (C11 6.5.3, 6.5.4)

  unfoldable pub cast_prefix : Parser Prefix
  cast_prefix = do
    from ← opening more p.LeftParen
    type ← type_name inner
    to ← expect p.RightParen
    pure (prefix.Cast from type to)

  unfoldable pub one_prefix : Parser Prefix
  one_prefix = choose (sees p.LeftParen) cast_prefix (one prefix_at)

  unfoldable pub sizeof_type : Parser Expr
  sizeof_type = do
    at ← one sizeof_at
    from ← opening more p.LeftParen
    type ← type_name inner
    to ← expect p.RightParen
    pure (expr.SizeofType at from type to)

  -- what may stand behind a run of prefixes
  unfoldable pub prefixed : Parser Expr
  prefixed = choose (λ i. is_sizeof (peek i.1)) sizeof_type postfixed

  unfoldable pub cast : Parser Expr
  cast = do
    run ← many_by goes_prefix (λ _. one_prefix) (λ _. ties) false
    a ← prefixed
    pure (with_run run a)

  -- ---- operators (C11 6.5.5 to 6.5.14)

  unfoldable pub product : Parser Expr
  product = binary level.Product cast

  unfoldable pub sum : Parser Expr
  sum = binary level.Sum product

  unfoldable pub shift : Parser Expr
  shift = binary level.Shift sum

  unfoldable pub relation : Parser Expr
  relation = binary level.Relation shift

  unfoldable pub equality : Parser Expr
  equality = binary level.Equality relation

  unfoldable pub bit_and : Parser Expr
  bit_and = binary level.BitAnd equality

  unfoldable pub bit_xor : Parser Expr
  bit_xor = binary level.BitXor bit_and

  unfoldable pub bit_or : Parser Expr
  bit_or = binary level.BitOr bit_xor

  unfoldable pub and : Parser Expr
  and = binary level.And bit_or

  unfoldable pub or : Parser Expr
  or = binary level.Or and

  -- ---- conditional expressions, assignments and commas (C11 6.5.15 to 6.5.17)

  unfoldable pub branch : Parser Branch
  branch = do
    question ← opening more p.Question
    gives ← inner.expr production.comma
    colon ← expect p.Colon
    operand ← or
    pure (roll-Branch (record { question = question; gives = gives; colon = colon; operand = operand }))

  unfoldable pub conditional : Parser Expr
  conditional = do
    a ← or
    all ← many (goes production.conditional) branch
    pure (with_branches a all)

  unfoldable pub assignment : Parser Expr
  assignment = assigned_by conditional

  unfoldable pub comma : Parser Expr
  comma = commas_by assignment

  unfoldable pub expression : ℕ → Parser Expr
  expression within = if within == production.comma then comma else (if within == production.assignment then assignment else conditional)
