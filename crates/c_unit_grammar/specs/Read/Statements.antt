-- Statements, by recursive descent (C11 6.8). What stands in a block or is a body and no block is read by `inner`.
use Rattle.std.specs.Prelude.{ℕ, zero, suc, Bool, true, false, not, ◌&&◌, is_some, Option, Some, None}
use Rattle.c_tree.specs.declared.token.Pos.{Pos}
use Rattle.c_tree.specs.declared.token.Punct.{Punct}
use Rattle.c_tree.specs.declared.token.Punct.TheVariants as p
use Rattle.c_tree.specs.declared.token.Keyword.TheVariants as word
use Rattle.c_tree.specs.declared.token.TokenKind.{TokenKind}
use Rattle.c_tree.specs.declared.expression.Expr.{Expr}
use Rattle.c_tree.specs.declared.statement.Condition.{Condition}
use Rattle.c_tree.specs.declared.statement.ForHead.{ForHead}
use Rattle.c_tree.specs.declared.statement.ForHead.TheVariants as head
use Rattle.c_tree.specs.declared.statement.ForControl.{ForControl}
use Rattle.c_tree.specs.declared.statement.Stmt.{Stmt}
use Rattle.c_tree.specs.declared.statement.Stmt.TheVariants as stmt
use Rattle.c_tree.specs.declared.statement.Else.{Else, out-Else, roll-Else}
use Rattle.c_tree.specs.declared.statement.Block.{Block, roll-Block}
use Rattle.c_tree.specs.declared.statement.BlockItem.{BlockItem}
use Rattle.c_tree.specs.declared.statement.BlockItem.TheVariants as block_item
use Rattle.c_tree.specs.Levels.Productions as production
use Rattle.c_grammar.specs.Input.{State, Parser, ◌>>=◌, pure, refuse, too_deep, choose, peek, is_mark, sees, expect, opening, many_by, many, enclosed}
use Rattle.c_grammar.specs.Read.Inner.{begins_specifier}
use Rattle.c_grammar.specs.Read.Depth.{inside, expression}
use Rattle.c_unit_grammar.specs.Read.Words.{sees_word, expect_word, dispatch, StatementKind, Braced, Ifs, Whiles, Does, Fors, Switches, Breaks, Continues, Returns, Expressed, statement_kind, begins_statement, ItemKind, Declares, Cases, Defaults, States, item_kind}
use Rattle.c_unit_grammar.specs.Read.Declarations.{declaration, inside_declaration}

-- The parsers of what is nested by one more.
pub record Within : Type 0 where
  -- an item of a block, of a switch or of another
  pub item : Bool → Parser BlockItem
  -- a body that is no block
  pub body : Parser Stmt

-- ---- values and conditions

abbrev pub no_value : Punct → Parser (Option Expr × Pos)
no_value op = do
  at ← expect op
  pure (None, at)

abbrev pub some_value : Punct → Parser Expr → Parser (Option Expr × Pos)
some_value op value = do
  x ← value
  at ← expect op
  pure (Some x, at)

-- an expression or nothing, and the mark behind it
unfoldable pub value_until : Punct → Parser Expr → Parser (Option Expr × Pos)
value_until op value = choose (sees op) (no_value op) (some_value op value)

module _ (more : ℕ) where
  -- `(` expression `)`
  unfoldable pub condition : Parser Condition
  condition = do
    from ← opening more p.LeftParen
    x ← (inside more).expr production.comma
    to ← expect p.RightParen
    pure (record { opening = from; value = x; closing = to })

  -- ---- the brackets of `for` (C11 6.8.5.3)

  abbrev pub declaring_head : Parser ForHead
  declaring_head = do
    d ← inside_declaration more
    pure (head.Declaration d)

  abbrev pub valued_head : Parser ForHead
  valued_head = do
    v ← value_until p.Semicolon ((inside more).expr production.comma)
    pure (head.Expression v.0 v.1)

  unfoldable pub for_head : Parser ForHead
  for_head = choose (λ i. begins_specifier true false i.0 (peek i.1)) declaring_head valued_head

  unfoldable pub for_control : Parser ForControl
  for_control = do
    from ← opening more p.LeftParen
    first ← for_head
    test ← value_until p.Semicolon ((inside more).expr production.comma)
    step ← value_until p.RightParen ((inside more).expr production.comma)
    pure (record { opening = from; head = first; condition = test.0; semicolon = test.1; step = step.0; closing = step.1 })

  -- ---- simple statements

  unfoldable pub expression_statement : Parser Stmt
  expression_statement = do
    v ← value_until p.Semicolon (expression more production.comma)
    pure (stmt.Expression v.0 v.1)

  unfoldable pub break_statement : Parser Stmt
  break_statement = do
    at ← expect_word word.Break
    semicolon ← expect p.Semicolon
    pure (stmt.Break at semicolon)

  unfoldable pub continue_statement : Parser Stmt
  continue_statement = do
    at ← expect_word word.Continue
    semicolon ← expect p.Semicolon
    pure (stmt.Continue at semicolon)

  unfoldable pub return_statement : Parser Stmt
  return_statement = do
    at ← expect_word word.Return
    v ← value_until p.Semicolon (expression more production.comma)
    pure (stmt.Return at v.0 v.1)

-- ---- lists

-- a token that does not close a block
abbrev pub is_in_block : Option TokenKind → Bool
is_in_block None = false
is_in_block (Some kind) = not (is_mark p.RightBrace (Some kind))

abbrev pub goes_item : State → Bool
goes_item i = is_in_block (peek i.1)

-- `else`, where the `if` may take one: the last one was no `else` without `if`
abbrev pub goes_else : Bool → State → Bool
goes_else may i = may && sees_word word.Else i

abbrev pub goes_further : Bool → Else → Bool
goes_further may e = is_some (out-Else e).head

module _ (more : ℕ) (inner : Within) where
  -- ---- blocks and bodies

  -- a block, of a switch or another
  unfoldable pub block : Bool → Parser Block
  block labels = do
    from ← opening more p.LeftBrace
    items ← many goes_item (inner.item labels)
    to ← expect p.RightBrace
    pure (roll-Block (record { opening = from; items = items; closing = to }))

  unfoldable pub block_statement : Parser Stmt
  block_statement = do
    b ← enclosed (block false)
    pure (stmt.Block b)

  -- a body, which is a scope
  unfoldable pub body : Parser Stmt
  body = enclosed (choose (sees p.LeftBrace) block_statement inner.body)

  -- ---- statements that are scopes (C11 6.8.4, 6.8.5)

  abbrev pub else_if : Pos → Parser Else
  else_if at = do
    if_at ← expect_word word.If
    c ← condition more
    b ← body
    pure (roll-Else (record { word = at; head = Some (record { word = if_at; condition = c }); body = b }))

  abbrev pub last_else : Pos → Parser Else
  last_else at = do
    b ← body
    pure (roll-Else (record { word = at; head = None; body = b }))

  unfoldable pub one_else : Parser Else
  one_else = do
    at ← expect_word word.Else
    choose (sees_word word.If) (else_if at) (last_else at)

  unfoldable pub if_statement : Parser Stmt
  if_statement = enclosed (do
    at ← expect_word word.If
    c ← condition more
    b ← body
    others ← many_by goes_else (λ _. one_else) goes_further true
    pure (stmt.If at c b others))

  unfoldable pub while_statement : Parser Stmt
  while_statement = enclosed (do
    at ← expect_word word.While
    c ← condition more
    b ← body
    pure (stmt.While at c b))

  unfoldable pub do_statement : Parser Stmt
  do_statement = enclosed (do
    at ← expect_word word.Do
    b ← body
    while_at ← expect_word word.While
    c ← condition more
    semicolon ← expect p.Semicolon
    pure (stmt.Do at b while_at c semicolon))

  unfoldable pub for_statement : Parser Stmt
  for_statement = enclosed (do
    at ← expect_word word.For
    control ← for_control more
    b ← body
    pure (stmt.For at control b))

  unfoldable pub switch_statement : Parser Stmt
  switch_statement = enclosed (do
    at ← expect_word word.Switch
    c ← condition more
    b ← enclosed (block true)
    pure (stmt.Switch at c b))

  -- ---- statements

  abbrev pub of_kind : StatementKind → Parser Stmt
  of_kind Braced = block_statement
  of_kind Ifs = if_statement
  of_kind Whiles = while_statement
  of_kind Does = do_statement
  of_kind Fors = for_statement
  of_kind Switches = switch_statement
  of_kind Breaks = break_statement more
  of_kind Continues = continue_statement more
  of_kind Returns = return_statement more
  of_kind Expressed = expression_statement more

  unfoldable pub statement : Parser Stmt
  statement = dispatch (λ i. statement_kind (peek i.1)) of_kind

  -- ---- items of a block (C11 6.8.2, 6.8.1)

  abbrev pub declaration_item : Parser BlockItem
  declaration_item = do
    d ← declaration more
    pure (block_item.Declaration d)

  abbrev pub case_item : Parser BlockItem
  case_item = do
    at ← expect_word word.Case
    value ← expression more production.conditional
    colon ← expect p.Colon
    pure (block_item.Case at value colon)

  abbrev pub default_item : Parser BlockItem
  default_item = do
    at ← expect_word word.Default
    colon ← expect p.Colon
    pure (block_item.Default at colon)

  abbrev pub statement_item : Parser BlockItem
  statement_item = do
    s ← statement
    pure (block_item.Statement s)

  abbrev pub item_of_kind : ItemKind → Parser BlockItem
  item_of_kind Declares = declaration_item
  item_of_kind Cases = case_item
  item_of_kind Defaults = default_item
  item_of_kind States = statement_item

  unfoldable pub item : Bool → Parser BlockItem
  item labels = dispatch (λ i. item_kind labels i.0 (peek i.1)) item_of_kind

-- ---- the depth

-- what is nested by one more, where no more may be
abbrev pub nowhere : Within
nowhere = record { item = λ _. too_deep; body = choose (λ i. begins_statement i.0 (peek i.1)) too_deep refuse }

abbrev pub around : ℕ → Within → Within
around more inner = record { item = item more inner; body = statement more inner }

-- What is nested by one more, where so many could be opened with it.
unfoldable pub within : ℕ → Within
within zero = nowhere
within (suc more) = around more (within more)
