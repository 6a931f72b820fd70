-- Keywords, and which production the next token begins.
use Rattle.std.specs.Prelude.{Bool, true, false, not, ◌||◌, if◌then◌else◌, Option, Some, None}
use Rattle.c_tree.specs.declared.token.Pos.{Pos}
use Rattle.c_tree.specs.declared.token.Keyword.{Keyword}
use Rattle.c_tree.specs.declared.token.Keyword.TheVariants as word
use Rattle.c_tree.specs.declared.token.Punct.TheVariants as p
use Rattle.c_tree.specs.declared.token.TokenKind.{TokenKind}
use Rattle.c_tree.specs.declared.token.TokenKind.TheVariants as k
use Rattle.c_tree.specs.Levels.Names.{Names, is_typedef_name}
use Rattle.c_grammar.specs.Punctuators.{same_mark}
use Rattle.c_grammar.specs.Input.{State, Parser, peek, one}
use Rattle.c_grammar.specs.Read.Inner.{begins_specifier}
use Rattle.c_grammar.specs.Read.Expressions.{begins_mark}
use Rattle.c_unit_grammar.specs.Keywords.{same_word}

-- ---- one keyword

abbrev pub is_word : Keyword → Option TokenKind → Bool
is_word key (Some (k.Keyword other)) = same_word other key
is_word key _ = false

-- the next token is this keyword
abbrev pub sees_word : Keyword → State → Bool
sees_word key i = is_word key (peek i.1)

abbrev pub keyword_at : Keyword → Names → TokenKind → Pos → Option Pos
keyword_at key names (k.Keyword other) place = if same_word other key then Some place else None
keyword_at key names _ place = None

-- the place of the next token, which is this keyword
abbrev pub expect_word : Keyword → Parser Pos
expect_word key = one (keyword_at key)

-- ---- which production comes next

-- one of several parsers, as the state is
abbrev pub dispatch : {A K : Type 0} → (State → K) → (K → Parser A) → Parser A
dispatch kind reads = λ i. reads (kind i) i

-- the kinds of statements (C11 6.8)
pub data StatementKind : Type 0 where
  Braced : StatementKind
  Ifs : StatementKind
  Whiles : StatementKind
  Does : StatementKind
  Fors : StatementKind
  Switches : StatementKind
  Breaks : StatementKind
  Continues : StatementKind
  Returns : StatementKind
  -- an expression or nothing, and `;`
  Expressed : StatementKind

-- the kind of statement that a token begins
abbrev pub statement_kind : Option TokenKind → StatementKind
statement_kind (Some (k.Punct p.LeftBrace)) = Braced
statement_kind (Some (k.Keyword word.If)) = Ifs
statement_kind (Some (k.Keyword word.While)) = Whiles
statement_kind (Some (k.Keyword word.Do)) = Does
statement_kind (Some (k.Keyword word.For)) = Fors
statement_kind (Some (k.Keyword word.Switch)) = Switches
statement_kind (Some (k.Keyword word.Break)) = Breaks
statement_kind (Some (k.Keyword word.Continue)) = Continues
statement_kind (Some (k.Keyword word.Return)) = Returns
statement_kind _ = Expressed

-- a token that begins an expression, `;` or a word that begins a statement
abbrev pub begins_statement : Names → Option TokenKind → Bool
begins_statement names None = false
begins_statement names (Some (k.Name text)) = not (is_typedef_name names text)
begins_statement names (Some (k.Keyword word.If)) = true
begins_statement names (Some (k.Keyword word.While)) = true
begins_statement names (Some (k.Keyword word.Do)) = true
begins_statement names (Some (k.Keyword word.For)) = true
begins_statement names (Some (k.Keyword word.Switch)) = true
begins_statement names (Some (k.Keyword word.Break)) = true
begins_statement names (Some (k.Keyword word.Continue)) = true
begins_statement names (Some (k.Keyword word.Return)) = true
begins_statement names (Some (k.Keyword word.Sizeof)) = true
begins_statement names (Some (k.Keyword _)) = false
begins_statement names (Some (k.Punct op)) = same_mark op p.Semicolon || (same_mark op p.LeftParen || begins_mark (Some (k.Punct op)))
begins_statement names (Some _) = true

-- the kinds of items of a block
pub data ItemKind : Type 0 where
  Declares : ItemKind
  Cases : ItemKind
  Defaults : ItemKind
  States : ItemKind

-- a label of a switch, where labels may stand
abbrev pub label_kind : Bool → Option TokenKind → ItemKind
label_kind true (Some (k.Keyword word.Case)) = Cases
label_kind true (Some (k.Keyword word.Default)) = Defaults
label_kind _ _ = States

-- The kind of item that a token begins, where labels may stand or not. What begins with a specifier is a declaration.
abbrev pub item_kind : Bool → Names → Option TokenKind → ItemKind
item_kind labels names kind = if begins_specifier true false names kind then Declares else label_kind labels kind
