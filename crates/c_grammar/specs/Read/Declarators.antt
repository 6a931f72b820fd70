-- Declarators, by recursive descent (C11 6.7.6). What stands in brackets is read by `inner`.
use Rattle.std.specs.Prelude.{ℕ, Bool, true, false, not, ◌&&◌, ◌||◌, if◌then◌else◌, List, ◌∷◌, Option, Some, None}
use Rattle.c_tree.specs.declared.token.Pos.{Pos}
use Rattle.c_tree.specs.declared.token.Punct.TheVariants as p
use Rattle.c_tree.specs.declared.token.Keyword.TheVariants as word
use Rattle.c_tree.specs.declared.token.TokenKind.{TokenKind}
use Rattle.c_tree.specs.declared.token.TokenKind.TheVariants as k
use Rattle.c_tree.specs.declared.specifier.Specifier.{Specifier}
use Rattle.c_tree.specs.declared.declarator.Pointer.{Pointer}
use Rattle.c_tree.specs.declared.declarator.Declarator.{Declarator, roll-Declarator}
use Rattle.c_tree.specs.declared.declarator.Direct.{Direct}
use Rattle.c_tree.specs.declared.declarator.Direct.TheVariants as direct
use Rattle.c_tree.specs.declared.declarator.DeclaratorSuffix.{DeclaratorSuffix}
use Rattle.c_tree.specs.declared.declarator.DeclaratorSuffix.TheVariants as suffix
use Rattle.c_tree.specs.declared.declarator.Parameter.{Parameter, roll-Parameter}
use Rattle.c_tree.specs.Levels.Names.{Names, is_typedef_name}
use Rattle.c_tree.specs.Levels.Productions as production
use Rattle.c_tree.specs.Levels.Facts.{Use, Declaring, Abstract, Parameter as Parametric, names_of}
use Rattle.c_tree.specs.Levels.Trees.{declarator_level}
use Rattle.c_grammar.specs.Input.{State, Parser, ◌>>=◌, ◌>>◌, pure, refuse, choose, peek, behind, is_mark, sees, one, expect, identifier, opening, many, declare, enclosed}
use Rattle.c_grammar.specs.Read.Nodes.{name_type, have_typedef, is_nothing}
use Rattle.c_grammar.specs.Read.Inner.{Inner, is_const, is_void, begins_parameters}

-- ---- one token

abbrev pub const_at : Names → TokenKind → Pos → Option Pos
const_at names (k.Keyword word.Const) place = Some place
const_at names _ place = None

abbrev pub void_at : Names → TokenKind → Pos → Option Pos
void_at names (k.Keyword word.Void) place = Some place
void_at names _ place = None

-- ---- pointers (C11 6.7.6.1)

unfoldable pub pointer : Parser Pointer
pointer = do
  star ← expect p.Star
  constants ← many (λ i. is_const (peek i.1)) (one const_at)
  pure (record { star = star; constants = constants })

unfoldable pub pointers : Parser (List Pointer)
pointers = many (sees p.Star) pointer

-- ---- the middle of a declarator

-- the name of a declarator, where the use has one; a typedef name is declared anew only behind specifiers that name a type
abbrev pub takes_name : Use → Bool → Names → Option TokenKind → Bool
takes_name Abstract typed names kind = false
takes_name _ typed names (Some (k.Name text)) = typed || not (is_typedef_name names text)
takes_name _ typed names _ = false

-- `(` opens a declarator and no parameters, by the token behind it
abbrev pub opens_declarator : Use → Names → Option TokenKind → Bool
opens_declarator Declaring names kind = true
opens_declarator _ names kind = not (begins_parameters names kind)

abbrev pub has_name : Use → Bool
has_name Declaring = true
has_name _ = false

abbrev pub named : Parser Direct
named = do
  id ← identifier
  pure (direct.Named id)

abbrev pub no_name : Use → Parser Direct
no_name purpose = if has_name purpose then refuse else pure direct.Nothing

-- `(` `void` `)`
abbrev pub sees_void : State → Bool
sees_void i = is_void (peek i.1) && is_mark p.RightParen (peek (behind i.1))

module _ (more : ℕ) (inner : Inner) where
  -- brackets are not round nothing
  abbrev pub closed : Pos → Declarator → Parser Direct
  closed from d = do
    to ← expect p.RightParen
    pure (direct.Grouped from d to)

  unfoldable pub grouped : Use → Bool → Parser Direct
  grouped purpose typed = do
    from ← opening more p.LeftParen
    d ← inner.declarator purpose typed
    if is_nothing d then refuse else closed from d

  unfoldable pub middle : Use → Bool → Parser Direct
  middle purpose typed = choose (λ i. sees p.LeftParen i && opens_declarator purpose i.0 (peek (behind i.1))) (grouped purpose typed)
      (choose (λ i. takes_name purpose typed i.0 (peek i.1)) named (no_name purpose))

  -- ---- arrays (C11 6.7.6.2)

  abbrev pub unsized : Pos → Parser DeclaratorSuffix
  unsized from = do
    to ← expect p.RightBracket
    pure (suffix.Array from to)

  abbrev pub sized : Pos → Parser DeclaratorSuffix
  sized from = do
    size ← inner.expr production.conditional
    to ← expect p.RightBracket
    pure (suffix.ArrayOf from size to)

  unfoldable pub array : Parser DeclaratorSuffix
  array = do
    from ← opening more p.LeftBracket
    choose (sees p.RightBracket) (unsized from) (sized from)

  -- ---- parameters (C11 6.7.6.3)

  -- what a parameter declares is visible from its end
  abbrev pub parameter_behind : Option Pos → List Specifier → Parser Parameter
  parameter_behind comma specifiers = λ i. (do
    d ← inner.declarator Parametric (name_type specifiers)
    declare (names_of (have_typedef specifiers) (declarator_level d i.0).0.name)
    pure (roll-Parameter (record { comma = comma; specifiers = specifiers; declarator = d }))) i

  unfoldable pub parameter : Option Pos → Parser Parameter
  parameter comma = do
    specifiers ← inner.specifiers true
    parameter_behind comma specifiers

  unfoldable pub next_parameter : Parser Parameter
  next_parameter = do
    comma ← expect p.Comma
    parameter (Some comma)

  abbrev pub no_parameters : Pos → Parser DeclaratorSuffix
  no_parameters from = do
    to ← expect p.RightParen
    pure (suffix.Empty from to)

  abbrev pub void_parameters : Pos → Parser DeclaratorSuffix
  void_parameters from = do
    at ← one void_at
    to ← expect p.RightParen
    pure (suffix.Void from at to)

  abbrev pub some_parameters : Pos → Parser DeclaratorSuffix
  some_parameters from = enclosed (do
    first ← parameter None
    rest ← many (sees p.Comma) next_parameter
    to ← expect p.RightParen
    pure (suffix.Parameters from (first ∷ rest) to))

  unfoldable pub parameters : Parser DeclaratorSuffix
  parameters = do
    from ← opening more p.LeftParen
    choose (sees p.RightParen) (no_parameters from) (choose sees_void (void_parameters from) (some_parameters from))

  -- ---- declarators

  abbrev pub goes_suffix : State → Bool
  goes_suffix i = sees p.LeftBracket i || sees p.LeftParen i

  unfoldable pub one_suffix : Parser DeclaratorSuffix
  one_suffix = choose (sees p.LeftBracket) array parameters

  unfoldable pub declarator : Use → Bool → Parser Declarator
  declarator purpose typed = do
    stars ← pointers
    d ← middle purpose typed
    suffixes ← many goes_suffix one_suffix
    pure (roll-Declarator (record { pointers = stars; direct = d; suffixes = suffixes }))
