-- Specifiers, by recursive descent (C11 6.7.1 to 6.7.3). What stands in braces is read by `inner`.
use Rattle.std.specs.Prelude.{ℕ, Bool, true, false, not, ◌&&◌, ◌||◌, if◌then◌else◌, List, [], ◌∷◌, Option, Some, None}
use Rattle.c_tree.specs.declared.token.Pos.{Pos}
use Rattle.c_tree.specs.declared.token.Punct.TheVariants as p
use Rattle.c_tree.specs.declared.token.Keyword.{Keyword}
use Rattle.c_tree.specs.declared.token.Keyword.TheVariants as word
use Rattle.c_tree.specs.declared.token.TokenKind.{TokenKind}
use Rattle.c_tree.specs.declared.token.TokenKind.TheVariants as k
use Rattle.c_tree.specs.declared.expression.Identifier.{Identifier}
use Rattle.c_tree.specs.declared.specifier.Specifier.{Specifier}
use Rattle.c_tree.specs.declared.specifier.Specifier.TheVariants as specifier
use Rattle.c_tree.specs.declared.specifier.Storage.{Storage}
use Rattle.c_tree.specs.declared.specifier.TypeWord.{TypeWord}
use Rattle.c_tree.specs.declared.specifier.Member.{Member, roll-Member}
use Rattle.c_tree.specs.declared.specifier.MemberDeclarator.{MemberDeclarator, roll-MemberDeclarator}
use Rattle.c_tree.specs.declared.specifier.Enumerator.{Enumerator}
use Rattle.c_tree.specs.declared.specifier.Enumerator.TheVariants as enumerator
use Rattle.c_tree.specs.Levels.Names.{Names, is_typedef_name}
use Rattle.c_tree.specs.Levels.Productions as production
use Rattle.c_tree.specs.Levels.Facts.{Declaring}
use Rattle.c_grammar.specs.Input.{State, Parser, ◌>>=◌, ◌>>◌, pure, choose, peek, behind, is_name, sees, one, expect, identifier, opening, many_by, many, declare}
use Rattle.c_grammar.specs.Read.Nodes.{is_type, name_type}
use Rattle.c_grammar.specs.Read.Inner.{Inner, storage_of, type_of, is_struct, is_enum, begins_specifier, begins_type}

-- ---- one token

abbrev pub struct_at : Names → TokenKind → Pos → Option Pos
struct_at names (k.Keyword word.Struct) place = Some place
struct_at names _ place = None

abbrev pub enum_at : Names → TokenKind → Pos → Option Pos
enum_at names (k.Keyword word.Enum) place = Some place
enum_at names _ place = None

abbrev pub storage_word_at : Bool → Option Storage → Pos → Option Specifier
storage_word_at true (Some storage) place = Some (specifier.Storage storage place)
storage_word_at _ _ place = None

abbrev pub type_word_at : Bool → Keyword → Option TypeWord → Pos → Option Specifier
type_word_at with_storage key (Some type) place = Some (specifier.Word type place)
type_word_at with_storage key None place = storage_word_at with_storage (storage_of key) place

abbrev pub word_at : Bool → Keyword → Pos → Option Specifier
word_at with_storage word.Const place = Some (specifier.Const place)
word_at with_storage key place = type_word_at with_storage key (type_of key) place

-- a specifier of one token, with storage words or without; a typedef name only where no type was named before
abbrev pub plain_at : Bool → Bool → Names → TokenKind → Pos → Option Specifier
plain_at with_storage typed names (k.Keyword key) place = word_at with_storage key place
plain_at with_storage typed names (k.Name text) place = if not typed && is_typedef_name names text then Some (specifier.TypedefName (record { text = text; place = place })) else None
plain_at with_storage typed names _ place = None

-- ---- specifiers

-- a comma and the name of a further enumerator
abbrev pub goes_enumerator : State → Bool
goes_enumerator i = sees p.Comma i && is_name (peek (behind i.1))

abbrev pub optional_comma : Parser (Option Pos)
optional_comma = choose (sees p.Comma) (expect p.Comma >>= (λ at. pure (Some at))) (pure None)

module _ (more : ℕ) (inner : Inner) where
  -- ---- members of a struct (C11 6.7.2.1)

  abbrev pub first_member_declarator : Bool → Parser MemberDeclarator
  first_member_declarator typed = do
    d ← inner.declarator Declaring typed
    pure (roll-MemberDeclarator (record { comma = None; declarator = d }))

  abbrev pub next_member_declarator : Bool → Parser MemberDeclarator
  next_member_declarator typed = do
    comma ← expect p.Comma
    d ← inner.declarator Declaring typed
    pure (roll-MemberDeclarator (record { comma = Some comma; declarator = d }))

  unfoldable pub member : Parser Member
  member = do
    specifiers ← inner.specifiers false
    first ← first_member_declarator (name_type specifiers)
    rest ← many (sees p.Comma) (next_member_declarator (name_type specifiers))
    semicolon ← expect p.Semicolon
    pure (roll-Member (record { specifiers = specifiers; declarators = first ∷ rest; semicolon = semicolon }))

  abbrev pub goes_member : State → Bool
  goes_member i = begins_type i.0 (peek i.1)

  unfoldable pub struct_body : Pos → Option Identifier → Parser Specifier
  struct_body at tag = do
    from ← opening more p.LeftBrace
    first ← member
    rest ← many goes_member member
    to ← expect p.RightBrace
    pure (specifier.Struct at tag from (first ∷ rest) to)

  abbrev pub struct_tagged : Pos → Parser Specifier
  struct_tagged at = do
    tag ← identifier
    choose (sees p.LeftBrace) (struct_body at (Some tag)) (pure (specifier.StructTag at tag))

  unfoldable pub struct_specifier : Parser Specifier
  struct_specifier = do
    at ← one struct_at
    choose (λ i. is_name (peek i.1)) (struct_tagged at) (struct_body at None)

  -- ---- enumerators (C11 6.7.2.2)

  abbrev pub enumerator_value : Option Pos → Identifier → Parser Enumerator
  enumerator_value comma id = do
    equals ← expect p.Assign
    value ← inner.expr production.conditional
    pure (enumerator.Valued comma id equals value)

  -- a name, and its value where one stands; the name is visible from the end
  unfoldable pub one_enumerator : Option Pos → Parser Enumerator
  one_enumerator comma = do
    id ← identifier
    x ← choose (sees p.Assign) (enumerator_value comma id) (pure (enumerator.Plain comma id))
    declare ((id.text, false) ∷ [])
    pure x

  unfoldable pub next_enumerator : Parser Enumerator
  next_enumerator = do
    comma ← expect p.Comma
    one_enumerator (Some comma)

  unfoldable pub enum_body : Pos → Option Identifier → Parser Specifier
  enum_body at tag = do
    from ← opening more p.LeftBrace
    first ← one_enumerator None
    rest ← many goes_enumerator next_enumerator
    last ← optional_comma
    to ← expect p.RightBrace
    pure (specifier.Enum at tag from (first ∷ rest) last to)

  abbrev pub enum_tagged : Pos → Parser Specifier
  enum_tagged at = do
    tag ← identifier
    choose (sees p.LeftBrace) (enum_body at (Some tag)) (pure (specifier.EnumTag at tag))

  unfoldable pub enum_specifier : Parser Specifier
  enum_specifier = do
    at ← one enum_at
    choose (λ i. is_name (peek i.1)) (enum_tagged at) (enum_body at None)

  -- ---- specifiers, one or more

  unfoldable pub one_specifier : Bool → Bool → Parser Specifier
  one_specifier with_storage typed = choose (λ i. is_struct (peek i.1)) struct_specifier (choose (λ i. is_enum (peek i.1)) enum_specifier (one (plain_at with_storage typed)))

  abbrev pub goes_specifier : Bool → Bool → State → Bool
  goes_specifier with_storage typed i = begins_specifier with_storage typed i.0 (peek i.1)

  abbrev pub types : Bool → Specifier → Bool
  types typed x = typed || is_type x

  unfoldable pub specifiers : Bool → Parser (List Specifier)
  specifiers with_storage = do
    first ← one_specifier with_storage false
    rest ← many_by (goes_specifier with_storage) (one_specifier with_storage) types (is_type first)
    pure (first ∷ rest)
