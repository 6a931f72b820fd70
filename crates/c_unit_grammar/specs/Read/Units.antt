-- Function definitions and units, by recursive descent (C11 6.9).
use Rattle.std.specs.Prelude.{ℕ, Bool, true, false, ◌&&◌, is_some, List, [], ◌∷◌, None, Result, Ok, Err}
use Rattle.c_tree.specs.declared.token.Pos.{Pos}
use Rattle.c_tree.specs.declared.token.Punct.TheVariants as p
use Rattle.c_tree.specs.declared.specifier.Specifier.{Specifier}
use Rattle.c_tree.specs.declared.declarator.Declarator.{Declarator}
use Rattle.c_tree.specs.declared.statement.Block.{Block}
use Rattle.c_tree.specs.declared.unit.External.{External}
use Rattle.c_tree.specs.declared.unit.External.TheVariants as external
use Rattle.c_tree.specs.declared.unit.Unit as tree
use Rattle.c_tree.specs.Levels.Facts.{Beside}
use Rattle.c_tree.specs.Levels.Units.{is_listing, parameters_of}
use Rattle.c_tree.specs.Levelled.{nesting_limit}
use Rattle.c_grammar.specs.Input.{Tokens, State, Fault, Outcome, Parser, ◌>>=◌, ◌>>◌, pure, choose, peek, sees, expect, many, declare, enclosed}
use Rattle.c_grammar.specs.Read.Depth as depth
use Rattle.c_unit_grammar.specs.Read.Declarations.{named, start, next_declarator}
use Rattle.c_unit_grammar.specs.Read.Statements.{within, block}

-- a token is left
abbrev pub goes_external : State → Bool
goes_external i = is_some (peek i.1)

module _ (more : ℕ) where
  -- ---- what stands behind the specifiers of an external declaration

  -- the block of a definition, whose scope has what the parameter list beside the name declares (C11 6.9.1p9)
  unfoldable pub function_body : Beside → Parser Block
  function_body beside = enclosed (declare (parameters_of beside) >> block more (within more) false)

  abbrev pub definition : List Specifier → Declarator → Beside → Parser External
  definition specifiers d beside = do
    body ← function_body beside
    pure (external.Definition (record { specifiers = specifiers; declarator = d; body = body }))

  abbrev pub declaration_from : List Specifier → Declarator → Parser External
  declaration_from specifiers d = do
    s ← start more
    rest ← many (sees p.Comma) (next_declarator more specifiers)
    semicolon ← expect p.Semicolon
    pure (external.Declaration (record { specifiers = specifiers; declarators = record { comma = None; declarator = d; start = s } ∷ rest; semicolon = semicolon }))

  abbrev pub no_declarators : List Specifier → Parser External
  no_declarators specifiers = do
    semicolon ← expect p.Semicolon
    pure (external.Declaration (record { specifiers = specifiers; declarators = []; semicolon = semicolon }))

  -- a `{` behind a declarator with a parameter list beside its name begins the block of a definition
  abbrev pub begins_body : Beside → State → Bool
  begins_body beside i = sees p.LeftBrace i && is_listing beside

  abbrev pub with_declarator : List Specifier → Parser External
  with_declarator specifiers = do
    d ← named more specifiers
    choose (begins_body d.1) (definition specifiers d.0 d.1) (declaration_from specifiers d.0)

  -- a declaration or a definition
  unfoldable pub one_external : Parser External
  one_external = do
    specifiers ← depth.specifiers more true
    choose (sees p.Semicolon) (no_declarators specifiers) (with_declarator specifiers)

  -- ---- units

  -- declarations and definitions to the end of the tokens, at least one
  unfoldable pub externals : Parser (List External)
  externals = do
    first ← one_external
    rest ← many goes_external one_external
    pure (first ∷ rest)

-- what was read of a unit, whose source ends at this place
abbrev pub unit_of : Pos → Outcome (List External) → Result tree.Unit Fault
unit_of end (Ok p) = Ok (record { items = p.0; end = end })
unit_of end (Err e) = Err e

-- The unit that is spelt by all the tokens of a source which ends at this place.
unfoldable pub parse : Tokens → Pos → Result tree.Unit Fault
parse tokens end = unit_of end (externals nesting_limit ([], tokens))
