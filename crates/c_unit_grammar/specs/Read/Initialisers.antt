-- Initialisers, by recursive descent (C11 6.7.9).
use Rattle.std.specs.Prelude.{ℕ, zero, suc, Bool, not, ◌&&◌, ◌∷◌, Some, None}
use Rattle.c_tree.specs.declared.token.Punct.TheVariants as p
use Rattle.c_tree.specs.declared.declaration.Initialiser.{Initialiser}
use Rattle.c_tree.specs.declared.declaration.Initialiser.TheVariants as init
use Rattle.c_tree.specs.declared.declaration.InitialiserItem.{InitialiserItem, roll-InitialiserItem}
use Rattle.c_tree.specs.Levels.Productions as production
use Rattle.c_grammar.specs.Input.{State, Parser, ◌>>=◌, pure, choose, too_deep, peek, behind, is_mark, sees, expect, opening, many}
use Rattle.c_grammar.specs.Read.Specifiers.{optional_comma}
use Rattle.c_grammar.specs.Read.Depth.{expression}

-- a comma, behind which no brace closes
abbrev pub goes_initialiser : State → Bool
goes_initialiser i = sees p.Comma i && not (is_mark p.RightBrace (peek (behind i.1)))

module _ (more : ℕ) (inner : Parser Initialiser) where
  unfoldable pub assigned : Parser Initialiser
  assigned = do
    value ← expression more production.assignment
    pure (init.Expression value)

  unfoldable pub first_initialiser : Parser InitialiserItem
  first_initialiser = do
    value ← inner
    pure (roll-InitialiserItem (record { comma = None; value = value }))

  unfoldable pub next_initialiser : Parser InitialiserItem
  next_initialiser = do
    comma ← expect p.Comma
    value ← inner
    pure (roll-InitialiserItem (record { comma = Some comma; value = value }))

  unfoldable pub in_braces : Parser Initialiser
  in_braces = do
    from ← opening more p.LeftBrace
    first ← first_initialiser
    rest ← many goes_initialiser next_initialiser
    last ← optional_comma
    to ← expect p.RightBrace
    pure (init.List from (first ∷ rest) last to)

  unfoldable pub one_initialiser : Parser Initialiser
  one_initialiser = choose (sees p.LeftBrace) in_braces assigned

-- What stands in braces, where so many brackets could be opened with the brace around it.
unfoldable pub inside_initialiser : ℕ → Parser Initialiser
inside_initialiser zero = too_deep
inside_initialiser (suc more) = one_initialiser more (inside_initialiser more)

-- an initialiser, where so many brackets may be opened
unfoldable pub initialiser : ℕ → Parser Initialiser
initialiser more = inside_initialiser (suc more)
