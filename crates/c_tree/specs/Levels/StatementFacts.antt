-- What is told of the parts of a statement, and how an `if` with its `else`s is put together (C11 6.8.4.1).
use Rattle.std.specs.Prelude.{Bool, true, false, not, ◌&&◌, ◌||◌, List, [], ◌∷◌}

-- what is told of a statement (C11 6.8)
pub record StatementFacts : Type 0 where
  pub good : Bool
  -- an `else` right behind it would belong to an `if` in it
  pub takes_else : Bool
  pub is_if : Bool

-- a statement that is no `if` and takes no `else`
abbrev pub closed : Bool → StatementFacts
closed good = record { good = good; takes_else = false; is_if = false }

-- what is told of an `else` and its body
pub record ElseFacts : Type 0 where
  pub good : Bool
  -- no `if` stands right behind the `else`
  pub is_last : Bool
  pub body : StatementFacts

-- what is told of an item of a block: `case` and `default` with their colon are labels (C11 6.8.1)
pub record ItemFacts : Type 0 where
  pub good : Bool
  pub is_label : Bool

-- what is told of a block
pub record BlockFacts : Type 0 where
  pub good : Bool
  pub has_label : Bool

-- the same, from what is told of each item
abbrev pub facts_of_block : List ItemFacts → BlockFacts
facts_of_block [] = record { good = true; has_label = false }
facts_of_block (x ∷ xs) = let more = facts_of_block xs in record { good = x.good && more.good; has_label = x.is_label || more.has_label }

-- Each `else` belongs to the nearest `if` that can take it: the body before it takes none. A last `else` has
-- nothing behind it, and its body is no `if`.
abbrev pub chained : Bool → List ElseFacts → Bool
chained taking [] = true
chained taking (e ∷ []) = not taking && (e.good && not (e.is_last && e.body.is_if))
chained taking (e ∷ f ∷ more) = not taking && (e.good && (not e.is_last && chained e.body.takes_else (f ∷ more)))

-- an `else` right behind them would belong to the `if` or to a body in it
abbrev pub takes_more : List ElseFacts → Bool
takes_more [] = true
takes_more (e ∷ []) = not e.is_last || e.body.takes_else
takes_more (e ∷ f ∷ more) = takes_more (f ∷ more)
