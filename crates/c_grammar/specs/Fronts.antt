-- The longest front of tokens that begins a tree of a production, and a parser that is right there.
use Rattle.std.specs.Prelude.{◌≡◌, ℕ, ◌≤◌, Bool, true, not, ◌&&◌, [], ◌∷◌, ◌++◌, Ok}
use Rattle.c_tree.specs.declared.token.Token.{Token}
use Rattle.c_tree.specs.Levels.Names.{Names, With}
use Rattle.c_grammar.specs.Input.{Tokens, State, Parser}

-- none of these names is declared as a typedef name
abbrev pub no_typedefs : Names → Bool
no_typedefs [] = true
no_typedefs (pair ∷ names) = not pair.1 && no_typedefs names

-- what is told declares no typedef name, whatever is visible
abbrev pub NoTypedefs : {A : Type 0} → With A → Type 0
NoTypedefs tree = (names : Names) → no_typedefs (tree names).1 ≡ true

-- the trees of a production
pub record Trees (A : Type 0) : Type 1 where
  -- its tokens
  pub spelling : A → Tokens
  -- it is levelled, where these names are visible
  pub levelled : Names → A → Type 0
  -- the names that it declares for what stands behind it
  pub declares : Names → A → Names
  -- the deepest nesting of one of its tokens
  pub nesting : A → ℕ

module _ {A : Type 0} (trees : Trees A) where
  -- a levelled tree begins with these tokens, whatever its nesting
  pub record Begins (names : Names) (front : Tokens) : Type 0 where
    pub tree : A
    pub levelled : trees.levelled names tree
    pub others : Tokens
    pub spelt : trees.spelling tree ≡ front ++ others

  -- the longest front of the tokens that begins a tree, and the tokens behind it
  pub record IsFront (names : Names) (tokens front rest : Tokens) : Type 0 where
    pub whole : tokens ≡ front ++ rest
    pub begins : Begins names front
    pub longest : (next : Token) (others : Tokens) → rest ≡ next ∷ others → Begins names (front ++ next ∷ []) → ⊥

  -- what was read is a tree that nests no deeper than this, and its spelling the longest front
  pub record Found (more : ℕ) (names : Names) (tokens : Tokens) (tree : A) (behind : State) : Type 0 where
    pub levelled : trees.levelled names tree
    pub nested : trees.nesting tree ≤ more
    pub front : IsFront names tokens (trees.spelling tree) behind.1
    pub names_are : behind.0 ≡ names ++ trees.declares names tree

  -- Ok comes exactly where the longest front is the spelling of a tree that nests no deeper than this
  pub record OkAtFront (more : ℕ) (reads : Parser A) : Type 0 where
    -- there it gives that tree, and the names and the tokens behind it
    pub comes : (names : Names) (tokens rest : Tokens) (tree : A) → trees.levelled names tree → trees.nesting tree ≤ more → IsFront names tokens (trees.spelling tree) rest
        → reads (names, tokens) ≡ Ok (tree, (names ++ trees.declares names tree, rest))
    -- and nowhere else
    pub found : (names : Names) (tokens : Tokens) (tree : A) (behind : State) → reads (names, tokens) ≡ Ok (tree, behind) → Found more names tokens tree behind

  -- two levelled trees of one spelling are one
  abbrev pub SpellingIsUnique : Type 0
  SpellingIsUnique = (names : Names) (a b : A) → trees.levelled names a → trees.levelled names b → trees.spelling a ≡ trees.spelling b → a ≡ b

  -- there is one longest front
  abbrev pub FrontIsUnique : Type 0
  FrontIsUnique = (names : Names) (tokens a r b s : Tokens) → IsFront names tokens a r → IsFront names tokens b s → (a ≡ b) × (r ≡ s)

  -- what a tree declares is no typedef name
  abbrev pub DeclaresNoTypedefs : Type 0
  DeclaresNoTypedefs = (tree : A) → (names : Names) → no_typedefs (trees.declares names tree) ≡ true
