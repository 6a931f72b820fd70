-- A parser takes the names that are visible and the tokens that are left, and answers what it read with the
-- names and the tokens after it, or why it stopped and the tokens that were left there.
use Rattle.std.specs.Prelude.{ℕ, zero, suc, Bool, true, false, ◌&&◌, if◌then◌else◌, ◌==◌, List, [], ◌∷◌, ◌++◌, length, Option, Some, None, Result, Ok, Err}
use Rattle.c_tree.specs.declared.token.Pos.{Pos}
use Rattle.c_tree.specs.declared.token.Punct.{Punct}
use Rattle.c_tree.specs.declared.token.TokenKind.{TokenKind}
use Rattle.c_tree.specs.declared.token.TokenKind.TheVariants as k
use Rattle.c_tree.specs.declared.token.Token.{Token}
use Rattle.c_tree.specs.declared.expression.Identifier.{Identifier}
use Rattle.c_tree.specs.Levels.Names.{Names}
use Rattle.c_tree.specs.Levels.Productions.{joins, none}
use Rattle.c_tree.specs.Levels.Facts.{same}
use Rattle.c_grammar.specs.Punctuators.{same_mark}

abbrev pub Tokens : Type 0
Tokens = List Token

-- the names that are visible, and the tokens that are left
abbrev pub State : Type 0
State = Names × Tokens

pub data Reason : Type 0 where
  -- no sentence begins with the tokens up to the next one
  Syntax : Reason
  -- the next token would be nested too deeply
  Nest : Reason

-- why a parser stopped, and the tokens that were left there
abbrev pub Fault : Type 0
Fault = Reason × Tokens

abbrev pub Outcome : Type 0 → Type 0
Outcome A = Result (A × State) Fault

abbrev pub Parser : Type 0 → Type 0
Parser A = State → Outcome A

abbrev pub and_then : {A B : Type 0} → Outcome A → (A → Parser B) → Outcome B
and_then (Ok p) f = f p.0 p.1
and_then (Err e) f = Err e

infixl 10 ◌>>=◌
abbrev pub ◌>>=◌ : {A B : Type 0} → Parser A → (A → Parser B) → Parser B
p >>= f = λ i. and_then (p i) f

infixl 10 ◌>>◌
abbrev pub ◌>>◌ : {A B : Type 0} → Parser A → Parser B → Parser B
p >> q = p >>= (λ _. q)

abbrev pub pure : {A : Type 0} → A → Parser A
pure a = λ i. Ok (a, i)

abbrev pub refuse : {A : Type 0} → Parser A
refuse = λ i. Err (Syntax, i.1)

abbrev pub too_deep : {A : Type 0} → Parser A
too_deep = λ i. Err (Nest, i.1)

-- one parser or the other, as the state is
abbrev pub choose : {A : Type 0} → (State → Bool) → Parser A → Parser A → Parser A
choose test p q = λ i. if test i then p i else q i

-- ---- the next token

-- what the next token is
unfoldable pub peek : Tokens → Option TokenKind
peek [] = None
peek (t ∷ ts) = Some t.kind

-- the tokens behind the next one
unfoldable pub behind : Tokens → Tokens
behind [] = []
behind (t ∷ ts) = ts

abbrev pub is_mark : Punct → Option TokenKind → Bool
is_mark op (Some (k.Punct other)) = same_mark other op
is_mark op _ = false

abbrev pub is_name : Option TokenKind → Bool
is_name (Some (k.Name text)) = true
is_name _ = false

abbrev pub is_bytes : Option TokenKind → Bool
is_bytes (Some (k.Bytes text)) = true
is_bytes _ = false

-- the next token is this punctuator
abbrev pub sees : Punct → State → Bool
sees op i = is_mark op (peek i.1)

-- the production that goes on with a token behind an operand of it
abbrev pub joins_with : Option TokenKind → ℕ
joins_with (Some (k.Punct op)) = joins op
joins_with _ = none

-- the next token goes on with this production
abbrev pub goes : ℕ → State → Bool
goes level i = same (joins_with (peek i.1)) level

-- ---- one token

abbrev pub took : {A : Type 0} → Option A → Names → Token → Tokens → Outcome A
took None names t ts = Err (Syntax, t ∷ ts)
took (Some a) names t ts = Ok (a, (names, ts))

abbrev pub one_of : {A : Type 0} → (Names → TokenKind → Pos → Option A) → Names → Tokens → Outcome A
one_of pick names [] = Err (Syntax, [])
one_of pick names (t ∷ ts) = took (pick names t.kind t.place) names t ts

-- the next token, where `pick` makes something of it
unfoldable pub one : {A : Type 0} → (Names → TokenKind → Pos → Option A) → Parser A
one pick = λ i. one_of pick i.0 i.1

abbrev pub mark_at : Punct → Names → TokenKind → Pos → Option Pos
mark_at op names (k.Punct other) place = if same_mark other op then Some place else None
mark_at op names _ place = None

abbrev pub identifier_at : Names → TokenKind → Pos → Option Identifier
identifier_at names (k.Name text) place = Some (record { text = text; place = place })
identifier_at names _ place = None

-- the place of the next token, which is this punctuator
abbrev pub expect : Punct → Parser Pos
expect op = one (mark_at op)

-- a name of any kind
abbrev pub identifier : Parser Identifier
identifier = one identifier_at

-- the place of the next token, which is this bracket or `?`, where so many more may be opened
unfoldable pub opening : ℕ → Punct → Parser Pos
opening more op = choose (λ i. sees op i && more == 0) too_deep (expect op)

-- ---- lists

-- While `goes` an item is read. What was read so far is told by `step`. Each turn takes a token, so the count of
-- tokens is enough turns.
unfoldable pub loop : {S X : Type 0} → (S → State → Bool) → (S → Parser X) → (S → X → S) → ℕ → S → List X → Parser (List X)
loop goes item step zero s found = pure found
loop goes item step (suc n) s found = λ i. if goes s i then (item s >>= (λ x. loop goes item step n (step s x) (found ++ x ∷ []))) i else Ok (found, i)

abbrev pub many_by : {S X : Type 0} → (S → State → Bool) → (S → Parser X) → (S → X → S) → S → Parser (List X)
many_by goes item step s = λ i. loop goes item step (length i.1) s [] i

abbrev pub many : {X : Type 0} → (State → Bool) → Parser X → Parser (List X)
many goes item = many_by {S = Unit {0}} (λ _. goes) (λ _. item) (λ _ _. tt) tt

-- ---- names

-- what is declared is visible from here on
abbrev pub declare : Names → Parser (Unit {0})
declare names = λ i. Ok (tt, (i.0 ++ names, i.1))

-- what is declared in it ends with it
abbrev pub enclosed : {A : Type 0} → Parser A → Parser A
enclosed p = λ i. and_then (p i) (λ a j. Ok (a, (i.0, j.1)))
