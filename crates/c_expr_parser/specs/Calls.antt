-- What the calls ask and ensure, by the trees of a production and the grammar's function on lists.
-- They ask the record `Stands` and ensure the record `Answers`; what stands behind that joins the calls to the productions.
use Rattle.std.specs.Prelude.{◌≡◌, ◌≢◌, ℕ, ◌+◌, ◌≤◌, true, ◌++◌, length, drop, Option, Some, None, Result, Ok, Err, IfOk, IfErr}
use Rattle.c_tree.specs.declared.token.Pos.{Pos}
use Rattle.c_tree.specs.Levelled.{nesting_limit}
use Rattle.c_tree.specs.Levels.Names.{Names}
use Rattle.c_grammar.specs.Input.{Tokens, Reason, Syntax, Nest, Parser}
use Rattle.c_grammar.specs.Fronts.{Trees, IsFront, no_typedefs}
use Rattle.c_expr_parser.specs.declared.fault.ParseFault.{ParseFault}
use Rattle.c_expr_parser.specs.declared.fault.ParseFault.TheVariants as fault
use Rattle.c_expr_parser.specs.declared.fault.Stop.{Stop}
use Rattle.c_expr_parser.specs.declared.fault.Stop.TheVariants as stop
use Rattle.c_expr_parser.specs.Reads.{next_place}

-- What a call asks: a place of the tokens, or their end, and no more brackets open than may be.
pub record Stands (tokens : Tokens) (at depth : ℕ) : Type 0 where
  pub place : at ≤ length tokens
  pub nesting : depth ≤ nesting_limit

-- one list is the other with something behind it
abbrev pub GoesOn : Names → Names → Type 0
GoesOn old new = (behind : Names) × (new ≡ old ++ behind)

-- a place, or where the tokens end
abbrev pub place_or : Option Pos → Pos → Pos
place_or (Some place) end = place
place_or None end = end

abbrev pub fault_at : Reason → Pos → ParseFault
fault_at Syntax place = fault.Syntax place
fault_at Nest place = fault.Nest place

-- The grammar's function stops for this reason, at this place: that of the first token that it left.
pub record StopsWith {A : Type 0} (parser : Parser A) (names : Names) (tokens : Tokens) (end : Pos) (e : ParseFault) : Type 0 where
  pub reason : Reason
  pub left : Tokens
  pub stops : parser (names, tokens) ≡ Err (reason, left)
  pub is : e ≡ fault_at reason (place_or (next_place left) end)

module _ {A : Type 0} (trees : Trees A) where
  -- The longest front of the tokens that begins a tree, whatever its nesting, is the spelling of this one, which stays
  -- within the limit.
  pub record IsRead (names : Names) (tokens : Tokens) (depth : ℕ) (tree : A) : Type 0 where
    pub levelled : trees.levelled names tree
    pub nested : depth + trees.nesting tree ≤ nesting_limit
    pub rest : Tokens
    pub front : IsFront trees names tokens (trees.spelling tree) rest

  -- Ok comes with such a tree alone,
  abbrev pub Found : Names → Tokens → ℕ → Result (A × ℕ) ParseFault → Type 0
  Found names tokens depth result = IfOk result (λ r. IsRead names tokens depth r.0)

  -- and with the place behind it;
  abbrev pub Behind : ℕ → Result (A × ℕ) ParseFault → Type 0
  Behind at result = IfOk result (λ r. r.1 ≡ at + length (trees.spelling r.0))

  -- it comes wherever there is one, unless memory is wanting.
  abbrev pub Comes : Names → Tokens → ℕ → ℕ → Result (A × ℕ) ParseFault → Type 0
  Comes names tokens depth at result = (tree : A) → IsRead names tokens depth tree → result ≢ Err fault.Memory → result ≡ Ok (tree, at + length (trees.spelling tree))

  -- The names after Ok are the old ones and those that the tree declares,
  abbrev pub Declared : Names → Names → Result (A × ℕ) ParseFault → Type 0
  Declared old new result = IfOk result (λ r. new ≡ old ++ trees.declares old r.0)

  -- none of them a typedef name.
  abbrev pub NoTypedef : Names → Result (A × ℕ) ParseFault → Type 0
  NoTypedef old result = IfOk result (λ r. no_typedefs (trees.declares old r.0) ≡ true)

-- After a refusal the old names are a front of the new ones.
abbrev pub Kept : {A : Type 0} → Names → Names → Result (A × ℕ) ParseFault → Type 0
Kept old new result = IfErr result (λ _. GoesOn old new)

-- A refusal that is not for memory is that of the grammar's function.
abbrev pub Refused : {A : Type 0} → Parser A → Names → Tokens → Pos → Result (A × ℕ) ParseFault → Type 0
Refused parser names tokens end result = IfErr result (λ e. e ≢ fault.Memory → StopsWith parser names tokens end e)

-- What a call answers that reads from place `at` of the tokens, where so many brackets are open.
pub record Answers {A : Type 0} (trees : Trees A) (parser : Parser A) (old new : Names) (tokens : Tokens) (at depth : ℕ) (end : Pos) (result : Result (A × ℕ) ParseFault) : Type 0 where
  pub found : Found trees old (drop at tokens) depth result
  pub behind : Behind trees at result
  pub comes : Comes trees old (drop at tokens) depth at result
  pub declared : Declared trees old new result
  pub plain : NoTypedef trees old result
  pub kept : Kept old new result
  pub refused : Refused parser old (drop at tokens) end result

-- ---- between the calls and the productions

abbrev pub fault_of : Stop → Pos → ParseFault
fault_of stop.Syntax place = fault.Syntax place
fault_of stop.Nest place = fault.Nest place
fault_of stop.Memory place = fault.Memory

-- what a parser reads from a place of the tokens on, and the place behind it
pub record Gave {A : Type 0} (parser : Parser A) (old new : Names) (tokens : Tokens) (at behind : ℕ) (a : A) : Type 0 where
  pub rest : Tokens
  pub reads : parser (old, drop at tokens) ≡ Ok (a, (new, rest))
  pub place : behind + length rest ≡ length tokens

pub record Stopped {A : Type 0} (parser : Parser A) (old new : Names) (tokens : Tokens) (at : ℕ) (end : Pos) (e : ParseFault) : Type 0 where
  pub kept : GoesOn old new
  pub stops : e ≢ fault.Memory → StopsWith parser old (drop at tokens) end e

abbrev pub Gives : {A : Type 0} → Parser A → Names → Names → Tokens → ℕ → Pos → Result (A × ℕ) ParseFault → Type 0
Gives parser old new tokens at end (Ok r) = Gave parser old new tokens at r.1 r.0
Gives parser old new tokens at end (Err e) = Stopped parser old new tokens at end e
