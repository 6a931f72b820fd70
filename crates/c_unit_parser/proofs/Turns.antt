-- A list that is read item by item, beside a loop that counts up.
-- It adds to the same lemmas of the parser below where the source ends.
use Rattle.std.proofs.Common.{◌≡◌, ◌≢◌, ℕ, suc, ◌+◌, ◌-◌, ◌<◌, Bool, true, List, [], ◌∷◌, ◌++◌, Ok, Err, ap, ◌∙◌, subst}
use Rattle.c_tree.specs.declared.token.Pos.{Pos}
use Rattle.c_grammar.specs.Input.{State, Outcome, Parser, loop}
use Rattle.c_expr_parser.specs.declared.fault.ParseFault.{ParseFault}
use Rattle.c_expr_parser.specs.declared.fault.ParseFault.TheVariants as fault
use Rattle.c_expr_parser.specs.Reads.{Keeps}
use Rattle.c_expr_parser.proofs.Turns.{one_more}
use Rattle.c_expr_parser.proofs.Turns as states
use Rattle.c_unit_parser.specs.Reads.{Input, answer}
use Rattle.c_unit_parser.proofs.Answers.{stops_first}

-- A list of which each item may tell something is read so far, and the source ends where it did.
pub record TellingListing {S X : Type 0} (goes : S → State → Bool) (item : S → Parser X) (step : S → X → S) (whole : Outcome (List X)) (old : Input) (n at : ℕ) (told : S) (found : List X) (now : Input) : Type 0 where
  pub so_far : states.TellingListing goes item step whole old.state n at told found now.state
  pub ends : now.end ≡ old.end

-- a list of which no item tells anything
abbrev pub Listing : {X : Type 0} → (State → Bool) → Parser X → Outcome (List X) → Input → ℕ → ℕ → List X → Input → Type 0
Listing goes item whole old n at found now = TellingListing {S = Unit {0}} (λ _. goes) (λ _. item) (λ _ _. tt) whole old n at tt found now

refused_turn : {S X : Type 0} (goes : S → State → Bool) (item : S → Parser X) (step : S → X → S) (end : Pos) (n : ℕ) (told : S) (found : List X) (i : State) (e : ParseFault)
    → goes told i ≡ true → answer end (item told i) ≡ Err e → answer end (loop goes item step (suc n) told found i) ≡ Err e
unfolding loop
refused_turn goes item step end n told found i e more refused =
    rw more (stops_first end (item told i) (λ x. loop goes item step n (step told x) (found ++ x ∷ [])) e refused)

module _ {S X : Type 0} {goes : S → State → Bool} {item : S → Parser X} {step : S → X → S} {whole : Outcome (List X)} {old : Input} {n at : ℕ} {told : S} {found : List X} {now : Input} where
  -- one more item
  pub item_read : TellingListing goes item step whole old n at told found now → at < n → goes told now.state ≡ true
      → {x : X} {new : Input} → item told now.state ≡ Ok (x, new.state) → Keeps now.state new.state → new.end ≡ now.end
      → {tells : S} → tells ≡ step told x → {all : List X} → all ≡ found ++ x ∷ [] → TellingListing goes item step whole old n (at + 1) tells all new
  item_read listing below more read keeps ends is pushed = record {
    so_far = states.item_read listing.so_far below more read keeps is pushed;
    ends = ends ∙ listing.ends;
  }

  -- an item that is refused
  pub item_refused : TellingListing goes item step whole old n at told found now → at < n → goes told now.state ≡ true
      → {e : ParseFault} → (e ≢ fault.Memory → answer now.end (item told now.state) ≡ Err e) → e ≢ fault.Memory → answer old.end whole ≡ Err e
  item_refused listing below more {e} refused = λ not_memory.
      ap (λ (r : Outcome (List X)). answer old.end r) (one_more (λ m. loop goes item step m told found now.state) n at below listing.so_far.same)
      ∙ refused_turn goes item step old.end (n - (at + 1)) told found now.state e more (subst (λ (end : Pos). answer end (item told now.state) ≡ Err e) listing.ends (refused not_memory))
