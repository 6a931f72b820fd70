-- A recursion on a count of turns, beside a loop that counts up.
-- What the loop has read and what the recursion has left are together what the recursion gives at the start.
use Rattle.std.proofs.Common.{◌≡◌, ◌≢◌, ℕ, suc, ◌+◌, ◌-◌, ◌<◌, ◌≤◌, Bool, true, false, List, [], ◌∷◌, ◌++◌, Ok, Err, refl, ap, ◌∙◌, arith}
use Rattle.c_grammar.specs.Input.{State, Tokens, Outcome, Parser, loop}
use Rattle.c_expr_parser.specs.declared.fault.Stop.{Stop}
use Rattle.c_expr_parser.specs.declared.fault.Stop.TheVariants as stop
use Rattle.c_expr_parser.specs.Reads.{Keeps, reason_of}

pub one_more : {X : Type 0} {x : X} (f : ℕ → X) (n at : ℕ) → at < n → x ≡ f (n - at) → x ≡ f (suc (n - (at + 1)))
one_more f n at below e = let turn : n - at ≡ suc (n - (at + 1)) = omega arith in e ∙ ap f turn

pub no_more : {X : Type 0} {x : X} (f : ℕ → X) (n at : ℕ) → n ≤ at → x ≡ f (n - at) → x ≡ f 0
no_more f n at done e = let none : n - at ≡ 0 = omega arith in e ∙ ap f none

pub deeper : {X : Type 0} (f : ℕ → X) (n : ℕ) → 0 < n → f n ≡ f (suc (n - 1))
deeper f n some = let e : n ≡ suc (n - 1) = omega arith in ap f e

-- ---- a list that is read item by item

-- A list of which each item may tell something is read so far: behind what was found, the turns that are left give what the
-- whole list is. The marks of the names are good.
pub record TellingListing {S X : Type 0} (goes : S → State → Bool) (item : S → Parser X) (step : S → X → S) (whole : Outcome (List X)) (old : State) (n at : ℕ) (told : S) (found : List X) (now : State) : Type 0 where
  pub same : whole ≡ loop goes item step (n - at) told found now
  pub keeps : Keeps old now

-- a list of which no item tells anything
abbrev pub Listing : {X : Type 0} → (State → Bool) → Parser X → Outcome (List X) → State → ℕ → ℕ → List X → State → Type 0
Listing goes item whole old n at found now = TellingListing {S = Unit {0}} (λ _. goes) (λ _. item) (λ _ _. tt) whole old n at tt found now

module _ {S X : Type 0} {goes : S → State → Bool} {item : S → Parser X} {step : S → X → S} {whole : Outcome (List X)} {old : State} {n at : ℕ} {told : S} {found : List X} {i : State} where
  -- one more item
  pub item_read : TellingListing goes item step whole old n at told found i → at < n → goes told i ≡ true → {x : X} {j : State} → item told i ≡ Ok (x, j) → Keeps i j
      → {tells : S} → tells ≡ step told x → {all : List X} → all ≡ found ++ x ∷ [] → TellingListing goes item step whole old n (at + 1) tells all j
  unfolding loop
  item_read so_far below more {x} {j} read keeps {tells} is {all} pushed = record {
    same = one_more (λ m. loop goes item step m told found i) n at below so_far.same ∙ rw (more, read, is, pushed) refl;
    keeps = λ mark names m. keeps mark names (so_far.keeps mark names m);
  }

  -- an item that is refused
  pub item_refused : TellingListing goes item step whole old n at told found i → at < n → goes told i ≡ true
      → {e : Stop} {left : Tokens} → (e ≢ stop.Memory → item told i ≡ Err (reason_of e, left)) → e ≢ stop.Memory → whole ≡ Err (reason_of e, left)
  unfolding loop
  item_refused so_far below more refused = λ not_memory. one_more (λ m. loop goes item step m told found i) n at below so_far.same ∙ rw (more, refused not_memory) refl

  -- no more items
  pub items_end : TellingListing goes item step whole old n at told found i → at < n → goes told i ≡ false → whole ≡ Ok (found, i)
  unfolding loop
  items_end so_far below done = one_more (λ m. loop goes item step m told found i) n at below so_far.same ∙ rw done refl

  -- no more turns
  pub turns_end : TellingListing goes item step whole old n at told found i → n ≤ at → whole ≡ Ok (found, i)
  unfolding loop
  turns_end so_far done = no_more (λ m. loop goes item step m told found i) n at done so_far.same
