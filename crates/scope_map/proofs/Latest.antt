-- Laws on what a key stands for.
use Rattle.std.proofs.Common.{◌≡◌, Bool, true, false, ◌||◌, cond, List, [], ◌∷◌, ◌++◌, reverse, find, Option, Some, None, is_some, option_copied, Bor, refl, ap, ◌∙◌}
use Rattle.std.specs.List.{list_any}
use Rattle.std.specs.Option.{option_map}
use Rattle.std.proofs.lemmas.List.{reverse-append}
use Rattle.scope_map.specs.Scopes.{latest}

first_or : {K V : Type 0} (b : Bool) (key : K) (value : V) (rest : Option (K × V)) → option_map (λ pair. pair.1) (cond b (Some (key, value)) rest) ≡ cond b (Some value) (option_map (λ pair. pair.1) rest)
first_or true key value rest = refl
first_or false key value rest = refl

-- a new pair hides those of an equal key, and no other
pub latest-push : {K V : Type 0} (eq : K → K → Bool) (pairs : List (K × V)) (key : K) (value : V) (asked : K) → latest eq (pairs ++ (key, value) ∷ []) asked ≡ cond (eq key asked) (Some value) (latest eq pairs asked)
latest-push {K} {V} eq pairs key value asked =
    ap (λ (ps : List (K × V)). option_map (λ pair. pair.1) (find (λ pair. eq pair.0 asked) ps)) (reverse-append pairs ((key, value) ∷ []))
    ∙ first_or (eq key asked) key value (find (λ pair. eq pair.0 asked) (reverse pairs))

only : {K V : Type 0} (b : Bool) (pair : K × V) → is_some (option_map (λ p. p.1) (cond b (Some pair) None)) ≡ b || false
only true pair = refl
only false pair = refl

either : {K V : Type 0} (a b : Bool) (first : K × V) (more less : Option (K × V)) → is_some (option_map (λ p. p.1) more) ≡ b || is_some (option_map (λ p. p.1) less)
    → is_some (option_map (λ p. p.1) (cond a (Some first) more)) ≡ b || is_some (option_map (λ p. p.1) (cond a (Some first) less))
either true true first more less same = refl
either true false first more less same = refl
either false b first more less same = same

one_more : {K V : Type 0} (test : K × V → Bool) (pair : K × V) (pairs : List (K × V)) → is_some (option_map (λ p. p.1) (find test (pairs ++ pair ∷ []))) ≡ test pair || is_some (option_map (λ p. p.1) (find test pairs))
one_more test pair [] = only (test pair) pair
one_more test pair (first ∷ pairs) = either (test first) (test pair) first _ _ (one_more test pair pairs)

-- a key stands for something exactly where some pair has it
pub is_some-latest : {K V : Type 0} (eq : K → K → Bool) (pairs : List (K × V)) (asked : K) → is_some (latest eq pairs asked) ≡ list_any (λ pair. eq pair.0 asked) pairs
is_some-latest eq [] asked = refl
is_some-latest {K} {V} eq (pair ∷ pairs) asked =
    ap (λ (ps : List (K × V)). is_some (option_map (λ p. p.1) (find (λ p. eq p.0 asked) ps))) (reverse-append (pair ∷ []) pairs)
    ∙ one_more (λ p. eq p.0 asked) pair (reverse pairs)
    ∙ ap (λ b. eq pair.0 asked || b) (is_some-latest eq pairs asked)

lent_there : {V : Type 0} (lent : Option (Bor V)) → is_some lent ≡ is_some (option_copied lent)
lent_there None = refl
lent_there (Some value) = refl

-- what a key stands for is lent exactly where some pair has the key
pub lent_where_found : {K V : Type 0} (eq : K → K → Bool) (pairs : List (K × V)) (asked : K) (lent : Option (Bor V)) → option_copied lent ≡ latest eq pairs asked → is_some lent ≡ list_any (λ pair. eq pair.0 asked) pairs
lent_where_found eq pairs asked lent is = lent_there lent ∙ ap is_some is ∙ is_some-latest eq pairs asked

pub ruleset lookups = (latest-push, is_some-latest)
