-- What a tree declares, from what its parts declare.
-- Parts in a row, no part, and a name behind them.
use Rattle.std.specs.Prelude.{◌≡◌, ℕ, ◌+◌, ◌<◌, List, [], ◌∷◌, ◌++◌, length, get_or, take, map, refl}
use Rattle.std.proofs.Common.{ap, sym, ◌∙◌}
use Rattle.std.proofs.lemmas.List.{append_assoc, append-nil, map_more}
use Rattle.c_tree.specs.Levels.Names.{Names, With, ◌then◌, in_row}
use Rattle.c_unit_parser.specs.Declares.{Puts}

-- ---- however a tree is told

pub puts_nothing : {A : Type 0} (tree : With A) (names : Names) → ((at : Names) → (tree at).1 ≡ []) → Puts tree names names
puts_nothing tree names none = record { names = []; behind = sym (append-nil names); declares = none }

pub puts_as : {A B : Type 0} {a : With A} (b : With B) {old new : Names} → ((at : Names) → (b at).1 ≡ (a at).1) → Puts a old new → Puts b old new
puts_as b same p = record { names = p.names; behind = p.behind; declares = λ at. same at ∙ p.declares at }

pub puts_then : {A B : Type 0} {a : With A} {b : With B} {old mid new : Names} → Puts a old mid → Puts b mid new → Puts (a then b) old new
puts_then {a = a} {b = b} {old = old} {mid = mid} {new = new} p q = record {
  names = p.names ++ q.names;
  behind = q.behind ∙ ap (λ (l : Names). l ++ q.names) p.behind ∙ append_assoc old p.names q.names;
  declares = λ at. ap (λ (l : Names). l ++ (b (at ++ (a at).1)).1) (p.declares at) ∙ ap (λ (l : Names). p.names ++ l) (q.declares (at ++ (a at).1));
}

-- a tree and what it declares itself
pub puts_itself : {A B : Type 0} {a : With A} (b : With B) {old mid new : Names} (itself : Names) → ((at : Names) → (b at).1 ≡ (a at).1 ++ itself) → Puts a old mid → new ≡ mid ++ itself → Puts b old new
puts_itself b {old = old} itself same p behind = record {
  names = p.names ++ itself;
  behind = behind ∙ ap (λ (l : Names). l ++ itself) p.behind ∙ append_assoc old p.names itself;
  declares = λ at. same at ∙ ap (λ (l : Names). l ++ itself) (p.declares at);
}

-- ---- rows

row_append : {A : Type 0} (trees : List (With A)) (tree : With A) (at : Names) → (in_row (trees ++ tree ∷ []) at).1 ≡ (in_row trees at).1 ++ (tree (at ++ (in_row trees at).1)).1
row_append [] tree at = append-nil (tree at).1 ∙ ap (λ (l : Names). (tree l).1) (sym (append-nil at))
row_append (t ∷ ts) tree at =
    ap (λ (l : Names). (t at).1 ++ l) (row_append ts tree (at ++ (t at).1))
    ∙ sym (append_assoc (t at).1 (in_row ts (at ++ (t at).1)).1 (tree ((at ++ (t at).1) ++ (in_row ts (at ++ (t at).1)).1)).1)
    ∙ ap (λ (l : Names). ((t at).1 ++ (in_row ts (at ++ (t at).1)).1) ++ (tree l).1) (append_assoc at (t at).1 (in_row ts (at ++ (t at).1)).1)

row_with : {A : Type 0} (trees : List (With A)) (tree : With A) {old mid new : Names} → Puts (in_row trees) old mid → Puts tree mid new → Puts (in_row (trees ++ tree ∷ [])) old new
row_with trees tree {old = old} p q = record {
  names = p.names ++ q.names;
  behind = q.behind ∙ ap (λ (l : Names). l ++ q.names) p.behind ∙ append_assoc old p.names q.names;
  declares = λ at. row_append trees tree at ∙ ap (λ (l : Names). l ++ (tree (at ++ (in_row trees at).1)).1) (p.declares at) ∙ ap (λ (l : Names). p.names ++ l) (q.declares (at ++ (in_row trees at).1));
}

-- nothing
pub no_names : (names : Names) → Puts {A = Unit {0}} (λ at. (tt, [])) names names
no_names names = puts_nothing (λ at. (tt, [])) names (λ at. refl)

pub no_row : {X A : Type 0} (f : X → With A) (names : Names) → Puts (in_row (map f [])) names names
no_row f names = puts_nothing (in_row (map f [])) names (λ at. refl)

-- one more of a row
pub one_more : {X A : Type 0} (f : X → With A) (xs : List X) (i : ℕ) (x : X) {old mid new : Names} → i < length xs → x ≡ get_or xs i x
    → Puts (in_row (map f (take i xs))) old mid → Puts (f x) mid new → Puts (in_row (map f (take (i + 1) xs))) old new
one_more f xs i x {old = old} {new = new} below is p q =
    let same : map f (take i xs) ++ f x ∷ [] ≡ map f (take (i + 1) xs) = ap (λ y. map f (take i xs) ++ f y ∷ []) is ∙ sym (map_more f xs i x below) in
    puts_as (in_row (map f (take (i + 1) xs))) (λ at. ap (λ (l : List (With _)). (in_row l at).1) (sym same)) (row_with (map f (take i xs)) (f x) p q)
