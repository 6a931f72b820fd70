-- A production that reads a list of which one item must stand, by the list of all its items.
-- The grammar reads the first item and then a list; the loops of the parser read all items into one list.
use Rattle.std.specs.Prelude.{◌≡◌, ℕ, Bool, false, List, [], ◌∷◌, Option, None, length, Ok, Err, refl}
use Rattle.std.proofs.Common.{ap, sym, ◌∙◌}
use Rattle.c_tree.specs.declared.token.Pos.{Pos}
use Rattle.c_tree.specs.declared.token.Punct.TheVariants as p
use Rattle.c_tree.specs.declared.expression.Identifier.{Identifier}
use Rattle.c_tree.specs.declared.specifier.Specifier.TheVariants as specifier
use Rattle.c_tree.specs.declared.specifier.Member.{roll-Member}
use Rattle.c_tree.specs.declared.declarator.Parameter.{Parameter}
use Rattle.c_tree.specs.declared.declarator.DeclaratorSuffix.{DeclaratorSuffix}
use Rattle.c_tree.specs.declared.declarator.DeclaratorSuffix.TheVariants as suffix
use Rattle.c_tree.specs.Levels.Names.{Names}
use Rattle.c_grammar.specs.Input.{State, Outcome, Parser, ◌>>=◌, and_then, pure, sees, expect, opening, loop, many, many_by}
use Rattle.c_grammar.specs.Read.Nodes.{is_type, name_type}
use Rattle.c_grammar.specs.Read.Inner.{Inner}
use Rattle.c_grammar.specs.Read.Specifiers as specifiers
use Rattle.c_grammar.specs.Read.Declarators as declarators
use Rattle.c_expr_parser.specs.Parts.{behind_first, more_items, member_declarators, members, enumerators, parameter_list}
use Rattle.c_expr_parser.proofs.Lists.{first_before}

in_order : {X Y : Type 0} (r : Outcome (List X)) (x : X) (f : List X → Parser Y) → and_then r (λ xs. f (x ∷ xs)) ≡ and_then (and_then r (λ xs. pure (x ∷ xs))) f
in_order (Ok q) x f = refl
in_order (Err e) x f = refl

same_then : {A B : Type 0} (r : Outcome A) (f g : A → Parser B) → ((a : A) (j : State) → f a j ≡ g a j) → and_then r f ≡ and_then r g
same_then (Ok q) f g same = same q.0 q.1
same_then (Err e) f g same = refl

and_pure : {A : Type 0} (r : Outcome A) → and_then r pure ≡ r
and_pure (Ok q) = refl
and_pure (Err e) = refl

-- the scope is left behind the last bracket
closed : (from : Pos) (all : List Parameter) (names : Names) (r : Outcome Pos)
    → and_then (and_then r (λ to. pure (suffix.Parameters from all to))) (λ x j. Ok (x, (names, j.1))) ≡ and_then r (λ to k. Ok (suffix.Parameters from all to, (names, k.1)))
closed from all names (Ok q) = refl
closed from all names (Err e) = refl

inner_last : (from : Pos) (names : Names) (r : Outcome (List Parameter))
    → and_then (and_then r (λ all. expect p.RightParen >>= (λ to. pure (suffix.Parameters from all to)))) (λ x j. Ok (x, (names, j.1))) ≡ and_then r (λ all j. and_then (expect p.RightParen j) (λ to k. Ok (suffix.Parameters from all to, (names, k.1))))
inner_last from names (Ok q) = closed from q.0 names (expect p.RightParen q.1)
inner_last from names (Err e) = refl

module _ {S X Y : Type 0} (goes : S → State → Bool) (item : S → Parser X) (step : S → X → S) (from : X → S) (f : List X → Parser Y) where
  behind_one : (x : X) (i : State) → and_then (many_by goes item step (from x) i) (λ xs. f (x ∷ xs)) ≡ and_then (behind_first goes item step (from x) x i) f
  behind_one x i =
      in_order (loop goes item step (length i.1) (from x) [] i) x f ∙ ap (λ (r : Outcome (List X)). and_then r f) (sym (first_before goes item step (length i.1) (from x) x [] i))

  all_read : (r : Outcome X) → and_then r (λ x j. and_then (many_by goes item step (from x) j) (λ xs. f (x ∷ xs))) ≡ and_then (and_then r (λ x. behind_first goes item step (from x) x)) f
  all_read (Ok q) = behind_one q.0 q.1
  all_read (Err e) = refl

module _ {X Y : Type 0} (goes : State → Bool) (item : Parser X) (f : List X → Parser Y) where
  list_read : (r : Outcome X) → and_then r (λ x j. and_then (many goes item j) (λ xs. f (x ∷ xs))) ≡ and_then (and_then r (λ x. more_items goes item x)) f
  list_read r = all_read {S = Unit {0}} (λ _. goes) (λ _. item) (λ _ _. tt) (λ _. tt) f r

module _ (more : ℕ) (inner : Inner) where
  pub member_is : (i : State) → specifiers.member more inner i
      ≡ and_then (inner.specifiers false i) (λ xs j. and_then (member_declarators more inner (name_type xs) j) (λ ds. expect p.Semicolon >>= (λ at. pure (roll-Member (record { specifiers = xs; declarators = ds; semicolon = at })))))
  unfolding specifiers.member member_declarators
  member_is i = same_then (inner.specifiers false i) _ _ (λ xs j. list_read (sees p.Comma) (specifiers.next_member_declarator more inner (name_type xs))
      (λ ds. expect p.Semicolon >>= (λ at. pure (roll-Member (record { specifiers = xs; declarators = ds; semicolon = at })))) (specifiers.first_member_declarator more inner (name_type xs) j))

  pub struct_body_is : (at : Pos) (tag : Option Identifier) (i : State) → specifiers.struct_body more inner at tag i
      ≡ and_then (opening more p.LeftBrace i) (λ from j. and_then (members more inner j) (λ all. expect p.RightBrace >>= (λ to. pure (specifier.Struct at tag from all to))))
  unfolding specifiers.struct_body members
  struct_body_is at tag i = same_then (opening more p.LeftBrace i) _ _ (λ from j. list_read (specifiers.goes_member more inner) (specifiers.member more inner)
      (λ all. expect p.RightBrace >>= (λ to. pure (specifier.Struct at tag from all to))) (specifiers.member more inner j))

  pub enum_body_is : (at : Pos) (tag : Option Identifier) (i : State) → specifiers.enum_body more inner at tag i
      ≡ and_then (opening more p.LeftBrace i) (λ from j. and_then (enumerators more inner j) (λ all. specifiers.optional_comma >>= (λ last. expect p.RightBrace >>= (λ to. pure (specifier.Enum at tag from all last to)))))
  unfolding specifiers.enum_body enumerators
  enum_body_is at tag i = same_then (opening more p.LeftBrace i) _ _ (λ from j. list_read specifiers.goes_enumerator (specifiers.next_enumerator more inner)
      (λ all. specifiers.optional_comma >>= (λ last. expect p.RightBrace >>= (λ to. pure (specifier.Enum at tag from all last to)))) (specifiers.one_enumerator more inner None j))

  pub specifiers_are : (with_storage : Bool) (i : State) → specifiers.specifiers more inner with_storage i
      ≡ and_then (specifiers.one_specifier more inner with_storage false i) (λ x. behind_first (specifiers.goes_specifier more inner with_storage) (specifiers.one_specifier more inner with_storage) (specifiers.types more inner) (is_type x) x)
  unfolding specifiers.specifiers
  specifiers_are with_storage i =
      all_read (specifiers.goes_specifier more inner with_storage) (specifiers.one_specifier more inner with_storage) (specifiers.types more inner) is_type pure (specifiers.one_specifier more inner with_storage false i)
      ∙ and_pure (and_then (specifiers.one_specifier more inner with_storage false i) (λ x. behind_first (specifiers.goes_specifier more inner with_storage) (specifiers.one_specifier more inner with_storage) (specifiers.types more inner) (is_type x) x))

  pub some_parameters_are : (from : Pos) (i : State) → declarators.some_parameters more inner from i
      ≡ and_then (parameter_list more inner i) (λ all j. and_then (expect p.RightParen j) (λ to k. Ok (suffix.Parameters from all to, (i.0, k.1))))
  unfolding parameter_list
  some_parameters_are from i =
      ap (λ (r : Outcome DeclaratorSuffix). and_then r (λ x j. Ok (x, (i.0, j.1)))) (list_read (sees p.Comma) (declarators.next_parameter more inner) (λ all. expect p.RightParen >>= (λ to. pure (suffix.Parameters from all to))) (declarators.parameter more inner None i))
      ∙ inner_last from i.0 (parameter_list more inner i)
