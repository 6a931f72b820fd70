-- A production that reads a list of which one item must stand, by the list of all its items.
-- The grammar reads the first item and then a list; the loops of the parser read all items into one list.
use Rattle.std.specs.Prelude.{◌≡◌, ℕ, Bool, List, ◌∷◌, None, length, [], Ok, Err, refl}
use Rattle.std.proofs.Common.{ap, sym, ◌∙◌}
use Rattle.c_tree.specs.declared.token.Punct.TheVariants as p
use Rattle.c_tree.specs.declared.specifier.Specifier.{Specifier}
use Rattle.c_tree.specs.declared.declarator.Declarator.{Declarator}
use Rattle.c_tree.specs.declared.declaration.Initialiser.TheVariants as init
use Rattle.c_tree.specs.declared.unit.External.TheVariants as external
use Rattle.c_grammar.specs.Input.{State, Outcome, Parser, ◌>>=◌, and_then, pure, sees, expect, opening, loop, many}
use Rattle.c_grammar.specs.Read.Specifiers.{optional_comma}
use Rattle.c_expr_parser.specs.Parts.{more_items}
use Rattle.c_expr_parser.proofs.Lists.{first_before}
use Rattle.c_unit_grammar.specs.Read.Initialisers as initialisers
use Rattle.c_unit_grammar.specs.Read.Declarations as declarations
use Rattle.c_unit_grammar.specs.Read.Units as units
use Rattle.c_unit_parser.specs.Parts as parts

in_order : {X Y : Type 0} (r : Outcome (List X)) (x : X) (f : List X → Parser Y) → and_then r (λ xs. f (x ∷ xs)) ≡ and_then (and_then r (λ xs. pure (x ∷ xs))) f
in_order (Ok q) x f = refl
in_order (Err e) x f = refl

same_then : {A B : Type 0} (r : Outcome A) (f g : A → Parser B) → ((a : A) (j : State) → f a j ≡ g a j) → and_then r f ≡ and_then r g
same_then (Ok q) f g same = same q.0 q.1
same_then (Err e) f g same = refl

and_pure : {A : Type 0} (r : Outcome A) → and_then r pure ≡ r
and_pure (Ok q) = refl
and_pure (Err e) = refl

module _ {X Y : Type 0} (goes : State → Bool) (item : Parser X) (f : List X → Parser Y) where
  -- the first item is there
  behind_one : (x : X) (i : State) → and_then (many goes item i) (λ xs. f (x ∷ xs)) ≡ and_then (more_items goes item x i) f
  behind_one x i =
      in_order (loop {S = Unit {0}} (λ _. goes) (λ _. item) (λ _ _. tt) (length i.1) tt [] i) x f ∙ ap (λ (r : Outcome (List X)). and_then r f) (sym (first_before {S = Unit {0}} (λ _. goes) (λ _. item) (λ _ _. tt) (length i.1) tt x [] i))

  -- the first item is read
  list_read : (r : Outcome X) → and_then r (λ x j. and_then (many goes item j) (λ xs. f (x ∷ xs))) ≡ and_then (and_then r (λ x. more_items goes item x)) f
  list_read (Ok q) = behind_one q.0 q.1
  list_read (Err e) = refl

module _ (more : ℕ) where
  pub in_braces_is : (i : State) → initialisers.in_braces more (initialisers.inside_initialiser more) i
      ≡ and_then (opening more p.LeftBrace i) (λ from j. and_then (parts.initialisers more j) (λ all. optional_comma >>= (λ last. expect p.RightBrace >>= (λ to. pure (init.List from all last to)))))
  unfolding initialisers.in_braces parts.initialisers
  in_braces_is i = same_then (opening more p.LeftBrace i) _ _ (λ from j. list_read initialisers.goes_initialiser (initialisers.next_initialiser more (initialisers.inside_initialiser more))
      (λ all. optional_comma >>= (λ last. expect p.RightBrace >>= (λ to. pure (init.List from all last to)))) (initialisers.first_initialiser more (initialisers.inside_initialiser more) j))

  pub some_declarators_are : (specifiers : List Specifier) (i : State) → declarations.some_declarators more specifiers i
      ≡ and_then (declarations.first_declarator more specifiers i) (λ first. parts.more_declarators more specifiers first)
  unfolding parts.more_declarators
  some_declarators_are specifiers i =
      list_read (sees p.Comma) (declarations.next_declarator more specifiers) pure (declarations.first_declarator more specifiers i)
      ∙ and_pure (and_then (declarations.first_declarator more specifiers i) (λ first. more_items (sees p.Comma) (declarations.next_declarator more specifiers) first))

  pub declaration_from_is : (specifiers : List Specifier) (d : Declarator) (i : State) → units.declaration_from more specifiers d i
      ≡ and_then (declarations.start more i) (λ s j. and_then (parts.more_declarators more specifiers (record { comma = None; declarator = d; start = s }) j)
      (λ all. expect p.Semicolon >>= (λ at. pure (external.Declaration (record { specifiers = specifiers; declarators = all; semicolon = at })))))
  unfolding parts.more_declarators
  declaration_from_is specifiers d i = same_then (declarations.start more i) _ _ (λ s j. behind_one (sees p.Comma) (declarations.next_declarator more specifiers)
      (λ all. expect p.Semicolon >>= (λ at. pure (external.Declaration (record { specifiers = specifiers; declarators = all; semicolon = at })))) (record { comma = None; declarator = d; start = s }) j)

  pub externals_are : (i : State) → units.externals more i ≡ parts.externals more i
  unfolding units.externals parts.externals
  externals_are i =
      list_read units.goes_external (units.one_external more) pure (units.one_external more i)
      ∙ and_pure (and_then (units.one_external more i) (λ first. more_items units.goes_external (units.one_external more) first))
