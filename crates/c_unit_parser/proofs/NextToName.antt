-- What stands next to the name of a declarator, from what its parts tell.
-- What the middle tells goes before, then the suffixes, then the pointers.
use Rattle.std.specs.Prelude.{◌≡◌, List, ◌++◌, map}
use Rattle.std.proofs.Common.{ap, sym, ◌∙◌, subst}
use Rattle.c_tree.specs.declared.declarator.Declarator.{Declarator, out-Declarator}
use Rattle.c_tree.specs.Levels.Names.{Names, in_row}
use Rattle.c_tree.specs.Levels.Facts.{SuffixFacts, Beside, Alone, Other, Listing, nearest}
use Rattle.c_tree.specs.Levels.Trees.{declarator_level, declarator_level-is, direct_level, declarator_suffix_level}
use Rattle.c_unit_parser.specs.declared.nodes.Beside as code
use Rattle.c_unit_parser.specs.Beside.{Tells}

module _ (d : Declarator) (names : Names) where
  -- what the middle tells, and what the suffixes behind it tell
  abbrev pub middle : Beside
  middle = (direct_level (out-Declarator d).direct names).0.beside

  abbrev pub behind : List SuffixFacts
  behind = (in_row (map declarator_suffix_level (out-Declarator d).suffixes) (names ++ (direct_level (out-Declarator d).direct names).1)).0

  beside_is : (told : Beside) → middle ≡ told → (declarator_level d names).0.beside ≡ nearest told behind (out-Declarator d).pointers
  beside_is told is = ap (λ r. r.0.beside) (declarator_level-is d names) ∙ ap (λ (inner : Beside). nearest inner behind (out-Declarator d).pointers) is

  pub beside_alone : (b : code.Beside) → middle ≡ Alone → Tells b (nearest Alone behind (out-Declarator d).pointers) → Tells b (declarator_level d names).0.beside
  beside_alone b is tells = subst (λ (told : Beside). Tells b told) (sym (beside_is Alone is)) tells

  pub beside_other : middle ≡ Other → (declarator_level d names).0.beside ≡ Other
  beside_other is = beside_is Other is

  pub beside_listing : (all : Names) → middle ≡ Listing all → (declarator_level d names).0.beside ≡ Listing all
  beside_listing all is = beside_is (Listing all) is
