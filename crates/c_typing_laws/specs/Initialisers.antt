-- Every initialiser of the grammar fills an object with parts that are right, where typing tells no fault of it.
use Rattle.std.specs.Prelude.{◌≡◌, Bool, true, false, List, [], ◌∷◌, map, refl}
use Rattle.std.proofs.Common.{sym, ◌∙◌, subst}
use Rattle.std.specs.List.{AllByRecursion}
use Rattle.c_tree.specs.declared.declaration.Initialiser.{Initialiser, roll-Initialiser}
use Rattle.c_tree.specs.declared.declaration.InitialiserItem.{InitialiserItem, roll-InitialiserItem}
use Rattle.c_tree.specs.declared.declaration.Initialiser.TheOpen.{Initialiser-F, InitialiserItem-F}
use Rattle.c_tree.specs.declared.declaration.Initialiser.TheFolds.{map-Initialiser, map-InitialiserItem, ind-Initialiser}
use Rattle.c_tree.specs.Layers.{InitialiserLayer, InitialiserItemLayer}
use Rattle.c_tree.specs.Levels.Names.{Names, in_row}
use Rattle.c_tree.specs.Levels.Facts.{filled}
use Rattle.c_tree.specs.Levels.Initialisers.{initialiser_level, initialiser_level-roll, initialiser_item_level, initialiser_item_level-roll}
use Rattle.c_typing.specs.OfInitialisers.{Initialising}
use Rattle.c_typing.specs.Trees.{expr_typing}
use Rattle.c_typing.specs.Initialisers.{initialiser_typing, initialiser_typing-roll, initialiser_item_typing, initialiser_item_typing-roll}
use Rattle.c_typing_laws.specs.Trees.{expression}
use Rattle.c_typing_laws.specs.OfInitialisers.{Initialises, fill_single, fill_list}
use Rattle.c_typing_laws.specs.Levels.{left, right, met, listed_of}

-- ---- initialisers

abbrev pub Initialisable : Initialiser → Type 0
Initialisable x = (names : Names) → (initialiser_level x names).0 ≡ true → Initialises (initialiser_typing x)

abbrev InitialisableItem : InitialiserItem → Type 0
InitialisableItem x = (names : Names) → (initialiser_item_level x names).0.good ≡ true → Initialises (initialiser_item_typing x)

abbrev KnownInitialiser : Type 0
KnownInitialiser = (x : Initialiser) × Initialisable x

abbrev KnownItem : Type 0
KnownItem = (x : InitialiserItem) × InitialisableItem x

abbrev bare_initialiser : Initialiser-F KnownInitialiser KnownItem → InitialiserLayer
bare_initialiser = map-Initialiser KnownInitialiser KnownItem Initialiser InitialiserItem (λ e. e.0) (λ e. e.0)

abbrev bare_item : InitialiserItem-F KnownInitialiser KnownItem → InitialiserItemLayer
bare_item = map-InitialiserItem KnownInitialiser KnownItem Initialiser InitialiserItem (λ e. e.0) (λ e. e.0)

by_items : (from : _) (is : List Initialising) → AllByRecursion Initialises is → (n : Bool) → n ≡ true → n ≡ filled is → Initialises (Rattle.c_typing.specs.OfInitialisers.by_list from is)
by_items from [] p n h g = absurd (let e : true ≡ false = sym h ∙ g in cc)
by_items from (i ∷ is) p n h g = record { fill = λ offset t. fill_list from i is offset t p; single = tt }

same_filled : (items : List KnownItem) (names : Names) → filled (in_row (map initialiser_item_level (map (λ e. e.0) items)) names).0 ≡ filled (map initialiser_item_typing (map (λ e. e.0) items))
same_filled [] names = refl
same_filled (i ∷ is) names = refl

of_initialiser : (y : Initialiser-F KnownInitialiser KnownItem) → Initialisable (roll-Initialiser (bare_initialiser y))
of_initialiser (Initialiser-F.Expression e) =
    met Initialises (λ b. b) (initialiser_level-roll (Initialiser-F.Expression e)) (initialiser_typing-roll (Initialiser-F.Expression e))
    (λ names h. record { fill = λ offset t. fill_single (expr_typing e) offset t (expression e); single = expression e })
of_initialiser (Initialiser-F.List from items comma to) =
    met Initialises (λ b. b) (initialiser_level-roll (Initialiser-F.List from (map (λ e. e.0) items) comma to)) (initialiser_typing-roll (Initialiser-F.List from (map (λ e. e.0) items) comma to))
    (λ names h. let all = (in_row (map initialiser_item_level (map (λ e. e.0) items)) names).0 in
    by_items from (map initialiser_item_typing (map (λ e. e.0) items))
    (listed_of initialiser_item_level initialiser_item_typing Initialises items names (right (filled all) _ h))
    (filled all) (left (filled all) _ h) (same_filled items names))

of_item : (y : InitialiserItem-F KnownInitialiser KnownItem) → InitialisableItem (roll-InitialiserItem (bare_item y))
of_item y = met Initialises (λ f. f.good) (initialiser_item_level-roll (bare_item y)) (initialiser_item_typing-roll (bare_item y)) (λ names h. y.value.1 names h)

pub initialiser : (x : Initialiser) → Initialisable x
initialiser = ind-Initialiser Initialisable InitialisableItem (λ x y is. subst (λ z. Initialisable (roll-Initialiser z)) is (of_initialiser y)) (λ x y is. subst (λ z. InitialisableItem (roll-InitialiserItem z)) is (of_item y))
