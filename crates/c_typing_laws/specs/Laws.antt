-- What is true of the faults of every unit of the grammar and of its typed tree.
use Rattle.std.specs.Prelude.{◌≡◌, true, ◌&&◌, List, [], ◌∷◌, ◌++◌, Option, Some, None, map, is_some, refl}
use Rattle.std.specs.Option.{IsSome, option_map}
use Rattle.std.specs.List.{AllByRecursion}
use Rattle.c_tree.specs.declared.unit.Definition.{Definition}
use Rattle.c_tree.specs.declared.unit.External.{External}
use Rattle.c_tree.specs.declared.unit.External.TheVariants as external
use Rattle.c_tree.specs.declared.unit.Unit as tree
use Rattle.c_tree.specs.Levels.Names.{Names, in_row}
use Rattle.c_tree.specs.Levels.Facts.{filled, all_good, declared}
use Rattle.c_tree.specs.Levels.Trees.{declarator_level}
use Rattle.c_tree.specs.Levels.Declarations.{specifiers_level}
use Rattle.c_tree.specs.Levels.Statements.{block_level}
use Rattle.c_tree.specs.Levels.Units.{is_listing, parameters_of, body_level, definition_level, external_level}
use Rattle.c_tree.specs.Levelled.{IsUnit}
use Rattle.c_typing.specs.declared.fault.Fault.{Fault}
use Rattle.c_typing.specs.Faults.{comes_before, first_of}
use Rattle.c_typing.specs.Units.{defined_of, outer_of, source_of, unit_said, around_unit, nothing_found, all_faults, or_unready, first_fault, typed_unit, typed_of}
use Rattle.c_typing_laws.specs.Scopes.{IfGiven, Any, none_first}
use Rattle.c_typing_laws.specs.Trees.{declarator_of, specifiers}
use Rattle.c_typing_laws.specs.Statements.{declaration, block}
use Rattle.c_typing_laws.specs.Units.{DefinesWell, DoesOuter, outers_row}
use Rattle.c_typing_laws.specs.Levels.{left, right, named}

-- ---- the parts of a unit

definition : (d : Definition) (names : Names) → (definition_level d names).0 ≡ true → DefinesWell (defined_of d)
definition d names h =
    let s = specifiers_level d.specifiers names in
    let f = declarator_level d.declarator (names ++ s.1) in
    let inner = (names ++ s.1) ++ (f.1 ++ declared s.0.has_typedef f.0) in
    let b = (body_level f.0 (block_level d.body) inner).0 in
    let g = right s.0.good _ h in
    record {
      specifiers = specifiers d.specifiers;
      derives = declarator_of d.declarator;
      named = named d.declarator (names ++ s.1) (left (is_some f.0.name) _ (right f.0.good _ (left (f.0.good && (is_some f.0.name && _)) _ g)));
      body = block d.body (inner ++ parameters_of f.0.beside) (left b.good _ (right (is_listing f.0.beside) _ (right (f.0.good && (is_some f.0.name && _)) _ g)));
    }

outer : (x : External) (names : Names) → (external_level x names).0 ≡ true → DoesOuter (outer_of x)
outer (external.Declaration d) names h = declaration d names h
outer (external.Definition d) names h = definition d names h

outers : (xs : List External) (names : Names) → all_good (in_row (map external_level xs) names).0 ≡ true → AllByRecursion DoesOuter (map outer_of xs)
outers [] names h = tt
outers (x ∷ xs) names h = (outer x names (left (external_level x names).0 _ h), outers xs (names ++ (external_level x names).1) (right (external_level x names).0 _ h))

-- ---- units

some_given : {A : Type 0} (o : Option A) → IfGiven Any o → is_some o ≡ true
some_given (Some a) h = refl
some_given None h = absurd h

-- a unit of which no fault is told has a typed tree
abbrev pub CleanUnitsAreTyped : Type 0
CleanUnitsAreTyped = (u : tree.Unit) → IsUnit u → all_faults (source_of u) ≡ [] → IsSome (unit_said (source_of u)).given

-- the same of a unit with no first fault
abbrev pub UnfaultedUnitsAreTyped : Type 0
UnfaultedUnitsAreTyped = (u : tree.Unit) → IsUnit u → first_fault u ≡ None → IsSome (typed_of u)

pub clean_units_are_typed : CleanUnitsAreTyped
clean_units_are_typed u good clean =
    let all = (in_row (map external_level u.items) []).0 in
    some_given (unit_said (source_of u)).given
    ((outers_row (map outer_of u.items) (outers u.items [] (right (filled all) _ good))).run (around_unit (source_of u)) nothing_found (tt, (tt, tt))
    (none_first (unit_said (source_of u)).faults _ clean)).gives

-- ---- the first fault

never_none : (fs : List Fault) (f : Fault) → first_of (Some f) fs ≡ None → ⊥
never_none [] f h = cc
never_none (g ∷ fs) f h = never_none fs (Rattle.c_typing.specs.Faults.earlier (Some f) g) h

none_found : (fs : List Fault) → first_of None fs ≡ None → fs ≡ []
none_found [] h = refl
none_found (f ∷ fs) h = absurd (never_none fs f h)

none_but_unready : (fs unready : List Fault) → or_unready fs unready ≡ [] → fs ≡ []
none_but_unready [] unready h = refl
none_but_unready (f ∷ fs) unready h = absurd cc

still_some : {A B : Type 0} (f : A → B) (o : Option A) → is_some o ≡ true → is_some (option_map f o) ≡ true
still_some f (Some a) h = refl
still_some f None h = h

pub unfaulted_units_are_typed : UnfaultedUnitsAreTyped
unfaulted_units_are_typed u good clean =
    still_some (typed_unit (around_unit (source_of u)) (unit_said (source_of u)).state) (unit_said (source_of u)).given
    (clean_units_are_typed u good (none_but_unready (all_faults (source_of u)) (unit_said (source_of u)).state.unready (none_found _ clean)))
