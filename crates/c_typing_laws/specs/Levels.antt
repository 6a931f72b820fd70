-- What is told of the levels of a tree, where they tell anything of its parts.
use Rattle.std.specs.Prelude.{◌≡◌, Bool, true, false, ◌&&◌, not, List, [], ◌∷◌, ◌++◌, Option, Some, None, map, is_some, refl}
use Rattle.std.proofs.Common.{ap, sym, ◌∙◌, subst}
use Rattle.std.specs.List.{AllByRecursion}
use Rattle.c_tree.specs.declared.expression.Identifier.{Identifier}
use Rattle.c_tree.specs.declared.declarator.DeclaratorSuffix.{DeclaratorSuffix}
use Rattle.c_tree.specs.declared.declarator.Direct.{Direct, roll-Direct}
use Rattle.c_tree.specs.declared.expression.Expr.{Expr}
use Rattle.c_tree.specs.declared.expression.Prefix.{Prefix}
use Rattle.c_tree.specs.declared.expression.Suffix.{Suffix}
use Rattle.c_tree.specs.declared.specifier.Enumerator.{Enumerator}
use Rattle.c_tree.specs.declared.specifier.Specifier.{Specifier}
use Rattle.c_tree.specs.declared.declarator.Declarator.{Declarator, roll-Declarator}
use Rattle.c_tree.specs.declared.declarator.Parameter.{Parameter}
use Rattle.c_tree.specs.declared.expression.Branch.{Branch}
use Rattle.c_tree.specs.declared.expression.Next.{Next}
use Rattle.c_tree.specs.declared.expression.TypeName.{TypeName}
use Rattle.c_tree.specs.declared.specifier.Member.{Member}
use Rattle.c_tree.specs.declared.specifier.MemberDeclarator.{MemberDeclarator}
use Rattle.c_tree.specs.declared.declarator.DeclaratorSuffix.TheOpen.{Direct-F, Declarator-F}
use Rattle.c_tree.specs.declared.declarator.DeclaratorSuffix.TheFolds.{map-Direct, map-Declarator, ind-Declarator}
use Rattle.c_tree.specs.Layers.{DirectLayer, DeclaratorLayer}
use Rattle.c_tree.specs.Levels.Names.{Names, With, in_row}
use Rattle.c_tree.specs.Levels.Facts.{ListedFacts, listed, rest_listed, DeclaratorFacts}
use Rattle.c_tree.specs.Levels.Trees.{direct_level, direct_level-roll, declarator_level, declarator_level-roll}
use Rattle.c_typing.specs.Trees.{direct_typing, direct_typing-roll, declarator_typing, declarator_typing-roll}
use Rattle.c_typing.specs.Declarators.{Declaring}
use Rattle.c_typing_laws.specs.Scopes.{IfGiven, Any}

-- ---- truth

pub left : (a b : Bool) → (a && b) ≡ true → a ≡ true
left true b h = refl
left false b h = h

pub right : (a b : Bool) → (a && b) ≡ true → b ≡ true
right true b h = h
right false b h = absurd (let e : false ≡ true = h in cc)

-- ---- nodes

-- what is shown of a node holds of its tree
pub met : {L A : Type 0} (P : A → Type 0) (good : L → Bool) {level step : With L} {typed made : A} → level ≡ step → typed ≡ made
    → ((names : Names) → good (step names).0 ≡ true → P made) → (names : Names) → good (level names).0 ≡ true → P typed
met {L} P good e f q names h = subst P (sym f) (q names (subst (λ (l : With L). good (l names).0 ≡ true) e h))

-- each item of a list with commas is as the grammar has it
pub rest_of : {X A : Type 0} (level : X → With ListedFacts) (typed : X → A) (P : A → Type 0)
    (all : List ((x : X) × ((names : Names) → (level x names).0.good ≡ true → P (typed x)))) (names : Names)
    → rest_listed (in_row (map level (map (λ e. e.0) all)) names).0 ≡ true → AllByRecursion P (map typed (map (λ e. e.0) all))
rest_of level typed P [] names h = tt
rest_of level typed P (e ∷ all) names h =
    let h' = right (level e.0 names).0.comma _ h in
    (e.1 names (left (level e.0 names).0.good _ h'), rest_of level typed P all (names ++ (level e.0 names).1) (right (level e.0 names).0.good _ h'))

pub listed_of : {X A : Type 0} (level : X → With ListedFacts) (typed : X → A) (P : A → Type 0)
    (all : List ((x : X) × ((names : Names) → (level x names).0.good ≡ true → P (typed x)))) (names : Names)
    → listed (in_row (map level (map (λ e. e.0) all)) names).0 ≡ true → AllByRecursion P (map typed (map (λ e. e.0) all))
listed_of level typed P [] names h = tt
listed_of level typed P (e ∷ all) names h =
    let h' = right (not (level e.0 names).0.comma) _ h in
    (e.1 names (left (level e.0 names).0.good _ h'), rest_of level typed P all (names ++ (level e.0 names).1) (right (level e.0 names).0.good _ h'))

-- the same where it is known of each item whatever the tree
paired : {X : Type 0} {Q : X → Type 0} (each : (x : X) → Q x) (all : List X) → map (λ (e : (x : X) × Q x). e.0) (map (λ (x : X). (x, each x)) all) ≡ all
paired each [] = refl
paired each (x ∷ all) = ap (λ xs. x ∷ xs) (paired each all)

pub listed_all : {X A : Type 0} (level : X → With ListedFacts) (typed : X → A) (P : A → Type 0)
    → ((x : X) (names : Names) → (level x names).0.good ≡ true → P (typed x)) → (all : List X) (names : Names)
    → listed (in_row (map level all) names).0 ≡ true → AllByRecursion P (map typed all)
listed_all {X} level typed P each all names h =
    let same = paired {Q = λ x. (names : Names) → (level x names).0.good ≡ true → P (typed x)} each all in
    subst (λ xs. AllByRecursion P (map typed xs)) same
    (listed_of level typed P (map (λ (x : X). (x, each x)) all) names (subst (λ xs. listed (in_row (map level xs) names).0 ≡ true) (sym same) h))

-- ---- the names of declarators

-- whether the two have a name
abbrev Alike : Declaring → With DeclaratorFacts → Type 0
Alike d level = (names : Names) → is_some (level names).0.name ≡ is_some d.name

abbrev KnownDirect : Type 0
KnownDirect = (x : Direct) × Alike (direct_typing x) (direct_level x)

abbrev KnownDeclarator : Type 0
KnownDeclarator = (x : Declarator) × Alike (declarator_typing x) (declarator_level x)

abbrev Known : Type 0 → Type 0
Known X = (x : X) × Unit {0}

abbrev DirectOfKnown : Type 0
DirectOfKnown = Direct-F (Known DeclaratorSuffix) KnownDirect (Known Expr) (Known Prefix) (Known Suffix) (Known Enumerator) (Known Specifier) KnownDeclarator (Known Parameter) (Known Branch) (Known Next) (Known TypeName) (Known Member) (Known MemberDeclarator)

abbrev DeclaratorOfKnown : Type 0
DeclaratorOfKnown = Declarator-F (Known DeclaratorSuffix) KnownDirect (Known Expr) (Known Prefix) (Known Suffix) (Known Enumerator) (Known Specifier) KnownDeclarator (Known Parameter) (Known Branch) (Known Next) (Known TypeName) (Known Member) (Known MemberDeclarator)

abbrev bare_direct : DirectOfKnown → DirectLayer
bare_direct = map-Direct (Known DeclaratorSuffix) KnownDirect (Known Expr) (Known Prefix) (Known Suffix) (Known Enumerator) (Known Specifier) KnownDeclarator (Known Parameter) (Known Branch) (Known Next) (Known TypeName) (Known Member) (Known MemberDeclarator) DeclaratorSuffix Direct Expr Prefix Suffix Enumerator Specifier Declarator Parameter Branch Next TypeName Member MemberDeclarator (λ e. e.0) (λ e. e.0) (λ e. e.0) (λ e. e.0) (λ e. e.0) (λ e. e.0) (λ e. e.0) (λ e. e.0) (λ e. e.0) (λ e. e.0) (λ e. e.0) (λ e. e.0) (λ e. e.0) (λ e. e.0)

abbrev bare_declarator : DeclaratorOfKnown → DeclaratorLayer
bare_declarator = map-Declarator (Known DeclaratorSuffix) KnownDirect (Known Expr) (Known Prefix) (Known Suffix) (Known Enumerator) (Known Specifier) KnownDeclarator (Known Parameter) (Known Branch) (Known Next) (Known TypeName) (Known Member) (Known MemberDeclarator) DeclaratorSuffix Direct Expr Prefix Suffix Enumerator Specifier Declarator Parameter Branch Next TypeName Member MemberDeclarator (λ e. e.0) (λ e. e.0) (λ e. e.0) (λ e. e.0) (λ e. e.0) (λ e. e.0) (λ e. e.0) (λ e. e.0) (λ e. e.0) (λ e. e.0) (λ e. e.0) (λ e. e.0) (λ e. e.0) (λ e. e.0)

-- of equal declarators and levels
both_alike : {d e : Declaring} {l m : With DeclaratorFacts} → d ≡ e → l ≡ m → Alike e m → Alike d l
both_alike {d} {e} {l} {m} p q h = subst (λ d. Alike d l) (sym p) (subst (λ l. Alike e l) (sym q) h)

of_direct : (y : DirectOfKnown) → Alike (direct_typing (roll-Direct (bare_direct y))) (direct_level (roll-Direct (bare_direct y)))
of_direct Direct-F.Nothing = both_alike (direct_typing-roll Direct-F.Nothing) (direct_level-roll Direct-F.Nothing) (λ names. refl)
of_direct (Direct-F.Named id) = both_alike (direct_typing-roll (Direct-F.Named id)) (direct_level-roll (Direct-F.Named id)) (λ names. refl)
of_direct (Direct-F.Grouped from inner to) =
    both_alike (direct_typing-roll (Direct-F.Grouped from inner.0 to)) (direct_level-roll (Direct-F.Grouped from inner.0 to)) inner.1

of_declarator : (y : DeclaratorOfKnown) → Alike (declarator_typing (roll-Declarator (bare_declarator y))) (declarator_level (roll-Declarator (bare_declarator y)))
of_declarator y = both_alike (declarator_typing-roll (bare_declarator y)) (declarator_level-roll (bare_declarator y)) y.direct.1

alike : (x : Declarator) → Alike (declarator_typing x) (declarator_level x)
alike = ind-Declarator (λ x. Unit {0}) (λ x. Alike (direct_typing x) (direct_level x)) (λ x. Unit {0}) (λ x. Unit {0}) (λ x. Unit {0}) (λ x. Unit {0}) (λ x. Unit {0}) (λ x. Alike (declarator_typing x) (declarator_level x)) (λ x. Unit {0}) (λ x. Unit {0}) (λ x. Unit {0}) (λ x. Unit {0}) (λ x. Unit {0}) (λ x. Unit {0})
    (λ x y is. tt)
    (λ x y is. subst (λ z. Alike (direct_typing (roll-Direct z)) (direct_level (roll-Direct z))) is (of_direct y))
    (λ x y is. tt) (λ x y is. tt) (λ x y is. tt) (λ x y is. tt) (λ x y is. tt)
    (λ x y is. subst (λ z. Alike (declarator_typing (roll-Declarator z)) (declarator_level (roll-Declarator z))) is (of_declarator y))
    (λ x y is. tt) (λ x y is. tt) (λ x y is. tt) (λ x y is. tt) (λ x y is. tt) (λ x y is. tt)

given_by : (o : Option Identifier) → is_some o ≡ true → IfGiven Any o
given_by (Some id) h = tt
given_by None h = absurd (let e : false ≡ true = h in cc)

-- a declarator that has a name in the grammar has one in typing
pub named : (x : Declarator) (names : Names) → is_some (declarator_level x names).0.name ≡ true → IfGiven Any (declarator_typing x).name
named x names h = given_by (declarator_typing x).name (sym (alike x names) ∙ h)
