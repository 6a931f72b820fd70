-- The rows of units give a typed tree where they tell no fault.
use Rattle.std.specs.Prelude.{ℕ, true, false, List, [], ◌∷◌, ◌++◌, Option, Some, None, length}
use Rattle.std.specs.List.{AllByRecursion}
use Rattle.std.specs.Option.{option_map}
use Rattle.c_tree.specs.declared.token.Pos.{Pos}
use Rattle.c_tree.specs.declared.expression.Identifier.{Identifier}
use Rattle.c_tree.specs.declared.typed.types.CType.{CType}
use Rattle.c_tree.specs.declared.typed.statement.TStmt.{TStmt}
use Rattle.c_tree.specs.declared.typed.statement.TStmt.TheVariants as t
use Rattle.c_tree.specs.declared.typed.statement.Objects.{Objects}
use Rattle.c_tree.specs.declared.typed.unit.Object.{Object}
use Rattle.c_tree.specs.declared.typed.unit.TFunction.{TFunction}
use Rattle.c_typing.specs.declared.declarator.Basis.{Basis}
use Rattle.c_typing.specs.declared.declarator.Part.{Part}
use Rattle.c_typing.specs.declared.declarator.Parameter.{Parameter}
use Rattle.c_typing.specs.declared.scope.State.{State}
use Rattle.c_typing.specs.Types.{shape}
use Rattle.c_typing.specs.Scopes.{Walk, give, asked, both_asked, here, change, in_definition, ◌>>=◌}
use Rattle.c_typing.specs.Declarators.{Declaring, basis_type, derive, name_place, first_token}
use Rattle.c_typing.specs.Declarations.{Made, linked_faults}
use Rattle.c_typing.specs.OfStatements.{Blocked, function_names, count_items}
use Rattle.c_typing.specs.OfStatements as statements
use Rattle.c_typing.specs.Units as typing
use Rattle.c_typing.specs.Units.{Defined, Outer, Declares, Defines, readied, begun, ended, unlisted, parameter_objects, parameters_of, result_of_shape, body_row, function_made}
use Rattle.c_typing_laws.specs.Scopes.{AreKnown, IfGiven, Answers, Any, gives, follows, asks, both, chain, pair, besides, sees, turns, changes, defines, walks}
use Rattle.c_typing_laws.specs.Declarators.{Derives, IsSpecific, mapped, specifiers_row}
use Rattle.c_typing_laws.specs.Declarators as declarators
use Rattle.c_typing_laws.specs.Declarations as declarations
use Rattle.c_typing_laws.specs.Declarations.{declaration_row}
use Rattle.c_typing_laws.specs.OfStatements.{DoesItem, owning, items_row}

-- ---- function definitions

-- a definition whose declarator has a name
pub record DefinesWell (d : Defined) : Type 0 where
  pub specifiers : AllByRecursion IsSpecific d.specifiers
  pub derives : Derives d.declaring
  pub named : IfGiven Any d.declaring.name
  pub body : AllByRecursion DoesItem d.body

header : (at : Pos) (b : Option Basis) (d : Declaring) → IfGiven Any b → Derives d → Answers Any (typing.header at b d)
header at b d g p =
    follows (λ ds. both_asked ds (option_map basis_type b) (derive at) >>= λ u. both_asked ds u (λ ds u. give (ds, u))) (p true)
    (λ ds h. follows (λ u. both_asked ds u (λ ds u. give (ds, u))) (both ds (option_map basis_type b) h (mapped basis_type b g) (λ ds t a c. declarators.derive at ds t a))
    (λ u k. both ds u h k (λ ds u a c. gives (ds, u) tt)))

-- the block, and the parameters as objects at its end
abbrev with_parameters : List Parameter → Objects × Made → Walk (TStmt × List Object)
with_parameters ps r = here (λ c s. give (t.Block r.0 r.1, parameter_objects s 0 ps))

made_body : (ps : List Parameter) (r : Option (Objects × Made)) → IfGiven Any r → Answers Any (asked r (with_parameters ps))
made_body ps (Some r) h = sees (λ c s. give (t.Block r.0 r.1, parameter_objects s 0 ps)) (λ c s k. gives (t.Block r.0 r.1, parameter_objects s 0 ps) tt)
made_body ps None h = absurd h

owned_row : (items : Blocked) → AllByRecursion DoesItem items → Answers Any (typing.owned_row items)
owned_row items p = record {
  run = λ c s k h. (owning (count_items (function_names s) items) (statements.items_row items) (items_row items p)).run c s k h;
}

body : (ps : List Parameter) (u : CType) (items : Blocked) → AllByRecursion DoesItem items → Answers Any (body_row ps u items)
body ps u items p =
    turns (λ c. record c { own_from = 0; inner_from = length ps; may_break = false; may_continue = false; result = u })
    (follows (λ r. asked r (with_parameters ps)) (owned_row items p) (made_body ps))

readied_known : (ps : List Parameter) (s : State) → AreKnown s → AreKnown (readied ps s)
readied_known [] s k = k
readied_known (q ∷ qs) s k = readied_known qs _ k

-- the block in its scope
abbrev body_in : (tokens : ℕ) → Blocked → (List Part × CType) → Walk TFunction
body_in tokens items h =
    in_definition (body_row (parameters_of h.0) (result_of_shape (shape h.1)) items) >>= λ r.
    change ended (asked r (λ r. give (function_made tokens (result_of_shape (shape h.1)) r)))

body_answers : (tokens : ℕ) (items : Blocked) (h : List Part × CType) → AllByRecursion DoesItem items → Answers Any (body_in tokens items h)
body_answers tokens items h p =
    let u = result_of_shape (shape h.1) in
    follows (λ r. change ended (asked r (λ r. give (function_made tokens u r)))) (defines (body (parameters_of h.0) u items p))
    (λ r g. changes ended (λ s k. k) (asks r g (λ r a. gives (function_made tokens u r) tt)))

defined_as : (tokens : ℕ) (items : Blocked) (id : Identifier) (h : List Part × CType) → AllByRecursion DoesItem items → Answers Any (typing.defined_as tokens items id h)
defined_as tokens items id h p = record {
  run = λ c s k e.
      let ps = parameters_of h.0 in
      (besides (linked_faults c s id true h.1) (λ e.
      changes (readied ps) (readied_known ps)
      (declarations.linked id.text true h.1 (changes (begun (length ps)) (λ s k. k) (body_answers tokens items h p))))).run c s k e;
}

defined_if : (tokens : ℕ) (items : Blocked) (name : Option Identifier) (h : Option (List Part × CType)) → IfGiven Any name → IfGiven Any h → AllByRecursion DoesItem items
    → Answers Any (typing.defined_if tokens items name h)
defined_if tokens items (Some id) (Some h) n g p = defined_as tokens items id h p
defined_if tokens items (Some id) None n g p = absurd g
defined_if tokens items None h n g p = absurd n

defining_basis : (at : Pos) (b : Basis) → Answers Any (typing.defining_basis at b)
defining_basis at b = search walks

-- what follows the specifiers
abbrev behind_specifiers : Defined → Option Basis → Walk TFunction
behind_specifiers d b =
    change unlisted (typing.header (name_place d.declaring.name (first_token d.specifiers)) b d.declaring) >>= typing.defined_if d.tokens d.body d.declaring.name

definition_behind : (d : Defined) (b : Option Basis) → DefinesWell d → IfGiven Any b → Answers Any (behind_specifiers d b)
definition_behind d b p g =
    follows (typing.defined_if d.tokens d.body d.declaring.name)
    (changes unlisted (λ s k. (k.0, (k.1.0, tt))) (header (name_place d.declaring.name (first_token d.specifiers)) b d.declaring g p.derives))
    (λ h l. defined_if d.tokens d.body d.declaring.name h p.named l p.body)

definition_row : (d : Defined) → DefinesWell d → Answers Any (typing.definition_row d)
definition_row d p =
    follows (λ b. asked b (typing.defining_basis (first_token d.specifiers)) >>= behind_specifiers d) (specifiers_row false d.specifiers p.specifiers)
    (λ b g. follows (behind_specifiers d) (asks b g (λ b a. defining_basis (first_token d.specifiers) b)) (λ b g. definition_behind d b p g))

-- ---- units

abbrev pub DoesOuter : Outer → Type 0
DoesOuter (Declares d) = declarations.Declares d
DoesOuter (Defines d) = DefinesWell d

outer_row : (o : Outer) → DoesOuter o → Answers Any (typing.outer_row o)
outer_row (Declares d) p = chain (declaration_row d p) (λ made g. gives [] tt)
outer_row (Defines d) p = chain (definition_row d p) (λ f g. gives (f ∷ []) tt)

pub outers_row : (os : List Outer) → AllByRecursion DoesOuter os → Answers Any (typing.outers_row os)
outers_row [] p = gives [] tt
outers_row (o ∷ os) p = pair (outer_row o p.0) (outers_row os p.1) (λ a rest g h. gives (a ++ rest) tt)
