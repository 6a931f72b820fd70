-- What the functions of a typed unit are: their bodies, their tokens and how many there are.
use Rattle.std.proofs.Common.{◌≡◌, refl, ap, ℕ, suc, ◌+◌, ◌<◌, ◌≤◌, Bool, true, false, List, [], ◌∷◌, ◌++◌, Option, Some, None, length, map, arith, length-append}
use Rattle.std.proofs.lemmas.Option.{none-some, same_Some}
use Rattle.std.specs.Prelude.{if◌then◌else◌}
use Rattle.std.specs.List.{AllByRecursion}
use Rattle.std.specs.Str.{bytes_eq}
use Rattle.c_tree.specs.declared.expression.Identifier.{Identifier}
use Rattle.c_tree.specs.declared.statement.Block.{Block}
use Rattle.c_tree.specs.declared.unit.Definition.{Definition}
use Rattle.c_tree.specs.declared.unit.External.{External}
use Rattle.c_tree.specs.declared.unit.External.TheVariants as external
use Rattle.c_tree.specs.Spelling.Trees.{declarator_spelling}
use Rattle.c_tree.specs.Spelling.Declarations.{specifiers_spelling}
use Rattle.c_tree.specs.Spelling.Statements.{block_spelling, block_spelling-is}
use Rattle.c_tree.specs.Spelling.Units.{definition_spelling}
use Rattle.c_tree.specs.declared.typed.types.CType.{CType}
use Rattle.c_tree.specs.declared.typed.statement.TStmt.{TStmt}
use Rattle.c_tree.specs.declared.typed.statement.TStmt.TheVariants as t
use Rattle.c_tree.specs.declared.typed.statement.Objects.{Objects}
use Rattle.c_tree.specs.declared.typed.unit.Object.{Object}
use Rattle.c_tree.specs.declared.typed.unit.TFunction.{TFunction}
use Rattle.c_typing.specs.declared.declarator.Basis.{Basis}
use Rattle.c_typing.specs.declared.declarator.Part.{Part}
use Rattle.c_typing.specs.declared.declarator.Parameter.{Parameter}
use Rattle.c_typing.specs.declared.scope.State.{State}
use Rattle.c_typing.specs.Types.{shape}
use Rattle.c_typing.specs.Scopes.{Name, Around, Walk, give, asked, beside, here, change, in_definition, entered, number_in, ◌>>=◌}
use Rattle.c_typing.specs.Declarators.{name_place, first_token, specifiers_row}
use Rattle.c_typing.specs.Declarations.{Made, Declared, linked, linked_faults}
use Rattle.c_typing.specs.Declarations as declarations
use Rattle.c_typing.specs.OfStatements.{Blocked, function_names, count_items}
use Rattle.c_typing.specs.OfStatements as statements
use Rattle.c_typing.specs.Units as typing
use Rattle.c_typing.specs.Units.{Defined, Outer, Declares, Defines, parameters_of, result_of_shape, header, begun, ended, readied, unlisted, parameter_objects, owned_row, body_row, function_made, defined_of, outer_of, defined_functions}
use Rattle.c_unit_laws.specs.Walks.{IfAny, Does, anything, gives, silent, follows, chain, pair, sees, asks, besides, changes}
use Rattle.c_unit_laws.specs.Placed.{Placed, AllPlaced, block_placed, all_append}
use Rattle.c_unit_laws.specs.OfStatements.{DoesItem, owning, items_row}
use Rattle.c_unit_laws.specs.Statements.{block}

-- ---- function definitions

-- a function: no jump leads out of its body, and it has tokens
pub record IsWhole (f : TFunction) : Type 0 where
  pub body : Placed false false f.body
  pub tokens : 1 ≤ f.tokens

-- a definition whose statements are placed, and that has tokens
pub record DefinesWhole (d : Defined) : Type 0 where
  pub body : AllByRecursion DoesItem d.body
  pub tokens : 1 ≤ d.tokens

-- a body, with its parameters as objects
abbrev BodyPlaced : (TStmt × List Object) → Type 0
BodyPlaced r = Placed false false r.0

abbrev with_parameters : List Parameter → Objects × Made → Walk (TStmt × List Object)
with_parameters ps r = here (λ c s. give (t.Block r.0 r.1, parameter_objects s 0 ps))

owned : (items : Blocked) → AllByRecursion DoesItem items → Does (λ (r : Objects × Made). AllPlaced false false r.1) false false (owned_row items)
owned items p = record { run = λ c s e f. (owning (count_items (function_names s) items) (statements.items_row items) (items_row items p false false)).run c s e f }

made_body : (ps : List Parameter) (r : Option (Objects × Made)) → IfAny (λ (r : Objects × Made). AllPlaced false false r.1) r → Does BodyPlaced false false (asked r (with_parameters ps))
made_body ps (Some r) h =
    sees (λ c s. give (t.Block r.0 r.1, parameter_objects s 0 ps)) (λ c s. gives (t.Block r.0 r.1, parameter_objects s 0 ps) (block_placed false false r.0 r.1 h))
made_body ps None h = silent

body : (ps : List Parameter) (u : CType) (items : Blocked) → AllByRecursion DoesItem items → (b k : Bool) → Does BodyPlaced b k (body_row ps u items)
body ps u items p b k = record {
  run = λ c s e f.
      (follows (λ r. asked r (with_parameters ps)) (owned items p) (made_body ps)).run
      (record c { own_from = 0; inner_from = length ps; may_break = false; may_continue = false; result = u }) s refl refl;
}

inside : {A : Type 0} {P : A → Type 0} {b k : Bool} (w : Walk A) → Does P b k w → Does P b k (in_definition w)
inside w p = record { run = λ c s e f. p.run (record c { at_file_level = false; names_from = 0; tags_from = 0 }) (entered s) e f }

links : {A : Type 0} {P : A → Type 0} {b k : Bool} {w : Walk A} (name : Name) (defines : Bool) (u : CType) → Does P b k w → Does P b k (linked name defines u w)
links name defines u p = record { run = λ c s e f. p.run c _ e f }

made_whole : (tokens : ℕ) (u : CType) → 1 ≤ tokens → (r : TStmt × List Object) → BodyPlaced r → IsWhole (function_made tokens u r)
made_whole tokens u n r h = record { body = h; tokens = n }

-- the body in the scope of its parameters
abbrev body_in : (tokens : ℕ) → Blocked → List Parameter → CType → Walk TFunction
body_in tokens items ps u = in_definition (body_row ps u items) >>= λ r. change ended (asked r (λ r. give (function_made tokens u r)))

body_made : (tokens : ℕ) (items : Blocked) (ps : List Parameter) (u : CType) → 1 ≤ tokens → AllByRecursion DoesItem items → (b k : Bool) → Does IsWhole b k (body_in tokens items ps u)
body_made tokens items ps u n p b k =
    follows (λ r. change ended (asked r (λ r. give (function_made tokens u r)))) (inside (body_row ps u items) (body ps u items p b k))
    (λ r g. changes ended (asks r g (λ r g. gives (function_made tokens u r) (made_whole tokens u n r g))))

defined_as : (tokens : ℕ) (items : Blocked) (id : Identifier) (h : List Part × CType) → 1 ≤ tokens → AllByRecursion DoesItem items → (b k : Bool)
    → Does IsWhole b k (typing.defined_as tokens items id h)
defined_as tokens items id h n p b k =
    let ps = parameters_of h.0 in let u = result_of_shape (shape h.1) in
    sees (λ c s. beside (linked_faults c s id true h.1) (change (readied ps) (linked id.text true h.1 (change (begun (length ps)) (body_in tokens items ps u)))))
    (λ c s. besides (linked_faults c s id true h.1)
    (changes (readied ps) (links id.text true h.1 (changes (begun (length ps)) (body_made tokens items ps u n p b k)))))

defined_if : (tokens : ℕ) (items : Blocked) (name : Option Identifier) (h : Option (List Part × CType)) → 1 ≤ tokens → AllByRecursion DoesItem items → (b k : Bool)
    → Does IsWhole b k (typing.defined_if tokens items name h)
defined_if tokens items (Some id) (Some h) n p b k = defined_as tokens items id h n p b k
defined_if tokens items (Some id) None n p b k = record { run = λ c s e f. tt }
defined_if tokens items None h n p b k = record { run = λ c s e f. tt }

-- what follows the specifiers
abbrev behind_specifiers : Defined → Option Basis → Walk TFunction
behind_specifiers d b =
    change unlisted (header (name_place d.declaring.name (first_token d.specifiers)) b d.declaring) >>=
    typing.defined_if d.tokens d.body d.declaring.name

definition_behind : (d : Defined) (o : Option Basis) → DefinesWhole d → (b k : Bool) → Does IsWhole b k (behind_specifiers d o)
definition_behind d o p b k =
    follows (typing.defined_if d.tokens d.body d.declaring.name)
    (anything (change unlisted (header (name_place d.declaring.name (first_token d.specifiers)) o d.declaring)))
    (λ h l. defined_if d.tokens d.body d.declaring.name h p.tokens p.body b k)

definition_row : (d : Defined) → DefinesWhole d → (b k : Bool) → Does IsWhole b k (typing.definition_row d)
definition_row d p b k =
    follows (λ o. asked o (typing.defining_basis (first_token d.specifiers)) >>= behind_specifiers d) (anything (specifiers_row false d.specifiers))
    (λ o g. follows (behind_specifiers d) (anything (asked o (typing.defining_basis (first_token d.specifiers)))) (λ o g. definition_behind d o p b k))

-- ---- units

abbrev DoesOuter : Outer → Type 0
DoesOuter (Declares d) = Unit {0}
DoesOuter (Defines d) = DefinesWhole d

outer_row : (o : Outer) → DoesOuter o → (b k : Bool) → Does (AllByRecursion IsWhole) b k (typing.outer_row o)
outer_row (Declares d) p b k = chain (anything (declarations.declaration_row d)) (λ made g. gives [] tt)
outer_row (Defines d) p b k = chain (definition_row d p b k) (λ f g. gives (f ∷ []) (g, tt))

outers_row : (os : List Outer) → AllByRecursion DoesOuter os → (b k : Bool) → Does (AllByRecursion IsWhole) b k (typing.outers_row os)
outers_row [] p b k = gives [] tt
outers_row (o ∷ os) p b k = pair (outer_row o p.0 b k) (outers_row os p.1 b k) (λ a rest g h. gives (a ++ rest) (all_append IsWhole a rest g h))

-- a definition has at least the tokens of its body
block_has_tokens : (x : Block) → 1 ≤ length (block_spelling x)
block_has_tokens x = let e = ap length (block_spelling-is x) in omega (arith, e)

has_tokens : (d : Definition) → 1 ≤ length (definition_spelling d)
has_tokens d =
    let e = length-append (specifiers_spelling d.specifiers) (declarator_spelling d.declarator ++ block_spelling d.body) in
    let f = length-append (declarator_spelling d.declarator) (block_spelling d.body) in
    let g = block_has_tokens d.body in omega (arith, e, f, g)

outer : (x : External) → DoesOuter (outer_of x)
outer (external.Declaration d) = tt
outer (external.Definition d) = record { body = block d.body; tokens = has_tokens d }

outers : (xs : List External) → AllByRecursion DoesOuter (map outer_of xs)
outers [] = tt
outers (x ∷ xs) = (outer x, outers xs)

-- what a walk over a unit gives
pub functions_whole : (xs : List External) (c : Around) (s : State) → IfAny (AllByRecursion IsWhole) (typing.outers_row (map outer_of xs) c s).given
functions_whole xs c s = (outers_row (map outer_of xs) (outers xs) c.may_break c.may_continue).run c s refl refl

-- ---- how many there are

abbrev HasMany : ℕ → List TFunction → Type 0
HasMany n fs = length fs ≡ n

count_one : (o : Outer) (b k : Bool) → Does (HasMany (length (defined_functions (o ∷ [])))) b k (typing.outer_row o)
count_one (Declares d) b k = chain (anything (declarations.declaration_row d)) (λ made g. gives [] refl)
count_one (Defines d) b k = chain (anything (typing.definition_row d)) (λ f g. gives (f ∷ []) refl)

count_more : (o : Outer) (os : List Outer) → length (defined_functions (o ∷ os)) ≡ length (defined_functions (o ∷ [])) + length (defined_functions os)
count_more (Declares d) os = let n = length (defined_functions os) in omega arith
count_more (Defines d) os = let n = length (defined_functions os) in omega arith

count_all : (os : List Outer) (b k : Bool) → Does (HasMany (length (defined_functions os))) b k (typing.outers_row os)
count_all [] b k = gives [] refl
count_all (o ∷ os) b k =
    pair (count_one o b k) (count_all os b k)
    (λ a rest g h. gives (a ++ rest) (let e = length-append a rest in let m = count_more o os in omega (arith, e, m, g, h)))

pub functions_counted : (os : List Outer) (c : Around) (s : State) → IfAny (HasMany (length (defined_functions os))) (typing.outers_row os c s).given
functions_counted os c s = (count_all os c.may_break c.may_continue).run c s refl refl

-- ---- a name in a list

-- the first of a list, or one behind it
first_or_later : (n m k : ℕ) (b : Bool) (later : Option ℕ) → (later ≡ Some m → m < (n + 1) + k) → (if b then Some n else later) ≡ Some m → m < n + suc k
first_or_later n m k true later p e = let g = same_Some n m e in omega (arith, g)
first_or_later n m k false later p e = let h = p e in omega (arith, h)

pub below : (n : ℕ) (xs : List Name) (name : Name) (m : ℕ) → number_in n xs name ≡ Some m → m < n + length xs
below n [] name m e = absurd (none-some m e)
below n (x ∷ xs) name m e =
    first_or_later n m (length xs) (bytes_eq x name) (number_in (n + 1) xs name) (below (n + 1) xs name m) e
