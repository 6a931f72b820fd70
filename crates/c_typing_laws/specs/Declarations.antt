-- The rows of declarations give what they come to, where they tell no fault.
use Rattle.std.specs.Prelude.{ℕ, ◌+◌, Bool, true, false, ◌||◌, if◌then◌else◌, List, [], ◌∷◌, ◌++◌, Option, Some, None, length, is_some, unwrap_or}
use Rattle.std.specs.List.{AllByRecursion}
use Rattle.std.specs.Option.{option_map}
use Rattle.c_tree.specs.declared.token.Pos.{Pos}
use Rattle.c_tree.specs.declared.expression.Identifier.{Identifier}
use Rattle.c_tree.specs.declared.specifier.Storage.{Storage}
use Rattle.c_tree.specs.declared.refusal.FaultKind.TheVariants as kind
use Rattle.c_tree.specs.declared.typed.types.CType.{CType}
use Rattle.c_tree.specs.declared.typed.statement.Initialiser.{Initialiser}
use Rattle.c_tree.specs.declared.typed.unit.StaticPart.{StaticPart}
use Rattle.c_typing.specs.declared.declarator.Basis.{Basis}
use Rattle.c_typing.specs.declared.initialiser.Filled.{Filled}
use Rattle.c_typing.specs.declared.scope.Meaning.TheVariants.{Automatic, Static, Linked}
use Rattle.c_typing.specs.Types.{shape, is_function, is_void}
use Rattle.c_typing.specs.Scopes.{Name, Walk, give, asked, both_asked, beside, fault_if, change, declaring, latest, own_meaning, ◌>>=◌}
use Rattle.c_typing.specs.Declarators.{basis_type, is_register, first_token}
use Rattle.c_typing.specs.OfInitialisers.{Initialising}
use Rattle.c_typing.specs.Declarations as typing
use Rattle.c_typing.specs.Declarations.{Made, Beginning, Declared, counted, linked_faults, composed, is_defined}
use Rattle.c_typing.specs.Starts as starts
use Rattle.c_typing_laws.specs.Scopes.{IfGiven, Answers, Any, gives, follows, asks, both, chain, pair, besides, passes, either, sees, changes, declares, walks}
use Rattle.c_typing_laws.specs.Declarators.{Derives, IsSpecific, mapped, declared_type, complete_row, specifiers_row}
use Rattle.c_typing_laws.specs.OfInitialisers.{Initialises, Fills}
use Rattle.c_typing_laws.specs.Starts.{filled_row, starts_row}

-- ---- what the parts of a declaration are

abbrev pub IfInitialises : Option Initialising → Type 0
IfInitialises None = Unit {0}
IfInitialises (Some s) = Initialises s

-- a declarator with a name, and its initialiser
pub record Begins (d : Beginning) : Type 0 where
  pub derives : Derives d.declaring
  pub named : IfGiven Any d.declaring.name
  pub start : IfInitialises d.start

pub record Declares (d : Declared) : Type 0 where
  pub specifiers : AllByRecursion IsSpecific d.specifiers
  pub declarators : AllByRecursion Begins d.declarators

-- ---- objects

fillable_row : (at : Pos) (t : CType) → Answers Any (typing.fillable_row at t)
fillable_row at t = either (typing.is_open_shape (shape t)) (λ e. gives t tt) (λ e. complete_row at t)

sized_row : (at : Pos) (t : CType) → Answers Any (typing.sized_row at t)
sized_row at t = search walks

without_start : (start : Option Initialising) → Answers Any (typing.without_start start)
without_start None = search walks
without_start (Some s) = search walks

typedef_row : (id : Identifier) (u : CType) (start : Option Initialising) → Answers Any (typing.typedef_row id u start)
typedef_row id u start = search (walks, besides, without_start)

pub linked : {A : Type 0} {P : A → Type 0} {w : Walk A} (name : Name) (defines : Bool) (u : CType) → Answers P w → Answers P (typing.linked name defines u w)
linked {A} {P} {w} name defines u p =
    sees (λ c s. let v = composed u (latest s.linked name) in
    change (λ s. record s { linked = s.linked ++ (name, record { ctype = v; defined = defines || is_defined (latest s.linked name) }) ∷ [] }) (declaring name (Linked v) w))
    (λ c s k. changes (λ t. record t { linked = t.linked ++ (name, record { ctype = composed u (latest s.linked name); defined = defines || is_defined (latest t.linked name) }) ∷ [] }) (λ s k. k)
    (declares name (Linked (composed u (latest s.linked name))) tt p))

function_row : (id : Identifier) (u : CType) (start : Option Initialising) → Answers Any (typing.function_row id u start)
function_row id u start =
    sees (λ c s. beside (linked_faults c s id false u) (typing.linked id.text false u (typing.without_start start)))
    (λ c s k. besides (linked_faults c s id false u) (λ e. linked id.text false u (without_start start)))

automatic : (name : Name) (u : CType) (place n : ℕ) (r : Bool) → Answers Any (typing.automatic name u place n r)
automatic name u place n r = declares name (Automatic u place n r) tt (gives u tt)

owned : (u : CType) (n : ℕ) (w : Walk Made) → Answers Any w → Answers Any (typing.owned u n w)
owned u n w p = changes (λ s. record s { own = s.own ++ record { ctype = u; number = n } ∷ [] }) (λ s k. k) p

initialised : (place : ℕ) (o : Option Initialiser) → IfGiven Any o → Answers Any (typing.initialised place o)
initialised place (Some i) h = gives _ tt
initialised place None h = absurd h

automatic_filled : (id : Identifier) (u : CType) (place n : ℕ) (r : Bool) (f : Filled) → Fills u f → Answers Any (typing.automatic_filled id u place n r f)
automatic_filled id u place n r f p =
    let v = counted u f.count in
    follows (λ w. typing.automatic id.text v place n r >>= λ v'. starts.initialiser_row v f.leaves >>= λ i. typing.owned v n (asked w (λ w. typing.initialised place i))) (sized_row id.place v)
    (λ w g. follows (λ v'. starts.initialiser_row v f.leaves >>= λ i. typing.owned v n (asked w (λ w. typing.initialised place i))) (automatic id.text v place n r)
    (λ v' a. follows (λ i. typing.owned v n (asked w (λ w. typing.initialised place i))) (filled_row u f p)
    (λ i k. owned v n (asked w (λ w. typing.initialised place i)) (asks w g (λ w a. initialised place i k)))))

automatic_start : (id : Identifier) (place n : ℕ) (r : Bool) (start : Option Initialising) (u : CType) → IfInitialises start → Answers Any (typing.automatic_start id place n r start u)
automatic_start id place n r None u h =
    follows (λ v. typing.owned u n (asked v (λ v. give []))) (complete_row id.place u) (λ v g. owned u n (asked v (λ v. give [])) (asks v g (λ v a. gives [] tt)))
automatic_start id place n r (Some start) u h = chain (fillable_row id.place u) (λ v a. chain (h.fill 0 v) (λ f g. automatic_filled id v place n r f g))

automatic_row : (id : Identifier) (r : Bool) (u : CType) (start : Option Initialising) → IfInitialises start → Answers Any (typing.automatic_row id r u start)
automatic_row id r u start h =
    sees (λ c s. beside (fault_if (is_some (own_meaning c s id.text)) kind.Redeclared id.place)
    (typing.automatic id.text u (c.own_from + length s.own) (c.numbers_from + length s.own) r >>= λ v.
    asked v (typing.automatic_start id (c.own_from + length s.own) (c.numbers_from + length s.own) r start)))
    (λ c s k. besides (fault_if (is_some (own_meaning c s id.text)) kind.Redeclared id.place) (λ e.
    chain (automatic id.text u (c.own_from + length s.own) (c.numbers_from + length s.own) r)
    (λ v a. automatic_start id (c.own_from + length s.own) (c.numbers_from + length s.own) r start v h)))

-- ---- static objects of functions

static_set : (i : ℕ) (u : CType) (parts : List StaticPart) → Answers Any (typing.static_set i u parts)
static_set i u parts = search walks

static_filled : (id : Identifier) (u : CType) (n i : ℕ) (f : Filled) → Fills u f → Answers Any (typing.static_filled id u n i f)
static_filled id u n i f p =
    let v = counted u f.count in
    pair (sized_row id.place v) (declares id.text (Static v n) tt (starts_row f.leaves p.leaves)) (λ w parts a b. static_set i v parts)

static_start : (id : Identifier) (n i : ℕ) (start : Option Initialising) (u : CType) → IfInitialises start → Answers Any (typing.static_start id n i start u)
static_start id n i None u h = chain (complete_row id.place u) (λ v a. static_set i u [])
static_start id n i (Some start) u h = chain (fillable_row id.place u) (λ v a. chain (h.fill 0 v) (λ f g. static_filled id v n i f g))

static_row : (id : Identifier) (u : CType) (start : Option Initialising) → IfInitialises start → Answers Any (typing.static_row id u start)
static_row id u start h =
    sees (λ c s. beside (fault_if (is_some (own_meaning c s id.text)) kind.Redeclared id.place)
    (change (λ s. record s { statics = s.statics ++ typing.static_object s.structs u [] ∷ [] })
    (declaring id.text (Static u (length c.objects + length s.statics)) (typing.static_start id (length c.objects + length s.statics) (length s.statics) start u))))
    (λ c s k. besides (fault_if (is_some (own_meaning c s id.text)) kind.Redeclared id.place) (λ e.
    changes (λ s. record s { statics = s.statics ++ typing.static_object s.structs u [] ∷ [] }) (λ s k. k)
    (declares id.text (Static u (length c.objects + length s.statics)) tt (static_start id (length c.objects + length s.statics) (length s.statics) start u h))))

-- ---- file-level objects and externs

start_set : (name : Name) (parts : List StaticPart) → Answers Any (typing.start_set name parts)
start_set name parts = search walks

linked_filled : (id : Identifier) (u : CType) (f : Filled) → Fills u f → Answers Any (typing.linked_filled id u f)
linked_filled id u f p =
    let v = counted u f.count in
    pair (sized_row id.place v) (linked id.text true v (starts_row f.leaves p.leaves)) (λ w parts a b. start_set id.text parts)

linked_start : (id : Identifier) (e : Bool) (start : Option Initialising) (u : CType) → IfInitialises start → Answers Any (typing.linked_start id e start u)
linked_start id true None u h = passes (is_void u) kind.Incomplete id.place (λ e. gives [] tt)
linked_start id false None u h = chain (complete_row id.place u) (λ v a. gives [] tt)
linked_start id true (Some start) u h = chain (fillable_row id.place u) (λ v a. chain (h.fill 0 v) (λ f g. linked_filled id v f g))
linked_start id false (Some start) u h = chain (fillable_row id.place u) (λ v a. chain (h.fill 0 v) (λ f g. linked_filled id v f g))

linked_row : (id : Identifier) (e : Bool) (u : CType) (start : Option Initialising) → IfInitialises start → Answers Any (typing.linked_row id e u start)
linked_row id e u start h =
    sees (λ c s. let v = composed u (latest s.linked id.text) in
    beside (linked_faults c s id (is_some start) u)
    (typing.linked id.text (is_some start) u (if c.at_file_level then typing.linked_start id e start v else (if is_some start then typing.without_start start else typing.linked_start id e None v))))
    (λ c s k. let v = composed u (latest s.linked id.text) in
    besides (linked_faults c s id (is_some start) u) (λ e'.
    linked id.text (is_some start) u (either c.at_file_level (λ a. linked_start id e start v h)
    (λ a. either (is_some start) (λ b. without_start start) (λ b. linked_start id e None v tt)))))

-- ---- one declarator

declared_row : (k : Option Storage) (id : Identifier) (start : Option Initialising) (u : CType) → IfInitialises start → Answers Any (typing.declared_row k id start u)
declared_row k id start u h =
    either (typing.is_typedef k) (λ a. typedef_row id u start) (λ a.
    either (is_function u) (λ b. function_row id u start) (λ b.
    sees (λ c s. if c.at_file_level || typing.is_extern k then typing.linked_row id (typing.is_extern k) u start
    else (if typing.is_static k then typing.static_row id u start else typing.automatic_row id (is_register k) u start))
    (λ c s l. either (c.at_file_level || typing.is_extern k) (λ d. linked_row id (typing.is_extern k) u start h)
    (λ d. either (typing.is_static k) (λ e. static_row id u start h) (λ e. automatic_row id (is_register k) u start h)))))

declared_if : (b : Option Basis) (makes : Bool) (name : Option Identifier) (start : Option Initialising) (u : Option CType)
    → IfGiven Any b → IfGiven Any name → IfInitialises start → IfGiven Any u → Answers Any (typing.declared_if b makes name start u)
declared_if (Some b) makes (Some id) start (Some u) g n h k = declared_row b.storage id start u h
declared_if (Some b) makes (Some id) start None g n h k = absurd k
declared_if (Some b) makes None start u g n h k = absurd n
declared_if None makes name start u g n h k = absurd g

init_declarator_row : (first : Pos) (b : Option Basis) (d : Beginning) → IfGiven Any b → Begins d → Answers Any (typing.init_declarator_row first b d)
init_declarator_row first b d g p =
    follows (typing.declared_if b (unwrap_or d.declaring.makes false) d.declaring.name d.start)
    (declared_type d.declaring false first (option_map basis_type b) p.derives (mapped basis_type b g))
    (λ u k. declared_if b (unwrap_or d.declaring.makes false) d.declaring.name d.start u g p.named p.start k)

init_declarators_row : (first : Pos) (b : Option Basis) (ds : List Beginning) → IfGiven Any b → AllByRecursion Begins ds → Answers Any (typing.init_declarators_row first b ds)
init_declarators_row first b [] g p = gives [] tt
init_declarators_row first b (d ∷ ds) g p = pair (init_declarator_row first b d g p.0) (init_declarators_row first b ds g p.1) (λ a rest h k. gives (a ++ rest) tt)

pub declaration_row : (d : Declared) → Declares d → Answers Any (typing.declaration_row d)
declaration_row d p =
    follows (λ b. typing.init_declarators_row (first_token d.specifiers) b d.declarators >>= λ made. both_asked b made (λ b made. give made))
    (specifiers_row (typing.is_nil d.declarators) d.specifiers p.specifiers)
    (λ b g. follows (λ made. both_asked b made (λ b made. give made)) (init_declarators_row (first_token d.specifiers) b d.declarators g p.declarators)
    (λ made k. both b made g k (λ b made a c. gives made tt)))
