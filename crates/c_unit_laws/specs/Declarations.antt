-- The statements that a declaration comes to give initial values alone, so no jump and no label is among them.
use Rattle.std.specs.Prelude.{ℕ, ◌+◌, Bool, true, false, not, ◌||◌, if◌then◌else◌, List, [], ◌∷◌, ◌++◌, Option, Some, None, length, is_some, unwrap_or}
use Rattle.std.specs.Option.{option_map}
use Rattle.c_tree.specs.declared.token.Pos.{Pos}
use Rattle.c_tree.specs.declared.expression.Identifier.{Identifier}
use Rattle.c_tree.specs.declared.specifier.Storage.{Storage}
use Rattle.c_tree.specs.declared.refusal.FaultKind.TheVariants as kind
use Rattle.c_tree.specs.declared.typed.types.CType.{CType}
use Rattle.c_tree.specs.declared.typed.statement.Initialiser.{Initialiser}
use Rattle.c_tree.specs.declared.typed.unit.StaticPart.{StaticPart}
use Rattle.c_typing.specs.declared.declarator.Basis.{Basis}
use Rattle.c_typing.specs.declared.initialiser.Filled.{Filled}
use Rattle.c_typing.specs.declared.scope.Meaning.TheVariants.{TypedefOf, Static}
use Rattle.c_typing.specs.Types.{is_function, is_void}
use Rattle.c_typing.specs.Scopes.{Name, Walk, give, asked, both_asked, beside, fault_if, change, declaring, latest, own_meaning, ◌>>=◌}
use Rattle.c_typing.specs.Declarators.{declared_type, complete_row, first_token, specifiers_row, basis_type, is_register}
use Rattle.c_typing.specs.OfInitialisers.{Initialising}
use Rattle.c_typing.specs.Declarations as typing
use Rattle.c_typing.specs.Declarations.{Made, Beginning, Declared, counted, linked_faults, composed}
use Rattle.c_typing.specs.Starts as starts
use Rattle.c_unit_laws.specs.Walks.{Does, anything, gives, silent, tells, follows, both, chain, pair, besides, passes, either, sees, changes, declares}
use Rattle.c_unit_laws.specs.Placed.{Placed, AllPlaced, initialise_placed, all_append}

-- these statements may stand anywhere
abbrev pub Harmless : Walk Made → Type 0
Harmless w = (b k : Bool) → Does (AllPlaced b k) b k w

none : Harmless (give [])
none b k = gives [] tt

without_start : (start : Option Initialising) → Harmless (typing.without_start start)
without_start None b k = gives [] tt
without_start (Some i) b k = tells kind.Mismatch i.first

-- what a walk changes of what was found tells nothing of what it gives
linked : {w : Walk Made} (name : Name) (defines : Bool) (u : CType) → Harmless w → Harmless (typing.linked name defines u w)
linked name defines u p b k = record { run = λ c s e f. (p b k).run c _ e f }

typedef_row : (id : Identifier) (u : CType) (start : Option Initialising) → Harmless (typing.typedef_row id u start)
typedef_row id u start b k =
    sees (λ c s. beside (fault_if (not (typing.allows_typedef u (own_meaning c s id.text))) kind.Redeclared id.place)
    (declaring id.text (TypedefOf u) (typing.without_start start)))
    (λ c s. besides (fault_if (not (typing.allows_typedef u (own_meaning c s id.text))) kind.Redeclared id.place)
    (declares id.text (TypedefOf u) (without_start start b k)))

function_row : (id : Identifier) (u : CType) (start : Option Initialising) → Harmless (typing.function_row id u start)
function_row id u start b k =
    sees (λ c s. beside (linked_faults c s id false u) (typing.linked id.text false u (typing.without_start start)))
    (λ c s. besides (linked_faults c s id false u) (linked id.text false u (without_start start) b k))

-- ---- automatic objects

owned : (u : CType) (n : ℕ) (w : Walk Made) → Harmless w → Harmless (typing.owned u n w)
owned u n w p b k = changes (λ s. record s { own = s.own ++ record { ctype = u; number = n } ∷ [] }) (p b k)

initialised : (place : ℕ) (o : Option Initialiser) → Harmless (typing.initialised place o)
initialised place (Some i) b k = gives _ (initialise_placed b k place i, tt)
initialised place None b k = silent

-- where a walk before gave something
if_given : {A : Type 0} (o : Option A) (f : A → Walk Made) → ((a : A) → Harmless (f a)) → Harmless (asked o f)
if_given (Some a) f p b k = p a b k
if_given None f p b k = silent

automatic_filled : (id : Identifier) (u : CType) (place n : ℕ) (r : Bool) (f : Filled) → Harmless (typing.automatic_filled id u place n r f)
automatic_filled id u place n r f b k =
    let v = counted u f.count in
    follows (λ w. typing.automatic id.text v place n r >>= λ v'. starts.initialiser_row v f.leaves >>= λ i. typing.owned v n (asked w (λ w. typing.initialised place i))) (anything (typing.sized_row id.place v))
    (λ w g. follows (λ v'. starts.initialiser_row v f.leaves >>= λ i. typing.owned v n (asked w (λ w. typing.initialised place i))) (anything (typing.automatic id.text v place n r))
    (λ v' a. follows (λ i. typing.owned v n (asked w (λ w. typing.initialised place i))) (anything (starts.initialiser_row v f.leaves))
    (λ i h. owned v n (asked w (λ w. typing.initialised place i)) (if_given w (λ w. typing.initialised place i) (λ w. initialised place i)) b k)))

automatic_start : (id : Identifier) (place n : ℕ) (r : Bool) (start : Option Initialising) (u : CType) → Harmless (typing.automatic_start id place n r start u)
automatic_start id place n r None u b k =
    follows (λ v. typing.owned u n (asked v (λ v. give []))) (anything (complete_row id.place u))
    (λ v g. owned u n (asked v (λ v. give [])) (if_given v (λ v. give []) (λ v. none)) b k)
automatic_start id place n r (Some start) u b k =
    chain (anything (typing.fillable_row id.place u)) (λ v a. chain (anything (start.fill 0 v)) (λ f g. automatic_filled id v place n r f b k))

automatic_row : (id : Identifier) (r : Bool) (u : CType) (start : Option Initialising) → Harmless (typing.automatic_row id r u start)
automatic_row id r u start b k =
    sees (λ c s. beside (fault_if (is_some (own_meaning c s id.text)) kind.Redeclared id.place)
    (typing.automatic id.text u (c.own_from + length s.own) (c.numbers_from + length s.own) r >>= λ v.
    asked v (typing.automatic_start id (c.own_from + length s.own) (c.numbers_from + length s.own) r start)))
    (λ c s. besides (fault_if (is_some (own_meaning c s id.text)) kind.Redeclared id.place)
    (chain (anything (typing.automatic id.text u (c.own_from + length s.own) (c.numbers_from + length s.own) r))
    (λ v a. automatic_start id (c.own_from + length s.own) (c.numbers_from + length s.own) r start v b k)))

-- ---- static objects of functions

static_set : (i : ℕ) (u : CType) (parts : List StaticPart) → Harmless (typing.static_set i u parts)
static_set i u parts b k = record { run = λ c s e f. tt }

static_filled : (id : Identifier) (u : CType) (n i : ℕ) (f : Filled) → Harmless (typing.static_filled id u n i f)
static_filled id u n i f b k =
    let v = counted u f.count in
    pair (anything (typing.sized_row id.place v)) (anything (declaring id.text (Static v n) (starts.starts_row f.leaves))) (λ w parts g h. static_set i v parts b k)

static_start : (id : Identifier) (n i : ℕ) (start : Option Initialising) (u : CType) → Harmless (typing.static_start id n i start u)
static_start id n i None u b k = chain (anything (complete_row id.place u)) (λ v a. static_set i u [] b k)
static_start id n i (Some start) u b k =
    chain (anything (typing.fillable_row id.place u)) (λ v a. chain (anything (start.fill 0 v)) (λ f g. static_filled id v n i f b k))

static_row : (id : Identifier) (u : CType) (start : Option Initialising) → Harmless (typing.static_row id u start)
static_row id u start b k =
    sees (λ c s. beside (fault_if (is_some (own_meaning c s id.text)) kind.Redeclared id.place)
    (change (λ s. record s { statics = s.statics ++ typing.static_object s.structs u [] ∷ [] })
    (declaring id.text (Static u (length c.objects + length s.statics)) (typing.static_start id (length c.objects + length s.statics) (length s.statics) start u))))
    (λ c s. besides (fault_if (is_some (own_meaning c s id.text)) kind.Redeclared id.place)
    (changes (λ s. record s { statics = s.statics ++ typing.static_object s.structs u [] ∷ [] })
    (declares id.text (Static u (length c.objects + length s.statics)) (static_start id (length c.objects + length s.statics) (length s.statics) start u b k))))

-- ---- file-level objects and externs

start_set : (name : Name) (parts : List StaticPart) → Harmless (typing.start_set name parts)
start_set name parts b k = record { run = λ c s e f. tt }

linked_filled : (id : Identifier) (u : CType) (f : Filled) → Harmless (typing.linked_filled id u f)
linked_filled id u f b k =
    let v = counted u f.count in
    pair (anything (typing.sized_row id.place v)) (anything (typing.linked id.text true v (starts.starts_row f.leaves))) (λ w parts g h. start_set id.text parts b k)

linked_start : (id : Identifier) (e : Bool) (start : Option Initialising) (u : CType) → Harmless (typing.linked_start id e start u)
linked_start id true None u b k = passes (is_void u) kind.Incomplete id.place (none b k)
linked_start id false None u b k = chain (anything (complete_row id.place u)) (λ v a. none b k)
linked_start id true (Some start) u b k =
    chain (anything (typing.fillable_row id.place u)) (λ v a. chain (anything (start.fill 0 v)) (λ f g. linked_filled id v f b k))
linked_start id false (Some start) u b k =
    chain (anything (typing.fillable_row id.place u)) (λ v a. chain (anything (start.fill 0 v)) (λ f g. linked_filled id v f b k))

linked_row : (id : Identifier) (e : Bool) (u : CType) (start : Option Initialising) → Harmless (typing.linked_row id e u start)
linked_row id e u start b k =
    sees (λ c s. let v = composed u (latest s.linked id.text) in
    beside (linked_faults c s id (is_some start) u)
    (typing.linked id.text (is_some start) u (if c.at_file_level then typing.linked_start id e start v else (if is_some start then typing.without_start start else typing.linked_start id e None v))))
    (λ c s. let v = composed u (latest s.linked id.text) in
    besides (linked_faults c s id (is_some start) u)
    (linked id.text (is_some start) u (λ b k. either c.at_file_level (linked_start id e start v b k)
    (either (is_some start) (without_start start b k) (linked_start id e None v b k))) b k))

-- ---- one declarator

untyped_row : (typedef is_linked : Bool) (id : Identifier) → Harmless (typing.untyped_row typedef is_linked id)
untyped_row typedef is_linked id b k = record { run = λ c s e f. tt }

declared_row : (x : Option Storage) (id : Identifier) (start : Option Initialising) (u : CType) → Harmless (typing.declared_row x id start u)
declared_row x id start u b k =
    either (typing.is_typedef x) (typedef_row id u start b k)
    (either (is_function u) (function_row id u start b k)
    (sees (λ c s. if c.at_file_level || typing.is_extern x then typing.linked_row id (typing.is_extern x) u start
    else (if typing.is_static x then typing.static_row id u start else typing.automatic_row id (is_register x) u start))
    (λ c s. either (c.at_file_level || typing.is_extern x) (linked_row id (typing.is_extern x) u start b k)
    (either (typing.is_static x) (static_row id u start b k) (automatic_row id (is_register x) u start b k)))))

declared_if : (o : Option Basis) (makes : Bool) (name : Option Identifier) (start : Option Initialising) (u : Option CType) → Harmless (typing.declared_if o makes name start u)
declared_if None makes None start u b k = silent
declared_if (Some o) makes None start u b k = silent
declared_if (Some o) makes (Some id) start (Some u) b k = declared_row o.storage id start u b k
declared_if (Some o) makes (Some id) start None b k = record { run = λ c s e f. tt }
declared_if None makes (Some id) start u b k = record { run = λ c s e f. tt }

init_declarator_row : (first : Pos) (o : Option Basis) (d : Beginning) → Harmless (typing.init_declarator_row first o d)
init_declarator_row first o d b k =
    follows (typing.declared_if o (unwrap_or d.declaring.makes false) d.declaring.name d.start)
    (anything (declared_type d.declaring false first (option_map basis_type o)))
    (λ u g. declared_if o (unwrap_or d.declaring.makes false) d.declaring.name d.start u b k)

init_declarators_row : (first : Pos) (o : Option Basis) (ds : List Beginning) → Harmless (typing.init_declarators_row first o ds)
init_declarators_row first o [] b k = gives [] tt
init_declarators_row first o (d ∷ ds) b k =
    pair (init_declarator_row first o d b k) (init_declarators_row first o ds b k) (λ a rest g h. gives (a ++ rest) (all_append (Placed b k) a rest g h))

pub declaration_row : (d : Declared) → Harmless (typing.declaration_row d)
declaration_row d b k =
    follows (λ o. typing.init_declarators_row (first_token d.specifiers) o d.declarators >>= λ made. both_asked o made (λ o made. give made))
    (anything (specifiers_row (typing.is_nil d.declarators) d.specifiers))
    (λ o g. follows (λ made. both_asked o made (λ o made. give made)) (init_declarators_row (first_token d.specifiers) o d.declarators b k)
    (λ made h. both o made g h (λ o made x y. gives made y)))
