-- Declarations (C11 6.7): what a declarator with its initialiser declares, where and with which linkage (6.2.2), and when a second
-- declaration may stand.
use Rattle.std.specs.Prelude.{ℕ, ◌+◌, nat_lt, Bool, true, false, ◌&&◌, ◌||◌, not, if◌then◌else◌, List, [], ◌∷◌, ◌++◌, Option, Some, None, length, map, is_some, slice_set, unwrap_or, codes}
use Rattle.std.specs.List.{list_any}
use Rattle.std.specs.Option.{option_map}
use Rattle.std.specs.Str.{bytes_eq}
use Rattle.c_tree.specs.declared.token.Pos.{Pos}
use Rattle.c_tree.specs.declared.expression.Identifier.{Identifier}
use Rattle.c_tree.specs.declared.specifier.Storage.{Storage}
use Rattle.c_tree.specs.declared.specifier.Storage.TheVariants as storage
use Rattle.c_tree.specs.declared.declaration.InitDeclarator.{InitDeclarator}
use Rattle.c_tree.specs.declared.declaration.Declaration.{Declaration}
use Rattle.c_tree.specs.declared.refusal.FaultKind.TheVariants as kind
use Rattle.c_tree.specs.declared.typed.types.Derived.TheVariants as derived
use Rattle.c_tree.specs.declared.typed.types.CType.{CType}
use Rattle.c_tree.specs.declared.typed.statement.Initialiser.{Initialiser}
use Rattle.c_tree.specs.declared.typed.statement.TStmt.{TStmt}
use Rattle.c_tree.specs.declared.typed.statement.TStmt.TheVariants as t
use Rattle.c_tree.specs.declared.typed.unit.Object.{Object}
use Rattle.c_tree.specs.declared.typed.unit.StaticObject.{StaticObject}
use Rattle.c_tree.specs.declared.typed.unit.StaticPart.{StaticPart}
use Rattle.c_layout.specs.Tags.{Structs}
use Rattle.c_layout.specs.Sizes.{size_of, alignment_of}
use Rattle.c_typing.specs.Faults.{Fault}
use Rattle.c_typing.specs.Types.{in_word, most_bytes, int, void, derived_from, Shape, ArrayOf, shape, is_function, is_void, is_constant, compatible, same_type, composite}
use Rattle.c_typing.specs.Conversions.{scalar_of}
use Rattle.c_typing.specs.Scopes.{Name, Meaning, TypedefOf, Automatic, Static, Linked, Unknown, Linkage, Around, State, Walk, give, unasked, tell, ◌>>=◌, asked, both_asked, beside, fault_if, unless, here, change, latest, declaring, own_meaning}
use Rattle.c_typing.specs.Expressions.{getchar, putchar, is_library}
use Rattle.c_typing.specs.Declarators.{Declaring, Specified, Basis, Specifying, Storing, Using, basis_type, is_register, declared_type, complete_row, first_token, specifiers_row}
use Rattle.c_typing.specs.Trees.{specifier_typing, declarator_typing}
use Rattle.c_typing.specs.OfInitialisers.{Filled, Initialising}
use Rattle.c_typing.specs.Initialisers.{initialiser_typing}
use Rattle.c_typing.specs.Starts.{initialiser_row, starts_row}

-- ---- what the parts of a declaration are

-- a declarator and its initialiser, where one stands
pub record Beginning : Type 0 where
  pub declaring : Declaring
  pub start : Option Initialising

-- a declaration
pub record Declared : Type 0 where
  pub specifiers : List Specified
  pub declarators : List Beginning

abbrev pub beginning_of : InitDeclarator → Beginning
beginning_of d = record { declaring = declarator_typing d.declarator; start = option_map (λ s. initialiser_typing s.value) d.start }

abbrev pub declared_of : Declaration → Declared
declared_of d = record { specifiers = map specifier_typing d.specifiers; declarators = map beginning_of d.declarators }

-- ---- objects

-- an object of a type, and whether `&` is applied to it
abbrev pub object_of : Structs → Bool → CType → Object
object_of structs addressed t = record {
  ctype = t;
  scalar = scalar_of t;
  size = in_word (unwrap_or (size_of structs t) 0);
  alignment = in_word (unwrap_or (alignment_of structs t) 1);
  constant = is_constant t;
  addressed = addressed;
}

-- an array without a number of elements has as many as its initialiser tells (6.7.9p22)
abbrev pub counted_shape : Shape → CType → ℕ → CType
counted_shape (ArrayOf None u) t n = derived_from u (derived.Array (Some n))
counted_shape s t n = t

abbrev pub counted : CType → ℕ → CType
counted t n = counted_shape (shape t) t n

abbrev pub is_open_shape : Shape → Bool
is_open_shape (ArrayOf None u) = true
is_open_shape s = false

-- the type that an initialiser fills: complete, or an array without a number of elements
abbrev pub fillable_row : Pos → CType → Walk CType
fillable_row at t = if is_open_shape (shape t) then give t else complete_row at t

-- the whole has at most 2^24 bytes, where the initialiser has told its size
abbrev pub sized_row : Pos → CType → Walk CType
sized_row at t = here (λ c s. unless (nat_lt most_bytes (unwrap_or (size_of s.structs t) 0)) kind.TooLarge at (give t))

-- ---- second declarations

-- a typedef name may be declared again as a typedef of the same type (6.7p3)
abbrev pub allows_typedef : CType → Option Meaning → Bool
allows_typedef u None = true
allows_typedef u (Some (TypedefOf v)) = same_type u v
allows_typedef u (Some m) = false

-- what has linkage may be declared again with the same type (6.7p4)
abbrev pub allows_linked : CType → Option Meaning → Bool
allows_linked u None = true
allows_linked u (Some (Linked v)) = compatible u v
allows_linked u (Some m) = false

-- where a type has a fault it is not asked: only whether there may be a second declaration at all
abbrev pub allows_untyped_typedef : Option Meaning → Bool
allows_untyped_typedef None = true
allows_untyped_typedef (Some (TypedefOf v)) = true
allows_untyped_typedef (Some Unknown) = true
allows_untyped_typedef (Some m) = false

abbrev pub allows_untyped_linked : Option Meaning → Bool
allows_untyped_linked None = true
allows_untyped_linked (Some (Linked v)) = true
allows_untyped_linked (Some Unknown) = true
allows_untyped_linked (Some m) = false

abbrev pub agrees : CType → Option Linkage → Bool
agrees u None = true
agrees u (Some l) = compatible u l.ctype

-- with at most one definition (6.9p3, p5)
abbrev pub is_defined : Option Linkage → Bool
is_defined None = false
is_defined (Some l) = l.defined

abbrev pub composed : CType → Option Linkage → CType
composed u None = u
composed u (Some l) = composite u l.ctype

-- the types of the library's functions
abbrev pub function_type : CType → List CType → CType
function_type result parameters = derived_from result (derived.Function parameters)

abbrev pub library_type : Name → CType
library_type name =
    if bytes_eq name getchar then function_type int []
    else (if bytes_eq name putchar then function_type int (int ∷ []) else function_type void (int ∷ []))

-- a library name is declared with its type, and not defined
abbrev pub breaks_library : Name → (defines : Bool) → CType → Bool
breaks_library name defines u = is_library name && (defines || not (compatible u (library_type name)))

abbrev pub main : Name
main = codes "main"

-- `main` takes nothing and returns an int (5.1.2.2.1p1)
abbrev pub wrong_main : Around → Identifier → CType → List Fault
wrong_main c id u = fault_if ((c.at_file_level && bytes_eq id.text main) && not (compatible u (function_type int []))) kind.NoMain id.place

abbrev pub linked_faults : Around → State → Identifier → (defines : Bool) → CType → List Fault
linked_faults c s id defines u =
    fault_if (not (allows_linked u (own_meaning c s id.text)) || (not (agrees u (latest s.linked id.text))
    || ((defines && is_defined (latest s.linked id.text)) || breaks_library id.text defines u))) kind.Redeclared id.place
    ++ wrong_main c id u

-- a name with linkage, with the type that all its declarations tell
abbrev pub linked : {A : Type 0} → Name → (defines : Bool) → CType → Walk A → Walk A
linked name defines u w = here (λ c s.
    let v = composed u (latest s.linked name) in
    change (λ s. record s { linked = s.linked ++ (name, record { ctype = v; defined = defines || is_defined (latest s.linked name) }) ∷ [] })
    (declaring name (Linked v) w))

-- ---- one declarator: what it declares is visible from its end on

-- the statements that a declaration comes to: initial values of automatic objects
abbrev pub Made : Type 0
Made = List TStmt

-- where no initialiser may stand, there is none
abbrev pub without_start : Option Initialising → Walk Made
without_start None = give []
without_start (Some s) = tell kind.Mismatch s.first

-- a declaration whose type has a fault
abbrev pub allows_untyped : (is_typedef is_linked : Bool) → Option Meaning → Bool
allows_untyped true linked m = allows_untyped_typedef m
allows_untyped false true m = allows_untyped_linked m
allows_untyped false false m = not (is_some m)

abbrev pub untyped_row : (is_typedef is_linked : Bool) → Identifier → Walk Made
untyped_row typedef linked id = here (λ c s.
    beside (fault_if (not (allows_untyped typedef linked (own_meaning c s id.text))) kind.Redeclared id.place) (declaring id.text Unknown unasked))

abbrev pub typedef_row : Identifier → CType → Option Initialising → Walk Made
typedef_row id u start = here (λ c s.
    beside (fault_if (not (allows_typedef u (own_meaning c s id.text))) kind.Redeclared id.place)
    (declaring id.text (TypedefOf u) (without_start start)))

abbrev pub function_row : Identifier → CType → Option Initialising → Walk Made
function_row id u start = here (λ c s.
    beside (linked_faults c s id false u) (linked id.text false u (without_start start)))

-- automatic objects (6.2.4p5)
abbrev pub automatic : Name → CType → (place number : ℕ) → Bool → Walk CType
automatic name u place n r = declaring name (Automatic u place n r) (give u)

abbrev pub owned : CType → ℕ → Walk Made → Walk Made
owned u n = change (λ s. record s { own = s.own ++ record { ctype = u; number = n } ∷ [] })

abbrev pub initialised : ℕ → Option Initialiser → Walk Made
initialised place (Some i) = give (t.Initialise place i ∷ [])
initialised place None = unasked

abbrev pub automatic_filled : Identifier → CType → (place number : ℕ) → Bool → Filled → Walk Made
automatic_filled id u place n r filled =
    let v = counted u filled.count in
    sized_row id.place v >>= λ w. automatic id.text v place n r >>= λ v'. initialiser_row v filled.leaves >>= λ i.
    owned v n (asked w (λ w. initialised place i))

abbrev pub automatic_start : Identifier → (place number : ℕ) → Bool → Option Initialising → CType → Walk Made
automatic_start id place n r None u = complete_row id.place u >>= λ v. owned u n (asked v (λ v. give []))
automatic_start id place n r (Some start) u = fillable_row id.place u >>= λ v. asked v (λ v.
    start.fill 0 v >>= λ f. asked f (automatic_filled id v place n r))

abbrev pub automatic_row : Identifier → Bool → CType → Option Initialising → Walk Made
automatic_row id r u start = here (λ c s.
    let place : ℕ = c.own_from + length s.own in let n : ℕ = c.numbers_from + length s.own in
    beside (fault_if (is_some (own_meaning c s id.text)) kind.Redeclared id.place)
    (automatic id.text u place n r >>= λ v. asked v (automatic_start id place n r start)))

-- static objects of functions (6.2.4p3): the object is numbered at its declaration, before the strings of its initialiser
abbrev pub static_object : Structs → CType → List StaticPart → StaticObject
static_object structs u parts = record { object = object_of structs true u; parts = parts }

abbrev pub static_set : ℕ → CType → List StaticPart → Walk Made
static_set i u parts = change (λ s. record s { statics = slice_set s.statics i (static_object s.structs u parts) }) (give [])

abbrev pub static_filled : Identifier → CType → (number index : ℕ) → Filled → Walk Made
static_filled id u n i filled =
    let v = counted u filled.count in
    sized_row id.place v >>= λ w. declaring id.text (Static v n) (starts_row filled.leaves) >>= λ parts.
    both_asked w parts (λ w parts. static_set i v parts)

abbrev pub static_start : Identifier → (number index : ℕ) → Option Initialising → CType → Walk Made
static_start id n i None u = complete_row id.place u >>= λ v. asked v (λ v. static_set i u [])
static_start id n i (Some start) u = fillable_row id.place u >>= λ v. asked v (λ v.
    start.fill 0 v >>= λ f. asked f (static_filled id v n i))

abbrev pub static_row : Identifier → CType → Option Initialising → Walk Made
static_row id u start = here (λ c s.
    let n : ℕ = length c.objects + length s.statics in
    beside (fault_if (is_some (own_meaning c s id.text)) kind.Redeclared id.place)
    (change (λ s. record s { statics = s.statics ++ static_object s.structs u [] ∷ [] })
    (declaring id.text (Static u n) (static_start id n (length s.statics) start u))))

-- file-level objects and externs (6.2.2p4, p5, 6.9.2)
abbrev pub start_set : Name → List StaticPart → Walk Made
start_set name parts = change (λ s. record s { starts = s.starts ++ (name, parts) ∷ [] }) (give [])

abbrev pub linked_filled : Identifier → CType → Filled → Walk Made
linked_filled id u filled =
    let v = counted u filled.count in
    sized_row id.place v >>= λ w. linked id.text true v (starts_row filled.leaves) >>= λ parts. both_asked w parts (λ w parts. start_set id.text parts)

-- an extern object may be incomplete, but not of type void
abbrev pub linked_start : Identifier → (is_extern : Bool) → Option Initialising → CType → Walk Made
linked_start id true None u = unless (is_void u) kind.Incomplete id.place (give [])
linked_start id false None u = complete_row id.place u >>= λ v. asked v (λ v. give [])
linked_start id e (Some start) u = fillable_row id.place u >>= λ v. asked v (λ v.
    start.fill 0 v >>= λ f. asked f (linked_filled id v))

abbrev pub is_extern : Option Storage → Bool
is_extern (Some storage.Extern) = true
is_extern o = false

abbrev pub linked_row : Identifier → (is_extern : Bool) → CType → Option Initialising → Walk Made
linked_row id e u start = here (λ c s.
    let v = composed u (latest s.linked id.text) in
    beside (linked_faults c s id (is_some start) u)
    (linked id.text (is_some start) u (if c.at_file_level then linked_start id e start v else (if is_some start then without_start start else linked_start id e None v))))

abbrev pub is_static : Option Storage → Bool
is_static (Some storage.Static) = true
is_static o = false

abbrev pub is_typedef : Option Storage → Bool
is_typedef (Some storage.Typedef) = true
is_typedef o = false

abbrev pub declared_row : Option Storage → Identifier → Option Initialising → CType → Walk Made
declared_row k id start u =
    if is_typedef k then typedef_row id u start
    else (if is_function u then function_row id u start
    else here (λ c s.
    if c.at_file_level || is_extern k then linked_row id (is_extern k) u start
    else (if is_static k then static_row id u start else automatic_row id (is_register k) u start)))

abbrev pub storage_of : Option Basis → Option Storage
storage_of None = None
storage_of (Some b) = b.storage

abbrev pub declared_if : Option Basis → (makes_function : Bool) → Option Identifier → Option Initialising → Option CType → Walk Made
declared_if b makes None start u = unasked
declared_if (Some b) makes (Some id) start (Some u) = declared_row b.storage id start u
declared_if b makes (Some id) start u = here (λ c s.
    untyped_row (is_typedef (storage_of b)) (c.at_file_level || (is_extern (storage_of b) || makes)) id)

abbrev pub init_declarator_row : Pos → Option Basis → Beginning → Walk Made
init_declarator_row first b d =
    declared_type d.declaring false first (option_map basis_type b) >>= λ u.
    declared_if b (unwrap_or d.declaring.makes false) d.declaring.name d.start u

abbrev pub all_made : List Made → Made
all_made [] = []
all_made (m ∷ ms) = m ++ all_made ms

abbrev pub init_declarators_row : Pos → Option Basis → List Beginning → Walk Made
init_declarators_row first b [] = give []
init_declarators_row first b (d ∷ ds) =
    init_declarator_row first b d >>= λ a. init_declarators_row first b ds >>= λ rest. both_asked a rest (λ a rest. give (a ++ rest))

abbrev pub is_nil : List Beginning → Bool
is_nil [] = true
is_nil (d ∷ ds) = false

-- a declaration, by the statements that it comes to
abbrev pub declaration_row : Declared → Walk Made
declaration_row d =
    specifiers_row (is_nil d.declarators) d.specifiers >>= λ b. init_declarators_row (first_token d.specifiers) b d.declarators >>= λ made.
    both_asked b made (λ b made. give made)

-- ---- which declarators declare objects, told from the declaration alone

-- the typedef names of function types
abbrev pub FunctionNames : Type 0
FunctionNames = Name → Bool

abbrev pub also : Name → Bool → FunctionNames → FunctionNames
also name b names asked = if bytes_eq name asked then b else names asked

abbrev pub uses_one : FunctionNames → Specifying → Bool
uses_one names (Using id) = names id.text
uses_one names s = false

abbrev pub uses_function : FunctionNames → List Specified → Bool
uses_function names ss = list_any (λ s. uses_one names s.specifying) ss

abbrev pub stores_by : (Storage → Bool) → Specifying → Bool
stores_by test (Storing k) = test k
stores_by test s = false

abbrev pub stores : (Storage → Bool) → List Specified → Bool
stores test ss = list_any (λ s. stores_by test s.specifying) ss

abbrev pub stored_typedef : Storage → Bool
stored_typedef k = is_typedef (Some k)

-- not an automatic object
abbrev pub stored_elsewhere : Storage → Bool
stored_elsewhere k = is_typedef (Some k) || (is_extern (Some k) || is_static (Some k))

-- not an object that the unit defines, unless it has an initialiser
abbrev pub stored_outside : Storage → Bool
stored_outside k = is_typedef (Some k) || is_extern (Some k)

-- a declarator makes a function, by its outermost part or by its specifiers
abbrev pub makes_function : (by_specifiers : Bool) → Declaring → Bool
makes_function b d = unwrap_or d.makes b

abbrev pub name_of : Option Identifier → Name
name_of (Some id) = id.text
name_of None = []

-- the names of objects in a list, and the typedef names behind it
abbrev pub names_typedefs : (by_specifiers : Bool) → FunctionNames → List Beginning → FunctionNames
names_typedefs b names [] = names
names_typedefs b names (d ∷ ds) =
    let g = d.declaring in names_typedefs b (also (name_of g.name) (makes_function b g) names) ds

-- the declarators that make objects
abbrev pub objects_among : (by_specifiers : Bool) → List Beginning → List Beginning
objects_among b [] = []
objects_among b (d ∷ ds) =
    if makes_function b d.declaring then objects_among b ds else d ∷ objects_among b ds

-- how many automatic objects a declaration in a function declares, and the typedef names behind it
abbrev pub automatic_count : FunctionNames → Declared → ℕ × FunctionNames
automatic_count names d =
    let b : Bool = uses_function names d.specifiers in (
      if stores stored_elsewhere d.specifiers then 0 else length (objects_among b d.declarators),
      if stores stored_typedef d.specifiers then names_typedefs b names d.declarators else names,
    )

-- the same where an initialiser stands
abbrev pub started : List Beginning → List Beginning
started [] = []
started (d ∷ ds) = if is_some d.start then d ∷ started ds else started ds

-- the names of the file-level objects that a declaration defines, tentatively or not (6.9.2), and the typedef names behind it
abbrev pub defined_objects : FunctionNames → Declared → List Name × FunctionNames
defined_objects names d =
    let b : Bool = uses_function names d.specifiers in
    let objects : List Beginning = objects_among b d.declarators in
    let those : List Beginning = (if stores stored_typedef d.specifiers then [] else (if stores stored_outside d.specifiers then started objects else objects)) in (
      map (λ d. name_of d.declaring.name) those,
      if stores stored_typedef d.specifiers then names_typedefs b names d.declarators else names,
    )
