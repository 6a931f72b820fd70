-- Types from specifiers and declarators (C11 6.7.1, 6.7.2, 6.7.3, 6.7.6): what each part of a tree is, and the rows that read it.
use Rattle.std.specs.Prelude.{ℕ, ◌+◌, ◌*◌, ◌%◌, ◌==◌, ◌^◌, nat_lt, nat_le, Bool, true, false, ◌&&◌, ◌||◌, not, if◌then◌else◌, List, [], ◌∷◌, ◌++◌, Option, Some, None, length, map, find, is_some, is_none, slice_set}
use Rattle.std.specs.List.{list_all, list_any}
use Rattle.std.specs.Option.{option_map}
use Rattle.std.specs.Str.{bytes_eq}
use Rattle.c_tree.specs.declared.token.Pos.{Pos}
use Rattle.c_tree.specs.declared.expression.Identifier.{Identifier}
use Rattle.c_tree.specs.declared.specifier.Storage.{Storage}
use Rattle.c_tree.specs.declared.specifier.Storage.TheVariants as storage
use Rattle.c_tree.specs.declared.specifier.TypeWord.{TypeWord}
use Rattle.c_tree.specs.declared.specifier.TypeWord.TheVariants as word
use Rattle.c_tree.specs.declared.refusal.FaultKind.TheVariants as kind
use Rattle.c_tree.specs.declared.typed.types.Base.{Base}
use Rattle.c_tree.specs.declared.typed.types.Base.TheVariants as base
use Rattle.c_tree.specs.declared.typed.types.Derived.TheVariants as derived
use Rattle.c_tree.specs.declared.typed.types.CType.{CType, out-CType}
use Rattle.c_layout.specs.declared.tags.StructLayout.{StructLayout}
use Rattle.c_layout.specs.Sizes.{size_of}
use Rattle.c_layout.specs.Structures.{Declared, layout}
use Rattle.c_typing.specs.Faults.{Fault, fault}
use Rattle.c_typing.specs.Types.{most_bytes, plain, pointer_to, derived_from, constant_if, Shape, ArrayOf, is_integer, is_function, is_array, unqualified}
use Rattle.c_typing.specs.Conversions.{is_signed}
use Rattle.c_typing.specs.Scopes.{Name, Meaning, TypedefOf, EnumeratorOf, Unknown, Tag, StructTag, EnumTag, State, Walk, give, unasked, tell, offer, ◌>>=◌, asked, both_asked, beside, fault_if, unless, here, change, joined, in_row, meaning_of, tag_of, declaring, tagging, own_meaning, own_tag}
pub use Rattle.c_typing.specs.declared.declarator.Parameter.{Parameter}
pub use Rattle.c_typing.specs.declared.declarator.Part.{Part}
pub use Rattle.c_typing.specs.declared.declarator.Part.TheVariants.{Pointing, Arraying, SomeArray, Listing, SomeFunction}
pub use Rattle.c_typing.specs.declared.declarator.Basis.{Basis}
use Rattle.c_typing.specs.Operands.{Operand, constant_in, valued}
use Rattle.c_typing.specs.Expressions.{is_read_only}

-- ---- what the parts of a tree are

-- an expression: its first token; the name that it is, and the bytes of the string that it is, where it is one without
-- parentheses; and what it means
pub record Expressed : Type 0 where
  pub first : Pos
  pub callee : Option Identifier
  pub literal : Option (List ℕ)
  pub typed : Walk Operand

-- a declarator: its name; whether its outermost part makes a function, where it has a part; and its derivations, each applied to the
-- type before it. The parameters of the part beside the name are kept in scope where it is that of a definition.
pub record Declaring : Type 0 where
  pub name : Option Identifier
  pub makes : Option Bool
  pub parts : (defining : Bool) → Walk (List Part)

-- what stands behind a declarator's middle
pub record Suffixed : Type 0 where
  pub makes : Bool
  pub part : (defining : Bool) → Walk Part

-- what a specifier is
pub data Specifying : Type 0 where
  Storing : Storage → Specifying
  Qualifying : Specifying
  Wording : TypeWord → Specifying
  -- a type of its own; whether it stands alone, without a declarator behind it, matters to a tag (6.7.2.3p7)
  Naming : (alone : Bool → Walk CType) → Specifying
  -- a typedef name
  Using : Identifier → Specifying

-- a specifier and its first token
pub record Specified : Type 0 where
  pub first : Pos
  pub specifying : Specifying

-- a type name (6.7.7), at the operator to which it belongs
pub record TypeNamed : Type 0 where
  pub typed : Pos → Walk CType

-- an enumerator, from the value that it has without an expression
pub record Enumerated : Type 0 where
  pub value : Option ℕ → Walk ℕ

-- the members of one declaration, in order; none of the types in which a fault stands
abbrev pub Members : Type 0
Members = List (Identifier × Option CType)

-- ---- integer constant expressions

abbrev pub signed_value : Operand → Option ℕ → Option (ℕ × Bool)
signed_value o (Some n) = if is_integer o.ctype then Some (n, is_signed (out-CType o.ctype).base) else None
signed_value o None = None

-- the value as a word of an integer constant expression, and whether its type is signed; else a fault at its first token (6.6)
abbrev pub constant_if_any : Pos → Option (ℕ × Bool) → Walk (ℕ × Bool)
constant_if_any at (Some n) = give n
constant_if_any at None = tell kind.NotConstant at

abbrev pub constant_row : Pos → Operand → Walk (ℕ × Bool)
constant_row at o = constant_if_any at (signed_value (valued o) (constant_in (valued o)))

-- a number that is negative in its type
abbrev pub is_negative : ℕ × Bool → Bool
is_negative n = n.1 && nat_le (2 ^ 31) n.0

-- ---- declarators

-- a number of elements (6.7.6.2p1)
abbrev pub count_row : (bracket first : Pos) → Operand → Walk ℕ
count_row bracket first o = constant_row first o >>= λ n. asked n (λ n. unless (is_negative n || (n.0 == 0)) kind.BadSize bracket (give n.0))

abbrev pub array_if : Pos → CType → Option ℕ → (size : Option ℕ) → Walk CType
array_if at t count None = tell kind.Incomplete at
array_if at t None (Some n) = give (derived_from t (derived.Array None))
array_if at t (Some k) (Some n) = unless (nat_lt most_bytes (k * n)) kind.TooLarge at (give (derived_from t (derived.Array (Some k))))

abbrev pub array_row : Pos → Option ℕ → CType → Walk CType
array_row at count t = unless (is_function t) kind.FunctionUse at (here (λ c s. array_if at t count (size_of s.structs t)))

abbrev pub function_row : Pos → List CType → CType → Walk CType
function_row at ps t = unless (is_function t || is_array t) kind.FunctionUse at (give (derived_from t (derived.Function ps)))

-- one derivation, with the place that stands for the name; what has a fault in it is an array or a function all the same
abbrev pub derive_one : Pos → Part → CType → Walk CType
derive_one at (Pointing c) t = unless (is_function t) kind.FunctionUse at (give (pointer_to c t))
derive_one at (Arraying count) t = array_row at count t
derive_one at SomeArray t = array_row at None t
derive_one at (Listing ps) t = function_row at (map (λ q. unqualified q.ctype) ps) t
derive_one at SomeFunction t = function_row at [] t

abbrev pub derive_all : Pos → List Part → CType → Walk CType
derive_all at [] t = give t
derive_all at (d ∷ ds) t = derive_one at d t >>= λ u. asked u (derive_all at ds)

-- a derivation without a fault in it
abbrev pub is_settled : Part → Bool
is_settled SomeArray = false
is_settled SomeFunction = false
is_settled d = true

-- the derivations of a declarator; the type of the whole is known where there is no fault in any
abbrev pub derive : Pos → List Part → CType → Walk CType
derive at ds t = derive_all at ds t >>= λ u. if list_all is_settled ds then offer u else unasked

-- an array of so many elements, or a function of such parameters, where there is no fault in them
abbrev pub array_part : Option ℕ → Part
array_part (Some n) = Arraying (Some n)
array_part None = SomeArray

abbrev pub function_part : Option (List Parameter) → Part
function_part (Some ps) = Listing ps
function_part None = SomeFunction

-- the place that stands for the name of a declarator
abbrev pub name_place : Option Identifier → Pos → Pos
name_place (Some id) p = id.place
name_place None p = p

-- the type that a declarator makes of another one
abbrev pub declared_type : Declaring → (defining : Bool) → Pos → Option CType → Walk CType
declared_type d defining at t = d.parts defining >>= λ ds. both_asked ds t (derive (name_place d.name at))

-- a parameter of array type is a pointer (6.7.6.3p7); one of function type stays, and is no object
abbrev pub adjusted : Shape → CType → CType
adjusted (ArrayOf n t) u = pointer_to false t
adjusted s u = u

-- an object needs a complete type (6.7p7)
abbrev pub complete_row : Pos → CType → Walk CType
complete_row at t = here (λ c s. unless (is_none (size_of s.structs t)) kind.Incomplete at (give t))

-- so does a parameter, of which the type is told all the same (6.7.6.3p4)
abbrev pub complete_parameter : Pos → CType → Walk CType
complete_parameter at t = here (λ c s. beside (fault_if (is_none (size_of s.structs t)) kind.Incomplete at) (give t))

-- ---- specifiers

abbrev pub word_number : TypeWord → ℕ
word_number word.Void = 0
word_number word.Char = 1
word_number word.Short = 2
word_number word.Int = 3
word_number word.Long = 4
word_number word.Signed = 5
word_number word.Unsigned = 6
word_number word.Bool = 7

abbrev pub same_word : TypeWord → TypeWord → Bool
same_word v w = word_number v == word_number w

abbrev pub occurrences : TypeWord → List TypeWord → ℕ
occurrences w [] = 0
occurrences w (v ∷ vs) = if same_word v w then occurrences w vs + 1 else occurrences w vs

abbrev pub all_words : List TypeWord
all_words = word.Void ∷ word.Char ∷ word.Short ∷ word.Int ∷ word.Long ∷ word.Signed ∷ word.Unsigned ∷ word.Bool ∷ []

-- the same words, in any order
abbrev pub same_words : List TypeWord → List TypeWord → Bool
same_words vs ws = list_all (λ w. occurrences w vs == occurrences w ws) all_words

-- the types that words name (6.7.2p2)
abbrev pub word_table : List (List TypeWord × Base)
word_table =
    (word.Void ∷ [], base.Void)
    ∷ (word.Char ∷ [], base.Char)
    ∷ (word.Signed ∷ word.Char ∷ [], base.SignedChar)
    ∷ (word.Unsigned ∷ word.Char ∷ [], base.UnsignedChar)
    ∷ (word.Short ∷ [], base.Short)
    ∷ (word.Signed ∷ word.Short ∷ [], base.Short)
    ∷ (word.Short ∷ word.Int ∷ [], base.Short)
    ∷ (word.Signed ∷ word.Short ∷ word.Int ∷ [], base.Short)
    ∷ (word.Unsigned ∷ word.Short ∷ [], base.UnsignedShort)
    ∷ (word.Unsigned ∷ word.Short ∷ word.Int ∷ [], base.UnsignedShort)
    ∷ (word.Int ∷ [], base.Int)
    ∷ (word.Signed ∷ [], base.Int)
    ∷ (word.Signed ∷ word.Int ∷ [], base.Int)
    ∷ (word.Unsigned ∷ [], base.Unsigned)
    ∷ (word.Unsigned ∷ word.Int ∷ [], base.Unsigned)
    ∷ (word.Long ∷ [], base.Long)
    ∷ (word.Signed ∷ word.Long ∷ [], base.Long)
    ∷ (word.Long ∷ word.Int ∷ [], base.Long)
    ∷ (word.Signed ∷ word.Long ∷ word.Int ∷ [], base.Long)
    ∷ (word.Unsigned ∷ word.Long ∷ [], base.UnsignedLong)
    ∷ (word.Unsigned ∷ word.Long ∷ word.Int ∷ [], base.UnsignedLong)
    ∷ (word.Bool ∷ [], base.Bool)
    ∷ []

abbrev pub named_by_words : List TypeWord → Option Base
named_by_words ws = option_map (λ row. row.1) (find (λ row. same_words row.0 ws) word_table)

-- what specifiers are made of, and the types that are named among them, each with a fault or not
pub record Parts : Type 0 where
  pub words : List TypeWord
  pub storages : List Storage
  pub constant : Bool
  pub types : List (Option CType)

abbrev pub nothing : Parts
nothing = record { words = []; storages = []; constant = false; types = [] }

-- the type of a typedef name; the name of no type is Undeclared, and nothing is asked of one whose type has a fault
abbrev pub typedef_meant : Identifier → Option Meaning → Walk CType
typedef_meant id (Some (TypedefOf t)) = give t
typedef_meant id (Some Unknown) = unasked
typedef_meant id m = tell kind.Undeclared id.place

abbrev pub typedef_name_row : Identifier → Walk CType
typedef_name_row id = here (λ c s. typedef_meant id (meaning_of s id.text))

abbrev pub with_type : Parts → Option CType → Parts
with_type r t = record r { types = r.types ++ t ∷ [] }

abbrev pub with_specifier : (alone : Bool) → Parts → Specifying → Walk Parts
with_specifier alone r (Storing s) = give (record r { storages = r.storages ++ s ∷ [] })
with_specifier alone r Qualifying = give (record r { constant = true })
with_specifier alone r (Wording w) = give (record r { words = r.words ++ w ∷ [] })
with_specifier alone r (Naming f) = f alone >>= λ t. give (with_type r t)
with_specifier alone r (Using id) = typedef_name_row id >>= λ t. give (with_type r t)

abbrev pub read_specifiers : (alone : Bool) → Parts → List Specified → Walk Parts
read_specifiers alone r [] = give r
read_specifiers alone r (s ∷ ss) = with_specifier alone r s.specifying >>= λ q. asked q (λ q. read_specifiers alone q ss)

-- a storage word that file level has not (6.9p2)
abbrev pub is_of_block : Storage → Bool
is_of_block storage.Auto = true
is_of_block storage.Register = true
is_of_block s = false

-- `register` (6.7.1p6)
abbrev pub is_register : Option Storage → Bool
is_register (Some storage.Register) = true
is_register k = false

abbrev pub first_storage : List Storage → Option Storage
first_storage [] = None
first_storage (s ∷ ss) = Some s

abbrev pub basis : Parts → CType → Basis
basis r t = record { storage = first_storage r.storages; ctype = constant_if r.constant t }

-- exactly one type is named, by words or otherwise
abbrev pub named_type : Pos → Parts → (types : List (Option CType)) → (by_words : Option Base) → Walk Basis
named_type at r [] (Some b) = give (basis r (plain b))
named_type at r [] None = tell kind.BadSpecifier at
named_type at r (t ∷ []) b = if nat_lt 0 (length r.words) then tell kind.BadSpecifier at else asked t (λ t. give (basis r t))
named_type at r (t ∷ u ∷ ts) b = tell kind.BadSpecifier at

abbrev pub basis_type : Basis → CType
basis_type b = b.ctype

abbrev pub basis_of : Pos → Parts → Walk Basis
basis_of at r = here (λ c s.
    unless (nat_lt 1 (length r.storages) || (c.at_file_level && list_any is_of_block r.storages)) kind.BadSpecifier at
    (named_type at r r.types (named_by_words r.words)))

abbrev pub nowhere : Pos
nowhere = record { line = 0; column = 0 }

-- the first token of specifiers
abbrev pub first_token : List Specified → Pos
first_token [] = nowhere
first_token (s ∷ ss) = s.first

abbrev pub specifiers_row : (alone : Bool) → List Specified → Walk Basis
specifiers_row alone ss = read_specifiers alone nothing ss >>= λ r. asked r (basis_of (first_token ss))

-- ---- tags (6.7.2.3)

abbrev pub add_struct : State → State
add_struct s = record s { structs = s.structs ++ None ∷ []; fixed = s.fixed ++ false ∷ [] }

abbrev pub struct_type : ℕ → CType
struct_type n = plain (base.Struct n)

-- a tag that is not visible is declared here, as an incomplete type (p8)
abbrev pub struct_meant : Identifier → Option Tag → Walk CType
struct_meant tag (Some (StructTag n listed)) = give (struct_type n)
struct_meant tag (Some (EnumTag n ended)) = tell kind.Redeclared tag.place
struct_meant tag None =
    here (λ c s. change add_struct (tagging tag.text (StructTag (length s.structs) false) (give (struct_type (length s.structs)))))

-- `struct` and a tag: alone it declares the tag in this scope (p7)
abbrev pub struct_tag_row : Identifier → Bool → Walk CType
struct_tag_row tag alone = here (λ c s. struct_meant tag (if alone then own_tag c s tag.text else tag_of s tag.text))

-- `enum` and a tag, which is visible, behind its list (p3)
abbrev pub enum_meant : Identifier → Option Tag → Walk CType
enum_meant tag (Some (EnumTag n true)) = give (plain (base.Enum n))
enum_meant tag (Some (EnumTag n false)) = tell kind.Incomplete tag.place
enum_meant tag (Some (StructTag n listed)) = tell kind.Redeclared tag.place
enum_meant tag None = tell kind.Undeclared tag.place

abbrev pub enum_tag_row : Identifier → Walk CType
enum_tag_row tag = here (λ c s. enum_meant tag (tag_of s tag.text))

-- ---- structures (6.7.2.1)

-- the number of a structure whose list begins here: that of its tag, if this scope has declared it without a list
abbrev pub begun : Identifier → ℕ → Walk ℕ
begun tag n = tagging tag.text (StructTag n true) (give n)

abbrev pub begin_new : Identifier → Walk ℕ
begin_new tag = here (λ c s. change add_struct (begun tag (length s.structs)))

abbrev pub begin_struct : Identifier → Option Tag → Walk ℕ
begin_struct tag None = begin_new tag
begin_struct tag (Some (StructTag n false)) = begun tag n
begin_struct tag (Some t) = beside (fault kind.Redeclared tag.place ∷ []) (begin_new tag)

abbrev pub struct_begun : Option Identifier → Walk ℕ
struct_begun None = here (λ c s. change add_struct (give (length s.structs)))
struct_begun (Some tag) = here (λ c s. begin_struct tag (own_tag c s tag.text))

-- members whose names stood before (6.2.3p1)
abbrev pub repeated : List Name → Members → List Fault
repeated seen [] = []
repeated seen (m ∷ ms) =
    fault_if (list_any (bytes_eq m.0.text) seen) kind.Redeclared m.0.place ++ repeated (seen ++ m.0.text ∷ []) ms

abbrev pub all_members : List Members → Members
all_members [] = []
all_members (ms ∷ rest) = ms ++ all_members rest

abbrev pub has_fixed : (fixed : List Bool) → StructLayout → Bool
has_fixed fixed l = list_any (λ m. is_read_only fixed m.ctype) l.members

abbrev pub layout_set : ℕ → StructLayout → State → State
layout_set n l s = record s { structs = slice_set s.structs n (Some l); fixed = slice_set s.fixed n (has_fixed s.fixed l) }

abbrev pub as_declared : Members → Option (List Declared)
as_declared [] = Some []
as_declared (m ∷ ms) = joined (option_map (λ t. (m.0.text, t)) m.1) (as_declared ms)

abbrev pub completed : Pos → ℕ → StructLayout → Walk CType
completed at n l = unless (nat_lt most_bytes l.size) kind.TooLarge at (change (layout_set n l) (give (struct_type n)))

abbrev pub members_row : Pos → ℕ → Members → Walk CType
members_row at n ms = here (λ c s.
    beside (repeated [] ms)
    (if nat_lt 0 (length (repeated [] ms)) then unasked else asked (as_declared ms) (λ ds. completed at n (layout s.structs ds))))

abbrev pub tag_place : Option Identifier → Pos → Pos
tag_place (Some tag) at = tag.place
tag_place None at = at

abbrev pub struct_row : Pos → Option Identifier → List (Walk Members) → Walk CType
struct_row at tag members =
    struct_begun tag >>= λ n. in_row members >>= λ ms. both_asked n ms (λ n ms. members_row (tag_place tag at) n (all_members ms))

abbrev pub member_named : Option Identifier → Option CType → Walk Members
member_named (Some id) t = asked t (complete_row id.place) >>= λ t. give ((id, t) ∷ [])
member_named None t = give []

-- one declarator of members
abbrev pub one_member : Option Basis → Declaring → Walk Members
one_member b d =
    declared_type d false nowhere (option_map basis_type b) >>= member_named d.name

-- ---- enumerations (6.7.2.2)

abbrev pub enumerator_meaning : Option ℕ → Meaning
enumerator_meaning (Some n) = EnumeratorOf n
enumerator_meaning None = Unknown

abbrev pub enumerator_declared : Identifier → Option ℕ → Walk ℕ
enumerator_declared id value = here (λ c s.
    beside (fault_if (is_some (own_meaning c s id.text)) kind.Redeclared id.place)
    (declaring id.text (enumerator_meaning value) (offer value)))

-- without an expression: the value before it and 1, which is an int (p2, p3)
abbrev pub following : Pos → Option ℕ → Walk ℕ
following at value = asked value (λ n. unless (n == 2 ^ 31) kind.NotConstant at (give n))

abbrev pub plain_enumerator : Identifier → Option ℕ → Walk ℕ
plain_enumerator id value = following id.place value >>= enumerator_declared id

abbrev pub enumerator_value : Pos → Operand → Walk ℕ
enumerator_value first o =
    constant_row first o >>= λ n. asked n (λ n. unless (not n.1 && nat_le (2 ^ 31) n.0) kind.NotConstant first (give n.0))

abbrev pub valued_enumerator : Identifier → Expressed → Walk ℕ
valued_enumerator id e = e.typed >>= λ o. asked o (enumerator_value e.first) >>= enumerator_declared id

-- enumerators in order, the first from 0
abbrev pub enumerators_row : Option ℕ → List Enumerated → Walk (Unit {0})
enumerators_row next [] = give tt
enumerators_row next (e ∷ es) = e.value next >>= λ n. enumerators_row (option_map (λ n. (n + 1) % (2 ^ 32)) n) es

abbrev pub add_enum : State → State
add_enum s = record s { enums = s.enums + 1 }

-- the tag is visible from where it stands on, and names a complete type behind the list (6.2.1p7, p4)
abbrev pub enum_tagged : Option Identifier → ℕ → Walk (Unit {0}) → Walk (Unit {0})
enum_tagged None n w = w
enum_tagged (Some tag) n w = here (λ c s.
    beside (fault_if (is_some (own_tag c s tag.text)) kind.Redeclared tag.place) (tagging tag.text (EnumTag n false) w))

abbrev pub enum_ended : Option Identifier → ℕ → Walk CType
enum_ended None n = give (plain (base.Enum n))
enum_ended (Some tag) n = tagging tag.text (EnumTag n true) (give (plain (base.Enum n)))

abbrev pub enum_row : Option Identifier → List Enumerated → Walk CType
enum_row tag es = here (λ c s. change add_enum (enum_tagged tag s.enums (enumerators_row (Some 0) es) >>= λ u. enum_ended tag s.enums))
