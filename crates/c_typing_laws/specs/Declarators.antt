-- The rows of specifiers and declarators give something where they tell no fault.
use Rattle.std.specs.Prelude.{◌≡◌, ℕ, ◌+◌, ◌%◌, ◌==◌, ◌^◌, nat_lt, nat_le, Bool, true, false, ◌&&◌, ◌||◌, not, List, [], ◌∷◌, Option, Some, None, length, if◌then◌else◌, refl}
use Rattle.std.specs.List.{AllByRecursion, list_all}
use Rattle.std.specs.Option.{option_map}
use Rattle.c_tree.specs.declared.token.Pos.{Pos}
use Rattle.c_tree.specs.declared.expression.Identifier.{Identifier}
use Rattle.c_tree.specs.declared.refusal.FaultKind.TheVariants as kind
use Rattle.c_tree.specs.declared.typed.types.Base.{Base}
use Rattle.c_tree.specs.declared.typed.types.CType.{CType}
use Rattle.c_layout.specs.declared.tags.StructLayout.{StructLayout}
use Rattle.c_layout.specs.Structures.{Declared, layout}
use Rattle.c_typing.specs.declared.fault.Fault.{Fault}
use Rattle.c_typing.specs.declared.scope.Meaning.{Meaning}
use Rattle.c_typing.specs.declared.scope.Meaning.TheVariants.{TypedefOf, EnumeratorOf, Automatic, Static, Linked, Unknown}
use Rattle.c_typing.specs.declared.scope.Tag.{Tag}
use Rattle.c_typing.specs.declared.scope.Tag.TheVariants.{StructTag, EnumTag}
use Rattle.c_typing.specs.declared.operand.Operand.{Operand}
use Rattle.c_typing.specs.declared.declarator.Part.{Part}
use Rattle.c_typing.specs.declared.declarator.Part.TheVariants.{Pointing, Arraying, SomeArray, Listing, SomeFunction}
use Rattle.c_typing.specs.declared.declarator.Basis.{Basis}
use Rattle.c_typing.specs.Scopes.{Walk, give, offer, unasked, change, beside, asked, both_asked, ◌>>=◌, joined, meaning_of}
use Rattle.c_typing.specs.Declarators as typing
use Rattle.c_typing.specs.Declarators.{Expressed, Declaring, Specifying, Storing, Qualifying, Wording, Naming, Using, Specified, Enumerated, Members, Parts}
use Rattle.c_typing_laws.specs.Scopes.{IfGiven, Answers, Any, gives, tells, offers, follows, asks, both, chain, pair, besides, passes, either, sees, changes, in_order, all_append, walks, IfMeant, meaning_known}

pub mapped : {A B : Type 0} (f : A → B) (o : Option A) → IfGiven Any o → IfGiven Any (option_map f o)
mapped f (Some a) h = tt
mapped f None h = h

-- ---- what the parts of a tree are

-- an expression that gives an operand
abbrev pub Says : Expressed → Type 0
Says e = Answers Any e.typed

-- a derivation in which no fault stands
abbrev pub IsSettled : Part → Type 0
IsSettled d = typing.is_settled d ≡ true

abbrev pub AreSettled : List Part → Type 0
AreSettled ds = AllByRecursion IsSettled ds

-- a declarator that gives its derivations
abbrev pub Derives : Declaring → Type 0
Derives d = (defining : Bool) → Answers AreSettled (d.parts defining)

-- an enumerator that gives its value, behind one that has a value
abbrev pub Counts : Enumerated → Type 0
Counts e = (next : Option ℕ) → IfGiven Any next → Answers Any (e.value next)

-- the types that are named have no fault
abbrev pub AreTyped : Parts → Type 0
AreTyped r = AllByRecursion (λ t. IfGiven Any t) r.types

-- a specifier that names a type without a fault, where it names one
abbrev pub Specifies : Specifying → Type 0
Specifies q = (alone : Bool) (r : Parts) → AreTyped r → Answers AreTyped (typing.with_specifier alone r q)

abbrev pub IsSpecific : Specified → Type 0
IsSpecific q = Specifies q.specifying

-- members of types without a fault
abbrev pub AreMembers : Members → Type 0
AreMembers ms = AllByRecursion (λ m. IfGiven Any m.1) ms

-- ---- integer constant expressions

constant_if_any : (at : Pos) (o : Option (ℕ × Bool)) → Answers Any (typing.constant_if_any at o)
constant_if_any at (Some n) = search walks
constant_if_any at None = search walks

pub constant_row : (at : Pos) (o : Operand) → Answers Any (typing.constant_row at o)
constant_row at o = constant_if_any at _

pub count_row : (bracket first : Pos) (o : Operand) → Answers Any (typing.count_row bracket first o)
count_row bracket first o = chain (constant_row first o) (λ n h. passes (typing.is_negative n || (n.0 == 0)) kind.BadSize bracket (λ e. gives n.0 tt))

-- ---- declarators

array_if : (at : Pos) (t : CType) (count size : Option ℕ) → Answers Any (typing.array_if at t count size)
array_if at t None None = search walks
array_if at t (Some k) None = search walks
array_if at t None (Some n) = search walks
array_if at t (Some k) (Some n) = search walks

derive_one : (at : Pos) (d : Part) (t : CType) → Answers Any (typing.derive_one at d t)
derive_one at (Pointing c) t = search walks
derive_one at (Arraying count) t = search (walks, array_if)
derive_one at SomeArray t = search (walks, array_if)
derive_one at (Listing ps) t = search walks
derive_one at SomeFunction t = search walks

derive_all : (at : Pos) (ds : List Part) (t : CType) → Answers Any (typing.derive_all at ds t)
derive_all at [] t = search walks
derive_all at (d ∷ ds) t = chain (derive_one at d t) (λ u h. derive_all at ds u)

all_settled : (ds : List Part) → AreSettled ds → list_all typing.is_settled ds ≡ true
all_settled [] h = refl
all_settled (d ∷ ds) h = rw (h.0, all_settled ds h.1) refl

if_settled : (b : Bool) (u : Option CType) → b ≡ true → IfGiven Any u → Answers Any (if b then offer u else unasked)
if_settled true u e g = offers u g
if_settled false u e g = absurd cc

pub derive : (at : Pos) (ds : List Part) (t : CType) → AreSettled ds → Answers Any (typing.derive at ds t)
derive at ds t h =
    follows (λ u. if list_all typing.is_settled ds then offer u else unasked) (derive_all at ds t)
    (λ u g. if_settled (list_all typing.is_settled ds) u (all_settled ds h) g)

pub declared_type : (d : Declaring) (defining : Bool) (at : Pos) (t : Option CType) → Derives d → IfGiven Any t → Answers Any (typing.declared_type d defining at t)
declared_type d defining at t p h =
    follows (λ ds. both_asked ds t (typing.derive (typing.name_place d.name at))) (p defining)
    (λ ds g. both ds t g h (λ ds t a b. derive (typing.name_place d.name at) ds t a))

pub complete_row : (at : Pos) (t : CType) → Answers Any (typing.complete_row at t)
complete_row at t = search walks

pub complete_parameter : (at : Pos) (t : CType) → Answers Any (typing.complete_parameter at t)
complete_parameter at t = search (walks, besides)

-- ---- specifiers

one_more : (r : Parts) (t : Option CType) → AreTyped r → IfGiven Any t → AreTyped (typing.with_type r t)
one_more r t h g = all_append (λ t. IfGiven Any t) r.types (t ∷ []) h (g, tt)

pub storing : (s : _) → Specifies (Storing s)
storing s alone r h = gives _ h

pub qualifying : Specifies Qualifying
qualifying alone r h = gives _ h

pub wording : (w : _) → Specifies (Wording w)
wording w alone r h = gives _ h

pub naming : (f : Bool → Walk CType) → ((alone : Bool) → Answers Any (f alone)) → Specifies (Naming f)
naming f p alone r h = follows (λ t. give (typing.with_type r t)) (p alone) (λ t g. gives _ (one_more r t h g))

typedef_meant : (id : Identifier) (m : Option Meaning) → IfMeant m → Answers Any (typing.typedef_meant id m)
typedef_meant id None h = search walks
typedef_meant id (Some (TypedefOf t)) h = search walks
typedef_meant id (Some (EnumeratorOf n)) h = search walks
typedef_meant id (Some (Automatic t place n r)) h = search walks
typedef_meant id (Some (Static t n)) h = search walks
typedef_meant id (Some (Linked t)) h = search walks
typedef_meant id (Some Unknown) h = absurd h

typedef_name_row : (id : Identifier) → Answers Any (typing.typedef_name_row id)
typedef_name_row id =
    sees (λ c s. typing.typedef_meant id (meaning_of s id.text)) (λ c s k. typedef_meant id (meaning_of s id.text) (meaning_known s id.text k))

pub using : (id : Identifier) → Specifies (Using id)
using id alone r h = follows (λ t. give (typing.with_type r t)) (typedef_name_row id) (λ t g. gives _ (one_more r t h g))

read_specifiers : (alone : Bool) (r : Parts) (ss : List Specified) → AreTyped r → AllByRecursion IsSpecific ss → Answers AreTyped (typing.read_specifiers alone r ss)
read_specifiers alone r [] h p = gives r h
read_specifiers alone r (s ∷ ss) h p = chain (p.0 alone r h) (λ q g. read_specifiers alone q ss g p.1)

named_type : (at : Pos) (r : Parts) (types : List (Option CType)) (b : Option Base) → AllByRecursion (λ t. IfGiven Any t) types → Answers Any (typing.named_type at r types b)
named_type at r [] (Some b) h = search walks
named_type at r [] None h = search walks
named_type at r (t ∷ []) b h = either (nat_lt 0 (length r.words)) (λ e. tells kind.BadSpecifier at) (λ e. asks t h.0 (λ t g. gives (typing.basis r t) tt))
named_type at r (t ∷ u ∷ ts) b h = search walks

basis_of : (at : Pos) (r : Parts) → AreTyped r → Answers Any (typing.basis_of at r)
basis_of at r h = let known = named_type at r r.types (typing.named_by_words r.words) h in search (walks, known)

pub specifiers_row : (alone : Bool) (ss : List Specified) → AllByRecursion IsSpecific ss → Answers Any (typing.specifiers_row alone ss)
specifiers_row alone ss p = chain (read_specifiers alone typing.nothing ss tt p) (λ r h. basis_of (typing.first_token ss) r h)

-- ---- tags

struct_meant : (tag : Identifier) (o : Option Tag) → Answers Any (typing.struct_meant tag o)
struct_meant tag (Some (StructTag n listed)) = search walks
struct_meant tag (Some (EnumTag n ended)) = search walks
struct_meant tag None = search walks

pub struct_tag_row : (tag : Identifier) (alone : Bool) → Answers Any (typing.struct_tag_row tag alone)
struct_tag_row tag alone = search (walks, struct_meant)

enum_meant : (tag : Identifier) (o : Option Tag) → Answers Any (typing.enum_meant tag o)
enum_meant tag (Some (EnumTag n true)) = search walks
enum_meant tag (Some (EnumTag n false)) = search walks
enum_meant tag (Some (StructTag n listed)) = search walks
enum_meant tag None = search walks

pub enum_tag_row : (tag : Identifier) → Answers Any (typing.enum_tag_row tag)
enum_tag_row tag = search (walks, enum_meant)

-- ---- structures

begin_new : (tag : Identifier) → Answers Any (typing.begin_new tag)
begin_new tag = search walks

begin_struct : (tag : Identifier) (o : Option Tag) → Answers Any (typing.begin_struct tag o)
begin_struct tag None = begin_new tag
begin_struct tag (Some (StructTag n false)) = search walks
begin_struct tag (Some (StructTag n true)) = search walks
begin_struct tag (Some (EnumTag n ended)) = search walks

struct_begun : (tag : Option Identifier) → Answers Any (typing.struct_begun tag)
struct_begun None = search walks
struct_begun (Some tag) = search (walks, begin_struct)

pub all_members : (mss : List Members) → AllByRecursion AreMembers mss → AreMembers (typing.all_members mss)
all_members [] h = tt
all_members (ms ∷ mss) h = all_append (λ m. IfGiven Any m.1) ms (typing.all_members mss) h.0 (all_members mss h.1)

as_declared : (ms : Members) → AreMembers ms → IfGiven Any (typing.as_declared ms)
as_declared [] h = tt
as_declared ((id, Some t) ∷ ms) h = with_rest (typing.as_declared ms) (as_declared ms h.1)
  where
    with_rest : (o : Option (List Declared)) → IfGiven Any o → (let a : Declared = (id.text, t) in IfGiven Any (joined (Some a) o))
    with_rest (Some rest) g = tt
    with_rest None g = g
as_declared ((id, None) ∷ ms) h = absurd h.0

none_there : (fs : List Fault) → fs ≡ [] → nat_lt 0 (length fs) ≡ true → ⊥
none_there [] h g = let e : false ≡ true = g in cc
none_there (f ∷ fs) h g = cc

completed : (at : Pos) (n : ℕ) (l : StructLayout) → Answers Any (typing.completed at n l)
completed at n l = search walks

members_row : (at : Pos) (n : ℕ) (ms : Members) → AreMembers ms → Answers Any (typing.members_row at n ms)
members_row at n ms h =
    sees (λ c s. beside (typing.repeated [] ms) (if nat_lt 0 (length (typing.repeated [] ms)) then unasked else asked (typing.as_declared ms) (λ ds. typing.completed at n (layout s.structs ds))))
    (λ c s k. besides (typing.repeated [] ms) (λ e. either (nat_lt 0 (length (typing.repeated [] ms)))
    (λ b. absurd (none_there (typing.repeated [] ms) e b))
    (λ b. asks (typing.as_declared ms) (as_declared ms h) (λ ds g. completed at n (layout s.structs ds)))))

pub struct_row : (at : Pos) (tag : Option Identifier) (members : List (Walk Members)) → AllByRecursion (λ w. Answers AreMembers w) members → Answers Any (typing.struct_row at tag members)
struct_row at tag members p =
    pair (struct_begun tag) (in_order members p)
    (λ n ms g h. members_row (typing.tag_place tag at) n (typing.all_members ms) (all_members ms h))

member_named : (name : Option Identifier) (t : Option CType) → IfGiven Any t → Answers AreMembers (typing.member_named name t)
member_named (Some id) t h = follows (λ t. give ((id, t) ∷ [])) (asks t h (λ t g. complete_row id.place t)) (λ t g. gives ((id, t) ∷ []) (g, tt))
member_named None t h = gives [] tt

pub one_member : (b : Option Basis) (d : Declaring) → IfGiven Any b → Derives d → Answers AreMembers (typing.one_member b d)
one_member b d h p =
    follows (typing.member_named d.name) (declared_type d false typing.nowhere (option_map (λ b. b.ctype) b) p (mapped (λ b. b.ctype) b h))
    (λ t g. member_named d.name t g)

-- ---- enumerations

enumerator_declared : (id : Identifier) (value : Option ℕ) → IfGiven Any value → Answers Any (typing.enumerator_declared id value)
enumerator_declared id (Some n) h = search (walks, besides, offers)
enumerator_declared id None h = absurd h

following : (at : Pos) (value : Option ℕ) → IfGiven Any value → Answers Any (typing.following at value)
following at (Some n) h = search walks
following at None h = absurd h

pub plain_enumerator : (id : Identifier) (value : Option ℕ) → IfGiven Any value → Answers Any (typing.plain_enumerator id value)
plain_enumerator id value h = follows (typing.enumerator_declared id) (following id.place value h) (λ v g. enumerator_declared id v g)

enumerator_value : (first : Pos) (o : Operand) → Answers Any (typing.enumerator_value first o)
enumerator_value first o = chain (constant_row first o) (λ n h. passes (not n.1 && nat_le (2 ^ 31) n.0) kind.NotConstant first (λ e. gives n.0 tt))

pub valued_enumerator : (id : Identifier) (e : Expressed) → Says e → Answers Any (typing.valued_enumerator id e)
valued_enumerator id e p =
    follows (λ o. asked o (typing.enumerator_value e.first) >>= typing.enumerator_declared id) p
    (λ o g. follows (typing.enumerator_declared id) (asks o g (λ o h. enumerator_value e.first o)) (λ v g. enumerator_declared id v g))

enumerators_row : (next : Option ℕ) (es : List Enumerated) → IfGiven Any next → AllByRecursion Counts es → Answers Any (typing.enumerators_row next es)
enumerators_row next [] h p = gives tt tt
enumerators_row next (e ∷ es) h p =
    follows (λ n. typing.enumerators_row (option_map (λ n. (n + 1) % (2 ^ 32)) n) es) (p.0 next h)
    (λ n g. enumerators_row (option_map (λ n. (n + 1) % (2 ^ 32)) n) es (mapped (λ n. (n + 1) % (2 ^ 32)) n g) p.1)

enum_tagged : (tag : Option Identifier) (n : ℕ) (w : Walk (Unit {0})) → Answers Any w → Answers Any (typing.enum_tagged tag n w)
enum_tagged None n w p = p
enum_tagged (Some tag) n w p = search (walks, besides, p)

enum_ended : (tag : Option Identifier) (n : ℕ) → Answers Any (typing.enum_ended tag n)
enum_ended None n = search walks
enum_ended (Some tag) n = search walks

pub enum_row : (tag : Option Identifier) (es : List Enumerated) → AllByRecursion Counts es → Answers Any (typing.enum_row tag es)
enum_row tag es p =
    sees (λ c s. change typing.add_enum (typing.enum_tagged tag s.enums (typing.enumerators_row (Some 0) es) >>= λ u. typing.enum_ended tag s.enums))
    (λ c s k. changes typing.add_enum (λ s k. k)
    (follows (λ u. typing.enum_ended tag s.enums) (enum_tagged tag s.enums (typing.enumerators_row (Some 0) es) (enumerators_row (Some 0) es tt p)) (λ u g. enum_ended tag s.enums)))
