-- What typing makes of a node of an expression, a specifier or a declarator gives something where it tells no fault.
use Rattle.std.specs.Prelude.{ℕ, ◌+◌, Bool, false, List, [], ◌∷◌, ◌++◌, Option, Some, None, map, reverse, refl}
use Rattle.std.specs.List.{AllByRecursion}
use Rattle.std.specs.Option.{option_map}
use Rattle.c_tree.specs.declared.token.Pos.{Pos}
use Rattle.c_tree.specs.declared.token.Punct.{Punct}
use Rattle.c_tree.specs.declared.token.Punct.TheVariants as p
use Rattle.c_tree.specs.declared.expression.Identifier.{Identifier}
use Rattle.c_tree.specs.declared.expression.Mark.{Mark}
use Rattle.c_tree.specs.declared.expression.Level.{Level}
use Rattle.c_tree.specs.declared.expression.Level.TheVariants as level
use Rattle.c_tree.specs.declared.refusal.FaultKind.TheVariants as kind
use Rattle.c_tree.specs.declared.declarator.Pointer.{Pointer}
use Rattle.c_tree.specs.declared.typed.types.CType.{CType}
use Rattle.c_tree.specs.declared.typed.operator.Given.TheVariants as given
use Rattle.c_tree.specs.declared.typed.expression.TExpr.{TExpr}
use Rattle.c_tree.specs.declared.typed.expression.TExpr.TheVariants as x
use Rattle.c_typing.specs.declared.operand.Operand.{Operand}
use Rattle.c_typing.specs.declared.declarator.Part.{Part}
use Rattle.c_typing.specs.declared.declarator.Parameter.{Parameter}
use Rattle.c_typing.specs.declared.declarator.Basis.{Basis}
use Rattle.c_typing.specs.Types.{int, shape}
use Rattle.c_typing.specs.Operands.{tree_of, value, valued, dropping}
use Rattle.c_typing.specs.Scopes.{Walk, give, tell, offer, asked, both_asked, ◌>>=◌, joined, in_row}
use Rattle.c_typing.specs.Declarators.{Expressed, Declaring, Suffixed, Specified, TypeNamed, Members, basis_type, is_register, declared_type, name_place, adjusted, first_token}
use Rattle.c_typing.specs.Declarators.{array_part as array_part_of, function_part as function_part_of}
use Rattle.c_typing.specs.Parts.{Prefixing, Marking, Sizing, Casting, Prefixed, Suffixing, Indexing, Calling, Membering, Arrowing, Changing, Operating, Branching}
use Rattle.c_typing.specs.Parts as parts
use Rattle.c_typing.specs.Expressions as rows
use Rattle.c_typing.specs.Expressions.{Argument, Chain, Assigned}
use Rattle.c_typing.specs.OfTrees as typing
use Rattle.c_typing_laws.specs.Scopes.{IfGiven, Answers, Any, gives, tells, offers, follows, asks, both, chain, pair, besides, either, joins, in_order, scopes, defines, all_append, all_reversed, walks}
use Rattle.c_typing_laws.specs.Expressions.{IsGivenArgument, size_row, indirection_row, address_row, promoted_row, not_row, increment_row, cast_row, binary_row, truth_row, index_row, member_row, arrow_row, call_row, conditional_row, assign_row}
use Rattle.c_typing_laws.specs.Declarators.{Says, IsSettled, AreSettled, Derives, IsSpecific, AreMembers, mapped, count_row, complete_parameter, specifiers_row, one_member}
use Rattle.c_typing_laws.specs.Declarators as declarators

-- ---- what the parts of a tree are

-- a part behind a declarator's middle that gives its derivation
abbrev pub Suffixes : Suffixed → Type 0
Suffixes d = (defining : Bool) → Answers IsSettled (d.part defining)

abbrev pub Prefixes : Prefixed → Type 0
Prefixes q = Answers Any q.walk

-- a suffix whose expressions give operands
abbrev pub Continues : Suffixing → Type 0
Continues (Indexing at e) = Says e
Continues (Calling at es) = AllByRecursion Says es
Continues q = Unit {0}

abbrev pub Branches : Branching → Type 0
Branches b = Says b.gives × Says b.operand

abbrev pub Operates : Operating → Type 0
Operates n = Says n.operand

abbrev pub NamesType : TypeNamed → Type 0
NamesType t = (at : Pos) → Answers Any (t.typed at)

abbrev pub ListsMembers : Walk Members → Type 0
ListsMembers w = Answers AreMembers w

abbrev pub Listed : parts.Listed → Type 0
Listed q = (n : ℕ) → Answers Any (q n)

-- what is known of each item of a list, where it is known of the tree of each
pub all_of : {X A : Type 0} (f : X → A) (P : A → Type 0) (all : List ((x : X) × P (f x))) → AllByRecursion P (map f (map (λ e. e.0) all))
all_of f P [] = tt
all_of f P (e ∷ all) = (e.1, all_of f P all)

-- ---- expressions

each : {A : Type 0} (ws : List (Walk A)) → AllByRecursion (λ w. Answers Any w) ws → Answers (AllByRecursion (IfGiven Any)) (typing.each ws)
each [] h = gives [] tt
each (w ∷ ws) h =
    follows (λ a. typing.each ws >>= λ rest. asked rest (λ rest. give (a ∷ rest))) h.0
    (λ a g. chain (each ws h.1) (λ rest r. gives (a ∷ rest) (g, r)))

mark_row : (q : Punct) (m : Mark) (o : Operand) → Answers Any (typing.mark_row q m o)
mark_row p.Ampersand m o = address_row m.place o
mark_row p.Star m o = indirection_row m.place o
mark_row p.Plus m o = promoted_row (λ v. v) m.place (valued o)
mark_row p.Minus m o = promoted_row rows.negated m.place (valued o)
mark_row p.Tilde m o = promoted_row rows.complemented m.place (valued o)
mark_row p.Not m o = not_row m.place (valued o)
mark_row _ m o = increment_row m given.New o

prefix_row : (q : Prefixing) (o : Operand) → Answers Any (typing.prefix_row q o)
prefix_row (Marking m) o = mark_row m.punct m o
prefix_row (Sizing at) o = size_row at o.ctype
prefix_row (Casting at t) o = cast_row at t o

prefixes_row : (qs : List (Option Prefixing)) (o : Option Operand) → AllByRecursion (IfGiven Any) qs → IfGiven Any o → Answers Any (typing.prefixes_row qs o)
prefixes_row [] o h g = offers o g
prefixes_row (q ∷ qs) o h g =
    follows (λ v. both_asked q v typing.prefix_row) (prefixes_row qs o h.1 g) (λ v k. both q v h.0 k (λ q v a b. prefix_row q v))

prefix_walks : (qs : List Prefixed) → AllByRecursion Prefixes qs → AllByRecursion (λ w. Answers Any w) (map typing.prefix_walk qs)
prefix_walks [] h = tt
prefix_walks (q ∷ qs) h = (h.0, prefix_walks qs h.1)

pub prefixed : (qs : List Prefixed) (e : Expressed) → AllByRecursion Prefixes qs → Says e
    → Answers Any (typing.each (map typing.prefix_walk qs) >>= λ qs. e.typed >>= λ o. asked qs (λ qs. typing.prefixes_row qs o))
prefixed qs e h p =
    follows (λ qs. e.typed >>= λ o. asked qs (λ qs. typing.prefixes_row qs o)) (each (map typing.prefix_walk qs) (prefix_walks qs h))
    (λ qs g. follows (λ o. asked qs (λ qs. typing.prefixes_row qs o)) p (λ o k. asks qs g (λ qs g. prefixes_row qs o g k)))

arguments : (es : List Expressed) → AllByRecursion Says es → Answers (AllByRecursion IsGivenArgument) (typing.arguments es)
arguments [] h = gives [] tt
arguments (e ∷ es) h =
    follows (λ o. typing.arguments es >>= λ rest. asked rest (λ rest. give ((e.first, o) ∷ rest))) h.0
    (λ o g. chain (arguments es h.1) (λ rest r. gives ((e.first, o) ∷ rest) (g, r)))

suffix_row : (q : Suffixing) (o : Option Operand) → Continues q → IfGiven Any o → Answers Any (typing.suffix_row q o)
suffix_row (Indexing at e) o h g = follows (λ i. both_asked o i (rows.index_row at)) h (λ i k. both o i g k (λ l r a b. index_row at l r))
suffix_row (Calling at es) o h g = follows (λ args. asked o (λ o. tell kind.BadCall at)) (arguments es h) (λ args k. asks o g (λ o a. tells kind.BadCall at))
suffix_row (Membering at name) o h g = asks o g (λ o a. member_row name at o)
suffix_row (Arrowing at name) o h g = asks o g (λ o a. arrow_row name at o)
suffix_row (Changing m) o h g = asks o g (λ o a. increment_row m given.Old o)

suffixes_row : (qs : List Suffixing) (o : Option Operand) → AllByRecursion Continues qs → IfGiven Any o → Answers Any (typing.suffixes_row qs o)
suffixes_row [] o h g = offers o g
suffixes_row (q ∷ qs) o h g = follows (typing.suffixes_row qs) (suffix_row q o h.0 g) (λ o g. suffixes_row qs o h.1 g)

pub postfix_row : (e : Expressed) (callee : Option Identifier) (qs : List Suffixing) → Says e → AllByRecursion Continues qs → Answers Any (typing.postfix_row e callee qs)
postfix_row e (Some id) (Calling at es ∷ qs) p h =
    follows (λ args. asked args (rows.call_row id at) >>= typing.suffixes_row qs) (arguments es h.0)
    (λ args g. follows (typing.suffixes_row qs) (asks args g (λ args g. call_row id at args g)) (λ o g. suffixes_row qs o h.1 g))
postfix_row e callee qs p h = follows (typing.suffixes_row qs) p (λ o g. suffixes_row qs o h g)

binaries_row : (ns : List Operating) (l : Option Operand) → AllByRecursion Operates ns → IfGiven Any l → Answers Any (typing.binaries_row ns l)
binaries_row [] l h g = offers l g
binaries_row (n ∷ ns) l h g =
    follows (λ r. both_asked l r (rows.binary_row n.operator) >>= typing.binaries_row ns) h.0
    (λ r k. follows (typing.binaries_row ns) (both l r g k (λ l r a b. binary_row n.operator l r)) (λ o g. binaries_row ns o h.1 g))

truths_row : (ns : List Operating) (done : Option (List TExpr)) → AllByRecursion Operates ns → IfGiven Any done → Answers Any (typing.truths_row ns done)
truths_row [] done h g = offers done g
truths_row (n ∷ ns) None h g = absurd g
truths_row (n ∷ ns) (Some all) h g =
    follows (λ r. asked r (rows.truth_row n.operator.place) >>= λ t. typing.truths_row ns (option_map (λ t. all ++ tree_of t ∷ []) t)) h.0
    (λ r k. follows (λ t. typing.truths_row ns (option_map (λ t. all ++ tree_of t ∷ []) t)) (asks r k (λ r a. truth_row n.operator.place r))
    (λ t g. truths_row ns (option_map (λ t. all ++ tree_of t ∷ []) t) h.1 (mapped (λ t. all ++ tree_of t ∷ []) t g)))

logical_row : (f : List TExpr → TExpr) (first : Option Operand) (ns : List Operating) → IfGiven Any first → AllByRecursion Operates ns → Answers Any (typing.logical_row f first ns)
logical_row f first [] g h = offers first g
logical_row f first (n ∷ ns) g h =
    follows (λ t. typing.truths_row (n ∷ ns) (option_map (λ t. tree_of t ∷ []) t) >>= λ all. asked all (λ all. give (value int (f all))))
    (asks first g (λ o a. truth_row n.operator.place o))
    (λ t k. chain (truths_row (n ∷ ns) (option_map (λ t. tree_of t ∷ []) t) h (mapped (λ t. tree_of t ∷ []) t k)) (λ all a. gives (value int (f all)) tt))

level_row : (l : Level) (first : Option Operand) (ns : List Operating) → IfGiven Any first → AllByRecursion Operates ns → Answers Any (typing.level_row l first ns)
level_row level.Or first ns g h = logical_row (λ all. x.Any int all) first ns g h
level_row level.And first ns g h = logical_row (λ all. x.All int all) first ns g h
level_row _ first ns g h = binaries_row ns first h g

pub leveled : (l : Level) (e : Expressed) (ns : List Operating) → Says e → AllByRecursion Operates ns → Answers Any (e.typed >>= λ o. typing.level_row l o ns)
leveled l e ns p h = follows (λ o. typing.level_row l o ns) p (λ o g. level_row l o ns g h)

chain_row : (bs : List Branching) (o : Option Operand) → AllByRecursion Branches bs → IfGiven Any o → Answers Any (typing.chain_row bs o)
chain_row [] o h g = offers (option_map typing.chain_end o) (mapped typing.chain_end o g)
chain_row (b ∷ bs) o h g =
    follows (λ g. b.operand.typed >>= λ next. typing.chain_row bs next >>= λ rest. rows.conditional_row b.question o g rest) h.0.0
    (λ v a. follows (λ next. typing.chain_row bs next >>= λ rest. rows.conditional_row b.question o v rest) h.0.1
    (λ next k. follows (λ rest. rows.conditional_row b.question o v rest) (chain_row bs next h.1 k) (λ rest r. conditional_row b.question o v rest g a r)))

pub conditional : (e : Expressed) (bs : List Branching) → Says e → AllByRecursion Branches bs → Answers Any (e.typed >>= typing.chain_row bs >>= λ c. asked c (λ c. give c.whole))
conditional e bs p h = chain (follows (typing.chain_row bs) p (λ o g. chain_row bs o h g)) (λ c a. gives c.whole tt)

assigns_row : (ns : List Operating) (o : Option Operand) → AllByRecursion Operates ns → IfGiven Any o → Answers Any (typing.assigns_row ns o)
assigns_row [] o h g = offers (option_map typing.assigned_end o) (mapped typing.assigned_end o g)
assigns_row (n ∷ ns) o h g =
    follows (λ r. typing.assigns_row ns r >>= λ right. rows.assign_row n.operator o right) h.0
    (λ r k. follows (λ right. rows.assign_row n.operator o right) (assigns_row ns r h.1 k) (λ right a. assign_row n.operator o right g a))

pub assigned : (e : Expressed) (ns : List Operating) → Says e → AllByRecursion Operates ns → Answers Any (e.typed >>= typing.assigns_row ns >>= λ c. asked c (λ c. give c.whole))
assigned e ns p h = chain (follows (typing.assigns_row ns) p (λ o g. assigns_row ns o h g)) (λ c a. gives c.whole tt)

commas_row : (ns : List Operating) (ds : List TExpr) (o : Option Operand) → AllByRecursion Operates ns → IfGiven Any o → Answers Any (typing.commas_row ns ds o)
commas_row [] ds o h g = offers (option_map (typing.comma_of ds) o) (mapped (typing.comma_of ds) o g)
commas_row (n ∷ ns) ds (Some o) h g =
    follows (typing.commas_row ns (ds ++ tree_of (dropping o) ∷ [])) h.0 (λ r k. commas_row ns (ds ++ tree_of (dropping o) ∷ []) r h.1 k)
commas_row (n ∷ ns) ds None h g = absurd g

pub comma : (e : Expressed) (ns : List Operating) → Says e → AllByRecursion Operates ns → Answers Any (e.typed >>= typing.commas_row ns [])
comma e ns p h = follows (typing.commas_row ns []) p (λ o g. commas_row ns [] o h g)

pub operands : (ns : List Operating) → AllByRecursion Operates ns → AllByRecursion Says (map typing.operand_of ns)
operands [] h = tt
operands (n ∷ ns) h = (h.0, operands ns h.1)

pub named_type : (ss : List Specified) (d : Declaring) (at : Pos) → AllByRecursion IsSpecific ss → Derives d
    → Answers Any (Rattle.c_typing.specs.Declarators.specifiers_row false ss >>= λ b. declared_type d false at (option_map basis_type b))
named_type ss d at p q =
    follows (λ b. declared_type d false at (option_map basis_type b)) (specifiers_row false ss p)
    (λ b g. declarators.declared_type d false at (option_map basis_type b) q (mapped basis_type b g))

-- ---- members

one_members : (b : Option Basis) (ds : List Declaring) → IfGiven Any b → AllByRecursion Derives ds → AllByRecursion (λ w. Answers AreMembers w) (map (Rattle.c_typing.specs.Declarators.one_member b) ds)
one_members b [] h p = tt
one_members b (d ∷ ds) h p = (one_member b d h p.0, one_members b ds h p.1)

members_given : (o : Option (List Members)) → IfGiven (AllByRecursion AreMembers) o → IfGiven AreMembers (option_map Rattle.c_typing.specs.Declarators.all_members o)
members_given (Some mss) h = declarators.all_members mss h
members_given None h = h

pub member : (ss : List Specified) (ds : List Declaring) → AllByRecursion IsSpecific ss → AllByRecursion Derives ds
    → Answers AreMembers (Rattle.c_typing.specs.Declarators.specifiers_row false ss >>= λ b. in_row (map (Rattle.c_typing.specs.Declarators.one_member b) ds) >>= λ ms. offer (option_map Rattle.c_typing.specs.Declarators.all_members ms))
member ss ds p q =
    follows (λ b. in_row (map (Rattle.c_typing.specs.Declarators.one_member b) ds) >>= λ ms. offer (option_map Rattle.c_typing.specs.Declarators.all_members ms)) (specifiers_row false ss p)
    (λ b g. follows (λ ms. offer (option_map Rattle.c_typing.specs.Declarators.all_members ms)) (in_order (map (Rattle.c_typing.specs.Declarators.one_member b) ds) (one_members b ds g q))
    (λ ms k. offers (option_map Rattle.c_typing.specs.Declarators.all_members ms) (members_given ms k)))

-- ---- declarators

suffixes_parts : (defining : Bool) (ss : List Suffixed) → AllByRecursion Suffixes ss → Answers AreSettled (typing.suffixes_parts defining ss)
suffixes_parts defining [] h = gives [] tt
suffixes_parts defining (s ∷ ss) h =
    follows (λ a. typing.suffixes_parts false ss >>= λ rest. offer (joined a rest)) (h.0 defining)
    (λ a g. follows (λ rest. offer (joined a rest)) (suffixes_parts false ss h.1) (λ rest k. offers (joined a rest) (joins IsSettled a rest g k)))

pub pointing : (ps : List Pointer) → AreSettled (typing.pointing ps)
pointing [] = tt
pointing (q ∷ ps) = (refl, pointing ps)

pub declarator : (first : List Part) (inner : Walk (List Part)) (defining : Bool) (ss : List Suffixed) → AreSettled first → Answers AreSettled inner
    → AllByRecursion Suffixes ss → Answers AreSettled (inner >>= λ inner. typing.suffixes_parts defining ss >>= λ ss. both_asked inner ss (λ inner ss. give (first ++ (reverse ss ++ inner))))
declarator first inner defining ss f p h =
    pair p (suffixes_parts defining ss h)
    (λ inner ss a b. gives (first ++ (reverse ss ++ inner)) (all_append IsSettled first (reverse ss ++ inner) f (all_append IsSettled (reverse ss) inner (all_reversed IsSettled ss b) a)))

in_prototype : {A : Type 0} {P : A → Type 0} (w : Walk A) → Answers P w → Answers P (typing.in_prototype w)
in_prototype w p = record { run = λ c s k h. let r = (scopes p).run (record c { at_file_level = false }) s k h in record { gives = r.gives; known = r.known } }

parameters_row : (n : ℕ) (qs : List parts.Listed) → AllByRecursion Listed qs → Answers (AllByRecursion Any) (typing.parameters_row n qs)
parameters_row n [] h = gives [] tt
parameters_row n (q ∷ qs) h =
    follows (λ a. typing.parameters_row (n + 1) qs >>= λ rest. offer (joined a rest)) (h.0 n)
    (λ a g. follows (λ rest. offer (joined a rest)) (parameters_row (n + 1) qs h.1) (λ rest k. offers (joined a rest) (joins Any a rest g k)))

function_part : (ps : Option (List Parameter)) → IfGiven (AllByRecursion Any) ps → IsSettled (function_part_of ps)
function_part (Some ps) h = refl
function_part None h = absurd h

pub listing : (defining : Bool) (qs : List parts.Listed) → AllByRecursion Listed qs → Answers IsSettled (typing.listing defining (typing.parameters_row 0 qs))
listing defining qs h =
    follows (λ ps. give (function_part_of ps)) (either defining (λ e. defines (parameters_row 0 qs h)) (λ e. in_prototype (typing.parameters_row 0 qs) (parameters_row 0 qs h)))
    (λ ps a. gives (function_part_of ps) (function_part ps a))

array_part : (n : Option ℕ) → IfGiven Any n → IsSettled (array_part_of n)
array_part (Some n) h = refl
array_part None h = absurd h

pub array_of : (from : Pos) (e : Expressed) → Says e → Answers IsSettled (e.typed >>= λ o. asked o (Rattle.c_typing.specs.Declarators.count_row from e.first) >>= λ n. give (array_part_of n))
array_of from e p =
    follows (λ o. asked o (Rattle.c_typing.specs.Declarators.count_row from e.first) >>= λ n. give (array_part_of n)) p
    (λ o g. follows (λ n. give (array_part_of n)) (asks o g (λ o a. count_row from e.first o)) (λ n a. gives (array_part_of n) (array_part n a)))

-- ---- parameters

parameter_basis : (at : Pos) (b : Basis) → Answers Any (typing.parameter_basis at b)
parameter_basis at b = search walks

parameter_meant : (id : Identifier) (n : ℕ) (r : Bool) (t : CType) → Answers Any (typing.parameter_meant id n r t)
parameter_meant id n r t = search (walks, besides)

parameter_named : (name : Option Identifier) (n : ℕ) (r : Bool) (t : CType) → Answers Any (typing.parameter_named name n r t)
parameter_named (Some id) n r t = parameter_meant id n r t
parameter_named None n r t = search walks

parameter_type : (d : Declaring) (at : Pos) (b : Option Basis) → Derives d → IfGiven Any b → Answers Any (typing.parameter_type d at b)
parameter_type d at b p h =
    chain (declarators.declared_type d false at (option_map basis_type b) p (mapped basis_type b h))
    (λ t a. complete_parameter (name_place d.name at) (adjusted (shape t) t))

-- the parameter itself, behind its type
abbrev pub last_of : Declaring → Pos → ℕ → Basis → CType → Walk Parameter
last_of d at n b t =
    typing.parameter_named d.name n (is_register b.storage) t >>= λ t. asked t (λ t.
    give (record { name = d.name; first = at; ctype = t; in_register = is_register b.storage }))

last_row : (d : Declaring) (at : Pos) (n : ℕ) (b : Basis) (t : CType) → Answers Any (last_of d at n b t)
last_row d at n b t = chain (parameter_named d.name n (is_register b.storage) t) (λ t a. gives _ tt)

pub parameter : (ss : List Specified) (d : Declaring) (at : Pos) (n : ℕ) → AllByRecursion IsSpecific ss → Derives d
    → Answers Any (Rattle.c_typing.specs.Declarators.specifiers_row false ss >>= λ b. asked b (typing.parameter_basis at) >>= λ b. typing.parameter_type d at b >>= λ t.
    both_asked b t (last_of d at n))
parameter ss d at n p q =
    follows (λ b. asked b (typing.parameter_basis at) >>= λ b. typing.parameter_type d at b >>= λ t. both_asked b t (last_of d at n)) (specifiers_row false ss p)
    (λ b g. follows (λ b. typing.parameter_type d at b >>= λ t. both_asked b t (last_of d at n)) (asks b g (λ b a. parameter_basis at b))
    (λ b g. follows (λ t. both_asked b t (last_of d at n)) (parameter_type d at b q g) (λ t k. both b t g k (λ b t a e. last_row d at n b t))))
