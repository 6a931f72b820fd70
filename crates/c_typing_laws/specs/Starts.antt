-- What the parts of an initialiser come to, where no fault is told of them.
use Rattle.c_typing.specs.Faults.{fault}
use Rattle.std.specs.Prelude.{◌≡◌, ℕ, Bool, true, false, ◌&&◌, ◌||◌, not, if◌then◌else◌, List, [], ◌∷◌, ◌++◌, Option, Some, None, reverse, is_some, refl}
use Rattle.std.proofs.Common.{ap, sym, ◌∙◌}
use Rattle.std.proofs.lemmas.List.{reverse-append}
use Rattle.std.specs.List.{AllByRecursion}
use Rattle.c_tree.specs.declared.token.Pos.{Pos}
use Rattle.c_tree.specs.declared.refusal.FaultKind.TheVariants as kind
use Rattle.c_tree.specs.declared.typed.types.Base.TheVariants as base
use Rattle.c_tree.specs.declared.typed.types.Derived.{Derived}
use Rattle.c_tree.specs.declared.typed.types.Derived.TheVariants as derived
use Rattle.c_tree.specs.declared.typed.types.CType.{CType, out-CType}
use Rattle.c_tree.specs.declared.typed.operator.Scalar.{Scalar}
use Rattle.c_tree.specs.declared.typed.operator.Scalar.TheVariants as scalar
use Rattle.c_tree.specs.declared.typed.expression.TExpr.{TExpr}
use Rattle.c_tree.specs.declared.typed.statement.Initial.{Initial}
use Rattle.c_tree.specs.declared.typed.statement.Initial.TheVariants as initial
use Rattle.c_tree.specs.declared.typed.statement.Initialiser.TheVariants as initialiser
use Rattle.c_layout.specs.Constants.{constant_of}
use Rattle.c_typing.specs.declared.operand.Operand.{Operand}
use Rattle.c_typing.specs.declared.initialiser.Leaf.{Leaf}
use Rattle.c_typing.specs.declared.initialiser.Leaf.TheVariants.{Unfit, Given, Text, Wrong}
use Rattle.c_typing.specs.declared.initialiser.Filled.{Filled}
use Rattle.c_typing.specs.declared.initialiser.Address.{Address}
use Rattle.c_typing.specs.Types.{shape_from, Shape, Basic, PointerTo, ArrayOf, FunctionOf, shape, basic, is_integer_base, is_pointer_shape, is_scalar, is_bool, derived_from}
use Rattle.c_typing.specs.Conversions.{scalar_of, scalar_of_shape, width_of_base}
use Rattle.c_typing.specs.Operands.{valued, takes, tree_of}
use Rattle.c_typing.specs.Expressions as rows
use Rattle.c_typing.specs.Scopes.{Walk, give, offer, asked, ◌>>=◌, joined}
use Rattle.c_typing.specs.Starts as typing
use Rattle.c_typing.specs.Declarations.{counted, counted_shape}
use Rattle.c_typing_laws.specs.Scopes.{faulty, AreKnown, IfGiven, Answers, Any, gives, tells, offers, follows, asks, both, chain, pair, passes, either, sees, joins, walks}
use Rattle.c_typing_laws.specs.OfInitialisers.{IsRight, BeginsGiven, Fills}

-- ---- scalar types

scalar_shape : (s : Shape) → is_some (scalar_of_shape s) ≡ (basic is_integer_base s || is_pointer_shape s)
scalar_shape (Basic b) = by_test (is_integer_base b) (scalar.Integer (width_of_base b))
  where
    by_test : (v : Bool) (k : Scalar) → is_some (if v then Some k else None) ≡ (v || false)
    by_test true k = refl
    by_test false k = refl
scalar_shape (PointerTo c t) = refl
scalar_shape (ArrayOf n t) = refl
scalar_shape (FunctionOf ps t) = refl

-- what a value may be given to is of scalar type
taking : (s : Shape) (o : Operand) → not (takes s o) ≡ false → IfGiven Any (scalar_of_shape s)
taking (Basic base.Void) o h = absurd (let e : true ≡ false = h in cc)
taking (Basic (base.Struct n)) o h = absurd (let e : true ≡ false = h in cc)
taking (Basic _) o h = tt
taking (PointerTo c t) o h = tt
taking (ArrayOf n t) o h = absurd (let e : true ≡ false = h in cc)
taking (FunctionOf ps t) o h = absurd (let e : true ≡ false = h in cc)

given_row : (at : Pos) (t : CType) (o : Operand) → Answers (λ e. IfGiven Any (scalar_of t)) (rows.given_row at t o)
given_row at t o =
    passes (rows.is_struct_given t (valued o)) kind.StructValue at (λ e.
    passes (not (takes (shape t) (valued o))) kind.Mismatch at (λ e. gives _ (taking (shape t) (valued o) e)))

-- ---- automatic objects

abbrev IsValue : Initial → Type 0
IsValue (initial.Value n k e) = Unit {0}
IsValue i = ⊥

abbrev BeginsValue : List Initial → Type 0
BeginsValue (i ∷ is) = IsValue i
BeginsValue [] = ⊥

initial_if : (offset : ℕ) (k : Option Scalar) (e : TExpr) → IfGiven Any k → IfGiven IsValue (typing.initial_if offset k e)
initial_if offset (Some k) e h = tt
initial_if offset None e h = h

initial_value : (offset : ℕ) (t : CType) (first : Pos) (o : Option Operand) → IfGiven Any o → Answers IsValue (typing.initial_row (Given offset t first o))
initial_value offset t first o g =
    chain (asks o g (λ o a. given_row first t o)) (λ e k. offers (typing.initial_if offset (scalar_of t) e) (initial_if offset (scalar_of t) e k))

any_initial : (w : Walk Initial) → Answers IsValue w → Answers Any w
any_initial w p = Rattle.c_typing_laws.specs.Scopes.weaker (λ i g. tt) p

initial_row : (l : Leaf) → IsRight l → Answers Any (typing.initial_row l)
initial_row (Given offset t first o) g = any_initial (typing.initial_row (Given offset t first o)) (initial_value offset t first o g)
initial_row (Text offset bytes) g = gives _ tt
initial_row (Unfit first o) g = absurd g
initial_row Wrong g = absurd g

initials_row : (ls : List Leaf) → AllByRecursion IsRight ls → Answers (AllByRecursion Any) (typing.initials_row ls)
initials_row [] h = gives [] tt
initials_row (l ∷ ls) h =
    follows (λ i. typing.initials_row ls >>= λ rest. offer (joined i rest)) (initial_row l h.0)
    (λ i g. follows (λ rest. offer (joined i rest)) (initials_row ls h.1) (λ rest k. offers (joined i rest) (joins Any i rest g k)))

joins_value : (o : Option Initial) (rest : Option (List Initial)) → IfGiven IsValue o → IfGiven (AllByRecursion Any) rest → IfGiven BeginsValue (joined o rest)
joins_value (Some i) (Some is) g h = g
joins_value (Some i) None g h = h
joins_value None rest g h = absurd g

initials_begun : (ls : List Leaf) → AllByRecursion IsRight ls → BeginsGiven ls → Answers BeginsValue (typing.initials_row ls)
initials_begun (Given offset t first o ∷ ls) h b =
    follows (λ i. typing.initials_row ls >>= λ rest. offer (joined i rest)) (initial_value offset t first o h.0)
    (λ i g. follows (λ rest. offer (joined i rest)) (initials_row ls h.1) (λ rest k. offers (joined i rest) (joins_value i rest g k)))
initials_begun (Text offset bytes ∷ ls) h b = absurd b
initials_begun (Unfit first o ∷ ls) h b = absurd b
initials_begun (Wrong ∷ ls) h b = absurd b
initials_begun [] h b = absurd b

scalar_initialiser : (is : List Initial) → BeginsValue is → IfGiven Any (typing.scalar_initialiser is)
scalar_initialiser (initial.Value n k e ∷ is) h = tt
scalar_initialiser (initial.Bytes n bytes ∷ is) h = absurd h
scalar_initialiser [] h = absurd h

by_scalar : (b : Bool) (ls : List Leaf) → AllByRecursion IsRight ls → (b ≡ true → BeginsGiven ls)
    → Answers Any (typing.initials_row ls >>= λ is. asked is (λ is. if b then offer (typing.scalar_initialiser is) else give (initialiser.Aggregate is)))
by_scalar true ls h begins = chain (initials_begun ls h (begins refl)) (λ is g. offers (typing.scalar_initialiser is) (scalar_initialiser is g))
by_scalar false ls h begins = chain (initials_row ls h) (λ is g. gives (initialiser.Aggregate is) tt)

initialiser_row : (t : CType) (ls : List Leaf) → AllByRecursion IsRight ls → (is_some (scalar_of t) ≡ true → BeginsGiven ls) → Answers Any (typing.initialiser_row t ls)
initialiser_row t ls h begins = by_scalar (is_some (scalar_of t)) ls h begins

-- an array of which the initialiser has told the number of elements is no scalar
last_shape : (t : CType) (d : Derived) → shape (derived_from t d) ≡ shape_from (out-CType t).base (out-CType t).constant (d ∷ reverse (out-CType t).derived)
last_shape t d = ap (λ ds. shape_from (out-CType t).base (out-CType t).constant ds) (reverse-append (out-CType t).derived (d ∷ []))

counted_scalar : (s : Shape) (t : CType) (n : ℕ) → shape t ≡ s → is_some (scalar_of (counted_shape s t n)) ≡ true → is_scalar t ≡ true
counted_scalar (ArrayOf None u) t n is h =
    absurd (let e : false ≡ true = sym (ap (λ s. is_some (scalar_of_shape s)) (last_shape u (derived.Array (Some n)))) ∙ h in cc)
counted_scalar (ArrayOf (Some m) u) t n is h = sym (scalar_shape (shape t)) ∙ h
counted_scalar (Basic b) t n is h = sym (scalar_shape (shape t)) ∙ h
counted_scalar (PointerTo c u) t n is h = sym (scalar_shape (shape t)) ∙ h
counted_scalar (FunctionOf ps u) t n is h = sym (scalar_shape (shape t)) ∙ h

pub filled_row : (t : CType) (f : Filled) → Fills t f → Answers Any (typing.initialiser_row (counted t f.count) f.leaves)
filled_row t f p = initialiser_row (counted t f.count) f.leaves p.leaves (λ h. p.begins (counted_scalar (shape t) t f.count refl h))

-- ---- static objects

address_parts : (first : Pos) (offset : ℕ) (a : Option Address) → Answers Any (typing.address_parts first offset a)
address_parts first offset None = search walks
address_parts first offset (Some a) = search walks

pointer_parts : (first : Pos) (offset : ℕ) (e : TExpr) → Answers Any (typing.pointer_parts first offset e)
pointer_parts first offset e = search (walks, address_parts)

value_parts : (first : Pos) (offset : ℕ) (k : Option Scalar) (e : TExpr) (n : Option ℕ) → Answers Any (typing.value_parts first offset k e n)
value_parts first offset (Some scalar.Pointer) e n = pointer_parts first offset e
value_parts first offset (Some (scalar.Integer w)) e (Some n) = search walks
value_parts first offset (Some (scalar.Integer w)) e None = search walks
value_parts first offset None e n = search walks

truth_parts : (first : Pos) (offset : ℕ) (a : Option Address) → Answers Any (typing.truth_parts first offset a)
truth_parts first offset None = search walks
truth_parts first offset (Some a) = search walks

pointer_truth : (first : Pos) (offset : ℕ) (e : TExpr) → Answers Any (typing.pointer_truth first offset e)
pointer_truth first offset e = search (walks, truth_parts)

constant_start : (first : Pos) (offset : ℕ) (t : CType) (o : Operand) → Answers Any (typing.constant_start first offset t o)
constant_start first offset t o =
    either (is_bool t && typing.points o) (λ b. pointer_truth first offset (tree_of (valued o)))
    (λ b. chain (given_row first t o) (λ e k. value_parts first offset (scalar_of t) e (constant_of e)))

given_start : (first : Pos) (offset : ℕ) (t : CType) (o : Operand) → Answers Any (typing.given_start first offset t o)
given_start first offset t o =
    sees (λ c s. if typing.is_constant_start c s o then typing.constant_start first offset t o else typing.not_constant first t o)
    (λ c s k. either (typing.is_constant_start c s o) (λ b. constant_start first offset t o) (λ b. faulty (fault kind.NotConstant first)))

start_row : (l : Leaf) → IsRight l → Answers Any (typing.start_row l)
start_row (Given offset t first o) g = asks o g (λ o a. given_start first offset t o)
start_row (Text offset bytes) g = gives _ tt
start_row (Unfit first o) g = absurd g
start_row Wrong g = absurd g

pub starts_row : (ls : List Leaf) → AllByRecursion IsRight ls → Answers Any (typing.starts_row ls)
starts_row [] h = gives [] tt
starts_row (l ∷ ls) h = pair (start_row l h.0) (starts_row ls h.1) (λ a rest g k. gives (a ++ rest) tt)
