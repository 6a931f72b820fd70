-- The rows of expressions give something where they tell no fault.
use Rattle.std.specs.Prelude.{◌≡◌, ℕ, Bool, true, false, not, if◌then◌else◌, List, [], ◌∷◌, Option, Some, None}
use Rattle.std.specs.List.{AllByRecursion}
use Rattle.c_tree.specs.declared.token.Pos.{Pos}
use Rattle.c_tree.specs.declared.token.Punct.{Punct}
use Rattle.c_tree.specs.declared.expression.Identifier.{Identifier}
use Rattle.c_tree.specs.declared.expression.Mark.{Mark}
use Rattle.c_tree.specs.declared.refusal.FaultKind.TheVariants as kind
use Rattle.c_tree.specs.declared.typed.types.Base.{Base}
use Rattle.c_tree.specs.declared.typed.types.Base.TheVariants as base
use Rattle.c_tree.specs.declared.typed.types.CType.{CType, out-CType}
use Rattle.c_tree.specs.declared.typed.operator.Scalar.{Scalar}
use Rattle.c_tree.specs.declared.typed.operator.Arithmetic.{Arithmetic}
use Rattle.c_tree.specs.declared.typed.operator.Given.{Given}
use Rattle.c_tree.specs.declared.typed.expression.TExpr.{TExpr}
use Rattle.c_layout.specs.declared.tags.MemberLayout.{MemberLayout}
use Rattle.c_layout.specs.Sizes.{size_of}
use Rattle.c_layout.specs.Structures.{member_of}
use Rattle.c_typing.specs.declared.scope.Meaning.{Meaning}
use Rattle.c_typing.specs.declared.scope.Meaning.TheVariants.{TypedefOf, EnumeratorOf, Automatic, Static, Linked, Unknown}
use Rattle.c_typing.specs.declared.scope.State.{State}
use Rattle.c_typing.specs.declared.operand.Operand.{Operand}
use Rattle.c_typing.specs.declared.operator.Plan.{Plan}
use Rattle.c_typing.specs.declared.operator.Row.{Row}
use Rattle.c_typing.specs.declared.operator.Row.TheVariants.{Other, Wrong, Planned}
use Rattle.c_typing.specs.Types.{int, Shape, Basic, PointerTo, ArrayOf, FunctionOf, shape, is_struct, is_constant}
use Rattle.c_typing.specs.Conversions.{scalar_of}
use Rattle.c_typing.specs.Operands.{number, valued, target_of}
use Rattle.c_typing.specs.Operators.{binary, contained, chosen}
use Rattle.c_typing.specs.Scopes.{Name, Walk, unasked, here, beside, fault_if, asked, both_asked, meaning_of, number_in}
use Rattle.c_typing.specs.Expressions as typing
use Rattle.c_typing.specs.Expressions.{Argument, Chain, Assigned}
use Rattle.c_typing_laws.specs.Scopes.{AreKnown, IfGiven, IfMeant, Answers, Any, gives, tells, offers, follows, asks, both, chain, besides, passes, either, sees, unready, meaning_known, not_told, pair, walks}

-- ---- names, constants and sizes

linked_object : (id : Identifier) (t : CType) (o : Option ℕ) → Answers Any (typing.linked_object id t o)
linked_object id t (Some n) = search walks
linked_object id t None = search walks

meant : (id : Identifier) (o : Option Meaning) → IfMeant o → Answers Any (typing.meant id o)
meant id None h = search walks
meant id (Some (EnumeratorOf n)) h = search walks
meant id (Some (Automatic t place n r)) h = search walks
meant id (Some (Static t n)) h = search walks
meant id (Some (Linked t)) h = search (walks, linked_object)
meant id (Some (TypedefOf t)) h = search walks
meant id (Some Unknown) h = absurd h

pub name_row : (id : Identifier) → Answers Any (typing.name_row id)
name_row id = sees (λ c s. typing.meant id (meaning_of s id.text)) (λ c s k. meant id (meaning_of s id.text) (meaning_known s id.text k))

pub string_row : (at : Pos) (bytes : List ℕ) → Answers Any (typing.string_row at bytes)
string_row at bytes = search walks

size_if : (at : Pos) (o : Option ℕ) → Answers Any (typing.size_if at o)
size_if at None = search walks
size_if at (Some n) = search walks

pub size_row : (at : Pos) (t : CType) → Answers Any (typing.size_row at t)
size_row at t = sees (λ c s. typing.size_if at (size_of s.structs t)) (λ c s k. size_if at (size_of s.structs t))

-- ---- unary operators

place_if : (at : Pos) (t : CType) (o : Operand) (n : Option ℕ) → Answers Any (typing.place_if at t o n)
place_if at t o None = search walks
place_if at t o (Some n) = search walks

reached : (at : Pos) (o : Operand) (t : Option CType) → Answers Any (typing.reached at o t)
reached at o None = search walks
reached at o (Some t) = sees (λ c s. typing.place_if at t o (size_of s.structs t)) (λ c s k. place_if at t o (size_of s.structs t))

pub indirection_row : (at : Pos) (o : Operand) → Answers Any (typing.indirection_row at o)
indirection_row at o = reached at (valued o) (target_of (valued o).ctype)

address_taken : (o : Option ℕ) (s : State) → AreKnown s → AreKnown (typing.address_taken o s)
address_taken None s k = k
address_taken (Some n) s k = k

pub address_row : (at : Pos) (o : Operand) → Answers Any (typing.address_row at o)
address_row at o = search (walks, address_taken)

pub promoted_row : (f : Operand → Operand) (at : Pos) (o : Operand) → Answers Any (typing.promoted_row f at o)
promoted_row f at o = search walks

pub not_row : (at : Pos) (o : Operand) → Answers Any (typing.not_row at o)
not_row at o = search walks

-- ---- what may be written

target_row : (at : Pos) (o : Operand) → Answers Any (typing.target_row at o)
target_row at o = search walks

increment_if : (at : Pos) (g : Given) (o : Operand) (k : Option Scalar) (plan : Plan) → Answers Any (typing.increment_if at g o k plan)
increment_if at g o None plan = search walks
increment_if at g o (Some k) plan = search walks

increment_by : (at : Pos) (g : Given) (o : Operand) (r : Row) → Answers Any (typing.increment_by at g o r)
increment_by at g o (Planned plan) = increment_if at g o (scalar_of o.ctype) plan
increment_by at g o (Wrong k) = search walks
increment_by at g o Other = search walks

pub increment_row : (m : Mark) (g : Given) (o : Operand) → Answers Any (typing.increment_row m g o)
increment_row m g o =
    chain (target_row m.place o) (λ o h. sees (λ c s. typing.increment_by m.place g o (typing.contained_row s.structs (contained m.punct) (valued o) (number int 1)))
    (λ c s k. increment_by m.place g o (typing.contained_row s.structs (contained m.punct) (valued o) (number int 1))))

pub cast_row : (at : Pos) (t : CType) (o : Operand) → Answers Any (typing.cast_row at t o)
cast_row at t o = search walks

-- ---- binary operators

by_row : (at : Pos) (l r : Operand) (row : Row) → Answers Any (typing.by_row at l r row)
by_row at l r (Planned plan) = search walks
by_row at l r (Wrong k) = search walks
by_row at l r Other = search walks

pub binary_row : (m : Mark) (l r : Operand) → Answers Any (typing.binary_row m l r)
binary_row m l r = sees (λ c s. typing.by_row m.place (valued l) (valued r) (binary s.structs m.punct (valued l) (valued r))) (λ c s k. by_row m.place (valued l) (valued r) _)

pub truth_row : (at : Pos) (o : Operand) → Answers Any (typing.truth_row at o)
truth_row at o = search walks

index_by : (at : Pos) (l r : Operand) (row : Row) → Answers Any (typing.index_by at l r row)
index_by at l r (Planned plan) = reached at (typing.planned plan l r) (target_of plan.result)
index_by at l r (Wrong k) = search walks
index_by at l r Other = search walks

pub index_row : (at : Pos) (l r : Operand) → Answers Any (typing.index_row at l r)
index_row at l r = search (walks, index_by)

-- ---- members

member_if : (name : Identifier) (k : Bool) (o : Operand) (m : Option MemberLayout) → Answers Any (typing.member_if name k o m)
member_if name k o None = search walks
member_if name k o (Some m) = search walks

member_of_base : (name : Identifier) (at : Pos) (t : CType) (o : Operand) (b : Base) → Answers Any (typing.member_of_base name at t o b)
member_of_base name at t o (base.Struct n) = sees (λ c s. typing.member_if name (is_constant t) o (member_of s.structs n name.text)) (λ c s k. member_if name (is_constant t) o _)
member_of_base name at t o _ = search walks

member_of_type : (name : Identifier) (at : Pos) (t : CType) (o : Operand) → Answers Any (typing.member_of_type name at t o)
member_of_type name at t o = either (is_struct t) (λ e. member_of_base name at t o (out-CType t).base) (λ e. tells kind.Mismatch at)

pub member_row : (name : Identifier) (at : Pos) (o : Operand) → Answers Any (typing.member_row name at o)
member_row name at o = chain (member_of_type name at o.ctype o) (λ m h. gives _ tt)

arrow_if : (name : Identifier) (at : Pos) (o : Operand) (t : Option CType) → Answers Any (typing.arrow_if name at o t)
arrow_if name at o None = search walks
arrow_if name at o (Some t) = member_of_type name at t o

pub arrow_row : (name : Identifier) (at : Pos) (o : Operand) → Answers Any (typing.arrow_row name at o)
arrow_row name at o = arrow_if name at (valued o) (target_of (valued o).ctype)

-- ---- values given to objects

pub given_row : (at : Pos) (t : CType) (o : Operand) → Answers Any (typing.given_row at t o)
given_row at t o = search walks

-- ---- calls

-- an argument that is given
abbrev pub IsGivenArgument : Argument → Type 0
IsGivenArgument a = IfGiven Any a.1

arguments_row : (args : List Argument) (ts : List CType) → AllByRecursion IsGivenArgument args → Answers Any (typing.arguments_row args ts)
arguments_row (a ∷ args) (t ∷ ts) h = pair (asks a.1 h.0 (λ o g. given_row a.0 t o)) (arguments_row args ts h.1) (λ e es g h. gives (e ∷ es) tt)
arguments_row [] ts h = search walks
arguments_row (a ∷ args) [] h = search walks

library_call : (name : Name) (args : List TExpr) → IfGiven Any (typing.library_call name args)
library_call name [] = tt
library_call name (a ∷ args) = tt

call_made : (id : Identifier) (t : CType) (args : List TExpr) (o : Option ℕ) → Answers Any (typing.call_made id t args o)
call_made id t args (Some f) = search walks
call_made id t args None = either (typing.is_library id.text) (λ e. offers _ (library_call id.text args)) (λ e. gives _ tt)

sure : {A : Type 0} {P : A → Type 0} {v : Walk A} (w : Walk A) (b : Bool) → not b ≡ false → Answers P v → Answers P (if b then v else w)
sure w true h q = q
sure w false h q = absurd (let e : true ≡ false = h in cc)

call_with : (id : Identifier) (t : CType) (es : Option (List TExpr)) → IfGiven Any es
    → Answers Any (asked es (λ es. here (λ c s. typing.call_made id t es (number_in 0 c.functions id.text))))
call_with id t (Some es) h = search (walks, call_made)
call_with id t None h = absurd h

function_call : (id : Identifier) (at : Pos) (args : List Argument) (ts : List CType) (t : CType) → AllByRecursion IsGivenArgument args
    → Answers Any (typing.function_call id at args ts t)
function_call id at args ts t h =
    besides (fault_if (not (typing.same_length args ts)) kind.BadCall at) (λ e.
    unready (is_struct t) kind.StructValue at
    (follows (λ es. if typing.same_length args ts then asked es (λ es. here (λ c s. typing.call_made id t es (number_in 0 c.functions id.text))) else unasked)
    (arguments_row args ts h)
    (λ es g. sure unasked (typing.same_length args ts) (not_told _ kind.BadCall at e) (call_with id t es g))))

linked_call : (id : Identifier) (at : Pos) (args : List Argument) (u : Shape) → AllByRecursion IsGivenArgument args → Answers Any (typing.linked_call id at args u)
linked_call id at args (FunctionOf ts t) h =
    sees (λ c s. beside (typing.no_body id (number_in 0 c.functions id.text)) (typing.function_call id at args ts t))
    (λ c s k. besides (typing.no_body id (number_in 0 c.functions id.text)) (λ e. function_call id at args ts t h))
linked_call id at args (Basic b) h = search (walks, besides)
linked_call id at args (PointerTo c u) h = search (walks, besides)
linked_call id at args (ArrayOf n u) h = search (walks, besides)

called : (id : Identifier) (at : Pos) (args : List Argument) (m : Option Meaning) → IfMeant m → AllByRecursion IsGivenArgument args → Answers Any (typing.called id at args m)
called id at args None m h = search walks
called id at args (Some (Linked t)) m h = linked_call id at args (shape t) h
called id at args (Some Unknown) m h = absurd m
called id at args (Some (TypedefOf t)) m h = search walks
called id at args (Some (EnumeratorOf n)) m h = search walks
called id at args (Some (Automatic t place n r)) m h = search walks
called id at args (Some (Static t n)) m h = search walks

pub call_row : (id : Identifier) (at : Pos) (args : List Argument) → AllByRecursion IsGivenArgument args → Answers Any (typing.call_row id at args)
call_row id at args h =
    sees (λ c s. typing.called id at args (meaning_of s id.text))
    (λ c s k. called id at args (meaning_of s id.text) (meaning_known s id.text k) h)

-- ---- `? :`

chosen_if : (at : Pos) (condition gives : Operand) (rest : Chain) (t : Option CType) → Answers Any (typing.chosen_if at condition gives rest t)
chosen_if at condition gives rest None = search walks
chosen_if at condition gives rest (Some t) = search walks

pub conditional_row : (at : Pos) (condition gives : Option Operand) (rest : Option Chain) → IfGiven Any condition → IfGiven Any gives → IfGiven Any rest
    → Answers Any (typing.conditional_row at condition gives rest)
conditional_row at (Some condition) (Some gives) (Some rest) a b c =
    chain (truth_row at condition) (λ k h. chosen_if at k (valued gives) rest (chosen (valued gives) rest.whole))
conditional_row at (Some condition) (Some gives) None a b c = absurd c
conditional_row at (Some condition) None rest a b c = absurd b
conditional_row at None gives rest a b c = absurd a

-- ---- assignment

assign_if : (at : Pos) (left : Operand) (o : Option Arithmetic) (u : Option CType) (result : Operand) (right : Assigned) (k : Option Scalar)
    → Answers Any (typing.assign_if at left o u result right k)
assign_if at left o u result right None = search walks
assign_if at left o u result right (Some k) = search walks

compound_by : (at : Pos) (left : Operand) (right : Assigned) (row : Row) → Answers Any (typing.compound_by at left right row)
compound_by at left right (Planned plan) = assign_if at left (Some plan.operator) (Some plan.right) _ right (scalar_of left.ctype)
compound_by at left right (Wrong k) = search walks
compound_by at left right Other = search walks

assign_by : (at : Pos) (q : Option Punct) (left : Operand) (right : Assigned) → Answers Any (typing.assign_by at q left right)
assign_by at None left right = passes (typing.is_struct_given left.ctype right.whole) kind.StructValue at (λ e. assign_if at left None None right.whole right (scalar_of left.ctype))
assign_by at (Some q) left right = search (walks, compound_by)

pub assign_row : (m : Mark) (left : Option Operand) (right : Option Assigned) → IfGiven Any left → IfGiven Any right → Answers Any (typing.assign_row m left right)
assign_row m left right g h =
    follows (λ left. both_asked left right (typing.assign_by m.place (contained m.punct))) (asks left g (λ o k. target_row m.place o))
    (λ left g. both left right g h (λ l r a b. assign_by m.place (contained m.punct) l r))
