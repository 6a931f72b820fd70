-- The rows of expressions: what each operator says of its operands, and the typed tree that it makes (C11 6.5).
use Rattle.std.specs.Prelude.{ℕ, ◌+◌, ◌==◌, nat_lt, Bool, true, false, ◌&&◌, ◌||◌, not, if◌then◌else◌, List, [], ◌∷◌, ◌++◌, Option, Some, None, length, map, is_none, slice_get, unwrap_or, codes}
use Rattle.std.specs.Str.{bytes_eq}
use Rattle.c_tree.specs.declared.token.Pos.{Pos}
use Rattle.c_tree.specs.declared.token.Punct.{Punct}
use Rattle.c_tree.specs.declared.expression.Identifier.{Identifier}
use Rattle.c_tree.specs.declared.expression.Mark.{Mark}
use Rattle.c_tree.specs.declared.refusal.FaultKind.TheVariants as kind
use Rattle.c_tree.specs.declared.typed.types.Base.{Base}
use Rattle.c_tree.specs.declared.typed.types.Base.TheVariants as base
use Rattle.c_tree.specs.declared.typed.types.Derived.{Derived}
use Rattle.c_tree.specs.declared.typed.types.Derived.TheVariants as derived
use Rattle.c_tree.specs.declared.typed.types.CType.{CType, out-CType}
use Rattle.c_tree.specs.declared.typed.operator.Scalar.{Scalar}
use Rattle.c_tree.specs.declared.typed.operator.Arithmetic.{Arithmetic}
use Rattle.c_tree.specs.declared.typed.operator.Given.{Given}
use Rattle.c_tree.specs.declared.typed.operator.Increment.{Increment}
use Rattle.c_tree.specs.declared.typed.operator.Primary.TheVariants as primary
use Rattle.c_tree.specs.declared.typed.operator.Conversion.TheVariants as conversion
use Rattle.c_tree.specs.declared.typed.operator.Unary.TheVariants as unary
use Rattle.c_tree.specs.declared.typed.expression.TExpr.{TExpr}
use Rattle.c_tree.specs.declared.typed.expression.TExpr.TheVariants as x
use Rattle.c_tree.specs.declared.typed.expression.Step.TheVariants as step
use Rattle.c_tree.specs.declared.typed.expression.Arm.{roll-Arm}
use Rattle.c_tree.specs.declared.typed.expression.Target.{Target}
use Rattle.c_tree.specs.declared.typed.expression.Target.TheVariants as target
use Rattle.c_tree.specs.declared.typed.unit.StaticObject.{StaticObject}
use Rattle.c_tree.specs.declared.typed.unit.StaticPart.{StaticPart}
use Rattle.c_tree.specs.declared.typed.unit.StaticPart.TheVariants as part
use Rattle.c_layout.specs.declared.tags.MemberLayout.{MemberLayout}
use Rattle.c_layout.specs.Tags.{Structs}
use Rattle.c_layout.specs.Sizes.{size_of}
use Rattle.c_layout.specs.Structures.{member_of}
use Rattle.c_typing.specs.Faults.{Fault, fault}
use Rattle.c_typing.specs.Types.{in_word, most_bytes, int, unsigned, void, plain, pointer_to, derived_from, constant_if, Shape, FunctionOf, shape, is_integer, is_pointer, is_void, is_struct, is_bool, is_scalar, is_array, is_function, is_constant, unqualified, alike}
use Rattle.c_typing.specs.Conversions.{scalar_of}
use Rattle.c_typing.specs.Scopes.{Name, Meaning, TypedefOf, EnumeratorOf, Automatic, Static, Linked, Unknown, State, Walk, give, unasked, tell, offer, ◌>>=◌, asked, both_asked, beside, fault_if, unless, unready_if, here, change, meaning_of, number_in}
use Rattle.c_typing.specs.Operands.{Operand, Form, Value, Place, Named, tree_of, operand, value, number, then_step, then_unary, is_lvalue, in_register, numbered, as_form, valued, dropping, is_null_constant, converted, conversion_to, target_of, is_assignable}
use Rattle.c_typing.specs.Operators.{Plan, Row, Other, Wrong, Planned, promoted_type, promoted_sign, pointer_and_integer, integer_and_pointer, plus_stride, stride_plus, first_row, binary, contained, chosen}

-- ---- names (6.5.1)

-- an object with linkage; where the unit does not define it there is no body
abbrev pub linked_object : Identifier → CType → Option ℕ → Walk Operand
linked_object id t (Some n) = give (operand Place t (x.Primary t (primary.Static n)))
linked_object id t None = beside (fault kind.NoBody id.place ∷ []) (give (operand Place t (x.Primary t (primary.Static 0))))

abbrev pub meant : Identifier → Option Meaning → Walk Operand
meant id None = tell kind.Undeclared id.place
meant id (Some (EnumeratorOf n)) = give (number int n)
meant id (Some (Automatic t place n r)) = give (operand (Named place n r) t (x.Primary t (primary.Address place)))
meant id (Some (Static t n)) = give (operand Place t (x.Primary t (primary.Static n)))
meant id (Some (Linked t)) =
    unless (is_function t) kind.FunctionUse id.place (here (λ c s. linked_object id t (number_in 0 c.objects id.text)))
-- the name of a type is none of an object (p2); no primary of a levelled tree is one
meant id (Some (TypedefOf t)) = tell kind.Undeclared id.place
meant id (Some Unknown) = unasked

abbrev pub name_row : Identifier → Walk Operand
name_row id = here (λ c s. meant id (meaning_of s id.text))

-- ---- constants (6.5.1, 6.4.5p6)

abbrev pub string_type : List ℕ → CType
string_type bytes = derived_from (plain base.Char) (derived.Array (Some (length bytes + 1)))

abbrev pub bytes_at : ℕ → List ℕ → List StaticPart
bytes_at n [] = []
bytes_at n (b ∷ bs) = part.Bytes n (b ∷ bs) ∷ []

-- the object of a string literal
abbrev pub string_object : List ℕ → StaticObject
string_object bytes = record {
  object = record { ctype = string_type bytes; scalar = None; size = length bytes + 1; alignment = 1; constant = true; addressed = true };
  parts = bytes_at 0 bytes;
}

abbrev pub string_row : Pos → List ℕ → Walk Operand
string_row at bytes = unless (nat_lt most_bytes (length bytes + 1)) kind.TooLarge at (here (λ c s.
    change (λ s. record s { statics = s.statics ++ string_object bytes ∷ [] })
    (give (operand Place (string_type bytes) (x.Primary (string_type bytes) (primary.Static (length c.objects + length s.statics)))))))

-- ---- sizes (6.5.3.4)

abbrev pub size_if : Pos → Option ℕ → Walk Operand
size_if at None = tell kind.Incomplete at
size_if at (Some n) = unless (nat_lt most_bytes n) kind.TooLarge at (give (number unsigned n))

abbrev pub size_row : Pos → CType → Walk Operand
size_row at t = here (λ c s. size_if at (size_of s.structs t))

-- ---- unary operators (6.5.3)

-- the lvalue of a type that an address leads to
abbrev pub place_if : Pos → CType → Operand → Option ℕ → Walk Operand
place_if at t o None = tell kind.Incomplete at
place_if at t o (Some n) = give (as_form Place t o)

abbrev pub reached : Pos → Operand → Option CType → Walk Operand
reached at o None = tell kind.Mismatch at
reached at o (Some t) = here (λ c s. place_if at t o (size_of s.structs t))

-- `*` (6.5.3.2p2, p4)
abbrev pub indirection_row : Pos → Operand → Walk Operand
indirection_row at o = reached at (valued o) (target_of o'.ctype)
  where
    o' : Operand
    o' = valued o

abbrev pub address_taken : Option ℕ → State → State
address_taken None s = s
address_taken (Some n) s = record s { addressed = s.addressed ++ n ∷ [] }

-- `&` (6.5.3.2p1, p3)
abbrev pub address_row : Pos → Operand → Walk Operand
address_row at o =
    unless (not (is_lvalue o) || in_register o) kind.NotLvalue at
    (change (address_taken (numbered o)) (give (as_form Value (pointer_to false o.ctype) o)))

-- `+`, `-` and `~` on an integer, which is promoted (6.5.3.3p1 to p4)
abbrev pub promoted_row : (Operand → Operand) → Pos → Operand → Walk Operand
promoted_row f at o = unless (not (is_integer o.ctype)) kind.Mismatch at (give (f (converted (promoted_type o.ctype) o)))

abbrev pub negated : Operand → Operand
negated o = then_unary Value o.ctype (unary.Negate (promoted_sign o.ctype)) o

abbrev pub complemented : Operand → Operand
complemented o = then_unary Value o.ctype unary.Complement o

-- `!` (6.5.3.3p5)
abbrev pub not_row : Pos → Operand → Walk Operand
not_row at o = unless (not (is_scalar o.ctype)) kind.Mismatch at (give (then_unary Value int unary.Not o))

-- ---- what may be written (6.3.2.1p1, 6.5.16p2)

-- a structure or arrays of it
abbrev pub only_arrays : List Derived → Bool
only_arrays [] = true
only_arrays (derived.Array n ∷ ds) = only_arrays ds
only_arrays (d ∷ ds) = false

-- of each structure it is known whether a member of it is `const`, or has a member or an element that is
abbrev pub is_fixed_base : (fixed : List Bool) → Base → Bool
is_fixed_base fixed (base.Struct n) = unwrap_or (slice_get fixed n) false
is_fixed_base fixed b = false

abbrev pub is_read_only : (fixed : List Bool) → CType → Bool
is_read_only fixed t = is_constant t || (only_arrays (out-CType t).derived && is_fixed_base fixed (out-CType t).base)

-- the left of an assignment, or the operand of `++` or `--`: an lvalue and no array, which would decay, and not const
abbrev pub target_row : Pos → Operand → Walk Operand
target_row at o =
    unless (not (is_lvalue o) || is_array o.ctype) kind.NotLvalue at
    (here (λ c s. unless (is_read_only s.fixed o.ctype) kind.ConstWrite at (give o)))

-- ---- `++` and `--` (6.5.2.4, 6.5.3.1)

abbrev pub incremented : Form → CType → Increment → Operand → Operand
incremented (Named place n r) t i o = value t (x.Primary t (primary.Increment place i))
incremented f t i o = then_unary Value t (unary.Increment i) o

abbrev pub increment_if : Pos → Given → Operand → Option Scalar → Plan → Walk Operand
increment_if at g o None plan = tell kind.Mismatch at
increment_if at g o (Some k) plan =
    unless (not (is_assignable (unqualified o.ctype) (record (valued o) { ctype = plan.result }))) kind.Mismatch at
    (give (incremented o.form (unqualified o.ctype) (record { scalar = k; operator = plan.operator; conversion = conversion_to o.ctype; given = g }) o))

abbrev pub increment_by : Pos → Given → Operand → Row → Walk Operand
increment_by at g o (Planned plan) = increment_if at g o (scalar_of o.ctype) plan
increment_by at g o (Wrong k) = tell k at
increment_by at g o Other = tell kind.Mismatch at

abbrev pub contained_row : Structs → Option Punct → Operand → Operand → Row
contained_row structs (Some q) l r = binary structs q l r
contained_row structs None l r = Wrong kind.Mismatch

abbrev pub increment_row : Mark → Given → Operand → Walk Operand
increment_row m g o = target_row m.place o >>= λ left. asked left (λ o.
    here (λ c s. increment_by m.place g o (contained_row s.structs (contained m.punct) (valued o) (number int 1))))

-- ---- casts (6.5.4)

abbrev pub casts : CType → Operand → Bool
casts t o =
    (is_integer t && is_integer o.ctype) || ((is_pointer t && (is_pointer o.ctype || is_null_constant o)) || (is_bool t && is_pointer o.ctype))

-- the value of a cast: a pointer that is cast to a pointer is no null pointer constant, which is cast once (6.3.2.3p3)
abbrev pub cast_to : CType → Operand → Operand
cast_to t o =
    if is_pointer t && is_pointer o.ctype then then_unary Value t (unary.Convert conversion.Pointer) o else converted t o

abbrev pub cast_row : Pos → CType → Operand → Walk Operand
cast_row at t o =
    if is_void t then give (dropping o)
    else unless (not (casts t (valued o))) kind.Mismatch at (give (cast_to (unqualified t) (valued o)))

-- ---- binary operators (6.5.5 to 6.5.14)

abbrev pub planned : Plan → Operand → Operand → Operand
planned plan l r = then_step Value plan.result (step.Binary plan.operator (tree_of (converted plan.right r))) (converted plan.left l)

abbrev pub by_row : Pos → Operand → Operand → Row → Walk Operand
by_row at l r (Planned plan) = give (planned plan l r)
by_row at l r (Wrong k) = tell k at
by_row at l r Other = tell kind.Mismatch at

abbrev pub binary_row : Mark → Operand → Operand → Walk Operand
binary_row m l r = here (λ c s. by_row m.place (valued l) (valued r) (binary s.structs m.punct (valued l) (valued r)))

-- an operand that is true or false
abbrev pub truth_row : Pos → Operand → Walk Operand
truth_row at o = unless (not (is_scalar v.ctype)) kind.Mismatch at (give v)
  where
    v : Operand
    v = valued o

-- `a[i]` is `*(a + i)` (6.5.2.1p2)
abbrev pub index_by : Pos → Operand → Operand → Row → Walk Operand
index_by at l r (Planned plan) = reached at (planned plan l r) (target_of plan.result)
index_by at l r (Wrong k) = tell k at
index_by at l r Other = tell kind.Mismatch at

abbrev pub index_row : Pos → Operand → Operand → Walk Operand
index_row at l r = here (λ c s. index_by at (valued l) (valued r)
    (first_row (pointer_and_integer s.structs plus_stride ∷ integer_and_pointer s.structs stride_plus ∷ []) (valued l) (valued r)))

-- ---- members (6.5.2.3)

abbrev pub member_if : Identifier → (constant : Bool) → Operand → Option MemberLayout → Walk Operand
member_if name k o None = tell kind.Undeclared name.place
member_if name k o (Some m) = give (then_unary Place (constant_if k m.ctype) (unary.Member (in_word m.offset)) o)

abbrev pub member_of_base : Identifier → Pos → CType → Operand → Base → Walk Operand
member_of_base name at t o (base.Struct n) = here (λ c s. member_if name (is_constant t) o (member_of s.structs n name.text))
member_of_base name at t o b = tell kind.Mismatch at

-- a member of a structure of this type at the operand
abbrev pub member_of_type : Identifier → Pos → CType → Operand → Walk Operand
member_of_type name at t o = if is_struct t then member_of_base name at t o (out-CType t).base else tell kind.Mismatch at

-- `.`: the member of an lvalue is one; that of another value is read
abbrev pub member_row : Identifier → Pos → Operand → Walk Operand
member_row name at o = member_of_type name at o.ctype o >>= λ m. asked m (λ m. give (if is_lvalue o then m else valued m))

abbrev pub arrow_if : Identifier → Pos → Operand → Option CType → Walk Operand
arrow_if name at o None = tell kind.Mismatch at
arrow_if name at o (Some t) = member_of_type name at t o

-- `->`
abbrev pub arrow_row : Identifier → Pos → Operand → Walk Operand
arrow_row name at o = arrow_if name at (valued o) (target_of (valued o).ctype)

-- ---- values given to objects: initialisers, arguments, `return` (6.5.16.1p1)

-- an object of structure type gets a value of the same one, which this profile does not give yet
abbrev pub is_struct_given : CType → Operand → Bool
is_struct_given t o = is_struct t && alike t o.ctype

abbrev pub given_row : Pos → CType → Operand → Walk TExpr
given_row at t o =
    unless (is_struct_given t (valued o)) kind.StructValue at
    (unless (not (is_assignable t (valued o))) kind.Mismatch at (give (tree_of (converted (unqualified t) (valued o)))))

-- ---- calls (6.5.2.2)

-- an argument: its first token, and what it is
abbrev pub Argument : Type 0
Argument = Pos × Option Operand

abbrev pub arguments_row : List Argument → List CType → Walk (List TExpr)
arguments_row (a ∷ args) (t ∷ ts) =
    asked a.1 (given_row a.0 t) >>= λ one. arguments_row args ts >>= λ rest. both_asked one rest (λ e es. give (e ∷ es))
arguments_row _ _ = give []

abbrev pub same_length : List Argument → List CType → Bool
same_length args ts = length args == length ts

-- a call of a function of the unit
abbrev pub call_of : (value : CType) → ℕ → List TExpr → Operand
call_of t f args = if is_void t then value void (x.DroppedCall void f args) else value (unqualified t) (x.Call (unqualified t) f args)

-- the library (7.21.7.6, 7.21.7.8, 7.22.4.4)
abbrev pub getchar : Name
getchar = codes "getchar"

abbrev pub putchar : Name
putchar = codes "putchar"

abbrev pub exit : Name
exit = codes "exit"

abbrev pub is_library : Name → Bool
is_library name = bytes_eq name getchar || (bytes_eq name putchar || bytes_eq name exit)

abbrev pub library_call : Name → List TExpr → Option Operand
library_call name [] = Some (value int (x.GetChar int))
library_call name (a ∷ rest) = Some (if bytes_eq name putchar then value int (x.PutChar int a) else value void (x.Exit void a))

abbrev pub call_made : Identifier → CType → List TExpr → Option ℕ → Walk Operand
call_made id t args (Some f) = give (call_of t f args)
call_made id t args None = if is_library id.text then offer (library_call id.text args) else give (call_of t 0 args)

-- arguments of the wrong number are asked as far as there are parameters
abbrev pub function_call : Identifier → Pos → List Argument → List CType → CType → Walk Operand
function_call id at args ts t =
    beside (fault_if (not (same_length args ts)) kind.BadCall at)
    (unready_if (is_struct t) kind.StructValue at
    (arguments_row args ts >>= λ es.
    (if same_length args ts then asked es (λ es. here (λ c s. call_made id t es (number_in 0 c.functions id.text))) else unasked)))

-- a name with linkage of which the unit has no definition (6.9p5); those of the library have theirs elsewhere
abbrev pub no_body : Identifier → Option ℕ → List Fault
no_body id definition = fault_if (is_none definition && not (is_library id.text)) kind.NoBody id.place

abbrev pub linked_call : Identifier → Pos → List Argument → Shape → Walk Operand
linked_call id at args (FunctionOf ts t) =
    here (λ c s. beside (no_body id (number_in 0 c.functions id.text)) (function_call id at args ts t))
linked_call id at args s = here (λ c s. beside (no_body id (number_in 0 c.objects id.text)) (tell kind.BadCall at))

abbrev pub called : Identifier → Pos → List Argument → Option Meaning → Walk Operand
called id at args None = tell kind.Undeclared id.place
called id at args (Some (Linked t)) = linked_call id at args (shape t)
called id at args (Some Unknown) = unasked
called id at args (Some m) = tell kind.BadCall at

abbrev pub call_row : Identifier → Pos → List Argument → Walk Operand
call_row id at args = here (λ c s. called id at args (meaning_of s id.text))

-- ---- `? :` (6.5.15)

-- the last operand of a chain and the conditions before it, each with what is chosen where it holds
pub record Chain : Type 0 where
  pub whole : Operand
  pub arms : List (Operand × Operand)
  pub last : Operand

abbrev pub chosen_as : CType → Operand → TExpr
chosen_as t o = if is_void t then tree_of (dropping o) else tree_of (converted t o)

abbrev pub choose : CType → List (Operand × Operand) → Operand → TExpr
choose t arms last = x.Choose t (map (λ a. roll-Arm (record { condition = tree_of a.0; chosen = chosen_as t a.1 })) arms) (chosen_as t last)

-- a chain that is a null pointer constant gives way as a whole
abbrev pub lengthened : CType → Operand → Operand → Chain → Chain
lengthened t condition gives rest =
    if is_pointer t && is_null_constant rest.whole
    then record { whole = value t (choose t ((condition, gives) ∷ []) rest.whole); arms = (condition, gives) ∷ []; last = rest.whole }
    else record { whole = value t (choose t ((condition, gives) ∷ rest.arms) rest.last); arms = (condition, gives) ∷ rest.arms; last = rest.last }

abbrev pub chosen_if : Pos → Operand → Operand → Chain → Option CType → Walk Chain
chosen_if at condition gives rest None = tell kind.Mismatch at
chosen_if at condition gives rest (Some t) = give (lengthened t condition gives rest)

abbrev pub conditional_row : Pos → Option Operand → Option Operand → Option Chain → Walk Chain
conditional_row at (Some condition) (Some gives) (Some rest) =
    truth_row at condition >>= λ k. asked k (λ k. chosen_if at k (valued gives) rest (chosen (valued gives) rest.whole))
conditional_row at (Some condition) gives rest = truth_row at condition >>= λ k. unasked
conditional_row at None gives rest = unasked

-- ---- assignment (6.5.16)

-- left sides that are passed, and the value at the right end; the type of the value that they give
pub record Assigned : Type 0 where
  pub whole : Operand
  pub targets : List Target
  pub last : TExpr

abbrev pub target_of_form : Form → Scalar → CType → Option Arithmetic → Operand → Target
target_of_form (Named place n r) k t o left = target.Variable place (record { scalar = k; operator = o; conversion = conversion_to t })
target_of_form f k t o left = target.Place (tree_of left) (record { scalar = k; operator = o; conversion = conversion_to t })

-- the value at the right end, where nothing was assigned to its right: as an operand of the operator, or a null pointer
abbrev pub last_as : Option CType → CType → Assigned → TExpr
last_as (Some u) t right = elim right.targets as (λ ts. TExpr) [ [] ↦ tree_of (converted u right.whole) | a ∷ rest ↦ right.last ]
last_as None t right =
    elim right.targets as (λ ts. TExpr) [
      | [] ↦ (if is_pointer t && is_null_constant right.whole then tree_of (converted t right.whole) else tree_of right.whole)
      | a ∷ rest ↦ right.last
    ]

abbrev pub assigned_to : Operand → Scalar → Option Arithmetic → Option CType → Assigned → Assigned
assigned_to left k o u right =
    let t = unqualified left.ctype in
    let targets = target_of_form left.form k t o left ∷ right.targets in
    let last = last_as u t right in
    record { whole = value t (x.Assign t targets last); targets = targets; last = last }

abbrev pub assign_if : Pos → Operand → Option Arithmetic → Option CType → Operand → Assigned → Option Scalar → Walk Assigned
assign_if at left o u result right None = tell kind.Mismatch at
assign_if at left o u result right (Some k) =
    unless (not (is_assignable (unqualified left.ctype) result)) kind.Mismatch at (give (assigned_to left k o u right))

abbrev pub compound_by : Pos → Operand → Assigned → Row → Walk Assigned
compound_by at left right (Planned plan) =
    assign_if at left (Some plan.operator) (Some plan.right) (record (valued left) { ctype = plan.result }) right (scalar_of left.ctype)
compound_by at left right (Wrong k) = tell k at
compound_by at left right Other = tell kind.Mismatch at

abbrev pub assign_by : Pos → Option Punct → Operand → Assigned → Walk Assigned
assign_by at None left right =
    unless (is_struct_given left.ctype right.whole) kind.StructValue at
    (assign_if at left None None right.whole right (scalar_of left.ctype))
assign_by at (Some q) left right = here (λ c s. compound_by at left right (binary s.structs q (valued left) right.whole))

abbrev pub assign_row : Mark → Option Operand → Option Assigned → Walk Assigned
assign_row m left right =
    asked left (target_row m.place) >>= λ left. both_asked left right (assign_by m.place (contained m.punct))
