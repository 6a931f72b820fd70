-- What the parts of an initialiser come to: values for an automatic object, bytes and addresses for a static one (C11 6.6p7, p9,
-- 6.7.9p4, p10, p11).
use Rattle.std.specs.Prelude.{ℕ, zero, suc, ◌+◌, ◌*◌, ◌-◌, ◌/◌, ◌%◌, ◌^◌, ◌==◌, nat_lt, nat_le, Bool, true, false, ◌&&◌, ◌||◌, not, if◌then◌else◌, List, [], ◌∷◌, ◌++◌, Option, Some, None, length, slice_get, is_some, unwrap_or}
use Rattle.std.specs.List.{list_all}
use Rattle.std.specs.Option.{option_map, option_and_then}
use Rattle.word_ops.specs.Access.{bytes_of}
use Rattle.c_tree.specs.declared.token.Pos.{Pos}
use Rattle.c_tree.specs.declared.refusal.FaultKind.TheVariants as kind
use Rattle.c_tree.specs.declared.typed.types.CType.{CType}
use Rattle.c_tree.specs.declared.typed.operator.Scalar.{Scalar}
use Rattle.c_tree.specs.declared.typed.operator.Scalar.TheVariants as scalar
use Rattle.c_tree.specs.declared.typed.operator.Sign.TheVariants as sign
use Rattle.c_tree.specs.declared.typed.operator.Conversion.TheVariants as conversion
use Rattle.c_tree.specs.declared.typed.operator.Arithmetic.{Arithmetic}
use Rattle.c_tree.specs.declared.typed.operator.Arithmetic.TheVariants as arithmetic
use Rattle.c_tree.specs.declared.typed.operator.Primary.{Primary}
use Rattle.c_tree.specs.declared.typed.operator.Primary.TheVariants as primary
use Rattle.c_tree.specs.declared.typed.operator.Stride.{Stride}
use Rattle.c_tree.specs.declared.typed.operator.Unary.{Unary}
use Rattle.c_tree.specs.declared.typed.operator.Unary.TheVariants as unary
use Rattle.c_tree.specs.declared.typed.expression.TExpr.{TExpr, end_of-TExpr, more_of-TExpr, Row_of-Step, end_of-Step, more_of-Step, items-the_row-Step}
use Rattle.c_tree.specs.declared.typed.expression.TExpr.TheVariants as x
use Rattle.c_tree.specs.declared.typed.expression.Step.{Step}
use Rattle.c_tree.specs.declared.typed.expression.Step.TheVariants as step
use Rattle.c_tree.specs.declared.typed.statement.Initial.{Initial}
use Rattle.c_tree.specs.declared.typed.statement.Initial.TheVariants as initial
use Rattle.c_tree.specs.declared.typed.statement.Initialiser.{Initialiser}
use Rattle.c_tree.specs.declared.typed.statement.Initialiser.TheVariants as initialiser
use Rattle.c_tree.specs.declared.typed.unit.StaticPart.{StaticPart}
use Rattle.c_tree.specs.declared.typed.unit.StaticPart.TheVariants as part
use Rattle.c_layout.specs.Constants.{constant_of, constant_after}
use Rattle.c_layout.specs.Sizes.{size_of}
use Rattle.c_typing.specs.Types.{in_word, is_bool, is_integer, is_pointer, is_array}
use Rattle.c_typing.specs.Conversions.{scalar_of}
use Rattle.c_typing.specs.Scopes.{Name, Around, State, Walk, give, unasked, tell, offer, ◌>>=◌, asked, both_asked, beside, unless, here, latest, joined}
use Rattle.c_typing.specs.Faults.{fault}
use Rattle.c_typing.specs.Operands.{Operand, is_null, is_lvalue, constant_in, tree_of, valued}
use Rattle.c_typing.specs.Expressions.{given_row}
use Rattle.c_typing.specs.OfInitialisers.{Leaf, Given, Text, Unfit, Wrong}
pub use Rattle.c_typing.specs.declared.initialiser.Address.{Address}

-- ---- automatic objects

abbrev pub initial_if : ℕ → Option Scalar → TExpr → Option Initial
initial_if offset (Some k) e = Some (initial.Value offset k e)
initial_if offset None e = None

abbrev pub initial_row : Leaf → Walk Initial
initial_row (Given offset t first o) = asked o (given_row first t) >>= λ e. asked e (λ e. offer (initial_if offset (scalar_of t) e))
initial_row (Text offset bytes) = give (initial.Bytes offset bytes)
initial_row (Unfit first o) = unasked
initial_row Wrong = unasked

abbrev pub initials_row : List Leaf → Walk (List Initial)
initials_row [] = give []
initials_row (l ∷ ls) = initial_row l >>= λ i. initials_row ls >>= λ rest. offer (joined i rest)

abbrev pub scalar_initialiser : List Initial → Option Initialiser
scalar_initialiser (initial.Value n k e ∷ is) = Some (initialiser.Scalar k e)
scalar_initialiser is = None

abbrev pub initialiser_row : CType → List Leaf → Walk Initialiser
initialiser_row t ls = initials_row ls >>= λ is. asked is (λ is.
    if is_some (scalar_of t) then offer (scalar_initialiser is) else give (initialiser.Aggregate is))

-- ---- addresses of static objects (6.6p9)

-- a place so far from another one, where it lies within the object or at its end
abbrev pub within : (ℕ → ℕ) → ℕ → ℕ → Option Address
within sizes n offset = if nat_le offset (sizes n) then Some (record { object = n; offset = offset }) else None

abbrev pub ahead : (ℕ → ℕ) → Address → ℕ → Option Address
ahead sizes a n = within sizes a.object (a.offset + n)

abbrev pub back : Address → ℕ → Option Address
back a n = if nat_le n a.offset then Some (record { object = a.object; offset = a.offset - n }) else None

abbrev pub is_signed_stride : Stride → Bool
is_signed_stride z = elim z.sign as (λ s. Bool) [ sign.Signed ↦ true | sign.Unsigned ↦ false ]

-- whether a number of elements is negative in its type, and how many they are
abbrev pub is_negative : Stride → ℕ → Bool
is_negative z n = is_signed_stride z && nat_le (2 ^ 31) n

abbrev pub far_by : (negative : Bool) → Stride → ℕ → ℕ
far_by negative z n = (if negative then 2 ^ 32 - n else n) * z.element

-- so many elements ahead, or back where the number is negative in its type
abbrev pub by_elements : (ℕ → ℕ) → (forward : Bool) → Stride → ℕ → Address → Option Address
by_elements sizes forward z n a =
    if (if is_negative z n then not forward else forward) then ahead sizes a (far_by (is_negative z n) z n)
    else back a (far_by (is_negative z n) z n)

abbrev pub unary_address : (ℕ → ℕ) → Unary → Address → Option Address
unary_address sizes (unary.Member n) a = ahead sizes a n
unary_address sizes (unary.Convert conversion.Pointer) a = Some a
unary_address sizes u a = None

-- an address and a constant
abbrev pub moved : (ℕ → ℕ) → (forward : Bool) → Stride → Option Address → Option ℕ → Option Address
moved sizes forward z (Some a) (Some n) = by_elements sizes forward z n a
moved sizes forward z a n = None

-- a binary operator with an address to its left and a constant to its right, or the other way round
abbrev pub binary_address : (ℕ → ℕ) → Arithmetic → (left right : Option Address) → (left_number right_number : Option ℕ) → Option Address
binary_address sizes (arithmetic.PointerPlus z) a b m n = moved sizes true z a n
binary_address sizes (arithmetic.PointerMinus z) a b m n = moved sizes false z a n
binary_address sizes (arithmetic.PlusPointer z) a b m n = moved sizes true z b m
binary_address sizes f a b m n = None

abbrev pub primary_address : Primary → Option Address
primary_address (primary.Static n) = Some (record { object = n; offset = 0 })
primary_address p = None

abbrev mutual
  -- the address that an expression is, with constant indices, members, offsets and pointer casts
  pub address_of : (ℕ → ℕ) → TExpr → Option Address
  address_of sizes (x.Primary t p) = primary_address p
  address_of sizes (x.Applied' t p (more_of-TExpr a end_of-TExpr) n steps) = stepped_address sizes a [] steps (address_of sizes a)
  address_of sizes _ = None

  -- what further steps make of an address; the steps before them may have made a constant of the first expression
  pub stepped_address : (ℕ → ℕ) → TExpr → (done : List Step) → {n : _} → Row_of-Step n → Option Address → Option Address
  stepped_address sizes e done end_of-Step a = a
  stepped_address sizes e done (more_of-Step (step.Unary u) rest) a =
      stepped_address sizes e (done ++ step.Unary u ∷ []) rest (option_and_then (unary_address sizes u) a)
  stepped_address sizes e done (more_of-Step (step.Binary f b) rest) a =
      stepped_address sizes e (done ++ step.Binary f b ∷ []) rest
      (binary_address sizes f a (address_of sizes b) (constant_after e done) (constant_of b))

-- ---- static objects

abbrev pub linked_size : Around → State → Name → ℕ
linked_size c s name =
    in_word (unwrap_or (option_and_then (λ l. size_of s.structs l.ctype) (latest s.linked name)) 0)

-- the size of a static object, as far as it is known here
abbrev pub static_size : Around → State → ℕ → ℕ
static_size c s n =
    if nat_lt n (length c.objects) then unwrap_or (option_map (linked_size c s) (slice_get c.objects n)) 0
    else unwrap_or (option_map (λ o. o.object.size) (slice_get s.statics (n - length c.objects))) 0

abbrev pub scalar_bytes : Scalar → ℕ
scalar_bytes (scalar.Integer k) = bytes_of k
scalar_bytes scalar.Pointer = 4

abbrev pub little_endian : (count n : ℕ) → List ℕ
little_endian zero n = []
little_endian (suc k) n = n % 256 ∷ little_endian k (n / 256)

-- a number that is not zero as the bytes of an object (6.7.9p10)
abbrev pub number_parts : ℕ → Scalar → ℕ → List StaticPart
number_parts offset k n = if n == 0 then [] else part.Bytes offset (little_endian (scalar_bytes k) n) ∷ []

-- the same over a list of steps: what one step makes of an address, and what further ones do
abbrev pub after_step : (ℕ → ℕ) → TExpr → (done : List Step) → Step → Option Address → Option Address
after_step sizes e done (step.Unary u) a = option_and_then (unary_address sizes u) a
after_step sizes e done (step.Binary f b) a = binary_address sizes f a (address_of sizes b) (constant_after e done) (constant_of b)

abbrev pub after_steps : (ℕ → ℕ) → TExpr → (done steps : List Step) → Option Address → Option Address
after_steps sizes e done [] a = a
after_steps sizes e done (s ∷ steps) a = after_steps sizes e (done ++ s ∷ []) steps (after_step sizes e done s a)

abbrev pub operand_address : (ℕ → ℕ) → Operand → Option Address
operand_address sizes o = after_steps sizes o.base [] o.steps (address_of sizes o.base)

-- ---- null pointers (6.3.2.3p3, p4): the constant, cast to other pointers or not

-- a conversion of a pointer to another pointer type (6.3.2.3p1, p7)
abbrev pub is_pointer_cast : Step → Bool
is_pointer_cast (step.Unary (unary.Convert conversion.Pointer)) = true
is_pointer_cast s = false

-- a null pointer, cast to other pointer types by all of its steps
abbrev pub is_null_behind : TExpr → List Step → Bool
is_null_behind a steps = is_null a && list_all is_pointer_cast steps

-- the same of a whole tree
abbrev pub is_null_pointer : TExpr → Bool
is_null_pointer (x.Applied' t p (more_of-TExpr a end_of-TExpr) n steps) = is_null_behind a (items-the_row-Step _ steps)
is_null_pointer e = is_null e

-- a pointer in a static object: null by no part, since its bytes are zero, or an address constant (6.6p9, 6.7.9p10)
abbrev pub address_parts : Pos → ℕ → Option Address → Walk (List StaticPart)
address_parts first offset None = tell kind.NotConstant first
address_parts first offset (Some a) = give (part.Address offset a.object a.offset ∷ [])

abbrev pub pointer_parts : Pos → ℕ → TExpr → Walk (List StaticPart)
pointer_parts first offset e =
    if is_null_pointer e then give [] else here (λ c s. address_parts first offset (address_of (static_size c s) e))

-- a value of scalar type in a static object, by the number that it is where it is constant (6.6p7, 6.7.9p4)
abbrev pub value_parts : Pos → ℕ → Option Scalar → TExpr → Option ℕ → Walk (List StaticPart)
value_parts first offset (Some scalar.Pointer) e n = pointer_parts first offset e
value_parts first offset (Some k) e (Some n) = give (number_parts offset k n)
value_parts first offset k e n = tell kind.NotConstant first

-- a pointer as a `_Bool` (6.3.1.2): a null pointer constant is 0, and no address is
abbrev pub truth_parts : Pos → ℕ → Option Address → Walk (List StaticPart)
truth_parts first offset None = tell kind.NotConstant first
truth_parts first offset (Some a) = give (part.Bytes offset (1 ∷ []) ∷ [])

abbrev pub pointer_truth : Pos → ℕ → TExpr → Walk (List StaticPart)
pointer_truth first offset e =
    if is_null_pointer e then give [] else here (λ c s. truth_parts first offset (address_of (static_size c s) e))

abbrev pub text_parts : ℕ → List ℕ → List StaticPart
text_parts offset [] = []
text_parts offset (b ∷ bs) = part.Bytes offset (b ∷ bs) ∷ []

-- an operand whose value is a pointer (6.3.2.1p3)
abbrev pub points : Operand → Bool
points o = is_pointer o.ctype || is_array o.ctype

-- a pointer that is not read from an object, or an array
abbrev pub points_at_once : Operand → Bool
points_at_once o = is_array o.ctype || (is_pointer o.ctype && not (is_lvalue o))

-- what may begin a static object: an integer or a null pointer that is constant, or the address of a static object, with a constant
-- added or not (6.6p7, p9)
abbrev pub is_constant_start : Around → State → Operand → Bool
is_constant_start c s o =
    (is_integer o.ctype && (not (is_lvalue o) && is_some (constant_in o)))
    || (points_at_once o && (is_null_behind o.base o.steps || is_some (operand_address (static_size c s) o)))

-- an expression that is not constant is no initialiser of a static object, whatever its type is (6.7.9p4)
abbrev pub not_constant : Pos → CType → Operand → Walk (List StaticPart)
not_constant first t o = beside (fault kind.NotConstant first ∷ []) (given_row first t o >>= λ e. unasked)

-- what a constant begins a static object with; a pointer begins a `_Bool` with its truth (6.3.1.2, 6.7.9p11)
abbrev pub constant_start : Pos → ℕ → CType → Operand → Walk (List StaticPart)
constant_start first offset t o =
    if is_bool t && points o then pointer_truth first offset (tree_of (valued o))
    else (given_row first t o >>= λ e. asked e (λ e. value_parts first offset (scalar_of t) e (constant_of e)))

-- what an expression begins a static object with (6.7.9p4)
abbrev pub given_start : Pos → ℕ → CType → Operand → Walk (List StaticPart)
given_start first offset t o =
    here (λ c s. if is_constant_start c s o then constant_start first offset t o else not_constant first t o)

-- an expression of which a fault was told already
abbrev pub unfit_start : Pos → Operand → Walk (List StaticPart)
unfit_start first o = here (λ c s. unless (not (is_constant_start c s o)) kind.NotConstant first unasked)

abbrev pub start_row : Leaf → Walk (List StaticPart)
start_row (Given offset t first o) = asked o (given_start first offset t)
start_row (Text offset bytes) = give (text_parts offset bytes)
start_row (Unfit first o) = unfit_start first o
start_row Wrong = unasked

abbrev pub starts_row : List Leaf → Walk (List StaticPart)
starts_row [] = give []
starts_row (l ∷ ls) = start_row l >>= λ a. starts_row ls >>= λ rest. both_asked a rest (λ a rest. give (a ++ rest))
