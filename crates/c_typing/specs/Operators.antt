-- The table of operators: the operands that each takes, to which types these are converted, and the type of the result
-- (C11 6.5.3 to 6.5.16). A row that does not fit gives nothing; where none fits there is a Mismatch.
use Rattle.std.specs.Prelude.{ℕ, Bool, false, ◌&&◌, ◌||◌, if◌then◌else◌, List, [], ◌∷◌, Option, Some, None}
use Rattle.word_ops.specs.declared.operation.Op.{Op}
use Rattle.word_ops.specs.declared.operation.Op.TheVariants as op
use Rattle.c_tree.specs.declared.token.Punct.{Punct}
use Rattle.c_tree.specs.declared.token.Punct.TheVariants as p
use Rattle.c_tree.specs.declared.refusal.FaultKind.TheVariants as kind
use Rattle.c_tree.specs.declared.typed.types.Base.{Base}
use Rattle.c_tree.specs.declared.typed.types.CType.{CType, out-CType}
use Rattle.c_tree.specs.declared.typed.operator.Sign.{Sign}
use Rattle.c_tree.specs.declared.typed.operator.Relation.{Relation}
use Rattle.c_tree.specs.declared.typed.operator.Relation.TheVariants as relation
use Rattle.c_tree.specs.declared.typed.operator.Arithmetic.{Arithmetic}
use Rattle.c_tree.specs.declared.typed.operator.Arithmetic.TheVariants as arithmetic
use Rattle.c_layout.specs.Tags.{Structs}
use Rattle.c_layout.specs.Sizes.{size_of}
use Rattle.c_typing.specs.Types.{in_word, int, void, plain, pointer_to, constant_if, is_integer, is_pointer, is_void, is_qualified, unqualified, alike, composite}
use Rattle.c_typing.specs.Conversions.{promoted, common, sign_of, is_signed}
pub use Rattle.c_typing.specs.declared.operator.Plan.{Plan}
pub use Rattle.c_typing.specs.declared.operator.Row.{Row}
pub use Rattle.c_typing.specs.declared.operator.Row.TheVariants.{Other, Wrong, Planned}
use Rattle.c_typing.specs.Operands.{Operand, is_null_constant, target_of}

-- A row gives nothing where it does not take the operands; else a plan, or a fault that stands at the operator.
abbrev pub plan : (left right result : CType) → Arithmetic → Row
plan l r t o = Planned (record { left = l; right = r; operator = o; result = t })

-- the base of an integer type
abbrev pub base_of : CType → Base
base_of t = (out-CType t).base

abbrev pub common_type : CType → CType → CType
common_type l r = plain (common (base_of l) (base_of r))

abbrev pub promoted_type : CType → CType
promoted_type t = plain (promoted (base_of t))

abbrev pub promoted_sign : CType → Sign
promoted_sign t = sign_of (promoted (base_of t))

-- an operation by the signedness of the type at which it is done
abbrev pub by_sign : (signed unsigned : Op) → Base → Arithmetic
by_sign s u b = arithmetic.Word (if is_signed b then s else u)

-- ---- rows

-- integers, converted to their common type, which is that of the result (6.5.5, 6.5.6, 6.5.10 to 6.5.12)
abbrev pub integers : (Base → Arithmetic) → Operand → Operand → Row
integers f l r =
    if is_integer l.ctype && is_integer r.ctype
    then (let t = common_type l.ctype r.ctype in plan t t t (f (base_of t))) else Other

-- integers, each promoted; the result has the type of the left (6.5.7)
abbrev pub shifted : (Base → Arithmetic) → Operand → Operand → Row
shifted f l r =
    if is_integer l.ctype && is_integer r.ctype
    then (let t = promoted_type l.ctype in plan t (promoted_type r.ctype) t (f (base_of t))) else Other

-- integers, compared at their common type (6.5.8p3, 6.5.9p4)
abbrev pub compared_integers : Relation → Operand → Operand → Row
compared_integers o l r =
    if is_integer l.ctype && is_integer r.ctype
    then (let t = common_type l.ctype r.ctype in plan t t int (arithmetic.Compare o (sign_of (base_of t)))) else Other

-- what a pointer to it needs for arithmetic: the size of an object type
abbrev pub sized : Structs → Option CType → (ℕ → Row) → Row
sized structs None f = Other
sized structs (Some t) f = unwrap_or' (size_of structs t) f
  where
    unwrap_or' : Option ℕ → (ℕ → Row) → Row
    unwrap_or' (Some n) f = f (in_word n)
    unwrap_or' None f = Wrong kind.Incomplete

-- a pointer and an integer (6.5.6p2, p3, p8)
abbrev pub pointer_and_integer : Structs → (ℕ → Sign → Arithmetic) → Operand → Operand → Row
pointer_and_integer structs f l r =
    if is_pointer l.ctype && is_integer r.ctype
    then sized structs (target_of l.ctype) (λ n. plan l.ctype (promoted_type r.ctype) l.ctype (f n (promoted_sign r.ctype))) else Other

-- an integer and a pointer
abbrev pub integer_and_pointer : Structs → (ℕ → Sign → Arithmetic) → Operand → Operand → Row
integer_and_pointer structs f l r =
    if is_integer l.ctype && is_pointer r.ctype
    then sized structs (target_of r.ctype) (λ n. plan (promoted_type l.ctype) r.ctype r.ctype (f n (promoted_sign l.ctype))) else Other

abbrev pub same_targets : Option CType → Option CType → Bool
same_targets (Some l) (Some r) = alike l r
same_targets _ _ = false

-- pointers to the same type but for qualifiers
abbrev pub to_the_same : Operand → Operand → Bool
to_the_same l r = same_targets (target_of l.ctype) (target_of r.ctype)

-- the distance of two pointers is an int (6.5.6p3, p9)
abbrev pub pointers_apart : Structs → Operand → Operand → Row
pointers_apart structs l r =
    if to_the_same l r then sized structs (target_of l.ctype) (λ n. plan l.ctype r.ctype int (arithmetic.Difference n)) else Other

abbrev pub compared_pointers : Relation → Operand → Operand → Row
compared_pointers o l r = if to_the_same l r then plan l.ctype l.ctype int (arithmetic.ComparePointers o) else Other

abbrev pub points_to_void : Option CType → Bool
points_to_void (Some t) = is_void (unqualified t)
points_to_void None = false

abbrev pub is_void_pointer : Operand → Bool
is_void_pointer o = points_to_void (target_of o.ctype)

-- a pointer and one to void (6.5.9p5)
abbrev pub pointer_and_void : Relation → Operand → Operand → Row
pointer_and_void o l r =
    if (is_pointer l.ctype && is_pointer r.ctype) && (is_void_pointer l || is_void_pointer r)
    then plan l.ctype r.ctype int (arithmetic.ComparePointers o) else Other

-- a pointer and a null pointer constant (6.5.9p5)
abbrev pub pointer_and_null : Relation → Operand → Operand → Row
pointer_and_null o l r =
    if is_pointer l.ctype && is_null_constant r then plan l.ctype l.ctype int (arithmetic.ComparePointers o)
    else (if is_null_constant l && is_pointer r.ctype then plan r.ctype r.ctype int (arithmetic.ComparePointers o) else Other)

-- ---- the table

abbrev pub plus_stride : ℕ → Sign → Arithmetic
plus_stride n s = arithmetic.PointerPlus (record { element = n; sign = s })

abbrev pub stride_plus : ℕ → Sign → Arithmetic
stride_plus n s = arithmetic.PlusPointer (record { element = n; sign = s })

abbrev pub minus_stride : ℕ → Sign → Arithmetic
minus_stride n s = arithmetic.PointerMinus (record { element = n; sign = s })

abbrev pub always : Op → Base → Arithmetic
always o b = arithmetic.Word o

abbrev pub ordering : Relation → List (Operand → Operand → Row)
ordering o = compared_integers o ∷ compared_pointers o ∷ []

abbrev pub equating : Relation → List (Operand → Operand → Row)
equating o = compared_integers o ∷ compared_pointers o ∷ pointer_and_void o ∷ pointer_and_null o ∷ []

-- the rows of each binary operator
abbrev pub rows : Structs → Punct → List (Operand → Operand → Row)
rows structs p.Star = integers (by_sign op.Muls op.Mul) ∷ []
rows structs p.Slash = integers (by_sign op.Divs op.Divu) ∷ []
rows structs p.Percent = integers (by_sign op.Rems op.Remu) ∷ []
rows structs p.Ampersand = integers (always op.And) ∷ []
rows structs p.Caret = integers (always op.Xor) ∷ []
rows structs p.Bar = integers (always op.Or) ∷ []
rows structs p.ShiftLeft = shifted (by_sign op.Shls op.Shl) ∷ []
rows structs p.ShiftRight = shifted (by_sign op.Shrs op.Shru) ∷ []
rows structs p.Plus = integers (by_sign op.Adds op.Add) ∷ pointer_and_integer structs plus_stride ∷ integer_and_pointer structs stride_plus ∷ []
rows structs p.Minus = integers (by_sign op.Subs op.Sub) ∷ pointer_and_integer structs minus_stride ∷ pointers_apart structs ∷ []
rows structs p.Less = ordering relation.Less
rows structs p.Greater = ordering relation.Greater
rows structs p.LessEqual = ordering relation.AtMost
rows structs p.GreaterEqual = ordering relation.AtLeast
rows structs p.Equal = equating relation.Equal
rows structs p.NotEqual = equating relation.NotEqual
rows structs o = []

abbrev pub else_by : Row → Row → Row
else_by Other next = next
else_by row next = row

-- the first row that takes the operands
abbrev pub first_row : List (Operand → Operand → Row) → Operand → Operand → Row
first_row [] l r = Wrong kind.Mismatch
first_row (f ∷ fs) l r = else_by (f l r) (first_row fs l r)

abbrev pub binary : Structs → Punct → Operand → Operand → Row
binary structs o = first_row (rows structs o)

-- the operator that a compound assignment, `++` or `--` contains (6.5.16.2p3, 6.5.3.1p2)
abbrev pub contained : Punct → Option Punct
contained p.StarAssign = Some p.Star
contained p.SlashAssign = Some p.Slash
contained p.PercentAssign = Some p.Percent
contained p.PlusAssign = Some p.Plus
contained p.MinusAssign = Some p.Minus
contained p.ShiftLeftAssign = Some p.ShiftLeft
contained p.ShiftRightAssign = Some p.ShiftRight
contained p.AmpersandAssign = Some p.Ampersand
contained p.CaretAssign = Some p.Caret
contained p.BarAssign = Some p.Bar
contained p.Increment = Some p.Plus
contained p.Decrement = Some p.Minus
contained o = None

-- ---- the last two operands of `? :` (6.5.15p3 to p6)

-- pointers that are compared by `==`: a null pointer constant gives way; one to void makes the other one to void, and else the
-- whole points to the composite type; both sides' qualifiers stay
abbrev pub chosen_target : CType → CType → CType
chosen_target l r = constant_if (is_qualified l || is_qualified r) (if is_void (unqualified l) || is_void (unqualified r) then void else composite l r)

abbrev pub chosen_pointers : Option CType → Option CType → Option CType
chosen_pointers (Some l) (Some r) =
    if alike l r || (is_void (unqualified l) || is_void (unqualified r)) then Some (pointer_to false (chosen_target l r)) else None
chosen_pointers _ _ = None

-- the type of the whole, or none where the operands do not go together; of each its type, and whether it is a null pointer constant
abbrev pub chosen_by : (l : CType) → (l_is_null : Bool) → (r : CType) → (r_is_null : Bool) → Option CType
chosen_by l m r n =
    if is_integer l && is_integer r then Some (common_type l r)
    else (if is_void l && is_void r then Some void
    else (if is_pointer l && n then Some l
    else (if m && is_pointer r then Some r
    else chosen_pointers (target_of l) (target_of r))))

abbrev pub chosen : Operand → Operand → Option CType
chosen l r = chosen_by l.ctype (is_null_constant l) r.ctype (is_null_constant r)
