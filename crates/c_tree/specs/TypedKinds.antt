-- What kind of value a typed expression gives: what hangs together in it, seen without its C types. Typing makes such trees
-- alone, lowering takes such trees alone, and the value of one is always of its kind (a law of the meaning).
use Rattle.std.specs.Prelude.{◌≡◌, ℕ, ◌^◌, ◌<◌, ◌≤◌, List, [], ◌∷◌, Option, Some, None, slice_get, Bool, false, not}
use Rattle.word_ops.specs.declared.operation.Width.{Width}
use Rattle.word_ops.specs.declared.operation.Width.TheVariants as width
use Rattle.c_tree.specs.declared.typed.types.CType.{CType}
use Rattle.c_tree.specs.declared.typed.operator.Scalar.{Scalar}
use Rattle.c_tree.specs.declared.typed.operator.Scalar.TheVariants as scalar
use Rattle.c_tree.specs.declared.typed.operator.Conversion.{Conversion}
use Rattle.c_tree.specs.declared.typed.operator.Conversion.TheVariants as conversion
use Rattle.c_tree.specs.declared.typed.operator.Arithmetic.{Arithmetic}
use Rattle.c_tree.specs.declared.typed.operator.Arithmetic.TheVariants as arithmetic
use Rattle.c_tree.specs.declared.typed.operator.Change.{Change}
use Rattle.c_tree.specs.declared.typed.operator.Increment.{Increment}
use Rattle.c_tree.specs.declared.typed.operator.Primary.{Primary}
use Rattle.c_tree.specs.declared.typed.operator.Primary.TheVariants as primary
use Rattle.c_tree.specs.declared.typed.operator.Unary.{Unary}
use Rattle.c_tree.specs.declared.typed.operator.Unary.TheVariants as unary
use Rattle.c_tree.specs.declared.typed.expression.TExpr.{TExpr, Row_of-TExpr, end_of-TExpr, more_of-TExpr, Row_of-Step, end_of-Step, more_of-Step, Row_of-Arm, end_of-Arm, more_of-Arm, Row_of-Target, end_of-Target, more_of-Target}
use Rattle.c_tree.specs.declared.typed.expression.TExpr.TheVariants as x
use Rattle.c_tree.specs.declared.typed.expression.Step.TheVariants as step
use Rattle.c_tree.specs.declared.typed.expression.Target.TheVariants as target

-- the type of an expression (C11 6.5p1)
abbrev pub type_of : TExpr → CType
type_of (x.Primary t p) = t
type_of (x.Applied' t p a n steps) = t
type_of (x.All' t n all) = t
type_of (x.Any' t n all) = t
type_of (x.Choose' t n arms p a) = t
type_of (x.Comma' t n all p a) = t
type_of (x.Assign' t n targets p a) = t
type_of (x.Call' t f n all) = t
type_of (x.DroppedCall' t f n all) = t
type_of (x.GetChar t) = t
type_of (x.PutChar' t p a) = t
type_of (x.Exit' t p a) = t

-- what an expression gives: nothing that is used, or a value that an object of scalar type holds as it is
pub data Kind : Type 0 where
  Void : Kind
  Holds : (scalar : Scalar) → Kind

-- what a function takes and gives: how its parameters and its value are kept, where they are scalar
pub record Signature : Type 0 where
  pub parameters : List (Option Scalar)
  pub result : Option Scalar

-- how an automatic object is kept: as a value of scalar type, or as an aggregate; and whether `&` is applied to it
pub record Kept : Type 0 where
  pub scalar : Option Scalar
  pub addressed : Bool

-- an object that only its name leads to, so that no pointer ever does
abbrev pub is_variable_if : Option Scalar → (addressed : Bool) → Bool
is_variable_if None b = false
is_variable_if (Some k) b = not b

-- the same of how an object is kept
abbrev pub is_variable : Kept → Bool
is_variable h = is_variable_if h.scalar h.addressed

-- what the names in an expression stand for: how many static objects there are, the functions, and how the automatic objects in
-- scope are kept, by their places
pub record Names : Type 0 where
  pub statics : ℕ
  pub functions : List Signature
  pub objects : List Kept

-- at a place in scope there is an object of this scalar type
abbrev pub IsScalarAt : Names → ℕ → Scalar → Type 0
IsScalarAt c i k = (h : Kept) × (slice_get c.objects i ≡ Some h) × (h.scalar ≡ Some k)

-- at a place in scope there is an object that has an address
abbrev pub IsMemoryAt : Names → ℕ → Type 0
IsMemoryAt c i = (h : Kept) × (slice_get c.objects i ≡ Some h) × (is_variable h ≡ false)

-- how many bytes an object of scalar type has, and how they are read
abbrev pub width_of : Scalar → Width
width_of (scalar.Integer k) = k
width_of scalar.Pointer = width.Word

-- an int, or any other integer of four bytes
abbrev pub word : Kind
word = Holds (scalar.Integer width.Word)

-- a value that compares equal or unequal to 0 (C11 6.2.5p21)
abbrev pub IsScalar : Kind → Type 0
IsScalar Void = ⊥
IsScalar (Holds k) = Unit {0}

-- a number (C11 6.2.5p17)
abbrev pub IsInteger : Kind → Type 0
IsInteger Void = ⊥
IsInteger (Holds (scalar.Integer k)) = Unit {0}
IsInteger (Holds scalar.Pointer) = ⊥

-- a pointer, or the null pointer (C11 6.2.5p20)
abbrev pub IsPointer : Kind → Type 0
IsPointer Void = ⊥
IsPointer (Holds (scalar.Integer k)) = ⊥
IsPointer (Holds scalar.Pointer) = Unit {0}

-- ---- operators

-- a conversion from a kind gives this one (C11 6.3)
abbrev pub Converts : Conversion → Kind → Kind → Type 0
Converts (conversion.Integer k) j g = IsInteger j × (g ≡ Holds (scalar.Integer k))
Converts conversion.Bool j g = IsScalar j × (g ≡ Holds (scalar.Integer width.U8))
Converts conversion.Pointer j g = IsPointer j × (g ≡ Holds scalar.Pointer)

-- the size of what a pointer points to (C11 6.5.3.4p2; the profile allows 2^24 bytes)
abbrev pub IsSize : ℕ → Type 0
IsSize n = (1 ≤ n) × (n ≤ 2 ^ 24)

-- a binary operator on two kinds gives this one (C11 6.5.5 to 6.5.12)
abbrev pub ArithmeticGives : Arithmetic → (left right : Kind) → Kind → Type 0
ArithmeticGives (arithmetic.Word o) i j g = IsInteger i × IsInteger j × (g ≡ word)
ArithmeticGives (arithmetic.Compare r s) i j g = IsInteger i × IsInteger j × (g ≡ word)
ArithmeticGives (arithmetic.ComparePointers r) i j g = IsPointer i × IsPointer j × (g ≡ word)
ArithmeticGives (arithmetic.PointerPlus z) i j g = IsPointer i × IsInteger j × IsSize z.element × (g ≡ Holds scalar.Pointer)
ArithmeticGives (arithmetic.PlusPointer z) i j g = IsInteger i × IsPointer j × IsSize z.element × (g ≡ Holds scalar.Pointer)
ArithmeticGives (arithmetic.PointerMinus z) i j g = IsPointer i × IsInteger j × IsSize z.element × (g ≡ Holds scalar.Pointer)
ArithmeticGives (arithmetic.Difference e) i j g = IsPointer i × IsPointer j × IsSize e × (g ≡ word)

-- an object of this scalar type gets a value from an operand of a kind: what is stored is converted to the object's width
abbrev pub ChangesBy : Scalar → Conversion → Option Arithmetic → Kind → Type 0
ChangesBy k c None j = Converts c j (Holds k)
ChangesBy k c (Some o) j = (g : Kind) × ArithmeticGives o (Holds k) j g × Converts c g (Holds k)

-- the same of an assignment
abbrev pub Changes : Change → Kind → Type 0
Changes c j = ChangesBy c.scalar c.conversion c.operator j

-- the same of `++` and `--`, whose right operand is the number 1
abbrev pub Increments : Increment → Type 0
Increments i = ChangesBy i.scalar i.conversion (Some i.operator) word

-- a unary operator on a kind gives this one (C11 6.5.2.3, 6.5.2.4, 6.5.3)
abbrev pub UnaryGives : Unary → Kind → Kind → Type 0
UnaryGives (unary.Load k) j g = IsPointer j × (g ≡ Holds k)
UnaryGives (unary.Convert c) j g = Converts c j g
UnaryGives (unary.Negate s) j g = IsInteger j × (g ≡ word)
UnaryGives unary.Complement j g = IsInteger j × (g ≡ word)
UnaryGives unary.Not j g = IsScalar j × (g ≡ word)
UnaryGives (unary.Member n) j g = IsPointer j × (n ≤ 2 ^ 24) × (g ≡ Holds scalar.Pointer)
UnaryGives (unary.Increment i) j g = IsPointer j × Increments i × (g ≡ Holds i.scalar)
UnaryGives unary.Drop j g = g ≡ Void

-- what an expression begins with gives this kind: a name stands for something that is there and is kept so
abbrev pub PrimaryGives : Names → Primary → Kind → Type 0
PrimaryGives c (primary.Number n) g = (n < 2 ^ 32) × (g ≡ word)
PrimaryGives c primary.Null g = g ≡ Holds scalar.Pointer
PrimaryGives c (primary.Variable k i) g = IsScalarAt c i k × (g ≡ Holds k)
PrimaryGives c (primary.Address i) g = IsMemoryAt c i × (g ≡ Holds scalar.Pointer)
PrimaryGives c (primary.Static i) g = (i < c.statics) × (g ≡ Holds scalar.Pointer)
PrimaryGives c (primary.Increment i h) g =
    IsScalarAt c i h.scalar × Increments h × (g ≡ Holds h.scalar)

-- the value of a function is of this kind
abbrev pub ResultIs : Option Scalar → Kind → Type 0
ResultIs None g = ⊥
ResultIs (Some k) g = g ≡ Holds k

-- ---- expressions

abbrev mutual
  -- an expression gives this kind
  pub IsOfKind : Names → TExpr → Kind → Type 0
  IsOfKind c (x.Primary t p) g = PrimaryGives c p g
  IsOfKind c (x.Applied' t p (more_of-TExpr a end_of-TExpr) n steps) g =
      (j : Kind) × IsOfKind c a j × StepsGive c steps j g
  IsOfKind c (x.All' t n all) g = AreScalar c all × (g ≡ word)
  IsOfKind c (x.Any' t n all) g = AreScalar c all × (g ≡ word)
  IsOfKind c (x.Choose' t n arms p (more_of-TExpr a end_of-TExpr)) g = ArmsGive c arms g × IsOfKind c a g
  IsOfKind c (x.Comma' t n all p (more_of-TExpr a end_of-TExpr)) g = AreDropped c all × IsOfKind c a g
  IsOfKind c (x.Assign' t n targets p (more_of-TExpr a end_of-TExpr)) g =
      (j : Kind) × IsOfKind c a j × TargetsGive c targets j g
  IsOfKind c (x.Call' t f n all) g =
      (h : Signature) × (slice_get c.functions f ≡ Some h) × AreArguments c all h.parameters × ResultIs h.result g
  IsOfKind c (x.DroppedCall' t f n all) g =
      (h : Signature) × (slice_get c.functions f ≡ Some h) × AreArguments c all h.parameters × (g ≡ Void)
  IsOfKind c (x.GetChar t) g = g ≡ word
  IsOfKind c (x.PutChar' t p (more_of-TExpr a end_of-TExpr)) g =
      (j : Kind) × IsOfKind c a j × IsInteger j × (g ≡ word)
  IsOfKind c (x.Exit' t p (more_of-TExpr a end_of-TExpr)) g =
      (j : Kind) × IsOfKind c a j × IsInteger j × (g ≡ Void)

  -- steps lead from one kind to another
  pub StepsGive : Names → {n : _} → Row_of-Step n → Kind → Kind → Type 0
  StepsGive c end_of-Step j g = g ≡ j
  StepsGive c (more_of-Step (step.Unary u) rest) j g = (i : Kind) × UnaryGives u j i × StepsGive c rest i g
  StepsGive c (more_of-Step (step.Binary o b) rest) j g =
      (k : Kind) × IsOfKind c b k × (i : Kind) × ArithmeticGives o j k i × StepsGive c rest i g

  -- each expression gives a value that is true or false
  pub AreScalar : Names → {n : _} → Row_of-TExpr n → Type 0
  AreScalar c end_of-TExpr = Unit {0}
  AreScalar c (more_of-TExpr a rest) = (j : Kind) × IsOfKind c a j × IsScalar j × AreScalar c rest

  -- the value of each expression is dropped
  pub AreDropped : Names → {n : _} → Row_of-TExpr n → Type 0
  AreDropped c end_of-TExpr = Unit {0}
  AreDropped c (more_of-TExpr a rest) = IsOfKind c a Void × AreDropped c rest

  -- each expression gives what a parameter holds, and there are as many
  pub AreArguments : Names → {n : _} → Row_of-TExpr n → List (Option Scalar) → Type 0
  AreArguments c end_of-TExpr [] = Unit {0}
  AreArguments c end_of-TExpr (k ∷ ks) = ⊥
  AreArguments c (more_of-TExpr a rest) [] = ⊥
  AreArguments c (more_of-TExpr a rest) (None ∷ ks) = ⊥
  AreArguments c (more_of-TExpr a rest) (Some k ∷ ks) = IsOfKind c a (Holds k) × AreArguments c rest ks

  -- each condition is true or false, and what is chosen gives this kind
  pub ArmsGive : Names → {n : _} → Row_of-Arm n → Kind → Type 0
  ArmsGive c end_of-Arm g = Unit {0}
  ArmsGive c (more_of-Arm a b rest) g =
      (j : Kind) × IsOfKind c a j × IsScalar j × IsOfKind c b g × ArmsGive c rest g

  -- left sides lead from the kind of the value at the right end to that of the whole
  pub TargetsGive : Names → {n : _} → Row_of-Target n → Kind → Kind → Type 0
  TargetsGive c end_of-Target j g = g ≡ j
  TargetsGive c (more_of-Target (target.Variable i h) rest) j g =
      (k : Kind) × TargetsGive c rest j k × IsScalarAt c i h.scalar × Changes h k × (g ≡ Holds h.scalar)
  TargetsGive c (more_of-Target (target.Place a h) rest) j g =
      (k : Kind) × TargetsGive c rest j k × IsOfKind c a (Holds scalar.Pointer) × Changes h k × (g ≡ Holds h.scalar)
