-- Words for typed trees, so that the examples read like C.
use Rattle.std.specs.Prelude.{ℕ, ◌*◌, true, false, List, [], ◌∷◌, ◌++◌, Option, Some, None}
use Rattle.word_ops.specs.declared.operation.Op.{Op}
use Rattle.word_ops.specs.declared.operation.Op.TheVariants as op
use Rattle.word_ops.specs.declared.operation.Width.TheVariants as width
use Rattle.word_ops.specs.Run.{End}
use Rattle.word_ops.specs.Outcome.{Outcome}
use Rattle.c_tree.specs.declared.typed.types.Base.{Base}
use Rattle.c_tree.specs.declared.typed.types.Base.TheVariants as base
use Rattle.c_tree.specs.declared.typed.types.CType.{CType}
use Rattle.c_tree.specs.declared.typed.types.Derived.TheVariants as derived
use Rattle.c_tree.specs.declared.typed.operator.Scalar.{Scalar}
use Rattle.c_tree.specs.declared.typed.operator.Scalar.TheVariants as scalar
use Rattle.c_tree.specs.declared.typed.operator.Sign.TheVariants as sign
use Rattle.c_tree.specs.declared.typed.operator.Conversion.{Conversion}
use Rattle.c_tree.specs.declared.typed.operator.Conversion.TheVariants as conversion
use Rattle.c_tree.specs.declared.typed.operator.Relation.{Relation}
use Rattle.c_tree.specs.declared.typed.operator.Relation.TheVariants as relation
use Rattle.c_tree.specs.declared.typed.operator.Arithmetic.{Arithmetic}
use Rattle.c_tree.specs.declared.typed.operator.Arithmetic.TheVariants as arithmetic
use Rattle.c_tree.specs.declared.typed.operator.Given.{Given}
use Rattle.c_tree.specs.declared.typed.operator.Given.TheVariants as giving
use Rattle.c_tree.specs.declared.typed.operator.Primary.TheVariants as primary
use Rattle.c_tree.specs.declared.typed.operator.Unary.TheVariants as unary
use Rattle.c_tree.specs.declared.typed.expression.TExpr.{TExpr}
use Rattle.c_tree.specs.declared.typed.expression.TExpr.TheVariants as x
use Rattle.c_tree.specs.declared.typed.expression.Step.{Step}
use Rattle.c_tree.specs.declared.typed.expression.Step.TheVariants as step
use Rattle.c_tree.specs.declared.typed.expression.Target.TheVariants as target
use Rattle.c_tree.specs.declared.typed.expression.Arm.{Arm}
use Rattle.c_tree.specs.declared.typed.statement.TStmt.{TStmt}
use Rattle.c_tree.specs.declared.typed.statement.TStmt.TheVariants as s
use Rattle.c_tree.specs.declared.typed.statement.Branch.{Branch}
use Rattle.c_tree.specs.declared.typed.statement.Part.{Part}
use Rattle.c_tree.specs.declared.typed.statement.Label.{Label}
use Rattle.c_tree.specs.declared.typed.statement.Label.TheVariants as label
use Rattle.c_tree.specs.declared.typed.statement.Initial.{Initial}
use Rattle.c_tree.specs.declared.typed.statement.Initial.TheVariants as initial
use Rattle.c_tree.specs.declared.typed.statement.Initialiser.TheVariants as initialiser
use Rattle.c_tree.specs.declared.typed.unit.Object.{Object}
use Rattle.c_tree.specs.declared.typed.unit.StaticPart.{StaticPart}
use Rattle.c_tree.specs.declared.typed.unit.StaticPart.TheVariants as part
use Rattle.c_tree.specs.declared.typed.unit.StaticObject.{StaticObject}
use Rattle.c_tree.specs.declared.typed.unit.TFunction.{TFunction}
use Rattle.c_tree.specs.declared.typed.unit.Typed.{Typed}

-- what a computed example opens: how a tree keeps the lists in it
unfoldable pub computed : Type 0
unfolding denote.Hole.Carrier.hidden Rattle.c_tree.specs.declared.typed.expression.Step.TheBlock.hidden-the_row-TExpr-0 Rattle.c_tree.specs.declared.typed.expression.Step.TheBlock.hidden-the_row-Target-4 Rattle.c_tree.specs.declared.typed.expression.Step.TheBlock.hidden-the_row-Step-1 Rattle.c_tree.specs.declared.typed.expression.Step.TheBlock.hidden-the_row-TExpr-2 Rattle.c_tree.specs.declared.typed.expression.Step.TheBlock.hidden-the_row-Arm-3 Rattle.c_tree.specs.declared.typed.statement.TStmt.TheBlock.hidden-the_row-TStmt-0 Rattle.c_tree.specs.declared.typed.statement.TStmt.TheBlock.hidden-the_row-TStmt-2 Rattle.c_tree.specs.declared.typed.statement.TStmt.TheBlock.hidden-the_row-Branch-1 Rattle.c_tree.specs.declared.typed.statement.TStmt.TheBlock.hidden-the_row-Part-3
computed = Unit {0}

-- ---- types, and how their values are kept

-- a base type alone
abbrev pub plain : Base → CType
plain b = record { base = b; constant = false; derived = [] }

-- int
abbrev pub int : CType
int = plain base.Int

-- unsigned int
abbrev pub unsigned : CType
unsigned = plain base.Unsigned

-- char
abbrev pub char : CType
char = plain base.Char

-- signed char
abbrev pub signed_char : CType
signed_char = plain base.SignedChar

-- unsigned short
abbrev pub unsigned_short : CType
unsigned_short = plain base.UnsignedShort

-- _Bool
abbrev pub bool : CType
bool = plain base.Bool

-- void
abbrev pub void : CType
void = plain base.Void

-- the first struct of the unit
abbrev pub struct_ : CType
struct_ = plain (base.Struct 0)

-- a pointer to a type
abbrev pub pointer_to : CType → CType
pointer_to t = record { base = t.base; constant = t.constant; derived = t.derived ++ derived.Pointer false ∷ [] }

-- an array of so many of a type
abbrev pub array_of : ℕ → CType → CType
array_of n t = record { base = t.base; constant = t.constant; derived = t.derived ++ derived.Array (Some n) ∷ [] }

-- a type with const
abbrev pub constant : CType → CType
constant t = record { base = t.base; constant = true; derived = t.derived }

-- int and all other integers of four bytes
abbrev pub word : Scalar
word = scalar.Integer width.Word

-- char, unsigned char and _Bool
abbrev pub byte : Scalar
byte = scalar.Integer width.U8

-- signed char
abbrev pub signed_byte : Scalar
signed_byte = scalar.Integer width.S8

-- unsigned short
abbrev pub half : Scalar
half = scalar.Integer width.U16

-- a pointer
abbrev pub pointer : Scalar
pointer = scalar.Pointer

-- ---- objects

-- an object of a type, how it is kept, its size and its alignment
abbrev pub object : CType → Option Scalar → (size alignment : ℕ) → Object
object t k n a = record { ctype = t; scalar = k; size = n; alignment = a; constant = t.constant; addressed = true }

-- int x;
abbrev pub an_int : Object
an_int = object int (Some word) 4 4

-- unsigned x;
abbrev pub an_unsigned : Object
an_unsigned = object unsigned (Some word) 4 4

-- int *x;
abbrev pub a_pointer : Object
a_pointer = object (pointer_to int) (Some pointer) 4 4

-- int x[N];
abbrev pub ints : ℕ → Object
ints n = object (array_of n int) None (4 * n) 4

-- char x[N];
abbrev pub chars : ℕ → Object
chars n = object (array_of n char) None n 1

-- ---- what expressions begin with

-- an int
abbrev pub num : ℕ → TExpr
num n = x.Primary int (primary.Number n)

-- an unsigned int
abbrev pub uns : ℕ → TExpr
uns n = x.Primary unsigned (primary.Number n)

-- a null pointer
abbrev pub null : TExpr
null = x.Primary (pointer_to int) primary.Null

-- the value of the automatic object of this place in scope
abbrev pub var_as : CType → Scalar → ℕ → TExpr
var_as t k i = x.Primary t (primary.Variable k i)

-- the value of an int
abbrev pub var : ℕ → TExpr
var i = var_as int word i

-- the value of an unsigned int
abbrev pub uvar : ℕ → TExpr
uvar i = var_as unsigned word i

-- the value of a pointer
abbrev pub pvar : ℕ → TExpr
pvar i = var_as (pointer_to int) pointer i

-- the address of an object
abbrev pub at : CType → ℕ → TExpr
at t i = x.Primary t (primary.Address i)

-- the address of the static object of this number
abbrev pub static : CType → ℕ → TExpr
static t i = x.Primary t (primary.Static i)

-- ---- steps

-- an expression of a type: what it begins with, and the steps
abbrev pub on : CType → TExpr → List Step → TExpr
on t a steps = x.Applied t a steps

-- the value of the object at an address
abbrev pub load : Scalar → Step
load k = step.Unary (unary.Load k)

-- a conversion
abbrev pub to : Conversion → Step
to c = step.Unary (unary.Convert c)

-- to int or another integer of four bytes
abbrev pub to_word : Conversion
to_word = conversion.Integer width.Word

-- to char or unsigned char
abbrev pub to_byte : Conversion
to_byte = conversion.Integer width.U8

-- to signed char
abbrev pub to_signed_byte : Conversion
to_signed_byte = conversion.Integer width.S8

-- to unsigned short
abbrev pub to_half : Conversion
to_half = conversion.Integer width.U16

-- to _Bool
abbrev pub to_bool : Conversion
to_bool = conversion.Bool

-- to a pointer type
abbrev pub to_pointer : Conversion
to_pointer = conversion.Pointer

-- - of an int
abbrev pub negate : Step
negate = step.Unary (unary.Negate sign.Signed)

-- ~
abbrev pub complement : Step
complement = step.Unary unary.Complement

-- !
abbrev pub not_ : Step
not_ = step.Unary unary.Not

-- the member so many bytes above the start of a struct
abbrev pub member : ℕ → Step
member n = step.Unary (unary.Member n)

-- an operation on words with a right operand
abbrev pub by : Op → TExpr → Step
by o b = step.Binary (arithmetic.Word o) b

-- + of ints
abbrev pub add : TExpr → Step
add b = by op.Adds b

-- - of ints
abbrev pub sub : TExpr → Step
sub b = by op.Subs b

-- * of ints
abbrev pub mul : TExpr → Step
mul b = by op.Muls b

-- / of ints
abbrev pub div : TExpr → Step
div b = by op.Divs b

-- a comparison of ints
abbrev pub compare : Relation → TExpr → Step
compare r b = step.Binary (arithmetic.Compare r sign.Signed) b

-- a comparison of unsigned ints
abbrev pub compare_unsigned : Relation → TExpr → Step
compare_unsigned r b = step.Binary (arithmetic.Compare r sign.Unsigned) b

-- a comparison of pointers
abbrev pub compare_pointers : Relation → TExpr → Step
compare_pointers r b = step.Binary (arithmetic.ComparePointers r) b

-- < of ints
abbrev pub less : TExpr → Step
less b = compare relation.Less b

-- == of ints
abbrev pub equal : TExpr → Step
equal b = compare relation.Equal b

-- a pointer to elements of so many bytes, and an int
abbrev pub index : ℕ → TExpr → Step
index n b = step.Binary (arithmetic.PointerPlus (record { element = n; sign = sign.Signed })) b

-- the same with an unsigned int
abbrev pub index_unsigned : ℕ → TExpr → Step
index_unsigned n b = step.Binary (arithmetic.PointerPlus (record { element = n; sign = sign.Unsigned })) b

-- a pointer to elements of so many bytes - an int
abbrev pub back : ℕ → TExpr → Step
back n b = step.Binary (arithmetic.PointerMinus (record { element = n; sign = sign.Signed })) b

-- a pointer - a pointer to elements of so many bytes
abbrev pub difference : ℕ → TExpr → Step
difference n b = step.Binary (arithmetic.Difference n) b

-- ---- whole expressions

-- a + b of ints
abbrev pub plus : TExpr → TExpr → TExpr
plus a b = on int a (add b ∷ [])

-- a - b of ints
abbrev pub minus : TExpr → TExpr → TExpr
minus a b = on int a (sub b ∷ [])

-- a < b of ints
abbrev pub is_less : TExpr → TExpr → TExpr
is_less a b = on int a (less b ∷ [])

-- a == b of ints
abbrev pub is_equal : TExpr → TExpr → TExpr
is_equal a b = on int a (equal b ∷ [])

-- the element of an array of int, or of what a pointer to int points to
abbrev pub element : TExpr → TExpr → TExpr
element p i = on int p (index 4 i ∷ load word ∷ [])

-- assignments to an automatic object, and to the object of an address
abbrev pub set_as : CType → Scalar → Option Arithmetic → Conversion → ℕ → TExpr → TExpr
set_as t k o c i a =
    x.Assign t (target.Variable i (record { scalar = k; operator = o; conversion = c }) ∷ []) a

-- x = a of an int
abbrev pub set : ℕ → TExpr → TExpr
set i a = set_as int word None to_word i a

-- x op= a of an int
abbrev pub set_by : Op → ℕ → TExpr → TExpr
set_by o i a = set_as int word (Some (arithmetic.Word o)) to_word i a

-- x = a of a pointer
abbrev pub set_pointer : ℕ → TExpr → TExpr
set_pointer i a = set_as (pointer_to int) pointer None to_pointer i a

-- an assignment to the object of an address
abbrev pub store_as : CType → Scalar → Option Arithmetic → Conversion → TExpr → TExpr → TExpr
store_as t k o c p a =
    x.Assign t (target.Place p (record { scalar = k; operator = o; conversion = c }) ∷ []) a

-- *p = a of an int
abbrev pub store : TExpr → TExpr → TExpr
store p a = store_as int word None to_word p a

-- `++` and `--` of an automatic int
abbrev pub increment : Op → Given → ℕ → TExpr
increment o g i =
    x.Primary int (primary.Increment i (record { scalar = word; operator = arithmetic.Word o; conversion = to_word; given = g }))

-- x++
abbrev pub postfix_plus : ℕ → TExpr
postfix_plus i = increment op.Adds giving.Old i

-- ++x
abbrev pub prefix_plus : ℕ → TExpr
prefix_plus i = increment op.Adds giving.New i

-- a && b ..
abbrev pub all_of : List TExpr → TExpr
all_of es = x.All int es

-- a || b ..
abbrev pub any_of : List TExpr → TExpr
any_of es = x.Any int es

-- c ? a
abbrev pub arm : TExpr → TExpr → Arm
arm c a = record { condition = c; chosen = a }

-- c ? a : ..
abbrev pub choose : List Arm → TExpr → TExpr
choose arms a = x.Choose int arms a

-- a, b ..
abbrev pub comma : List TExpr → TExpr → TExpr
comma es a = x.Comma int es a

-- a call whose value is used
abbrev pub call : ℕ → List TExpr → TExpr
call f es = x.Call int f es

-- getchar()
abbrev pub getchar : TExpr
getchar = x.GetChar int

-- putchar(a)
abbrev pub putchar : TExpr → TExpr
putchar a = x.PutChar int a

-- ---- statements

-- an expression whose value is dropped
abbrev pub dropped : TExpr → TExpr
dropped a = on void a (step.Unary unary.Drop ∷ [])

-- an expression statement
abbrev pub do_ : TExpr → TStmt
do_ a = s.Evaluate (dropped a)

-- a call as a statement
abbrev pub do_call : ℕ → List TExpr → TStmt
do_call f es = s.Evaluate (x.DroppedCall void f es)

-- int x = a;
abbrev pub begin : ℕ → TExpr → TStmt
begin i a = s.Initialise i (initialiser.Scalar word a)

-- a declaration of a scalar object with an initialiser
abbrev pub begin_as : Scalar → ℕ → TExpr → TStmt
begin_as k i a = s.Initialise i (initialiser.Scalar k a)

-- a declaration of an aggregate with an initialiser
abbrev pub begin_with : ℕ → List Initial → TStmt
begin_with i is = s.Initialise i (initialiser.Aggregate is)

-- an int in an aggregate, so many bytes from its start
abbrev pub int_at : ℕ → ℕ → Initial
int_at n a = initial.Value n word (num a)

-- a block behind so many objects of its function, with objects and without
abbrev pub block : ℕ → List Object → List TStmt → TStmt
block n os ss = s.Block (record { first = n; list = os }) ss

-- a block without objects
abbrev pub group : List TStmt → TStmt
group ss = block 0 [] ss

-- an empty statement
abbrev pub nothing : TStmt
nothing = group []

-- if (c) a, of an if
abbrev pub branch : TExpr → TStmt → Branch
branch c a = record { condition = c; body = a }

-- if (c) a
abbrev pub if_ : TExpr → TStmt → TStmt
if_ c a = s.If (branch c a ∷ []) nothing

-- if (c) a else b
abbrev pub if_else : TExpr → TStmt → TStmt → TStmt
if_else c a b = s.If (branch c a ∷ []) b

-- a switch whose body declares nothing
abbrev pub switch : TExpr → List Part → TStmt
switch a parts = s.Switch a (record { first = 0; list = [] }) parts

-- statements behind labels
abbrev pub labels : List Label → List TStmt → Part
labels ls ss = record { labels = ls; body = ss }

-- statements behind a case
abbrev pub case : ℕ → List TStmt → Part
case n ss = labels (label.Case n ∷ []) ss

-- statements behind the default
abbrev pub default : List TStmt → Part
default ss = labels (label.Default ∷ []) ss

-- return a;
abbrev pub return : TExpr → TStmt
return a = s.Return (Some a)

-- ---- units

-- a function that returns an int
abbrev pub function : List Object → TStmt → TFunction
function os body = record { result = int; scalar = Some word; parameters = os; body = body; tokens = 0 }

-- a function that returns nothing
abbrev pub procedure : List Object → TStmt → TFunction
procedure os body = record { result = void; scalar = None; parameters = os; body = body; tokens = 0 }

-- a static object, and what does not begin as zero in it
abbrev pub static_as : Object → List StaticPart → StaticObject
static_as o ps = record { object = o; parts = ps }

-- a string literal, by its bytes with the zero byte
abbrev pub literal : ℕ → List ℕ → StaticObject
literal n bytes = static_as (object (constant (array_of n char)) None n 1) (part.Bytes 0 bytes ∷ [])

-- a unit of main alone, and one of main behind other functions
abbrev pub unit : List Object → List TStmt → Typed
unit os ss = record { objects = []; functions = function [] (block 0 os ss) ∷ []; main = 0 }

-- static objects, functions, and the number of main
abbrev pub unit_with : List StaticObject → List TFunction → (main : ℕ) → Typed
unit_with os fs m = record { objects = os; functions = fs; main = m }

-- int main(void) with objects and statements
abbrev pub main_of : List Object → List TStmt → TFunction
main_of os ss = function [] (block 0 os ss)

-- ---- outcomes

-- how a run ended, its output, and the ticks and the bytes of input that it took
abbrev pub ends : End → List ℕ → (ticks taken : ℕ) → Option Outcome
ends e out n k = Some (record { end = e; output = out; ticks = n; taken = k })
