-- Typed trees with their core code, each computed from the definitions; the acts and the numbers in them were counted by hand.
use Rattle.std.specs.Prelude.{◌≡◌, ℕ, true, false, List, [], ◌∷◌, Option, Some, None}
use Rattle.std.proofs.Common.{refl}
use Rattle.word_ops.specs.declared.operation.Op.{Op}
use Rattle.word_ops.specs.declared.operation.Op.TheVariants as op
use Rattle.word_ops.specs.declared.operation.Width.TheVariants as width
use Rattle.core_lang.specs.declared.act.Atom.{Atom}
use Rattle.core_lang.specs.declared.act.Atom.TheVariants as at
use Rattle.core_lang.specs.declared.act.PointerOp.TheVariants as pointer
use Rattle.core_lang.specs.declared.act.Core.{Core}
use Rattle.core_lang.specs.declared.act.Core.TheVariants as c
use Rattle.core_lang.specs.declared.program.CoreFunction.{CoreFunction}
use Rattle.c_tree.specs.declared.typed.types.Base.TheVariants as base
use Rattle.c_tree.specs.declared.typed.types.CType.{CType}
use Rattle.c_tree.specs.declared.typed.types.Derived.TheVariants as derived
use Rattle.c_tree.specs.declared.typed.operator.Scalar.{Scalar}
use Rattle.c_tree.specs.declared.typed.operator.Scalar.TheVariants as scalar
use Rattle.c_tree.specs.declared.typed.operator.Sign.TheVariants as sign
use Rattle.c_tree.specs.declared.typed.operator.Conversion.TheVariants as conversion
use Rattle.c_tree.specs.declared.typed.operator.Relation.TheVariants as relation
use Rattle.c_tree.specs.declared.typed.operator.Arithmetic.TheVariants as arithmetic
use Rattle.c_tree.specs.declared.typed.operator.Given.TheVariants as giving
use Rattle.c_tree.specs.declared.typed.operator.Primary.TheVariants as primary
use Rattle.c_tree.specs.declared.typed.operator.Unary.TheVariants as unary
use Rattle.c_tree.specs.declared.typed.expression.TExpr.{TExpr}
use Rattle.c_tree.specs.declared.typed.expression.TExpr.TheVariants as x
use Rattle.c_tree.specs.declared.typed.expression.Step.{Step}
use Rattle.c_tree.specs.declared.typed.expression.Step.TheVariants as step
use Rattle.c_tree.specs.declared.typed.expression.Target.TheVariants as target
use Rattle.c_tree.specs.declared.typed.statement.TStmt.{TStmt}
use Rattle.c_tree.specs.declared.typed.statement.TStmt.TheVariants as s
use Rattle.c_tree.specs.declared.typed.statement.Label.TheVariants as label
use Rattle.c_tree.specs.declared.typed.statement.Initial.TheVariants as initial
use Rattle.c_tree.specs.declared.typed.statement.Initialiser.TheVariants as initialiser
use Rattle.c_tree.specs.declared.typed.unit.Object.{Object}
use Rattle.c_tree.specs.declared.typed.unit.TFunction.{TFunction}
use Rattle.lowering_form.specs.declared.place.Place.TheVariants as place
use Rattle.lowering_form.specs.Code.{Code, Valued}
use Rattle.lowering_form.specs.Places.{Scope}
use Rattle.lowering_form.specs.Expressions.{value_code}
use Rattle.lowering_form.specs.Objects.{Body}
use Rattle.lowering_form.specs.Statements.{statement_code}
use Rattle.lowering_form.specs.Functions.{function_code}

-- what a computed example opens: how a tree keeps the lists in it
unfoldable pub computed : Type 0
unfolding denote.Hole.Carrier.hidden Rattle.c_tree.specs.declared.typed.expression.Step.TheBlock.hidden-the_row-TExpr-0 Rattle.c_tree.specs.declared.typed.expression.Step.TheBlock.hidden-the_row-Target-4 Rattle.c_tree.specs.declared.typed.expression.Step.TheBlock.hidden-the_row-Step-1 Rattle.c_tree.specs.declared.typed.expression.Step.TheBlock.hidden-the_row-TExpr-2 Rattle.c_tree.specs.declared.typed.expression.Step.TheBlock.hidden-the_row-Arm-3 Rattle.c_tree.specs.declared.typed.statement.TStmt.TheBlock.hidden-the_row-TStmt-0 Rattle.c_tree.specs.declared.typed.statement.TStmt.TheBlock.hidden-the_row-TStmt-2 Rattle.c_tree.specs.declared.typed.statement.TStmt.TheBlock.hidden-the_row-Branch-1 Rattle.c_tree.specs.declared.typed.statement.TStmt.TheBlock.hidden-the_row-Part-3
computed = Unit {0}

-- ---- words for trees

-- int
abbrev pub int : CType
int = record { base = base.Int; constant = false; derived = [] }

-- how an int is kept
abbrev pub word : Scalar
word = scalar.Integer width.Word

-- a number, and the value of the int of this place in scope
abbrev pub num : ℕ → TExpr
num n = x.Primary int (primary.Number n)

abbrev pub var : ℕ → TExpr
var i = x.Primary int (primary.Variable word i)

-- a + b and a < b
abbrev pub plus : TExpr → TExpr → TExpr
plus a b = x.Applied int a (step.Binary (arithmetic.Word op.Adds) b ∷ [])

abbrev pub less : TExpr → TExpr → TExpr
less a b = x.Applied int a (step.Binary (arithmetic.Compare relation.Less sign.Signed) b ∷ [])

-- the int of this place = a, and its ++
abbrev pub set : ℕ → TExpr → TExpr
set i a =
    x.Assign int (target.Variable i (record { scalar = word; operator = None; conversion = conversion.Integer width.Word }) ∷ []) a

abbrev pub increased : ℕ → TExpr
increased i =
    x.Primary int (primary.Increment i (record { scalar = word; operator = arithmetic.Word op.Adds; conversion = conversion.Integer width.Word; given = giving.Old }))

-- an expression as a statement
abbrev pub do_ : TExpr → TStmt
do_ a = s.Evaluate (x.Applied int a (step.Unary unary.Drop ∷ []))

-- an int whose address is not used, and an array of so many char
abbrev pub an_int : Object
an_int = record { ctype = int; scalar = Some word; size = 4; alignment = 4; constant = false; addressed = false }

abbrev pub chars : ℕ → Object
chars n =
    record { ctype = record { base = base.Char; constant = false; derived = derived.Array (Some n) ∷ [] }; scalar = None; size = n; alignment = 1; constant = false; addressed = true }

-- { .. }, whose objects have numbers from this one on
abbrev pub block : ℕ → List Object → List TStmt → TStmt
block n os all = s.Block (record { first = n; list = os }) all

-- ---- expressions: a is variable 0, b is variable 1, p is the address of local object 0, and temporaries begin at 5

abbrev pub around : Scope
around =
    record { places = place.Variable 0 ∷ place.Variable 1 ∷ place.Memory (at.Local 0) ∷ []; level = 3; breaks = 0; continues = 0 }

abbrev pub nothing_around : Scope
nothing_around = record { places = []; level = 3; breaks = 0; continues = 0 }

abbrev pub code_of : TExpr → Valued
code_of a = value_code a around (record { acts = []; next = 5 })

abbrev pub makes : List Core → (next : ℕ) → Atom → Valued
makes acts next v = record { code = record { acts = acts; next = next }; atom = v }

-- a + 1
pub sum : code_of (plus (var 0) (num 1)) ≡ makes (c.Move 5 (at.Var 0) ∷ c.Operate 6 op.Adds (at.Var 5) (at.Word 1) ∷ []) 7 (at.Var 6)
unfolding computed
sum = refl

-- a && b: variable 3 has what it gives
pub both : code_of (x.All int (var 0 ∷ var 1 ∷ [])) ≡ makes (c.Block (c.Move 5 (at.Var 0) ∷ c.If (at.Var 5) [] (c.Move 3 (at.Word 0) ∷ c.Break 0 ∷ []) ∷ c.Move 6 (at.Var 1) ∷ c.Operate 3 op.Ne (at.Var 6) (at.Word 0) ∷ []) ∷ c.Move 7 (at.Var 3) ∷ []) 8 (at.Var 7)
unfolding computed
both = refl

-- a ? b : 2
pub one_of : code_of (x.Choose int (record { condition = var 0; chosen = var 1 } ∷ []) (num 2)) ≡ makes (c.Block (c.Move 5 (at.Var 0) ∷ c.If (at.Var 5) (c.Move 6 (at.Var 1) ∷ c.Move 3 (at.Var 6) ∷ c.Break 0 ∷ []) [] ∷ c.Move 3 (at.Word 2) ∷ []) ∷ c.Move 7 (at.Var 3) ∷ []) 8 (at.Var 7)
unfolding computed
one_of = refl

-- p[b], of an array of int: the number of bytes, the address, and the read
pub element : code_of (x.Applied int (x.Primary int (primary.Address 2)) (step.Binary (arithmetic.PointerPlus (record { element = 4; sign = sign.Signed })) (var 1) ∷ step.Unary (unary.Load word) ∷ [])) ≡ makes (c.Move 5 (at.Var 1) ∷ c.Operate 6 op.Mul (at.Var 5) (at.Word 4) ∷ c.Pointer 7 pointer.Offset (at.Local 0) (at.Var 6) ∷ c.Load 8 width.Word (at.Var 7) ∷ []) 9 (at.Var 8)
unfolding computed
element = refl

-- a = b = 1: the rightmost object first
pub chain : code_of (set 0 (set 1 (num 1))) ≡ makes (c.Move 1 (at.Word 1) ∷ c.Move 0 (at.Word 1) ∷ []) 5 (at.Word 1)
unfolding computed
chain = refl

-- f(a, 1), function 4
pub call : code_of (x.Call int 4 (var 0 ∷ num 1 ∷ [])) ≡ makes (c.Move 5 (at.Var 0) ∷ c.Call (Some 6) 4 (at.Var 5 ∷ at.Word 1 ∷ []) ∷ []) 7 (at.Var 6)
unfolding computed
call = refl

-- ---- statements

abbrev pub no_objects : List Core → (next : ℕ) → Body
no_objects acts next = record { code = record { acts = acts; next = next }; locals = []; kept = 0; words = 0 }

-- if (a) b = 1; else if (b) b = 2; else b = 3;
pub branches : statement_code (s.If (record { condition = var 0; body = do_ (set 1 (num 1)) } ∷ record { condition = var 1; body = do_ (set 1 (num 2)) } ∷ []) (do_ (set 1 (num 3)))) around (no_objects [] 5) ≡ no_objects (c.Block (c.Move 5 (at.Var 0) ∷ c.If (at.Var 5) (c.Move 1 (at.Word 1) ∷ c.Break 0 ∷ []) [] ∷ c.Move 6 (at.Var 1) ∷ c.If (at.Var 6) (c.Move 1 (at.Word 2) ∷ c.Break 0 ∷ []) [] ∷ c.Move 1 (at.Word 3) ∷ []) ∷ []) 7
unfolding computed
branches = refl

-- while (1) { if (a) continue; break; }
pub jumps : statement_code (s.While (num 1) (block 2 [] (s.If (record { condition = var 0; body = s.Continue } ∷ []) (block 2 [] []) ∷ s.Break ∷ []))) around (no_objects [] 5) ≡ no_objects (c.Loop (c.If (at.Word 1) [] (c.Break 0 ∷ []) ∷ c.Block (c.Move 5 (at.Var 0) ∷ c.If (at.Var 5) (c.Break 0 ∷ []) [] ∷ c.Break 1 ∷ []) ∷ []) ∷ []) 6
unfolding computed
jumps = refl

-- char s[6] = "abcde";: four bytes as a word, and one more; the rest is zero
pub string : statement_code (block 0 (chars 6 ∷ []) (s.Initialise 0 (initialiser.Aggregate (initial.Bytes 0 (97 ∷ 98 ∷ 99 ∷ 100 ∷ 101 ∷ []) ∷ [])) ∷ [])) nothing_around (no_objects [] 5) ≡ record { code = record { acts = c.Enter 0 ∷ c.Fill 0 ∷ c.Store width.Word (at.Local 0) (at.Word 1684234849) ∷ c.Pointer 5 pointer.Offset (at.Local 0) (at.Word 4) ∷ c.Store width.U8 (at.Var 5) (at.Word 101) ∷ []; next = 6 }; locals = 6 ∷ []; kept = 0; words = 2 }
unfolding computed
string = refl

-- ---- functions

-- int main(void) { int s = 0; int i; for (i = 0; i < 10; i++) s = s + i; return s; }
abbrev pub sums : TFunction
sums =
    record { result = int; scalar = Some word; parameters = []; body = block 0 (an_int ∷ an_int ∷ []) (s.Initialise 0 (initialiser.Scalar word (num 0)) ∷ do_ (set 1 (num 0)) ∷ s.For (Some (less (var 1) (num 10))) (Some (x.Applied int (increased 1) (step.Unary unary.Drop ∷ []))) (do_ (set 0 (plus (var 0) (var 1)))) ∷ s.Return (Some (var 0)) ∷ []); tokens = 37 }

-- two variables, one for joins, which is not used, and eight temporaries
pub sum_of_ten : function_code sums 0 true ≡ record { params = 0; vars = 3; temps = 8; locals = []; body = c.Move 0 (at.Word 0) ∷ c.Move 1 (at.Word 0) ∷ c.Loop (c.Move 3 (at.Var 1) ∷ c.Operate 4 op.Lts (at.Var 3) (at.Word 10) ∷ c.If (at.Var 4) [] (c.Break 0 ∷ []) ∷ c.Block (c.Move 5 (at.Var 0) ∷ c.Move 6 (at.Var 1) ∷ c.Operate 7 op.Adds (at.Var 5) (at.Var 6) ∷ c.Move 0 (at.Var 7) ∷ []) ∷ c.Move 8 (at.Var 1) ∷ c.Operate 9 op.Adds (at.Var 8) (at.Word 1) ∷ c.Move 1 (at.Var 9) ∷ []) ∷ c.Move 10 (at.Var 0) ∷ c.Return (Some (at.Var 10)) ∷ c.Return (Some (at.Word 0)) ∷ []; returns = true; size = 114; object_bytes = 0 }
unfolding computed
sum_of_ten = refl

-- int f(int a) { switch (a) { case 1: return 5; default: a = 7; break; } return a; }
abbrev pub switches : TFunction
switches =
    record { result = int; scalar = Some word; parameters = an_int ∷ []; body = block 1 [] (s.Switch (var 0) (record { first = 1; list = [] }) (record { labels = label.Case 1 ∷ []; body = s.Return (Some (num 5)) ∷ [] } ∷ record { labels = label.Default ∷ []; body = do_ (set 0 (num 7)) ∷ s.Break ∷ [] } ∷ []) ∷ s.Return (Some (var 0)) ∷ []); tokens = 31 }

-- variable 1 has the number of the first part that runs
pub parts : function_code switches 1 false ≡ record { params = 1; vars = 3; temps = 5; locals = []; body = c.Move 3 (at.Var 0) ∷ c.Move 1 (at.Word 1) ∷ c.Operate 4 op.Eq (at.Var 3) (at.Word 1) ∷ c.If (at.Var 4) (c.Move 1 (at.Word 0) ∷ []) [] ∷ c.Block (c.Operate 5 op.Ltu (at.Word 0) (at.Var 1) ∷ c.If (at.Var 5) [] (c.Return (Some (at.Word 5)) ∷ []) ∷ c.Operate 6 op.Ltu (at.Word 1) (at.Var 1) ∷ c.If (at.Var 6) [] (c.Move 0 (at.Word 7) ∷ c.Break 0 ∷ []) ∷ []) ∷ c.Move 7 (at.Var 0) ∷ c.Return (Some (at.Var 7)) ∷ []; returns = true; size = 96; object_bytes = 0 }
unfolding computed
parts = refl

-- void g(int a) { }, where `&` is applied to a: a parameter in memory gets its argument, which variable 0 has
abbrev pub addressed : TFunction
addressed =
    record { result = record { base = base.Void; constant = false; derived = [] }; scalar = None; parameters = record { ctype = int; scalar = Some word; size = 4; alignment = 4; constant = false; addressed = true } ∷ []; body = block 1 [] []; tokens = 8 }

pub parameter : function_code addressed 0 false ≡ record { params = 1; vars = 2; temps = 0; locals = 4 ∷ []; body = c.Enter 0 ∷ c.Store width.Word (at.Local 0) (at.Var 0) ∷ []; returns = false; size = 9; object_bytes = 16 }
unfolding computed
parameter = refl
