-- The core function of a definition, and the core program of a unit (C11 6.9, 5.1.2.2).
use Rattle.std.specs.Prelude.{ℕ, zero, suc, ◌+◌, ◌-◌, ◌*◌, max, ◌==◌, Bool, true, false, List, [], ◌∷◌, ◌++◌, length, map, Option, Some, None, is_some}
use Rattle.word_ops.specs.Stack.{bytes_of_objects}
use Rattle.core_lang.specs.declared.act.Atom.TheVariants as at
use Rattle.core_lang.specs.declared.act.Core.TheVariants as c
use Rattle.core_lang.specs.declared.program.CoreFunction.{CoreFunction}
use Rattle.core_lang.specs.declared.program.Part.{Part}
use Rattle.core_lang.specs.declared.program.Program.{Program}
use Rattle.core_lang.specs.declared.program.Start.TheVariants as start
use Rattle.core_lang.specs.declared.program.StaticObject as core
use Rattle.c_tree.specs.declared.typed.operator.Scalar.{Scalar}
use Rattle.c_tree.specs.declared.typed.statement.TStmt.{TStmt, Row_of-TStmt, end_of-TStmt, more_of-TStmt, Row_of-Branch, end_of-Branch, more_of-Branch, Row_of-Part, end_of-Part, more_of-Part}
use Rattle.c_tree.specs.declared.typed.statement.TStmt.TheVariants as s
use Rattle.c_tree.specs.declared.typed.unit.Object.{Object}
use Rattle.c_tree.specs.declared.typed.unit.StaticPart.{StaticPart}
use Rattle.c_tree.specs.declared.typed.unit.StaticPart.TheVariants as part
use Rattle.c_tree.specs.declared.typed.unit.StaticObject as typed
use Rattle.c_tree.specs.declared.typed.unit.TFunction.{TFunction}
use Rattle.c_tree.specs.declared.typed.unit.Typed.{Typed}
use Rattle.c_tree.specs.TypedKinds.{width_of}
use Rattle.c_tree.specs.TypedUnits.{declared_in}
use Rattle.lowering_form.specs.declared.place.Place.{Place}
use Rattle.lowering_form.specs.declared.place.Place.TheVariants as place
use Rattle.lowering_form.specs.Code.{Code, with_act}
use Rattle.lowering_form.specs.Places.{Scope, place_in, write_code}
use Rattle.lowering_form.specs.Objects.{Body, Declared, with_code, declared}
use Rattle.lowering_form.specs.Statements.{statement_code}

-- ---- the numbers of variables

abbrev mutual
  -- how many switches stand in one another
  pub switches_in : TStmt → ℕ
  switches_in (s.Evaluate e) = 0
  switches_in (s.Initialise i v) = 0
  switches_in (s.Block' b n all) = switches_in_all all
  switches_in (s.If' n branches p (more_of-TStmt a end_of-TStmt)) = max (switches_in_branches branches) (switches_in a)
  switches_in (s.While' e p (more_of-TStmt a end_of-TStmt)) = switches_in a
  switches_in (s.Do' p (more_of-TStmt a end_of-TStmt) e) = switches_in a
  switches_in (s.For' e f p (more_of-TStmt a end_of-TStmt)) = switches_in a
  switches_in (s.Switch' e b n parts) = suc (switches_in_parts parts)
  switches_in s.Break = 0
  switches_in s.Continue = 0
  switches_in (s.Return e) = 0

  pub switches_in_all : {n : _} → Row_of-TStmt n → ℕ
  switches_in_all end_of-TStmt = 0
  switches_in_all (more_of-TStmt a rest) = max (switches_in a) (switches_in_all rest)

  pub switches_in_branches : {n : _} → Row_of-Branch n → ℕ
  switches_in_branches end_of-Branch = 0
  switches_in_branches (more_of-Branch e a rest) = max (switches_in a) (switches_in_branches rest)

  pub switches_in_parts : {n : _} → Row_of-Part n → ℕ
  switches_in_parts end_of-Part = 0
  switches_in_parts (more_of-Part labels m body rest) = max (switches_in_all body) (switches_in_parts rest)

-- the objects of a function have the first variables by their numbers, the parameters before the others
abbrev pub objects_of : TFunction → ℕ
objects_of f = length f.parameters + declared_in f.body

-- behind them come one variable for each level of switches, and one for joins, and behind these the temporaries
abbrev pub variables_of : TFunction → ℕ
variables_of f = suc (objects_of f + switches_in f.body)

-- ---- functions

-- a parameter in memory gets its argument, which the variable of its number has (C11 6.9.1p9, p10)
abbrev pub argument_code : (number : ℕ) → Place → Option Scalar → Code → Code
argument_code n (place.Memory p) (Some k) code = write_code (place.Memory p) k (at.Var n) code
argument_code n (place.Memory p) None code = code
argument_code n (place.Variable x) k code = code

-- the parameters from one on (C11 6.9.1p7)
abbrev pub parameters_code : (number : ℕ) → List Object → Scope → Body → Declared
parameters_code n [] sc b = record { scope = sc; body = b }
parameters_code n (o ∷ os) sc b =
    let one = declared n o sc b in
    parameters_code (suc n) os one.scope (with_code (argument_code n (place_in one.scope n) o.scalar one.body.code) one.body)

-- a function before its parameters: no object, and no loop or switch around
abbrev pub outermost : TFunction → Scope
outermost f = record { places = []; level = objects_of f; breaks = 0; continues = 0 }

abbrev pub no_acts : TFunction → Body
no_acts f = record { code = record { acts = []; next = variables_of f }; locals = []; kept = 0; words = 0 }

-- main gives 0 at its closing brace (C11 5.1.2.2.3p1)
abbrev pub at_closing_brace : (is_main : Bool) → Code → Code
at_closing_brace true k = with_act (c.Return (Some (at.Word 0))) k
at_closing_brace false k = k

-- the parameters and the body
abbrev pub body_code : TFunction → Body
body_code f =
    let d = parameters_code 0 f.parameters (outermost f) (no_acts f) in statement_code f.body d.scope d.body

-- the size by which limits are counted: the tokens and one more, for each object in a variable, each level of joins and switches
-- of the source and one more, and the words of aggregates that have an initial value
abbrev pub size_of : (tokens kept joins words : ℕ) → ℕ
size_of tokens kept joins words = (tokens + 1) * (kept + joins + 1) + words

-- the core function of a definition, in whose source so many joins and switches stand in one another
abbrev pub function_code : TFunction → (joins : ℕ) → (is_main : Bool) → CoreFunction
function_code f joins is_main =
    let b = body_code f in let k = at_closing_brace is_main b.code in
    record { params = length f.parameters; vars = variables_of f; temps = k.next - variables_of f; locals = b.locals; body = k.acts; returns = is_some f.scalar; size = size_of f.tokens b.kept joins b.words; object_bytes = bytes_of_objects b.locals }

-- ---- static objects (C11 6.7.9p4, p10)

-- bytes from an offset on, one part for each
abbrev pub bytes_from : (offset : ℕ) → List ℕ → List Part
bytes_from n [] = []
bytes_from n (b ∷ bs) = record { offset = n; word = start.Byte b } ∷ bytes_from (suc n) bs

abbrev pub parts_of : StaticPart → List Part
parts_of (part.Bytes n bytes) = bytes_from n bytes
parts_of (part.Address n r o) = record { offset = n; word = start.Address r o } ∷ []

abbrev pub all_parts_of : List StaticPart → List Part
all_parts_of [] = []
all_parts_of (p ∷ ps) = parts_of p ++ all_parts_of ps

abbrev pub static_object : typed.StaticObject → core.StaticObject
static_object o = record { size = o.object.size; constant = o.object.constant; parts = all_parts_of o.parts }

-- ---- units

-- definitions from a number on, with how many joins and switches stand in one another in each
abbrev pub functions_code : (main number : ℕ) → List TFunction → (joins : List ℕ) → List CoreFunction
functions_code main n [] js = []
functions_code main n (f ∷ fs) [] = function_code f 0 (n == main) ∷ functions_code main (suc n) fs []
functions_code main n (f ∷ fs) (j ∷ js) = function_code f j (n == main) ∷ functions_code main (suc n) fs js

-- the core program of a unit
abbrev pub unit_code : Typed → (joins : List ℕ) → Program
unit_code u joins =
    record { functions = functions_code u.main 0 u.functions joins; objects = map static_object u.objects; main = u.main }
