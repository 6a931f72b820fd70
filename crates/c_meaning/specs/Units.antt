-- What functions and a whole unit do (C11 6.9, 5.1.2.2).
use Rattle.std.specs.Prelude.{ℕ, Bool, true, false, ◌==◌, List, [], ◌∷◌, ◌++◌, length, map, Option, Some, None, slice_get}
use Rattle.std.specs.Option.{option_and_then}
use Rattle.word_ops.specs.Choice.{when}
use Rattle.word_ops.specs.Store.{Value, Number, Pointer, Byte, Region, Store, new_region, zero_cells, end_regions}
use Rattle.word_ops.specs.Access.{is_kept_by, initialise, pointer_cells, with_cells}
use Rattle.word_ops.specs.Run.{Outside, Run, Gives, then_do, given, nested, end_of_main}
use Rattle.word_ops.specs.Outcome.{Outcome, start, outcome_of}
use Rattle.c_tree.specs.declared.typed.operator.Scalar.{Scalar}
use Rattle.c_tree.specs.declared.typed.unit.Object.{Object}
use Rattle.c_tree.specs.declared.typed.unit.StaticPart.{StaticPart}
use Rattle.c_tree.specs.declared.typed.unit.StaticPart.TheVariants as part
use Rattle.c_tree.specs.declared.typed.unit.StaticObject.{StaticObject}
use Rattle.c_tree.specs.declared.typed.unit.TFunction.{TFunction}
use Rattle.c_tree.specs.declared.typed.unit.Typed.{Typed}
use Rattle.c_tree.specs.TypedKinds.{width_of}
use Rattle.c_meaning.specs.Environment.{with_objects}
use Rattle.c_meaning.specs.Expressions.{Invocation, Calls}
use Rattle.c_meaning.specs.Statements.{Done, Normal, Breaks, Continues, Returns, new_object, statement}

-- ---- static objects

-- an object with something else in a part of it (C11 6.7.9p4, p10)
abbrev pub with_part : Region → StaticPart → Region
with_part g (part.Bytes n bytes) = with_cells g n (map Byte bytes)
with_part g (part.Address n r o) = with_cells g n (pointer_cells r o)

-- the same with several parts
abbrev pub with_parts : Region → List StaticPart → Region
with_parts g [] = g
with_parts g (p ∷ ps) = with_parts (with_part g p) ps

-- a static object as the program begins: zero but for its parts (C11 6.2.4p3, 6.7.9p10)
abbrev pub static_object : StaticObject → Region
static_object o = with_parts (new_region o.object.constant 0 (zero_cells o.object.size)) o.parts

-- the store as the program begins: its static objects, by their numbers (C11 5.1.2p1)
abbrev pub static_store : Typed → Store
static_store u = map static_object u.objects

-- ---- functions

-- a parameter is an object whose initial value is the argument (C11 6.5.2.2p4, 6.9.1p9, p10); an argument that is no value of
-- its type has no place there
abbrev pub with_argument : Object → Value → Store → Option Scalar → Option Store
with_argument o v st None = None
with_argument o v st (Some k) =
    when (is_kept_by (width_of k) v) (initialise (st ++ new_object o ∷ []) (width_of k) (Pointer (length st) 0) v)

-- the store with the parameters of a function, where there are as many arguments (C11 6.5.2.2p6)
abbrev pub with_arguments : List Object → List Value → Store → Option Store
with_arguments [] [] st = Some st
with_arguments (o ∷ os) (v ∷ vs) st = option_and_then (with_arguments os vs) (with_argument o v st o.scalar)
with_arguments [] (v ∷ vs) st = None
with_arguments (o ∷ os) [] st = None

-- the value that a function gives where its closing brace is reached: 0 for main, and none for others (C11 5.1.2.2.3p1,
-- 6.9.1p12)
abbrev pub at_closing_brace : (is_main : Bool) → Option Value
at_closing_brace true = Some (Number 0)
at_closing_brace false = None

-- the value that a function gives by the way in which its body is left (C11 6.8.6.4p3)
abbrev pub value_of_body : (is_main : Bool) → Done → Option Value
value_of_body is_main (Returns v) = v
value_of_body is_main Normal = at_closing_brace is_main
value_of_body is_main Breaks = at_closing_brace is_main
value_of_body is_main Continues = at_closing_brace is_main

-- the body of a function, in a store that has its parameters from a number on, to the end of their lifetimes
abbrev pub body_run : Calls → (statics : ℕ) → TFunction → (is_main : Bool) → (first : ℕ) → Store → Outside →
    Run Store (Option Value)
body_run call statics f is_main first st w =
    then_do (statement call f.body (with_objects (record { statics = statics; objects = [] }) first (length f.parameters)) st w) (λ st w d. Gives (end_regions st first (length f.parameters)) w (value_of_body is_main d))

-- what a call of a function does, by what the calls in it do (C11 6.9.1p7 to p12)
abbrev pub function_run : Typed → Calls → Invocation → Outside → Run Store (Option Value)
function_run u call c w =
    given (slice_get u.functions c.function) (λ f. given (with_arguments f.parameters c.arguments c.store) (λ st. body_run call (length u.objects) f (c.function == u.main) (length c.store) st w))

-- what calls do that may nest to a depth (the profile's depth; C11 6.5.2.2p11)
abbrev pub calls : Typed → (depth : ℕ) → Calls
calls u depth = nested (function_run u) depth

-- ---- the unit

-- the first call of main (C11 5.1.2.2.1)
abbrev pub first_call : Typed → Invocation
first_call u = record { function = u.main; arguments = []; store = static_store u }

-- a unit from the first call of main to its end: the first call has depth 1 (C11 5.1.2.2.3)
abbrev pub run_of_unit : Typed → (depth : ℕ) → Outside → Run Store (Option Value)
run_of_unit u depth w = end_of_main (calls u depth (first_call u) w)

-- what is seen of it: how it ended, its output, and the ticks and the bytes of input that it took; none where it is undefined
abbrev pub outcome_of_unit : Typed → (input : List ℕ) (depth clock : ℕ) → Option Outcome
outcome_of_unit u input depth clock = outcome_of input clock (run_of_unit u depth (start input clock))
