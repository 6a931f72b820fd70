-- What a call of a core function does, and the run of a program.
use Rattle.std.specs.Prelude.{ℕ, ◌+◌, ◌-◌, ◌==◌, false, List, [], ◌∷◌, ◌++◌, length, Option, None, slice_get}
use Rattle.word_ops.specs.Store.{Value, Cell, Byte, Region, Store, new_region, unset_cells, zero_cells, end_regions}
use Rattle.word_ops.specs.Access.{pointer_cells, with_cells}
use Rattle.word_ops.specs.Run.{Outside, Run, Gives, Undefined, then_do, given, branch, nested, end_of_main}
use Rattle.word_ops.specs.Outcome.{Outcome, outcome_of, start}
use Rattle.core_lang.specs.declared.program.CoreFunction.{CoreFunction}
use Rattle.core_lang.specs.declared.program.Part.{Part}
use Rattle.core_lang.specs.declared.program.Program.{Program}
use Rattle.core_lang.specs.declared.program.Start.{Start}
use Rattle.core_lang.specs.declared.program.Start.TheVariants as st
use Rattle.core_lang.specs.declared.program.StaticObject.{StaticObject}
use Rattle.core_lang.specs.Layout.{Layout}
use Rattle.core_lang.specs.State.{State, Activation, argument}
use Rattle.core_lang.specs.Acts.{Invocation, Calls, Flow, Falls, Leaves, Returned, acts}

-- ---- a call

-- the local objects of an activation from a number on, by their sizes (C11 6.2.4p6)
abbrev pub local_regions : (address : ℕ → ℕ) → (number : ℕ) → (sizes : List ℕ) → Store
local_regions address k [] = []
local_regions address k (size ∷ sizes) =
    new_region false (address k) (unset_cells size) ∷ local_regions address (k + 1) sizes

-- where the frame of the called function begins, which is where the stack ends for the calls that it makes
abbrev pub frame_of : Layout → Invocation → ℕ
frame_of l c = c.stack - l.frame c.function

abbrev pub activation_of : Layout → Invocation → Activation
activation_of l c = record { first = length c.store; stack = frame_of l c }

-- the state as the called function begins: its local objects are new regions at the end of the store
abbrev pub first_state : Layout → Invocation → CoreFunction → State
first_state l c g = record { vars = argument c.arguments; store = c.store ++ local_regions (λ k. frame_of l c + l.local c.function k) 0 g.locals }

-- the value that a function gives back, where it gives one (C11 6.8.6.4p3)
abbrev pub value_given_back : Flow → Option Value
value_given_back (Returned v) = v
value_given_back Falls = None
value_given_back (Leaves k) = None

-- the called function runs, and behind it the lifetimes of its local objects are over (C11 6.2.4p6)
abbrev pub run_body : Layout → Calls → Invocation → CoreFunction → Outside → Run Store (Option Value)
run_body l call c g w =
    then_do (acts call (activation_of l c) g.body (first_state l c g) w) (λ s w f. Gives (end_regions s.store (length c.store) (length g.locals)) w (value_given_back f))

-- a function is called with as many arguments as it has parameters (C11 6.5.2.2p6)
abbrev pub run_function : Layout → Calls → Invocation → CoreFunction → Outside → Run Store (Option Value)
run_function l call c g w =
    branch (length c.arguments == g.params) (λ s w. run_body l call c g w) (λ s w. Undefined) c.store w

-- what a call does, told from what the calls that are made in it do
abbrev pub call_of : Layout → List CoreFunction → Calls → Calls
call_of l gs call c w = given (slice_get gs c.function) (λ g. run_function l call c g w)

-- what calls do that nest to a depth: one that is called at depth 0 is too deep
abbrev pub calls : Layout → List CoreFunction → (depth : ℕ) → Calls
calls l gs depth = nested (call_of l gs) depth

-- ---- a program

-- the cells of a part of a static object
abbrev pub cells_of_start : Start → List Cell
cells_of_start (st.Byte b) = Byte b ∷ []
cells_of_start (st.Address x o) = pointer_cells x o

abbrev pub with_parts : Region → List Part → Region
with_parts g [] = g
with_parts g (p ∷ ps) = with_parts (with_cells g p.offset (cells_of_start p.word)) ps

-- a static object as the program begins: what no part tells is zero (C11 6.7.9p10, p21)
abbrev pub static_region : (address : ℕ) → StaticObject → Region
static_region address x = with_parts (new_region x.constant address (zero_cells x.size)) x.parts

-- the static objects from a number on; an object's region has its number
abbrev pub static_regions : (address : ℕ → ℕ) → (number : ℕ) → List StaticObject → Store
static_regions address k [] = []
static_regions address k (x ∷ xs) = static_region (address k) x ∷ static_regions address (k + 1) xs

-- the first call of main (C11 5.1.2.2.1p1)
abbrev pub first_call : Layout → Program → Invocation
first_call l p = record { function = p.main; arguments = []; stack = l.top; store = static_regions l.static 0 p.objects }

-- the whole program from a moment on: main has depth 1
abbrev pub program_from : Layout → Program → (depth : ℕ) → Outside → Run Store (Option Value)
program_from l p depth w = end_of_main (calls l p.functions depth (first_call l p) w)

-- the outcome of a program on an input, with a depth and a clock, or none where it is undefined within that clock
abbrev pub run_of_core : Layout → Program → (input : List ℕ) (depth clock : ℕ) → Option Outcome
run_of_core l p input depth clock = outcome_of input clock (program_from l p depth (start input clock))
