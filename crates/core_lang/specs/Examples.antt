-- Examples, each computed from the definitions.
use Rattle.std.specs.Prelude.{◌≡◌, ℕ, ◌+◌, ◌*◌, true, false, List, [], ◌∷◌, Option, Some, None}
use Rattle.std.proofs.Common.{refl}
use Rattle.word_ops.specs.declared.operation.Op.TheVariants as op
use Rattle.word_ops.specs.declared.operation.Width.TheVariants as width
use Rattle.word_ops.specs.Run.{End, Exit, Deep, More}
use Rattle.word_ops.specs.Outcome.{Outcome}
use Rattle.core_lang.specs.declared.act.Atom.TheVariants as at
use Rattle.core_lang.specs.declared.act.PointerOp.TheVariants as pointer
use Rattle.core_lang.specs.declared.act.Core.{Core}
use Rattle.core_lang.specs.declared.act.Core.TheVariants as c
use Rattle.core_lang.specs.declared.program.CoreFunction.{CoreFunction}
use Rattle.core_lang.specs.declared.program.Program.{Program}
use Rattle.core_lang.specs.declared.program.Start.TheVariants as st
use Rattle.core_lang.specs.declared.program.StaticObject.{StaticObject}
use Rattle.core_lang.specs.Layout.{Layout}
use Rattle.core_lang.specs.Run.{run_of_core}

-- what a computed example opens
unfoldable pub computed : Type 0
unfolding Rattle.core_lang.specs.declared.act.Core.TheBlock.hidden-the_row-Core-0 denote.Hole.Carrier.hidden
computed = Unit {0}

-- ---- the program in which the examples run

-- objects lie 64 bytes apart, and so do frames
abbrev pub spacious : Layout
spacious = record { static = λ x. 65536 + 64 * x; top = 1048576; frame = λ f. 64; local = λ f x. 16 * x }

-- int down(int n) { if (n) return down(n - 1); return 7; }
unfoldable pub down : CoreFunction
down = record { params = 1; vars = 1; temps = 2; locals = []; body = c.If (at.Var 0) (c.Operate 1 op.Subs (at.Var 0) (at.Word 1) ∷ c.Call (Some 2) 1 (at.Var 1 ∷ []) ∷ c.Return (Some (at.Var 2)) ∷ []) [] ∷ c.Return (Some (at.Word 7)) ∷ []; returns = true; size = 0; object_bytes = 0 }

-- int *own(void) { int x = 7; return &x; }
unfoldable pub own : CoreFunction
own = record { params = 0; vars = 0; temps = 0; locals = 4 ∷ []; body = c.Enter 0 ∷ c.Store width.Word (at.Local 0) (at.Word 7) ∷ c.Return (Some (at.Local 0)) ∷ []; returns = true; size = 0; object_bytes = 16 }

-- void swap(int *p, int *q) { int t = *p; *p = *q; *q = t; }
unfoldable pub swap : CoreFunction
swap = record { params = 2; vars = 2; temps = 2; locals = []; body = c.Load 2 width.Word (at.Var 0) ∷ c.Load 3 width.Word (at.Var 1) ∷ c.Store width.Word (at.Var 0) (at.Var 3) ∷ c.Store width.Word (at.Var 1) (at.Var 2) ∷ []; returns = false; size = 0; object_bytes = 0 }

-- the string "hi", and int *table[2] whose second pointer leads to the first object's second byte
unfoldable pub objects : List StaticObject
objects = record { size = 3; constant = true; parts = record { offset = 0; word = st.Byte 104 } ∷ record { offset = 1; word = st.Byte 105 } ∷ [] } ∷ record { size = 8; constant = false; parts = record { offset = 4; word = st.Address 0 1 } ∷ [] } ∷ []

-- main has 4 variables, 8 temporaries, and two objects of 8 bytes and one of 4; down is function 1, own 2, swap 3
unfoldable pub program : List Core → Program
program body = record { functions = record { params = 0; vars = 4; temps = 8; locals = 8 ∷ 8 ∷ 4 ∷ []; body = body; returns = true; size = 0; object_bytes = 0 } ∷ down ∷ own ∷ swap ∷ []; objects = objects; main = 0 }

-- the outcome of a body of main on an input, with a depth and a clock
abbrev pub outcome : List Core → (input : List ℕ) (depth clock : ℕ) → Option Outcome
outcome body input depth clock = run_of_core spacious (program body) input depth clock

-- an end with its output, its ticks and the bytes of input that it took
abbrev pub ends : End → (output : List ℕ) (ticks taken : ℕ) → Option Outcome
ends e output ticks taken = Some (record { end = e; output = output; ticks = ticks; taken = taken })

abbrev pub undefined : Option Outcome
undefined = None

-- a body that ends with the status 9 behind what is looked at
abbrev pub then_nine : List Core
then_nine = c.Exit (at.Word 9) ∷ []

-- ---- loops, blocks and breaks

-- s = 0; i = 0; while (i < 10) { s = s + i; i = i + 1; } return s;
unfoldable pub sum : List Core
sum = c.Move 0 (at.Word 0) ∷ c.Move 1 (at.Word 0) ∷ c.Loop (c.Operate 4 op.Lts (at.Var 1) (at.Word 10) ∷ c.If (at.Var 4) (c.Operate 5 op.Adds (at.Var 0) (at.Var 1) ∷ c.Move 0 (at.Var 5) ∷ c.Operate 6 op.Adds (at.Var 1) (at.Word 1) ∷ c.Move 1 (at.Var 6) ∷ []) (c.Break 0 ∷ []) ∷ []) ∷ c.Return (Some (at.Var 0)) ∷ []

-- a tick before each iteration but the first, of which there are 11
pub sum_ends : outcome sum [] 1 100 ≡ ends (Exit 45) [] 10 0
unfolding computed program down own swap objects sum
sum_ends = refl

-- the clock is enough with 10 ticks, and cuts the loop with 9
pub sum_just_ends : outcome sum [] 1 10 ≡ ends (Exit 45) [] 10 0
unfolding computed program down own swap objects sum
sum_just_ends = refl

pub sum_is_cut : outcome sum [] 1 9 ≡ ends More [] 9 0
unfolding computed program down own swap objects sum
sum_is_cut = refl

-- a = 1; b = 2; n = getchar() - '0'; while (n) { t = a; a = b; b = t; n = n - 1; } return a;
pub swaps : List Core
swaps = c.Move 0 (at.Word 1) ∷ c.Move 1 (at.Word 2) ∷ c.Get 4 ∷ c.Operate 5 op.Subs (at.Var 4) (at.Word 48) ∷ c.Move 3 (at.Var 5) ∷ c.Loop (c.If (at.Var 3) (c.Move 2 (at.Var 0) ∷ c.Move 0 (at.Var 1) ∷ c.Move 1 (at.Var 2) ∷ c.Operate 6 op.Subs (at.Var 3) (at.Word 1) ∷ c.Move 3 (at.Var 6) ∷ []) (c.Break 0 ∷ []) ∷ []) ∷ c.Return (Some (at.Var 0)) ∷ []

-- three swaps on the input 3, four on the input 4
pub swaps_odd : outcome swaps (51 ∷ []) 1 100 ≡ ends (Exit 2) [] 4 1
unfolding computed program down own swap objects swaps
swaps_odd = refl

pub swaps_even : outcome swaps (52 ∷ []) 1 100 ≡ ends (Exit 1) [] 5 1
unfolding computed program down own swap objects swaps
swaps_even = refl

-- three blocks in one another, left by a break of so many, with a byte put behind each
pub breaks : (k : ℕ) → List Core
breaks k = c.Block (c.Block (c.Block (c.Break k ∷ c.Put (at.Word 100) ∷ []) ∷ c.Put (at.Word 99) ∷ []) ∷ c.Put (at.Word 98) ∷ []) ∷ c.Put (at.Word 97) ∷ then_nine

-- Break(0) leaves the innermost block alone, Break(2) all three
pub break_one : outcome (breaks 0) [] 1 100 ≡ ends (Exit 9) (99 ∷ 98 ∷ 97 ∷ []) 3 0
unfolding computed program down own swap objects breaks
break_one = refl

pub break_two : outcome (breaks 1) [] 1 100 ≡ ends (Exit 9) (98 ∷ 97 ∷ []) 2 0
unfolding computed program down own swap objects breaks
break_two = refl

pub break_three : outcome (breaks 2) [] 1 100 ≡ ends (Exit 9) (97 ∷ []) 1 0
unfolding computed program down own swap objects breaks
break_three = refl

-- for (;;) for (;;) break out of both
pub nested_loops : List Core
nested_loops = c.Loop (c.Loop (c.Put (at.Word 97) ∷ c.Break 1 ∷ []) ∷ c.Put (at.Word 98) ∷ []) ∷ then_nine

-- a break leaves two loops at once, and what follows the inner one is not run
pub break_loops : outcome nested_loops [] 1 100 ≡ ends (Exit 9) (97 ∷ []) 1 0
unfolding computed program down own swap objects nested_loops
break_loops = refl

-- while (1);
pub forever : List Core
forever = c.Loop [] ∷ []

-- an empty loop takes all ticks
pub forever_is_cut : outcome forever [] 1 1000 ≡ ends More [] 1000 0
unfolding computed program down own swap objects forever
forever_is_cut = refl

-- nothing
pub falls : List Core
falls = []

-- the closing brace of main is a return of 0
pub falls_ends : outcome falls [] 1 0 ≡ ends (Exit 0) [] 0 0
unfolding computed program down own swap objects falls
falls_ends = refl

-- ---- calls

-- return down(2);
pub recursion : List Core
recursion = c.Call (Some 4) 1 (at.Word 2 ∷ []) ∷ c.Return (Some (at.Var 4)) ∷ []

-- main has depth 1, so down(2) needs depth 4; each call takes a tick, also the one that is too deep
pub recursion_ends : outcome recursion [] 4 100 ≡ ends (Exit 7) [] 3 0
unfolding computed program down own swap objects recursion
recursion_ends = refl

pub recursion_is_deep : outcome recursion [] 3 100 ≡ ends Deep [] 3 0
unfolding computed program down own swap objects recursion
recursion_is_deep = refl

pub recursion_is_cut : outcome recursion [] 4 2 ≡ ends More [] 2 0
unfolding computed program down own swap objects recursion
recursion_is_cut = refl

-- with depth 0 main itself is too deep
pub main_is_deep : outcome recursion [] 0 100 ≡ ends Deep [] 0 0
unfolding computed program down own swap objects recursion
main_is_deep = refl

-- int a[2] = { 1, 2 }; swap(&a[0], &a[1]); return a[0];
pub swapped : List Core
swapped = c.Enter 0 ∷ c.Store width.Word (at.Local 0) (at.Word 1) ∷ c.Pointer 4 pointer.Offset (at.Local 0) (at.Word 4) ∷ c.Store width.Word (at.Var 4) (at.Word 2) ∷ c.Call None 3 (at.Local 0 ∷ at.Var 4 ∷ []) ∷ c.Load 5 width.Word (at.Local 0) ∷ c.Return (Some (at.Var 5)) ∷ []

-- pointers reach the objects of the caller
pub swapped_ends : outcome swapped [] 2 100 ≡ ends (Exit 2) [] 1 0
unfolding computed program down own swap objects swapped
swapped_ends = refl

-- the value of swap(..), which gives none
pub uses_nothing : List Core
uses_nothing = c.Enter 0 ∷ c.Fill 0 ∷ c.Call (Some 4) 3 (at.Local 0 ∷ at.Local 0 ∷ []) ∷ then_nine

-- a value that was not given may not be used, and may be dropped
pub uses_nothing_undefined : outcome uses_nothing [] 2 100 ≡ undefined
unfolding computed program down own swap objects uses_nothing
uses_nothing_undefined = refl

pub drops_nothing : List Core
drops_nothing = c.Enter 0 ∷ c.Fill 0 ∷ c.Call None 3 (at.Local 0 ∷ at.Local 0 ∷ []) ∷ then_nine

pub drops_nothing_ends : outcome drops_nothing [] 2 100 ≡ ends (Exit 9) [] 1 0
unfolding computed program down own swap objects drops_nothing
drops_nothing_ends = refl

-- swap(&a), which takes two
pub calls_with_one : List Core
calls_with_one = c.Call None 3 (at.Local 0 ∷ []) ∷ then_nine

-- a function is called with as many arguments as it has parameters
pub calls_with_one_undefined : outcome calls_with_one [] 2 100 ≡ undefined
unfolding computed program down own swap objects calls_with_one
calls_with_one_undefined = refl

-- a function that is not there
pub calls_none : List Core
calls_none = c.Call None 9 [] ∷ then_nine

pub calls_none_undefined : outcome calls_none [] 2 100 ≡ undefined
unfolding computed program down own swap objects calls_none
calls_none_undefined = refl

-- ---- operations

-- return 7 / b;
pub divides : (b : ℕ) → List Core
divides b = c.Operate 4 op.Divs (at.Word 7) (at.Word b) ∷ c.Return (Some (at.Var 4)) ∷ []

-- a division by 0 and one by 2
pub divides_by_zero : outcome (divides 0) [] 1 0 ≡ undefined
unfolding computed program down own swap objects divides
divides_by_zero = refl

pub divides_by_two : outcome (divides 2) [] 1 0 ≡ ends (Exit 3) [] 0 0
unfolding computed program down own swap objects divides
divides_by_two = refl

-- return 2147483600 + b;
pub adds : (b : ℕ) → List Core
adds b = c.Operate 4 op.Adds (at.Word 2147483600) (at.Word b) ∷ c.Return (Some (at.Var 4)) ∷ []

-- a signed sum of 2^31, and one of 2^31 - 1, which has the low byte 255
pub adds_too_much : outcome (adds 48) [] 1 0 ≡ undefined
unfolding computed program down own swap objects adds
adds_too_much = refl

pub adds_just_enough : outcome (adds 47) [] 1 0 ≡ ends (Exit 255) [] 0 0
unfolding computed program down own swap objects adds
adds_just_enough = refl

-- return 1u << b;
pub shifts : (b : ℕ) → List Core
shifts b = c.Operate 4 op.Shl (at.Word 1) (at.Word b) ∷ c.Return (Some (at.Var 4)) ∷ []

-- a shift by 32 and one by 31; the low byte of 2^31 is 0
pub shifts_too_far : outcome (shifts 32) [] 1 0 ≡ undefined
unfolding computed program down own swap objects shifts
shifts_too_far = refl

pub shifts_far : outcome (shifts 31) [] 1 0 ≡ ends (Exit 0) [] 0 0
unfolding computed program down own swap objects shifts
shifts_far = refl

-- a pointer to an object of 8 bytes, moved by so many
pub moves : (n : ℕ) → List Core
moves n = c.Pointer 4 pointer.Offset (at.Local 0) (at.Word n) ∷ then_nine

-- one past the end of an object, and one place further
pub moves_too_far : outcome (moves 9) [] 1 0 ≡ undefined
unfolding computed program down own swap objects moves
moves_too_far = refl

pub moves_to_end : outcome (moves 8) [] 1 0 ≡ ends (Exit 9) [] 0 0
unfolding computed program down own swap objects moves
moves_to_end = refl

-- whether the address of one object is below that of an object
pub compares : (x : ℕ) → List Core
compares x = c.Pointer 4 pointer.Before (at.Local 0) (at.Local x) ∷ c.Return (Some (at.Var 4)) ∷ []

-- the order of places within one object, and none of two objects
pub compares_objects : outcome (compares 1) [] 1 0 ≡ undefined
unfolding computed program down own swap objects compares
compares_objects = refl

pub compares_places : outcome (compares 0) [] 1 0 ≡ ends (Exit 0) [] 0 0
unfolding computed program down own swap objects compares
compares_places = refl

-- -2^31 divided by a number
pub divides_least : (b : ℕ) → List Core
divides_least b = c.Operate 4 op.Divs (at.Word 2147483648) (at.Word b) ∷ c.Return (Some (at.Var 4)) ∷ []

-- by -1 it is 2^31, which is no int, and by 1 itself, whose low byte is 0
pub divides_least_by_minus_one : outcome (divides_least 4294967295) [] 1 0 ≡ undefined
unfolding computed program down own swap objects divides_least
divides_least_by_minus_one = refl

pub divides_least_by_one : outcome (divides_least 1) [] 1 0 ≡ ends (Exit 0) [] 0 0
unfolding computed program down own swap objects divides_least
divides_least_by_one = refl

-- 1 << b
pub shifts_signed : (b : ℕ) → List Core
shifts_signed b = c.Operate 4 op.Shls (at.Word 1) (at.Word b) ∷ c.Return (Some (at.Var 4)) ∷ []

-- a signed shift does not reach the sign
pub shifts_into_sign : outcome (shifts_signed 31) [] 1 0 ≡ undefined
unfolding computed program down own swap objects shifts_signed
shifts_into_sign = refl

pub shifts_below_sign : outcome (shifts_signed 30) [] 1 0 ≡ ends (Exit 0) [] 0 0
unfolding computed program down own swap objects shifts_signed
shifts_below_sign = refl

-- one past the end of the first object, minus an object
pub differs : (x : ℕ) → List Core
differs x = c.Pointer 4 pointer.Offset (at.Local 0) (at.Word 8) ∷ c.Pointer 5 pointer.Difference (at.Var 4) (at.Local x) ∷ c.Return (Some (at.Var 5)) ∷ []

-- there is a difference within one object, and none between two
pub differs_between_objects : outcome (differs 1) [] 1 0 ≡ undefined
unfolding computed program down own swap objects differs
differs_between_objects = refl

pub differs_within_object : outcome (differs 0) [] 1 0 ≡ ends (Exit 8) [] 0 0
unfolding computed program down own swap objects differs
differs_within_object = refl

-- ---- objects

-- a local object of 8 bytes is entered, 4 of them are stored, and a word is read from an offset on
pub reads_new : (o : ℕ) → List Core
reads_new o = c.Enter 0 ∷ c.Store width.Word (at.Local 0) (at.Word 7) ∷ c.Pointer 4 pointer.Offset (at.Local 0) (at.Word o) ∷ c.Load 5 width.Word (at.Var 4) ∷ c.Return (Some (at.Var 5)) ∷ []

-- a cell that was not stored since the object was entered is Unset
pub reads_unset : outcome (reads_new 4) [] 1 0 ≡ undefined
unfolding computed program down own swap objects reads_new
reads_unset = refl

pub reads_stored : outcome (reads_new 0) [] 1 0 ≡ ends (Exit 7) [] 0 0
unfolding computed program down own swap objects reads_new
reads_stored = refl

-- a word is read at multiples of 4, and inside the object
pub reads_misaligned : outcome (reads_new 2) [] 1 0 ≡ undefined
unfolding computed program down own swap objects reads_new
reads_misaligned = refl

pub reads_outside : outcome (reads_new 8) [] 1 0 ≡ undefined
unfolding computed program down own swap objects reads_new
reads_outside = refl

-- an object is entered, stored, entered anew, and read
pub enters_twice : List Core
enters_twice = c.Enter 0 ∷ c.Store width.Word (at.Local 0) (at.Word 7) ∷ c.Enter 0 ∷ c.Load 4 width.Word (at.Local 0) ∷ c.Return (Some (at.Var 4)) ∷ []

-- at each entry an object is new
pub enters_anew : outcome enters_twice [] 1 0 ≡ undefined
unfolding computed program down own swap objects enters_twice
enters_anew = refl

pub enters_other : List Core
enters_other = c.Enter 0 ∷ c.Store width.Word (at.Local 0) (at.Word 7) ∷ c.Enter 1 ∷ c.Load 4 width.Word (at.Local 0) ∷ c.Return (Some (at.Var 4)) ∷ []

pub enters_another : outcome enters_other [] 1 0 ≡ ends (Exit 7) [] 0 0
unfolding computed program down own swap objects enters_other
enters_another = refl

-- an object is filled and then its last byte is read
pub fills : List Core
fills = c.Enter 0 ∷ c.Fill 0 ∷ c.Pointer 4 pointer.Offset (at.Local 0) (at.Word 7) ∷ c.Load 5 width.U8 (at.Var 4) ∷ c.Return (Some (at.Var 5)) ∷ []

-- a filled object is zero
pub filled : outcome fills [] 1 0 ≡ ends (Exit 0) [] 0 0
unfolding computed program down own swap objects fills
filled = refl

-- int *p = own(); and *p is read, or not
pub reads_dead : List Core
reads_dead = c.Call (Some 4) 2 [] ∷ c.Load 5 width.Word (at.Var 4) ∷ c.Return (Some (at.Var 5)) ∷ []

-- an object of a function is dead behind the call; its address alone may be kept
pub reads_dead_undefined : outcome reads_dead [] 2 100 ≡ undefined
unfolding computed program down own swap objects reads_dead
reads_dead_undefined = refl

pub keeps_dead : List Core
keeps_dead = c.Call (Some 4) 2 [] ∷ c.Move 0 (at.Var 4) ∷ then_nine

pub keeps_dead_ends : outcome keeps_dead [] 2 100 ≡ ends (Exit 9) [] 1 0
unfolding computed program down own swap objects keeps_dead
keeps_dead_ends = refl

-- "hi"[1], and the byte behind
pub reads_string : List Core
reads_string = c.Pointer 4 pointer.Offset (at.Global 0) (at.Word 1) ∷ c.Load 5 width.U8 (at.Var 4) ∷ c.Return (Some (at.Var 5)) ∷ []

-- a string may be read
pub reads_string_ends : outcome reads_string [] 1 0 ≡ ends (Exit 105) [] 0 0
unfolding computed program down own swap objects reads_string
reads_string_ends = refl

-- "hi"[0] = 72;
pub writes_string : List Core
writes_string = c.Store width.U8 (at.Global 0) (at.Word 72) ∷ then_nine

-- and not written, where an object that is not constant may be
pub writes_string_undefined : outcome writes_string [] 1 0 ≡ undefined
unfolding computed program down own swap objects writes_string
writes_string_undefined = refl

pub writes_table : List Core
writes_table = c.Store width.U8 (at.Global 1) (at.Word 72) ∷ then_nine

pub writes_table_ends : outcome writes_table [] 1 0 ≡ ends (Exit 9) [] 0 0
unfolding computed program down own swap objects writes_table
writes_table_ends = refl

-- *table[1]
pub follows_table : List Core
follows_table = c.Pointer 4 pointer.Offset (at.Global 1) (at.Word 4) ∷ c.Load 5 width.Word (at.Var 4) ∷ c.Load 6 width.U8 (at.Var 5) ∷ c.Return (Some (at.Var 6)) ∷ []

-- a static object may hold an address as the program begins
pub follows_table_ends : outcome follows_table [] 1 0 ≡ ends (Exit 105) [] 0 0
unfolding computed program down own swap objects follows_table
follows_table_ends = refl

-- *table[0], which is null
pub through_null : List Core
through_null = c.Load 4 width.Word (at.Global 1) ∷ c.Load 5 width.U8 (at.Var 4) ∷ c.Return (Some (at.Var 5)) ∷ []

-- the null pointer leads nowhere, and may be compared
pub through_null_undefined : outcome through_null [] 1 0 ≡ undefined
unfolding computed program down own swap objects through_null
through_null_undefined = refl

-- return table[0] == 0;
pub is_null : List Core
is_null = c.Load 4 width.Word (at.Global 1) ∷ c.Pointer 5 pointer.Equal (at.Var 4) (at.Word 0) ∷ c.Return (Some (at.Var 5)) ∷ []

pub is_null_ends : outcome is_null [] 1 0 ≡ ends (Exit 1) [] 0 0
unfolding computed program down own swap objects is_null
is_null_ends = refl

-- if (own()) exit(1); exit(2);
pub tests_dead : List Core
tests_dead = c.Call (Some 4) 2 [] ∷ c.If (at.Var 4) (c.Exit (at.Word 1) ∷ []) (c.Exit (at.Word 2) ∷ []) ∷ []

-- a pointer to a dead object has no truth, and one to a live object is true
pub tests_dead_undefined : outcome tests_dead [] 2 100 ≡ undefined
unfolding computed program down own swap objects tests_dead
tests_dead_undefined = refl

pub tests_live : List Core
tests_live = c.If (at.Local 0) (c.Exit (at.Word 1) ∷ []) (c.Exit (at.Word 2) ∷ []) ∷ []

pub tests_live_true : outcome tests_live [] 1 0 ≡ ends (Exit 1) [] 0 0
unfolding computed program down own swap objects tests_live
tests_live_true = refl

-- return own() == 0;
pub compares_dead : List Core
compares_dead = c.Call (Some 4) 2 [] ∷ c.Pointer 5 pointer.Equal (at.Var 4) (at.Word 0) ∷ c.Return (Some (at.Var 5)) ∷ []

-- nor is it compared, as one to a live object may be
pub compares_dead_undefined : outcome compares_dead [] 2 100 ≡ undefined
unfolding computed program down own swap objects compares_dead
compares_dead_undefined = refl

pub compares_live : List Core
compares_live = c.Pointer 5 pointer.Equal (at.Local 0) (at.Word 0) ∷ c.Return (Some (at.Var 5)) ∷ []

pub compares_live_ends : outcome compares_live [] 1 0 ≡ ends (Exit 0) [] 0 0
unfolding computed program down own swap objects compares_live
compares_live_ends = refl

-- a pointer is stored, and then a byte of it is read, or the whole
pub reads_pointer : List Core
reads_pointer = c.Enter 0 ∷ c.Store width.Word (at.Local 0) (at.Local 1) ∷ c.Load 4 width.U8 (at.Local 0) ∷ then_nine

-- a part of a pointer is not read, and the whole is
pub reads_part : outcome reads_pointer [] 1 0 ≡ undefined
unfolding computed program down own swap objects reads_pointer
reads_part = refl

pub reads_whole : List Core
reads_whole = c.Enter 0 ∷ c.Store width.Word (at.Local 0) (at.Local 1) ∷ c.Load 4 width.Word (at.Local 0) ∷ c.Pointer 5 pointer.Equal (at.Var 4) (at.Local 1) ∷ c.Return (Some (at.Var 5)) ∷ []

pub reads_whole_ends : outcome reads_whole [] 1 0 ≡ ends (Exit 1) [] 0 0
unfolding computed program down own swap objects reads_whole
reads_whole_ends = refl

pub stores_pointer : List Core
stores_pointer = c.Store width.U16 (at.Local 0) (at.Local 1) ∷ then_nine

-- nor is a part stored
pub stores_part : outcome stores_pointer [] 1 0 ≡ undefined
unfolding computed program down own swap objects stores_pointer
stores_part = refl

-- ---- copies

-- table is copied in units of so many bytes, and the copy's second pointer is followed
pub copies : (unit : ℕ) → List Core
copies unit = c.Enter 0 ∷ c.Copy (at.Local 0) (at.Global 1) 8 unit ∷ c.Pointer 4 pointer.Offset (at.Local 0) (at.Word 4) ∷ c.Load 5 width.Word (at.Var 4) ∷ c.Load 6 width.U8 (at.Var 5) ∷ c.Return (Some (at.Var 6)) ∷ []

-- a pointer is copied whole in a unit of 4 bytes, and in part it is not
pub copies_pointers : outcome (copies 4) [] 1 0 ≡ ends (Exit 105) [] 0 0
unfolding computed program down own swap objects copies
copies_pointers = refl

pub copies_parts : outcome (copies 1) [] 1 0 ≡ undefined
unfolding computed program down own swap objects copies
copies_parts = refl

-- the other pointer of the copy is null
pub copies_bytes : (unit : ℕ) → List Core
copies_bytes unit = c.Enter 0 ∷ c.Copy (at.Local 0) (at.Global 1) 8 unit ∷ c.Load 4 width.Word (at.Local 0) ∷ c.Pointer 5 pointer.Equal (at.Var 4) (at.Word 0) ∷ c.Return (Some (at.Var 5)) ∷ []

-- bytes are copied in any unit
pub copies_bytes_ends : outcome (copies_bytes 2) [] 1 0 ≡ ends (Exit 1) [] 0 0
unfolding computed program down own swap objects copies_bytes
copies_bytes_ends = refl

-- 4 bytes of an object of 8 are copied on, from offset 0 to one
pub copies_on : (o : ℕ) → List Core
copies_on o = c.Enter 0 ∷ c.Fill 0 ∷ c.Pointer 4 pointer.Offset (at.Local 0) (at.Word o) ∷ c.Copy (at.Var 4) (at.Local 0) 4 2 ∷ then_nine

-- an overlap in part is undefined, a copy onto itself or beside is not
pub copies_overlapping : outcome (copies_on 2) [] 1 0 ≡ undefined
unfolding computed program down own swap objects copies_on
copies_overlapping = refl

pub copies_onto_itself : outcome (copies_on 0) [] 1 0 ≡ ends (Exit 9) [] 0 0
unfolding computed program down own swap objects copies_on
copies_onto_itself = refl

pub copies_beside : outcome (copies_on 4) [] 1 0 ≡ ends (Exit 9) [] 0 0
unfolding computed program down own swap objects copies_on
copies_beside = refl

-- ---- the outside

-- putchar(getchar()); return getchar();
pub echoes : List Core
echoes = c.Get 4 ∷ c.Put (at.Var 4) ∷ c.Get 5 ∷ c.Return (Some (at.Var 5)) ∷ []

-- at the end of the input -1 is got, whose low byte is 255; a tick follows each
pub gets_the_end : outcome echoes (65 ∷ []) 1 100 ≡ ends (Exit 255) (65 ∷ []) 3 1
unfolding computed program down own swap objects echoes
gets_the_end = refl

-- a byte is taken and put before the tick that follows it
pub puts_before_a_tick : outcome echoes (65 ∷ []) 1 1 ≡ ends More (65 ∷ []) 1 1
unfolding computed program down own swap objects echoes
puts_before_a_tick = refl

pub gets_before_a_tick : outcome echoes (65 ∷ []) 1 0 ≡ ends More [] 0 1
unfolding computed program down own swap objects echoes
gets_before_a_tick = refl

-- what is not taken is left
pub leaves_input : outcome echoes (65 ∷ 66 ∷ 67 ∷ []) 1 100 ≡ ends (Exit 66) (65 ∷ []) 3 2
unfolding computed program down own swap objects echoes
leaves_input = refl

-- putchar(256 + 97); exit(300);
pub puts_and_exits : List Core
puts_and_exits = c.Put (at.Word 353) ∷ c.Exit (at.Word 300) ∷ c.Put (at.Word 98) ∷ []

-- what is put and the status count modulo 256, and nothing is run behind an exit
pub low_bytes : outcome puts_and_exits [] 1 100 ≡ ends (Exit 44) (97 ∷ []) 1 0
unfolding computed program down own swap objects puts_and_exits
low_bytes = refl

-- return 300;
pub returns_large : List Core
returns_large = c.Return (Some (at.Word 300)) ∷ c.Put (at.Word 98) ∷ []

-- so does what main returns
pub low_status : outcome returns_large [] 1 100 ≡ ends (Exit 44) [] 0 0
unfolding computed program down own swap objects returns_large
low_status = refl

pub puts_pointer : List Core
puts_pointer = c.Put (at.Local 0) ∷ then_nine

-- a pointer is not put out
pub puts_no_pointer : outcome puts_pointer [] 1 100 ≡ undefined
unfolding computed program down own swap objects puts_pointer
puts_no_pointer = refl

-- a variable that is not assigned
pub starts_as_zero : List Core
starts_as_zero = c.Return (Some (at.Var 3)) ∷ []

-- a variable starts as 0
pub starts_as_zero_ends : outcome starts_as_zero [] 1 0 ≡ ends (Exit 0) [] 0 0
unfolding computed program down own swap objects starts_as_zero
starts_as_zero_ends = refl

pub exits_with_pointer : List Core
exits_with_pointer = c.Exit (at.Local 0) ∷ []

-- and it is no status
pub exits_with_no_pointer : outcome exits_with_pointer [] 1 100 ≡ undefined
unfolding computed program down own swap objects exits_with_pointer
exits_with_no_pointer = refl
