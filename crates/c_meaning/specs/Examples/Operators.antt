-- Operators: order of evaluation, conversions, what is assigned and what is given.
use Rattle.std.specs.Prelude.{◌≡◌, ℕ, List, ◌∷◌, [], Option, Some, None}
use Rattle.std.proofs.Common.{refl}
use Rattle.word_ops.specs.declared.operation.Op.TheVariants as op
use Rattle.word_ops.specs.Run.{Exit}
use Rattle.word_ops.specs.Outcome.{Outcome}
use Rattle.c_tree.specs.declared.typed.operator.Given.TheVariants as giving
use Rattle.c_tree.specs.declared.typed.operator.Arithmetic.TheVariants as arithmetic
use Rattle.c_tree.specs.declared.typed.operator.Sign.TheVariants as sign
use Rattle.c_tree.specs.declared.typed.operator.Relation.TheVariants as relation
use Rattle.c_tree.specs.declared.typed.operator.Unary.TheVariants as unary
use Rattle.c_tree.specs.declared.typed.operator.Primary.TheVariants as primary
use Rattle.c_tree.specs.declared.typed.expression.TExpr.{TExpr}
use Rattle.c_tree.specs.declared.typed.expression.TExpr.TheVariants as x
use Rattle.c_tree.specs.declared.typed.expression.Step.{Step}
use Rattle.c_tree.specs.declared.typed.expression.Step.TheVariants as step
use Rattle.c_tree.specs.declared.typed.expression.Target.TheVariants as target
use Rattle.c_tree.specs.declared.typed.statement.TStmt.{TStmt}
use Rattle.c_tree.specs.declared.typed.statement.TStmt.TheVariants as s
use Rattle.c_tree.specs.declared.typed.unit.Object.{Object}
use Rattle.c_meaning.specs.Units.{outcome_of_unit}
use Rattle.c_meaning.specs.Examples.Trees.{computed, int, char, signed_char, unsigned_short, bool, void, pointer_to, array_of, word, byte, signed_byte, half, pointer, object, an_int, a_pointer, ints, num, uns, var_as, var, pvar, at, on, load, to, to_word, to_byte, to_signed_byte, to_half, to_bool, to_pointer, negate, complement, not_, by, add, mul, div, compare_unsigned, compare_pointers, less, index, plus, minus, is_equal, element, set_as, set, set_by, postfix_plus, prefix_plus, all_of, any_of, arm, choose, comma, call, getchar, putchar, dropped, do_, do_call, begin, begin_as, begin_with, int_at, group, return, function, procedure, unit, unit_with, main_of, ends}

-- the outcome of a main with these objects, without input
abbrev outcome : List Object → List TStmt → Option Outcome
outcome os ss = outcome_of_unit (unit os ss) [] 10 1000

-- putchar of a number
abbrev put : ℕ → TExpr
put n = putchar (num n)

-- ---- order of evaluation

-- int main(void){int i=5;return i++*10+i;}: 5*10+6
pub increment_before_read : outcome (an_int ∷ []) (begin 0 (num 5) ∷ return (on int (postfix_plus 0) (mul (num 10) ∷ add (var 0) ∷ [])) ∷ []) ≡ ends (Exit 56) [] 0 0
unfolding computed
increment_before_read = refl

-- int main(void){int i=5;return i+++ ++i*10;}: 5+7*10
pub postfix_and_prefix : outcome (an_int ∷ []) (begin 0 (num 5) ∷ return (plus (postfix_plus 0) (on int (prefix_plus 0) (mul (num 10) ∷ []))) ∷ []) ≡ ends (Exit 75) [] 0 0
unfolding computed
postfix_and_prefix = refl

-- int main(void){int a=1;a+=(a=5);return a;}: the old value is read behind the right operand
pub old_value_is_read_last : outcome (an_int ∷ []) (begin 0 (num 1) ∷ do_ (set_by op.Adds 0 (set 0 (num 5))) ∷ return (var 0) ∷ []) ≡ ends (Exit 10) [] 0 0
unfolding computed
old_value_is_read_last = refl

-- int main(void){int a=1;return a+(a=5);}: the left operand is read first
pub left_operand_is_read_first : outcome (an_int ∷ []) (begin 0 (num 1) ∷ return (plus (var 0) (set 0 (num 5))) ∷ []) ≡ ends (Exit 6) [] 0 0
unfolding computed
left_operand_is_read_first = refl

-- int main(void){int i=0;int a[2];a[0]=1;a[1]=2;a[i]=i=1;return a[0]*10+a[1];}: the designator comes first
pub designator_first : outcome (an_int ∷ ints 2 ∷ []) (begin 0 (num 0) ∷ begin_with 1 (int_at 0 1 ∷ int_at 4 2 ∷ []) ∷ do_ (x.Assign int (target.Place (on int (at (array_of 2 int) 1) (index 4 (var 0) ∷ [])) (record { scalar = word; operator = None; conversion = to_word }) ∷ target.Variable 0 (record { scalar = word; operator = None; conversion = to_word }) ∷ []) (num 1)) ∷ return (on int (element (at (array_of 2 int) 1) (num 0)) (mul (num 10) ∷ add (element (at (array_of 2 int) 1) (num 1)) ∷ [])) ∷ []) ≡ ends (Exit 12) [] 0 0
unfolding computed
designator_first = refl

-- int f(int a,int b){return a-b;}int main(void){int i=7;return f(i++,i);}: arguments from left to right
pub arguments_in_order : outcome_of_unit (unit_with [] (function (an_int ∷ an_int ∷ []) (group (return (minus (var 0) (var 1)) ∷ [])) ∷ main_of (an_int ∷ []) (begin 0 (num 7) ∷ return (call 0 (postfix_plus 0 ∷ var 0 ∷ [])) ∷ []) ∷ []) 1) [] 10 1000 ≡ ends (Exit 255) [] 1 0
unfolding computed
arguments_in_order = refl

-- int main(void){return putchar('a')-putchar('b');}
pub puts_in_order : outcome [] (return (minus (put 97) (put 98)) ∷ []) ≡ ends (Exit 255) (97 ∷ 98 ∷ []) 2 0
unfolding computed
puts_in_order = refl

-- ---- && || ?: and comma

-- int main(void){return (0&&putchar('a'))+(1&&putchar('b')&&2)*10+(0||0)*100+(3||putchar('c'));}
pub short_circuits : outcome [] (return (on int (all_of (num 0 ∷ put 97 ∷ [])) (add (on int (all_of (num 1 ∷ put 98 ∷ num 2 ∷ [])) (mul (num 10) ∷ [])) ∷ add (on int (any_of (num 0 ∷ num 0 ∷ [])) (mul (num 100) ∷ [])) ∷ add (any_of (num 3 ∷ put 99 ∷ [])) ∷ [])) ∷ []) ≡ ends (Exit 11) (98 ∷ []) 1 0
unfolding computed
short_circuits = refl

-- int main(void){return 0?1/0:putchar('a')?2:1/0;}: what is not chosen is not evaluated
pub chosen_alone : outcome [] (return (choose (arm (num 0) (on int (num 1) (div (num 0) ∷ [])) ∷ arm (put 97) (num 2) ∷ []) (on int (num 1) (div (num 0) ∷ []))) ∷ []) ≡ ends (Exit 2) (97 ∷ []) 1 0
unfolding computed
chosen_alone = refl

-- int main(void){return 1&&1/0;}
pub evaluated_operand_is_undefined : outcome [] (return (all_of (num 1 ∷ on int (num 1) (div (num 0) ∷ []) ∷ [])) ∷ []) ≡ None
unfolding computed
evaluated_operand_is_undefined = refl

-- int main(void){return putchar('a'),putchar('b'),7;}
pub comma_in_order : outcome [] (return (comma (dropped (put 97) ∷ dropped (put 98) ∷ []) (num 7)) ∷ []) ≡ ends (Exit 7) (97 ∷ 98 ∷ []) 2 0
unfolding computed
comma_in_order = refl

-- ---- integers

-- int main(void){return -7/2;}: toward zero
pub quotient_toward_zero : outcome [] (return (on int (num 7) (negate ∷ div (num 2) ∷ [])) ∷ []) ≡ ends (Exit 253) [] 0 0
unfolding computed
quotient_toward_zero = refl

-- int main(void){return -7%2;}: with the sign of the dividend
pub remainder_of_dividend : outcome [] (return (on int (num 7) (negate ∷ by op.Rems (num 2) ∷ [])) ∷ []) ≡ ends (Exit 255) [] 0 0
unfolding computed
remainder_of_dividend = refl

-- int main(void){return -1<1u;}
pub unsigned_comparison : outcome [] (return (on int (num 1) (negate ∷ to to_word ∷ compare_unsigned relation.Less (uns 1) ∷ [])) ∷ []) ≡ ends (Exit 0) [] 0 0
unfolding computed
unsigned_comparison = refl

-- int main(void){return -1<1;}
pub signed_comparison : outcome [] (return (on int (num 1) (negate ∷ less (num 1) ∷ [])) ∷ []) ≡ ends (Exit 1) [] 0 0
unfolding computed
signed_comparison = refl

-- int main(void){return ~5&15|64;}: and binds tighter than or
pub bits : outcome [] (return (on int (num 5) (complement ∷ by op.And (num 15) ∷ by op.Or (num 64) ∷ [])) ∷ []) ≡ ends (Exit 74) [] 0 0
unfolding computed
bits = refl

-- int main(void){return !0*2+!7;}
pub nots : outcome [] (return (on int (num 0) (not_ ∷ mul (num 2) ∷ add (on int (num 7) (not_ ∷ [])) ∷ [])) ∷ []) ≡ ends (Exit 2) [] 0 0
unfolding computed
nots = refl

-- ---- narrow types

-- int main(void){signed char s=127;s++;return s<0;}: the sum is an int, and its conversion wraps
pub signed_char_wraps : outcome (object signed_char (Some signed_byte) 1 1 ∷ []) (begin_as signed_byte 0 (on signed_char (num 127) (to to_signed_byte ∷ [])) ∷ do_ (x.Primary signed_char (primary.Increment 0 (record { scalar = signed_byte; operator = arithmetic.Word op.Adds; conversion = to_signed_byte; given = giving.Old }))) ∷ return (on int (var_as signed_char signed_byte 0) (to to_word ∷ less (num 0) ∷ [])) ∷ []) ≡ ends (Exit 1) [] 0 0
unfolding computed
signed_char_wraps = refl

-- int main(void){unsigned short h=65535;return (h+=2)+h;}: what is given is the new value
pub assignment_gives_new_value : outcome (object unsigned_short (Some half) 2 2 ∷ []) (begin_as half 0 (on unsigned_short (num 65535) (to to_half ∷ [])) ∷ return (on int (set_as unsigned_short half (Some (arithmetic.Word op.Adds)) to_half 0 (num 2)) (to to_word ∷ add (on int (var_as unsigned_short half 0) (to to_word ∷ [])) ∷ [])) ∷ []) ≡ ends (Exit 2) [] 0 0
unfolding computed
assignment_gives_new_value = refl

-- int main(void){int i;unsigned char c;i=c=300;return i;}: a chain passes on what was stored
pub chain_passes_on_what_was_stored : outcome (an_int ∷ object char (Some byte) 1 1 ∷ []) (do_ (x.Assign int (target.Variable 0 (record { scalar = word; operator = None; conversion = to_word }) ∷ target.Variable 1 (record { scalar = byte; operator = None; conversion = to_byte }) ∷ []) (num 300)) ∷ return (var 0) ∷ []) ≡ ends (Exit 44) [] 0 0
unfolding computed
chain_passes_on_what_was_stored = refl

-- what b-- does, as a statement
abbrev bool_down : TStmt
bool_down = do_ (x.Primary bool (primary.Increment 0 (record { scalar = byte; operator = arithmetic.Word op.Subs; conversion = to_bool; given = giving.Old })))

-- the outcome of a _Bool that is 0 before these statements, and returned behind them
abbrev bool_after : List TStmt → Option Outcome
bool_after ss = outcome (object bool (Some byte) 1 1 ∷ []) (begin_as byte 0 (on bool (num 0) (to to_bool ∷ [])) ∷ group ss ∷ return (on int (var_as bool byte 0) (to to_word ∷ [])) ∷ [])

-- int main(void){_Bool b=0;b--;return b;}: -1 is true
pub bool_below_0 : bool_after (bool_down ∷ []) ≡ ends (Exit 1) [] 0 0
unfolding computed
bool_below_0 = refl

-- int main(void){_Bool b=0;b--;b--;return b;}: and 1-1 is not
pub bool_below_1 : bool_after (bool_down ∷ bool_down ∷ []) ≡ ends (Exit 0) [] 0 0
unfolding computed
bool_below_1 = refl

-- ---- pointers

-- int a[3]={3,4,5};int*p=a; in front
abbrev three : List TStmt → List TStmt
three ss = begin_with 0 (int_at 0 3 ∷ int_at 4 4 ∷ int_at 8 5 ∷ []) ∷ begin_as pointer 1 (at (array_of 3 int) 0) ∷ ss

-- the outcome of statements behind these
abbrev with_three : List TStmt → Option Outcome
with_three ss = outcome (ints 3 ∷ a_pointer ∷ []) (three ss)

-- p++
abbrev pointer_up : TExpr
pointer_up = x.Primary (pointer_to int) (primary.Increment 1 (record { scalar = pointer; operator = arithmetic.PointerPlus (record { element = 4; sign = sign.Signed }); conversion = to_pointer; given = giving.Old }))

-- int main(void){int a[3]={3,4,5};int*p=a;return *p++*10+*p;}
pub pointer_moves_on : with_three (return (on int pointer_up (load word ∷ mul (num 10) ∷ add (on int (pvar 1) (load word ∷ [])) ∷ [])) ∷ []) ≡ ends (Exit 34) [] 0 0
unfolding computed
pointer_moves_on = refl

-- int main(void){int a[3]={3,4,5};int*p=a;p+=2;p-=1;return *p;}
pub pointer_assigned : with_three (do_ (set_as (pointer_to int) pointer (Some (arithmetic.PointerPlus (record { element = 4; sign = sign.Signed }))) to_pointer 1 (num 2)) ∷ do_ (set_as (pointer_to int) pointer (Some (arithmetic.PointerMinus (record { element = 4; sign = sign.Signed }))) to_pointer 1 (num 1)) ∷ return (on int (pvar 1) (load word ∷ [])) ∷ []) ≡ ends (Exit 4) [] 0 0
unfolding computed
pointer_assigned = refl

-- int main(void){int a[3]={3,4,5};int*p=a;return 2[a];}
pub index_in_front : with_three (return (on int (num 2) (step.Binary (arithmetic.PlusPointer (record { element = 4; sign = sign.Signed })) (at (array_of 3 int) 0) ∷ load word ∷ [])) ∷ []) ≡ ends (Exit 5) [] 0 0
unfolding computed
index_in_front = refl

-- ++ or -- of what a pointer leads to
abbrev at_place : op.the_data → giving.the_data → Step
at_place o g = step.Unary (unary.Increment (record { scalar = word; operator = arithmetic.Word o; conversion = to_word; given = g }))

-- int main(void){int a[3]={3,4,5};int*p=a;(*p)++;++*p;return a[0]*10+(*p)--;}
pub object_moves_on : with_three (do_ (on int (pvar 1) (at_place op.Adds giving.Old ∷ [])) ∷ do_ (on int (pvar 1) (at_place op.Adds giving.New ∷ [])) ∷ return (on int (element (at (array_of 3 int) 0) (num 0)) (mul (num 10) ∷ add (on int (pvar 1) (at_place op.Subs giving.Old ∷ [])) ∷ [])) ∷ []) ≡ ends (Exit 55) [] 0 0
unfolding computed
object_moves_on = refl

-- int main(void){int a[3]={3,4,5};int*p=a;return (&a[2]!=p)+(p==a);}
pub same_place : with_three (return (on int (at (array_of 3 int) 0) (index 4 (num 2) ∷ compare_pointers relation.NotEqual (pvar 1) ∷ add (on int (pvar 1) (compare_pointers relation.Equal (at (array_of 3 int) 0) ∷ [])) ∷ [])) ∷ []) ≡ ends (Exit 2) [] 0 0
unfolding computed
same_place = refl

-- ---- the library

-- void f(void){exit(259);}int main(void){f();return 1;}
pub exit_in_a_call : outcome_of_unit (unit_with [] (procedure [] (group (s.Evaluate (x.Exit void (num 259)) ∷ [])) ∷ main_of [] (do_call 0 [] ∷ return (num 1) ∷ []) ∷ []) 1) [] 10 1000 ≡ ends (Exit 3) [] 1 0
unfolding computed
exit_in_a_call = refl

-- int main(void){exit(-1);}
pub exit_minus_one : outcome [] (s.Evaluate (x.Exit void (on int (num 1) (negate ∷ []))) ∷ []) ≡ ends (Exit 255) [] 0 0
unfolding computed
exit_minus_one = refl

-- int main(void){return putchar(353)==97;}: the low byte is put and given
pub putchar_gives_the_byte : outcome [] (return (is_equal (putchar (num 353)) (num 97)) ∷ []) ≡ ends (Exit 1) (97 ∷ []) 1 0
unfolding computed
putchar_gives_the_byte = refl

-- int main(void){return getchar()+getchar();} on one byte: 65+-1
pub getchar_at_the_end : outcome_of_unit (unit [] (return (plus getchar getchar) ∷ [])) (65 ∷ []) 10 1000 ≡ ends (Exit 64) [] 2 1
unfolding computed
getchar_at_the_end = refl
