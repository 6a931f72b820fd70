-- What is undefined, line by line, each beside a neighbour that is not. The neighbour differs in the one thing that the line
-- speaks of.
use Rattle.std.specs.Prelude.{◌≡◌, ℕ, ◌^◌, ◌-◌, List, ◌∷◌, [], Option, Some, None}
use Rattle.std.proofs.Common.{refl}
use Rattle.word_ops.specs.declared.operation.Op.TheVariants as op
use Rattle.word_ops.specs.Run.{Exit}
use Rattle.word_ops.specs.Outcome.{Outcome}
use Rattle.c_tree.specs.declared.typed.operator.Relation.TheVariants as relation
use Rattle.c_tree.specs.declared.typed.types.CType.{CType}
use Rattle.c_tree.specs.declared.typed.expression.TExpr.{TExpr}
use Rattle.c_tree.specs.declared.typed.expression.TExpr.TheVariants as x
use Rattle.c_tree.specs.declared.typed.statement.TStmt.{TStmt}
use Rattle.c_tree.specs.declared.typed.unit.Object.{Object}
use Rattle.c_meaning.specs.Units.{outcome_of_unit}
use Rattle.c_meaning.specs.Examples.Trees.{computed, int, char, void, struct_, pointer_to, array_of, constant, word, byte, pointer, object, an_int, a_pointer, ints, chars, num, uns, null, var, pvar, at, static, on, load, to, to_word, to_byte, to_bool, to_pointer, negate, not_, member, by, sub, compare_pointers, equal, index, index_unsigned, back, difference, plus, element, set_pointer, store_as, store, comma, call, do_, do_call, begin, begin_as, begin_with, int_at, block, group, nothing, if_, return, function, static_as, literal, unit, unit_with, main_of, ends}

-- the outcome of a main with these objects, without input
abbrev outcome : List Object → List TStmt → Option Outcome
outcome os ss = outcome_of_unit (unit os ss) [] 10 1000

-- ---- reading (C11 6.2.6.1p5, 6.3.2.1p2)

-- int main(void){int x;return x;}
pub reads_unset : outcome (an_int ∷ []) (return (var 0) ∷ []) ≡ None
unfolding computed
reads_unset = refl

-- int main(void){int x=3;return x;}
pub reads_set : outcome (an_int ∷ []) (begin 0 (num 3) ∷ return (var 0) ∷ []) ≡ ends (Exit 3) [] 0 0
unfolding computed
reads_set = refl

-- struct S{char c;int n;};int main(void){struct S s;s.c=1;s.n=2;return ((char*)&s)[1];}
abbrev padded : ℕ → Option Outcome
padded n = outcome (object struct_ None 8 4 ∷ []) (do_ (store_as char byte None to_byte (on char (at struct_ 0) (member 0 ∷ [])) (num 1)) ∷ do_ (store (on int (at struct_ 0) (member 4 ∷ [])) (num 2)) ∷ return (on int (at (pointer_to struct_) 0) (to to_pointer ∷ index 1 (num n) ∷ load byte ∷ to to_word ∷ [])) ∷ [])

pub reads_padding : padded 1 ≡ None
unfolding computed
reads_padding = refl

-- the same with ((char*)&s)[4]
pub reads_first_byte : padded 4 ≡ ends (Exit 2) [] 0 0
unfolding computed
reads_first_byte = refl

-- int main(void){int x=5;int*p=&x;return *(int*)&p==0;}
abbrev address_read : TExpr → Option Outcome
address_read a = outcome (an_int ∷ a_pointer ∷ []) (begin 0 (num 5) ∷ begin_as pointer 1 (at (pointer_to int) 0) ∷ return a ∷ [])

pub reads_pointer_as_integer : address_read (on int (at (pointer_to (pointer_to int)) 1) (to to_pointer ∷ load word ∷ equal (num 0) ∷ [])) ≡ None
unfolding computed
reads_pointer_as_integer = refl

-- int main(void){int x=5;int*p=&x;return *((char*)&p+1);}
pub reads_part_of_pointer : address_read (on int (at (pointer_to (pointer_to int)) 1) (to to_pointer ∷ index 1 (num 1) ∷ load byte ∷ to to_word ∷ [])) ≡ None
unfolding computed
reads_part_of_pointer = refl

-- int main(void){int x=5;int*p=&x;return **(int**)&p;}
pub reads_whole_pointer : address_read (on int (at (pointer_to (pointer_to int)) 1) (to to_pointer ∷ load pointer ∷ load word ∷ [])) ≡ ends (Exit 5) [] 0 0
unfolding computed
reads_whole_pointer = refl

-- int main(void){int z=1;return *(int**)&z==0;}
abbrev integer_as_pointer : ℕ → Option Outcome
integer_as_pointer n = outcome (an_int ∷ []) (begin 0 (num n) ∷ return (on int (at (pointer_to int) 0) (to to_pointer ∷ load pointer ∷ compare_pointers relation.Equal null ∷ [])) ∷ [])

pub reads_integer_as_pointer : integer_as_pointer 1 ≡ None
unfolding computed
reads_integer_as_pointer = refl

-- the same with z=0: four zero bytes are the null pointer
pub reads_zero_as_pointer : integer_as_pointer 0 ≡ ends (Exit 1) [] 0 0
unfolding computed
reads_zero_as_pointer = refl

-- ---- access (C11 6.5.3.2p4)

-- int main(void){int x=4;int*p=0;return *p;}
pub through_null : outcome (an_int ∷ a_pointer ∷ []) (begin 0 (num 4) ∷ begin_as pointer 1 null ∷ return (on int (pvar 1) (load word ∷ [])) ∷ []) ≡ None
unfolding computed
through_null = refl

-- int main(void){int x=4;int*p=&x;return *p;}
pub through_pointer : outcome (an_int ∷ a_pointer ∷ []) (begin 0 (num 4) ∷ begin_as pointer 1 (at (pointer_to int) 0) ∷ return (on int (pvar 1) (load word ∷ [])) ∷ []) ≡ ends (Exit 4) [] 0 0
unfolding computed
through_pointer = refl

-- int main(void){int*p;{int x=6;p=&x;}return *p;}
pub after_lifetime : outcome (a_pointer ∷ []) (block 1 (an_int ∷ []) (begin 1 (num 6) ∷ do_ (set_pointer 0 (at (pointer_to int) 1)) ∷ []) ∷ return (on int (pvar 0) (load word ∷ [])) ∷ []) ≡ None
unfolding computed
after_lifetime = refl

-- int main(void){int*p;{int x=6;p=&x;return *p;}}
pub within_lifetime : outcome (a_pointer ∷ []) (block 1 (an_int ∷ []) (begin 1 (num 6) ∷ do_ (set_pointer 0 (at (pointer_to int) 1)) ∷ return (on int (pvar 0) (load word ∷ [])) ∷ []) ∷ []) ≡ ends (Exit 6) [] 0 0
unfolding computed
within_lifetime = refl

-- int main(void){int a[2]={1,2};return a[N];}
abbrev element_of_two : ℕ → Option Outcome
element_of_two n = outcome (ints 2 ∷ []) (begin_with 0 (int_at 0 1 ∷ int_at 4 2 ∷ []) ∷ return (element (at (array_of 2 int) 0) (num n)) ∷ [])

pub past_the_end : element_of_two 2 ≡ None
unfolding computed
past_the_end = refl

pub last_element : element_of_two 1 ≡ ends (Exit 2) [] 0 0
unfolding computed
last_element = refl

-- int main(void){char b[8]={0};return *(int*)(b+N);}
abbrev int_in_chars : ℕ → Option Outcome
int_in_chars n = outcome (chars 8 ∷ []) (begin_with 0 [] ∷ return (on int (at (array_of 8 char) 0) (index 1 (num n) ∷ to to_pointer ∷ load word ∷ [])) ∷ [])

pub not_aligned : int_in_chars 2 ≡ None
unfolding computed
not_aligned = refl

pub aligned : int_in_chars 4 ≡ ends (Exit 0) [] 0 0
unfolding computed
aligned = refl

pub not_wholly_inside : int_in_chars 8 ≡ None
unfolding computed
not_wholly_inside = refl

-- ---- writing into a constant (C11 6.4.5p7, 6.7.3p6)

-- int main(void){char*s="ab";s[0]=99;return s[1];}
abbrev literal_used : List TStmt → Option Outcome
literal_used ss = outcome_of_unit (unit_with (literal 3 (97 ∷ 98 ∷ 0 ∷ []) ∷ []) (main_of (object (pointer_to char) (Some pointer) 4 4 ∷ []) (begin_as pointer 0 (static (array_of 3 char) 0) ∷ ss) ∷ []) 0) [] 10 1000

-- s[N]
abbrev char_at : ℕ → TExpr
char_at n = on int (pvar 0) (index 1 (num n) ∷ load byte ∷ to to_word ∷ [])

pub writes_literal : literal_used (do_ (store_as char byte None to_byte (on char (pvar 0) (index 1 (num 0) ∷ [])) (num 99)) ∷ return (char_at 1) ∷ []) ≡ None
unfolding computed
writes_literal = refl

-- int main(void){char*s="ab";return s[1];}
pub reads_literal : literal_used (return (char_at 1) ∷ []) ≡ ends (Exit 98) [] 0 0
unfolding computed
reads_literal = refl

-- int main(void){const int x=1;*(int*)&x=2;return x;}
abbrev written_by_address : CType → Option Outcome
written_by_address t = outcome (object t (Some word) 4 4 ∷ []) (begin 0 (num 1) ∷ do_ (store (on int (at t 0) (to to_pointer ∷ [])) (num 2)) ∷ return (var 0) ∷ [])

pub writes_const_object : written_by_address (constant int) ≡ None
unfolding computed
writes_const_object = refl

-- the same without const
pub writes_object : written_by_address int ≡ ends (Exit 2) [] 0 0
unfolding computed
writes_object = refl

-- ---- operations (C11 6.5p5, 6.5.5p5, p6, 6.5.7p3, p4)

-- int main(void){return A op B;} and main returning 1 of it, so that the whole word is seen
abbrev operated : op.the_data → ℕ → ℕ → ℕ → Option Outcome
operated o a b c = outcome [] (return (on int (num a) (by o (num b) ∷ equal (num c) ∷ [])) ∷ [])

-- 2147483647+1 and 2147483646+1
pub sum_overflows : operated op.Adds 2147483647 1 0 ≡ None
unfolding computed
sum_overflows = refl

pub sum_does_not_overflow : operated op.Adds 2147483646 1 2147483647 ≡ ends (Exit 1) [] 0 0
unfolding computed
sum_does_not_overflow = refl

-- 4294967295u+1u
pub unsigned_sum_wraps : operated op.Add (2 ^ 32 - 1) 1 0 ≡ ends (Exit 1) [] 0 0
unfolding computed
unsigned_sum_wraps = refl

-- 46341*46341 and 46340*46340
pub product_overflows : operated op.Muls 46341 46341 0 ≡ None
unfolding computed
product_overflows = refl

pub product_does_not_overflow : operated op.Muls 46340 46340 2147395600 ≡ ends (Exit 1) [] 0 0
unfolding computed
product_does_not_overflow = refl

-- 7/0 and 7/2; 7%0
pub divides_by_zero : operated op.Divs 7 0 0 ≡ None
unfolding computed
divides_by_zero = refl

pub divides : operated op.Divs 7 2 3 ≡ ends (Exit 1) [] 0 0
unfolding computed
divides = refl

pub remainder_by_zero : operated op.Rems 7 0 0 ≡ None
unfolding computed
remainder_by_zero = refl

-- (-2147483647-1)/-1 and (-2147483647)/-1, (-2147483647-1)%-1
pub least_by_minus_one : operated op.Divs (2 ^ 31) (2 ^ 32 - 1) 0 ≡ None
unfolding computed
least_by_minus_one = refl

pub next_by_minus_one : operated op.Divs (2 ^ 32 - 2147483647) (2 ^ 32 - 1) 2147483647 ≡ ends (Exit 1) [] 0 0
unfolding computed
next_by_minus_one = refl

pub remainder_of_least : operated op.Rems (2 ^ 31) (2 ^ 32 - 1) 0 ≡ None
unfolding computed
remainder_of_least = refl

-- 1<<31 and 1<<30, 1u<<31; 1<<32; -1<<1
pub shift_overflows : operated op.Shls 1 31 0 ≡ None
unfolding computed
shift_overflows = refl

pub shift_does_not_overflow : operated op.Shls 1 30 1073741824 ≡ ends (Exit 1) [] 0 0
unfolding computed
shift_does_not_overflow = refl

pub unsigned_shift_to_the_top : operated op.Shl 1 31 2147483648 ≡ ends (Exit 1) [] 0 0
unfolding computed
unsigned_shift_to_the_top = refl

pub shift_too_far : operated op.Shl 1 32 0 ≡ None
unfolding computed
shift_too_far = refl

pub shift_of_negative : operated op.Shls (2 ^ 32 - 1) 1 0 ≡ None
unfolding computed
shift_of_negative = refl

-- -8>>1 is -4: arithmetic, by the profile's choice
pub shift_right_of_negative : operated op.Shrs (2 ^ 32 - 8) 1 (2 ^ 32 - 4) ≡ ends (Exit 1) [] 0 0
unfolding computed
shift_right_of_negative = refl

-- -(-2147483647-1) and -(-2147483647)
pub negative_of_least : outcome [] (return (on int (num 2147483647) (negate ∷ sub (num 1) ∷ negate ∷ [])) ∷ []) ≡ None
unfolding computed
negative_of_least = refl

pub negative_of_next : outcome [] (return (on int (num 2147483647) (negate ∷ negate ∷ [])) ∷ []) ≡ ends (Exit 255) [] 0 0
unfolding computed
negative_of_next = refl

-- ---- sums of pointers and integers (C11 6.5.6p8)

-- int main(void){int a[2];return a+N!=0;}
abbrev moved_by : TExpr → Option Outcome
moved_by p = outcome (ints 2 ∷ []) (return (on int p (compare_pointers relation.NotEqual null ∷ [])) ∷ [])

-- a, as an address
abbrev two : TExpr
two = at (array_of 2 int) 0

pub one_past_the_end : moved_by (on (pointer_to int) two (index 4 (num 2) ∷ [])) ≡ ends (Exit 1) [] 0 0
unfolding computed
one_past_the_end = refl

pub two_past_the_end : moved_by (on (pointer_to int) two (index 4 (num 3) ∷ [])) ≡ None
unfolding computed
two_past_the_end = refl

-- a+1-1 and a-1
pub back_to_the_start : moved_by (on (pointer_to int) two (index 4 (num 1) ∷ back 4 (num 1) ∷ [])) ≡ ends (Exit 1) [] 0 0
unfolding computed
back_to_the_start = refl

pub before_the_start : moved_by (on (pointer_to int) two (back 4 (num 1) ∷ [])) ≡ None
unfolding computed
before_the_start = refl

-- a+1+-1 and a+1+4294967295u
pub plus_minus_one : moved_by (on (pointer_to int) two (index 4 (num 1) ∷ index 4 (on int (num 1) (negate ∷ [])) ∷ [])) ≡ ends (Exit 1) [] 0 0
unfolding computed
plus_minus_one = refl

pub plus_greatest_unsigned : moved_by (on (pointer_to int) two (index 4 (num 1) ∷ index_unsigned 4 (uns 4294967295) ∷ [])) ≡ None
unfolding computed
plus_greatest_unsigned = refl

-- (int*)0+0
pub null_plus_zero : moved_by (on (pointer_to int) null (index 4 (num 0) ∷ [])) ≡ None
unfolding computed
null_plus_zero = refl

-- ---- a pointer to an object whose lifetime is over, and one whose lifetime goes on

-- int main(void){int*p;{int x=6;p=&x;}return E;} and int main(void){int*p;{int x=6;p=&x;return E;}}
abbrev behind_block : TExpr → Option Outcome
behind_block e = outcome (a_pointer ∷ []) (block 1 (an_int ∷ []) (begin 1 (num 6) ∷ do_ (set_pointer 0 (at (pointer_to int) 1)) ∷ []) ∷ return e ∷ [])

-- the second of these
abbrev in_the_block : TExpr → Option Outcome
in_the_block e = outcome (a_pointer ∷ []) (block 1 (an_int ∷ []) (begin 1 (num 6) ∷ do_ (set_pointer 0 (at (pointer_to int) 1)) ∷ return e ∷ []) ∷ [])

-- p+1!=0
abbrev moved : TExpr
moved = on int (pvar 0) (index 4 (num 1) ∷ compare_pointers relation.NotEqual null ∷ [])

pub dead_pointer_moved : behind_block moved ≡ None
unfolding computed
dead_pointer_moved = refl

pub live_pointer_moved : in_the_block moved ≡ ends (Exit 1) [] 0 0
unfolding computed
live_pointer_moved = refl

-- p<p
abbrev ordered : TExpr
ordered = on int (pvar 0) (compare_pointers relation.Less (pvar 0) ∷ [])

pub dead_pointer_ordered : behind_block ordered ≡ None
unfolding computed
dead_pointer_ordered = refl

pub live_pointer_ordered : in_the_block ordered ≡ ends (Exit 0) [] 0 0
unfolding computed
live_pointer_ordered = refl

-- p-p
abbrev subtracted : TExpr
subtracted = on int (pvar 0) (difference 4 (pvar 0) ∷ [])

pub dead_pointer_subtracted : behind_block subtracted ≡ None
unfolding computed
dead_pointer_subtracted = refl

pub live_pointer_subtracted : in_the_block subtracted ≡ ends (Exit 0) [] 0 0
unfolding computed
live_pointer_subtracted = refl

-- p==0
abbrev compared_to_null : TExpr
compared_to_null = on int (pvar 0) (compare_pointers relation.Equal null ∷ [])

pub dead_pointer_compared : behind_block compared_to_null ≡ None
unfolding computed
dead_pointer_compared = refl

pub live_pointer_compared : in_the_block compared_to_null ≡ ends (Exit 0) [] 0 0
unfolding computed
live_pointer_compared = refl

-- !p
pub dead_pointer_is_not_tested : behind_block (on int (pvar 0) (not_ ∷ [])) ≡ None
unfolding computed
dead_pointer_is_not_tested = refl

pub live_pointer_is_true : in_the_block (on int (pvar 0) (not_ ∷ [])) ≡ ends (Exit 0) [] 0 0
unfolding computed
live_pointer_is_true = refl

-- (_Bool)p
pub dead_pointer_to_bool : behind_block (on int (pvar 0) (to to_bool ∷ to to_word ∷ [])) ≡ None
unfolding computed
dead_pointer_to_bool = refl

pub live_pointer_to_bool : in_the_block (on int (pvar 0) (to to_bool ∷ to to_word ∷ [])) ≡ ends (Exit 1) [] 0 0
unfolding computed
live_pointer_to_bool = refl

-- int main(void){int*p,*q;{int x=6;p=&x;}q=p;return 8;}: a dead pointer is copied
pub dead_pointer_is_copied : outcome (a_pointer ∷ a_pointer ∷ []) (block 2 (an_int ∷ []) (begin 2 (num 6) ∷ do_ (set_pointer 0 (at (pointer_to int) 2)) ∷ []) ∷ do_ (set_pointer 1 (pvar 0)) ∷ return (num 8) ∷ []) ≡ ends (Exit 8) [] 0 0
unfolding computed
dead_pointer_is_copied = refl

-- ---- order and difference of pointers (C11 6.5.6p9, 6.5.8p5)

-- int main(void){int a[2],b[2];return E;}
abbrev two_arrays : TExpr → Option Outcome
two_arrays e = outcome (ints 2 ∷ ints 2 ∷ []) (return e ∷ [])

-- b, as an address
abbrev b : TExpr
b = at (array_of 2 int) 1

-- a<b and a<a+1, a+1>a, a>=a+1
pub order_of_two_objects : two_arrays (on int two (compare_pointers relation.Less b ∷ [])) ≡ None
unfolding computed
order_of_two_objects = refl

pub order_in_one_object : two_arrays (on int two (compare_pointers relation.Less (on (pointer_to int) two (index 4 (num 1) ∷ [])) ∷ [])) ≡ ends (Exit 1) [] 0 0
unfolding computed
order_in_one_object = refl

pub order_turned_round : two_arrays (on int two (index 4 (num 1) ∷ compare_pointers relation.Greater two ∷ [])) ≡ ends (Exit 1) [] 0 0
unfolding computed
order_turned_round = refl

pub at_least_in_one_object : two_arrays (on int two (compare_pointers relation.AtLeast (on (pointer_to int) two (index 4 (num 1) ∷ [])) ∷ [])) ≡ ends (Exit 0) [] 0 0
unfolding computed
at_least_in_one_object = refl

-- a<=(int*)0
pub order_with_null : two_arrays (on int two (compare_pointers relation.AtMost null ∷ [])) ≡ None
unfolding computed
order_with_null = refl

-- b-a and a+2-a, a-(a+2)
pub difference_of_two_objects : two_arrays (on int b (difference 4 two ∷ [])) ≡ None
unfolding computed
difference_of_two_objects = refl

pub difference_in_one_object : two_arrays (on int two (index 4 (num 2) ∷ difference 4 two ∷ [])) ≡ ends (Exit 2) [] 0 0
unfolding computed
difference_in_one_object = refl

pub negative_difference : two_arrays (on int two (difference 4 (on (pointer_to int) two (index 4 (num 2) ∷ [])) ∷ [])) ≡ ends (Exit 254) [] 0 0
unfolding computed
negative_difference = refl

-- (int*)0-(int*)0
pub difference_of_nulls : two_arrays (on int null (difference 4 null ∷ [])) ≡ None
unfolding computed
difference_of_nulls = refl

-- (int*)((char*)a+N)-a
abbrev bytes_from_start : ℕ → Option Outcome
bytes_from_start n = two_arrays (on int two (to to_pointer ∷ index 1 (num n) ∷ to to_pointer ∷ difference 4 two ∷ []))

pub no_whole_number_of_elements : bytes_from_start 2 ≡ None
unfolding computed
no_whole_number_of_elements = refl

pub one_element : bytes_from_start 4 ≡ ends (Exit 1) [] 0 0
unfolding computed
one_element = refl

-- ---- the value of a call that ended at its closing brace (C11 6.9.1p12)

-- int f(void){} int main(void){..}
abbrev with_f : List TStmt → Option Outcome
with_f ss = outcome_of_unit (unit_with [] (function [] nothing ∷ main_of [] ss ∷ []) 1) [] 10 1000

-- return f();
pub missing_value_is_used : with_f (return (call 0 []) ∷ []) ≡ None
unfolding computed
missing_value_is_used = refl

-- f();return 3;
pub missing_value_is_dropped : with_f (do_call 0 [] ∷ return (num 3) ∷ []) ≡ ends (Exit 3) [] 1 0
unfolding computed
missing_value_is_dropped = refl

-- return (f(),(void)f(),4);
pub missing_value_in_comma : with_f (return (comma (x.DroppedCall void 0 [] ∷ x.DroppedCall void 0 [] ∷ []) (num 4)) ∷ []) ≡ ends (Exit 4) [] 2 0
unfolding computed
missing_value_in_comma = refl

-- int main(void){static int n;if(n)return 5;n=1;return main()+2;}: main gives its value like any function
-- int main(void){static int n;if(!n){n=1;return main()+2;}}: and 0 at its closing brace
abbrev once : TExpr
once = static int 0

pub main_calls_main : outcome_of_unit (unit_with (static_as an_int [] ∷ []) (main_of [] (if_ (on int once (load word ∷ not_ ∷ [])) (group (do_ (store once (num 1)) ∷ return (plus (call 0 []) (num 2)) ∷ [])) ∷ []) ∷ []) 0) [] 10 1000 ≡ ends (Exit 2) [] 1 0
unfolding computed
main_calls_main = refl
