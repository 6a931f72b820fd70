-- Whole programs. Ticks: one before each iteration of a loop but its first, one before each call, one after each putchar and
-- getchar.
use Rattle.std.specs.Prelude.{◌≡◌, ℕ, ◌∷◌, [], Some, None}
use Rattle.std.proofs.Common.{refl}
use Rattle.word_ops.specs.declared.operation.Op.TheVariants as op
use Rattle.word_ops.specs.Run.{Exit, Deep}
use Rattle.c_tree.specs.declared.typed.operator.Given.TheVariants as giving
use Rattle.c_tree.specs.declared.typed.operator.Relation.TheVariants as relation
use Rattle.c_tree.specs.declared.typed.expression.TExpr.{TExpr}
use Rattle.c_tree.specs.declared.typed.statement.TStmt.{TStmt}
use Rattle.c_tree.specs.declared.typed.statement.TStmt.TheVariants as s
use Rattle.c_tree.specs.declared.typed.unit.TFunction.{TFunction}
use Rattle.c_tree.specs.declared.typed.unit.Typed.{Typed}
use Rattle.c_meaning.specs.Units.{outcome_of_unit}
use Rattle.c_meaning.specs.Examples.Trees.{computed, int, unsigned, signed_char, char, bool, struct_, pointer_to, word, byte, signed_byte, pointer, object, an_int, an_unsigned, ints, num, uns, var, uvar, pvar, var_as, at, static, on, load, to, to_word, to_byte, to_signed_byte, to_bool, negate, not_, member, by, sub, mul, compare, compare_unsigned, compare_pointers, less, index, plus, minus, is_less, is_equal, set, set_as, store, postfix_plus, increment, getchar, putchar, dropped, do_, do_call, begin, begin_as, group, nothing, if_, branch, any_of, switch, case, default, return, procedure, static_as, unit, unit_with, main_of, ends}

-- int main(void){return 0;}
pub returns_0 : outcome_of_unit (unit [] (return (num 0) ∷ [])) [] 1 0 ≡ ends (Exit 0) [] 0 0
unfolding computed
returns_0 = refl

-- int main(void){}
pub falls_off_main : outcome_of_unit (unit [] []) [] 1 0 ≡ ends (Exit 0) [] 0 0
unfolding computed
falls_off_main = refl

-- int main(void){return 300;}
pub returns_300 : outcome_of_unit (unit [] (return (num 300) ∷ [])) [] 1 0 ≡ ends (Exit 44) [] 0 0
unfolding computed
returns_300 = refl

-- int main(void){return -2147483647-1;}
pub returns_least : outcome_of_unit (unit [] (return (on int (num 2147483647) (negate ∷ sub (num 1) ∷ [])) ∷ [])) [] 1 0 ≡ ends (Exit 0) [] 0 0
unfolding computed
returns_least = refl

-- int main(void){return getchar();}
pub returns_end_of_input : outcome_of_unit (unit [] (return getchar ∷ [])) [] 1 1 ≡ ends (Exit 255) [] 1 0
unfolding computed
returns_end_of_input = refl

-- int main(void){int s=0;int i;for(i=0;i<10;i++)s=s+i;return s;}
abbrev pub sum_main : TFunction
sum_main = main_of (an_int ∷ an_int ∷ []) (begin 0 (num 0) ∷ do_ (set 1 (num 0)) ∷ s.For (Some (is_less (var 1) (num 10))) (Some (dropped (postfix_plus 1))) (do_ (set 0 (plus (var 0) (var 1)))) ∷ return (var 0) ∷ [])

-- int main(void){int s=0;int i;for(i=0;i<10;i++)s=s+i;return s;}: the unit
abbrev pub sum : Typed
sum = unit_with [] (sum_main ∷ []) 0

pub sum_is_45 : outcome_of_unit sum [] 1 1000 ≡ ends (Exit 45) [] 10 0
unfolding computed
sum_is_45 = refl

-- int main(void){int a=1,b=2,t,n=getchar()-'0';while(n>0){t=a;a=b;b=t;n=n-1;}return a;}
abbrev pub swap : Typed
swap = unit (an_int ∷ an_int ∷ an_int ∷ an_int ∷ []) (begin 0 (num 1) ∷ begin 1 (num 2) ∷ begin 3 (minus getchar (num 48)) ∷ s.While (on int (var 3) (compare relation.Greater (num 0) ∷ [])) (group (do_ (set 2 (var 0)) ∷ do_ (set 0 (var 1)) ∷ do_ (set 1 (var 2)) ∷ do_ (set 3 (minus (var 3) (num 1))) ∷ [])) ∷ return (var 0) ∷ [])

pub swapped_three_times : outcome_of_unit swap (51 ∷ []) 1 1000 ≡ ends (Exit 2) [] 4 1
unfolding computed
swapped_three_times = refl

pub swapped_four_times : outcome_of_unit swap (52 ∷ []) 1 1000 ≡ ends (Exit 1) [] 5 1
unfolding computed
swapped_four_times = refl

-- int main(void){int i;for(i=0;i<4;i++)switch(i){case 1:putchar('a');case 2:putchar('b');break;default:putchar('d');}return 0;}
abbrev pub letters : Typed
letters = unit (an_int ∷ []) (do_ (set 0 (num 0)) ∷ s.For (Some (is_less (var 0) (num 4))) (Some (dropped (postfix_plus 0))) (switch (var 0) (case 1 (do_ (putchar (num 97)) ∷ []) ∷ case 2 (do_ (putchar (num 98)) ∷ s.Break ∷ []) ∷ default (do_ (putchar (num 100)) ∷ []) ∷ [])) ∷ return (num 0) ∷ [])

pub puts_dabbd : outcome_of_unit letters [] 1 1000 ≡ ends (Exit 0) (100 ∷ 97 ∷ 98 ∷ 98 ∷ 100 ∷ []) 9 0
unfolding computed
puts_dabbd = refl

-- int main(void){int x=getchar();int y=getchar();putchar(x+y);putchar(x+y);return 0;}
pub puts_sum_twice : outcome_of_unit (unit (an_int ∷ an_int ∷ []) (begin 0 getchar ∷ begin 1 getchar ∷ do_ (putchar (plus (var 0) (var 1))) ∷ do_ (putchar (plus (var 0) (var 1))) ∷ return (num 0) ∷ [])) (33 ∷ 33 ∷ []) 1 1000 ≡ ends (Exit 0) (66 ∷ 66 ∷ []) 4 2
unfolding computed
puts_sum_twice = refl

-- int main(void){int x=2*getchar();if(x&1)putchar('o');return 0;}
abbrev pub never_odd : Typed
never_odd = unit (an_int ∷ []) (begin 0 (on int (num 2) (mul getchar ∷ [])) ∷ if_ (on int (var 0) (by op.And (num 1) ∷ [])) (do_ (putchar (num 111))) ∷ return (num 0) ∷ [])

pub twice_end_of_input_is_even : outcome_of_unit never_odd [] 1 1000 ≡ ends (Exit 0) [] 1 0
unfolding computed
twice_end_of_input_is_even = refl

pub twice_a_byte_is_even : outcome_of_unit never_odd (255 ∷ []) 1 1000 ≡ ends (Exit 0) [] 1 1
unfolding computed
twice_a_byte_is_even = refl

-- static void num(unsigned n){if(n>9u)num(n/10u);putchar('0'+n%10u);}
abbrev pub number_put : TFunction
number_put = procedure (an_unsigned ∷ []) (group (if_ (on int (uvar 0) (compare_unsigned relation.Greater (uns 9) ∷ [])) (do_call 0 (on unsigned (uvar 0) (by op.Divu (uns 10) ∷ []) ∷ [])) ∷ do_ (putchar (on int (num 48) (to to_word ∷ by op.Add (on unsigned (uvar 0) (by op.Remu (uns 10) ∷ [])) ∷ to to_word ∷ []))) ∷ []))

-- static void num(unsigned n){if(n>9u)num(n/10u);putchar('0'+n%10u);}
-- int main(void){unsigned a=0xFFFFFFFF;num(a+1);putchar(' ');num(0u-1);return 0;}
abbrev pub unsigned_wraps : Typed
unsigned_wraps = unit_with [] (number_put ∷ main_of (an_unsigned ∷ []) (begin 0 (uns 0xFFFFFFFF) ∷ do_call 0 (on unsigned (uvar 0) (by op.Add (on unsigned (num 1) (to to_word ∷ [])) ∷ []) ∷ []) ∷ do_ (putchar (num 32)) ∷ do_call 0 (on unsigned (uns 0) (by op.Sub (on unsigned (num 1) (to to_word ∷ [])) ∷ []) ∷ []) ∷ return (num 0) ∷ []) ∷ []) 1

pub puts_0_4294967295 : outcome_of_unit unsigned_wraps [] 200 1000 ≡ ends (Exit 0) (48 ∷ 32 ∷ 52 ∷ 50 ∷ 57 ∷ 52 ∷ 57 ∷ 54 ∷ 55 ∷ 50 ∷ 57 ∷ 53 ∷ []) 23 0
unfolding computed
puts_0_4294967295 = refl

-- void f(int n){if(n)f(n-1);}
abbrev pub descends : TFunction
descends = procedure (an_int ∷ []) (group (if_ (var 0) (do_call 0 (minus (var 0) (num 1) ∷ [])) ∷ []))

-- int main(void){f(N);return 0;}
abbrev pub descent : ℕ → Typed
descent n = unit_with [] (descends ∷ main_of [] (do_call 0 (num n ∷ []) ∷ return (num 0) ∷ []) ∷ []) 1

pub depth_200_is_enough_for_198 : outcome_of_unit (descent 198) [] 200 1000 ≡ ends (Exit 0) [] 199 0
unfolding computed
depth_200_is_enough_for_198 = refl

pub depth_200_is_too_little_for_199 : outcome_of_unit (descent 199) [] 200 1000 ≡ ends Deep [] 200 0
unfolding computed
depth_200_is_too_little_for_199 = refl

pub depth_201_is_enough_for_199 : outcome_of_unit (descent 199) [] 201 1000 ≡ ends (Exit 0) [] 200 0
unfolding computed
depth_201_is_enough_for_199 = refl

-- struct S{int a;int b[4];};
-- int main(void){struct S s;struct S*p=&s;int k=getchar()&3;p->a=1;p->a=7;p->b[k]=5;return p->a;}
pub member_is_kept : outcome_of_unit (unit (object struct_ None 20 4 ∷ object (pointer_to struct_) (Some pointer) 4 4 ∷ an_int ∷ []) (begin_as pointer 1 (at (pointer_to struct_) 0) ∷ begin 2 (on int getchar (by op.And (num 3) ∷ [])) ∷ do_ (store (on int (pvar 1) (member 0 ∷ [])) (num 1)) ∷ do_ (store (on int (pvar 1) (member 0 ∷ [])) (num 7)) ∷ do_ (store (on int (pvar 1) (member 4 ∷ index 4 (var 2) ∷ [])) (num 5)) ∷ return (on int (pvar 1) (member 0 ∷ load word ∷ [])) ∷ [])) (99 ∷ []) 1 1000 ≡ ends (Exit 7) [] 1 1
unfolding computed
member_is_kept = refl

-- int a[3],b[3];int main(void){return a+3==b;}
pub end_of_a_is_not_b : outcome_of_unit (unit_with (static_as (ints 3) [] ∷ static_as (ints 3) [] ∷ []) (main_of [] (return (on int (static (pointer_to int) 0) (index 4 (num 3) ∷ compare_pointers relation.Equal (static (pointer_to int) 1) ∷ [])) ∷ []) ∷ []) 0) [] 1 0 ≡ ends (Exit 0) [] 0 0
unfolding computed
end_of_a_is_not_b = refl

-- int a[3],b[3];int main(void){return b+3==a;}
pub end_of_b_is_not_a : outcome_of_unit (unit_with (static_as (ints 3) [] ∷ static_as (ints 3) [] ∷ []) (main_of [] (return (on int (static (pointer_to int) 1) (index 4 (num 3) ∷ compare_pointers relation.Equal (static (pointer_to int) 0) ∷ [])) ∷ []) ∷ []) 0) [] 1 0 ≡ ends (Exit 0) [] 0 0
unfolding computed
end_of_b_is_not_a = refl

-- int main(void){signed char s=200;return s<0;}
pub signed_char_is_negative : outcome_of_unit (unit (object signed_char (Some signed_byte) 1 1 ∷ []) (begin_as signed_byte 0 (on signed_char (num 200) (to to_signed_byte ∷ [])) ∷ return (on int (var_as signed_char signed_byte 0) (to to_word ∷ less (num 0) ∷ [])) ∷ [])) [] 1 0 ≡ ends (Exit 1) [] 0 0
unfolding computed
signed_char_is_negative = refl

-- int main(void){unsigned char c=300;return c;}
pub unsigned_char_is_44 : outcome_of_unit (unit (object char (Some byte) 1 1 ∷ []) (begin_as byte 0 (on char (num 300) (to to_byte ∷ [])) ∷ return (on int (var_as char byte 0) (to to_word ∷ [])) ∷ [])) [] 1 0 ≡ ends (Exit 44) [] 0 0
unfolding computed
unsigned_char_is_44 = refl

-- int main(void){_Bool b=256;return b;}
pub bool_is_1 : outcome_of_unit (unit (object bool (Some byte) 1 1 ∷ []) (begin_as byte 0 (on bool (num 256) (to to_bool ∷ [])) ∷ return (on int (var_as bool byte 0) (to to_word ∷ [])) ∷ [])) [] 1 0 ≡ ends (Exit 1) [] 0 0
unfolding computed
bool_is_1 = refl

-- the statement n++ and the test c=='b' of the word count
abbrev counted : ℕ → TStmt
counted i = do_ (increment op.Add giving.Old i)

-- c is this byte
abbrev is_byte : ℕ → TExpr
is_byte b = is_equal (var 4) (num b)

-- static void num(unsigned n){if(n>9u)num(n/10u);putchar('0'+n%10u);}
-- int main(void){unsigned lines=0,words=0,bytes=0;_Bool in=0;int c,last='\n';
--   while((c=getchar())!=-1){bytes++;if(c=='\n')lines++;
--     if(c==' '||c=='\n'||c=='\t')in=0;else if(!in){in=1;words++;}last=c;}
--   if(last!='\n')lines++;num(lines);putchar(' ');num(words);putchar(' ');num(bytes);putchar('\n');return 0;}
abbrev pub word_count : Typed
word_count = unit_with [] (number_put ∷ main_of (an_unsigned ∷ an_unsigned ∷ an_unsigned ∷ object bool (Some byte) 1 1 ∷ an_int ∷ an_int ∷ []) (begin 0 (on unsigned (num 0) (to to_word ∷ [])) ∷ begin 1 (on unsigned (num 0) (to to_word ∷ [])) ∷ begin 2 (on unsigned (num 0) (to to_word ∷ [])) ∷ begin_as byte 3 (on bool (num 0) (to to_bool ∷ [])) ∷ begin 5 (num 10) ∷ s.While (on int (set 4 getchar) (compare relation.NotEqual (on int (num 1) (negate ∷ [])) ∷ [])) (group (counted 2 ∷ if_ (is_byte 10) (counted 0) ∷ s.If (branch (any_of (is_byte 32 ∷ is_byte 10 ∷ is_byte 9 ∷ [])) (do_ (set_as bool byte None to_bool 3 (num 0))) ∷ branch (on int (var_as bool byte 3) (not_ ∷ [])) (group (do_ (set_as bool byte None to_bool 3 (num 1)) ∷ counted 1 ∷ [])) ∷ []) nothing ∷ do_ (set 5 (var 4)) ∷ [])) ∷ if_ (on int (var 5) (compare relation.NotEqual (num 10) ∷ [])) (counted 0) ∷ do_call 0 (uvar 0 ∷ []) ∷ do_ (putchar (num 32)) ∷ do_call 0 (uvar 1 ∷ []) ∷ do_ (putchar (num 32)) ∷ do_call 0 (uvar 2 ∷ []) ∷ do_ (putchar (num 10)) ∷ return (num 0) ∷ []) ∷ []) 1

-- of "to be or", a newline and "not": "2 4 12" and a newline. Ticks: 13 for getchar, 12 for the loop, 7 for putchar, 4 for calls
pub counts_2_4_12 : outcome_of_unit word_count (116 ∷ 111 ∷ 32 ∷ 98 ∷ 101 ∷ 32 ∷ 111 ∷ 114 ∷ 10 ∷ 110 ∷ 111 ∷ 116 ∷ []) 200 1000 ≡ ends (Exit 0) (50 ∷ 32 ∷ 52 ∷ 32 ∷ 49 ∷ 50 ∷ 10 ∷ []) 36 12
unfolding computed
counts_2_4_12 = refl
