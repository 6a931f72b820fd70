-- Statements, and the objects of blocks, of functions and of the unit.
use Rattle.std.specs.Prelude.{◌≡◌, ℕ, List, ◌∷◌, [], Option, Some, None}
use Rattle.std.proofs.Common.{refl}
use Rattle.word_ops.specs.Run.{Exit}
use Rattle.word_ops.specs.Outcome.{Outcome}
use Rattle.c_tree.specs.declared.typed.statement.TStmt.{TStmt}
use Rattle.c_tree.specs.declared.typed.statement.TStmt.TheVariants as s
use Rattle.c_tree.specs.declared.typed.statement.Label.TheVariants as label
use Rattle.c_tree.specs.declared.typed.statement.Initial.TheVariants as initial
use Rattle.c_tree.specs.declared.typed.unit.StaticPart.TheVariants as part
use Rattle.c_tree.specs.declared.typed.unit.Object.{Object}
use Rattle.c_meaning.specs.Units.{outcome_of_unit}
use Rattle.c_meaning.specs.Examples.Trees.{computed, int, char, pointer_to, array_of, constant, word, byte, pointer, object, an_int, a_pointer, ints, chars, num, var, pvar, at, static, on, load, to, to_word, to_byte, add, mul, index, plus, minus, is_less, is_equal, element, set, store_as, store, postfix_plus, call, putchar, dropped, do_, do_call, begin, begin_with, int_at, block, group, branch, if_, if_else, switch, labels, case, default, return, function, procedure, static_as, unit, unit_with, main_of, ends}

-- the outcome of a main with these objects, without input
abbrev outcome : List Object → List TStmt → Option Outcome
outcome os ss = outcome_of_unit (unit os ss) [] 10 1000

-- putchar of a number, as a statement
abbrev put : ℕ → TStmt
put n = do_ (putchar (num n))

-- ---- if, loops, break and continue

-- int main(void){int i;for(i=0;i<3;i++)if(i==0)putchar('a');else if(i==1)putchar('b');else putchar('c');return 0;}
pub first_that_holds : outcome (an_int ∷ []) (do_ (set 0 (num 0)) ∷ s.For (Some (is_less (var 0) (num 3))) (Some (dropped (postfix_plus 0))) (s.If (branch (is_equal (var 0) (num 0)) (put 97) ∷ branch (is_equal (var 0) (num 1)) (put 98) ∷ []) (put 99)) ∷ return (num 0) ∷ []) ≡ ends (Exit 0) (97 ∷ 98 ∷ 99 ∷ []) 6 0
unfolding computed
first_that_holds = refl

-- int main(void){int i=0;while(1){i++;if(i==2)continue;if(i==5)break;putchar('0'+i);}return i;}
pub continue_and_break : outcome (an_int ∷ []) (begin 0 (num 0) ∷ s.While (num 1) (group (do_ (postfix_plus 0) ∷ if_ (is_equal (var 0) (num 2)) s.Continue ∷ if_ (is_equal (var 0) (num 5)) s.Break ∷ do_ (putchar (plus (num 48) (var 0))) ∷ [])) ∷ return (var 0) ∷ []) ≡ ends (Exit 5) (49 ∷ 51 ∷ 52 ∷ []) 7 0
unfolding computed
continue_and_break = refl

-- int main(void){int i=0;do{i++;if(i<3)continue;break;}while(i<9);return i;}: continue goes to the condition
pub continue_in_do : outcome (an_int ∷ []) (begin 0 (num 0) ∷ s.Do (group (do_ (postfix_plus 0) ∷ if_ (is_less (var 0) (num 3)) s.Continue ∷ s.Break ∷ [])) (is_less (var 0) (num 9)) ∷ return (var 0) ∷ []) ≡ ends (Exit 3) [] 2 0
unfolding computed
continue_in_do = refl

-- int main(void){int i,n=0;for(i=0;;i++){if(i<4)continue;n=i;break;}return n;}: continue goes to the step
pub continue_in_for : outcome (an_int ∷ an_int ∷ []) (begin 1 (num 0) ∷ do_ (set 0 (num 0)) ∷ s.For None (Some (dropped (postfix_plus 0))) (group (if_ (is_less (var 0) (num 4)) s.Continue ∷ do_ (set 1 (var 0)) ∷ s.Break ∷ [])) ∷ return (var 1) ∷ []) ≡ ends (Exit 4) [] 4 0
unfolding computed
continue_in_for = refl

-- int main(void){int i;for(i=0;i<9;i++)while(1)if(i==3)return i;else break;return 99;}: break leaves one loop, return all
pub break_leaves_one_loop : outcome (an_int ∷ []) (do_ (set 0 (num 0)) ∷ s.For (Some (is_less (var 0) (num 9))) (Some (dropped (postfix_plus 0))) (s.While (num 1) (if_else (is_equal (var 0) (num 3)) (return (var 0)) s.Break)) ∷ return (num 99) ∷ []) ≡ ends (Exit 3) [] 3 0
unfolding computed
break_leaves_one_loop = refl

-- ---- switch

-- int main(void){switch(N){default:putchar('d');case 1:case 2:putchar('a');break;case 3:putchar('b');}return 0;}
abbrev switched : ℕ → Option Outcome
switched n = outcome [] (switch (num n) (default (put 100 ∷ []) ∷ labels (label.Case 1 ∷ label.Case 2 ∷ []) (put 97 ∷ s.Break ∷ []) ∷ case 3 (put 98 ∷ []) ∷ []) ∷ return (num 0) ∷ [])

pub default_falls_through : switched 9 ≡ ends (Exit 0) (100 ∷ 97 ∷ []) 2 0
unfolding computed
default_falls_through = refl

pub second_label_of_a_part : switched 2 ≡ ends (Exit 0) (97 ∷ []) 1 0
unfolding computed
second_label_of_a_part = refl

pub last_part : switched 3 ≡ ends (Exit 0) (98 ∷ []) 1 0
unfolding computed
last_part = refl

-- int main(void){switch(7){putchar('x');case 1:putchar('a');}return 2;}: no label, no default, and what stands before a label
pub nothing_of_a_switch : outcome [] (switch (num 7) (labels [] (put 120 ∷ []) ∷ case 1 (put 97 ∷ []) ∷ []) ∷ return (num 2) ∷ []) ≡ ends (Exit 2) [] 0 0
unfolding computed
nothing_of_a_switch = refl

-- int main(void){int i;for(i=0;i<3;i++)switch(i){case 1:continue;default:putchar('0'+i);}return 0;}: continue goes to the loop
pub continue_in_switch : outcome (an_int ∷ []) (do_ (set 0 (num 0)) ∷ s.For (Some (is_less (var 0) (num 3))) (Some (dropped (postfix_plus 0))) (switch (var 0) (case 1 (s.Continue ∷ []) ∷ default (do_ (putchar (plus (num 48) (var 0))) ∷ []) ∷ [])) ∷ return (num 0) ∷ []) ≡ ends (Exit 0) (48 ∷ 50 ∷ []) 5 0
unfolding computed
continue_in_switch = refl

-- int main(void){switch(1){int x;case 1:x=6;return x;}return 0;}: an object of a switch's body
pub object_of_a_switch : outcome [] (s.Switch (num 1) (record { first = 0; list = an_int ∷ [] }) (labels [] [] ∷ case 1 (do_ (set 0 (num 6)) ∷ return (var 0) ∷ []) ∷ []) ∷ return (num 0) ∷ []) ≡ ends (Exit 6) [] 0 0
unfolding computed
object_of_a_switch = refl

-- ---- automatic objects

-- int main(void){int i;for(i=0;i<2;i++){int x;if(i==0)x=1;else return x;}return 0;}: a new object at each entry
pub new_at_each_entry : outcome (an_int ∷ []) (do_ (set 0 (num 0)) ∷ s.For (Some (is_less (var 0) (num 2))) (Some (dropped (postfix_plus 0))) (block 1 (an_int ∷ []) (if_else (is_equal (var 0) (num 0)) (do_ (set 1 (num 1))) (return (var 1)) ∷ [])) ∷ return (num 0) ∷ []) ≡ None
unfolding computed
new_at_each_entry = refl

-- the same with int x=4
pub initialised_at_each_entry : outcome (an_int ∷ []) (do_ (set 0 (num 0)) ∷ s.For (Some (is_less (var 0) (num 2))) (Some (dropped (postfix_plus 0))) (block 1 (an_int ∷ []) (begin 1 (num 4) ∷ if_else (is_equal (var 0) (num 0)) (do_ (set 1 (num 1))) (return (var 1)) ∷ [])) ∷ return (num 0) ∷ []) ≡ ends (Exit 4) [] 1 0
unfolding computed
initialised_at_each_entry = refl

-- int main(void){int x=1;{int x=2;putchar('0'+x);}return x;}: the inner name is another object
pub inner_object : outcome (an_int ∷ []) (begin 0 (num 1) ∷ block 1 (an_int ∷ []) (begin 1 (num 2) ∷ do_ (putchar (plus (num 48) (var 1))) ∷ []) ∷ return (var 0) ∷ []) ≡ ends (Exit 1) (50 ∷ []) 1 0
unfolding computed
inner_object = refl

-- int f(int n){int m=n;if(n)f(n-1);return m+n;}int main(void){return f(3);}: each call has objects of its own
pub objects_of_each_call : outcome_of_unit (unit_with [] (function (an_int ∷ []) (block 1 (an_int ∷ []) (begin 1 (var 0) ∷ if_ (var 0) (do_call 0 (minus (var 0) (num 1) ∷ [])) ∷ return (plus (var 1) (var 0)) ∷ [])) ∷ main_of [] (return (call 0 (num 3 ∷ [])) ∷ []) ∷ []) 1) [] 10 1000 ≡ ends (Exit 6) [] 4 0
unfolding computed
objects_of_each_call = refl

-- void f(int*p,int n){*p=n;}int main(void){int x=1;f(&x,9);return x;}
pub written_by_a_call : outcome_of_unit (unit_with [] (procedure (a_pointer ∷ an_int ∷ []) (group (do_ (store (pvar 0) (var 1)) ∷ [])) ∷ main_of (an_int ∷ []) (begin 0 (num 1) ∷ do_call 0 (at (pointer_to int) 0 ∷ num 9 ∷ []) ∷ return (var 0) ∷ []) ∷ []) 1) [] 10 1000 ≡ ends (Exit 9) [] 1 0
unfolding computed
written_by_a_call = refl

-- int*f(int n){return &n;}int main(void){return *f(1);}: a parameter ends with its call
pub parameter_after_its_call : outcome_of_unit (unit_with [] (function (an_int ∷ []) (group (return (at (pointer_to int) 0) ∷ [])) ∷ main_of [] (return (on int (call 0 (num 1 ∷ [])) (load word ∷ [])) ∷ []) ∷ []) 1) [] 10 1000 ≡ None
unfolding computed
parameter_after_its_call = refl

-- int main(void){int a[3]={1};return a[0]*10+a[2];}: the rest is zero
pub rest_is_zero : outcome (ints 3 ∷ []) (begin_with 0 (int_at 0 1 ∷ []) ∷ return (on int (element (at (array_of 3 int) 0) (num 0)) (mul (num 10) ∷ add (element (at (array_of 3 int) 0) (num 2)) ∷ [])) ∷ []) ≡ ends (Exit 10) [] 0 0
unfolding computed
rest_is_zero = refl

-- int main(void){char s[4]="hi";s[0]='b';return s[0]+s[2]+s[3];}: an array is no literal, and a string fills it
pub array_of_chars : outcome (chars 4 ∷ []) (begin_with 0 (initial.Bytes 0 (104 ∷ 105 ∷ 0 ∷ []) ∷ []) ∷ do_ (store_as char byte None to_byte (on char (at (array_of 4 char) 0) (index 1 (num 0) ∷ [])) (num 98)) ∷ return (on int (at (array_of 4 char) 0) (index 1 (num 0) ∷ load byte ∷ to to_word ∷ add (on int (at (array_of 4 char) 0) (index 1 (num 2) ∷ load byte ∷ to to_word ∷ [])) ∷ add (on int (at (array_of 4 char) 0) (index 1 (num 3) ∷ load byte ∷ to to_word ∷ [])) ∷ [])) ∷ []) ≡ ends (Exit 98) [] 0 0
unfolding computed
array_of_chars = refl

-- int main(void){const int x=5;return x;}: an initialiser writes a constant
pub constant_initialised : outcome (object (constant int) (Some word) 4 4 ∷ []) (begin 0 (num 5) ∷ return (var 0) ∷ []) ≡ ends (Exit 5) [] 0 0
unfolding computed
constant_initialised = refl

-- ---- static objects

-- int f(void){static int n=1;n=n*2;return n;}int main(void){f();f();return f();}
pub static_object_lasts : outcome_of_unit (unit_with (static_as an_int (part.Bytes 0 (1 ∷ 0 ∷ 0 ∷ 0 ∷ []) ∷ []) ∷ []) (function [] (group (do_ (store (static int 0) (on int (static int 0) (load word ∷ mul (num 2) ∷ []))) ∷ return (on int (static int 0) (load word ∷ [])) ∷ [])) ∷ main_of [] (do_call 0 [] ∷ do_call 0 [] ∷ return (call 0 []) ∷ []) ∷ []) 1) [] 10 1000 ≡ ends (Exit 8) [] 3 0
unfolding computed
static_object_lasts = refl

-- int n;int main(void){return n;}
pub static_object_is_zero : outcome_of_unit (unit_with (static_as an_int [] ∷ []) (main_of [] (return (on int (static int 0) (load word ∷ [])) ∷ []) ∷ []) 0) [] 1 0 ≡ ends (Exit 0) [] 0 0
unfolding computed
static_object_is_zero = refl

-- int a[3]={1,2,3};int*p=&a[1];int main(void){return p[1]*10+*p;}
pub static_address : outcome_of_unit (unit_with (static_as (ints 3) (part.Bytes 0 (1 ∷ 0 ∷ 0 ∷ 0 ∷ 2 ∷ 0 ∷ 0 ∷ 0 ∷ 3 ∷ 0 ∷ 0 ∷ 0 ∷ []) ∷ []) ∷ static_as a_pointer (part.Address 0 0 4 ∷ []) ∷ []) (main_of [] (return (on int (static (pointer_to (pointer_to int)) 1) (load pointer ∷ index 4 (num 1) ∷ load word ∷ mul (num 10) ∷ add (on int (static (pointer_to (pointer_to int)) 1) (load pointer ∷ load word ∷ [])) ∷ [])) ∷ []) ∷ []) 0) [] 1 0 ≡ ends (Exit 32) [] 0 0
unfolding computed
static_address = refl
