-- Runs that the clock cuts, and calls that the depth cuts.
use Rattle.std.specs.Prelude.{◌≡◌, ◌∷◌, [], Some, None}
use Rattle.std.proofs.Common.{refl}
use Rattle.word_ops.specs.Run.{Exit, Deep, More}
use Rattle.c_tree.specs.declared.typed.statement.TStmt.TheVariants as s
use Rattle.c_tree.specs.declared.typed.unit.Typed.{Typed}
use Rattle.c_meaning.specs.Units.{outcome_of_unit}
use Rattle.c_meaning.specs.Examples.Trees.{computed, int, num, on, div, plus, getchar, putchar, do_, nothing, return, unit, ends}
use Rattle.c_meaning.specs.Examples.Runs.{sum, descent, letters}

-- int main(void){while(1);}
pub loop_without_end : outcome_of_unit (unit [] (s.While (num 1) nothing ∷ [])) [] 1 1000 ≡ ends More [] 1000 0
unfolding computed
loop_without_end = refl

-- a loop of 10 iterations tests its condition 11 times: 10 ticks are due, and with 9 the last is missing
pub loop_cut : outcome_of_unit sum [] 1 9 ≡ ends More [] 9 0
unfolding computed
loop_cut = refl

pub loop_not_cut : outcome_of_unit sum [] 1 10 ≡ ends (Exit 45) [] 10 0
unfolding computed
loop_not_cut = refl

-- int main(void){while(0);do;while(0);for(;0;);return 1;}: a first iteration takes no tick
pub first_iterations : outcome_of_unit (unit [] (s.While (num 0) nothing ∷ s.Do nothing (num 0) ∷ s.For (Some (num 0)) None nothing ∷ return (num 1) ∷ [])) [] 1 0 ≡ ends (Exit 1) [] 0 0
unfolding computed
first_iterations = refl

-- int main(void){putchar('a');return 1;}: the byte is put, then the tick is due
abbrev puts_a : Typed
puts_a = unit [] (do_ (putchar (num 97)) ∷ return (num 1) ∷ [])

pub put_cut : outcome_of_unit puts_a [] 1 0 ≡ ends More (97 ∷ []) 0 0
unfolding computed
put_cut = refl

pub put_not_cut : outcome_of_unit puts_a [] 1 1 ≡ ends (Exit 1) (97 ∷ []) 1 0
unfolding computed
put_not_cut = refl

-- int main(void){return getchar();}: the byte is taken, then the tick is due
abbrev gets : Typed
gets = unit [] (return getchar ∷ [])

pub get_cut : outcome_of_unit gets (65 ∷ 66 ∷ []) 1 0 ≡ ends More [] 0 1
unfolding computed
get_cut = refl

pub get_not_cut : outcome_of_unit gets (65 ∷ 66 ∷ []) 1 1 ≡ ends (Exit 65) [] 1 1
unfolding computed
get_not_cut = refl

-- int main(void){putchar('a');return 1/(getchar()+1);}
abbrev quotient : Typed
quotient = unit [] (do_ (putchar (num 97)) ∷ return (on int (num 1) (div (plus getchar (num 1)) ∷ [])) ∷ [])

pub quotient_of_a_byte : outcome_of_unit quotient (65 ∷ []) 1 1000 ≡ ends (Exit 0) (97 ∷ []) 2 1
unfolding computed
quotient_of_a_byte = refl

pub quotient_at_end_of_input : outcome_of_unit quotient [] 1 1000 ≡ None
unfolding computed
quotient_at_end_of_input = refl

-- the clock cuts the run before what is undefined
pub cut_before_undefined : outcome_of_unit quotient [] 1 1 ≡ ends More (97 ∷ []) 1 0
unfolding computed
cut_before_undefined = refl

-- void f(int n){if(n)f(n-1);}int main(void){f(2);return 0;}: three calls in main at depth 1, so depth 4
pub calls_fit : outcome_of_unit (descent 2) [] 4 1000 ≡ ends (Exit 0) [] 3 0
unfolding computed
calls_fit = refl

-- the call that is too deep takes its tick
pub calls_too_deep : outcome_of_unit (descent 2) [] 3 1000 ≡ ends Deep [] 3 0
unfolding computed
calls_too_deep = refl

-- and where no tick is left, the clock cuts before the depth does
pub cut_before_too_deep : outcome_of_unit (descent 2) [] 3 2 ≡ ends More [] 2 0
unfolding computed
cut_before_too_deep = refl

-- each clock from 0 on shows what was put by then
pub letters_by_3 : outcome_of_unit letters [] 1 3 ≡ ends More (100 ∷ 97 ∷ 98 ∷ []) 3 0
unfolding computed
letters_by_3 = refl

pub letters_by_8 : outcome_of_unit letters [] 1 8 ≡ ends More (100 ∷ 97 ∷ 98 ∷ 98 ∷ 100 ∷ []) 8 0
unfolding computed
letters_by_8 = refl
