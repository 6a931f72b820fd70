-- What the laws ask can be met: a unit that hangs together.
use Rattle.std.proofs.Common.{◌≡◌, refl, subst, ℕ, zero, suc, [], ◌∷◌, arith}
use Rattle.std.proofs.lemmas.Option.{none-some, same_Some}
use Rattle.std.specs.Prelude.{Some, slice_get}
use Rattle.word_ops.specs.declared.operation.Width.TheVariants as width
use Rattle.c_tree.specs.declared.typed.operator.Scalar.TheVariants as scalar
use Rattle.c_tree.specs.declared.typed.unit.TFunction.{TFunction}
use Rattle.c_tree.specs.TypedKinds.{Void, word}
use Rattle.c_tree.specs.TypedUnits.{kept_as, signature_of, IsFunction, IsUnit}
use Rattle.c_tree.specs.TypedUnits.{IsObject}
use Rattle.c_meaning.specs.Examples.Trees.{computed, an_int, num, do_call, return, main_of}
use Rattle.c_meaning.specs.Examples.Runs.{descends, descent, sum, sum_main}

an_int_is_object : IsObject an_int
an_int_is_object = ((omega arith, omega arith), (refl, refl))

-- void f(int n){if(n)f(n-1);}
descends_is_function : IsFunction (descent 2) descends
unfolding computed
descends_is_function =
    ((scalar.Integer width.Word, refl, an_int_is_object, tt), ((tt, tt), ((((word, ((kept_as an_int, refl, refl), refl), tt), (signature_of descends, refl, ((word, ((kept_as an_int, refl, refl), refl), (word, (omega arith, refl), word, (tt, tt, refl), refl)), tt), refl), tt), ((tt, tt), tt)), tt)))

-- int main(void){f(2);return 0;}
main_is_function : IsFunction (descent 2) (main_of [] (do_call 0 (num 2 ∷ []) ∷ return (num 0) ∷ []))
unfolding computed
main_is_function =
    (tt, ((tt, tt), ((signature_of descends, refl, ((omega arith, refl), tt), refl), ((omega arith, refl), tt))))

functions_hang_together : (i : ℕ) (f : TFunction) → slice_get (descent 2).functions i ≡ Some f → IsFunction (descent 2) f
functions_hang_together zero f e = subst (IsFunction (descent 2)) (same_Some descends f e) descends_is_function
functions_hang_together (suc zero) f e =
    subst (IsFunction (descent 2)) (same_Some (main_of [] (do_call 0 (num 2 ∷ []) ∷ return (num 0) ∷ [])) f e) main_is_function
functions_hang_together (suc (suc i)) f e = absurd (none-some f e)

pub descent_hangs_together : IsUnit (descent 2)
descent_hangs_together =
    record { functions = functions_hang_together; main = (refl, refl); objects = λ i o e. absurd (none-some o e) }

-- int main(void){int s=0;int i;for(i=0;i<10;i++)s=s+i;return s;}
sum_is_function : IsFunction sum sum_main
unfolding computed
sum_is_function =
    (tt, ((refl, (an_int_is_object, (an_int_is_object, tt))), ((kept_as an_int, refl, (refl, (omega arith, refl))), ((word, (word, (omega arith, refl), (word, refl, (kept_as an_int, refl, refl), (tt, refl), refl)), (Void, refl, refl)), (((word, (word, ((kept_as an_int, refl, refl), refl), (word, (omega arith, refl), word, (tt, tt, refl), refl)), tt), (word, ((kept_as an_int, refl, refl), (word, (tt, tt, refl), (tt, refl)), refl), (Void, refl, refl)), (word, (word, (word, ((kept_as an_int, refl, refl), refl), (word, ((kept_as an_int, refl, refl), refl), word, (tt, tt, refl), refl)), (word, refl, (kept_as an_int, refl, refl), (tt, refl), refl)), (Void, refl, refl))), (((kept_as an_int, refl, refl), refl), tt))))))

sum_functions : (i : ℕ) (f : TFunction) → slice_get sum.functions i ≡ Some f → IsFunction sum f
sum_functions zero f e = subst (IsFunction sum) (same_Some sum_main f e) sum_is_function
sum_functions (suc i) f e = absurd (none-some f e)

pub sum_hangs_together : IsUnit sum
sum_hangs_together =
    record { functions = sum_functions; main = (refl, refl); objects = λ i o e. absurd (none-some o e) }
