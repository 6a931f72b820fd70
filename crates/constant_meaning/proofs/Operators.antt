-- Operators on numbers give what c_meaning says that they give on values.
use Rattle.std.proofs.Common.{◌≡◌, refl, ap, ℕ, Bool, true, false, Option, Some, None}
use Rattle.std.specs.Prelude.{not, ◌==◌, if◌then◌else◌}
use Rattle.std.specs.Option.{option_map, option_and_then}
use Rattle.word_ops.specs.declared.operation.Width.TheVariants as width
use Rattle.word_ops.specs.Word.{number_of_truth}
use Rattle.word_ops.specs.Store.{Value, Number, Store}
use Rattle.word_ops.specs.Run.{Outside, Run, Gives, then_do, given, branch}
use Rattle.c_tree.specs.declared.typed.operator.Sign.TheVariants as sign
use Rattle.c_tree.specs.declared.typed.operator.Conversion.{Conversion}
use Rattle.c_tree.specs.declared.typed.operator.Conversion.TheVariants as conversion
use Rattle.c_tree.specs.declared.typed.operator.Relation.TheVariants as relation
use Rattle.c_tree.specs.declared.typed.operator.Arithmetic.{Arithmetic}
use Rattle.c_tree.specs.declared.typed.operator.Arithmetic.TheVariants as arithmetic
use Rattle.c_tree.specs.declared.typed.operator.Primary.{Primary}
use Rattle.c_tree.specs.declared.typed.operator.Primary.TheVariants as primary
use Rattle.c_tree.specs.declared.typed.operator.Unary.{Unary}
use Rattle.c_tree.specs.declared.typed.operator.Unary.TheVariants as unary
use Rattle.c_layout.specs.Constants.{is_constant_primary, is_constant_conversion, is_constant_unary, is_constant_arithmetic, primary_number, converted_number, unary_number, arithmetic_number}
use Rattle.c_meaning.specs.Environment.{Environment}
use Rattle.c_meaning.specs.Operators.{Changed, primary_value, converted, unary_value, unchanged, arithmetic_value}
use Rattle.c_meaning.specs.Expressions.{gives_changed}

-- gives a number, where there is one
abbrev pub gives : Store → Outside → Option ℕ → Run Store Value
gives st w o = given o (λ n. Gives st w (Number n))

pub primary-gives : (env : Environment) (st : Store) (w : Outside) (p : Primary) → is_constant_primary p ≡ true →
    given (primary_value env st p) (gives_changed w) ≡ gives st w (primary_number p)
primary-gives env st w (primary.Number n) h = refl
primary-gives env st w primary.Null h = cc
primary-gives env st w (primary.Variable k i) h = cc
primary-gives env st w (primary.Address i) h = cc
primary-gives env st w (primary.Static i) h = cc
primary-gives env st w (primary.Increment i c) h = cc

conversion-gives : (st : Store) (c : Conversion) (n : ℕ) → is_constant_conversion c ≡ true →
    converted st c (Number n) ≡ option_map Number (converted_number c n)
conversion-gives st (conversion.Integer width.Word) n h = refl
conversion-gives st (conversion.Integer width.U8) n h = refl
conversion-gives st (conversion.Integer width.S8) n h = refl
conversion-gives st (conversion.Integer width.U16) n h = refl
conversion-gives st (conversion.Integer width.S16) n h = refl
conversion-gives st conversion.Bool n h = refl
conversion-gives st conversion.Pointer n h = cc

not_not : (b : Bool) → not (not b) ≡ b
not_not true = refl
not_not false = refl

pub unary-gives : (st : Store) (u : Unary) (n : ℕ) → is_constant_unary u ≡ true →
    unary_value st u (Number n) ≡ unchanged st (option_map Number (unary_number u n))
unary-gives st (unary.Convert c) n h = ap (unchanged st) (conversion-gives st c n h)
unary-gives st (unary.Negate sign.Signed) n h = refl
unary-gives st (unary.Negate sign.Unsigned) n h = refl
unary-gives st unary.Complement n h = refl
unary-gives st unary.Not n h = ap (λ b. unchanged st (Some (Number (number_of_truth b)))) (not_not (n == 0))
unary-gives st (unary.Load k) n h = cc
unary-gives st (unary.Member o) n h = cc
unary-gives st (unary.Increment i) n h = cc
unary-gives st unary.Drop n h = cc

pub arithmetic-gives : (st : Store) (o : Arithmetic) (a b : ℕ) → is_constant_arithmetic o ≡ true →
    arithmetic_value st o (Number a) (Number b) ≡ option_map Number (arithmetic_number o a b)
arithmetic-gives st (arithmetic.Word o) a b h = refl
arithmetic-gives st (arithmetic.Compare relation.Less sign.Signed) a b h = refl
arithmetic-gives st (arithmetic.Compare relation.Greater sign.Signed) a b h = refl
arithmetic-gives st (arithmetic.Compare relation.AtMost sign.Signed) a b h = refl
arithmetic-gives st (arithmetic.Compare relation.AtLeast sign.Signed) a b h = refl
arithmetic-gives st (arithmetic.Compare relation.Equal sign.Signed) a b h = refl
arithmetic-gives st (arithmetic.Compare relation.NotEqual sign.Signed) a b h = refl
arithmetic-gives st (arithmetic.Compare relation.Less sign.Unsigned) a b h = refl
arithmetic-gives st (arithmetic.Compare relation.Greater sign.Unsigned) a b h = refl
arithmetic-gives st (arithmetic.Compare relation.AtMost sign.Unsigned) a b h = refl
arithmetic-gives st (arithmetic.Compare relation.AtLeast sign.Unsigned) a b h = refl
arithmetic-gives st (arithmetic.Compare relation.Equal sign.Unsigned) a b h = refl
arithmetic-gives st (arithmetic.Compare relation.NotEqual sign.Unsigned) a b h = refl
arithmetic-gives st (arithmetic.ComparePointers r) a b h = cc
arithmetic-gives st (arithmetic.PointerPlus z) a b h = cc
arithmetic-gives st (arithmetic.PlusPointer z) a b h = cc
arithmetic-gives st (arithmetic.PointerMinus z) a b h = cc
arithmetic-gives st (arithmetic.Difference e) a b h = cc

-- ---- what goes on behind a number

pub then-gives : (st : Store) (w : Outside) (o : Option ℕ) (go : Store → Outside → Value → Run Store Value)
    (f : ℕ → Option ℕ) → ((n : ℕ) → go st w (Number n) ≡ gives st w (f n)) →
    then_do (gives st w o) go ≡ gives st w (option_and_then f o)
then-gives st w None go f h = refl
then-gives st w (Some n) go f h = h n

pub changed-gives : (st : Store) (w : Outside) (o : Option ℕ) (go : Changed → Run Store Value) (f : ℕ → Option ℕ) →
    ((n : ℕ) → go (record { store = st; value = Number n }) ≡ gives st w (f n)) →
    given (unchanged st (option_map Number o)) go ≡ gives st w (option_and_then f o)
changed-gives st w None go f h = refl
changed-gives st w (Some n) go f h = h n

pub value-gives : (st : Store) (w : Outside) (o : Option ℕ) (go : Value → Run Store Value) (f : ℕ → Option ℕ) →
    ((n : ℕ) → go (Number n) ≡ gives st w (f n)) →
    given (option_map Number o) go ≡ gives st w (option_and_then f o)
value-gives st w None go f h = refl
value-gives st w (Some n) go f h = h n

pub and_then-assoc : (o : Option ℕ) (f g : ℕ → Option ℕ) →
    option_and_then (λ n. option_and_then g (f n)) o ≡ option_and_then g (option_and_then f o)
and_then-assoc None f g = refl
and_then-assoc (Some n) f g = refl

-- one of two ways by a number
pub branch-gives : (st : Store) (w : Outside) (b : Bool) (first second : Store → Outside → Run Store Value)
    (p q : Option ℕ) → first st w ≡ gives st w p → second st w ≡ gives st w q →
    branch (not b) first second st w ≡ gives st w (if b then q else p)
branch-gives st w true first second p q h g = g
branch-gives st w false first second p q h g = h
