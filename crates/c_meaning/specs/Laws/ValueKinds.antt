-- What an expression, a statement and a call give is of the kind that stands for it: so a value that reaches a narrow object is
-- in its range, and each number is a word.
-- No contract cites this file: it holds proofs.
use Rattle.std.proofs.Common.{◌≡◌, refl, sym, subst, ℕ, zero, suc, List, [], ◌∷◌, arith}
use Rattle.std.specs.Prelude.{◌-◌, ◌^◌, ◌%◌, Bool, true, false, Option, Some, None, slice_get}
use Rattle.word_ops.specs.Store.{Value, Number, Store, number_of}
use Rattle.word_ops.specs.Values.{truth}
use Rattle.word_ops.specs.Run.{Outside, Run, Gives, Ends, More, Undefined, then_do, given, branch, tick_from, tick, Turn, Again, Over, after_turn, turns, loop, put_byte, next_word, get_byte, exit_with}
use Rattle.c_tree.specs.declared.typed.operator.Scalar.{Scalar}
use Rattle.c_tree.specs.declared.typed.expression.TExpr.{TExpr, Row_of-TExpr, end_of-TExpr, more_of-TExpr, Row_of-Step, end_of-Step, more_of-Step, Row_of-Arm, end_of-Arm, more_of-Arm, Row_of-Target, end_of-Target, more_of-Target}
use Rattle.c_tree.specs.declared.typed.expression.TExpr.TheVariants as x
use Rattle.c_tree.specs.declared.typed.expression.Step.TheVariants as step
use Rattle.c_tree.specs.declared.typed.expression.Target.TheVariants as target
use Rattle.c_tree.specs.TypedKinds.{Kind, Void, Holds, Signature, Names, word, IsOfKind, StepsGive, ArmsGive, TargetsGive, ResultIs}
use Rattle.c_meaning.specs.Environment.{Environment, automatic_place}
use Rattle.c_meaning.specs.Operators.{Changed, arithmetic_value, assigned, primary_value, unary_value}
use Rattle.c_meaning.specs.Expressions.{Invocation, Calls, gives_changed, put_value, exit_value, called, called_only, by_truth, gives_number, value, stepped, values, every, some, chosen, assigning}
use Rattle.c_meaning.specs.Kinds.{IsValueOf, IsResultOf, IsResultIn, GivesSuch}
use Rattle.c_meaning.specs.Laws.OperatorKinds.{arithmetic-kind, assigned-kind, unary-kind, primary-kind}

-- ---- runs that give such results

pub such-then :
    {S T A B : Type 0} (P : A → Type 0) (Q : B → Type 0) (r : Run S A) (f : S → Outside → A → Run T B) → GivesSuch P r → ((s : S) (w : Outside) (a : A) → P a → GivesSuch Q (f s w a)) → GivesSuch Q (then_do r f)
such-then P Q (Gives s w a) f h g = g s w a h
such-then P Q (Ends e w) f h g = tt
such-then P Q Undefined f h g = tt

pub such-given : {S A B : Type 0} (Q : B → Type 0) (o : Option A) (f : A → Run S B) →
    ((a : A) → o ≡ Some a → GivesSuch Q (f a)) → GivesSuch Q (given o f)
such-given Q None f g = tt
such-given Q (Some a) f g = g a refl

pub such-branch : {S A : Type 0} (Q : A → Type 0) (b : Bool) (f g : S → Outside → Run S A) (s : S) (w : Outside) →
    GivesSuch Q (f s w) → GivesSuch Q (g s w) → GivesSuch Q (branch b f g s w)
such-branch Q true f g s w h k = h
such-branch Q false f g s w h k = k

such-tick_from : {S A : Type 0} (Q : A → Type 0) (n : ℕ) (w : Outside) (f : Outside → Run S A) →
    ((w : Outside) → GivesSuch Q (f w)) → GivesSuch Q (tick_from n w f)
such-tick_from Q zero w f h = tt
such-tick_from Q (suc n) w f h = h _

pub such-tick : {S A : Type 0} (Q : A → Type 0) (w : Outside) (f : Outside → Run S A) →
    ((w : Outside) → GivesSuch Q (f w)) → GivesSuch Q (tick w f)
such-tick Q w f h = such-tick_from Q w.left w f h

pub such-any : {S A : Type 0} (r : Run S A) → GivesSuch (λ a. Unit {0}) r
such-any (Gives s w a) = tt
such-any (Ends e w) = tt
such-any Undefined = tt

-- how an iteration ends, where the loop gives such results
abbrev pub IsTurnOf : {D : Type 0} → (D → Type 0) → Turn D → Type 0
IsTurnOf P Again = Unit {0}
IsTurnOf P (Over d) = P d

such-turns :
    {S D : Type 0} (P : D → Type 0) (n : ℕ) (f : S → Outside → Run S (Turn D)) → ((s : S) (w : Outside) → GivesSuch (IsTurnOf P) (f s w)) → (s : S) (w : Outside) → GivesSuch P (turns n f s w)
such-turns {S} {D} P zero f h s w = such-then (IsTurnOf P) P (f s w) (λ s w t. after_turn t (λ w. Ends More w) s w) (h s w) after
  where
    after : (s : S) (w : Outside) (t : Turn D) → IsTurnOf P t → GivesSuch P (after_turn t (λ w. Ends More w) s w)
    after s w Again k = such-tick P w (λ w. Ends More w) (λ w. tt)
    after s w (Over d) k = k
such-turns {S} {D} P (suc n) f h s w =
    such-then (IsTurnOf P) P (f s w) (λ s w t. after_turn t (λ w. turns n f s w) s w) (h s w) (after (λ s w. such-turns P n f h s w))
  where
    after : ((s : S) (w : Outside) → GivesSuch P (turns n f s w)) → (s : S) (w : Outside) (t : Turn D) → IsTurnOf P t →
        GivesSuch P (after_turn t (λ w. turns n f s w) s w)
    after more s w Again k = such-tick P w (λ w. turns n f s w) (λ w. more s w)
    after more s w (Over d) k = k

pub such-loop : {S D : Type 0} (P : D → Type 0) (f : S → Outside → Run S (Turn D)) →
    ((s : S) (w : Outside) → GivesSuch (IsTurnOf P) (f s w)) → (s : S) (w : Outside) → GivesSuch P (loop f s w)
such-loop P f h s w = such-turns P w.left f h s w

-- ---- expressions

changed-such : (g : Kind) (w : Outside) (o : Option Changed) → ((h : Changed) → o ≡ Some h → IsValueOf g h.value) →
    GivesSuch (IsValueOf g) (given o (gives_changed w))
changed-such g w o f = such-given (IsValueOf g) o (gives_changed w) f

by_truth-such : {A : Type 0} (Q : A → Type 0) (v : Value) (f g : Store → Outside → Run Store A) (st : Store) (w : Outside) →
    GivesSuch Q (f st w) → GivesSuch Q (g st w) → GivesSuch Q (by_truth v f g st w)
by_truth-such Q v f g st w h k =
    such-given Q (truth st v) (λ b. branch b f g st w) (λ b e. such-branch Q b f g st w h k)

number-word : (n : ℕ) (e : n % 2 ^ 32 ≡ n) → IsValueOf word (Number n)
number-word n e = (n, refl, omega (arith, e))

byte-word : (n : ℕ) → IsValueOf word (Number (n % 256))
byte-word n = (n % 256, refl, omega arith)

put-such : (v : Value) (st : Store) (w : Outside) → GivesSuch (IsValueOf word) (put_value v st w)
put-such v st w =
    such-given (IsValueOf word) (number_of v) (λ n. put_byte n w (λ w. Gives st w (Number (n % 256)))) (λ n e. such-tick (IsValueOf word) _ (λ w. Gives st w (Number (n % 256))) (λ w. byte-word n))

got-word : (xs : List ℕ) → IsValueOf word (Number (next_word xs))
got-word [] = (2 ^ 32 - 1, refl, omega arith)
got-word (b ∷ xs) = (b % 256, refl, omega arith)

exit-such : (P : Value → Type 0) (v : Value) (st : Store) (w : Outside) → GivesSuch P (exit_value v st w)
exit-such P v st w = such-given P (number_of v) (λ n. exit_with n w) (λ n e. tt)

module _ (c : Names) (call : Calls) (calls_such : (i : Invocation) (w : Outside) → GivesSuch (IsResultIn (slice_get c.functions i.function)) (call i w)) where
  result_such : (f : ℕ) (g : Signature) (vs : List Value) (st : Store) (w : Outside) → slice_get c.functions f ≡ Some g →
      GivesSuch (IsResultOf g.result) (call (record { function = f; arguments = vs; store = st }) w)
  result_such f g vs st w e =
      subst (λ o. GivesSuch (IsResultIn o) (call (record { function = f; arguments = vs; store = st }) w)) e (calls_such (record { function = f; arguments = vs; store = st }) w)

  called-such : (f : ℕ) (g : Signature) (k : Scalar) (vs : List Value) (st : Store) (w : Outside) →
      slice_get c.functions f ≡ Some g → g.result ≡ Some k → GivesSuch (IsValueOf (Holds k)) (called call f vs st w)
  called-such f g k vs st w e q =
      such-tick (IsValueOf (Holds k)) w (λ w. then_do (call (record { function = f; arguments = vs; store = st }) w) (λ st w o. given o (λ v. Gives st w v))) (λ w. such-then (IsResultOf (Some k)) (IsValueOf (Holds k)) (call (record { function = f; arguments = vs; store = st }) w) (λ st w o. given o (λ v. Gives st w v)) (subst (λ r. GivesSuch (IsResultOf r) (call (record { function = f; arguments = vs; store = st }) w)) q (result_such f g vs st w e)) (λ st w o h. used st w o h))
    where
      used : (st : Store) (w : Outside) (o : Option Value) → IsResultOf (Some k) o →
          GivesSuch (IsValueOf (Holds k)) (given o (λ v. Gives st w v))
      used st w None h = tt
      used st w (Some v) h = h

  called_only-such : (f : ℕ) (vs : List Value) (st : Store) (w : Outside) → GivesSuch (IsValueOf Void) (called_only call f vs st w)
  called_only-such f vs st w = such-any (called_only call f vs st w)

  mutual
    pub value-kind : (a : TExpr) (g : Kind) → IsOfKind c a g → (env : Environment) (st : Store) (w : Outside) →
        GivesSuch (IsValueOf g) (value call a env st w)
    value-kind (x.Primary t p) g k env st w =
        changed-such g w (primary_value env st p) (λ h e. primary-kind c env st p g h k e)
    value-kind (x.Applied' t p (more_of-TExpr a end_of-TExpr) n steps) g k env st w =
        such-then (IsValueOf k.0) (IsValueOf g) (value call a env st w) (λ st w v. stepped call steps v env st w) (value-kind a k.0 k.1 env st w) (λ st w v h. stepped-kind steps k.0 g k.2 v h env st w)
    value-kind (x.All' t n all) g k env st w =
        subst (λ g. GivesSuch (IsValueOf g) (every call all env st w)) (sym k.1) (every-kind all env st w)
    value-kind (x.Any' t n all) g k env st w =
        subst (λ g. GivesSuch (IsValueOf g) (some call all env st w)) (sym k.1) (some-kind all env st w)
    value-kind (x.Choose' t n arms p (more_of-TExpr a end_of-TExpr)) g k env st w =
        chosen-kind arms g k.0 (value call a env) (λ st w. value-kind a g k.1 env st w) env st w
    value-kind (x.Comma' t n all p (more_of-TExpr a end_of-TExpr)) g k env st w =
        such-then (λ vs. Unit {0}) (IsValueOf g) (values call all env st w) (λ st w vs. value call a env st w) (such-any (values call all env st w)) (λ st w vs h. value-kind a g k.1 env st w)
    value-kind (x.Assign' t n targets p (more_of-TExpr a end_of-TExpr)) g k env st w =
        assigning-kind targets k.0 g k.2 (value call a env) (λ st w. value-kind a k.0 k.1 env st w) env st w
    value-kind (x.Call' t f n all) g k env st w =
        such-then (λ vs. Unit {0}) (IsValueOf g) (values call all env st w) (λ st w vs. called call f vs st w) (such-any (values call all env st w)) (λ st w vs h. result k.0.result refl k.3 st w vs)
      where
        result : (r : Option Scalar) → k.0.result ≡ r → ResultIs r g → (st : Store) (w : Outside) (vs : List Value) →
            GivesSuch (IsValueOf g) (called call f vs st w)
        result None q h st w vs = absurd h
        result (Some j) q h st w vs =
            subst (λ g. GivesSuch (IsValueOf g) (called call f vs st w)) (sym h) (called-such f k.0 j vs st w k.1 q)
    value-kind (x.DroppedCall' t f n all) g k env st w =
        such-then (λ vs. Unit {0}) (IsValueOf g) (values call all env st w) (λ st w vs. called_only call f vs st w) (such-any (values call all env st w)) (λ st w vs h. subst (λ g. GivesSuch (IsValueOf g) (called_only call f vs st w)) (sym k.3) (called_only-such f vs st w))
    value-kind (x.GetChar t) g k env st w =
        subst (λ g. GivesSuch (IsValueOf g) (get_byte w (λ b w. Gives st w (Number b)))) (sym k) (such-tick (IsValueOf word) _ (λ v. Gives st v (Number (next_word w.input))) (λ v. got-word w.input))
    value-kind (x.PutChar' t p (more_of-TExpr a end_of-TExpr)) g k env st w =
        such-then (λ v. Unit {0}) (IsValueOf g) (value call a env st w) (λ st w v. put_value v st w) (such-any (value call a env st w)) (λ st w v h. subst (λ g. GivesSuch (IsValueOf g) (put_value v st w)) (sym k.3) (put-such v st w))
    value-kind (x.Exit' t p (more_of-TExpr a end_of-TExpr)) g k env st w =
        such-then (λ v. Unit {0}) (IsValueOf g) (value call a env st w) (λ st w v. exit_value v st w) (such-any (value call a env st w)) (λ st w v h. exit-such (IsValueOf g) v st w)

    stepped-kind : {n : _} (steps : Row_of-Step n) (j g : Kind) → StepsGive c steps j g → (v : Value) → IsValueOf j v →
        (env : Environment) (st : Store) (w : Outside) → GivesSuch (IsValueOf g) (stepped call steps v env st w)
    stepped-kind end_of-Step j g k v h env st w = subst (λ g. IsValueOf g v) (sym k) h
    stepped-kind (more_of-Step (step.Unary u) rest) j g k v h env st w =
        such-given (IsValueOf g) (unary_value st u v) (λ h. stepped call rest h.value env h.store w) (λ r e. stepped-kind rest k.0 g k.2 r.value (unary-kind st u j k.0 v r k.1 h e) env r.store w)
    stepped-kind (more_of-Step (step.Binary o b) rest) j g k v h env st w =
        such-then (IsValueOf k.0) (IsValueOf g) (value call b env st w) (λ st w y. given (arithmetic_value st o v y) (λ v. stepped call rest v env st w)) (value-kind b k.0 k.1 env st w) (λ st w y hy. such-given (IsValueOf g) (arithmetic_value st o v y) (λ v. stepped call rest v env st w) (λ u e. stepped-kind rest k.2 g k.4 u (arithmetic-kind st o j k.0 k.2 v y u k.3 h hy e) env st w))

    every-kind : {n : _} (all : Row_of-TExpr n) (env : Environment) (st : Store) (w : Outside) →
        GivesSuch (IsValueOf word) (every call all env st w)
    every-kind end_of-TExpr env st w = (1, refl, omega arith)
    every-kind (more_of-TExpr a rest) env st w =
        such-then (λ v. Unit {0}) (IsValueOf word) (value call a env st w) (λ st w v. by_truth v (every call rest env) (gives_number 0) st w) (such-any (value call a env st w)) (λ st w v h. by_truth-such (IsValueOf word) v (every call rest env) (gives_number 0) st w (every-kind rest env st w) (0, refl, omega arith))

    some-kind : {n : _} (all : Row_of-TExpr n) (env : Environment) (st : Store) (w : Outside) →
        GivesSuch (IsValueOf word) (some call all env st w)
    some-kind end_of-TExpr env st w = (0, refl, omega arith)
    some-kind (more_of-TExpr a rest) env st w =
        such-then (λ v. Unit {0}) (IsValueOf word) (value call a env st w) (λ st w v. by_truth v (gives_number 1) (some call rest env) st w) (such-any (value call a env st w)) (λ st w v h. by_truth-such (IsValueOf word) v (gives_number 1) (some call rest env) st w (1, refl, omega arith) (some-kind rest env st w))

    chosen-kind : {n : _} (arms : Row_of-Arm n) (g : Kind) → ArmsGive c arms g → (last : Store → Outside → Run Store Value) →
        ((st : Store) (w : Outside) → GivesSuch (IsValueOf g) (last st w)) → (env : Environment) (st : Store) (w : Outside) →
        GivesSuch (IsValueOf g) (chosen call arms last env st w)
    chosen-kind end_of-Arm g k last h env st w = h st w
    chosen-kind (more_of-Arm a b rest) g k last h env st w =
        such-then (λ v. Unit {0}) (IsValueOf g) (value call a env st w) (λ st w v. by_truth v (value call b env) (chosen call rest last env) st w) (such-any (value call a env st w)) (λ st w v q. by_truth-such (IsValueOf g) v (value call b env) (chosen call rest last env) st w (value-kind b g k.3 env st w) (chosen-kind rest g k.4 last h env st w))

    assigning-kind : {n : _} (targets : Row_of-Target n) (j g : Kind) → TargetsGive c targets j g →
        (last : Store → Outside → Run Store Value) → ((st : Store) (w : Outside) → GivesSuch (IsValueOf j) (last st w)) →
        (env : Environment) (st : Store) (w : Outside) → GivesSuch (IsValueOf g) (assigning call targets last env st w)
    assigning-kind end_of-Target j g k last h env st w =
        subst (λ g. GivesSuch (IsValueOf g) (last st w)) (sym k) (h st w)
    assigning-kind (more_of-Target (target.Variable i ch) rest) j g k last h env st w =
        such-given (IsValueOf g) (automatic_place env i) (λ p. then_do (assigning call rest last env st w) (λ st w v. given (assigned st ch p v) (gives_changed w))) (λ p e. such-then (IsValueOf k.0) (IsValueOf g) (assigning call rest last env st w) (λ st w v. given (assigned st ch p v) (gives_changed w)) (assigning-kind rest j k.0 k.1 last h env st w) (λ st w v hv. changed-such g w (assigned st ch p v) (λ r q. subst (λ g. IsValueOf g r.value) (sym k.4) (assigned-kind st ch k.0 p v r k.3 hv q))))
    assigning-kind (more_of-Target (target.Place a ch) rest) j g k last h env st w =
        such-then (λ v. Unit {0}) (IsValueOf g) (value call a env st w) (λ st w p. then_do (assigning call rest last env st w) (λ st w v. given (assigned st ch p v) (gives_changed w))) (such-any (value call a env st w)) (λ st w p hp. such-then (IsValueOf k.0) (IsValueOf g) (assigning call rest last env st w) (λ st w v. given (assigned st ch p v) (gives_changed w)) (assigning-kind rest j k.0 k.1 last h env st w) (λ st w v hv. changed-such g w (assigned st ch p v) (λ r q. subst (λ g. IsValueOf g r.value) (sym k.4) (assigned-kind st ch k.0 p v r k.3 hv q))))
