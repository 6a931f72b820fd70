-- What an expression does and gives (C11 6.5). Operands are evaluated from left to right, and each effect is complete before
-- what follows (the profile's choice where C11 6.5p2, p3 leaves the order open).
use Rattle.std.specs.Prelude.{ℕ, ◌%◌, List, [], ◌∷◌, Option, Some, None}
use Rattle.word_ops.specs.Store.{Value, Number, Store, number_of}
use Rattle.word_ops.specs.Values.{truth}
use Rattle.word_ops.specs.Run.{Outside, Run, Gives, then_do, given, branch, tick, put_byte, get_byte, exit_with}
use Rattle.c_tree.specs.declared.typed.expression.TExpr.{TExpr, Row_of-TExpr, end_of-TExpr, more_of-TExpr, Row_of-Step, end_of-Step, more_of-Step, Row_of-Arm, end_of-Arm, more_of-Arm, Row_of-Target, end_of-Target, more_of-Target}
use Rattle.c_tree.specs.declared.typed.expression.TExpr.TheVariants as x
use Rattle.c_tree.specs.declared.typed.expression.Step.TheVariants as step
use Rattle.c_tree.specs.declared.typed.expression.Target.TheVariants as target
use Rattle.c_meaning.specs.Environment.{Environment, automatic_place}
use Rattle.c_meaning.specs.Operators.{Changed, arithmetic_value, assigned, primary_value, unary_value}

-- a call: the number of the function, the arguments, and the store as it begins
pub record Invocation : Type 0 where
  pub function : ℕ
  pub arguments : List Value
  pub store : Store

-- what calls do: each gives the store at its end, and the value that the function returned, where it returned one
abbrev pub Calls : Type 0
Calls = Invocation → Outside → Run Store (Option Value)

-- gives what an operator gives
abbrev pub gives_changed : Outside → Changed → Run Store Value
gives_changed w h = Gives h.store w h.value

-- puts a value out and gives the byte (C11 7.21.7.8p3)
abbrev pub put_value : Value → Store → Outside → Run Store Value
put_value v st w = given (number_of v) (λ n. put_byte n w (λ w. Gives st w (Number (n % 256))))

-- ends with a value as status (C11 7.22.4.4p5)
abbrev pub exit_value : Value → Store → Outside → Run Store Value
exit_value v st w = given (number_of v) (λ n. exit_with n w)

-- makes a call, whose value is used (C11 6.5.2.2p5, 6.9.1p12): the tick comes before the call
abbrev pub called : Calls → ℕ → List Value → Store → Outside → Run Store Value
called call f vs st w =
    tick w (λ w. then_do (call (record { function = f; arguments = vs; store = st }) w) (λ st w o. given o (λ v. Gives st w v)))

-- makes a call, and drops its value, if it has one
abbrev pub called_only : Calls → ℕ → List Value → Store → Outside → Run Store Value
called_only call f vs st w =
    tick w (λ w. then_do (call (record { function = f; arguments = vs; store = st }) w) (λ st w o. Gives st w (Number 0)))

-- one of two ways to go on by the truth of a value (C11 6.5.13p3, 6.5.14p3, 6.5.15p4)
abbrev pub by_truth : {A : Type 0} → Value → (first second : Store → Outside → Run Store A) → Store → Outside → Run Store A
by_truth v first second st w = given (truth st v) (λ b. branch b first second st w)

-- gives a number
abbrev pub gives_number : ℕ → Store → Outside → Run Store Value
gives_number n st w = Gives st w (Number n)

abbrev mutual
  -- what an expression does, and the value that it gives, form by form; of a void expression the value is used by nothing
  pub value : Calls → TExpr → Environment → Store → Outside → Run Store Value
  value call (x.Primary t p) env st w = given (primary_value env st p) (gives_changed w)
  value call (x.Applied' t p (more_of-TExpr a end_of-TExpr) n steps) env st w =
      then_do (value call a env st w) (λ st w v. stepped call steps v env st w)
  -- C11 6.5.13p3, p4 and 6.5.14p3, p4
  value call (x.All' t n all) env st w = every call all env st w
  value call (x.Any' t n all) env st w = some call all env st w
  -- C11 6.5.15p4
  value call (x.Choose' t n arms p (more_of-TExpr a end_of-TExpr)) env st w =
      chosen call arms (value call a env) env st w
  -- C11 6.5.17p2
  value call (x.Comma' t n all p (more_of-TExpr a end_of-TExpr)) env st w =
      then_do (values call all env st w) (λ st w vs. value call a env st w)
  -- C11 6.5.16
  value call (x.Assign' t n targets p (more_of-TExpr a end_of-TExpr)) env st w =
      assigning call targets (value call a env) env st w
  -- C11 6.5.2.2p4, p10
  value call (x.Call' t f n all) env st w = then_do (values call all env st w) (λ st w vs. called call f vs st w)
  value call (x.DroppedCall' t f n all) env st w =
      then_do (values call all env st w) (λ st w vs. called_only call f vs st w)
  -- C11 7.21.7.6, 7.21.7.8, 7.22.4.4
  value call (x.GetChar t) env st w = get_byte w (λ b w. Gives st w (Number b))
  value call (x.PutChar' t p (more_of-TExpr a end_of-TExpr)) env st w =
      then_do (value call a env st w) (λ st w v. put_value v st w)
  value call (x.Exit' t p (more_of-TExpr a end_of-TExpr)) env st w =
      then_do (value call a env st w) (λ st w v. exit_value v st w)

  -- what is done with a value, step by step
  pub stepped : Calls → {n : _} → Row_of-Step n → Value → Environment → Store → Outside → Run Store Value
  stepped call end_of-Step v env st w = Gives st w v
  stepped call (more_of-Step (step.Unary u) rest) v env st w =
      given (unary_value st u v) (λ h. stepped call rest h.value env h.store w)
  stepped call (more_of-Step (step.Binary o b) rest) v env st w =
      then_do (value call b env st w) (λ st w y. given (arithmetic_value st o v y) (λ v. stepped call rest v env st w))

  -- the values of expressions, from left to right
  pub values : Calls → {n : _} → Row_of-TExpr n → Environment → Store → Outside → Run Store (List Value)
  values call end_of-TExpr env st w = Gives st w []
  values call (more_of-TExpr a rest) env st w =
      then_do (value call a env st w) (λ st w v. then_do (values call rest env st w) (λ st w vs. Gives st w (v ∷ vs)))

  -- 0 at the first operand that compares equal to 0, else 1 (C11 6.5.13p3, p4)
  pub every : Calls → {n : _} → Row_of-TExpr n → Environment → Store → Outside → Run Store Value
  every call end_of-TExpr env st w = Gives st w (Number 1)
  every call (more_of-TExpr a rest) env st w =
      then_do (value call a env st w) (λ st w v. by_truth v (every call rest env) (gives_number 0) st w)

  -- 1 at the first operand that compares unequal to 0, else 0 (C11 6.5.14p3, p4)
  pub some : Calls → {n : _} → Row_of-TExpr n → Environment → Store → Outside → Run Store Value
  some call end_of-TExpr env st w = Gives st w (Number 0)
  some call (more_of-TExpr a rest) env st w =
      then_do (value call a env st w) (λ st w v. by_truth v (gives_number 1) (some call rest env) st w)

  -- what stands at the first condition that holds, else the last (C11 6.5.15p4)
  pub chosen : Calls → {n : _} → Row_of-Arm n → (last : Store → Outside → Run Store Value) → Environment → Store →
      Outside → Run Store Value
  chosen call end_of-Arm last env st w = last st w
  chosen call (more_of-Arm c a rest) last env st w =
      then_do (value call c env st w) (λ st w v. by_truth v (value call a env) (chosen call rest last env) st w)

  -- assignments from right to left, each behind the evaluation of all that stands to its right (C11 6.5.16p3)
  pub assigning : Calls → {n : _} → Row_of-Target n → (last : Store → Outside → Run Store Value) → Environment → Store →
      Outside → Run Store Value
  assigning call end_of-Target last env st w = last st w
  assigning call (more_of-Target (target.Variable i c) rest) last env st w =
      given (automatic_place env i) (λ p. then_do (assigning call rest last env st w) (λ st w v. given (assigned st c p v) (gives_changed w)))
  assigning call (more_of-Target (target.Place a c) rest) last env st w =
      then_do (value call a env st w) (λ st w p. then_do (assigning call rest last env st w) (λ st w v. given (assigned st c p v) (gives_changed w)))
