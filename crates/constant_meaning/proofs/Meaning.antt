-- Evaluated in any state, an expression of constant form gives its number, or is undefined.
use Rattle.std.proofs.Common.{◌≡◌, refl, sym, ap, ◌∙◌, ℕ, Bool, true, false, ◌&&◌, ◌∷◌, map, Option, Some, None}
use Rattle.std.specs.Prelude.{◌==◌, if◌then◌else◌}
use Rattle.std.specs.Option.{option_and_then}
use Rattle.word_ops.specs.Store.{Value, Number, Store}
use Rattle.word_ops.specs.Run.{Outside, Run, Gives, Undefined, then_do, given}
use Rattle.c_tree.specs.declared.typed.expression.TExpr.{TExpr, Row_of-TExpr, end_of-TExpr, more_of-TExpr, items-the_row-TExpr, Row_of-Step, end_of-Step, more_of-Step, items-the_row-Step, Row_of-Arm, end_of-Arm, more_of-Arm, items-the_row-Arm}
use Rattle.c_tree.specs.declared.typed.expression.TExpr.TheVariants as x
use Rattle.c_tree.specs.declared.typed.expression.Step.TheVariants as step
use Rattle.c_tree.specs.declared.typed.expression.Arm.{Arm}
use Rattle.c_layout.specs.Constants.{all_hold, has_constant_form, step_has_form, arm_has_form, unary_number, arithmetic_number, is_constant_unary, is_constant_arithmetic, number_of, step_number_of, arm_number_of, stepped, every, some, chosen, constant_of}
use Rattle.c_layout.specs.ConstantNodes.{has_constant_form-Primary, has_constant_form-GetChar, number_of-Primary, step_has_form-Unary, step_has_form-Binary, step_number_of-Unary, step_number_of-Binary, arm_has_form-is, arm_number_of-is}
use Rattle.c_meaning.specs.Environment.{Environment}
use Rattle.c_meaning.specs.Operators.{arithmetic_value}
use Rattle.c_meaning.specs.Expressions as meaning
use Rattle.c_meaning.specs.Expressions.{Calls, value, gives_number, by_truth}
use Rattle.constant_meaning.proofs.Nodes.{form-Applied, number-Applied, form-All, number-All, form-Any, number-Any, form-Choose, number-Choose, form-Comma, form-Assign, form-Call, form-DroppedCall, form-PutChar, form-Exit}
use Rattle.constant_meaning.proofs.Operators.{gives, primary-gives, unary-gives, arithmetic-gives, then-gives, changed-gives, value-gives, and_then-assoc, branch-gives}

and-left : (a b : Bool) → (a && b) ≡ true → a ≡ true
and-left true b h = refl
and-left false b h = h

and-right : (a b : Bool) → (a && b) ≡ true → b ≡ true
and-right true b h = h
and-right false b h = cc

no-form : {A : Type 0} (e : TExpr) → has_constant_form e ≡ false → has_constant_form e ≡ true → A
no-form e h g = let absurdity : false ≡ true = sym h ∙ g in absurd cc

module _ (call : Calls) (env : Environment) (st : Store) (w : Outside) where
  mutual
    pub constant-means : (e : TExpr) → has_constant_form e ≡ true → value call e env st w ≡ gives st w (number_of e)
    constant-means (x.Primary t p) h =
        primary-gives env st w p (sym (has_constant_form-Primary t p) ∙ h)
        ∙ ap (gives st w) (sym (number_of-Primary t p))
    constant-means (x.Applied' t p (more_of-TExpr a end_of-TExpr) n steps) h =
        let form = sym (form-Applied t p a n steps) ∙ h in
        ap (λ r. then_do r (λ st w v. meaning.stepped call steps v env st w)) (constant-means a (and-left (has_constant_form a) (all_hold (map step_has_form (items-the_row-Step _ steps))) form))
        ∙ then-gives st w (number_of a) (λ st w v. meaning.stepped call steps v env st w) (stepped (map step_number_of (items-the_row-Step _ steps))) (steps-mean steps (and-right (has_constant_form a) (all_hold (map step_has_form (items-the_row-Step _ steps))) form))
        ∙ ap (gives st w) (sym (number-Applied t p a n steps))
    constant-means (x.All' t n all) h =
        every-means all (sym (form-All t n all) ∙ h) ∙ ap (gives st w) (sym (number-All t n all))
    constant-means (x.Any' t n all) h =
        some-means all (sym (form-Any t n all) ∙ h) ∙ ap (gives st w) (sym (number-Any t n all))
    constant-means (x.Choose' t n arms p (more_of-TExpr a end_of-TExpr)) h =
        let form = sym (form-Choose t n arms p a) ∙ h in
        chosen-means arms (and-left (all_hold (map arm_has_form (items-the_row-Arm _ arms))) (has_constant_form a) form) (value call a env) (number_of a) (constant-means a (and-right (all_hold (map arm_has_form (items-the_row-Arm _ arms))) (has_constant_form a) form))
        ∙ ap (gives st w) (sym (number-Choose t n arms p a))
    constant-means (x.Comma' t n all p r) h = no-form (x.Comma' t n all p r) (form-Comma t n all p r) h
    constant-means (x.Assign' t n targets p r) h = no-form (x.Assign' t n targets p r) (form-Assign t n targets p r) h
    constant-means (x.Call' t f n all) h = no-form (x.Call' t f n all) (form-Call t f n all) h
    constant-means (x.DroppedCall' t f n all) h = no-form (x.DroppedCall' t f n all) (form-DroppedCall t f n all) h
    constant-means (x.GetChar t) h = no-form (x.GetChar t) (has_constant_form-GetChar t) h
    constant-means (x.PutChar' t p r) h = no-form (x.PutChar' t p r) (form-PutChar t p r) h
    constant-means (x.Exit' t p r) h = no-form (x.Exit' t p r) (form-Exit t p r) h

    steps-mean : {n : _} (steps : Row_of-Step n) → all_hold (map step_has_form (items-the_row-Step n steps)) ≡ true →
        (k : ℕ) → meaning.stepped call steps (Number k) env st w
        ≡ gives st w (stepped (map step_number_of (items-the_row-Step n steps)) k)
    steps-mean end_of-Step h k = refl
    steps-mean (more_of-Step (step.Unary u) rest) h k =
        let here : is_constant_unary u ≡ true =
        sym (step_has_form-Unary u) ∙ and-left (step_has_form (step.Unary u)) (all_hold (map step_has_form (items-the_row-Step _ rest))) h in
        let later = and-right (step_has_form (step.Unary u)) (all_hold (map step_has_form (items-the_row-Step _ rest))) h in
        let after = stepped (map step_number_of (items-the_row-Step _ rest)) in
        ap (λ o. given o (λ g. meaning.stepped call rest g.value env g.store w)) (unary-gives st u k here)
        ∙ changed-gives st w (unary_number u k) (λ g. meaning.stepped call rest g.value env g.store w) after (steps-mean rest later)
        ∙ ap (λ f. gives st w (option_and_then after (f k))) (sym (step_number_of-Unary u))
    steps-mean (more_of-Step (step.Binary o b) rest) h k =
        let here = sym (step_has_form-Binary o b) ∙ and-left (step_has_form (step.Binary o b)) (all_hold (map step_has_form (items-the_row-Step _ rest))) h in
        let later = and-right (step_has_form (step.Binary o b)) (all_hold (map step_has_form (items-the_row-Step _ rest))) h in
        let after = stepped (map step_number_of (items-the_row-Step _ rest)) in
        ap (λ r. then_do r (λ st w y. given (arithmetic_value st o (Number k) y) (λ v. meaning.stepped call rest v env st w))) (constant-means b (and-right (is_constant_arithmetic o) (has_constant_form b) here))
        ∙ then-gives st w (number_of b) (λ st w y. given (arithmetic_value st o (Number k) y) (λ v. meaning.stepped call rest v env st w)) (λ m. option_and_then after (arithmetic_number o k m)) (λ m. ap (λ p. given p (λ v. meaning.stepped call rest v env st w)) (arithmetic-gives st o k m (and-left (is_constant_arithmetic o) (has_constant_form b) here)) ∙ value-gives st w (arithmetic_number o k m) (λ v. meaning.stepped call rest v env st w) after (steps-mean rest later))
        ∙ ap (gives st w) (and_then-assoc (number_of b) (arithmetic_number o k) after)
        ∙ ap (λ f. gives st w (option_and_then after (f k))) (sym (step_number_of-Binary o b))

    every-means : {n : _} (all : Row_of-TExpr n) → all_hold (map has_constant_form (items-the_row-TExpr n all)) ≡ true →
        meaning.every call all env st w ≡ gives st w (every (map number_of (items-the_row-TExpr n all)))
    every-means end_of-TExpr h = refl
    every-means (more_of-TExpr a rest) h =
        let here = and-left (has_constant_form a) (all_hold (map has_constant_form (items-the_row-TExpr _ rest))) h in
        let later = and-right (has_constant_form a) (all_hold (map has_constant_form (items-the_row-TExpr _ rest))) h in
        let others = every (map number_of (items-the_row-TExpr _ rest)) in
        ap (λ r. then_do r (λ st w v. by_truth v (meaning.every call rest env) (gives_number 0) st w)) (constant-means a here)
        ∙ then-gives st w (number_of a) (λ st w v. by_truth v (meaning.every call rest env) (gives_number 0) st w) (λ n. if n == 0 then Some 0 else others) (λ n. branch-gives st w (n == 0) (meaning.every call rest env) (gives_number 0) others (Some 0) (every-means rest later) refl)

    some-means : {n : _} (all : Row_of-TExpr n) → all_hold (map has_constant_form (items-the_row-TExpr n all)) ≡ true →
        meaning.some call all env st w ≡ gives st w (some (map number_of (items-the_row-TExpr n all)))
    some-means end_of-TExpr h = refl
    some-means (more_of-TExpr a rest) h =
        let here = and-left (has_constant_form a) (all_hold (map has_constant_form (items-the_row-TExpr _ rest))) h in
        let later = and-right (has_constant_form a) (all_hold (map has_constant_form (items-the_row-TExpr _ rest))) h in
        let others = some (map number_of (items-the_row-TExpr _ rest)) in
        ap (λ r. then_do r (λ st w v. by_truth v (gives_number 1) (meaning.some call rest env) st w)) (constant-means a here)
        ∙ then-gives st w (number_of a) (λ st w v. by_truth v (gives_number 1) (meaning.some call rest env) st w) (λ n. if n == 0 then others else Some 1) (λ n. branch-gives st w (n == 0) (gives_number 1) (meaning.some call rest env) (Some 1) others refl (some-means rest later))

    chosen-means : {n : _} (arms : Row_of-Arm n) → all_hold (map arm_has_form (items-the_row-Arm n arms)) ≡ true →
        (last : Store → Outside → Run Store Value) (o : Option ℕ) → last st w ≡ gives st w o →
        meaning.chosen call arms last env st w ≡ gives st w (chosen (map arm_number_of (items-the_row-Arm n arms)) o)
    chosen-means end_of-Arm h last o g = g
    chosen-means (more_of-Arm c a rest) h last o g =
        let arm : Arm = record { condition = c; chosen = a } in
        let here = sym (arm_has_form-is arm) ∙ and-left (arm_has_form arm) (all_hold (map arm_has_form (items-the_row-Arm _ rest))) h in
        let later = and-right (arm_has_form arm) (all_hold (map arm_has_form (items-the_row-Arm _ rest))) h in
        let others = chosen (map arm_number_of (items-the_row-Arm _ rest)) o in
        ap (λ r. then_do r (λ st w v. by_truth v (value call a env) (meaning.chosen call rest last env) st w)) (constant-means c (and-left (has_constant_form c) (has_constant_form a) here))
        ∙ then-gives st w (number_of c) (λ st w v. by_truth v (value call a env) (meaning.chosen call rest last env) st w) (λ n. if n == 0 then others else number_of a) (λ n. branch-gives st w (n == 0) (value call a env) (meaning.chosen call rest last env) (number_of a) others (constant-means a (and-right (has_constant_form c) (has_constant_form a) here)) (chosen-means rest later last o g))
        ∙ ap (λ v. gives st w (chosen (v ∷ map arm_number_of (items-the_row-Arm _ rest)) o)) (sym (arm_number_of-is arm))

pub means-value : (e : TExpr) (n : ℕ) (call : Calls) (env : Environment) (st : Store) (w : Outside) →
    constant_of e ≡ Some n → value call e env st w ≡ Gives st w (Number n)
means-value e n call env st w h = by_form (has_constant_form e) refl
  where
    by_form : (b : Bool) → has_constant_form e ≡ b → value call e env st w ≡ Gives st w (Number n)
    by_form true f =
        let number : number_of e ≡ Some n = rw f at h in constant-means call env st w e f ∙ ap (gives st w) number
    by_form false f = let nothing : None ≡ Some n = rw f at h in absurd cc

pub means-undefined : (e : TExpr) (call : Calls) (env : Environment) (st : Store) (w : Outside) →
    has_constant_form e ≡ true → constant_of e ≡ None → value call e env st w ≡ Undefined
means-undefined e call env st w f h =
    let nothing : number_of e ≡ None = rw f at h in constant-means call env st w e f ∙ ap (gives st w) nothing
