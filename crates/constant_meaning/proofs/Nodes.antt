-- What Constants says of each kind of node, where the parts of a node stand in a row.
use Rattle.std.proofs.Common.{◌≡◌, refl, sym, ap, ◌∙◌, ℕ, Bool, false, ◌&&◌, map, Option}
use Rattle.std.specs.Option.{option_and_then}
use denote.Hole.Carrier.{shown}
use Rattle.c_tree.specs.declared.typed.types.CType.{CType}
use Rattle.c_tree.specs.declared.typed.expression.TExpr.{TExpr, out-TExpr, roll-TExpr, roll-out-TExpr, end_of-TExpr, more_of-TExpr, items-the_row-TExpr, items_shown-the_row-TExpr-2, items-the_row-Step, items_shown-the_row-Step-1, items-the_row-Arm, items_shown-the_row-Arm-3}
use Rattle.c_tree.specs.declared.typed.expression.TExpr.TheVariants as x
use Rattle.c_tree.specs.declared.typed.expression.Step.{Step}
use Rattle.c_tree.specs.declared.typed.expression.Target.{Target}
use Rattle.c_tree.specs.declared.typed.expression.Arm.{Arm}
use Rattle.c_tree.specs.declared.typed.expression.Step.TheBlock.{shown-the_row-TExpr-0, shown-the_row-Step-1, shown-the_row-Arm-3}
use Rattle.c_tree.specs.declared.typed.expression.Step.TheOpen.{TExpr-F}
use Rattle.c_tree.specs.declared.typed.expression.Step.TheFolds.{map-TExpr, fold-roll-TExpr}
use Rattle.c_layout.specs.Constants.{all_hold, step_form, arm_form, target_form, expression_form, has_constant_form, step_has_form, target_has_form, arm_has_form, StepValue, ArmValue, step_number, arm_number, target_number, expression_number, number_of, step_number_of, target_number_of, arm_number_of, stepped, every, some, chosen}

abbrev Layer : Type 0
Layer = TExpr-F Step TExpr Target Arm

abbrev form_in : Layer → Bool
form_in node =
    expression_form (map-TExpr Step TExpr Target Arm Bool Bool Bool Bool step_has_form has_constant_form target_has_form arm_has_form node)

abbrev number_in : Layer → Option ℕ
number_in node =
    expression_number (map-TExpr Step TExpr Target Arm StepValue (Option ℕ) (Unit {0}) ArmValue step_number_of number_of target_number_of arm_number_of node)

form-rolled : (node : Layer) → has_constant_form (roll-TExpr node) ≡ form_in node
unfolding has_constant_form step_has_form arm_has_form target_has_form
form-rolled = fold-roll-TExpr Bool Bool Bool Bool step_form expression_form target_form arm_form

number-rolled : (node : Layer) → number_of (roll-TExpr node) ≡ number_in node
unfolding number_of step_number_of arm_number_of target_number_of
number-rolled =
    fold-roll-TExpr StepValue (Option ℕ) (Unit {0}) ArmValue step_number expression_number target_number arm_number

-- of an expression with this layer
form-by : (e : TExpr) (node : Layer) → out-TExpr e ≡ node → has_constant_form e ≡ form_in node
form-by e node is = ap has_constant_form (sym (roll-out-TExpr e)) ∙ form-rolled (out-TExpr e) ∙ ap form_in is

number-by : (e : TExpr) (node : Layer) → out-TExpr e ≡ node → number_of e ≡ number_in node
number-by e node is = ap number_of (sym (roll-out-TExpr e)) ∙ number-rolled (out-TExpr e) ∙ ap number_in is

-- one expression in a row
shown-one : (p : _) (a : TExpr) → shown-the_row-TExpr-0 p (more_of-TExpr a end_of-TExpr) ≡ a
unfolding shown-the_row-TExpr-0 shown
shown-one p a = refl

pub form-Applied : (t : CType) (p : _) (a : TExpr) (n : _) (steps : _) →
    has_constant_form (x.Applied' t p (more_of-TExpr a end_of-TExpr) n steps)
    ≡ (has_constant_form a && all_hold (map step_has_form (items-the_row-Step _ steps)))
form-Applied t p a n steps =
    form-by (x.Applied' t p (more_of-TExpr a end_of-TExpr) n steps) _ (x.outs-Applied' t p (more_of-TExpr a end_of-TExpr) n steps)
    ∙ ap (λ b. has_constant_form b && all_hold (map step_has_form (shown-the_row-Step-1 n steps))) (shown-one p a)
    ∙ ap (λ l. has_constant_form a && all_hold (map step_has_form l)) (items_shown-the_row-Step-1 n steps)

pub number-Applied : (t : CType) (p : _) (a : TExpr) (n : _) (steps : _) →
    number_of (x.Applied' t p (more_of-TExpr a end_of-TExpr) n steps)
    ≡ option_and_then (stepped (map step_number_of (items-the_row-Step _ steps))) (number_of a)
number-Applied t p a n steps =
    number-by (x.Applied' t p (more_of-TExpr a end_of-TExpr) n steps) _ (x.outs-Applied' t p (more_of-TExpr a end_of-TExpr) n steps)
    ∙ ap (λ b. option_and_then (stepped (map step_number_of (shown-the_row-Step-1 n steps))) (number_of b)) (shown-one p a)
    ∙ ap (λ l. option_and_then (stepped (map step_number_of l)) (number_of a)) (items_shown-the_row-Step-1 n steps)

pub form-All : (t : CType) (n : _) (all : _) →
    has_constant_form (x.All' t n all) ≡ all_hold (map has_constant_form (items-the_row-TExpr _ all))
form-All t n all =
    form-by (x.All' t n all) _ (x.outs-All' t n all)
    ∙ ap (λ l. all_hold (map has_constant_form l)) (items_shown-the_row-TExpr-2 n all)

pub number-All : (t : CType) (n : _) (all : _) →
    number_of (x.All' t n all) ≡ every (map number_of (items-the_row-TExpr _ all))
number-All t n all =
    number-by (x.All' t n all) _ (x.outs-All' t n all) ∙ ap (λ l. every (map number_of l)) (items_shown-the_row-TExpr-2 n all)

pub form-Any : (t : CType) (n : _) (all : _) →
    has_constant_form (x.Any' t n all) ≡ all_hold (map has_constant_form (items-the_row-TExpr _ all))
form-Any t n all =
    form-by (x.Any' t n all) _ (x.outs-Any' t n all)
    ∙ ap (λ l. all_hold (map has_constant_form l)) (items_shown-the_row-TExpr-2 n all)

pub number-Any : (t : CType) (n : _) (all : _) →
    number_of (x.Any' t n all) ≡ some (map number_of (items-the_row-TExpr _ all))
number-Any t n all =
    number-by (x.Any' t n all) _ (x.outs-Any' t n all) ∙ ap (λ l. some (map number_of l)) (items_shown-the_row-TExpr-2 n all)

pub form-Choose : (t : CType) (n : _) (arms : _) (p : _) (a : TExpr) →
    has_constant_form (x.Choose' t n arms p (more_of-TExpr a end_of-TExpr))
    ≡ (all_hold (map arm_has_form (items-the_row-Arm _ arms)) && has_constant_form a)
form-Choose t n arms p a =
    form-by (x.Choose' t n arms p (more_of-TExpr a end_of-TExpr)) _ (x.outs-Choose' t n arms p (more_of-TExpr a end_of-TExpr))
    ∙ ap (λ b. all_hold (map arm_has_form (shown-the_row-Arm-3 n arms)) && has_constant_form b) (shown-one p a)
    ∙ ap (λ l. all_hold (map arm_has_form l) && has_constant_form a) (items_shown-the_row-Arm-3 n arms)

pub number-Choose : (t : CType) (n : _) (arms : _) (p : _) (a : TExpr) →
    number_of (x.Choose' t n arms p (more_of-TExpr a end_of-TExpr))
    ≡ chosen (map arm_number_of (items-the_row-Arm _ arms)) (number_of a)
number-Choose t n arms p a =
    number-by (x.Choose' t n arms p (more_of-TExpr a end_of-TExpr)) _ (x.outs-Choose' t n arms p (more_of-TExpr a end_of-TExpr))
    ∙ ap (λ b. chosen (map arm_number_of (shown-the_row-Arm-3 n arms)) (number_of b)) (shown-one p a)
    ∙ ap (λ l. chosen (map arm_number_of l) (number_of a)) (items_shown-the_row-Arm-3 n arms)

pub form-Comma : (t : CType) (n : _) (all : _) (p : _) (r : _) → has_constant_form (x.Comma' t n all p r) ≡ false
form-Comma t n all p r = form-by (x.Comma' t n all p r) _ (x.outs-Comma' t n all p r)

pub form-Assign : (t : CType) (n : _) (targets : _) (p : _) (r : _) → has_constant_form (x.Assign' t n targets p r) ≡ false
form-Assign t n targets p r = form-by (x.Assign' t n targets p r) _ (x.outs-Assign' t n targets p r)

pub form-Call : (t : CType) (f : ℕ) (n : _) (all : _) → has_constant_form (x.Call' t f n all) ≡ false
form-Call t f n all = form-by (x.Call' t f n all) _ (x.outs-Call' t f n all)

pub form-DroppedCall : (t : CType) (f : ℕ) (n : _) (all : _) → has_constant_form (x.DroppedCall' t f n all) ≡ false
form-DroppedCall t f n all = form-by (x.DroppedCall' t f n all) _ (x.outs-DroppedCall' t f n all)

pub form-PutChar : (t : CType) (p : _) (r : _) → has_constant_form (x.PutChar' t p r) ≡ false
form-PutChar t p r = form-by (x.PutChar' t p r) _ (x.outs-PutChar' t p r)

pub form-Exit : (t : CType) (p : _) (r : _) → has_constant_form (x.Exit' t p r) ≡ false
form-Exit t p r = form-by (x.Exit' t p r) _ (x.outs-Exit' t p r)
