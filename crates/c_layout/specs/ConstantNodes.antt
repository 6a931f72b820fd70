-- What Constants says of each kind of node of a typed tree, one equation a kind.
use Rattle.std.specs.Prelude.{◌≡◌, ℕ, Bool, false, ◌&&◌, List, map, Option, None}
use Rattle.std.proofs.Common.{ap, sym, ◌∙◌}
use Rattle.c_tree.specs.declared.typed.operator.Arithmetic.{Arithmetic}
use Rattle.c_tree.specs.declared.typed.operator.Primary.{Primary}
use Rattle.c_tree.specs.declared.typed.operator.Unary.{Unary}
use Rattle.c_tree.specs.declared.typed.types.CType.{CType}
use Rattle.c_tree.specs.declared.typed.expression.TExpr.{TExpr, roll-TExpr}
use Rattle.c_tree.specs.declared.typed.expression.TExpr.TheVariants as x
use Rattle.c_tree.specs.declared.typed.expression.Step.{Step, roll-Step}
use Rattle.c_tree.specs.declared.typed.expression.Step.TheVariants as step
use Rattle.c_tree.specs.declared.typed.expression.Target.{Target}
use Rattle.c_tree.specs.declared.typed.expression.Arm.{Arm, out-Arm, roll-Arm, roll-out-Arm}
use Rattle.c_tree.specs.declared.typed.expression.Step.TheOpen.{Step-F, TExpr-F, Arm-F}
use Rattle.c_tree.specs.declared.typed.expression.Step.TheFolds.{fold-roll-Step, fold-roll-TExpr, fold-roll-Arm, map-Step, map-TExpr, map-Arm}
use Rattle.c_layout.specs.Constants.{step_form, arm_form, target_form, expression_form, has_constant_form, step_has_form, target_has_form, arm_has_form, StepValue, ArmValue, step_number, arm_number, target_number, expression_number, number_of, step_number_of, target_number_of, arm_number_of}

has_constant_form-roll : (node : TExpr-F Step TExpr Target Arm) → has_constant_form (roll-TExpr node) ≡
    expression_form (map-TExpr Step TExpr Target Arm Bool Bool Bool Bool step_has_form has_constant_form target_has_form arm_has_form node)
unfolding has_constant_form step_has_form arm_has_form target_has_form
has_constant_form-roll = fold-roll-TExpr Bool Bool Bool Bool step_form expression_form target_form arm_form

step_has_form-roll : (node : Step-F Step TExpr Target Arm) → step_has_form (roll-Step node) ≡
    step_form (map-Step Step TExpr Target Arm Bool Bool Bool Bool step_has_form has_constant_form target_has_form arm_has_form node)
unfolding has_constant_form step_has_form arm_has_form target_has_form
step_has_form-roll = fold-roll-Step Bool Bool Bool Bool step_form expression_form target_form arm_form

arm_has_form-roll : (node : Arm-F Step TExpr Target Arm) → arm_has_form (roll-Arm node) ≡
    arm_form (map-Arm Step TExpr Target Arm Bool Bool Bool Bool step_has_form has_constant_form target_has_form arm_has_form node)
unfolding has_constant_form step_has_form arm_has_form target_has_form
arm_has_form-roll = fold-roll-Arm Bool Bool Bool Bool step_form expression_form target_form arm_form

number_of-roll : (node : TExpr-F Step TExpr Target Arm) → number_of (roll-TExpr node) ≡
    expression_number (map-TExpr Step TExpr Target Arm StepValue (Option ℕ) (Unit {0}) ArmValue step_number_of number_of target_number_of arm_number_of node)
unfolding number_of step_number_of arm_number_of target_number_of
number_of-roll =
    fold-roll-TExpr StepValue (Option ℕ) (Unit {0}) ArmValue step_number expression_number target_number arm_number

step_number_of-roll : (node : Step-F Step TExpr Target Arm) → step_number_of (roll-Step node) ≡
    step_number (map-Step Step TExpr Target Arm StepValue (Option ℕ) (Unit {0}) ArmValue step_number_of number_of target_number_of arm_number_of node)
unfolding number_of step_number_of arm_number_of target_number_of
step_number_of-roll =
    fold-roll-Step StepValue (Option ℕ) (Unit {0}) ArmValue step_number expression_number target_number arm_number

arm_number_of-roll : (node : Arm-F Step TExpr Target Arm) → arm_number_of (roll-Arm node) ≡
    arm_number (map-Arm Step TExpr Target Arm StepValue (Option ℕ) (Unit {0}) ArmValue step_number_of number_of target_number_of arm_number_of node)
unfolding number_of step_number_of arm_number_of target_number_of
arm_number_of-roll =
    fold-roll-Arm StepValue (Option ℕ) (Unit {0}) ArmValue step_number expression_number target_number arm_number

pub has_constant_form-Primary : (t : CType) (p : Primary) → has_constant_form (x.Primary t p) ≡ expression_form (TExpr-F.Primary t p)
has_constant_form-Primary t p = ap has_constant_form (sym (x.rolls-Primary t p)) ∙ has_constant_form-roll (TExpr-F.Primary t p)

pub has_constant_form-Applied : (t : CType) (a : TExpr) (steps : List Step) → has_constant_form (x.Applied t a steps) ≡ expression_form (TExpr-F.Applied t (has_constant_form a) (map step_has_form steps))
has_constant_form-Applied t a steps = ap has_constant_form (sym (x.rolls-Applied t a steps)) ∙ has_constant_form-roll (TExpr-F.Applied t a steps)

pub has_constant_form-All : (t : CType) (all : List TExpr) → has_constant_form (x.All t all) ≡ expression_form (TExpr-F.All t (map has_constant_form all))
has_constant_form-All t all = ap has_constant_form (sym (x.rolls-All t all)) ∙ has_constant_form-roll (TExpr-F.All t all)

pub has_constant_form-Any : (t : CType) (all : List TExpr) → has_constant_form (x.Any t all) ≡ expression_form (TExpr-F.Any t (map has_constant_form all))
has_constant_form-Any t all = ap has_constant_form (sym (x.rolls-Any t all)) ∙ has_constant_form-roll (TExpr-F.Any t all)

pub has_constant_form-Choose : (t : CType) (arms : List Arm) (last : TExpr) → has_constant_form (x.Choose t arms last) ≡ expression_form (TExpr-F.Choose t (map arm_has_form arms) (has_constant_form last))
has_constant_form-Choose t arms last = ap has_constant_form (sym (x.rolls-Choose t arms last)) ∙ has_constant_form-roll (TExpr-F.Choose t arms last)

pub has_constant_form-Comma : (t : CType) (all : List TExpr) (last : TExpr) → has_constant_form (x.Comma t all last) ≡ false
has_constant_form-Comma t all last = ap has_constant_form (sym (x.rolls-Comma t all last)) ∙ has_constant_form-roll (TExpr-F.Comma t all last)

pub has_constant_form-Assign : (t : CType) (targets : List Target) (last : TExpr) → has_constant_form (x.Assign t targets last) ≡ false
has_constant_form-Assign t targets last = ap has_constant_form (sym (x.rolls-Assign t targets last)) ∙ has_constant_form-roll (TExpr-F.Assign t targets last)

pub has_constant_form-Call : (t : CType) (f : ℕ) (all : List TExpr) → has_constant_form (x.Call t f all) ≡ false
has_constant_form-Call t f all = ap has_constant_form (sym (x.rolls-Call t f all)) ∙ has_constant_form-roll (TExpr-F.Call t f all)

pub has_constant_form-DroppedCall : (t : CType) (f : ℕ) (all : List TExpr) → has_constant_form (x.DroppedCall t f all) ≡ false
has_constant_form-DroppedCall t f all = ap has_constant_form (sym (x.rolls-DroppedCall t f all)) ∙ has_constant_form-roll (TExpr-F.DroppedCall t f all)

pub has_constant_form-GetChar : (t : CType) → has_constant_form (x.GetChar t) ≡ false
has_constant_form-GetChar t = ap has_constant_form (sym (x.rolls-GetChar t)) ∙ has_constant_form-roll (TExpr-F.GetChar t)

pub has_constant_form-PutChar : (t : CType) (a : TExpr) → has_constant_form (x.PutChar t a) ≡ false
has_constant_form-PutChar t a = ap has_constant_form (sym (x.rolls-PutChar t a)) ∙ has_constant_form-roll (TExpr-F.PutChar t a)

pub has_constant_form-Exit : (t : CType) (a : TExpr) → has_constant_form (x.Exit t a) ≡ false
has_constant_form-Exit t a = ap has_constant_form (sym (x.rolls-Exit t a)) ∙ has_constant_form-roll (TExpr-F.Exit t a)

pub number_of-Primary : (t : CType) (p : Primary) → number_of (x.Primary t p) ≡ expression_number (TExpr-F.Primary t p)
number_of-Primary t p = ap number_of (sym (x.rolls-Primary t p)) ∙ number_of-roll (TExpr-F.Primary t p)

pub number_of-Applied : (t : CType) (a : TExpr) (steps : List Step) → number_of (x.Applied t a steps) ≡ expression_number (TExpr-F.Applied t (number_of a) (map step_number_of steps))
number_of-Applied t a steps = ap number_of (sym (x.rolls-Applied t a steps)) ∙ number_of-roll (TExpr-F.Applied t a steps)

pub number_of-All : (t : CType) (all : List TExpr) → number_of (x.All t all) ≡ expression_number (TExpr-F.All t (map number_of all))
number_of-All t all = ap number_of (sym (x.rolls-All t all)) ∙ number_of-roll (TExpr-F.All t all)

pub number_of-Any : (t : CType) (all : List TExpr) → number_of (x.Any t all) ≡ expression_number (TExpr-F.Any t (map number_of all))
number_of-Any t all = ap number_of (sym (x.rolls-Any t all)) ∙ number_of-roll (TExpr-F.Any t all)

pub number_of-Choose : (t : CType) (arms : List Arm) (last : TExpr) → number_of (x.Choose t arms last) ≡ expression_number (TExpr-F.Choose t (map arm_number_of arms) (number_of last))
number_of-Choose t arms last = ap number_of (sym (x.rolls-Choose t arms last)) ∙ number_of-roll (TExpr-F.Choose t arms last)

pub number_of-Comma : (t : CType) (all : List TExpr) (last : TExpr) → number_of (x.Comma t all last) ≡ None
number_of-Comma t all last = ap number_of (sym (x.rolls-Comma t all last)) ∙ number_of-roll (TExpr-F.Comma t all last)

pub number_of-Assign : (t : CType) (targets : List Target) (last : TExpr) → number_of (x.Assign t targets last) ≡ None
number_of-Assign t targets last = ap number_of (sym (x.rolls-Assign t targets last)) ∙ number_of-roll (TExpr-F.Assign t targets last)

pub number_of-Call : (t : CType) (f : ℕ) (all : List TExpr) → number_of (x.Call t f all) ≡ None
number_of-Call t f all = ap number_of (sym (x.rolls-Call t f all)) ∙ number_of-roll (TExpr-F.Call t f all)

pub number_of-DroppedCall : (t : CType) (f : ℕ) (all : List TExpr) → number_of (x.DroppedCall t f all) ≡ None
number_of-DroppedCall t f all = ap number_of (sym (x.rolls-DroppedCall t f all)) ∙ number_of-roll (TExpr-F.DroppedCall t f all)

pub number_of-GetChar : (t : CType) → number_of (x.GetChar t) ≡ None
number_of-GetChar t = ap number_of (sym (x.rolls-GetChar t)) ∙ number_of-roll (TExpr-F.GetChar t)

pub number_of-PutChar : (t : CType) (a : TExpr) → number_of (x.PutChar t a) ≡ None
number_of-PutChar t a = ap number_of (sym (x.rolls-PutChar t a)) ∙ number_of-roll (TExpr-F.PutChar t a)

pub number_of-Exit : (t : CType) (a : TExpr) → number_of (x.Exit t a) ≡ None
number_of-Exit t a = ap number_of (sym (x.rolls-Exit t a)) ∙ number_of-roll (TExpr-F.Exit t a)

pub step_has_form-Unary : (u : Unary) → step_has_form (step.Unary u) ≡ step_form (Step-F.Unary u)
step_has_form-Unary u = ap step_has_form (sym (step.rolls-Unary u)) ∙ step_has_form-roll (Step-F.Unary u)

pub step_has_form-Binary : (o : Arithmetic) (b : TExpr) → step_has_form (step.Binary o b) ≡ step_form (Step-F.Binary o (has_constant_form b))
step_has_form-Binary o b = ap step_has_form (sym (step.rolls-Binary o b)) ∙ step_has_form-roll (Step-F.Binary o b)

pub step_number_of-Unary : (u : Unary) → step_number_of (step.Unary u) ≡ step_number (Step-F.Unary u)
step_number_of-Unary u = ap step_number_of (sym (step.rolls-Unary u)) ∙ step_number_of-roll (Step-F.Unary u)

pub step_number_of-Binary : (o : Arithmetic) (b : TExpr) → step_number_of (step.Binary o b) ≡ step_number (Step-F.Binary o (number_of b))
step_number_of-Binary o b = ap step_number_of (sym (step.rolls-Binary o b)) ∙ step_number_of-roll (Step-F.Binary o b)

pub arm_has_form-is : (a : Arm) → arm_has_form a ≡
    (has_constant_form (out-Arm a).condition && has_constant_form (out-Arm a).chosen)
arm_has_form-is a = ap arm_has_form (sym (roll-out-Arm a)) ∙ arm_has_form-roll (out-Arm a)

pub arm_number_of-is : (a : Arm) → arm_number_of a ≡ (number_of (out-Arm a).condition, number_of (out-Arm a).chosen)
arm_number_of-is a = ap arm_number_of (sym (roll-out-Arm a)) ∙ arm_number_of-roll (out-Arm a)
