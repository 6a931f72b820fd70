use Rattle.std.proofs.Common.{◌≡◌, drop, map}
use Rattle.c_layout.specs.Constants.{all_hold, has_constant_form, step_has_form, arm_has_form}
use Rattle.c_layout.proofs.constants.+form.Given as goal

abbrev pub invariant-all_have_form-loop-one : goal.invariant-all_have_form-loop-one
invariant-all_have_form-loop-one l =
    all_hold (map has_constant_form (drop l.one-index l.all)) ≡ all_hold (map has_constant_form l.all)

abbrev pub invariant-steps_have_form-loop-one : goal.invariant-steps_have_form-loop-one
invariant-steps_have_form-loop-one l =
    all_hold (map step_has_form (drop l.one-index l.steps)) ≡ all_hold (map step_has_form l.steps)

abbrev pub invariant-arms_have_form-loop-one : goal.invariant-arms_have_form-loop-one
invariant-arms_have_form-loop-one l =
    all_hold (map arm_has_form (drop l.one-index l.arms)) ≡ all_hold (map arm_has_form l.arms)
