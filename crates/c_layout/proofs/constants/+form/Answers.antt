use Rattle.std.proofs.Common.{◌≡◌, ◌∙◌, sym, ap, refl, false, true}
use Rattle.c_layout.specs.Constants.{has_constant_form}
use Rattle.c_layout.specs.ConstantNodes.{arm_has_form-is, has_constant_form-All, has_constant_form-Any, has_constant_form-Applied, has_constant_form-Assign, has_constant_form-Call, has_constant_form-Choose, has_constant_form-Comma, has_constant_form-DroppedCall, has_constant_form-Exit, has_constant_form-GetChar, has_constant_form-Primary, has_constant_form-PutChar, step_has_form-Binary, step_has_form-Unary}
use Rattle.c_layout.proofs.constants.+form.Goals as goal

pub arm_has_form-returns-then-has_constant_form : goal.arm_has_form-returns-then-has_constant_form
arm_has_form-returns-then-has_constant_form t c =
    rw (arm_has_form-is c.args.arm.now, ← c.has_constant_form.ensures, c.if-has_constant_form.true)
    c.has_constant_form-then-has_constant_form.ensures

pub arm_has_form-returns-else-has_constant_form : goal.arm_has_form-returns-else-has_constant_form
arm_has_form-returns-else-has_constant_form t c =
    rw (arm_has_form-is c.args.arm.now, ← c.has_constant_form.ensures, c.if-has_constant_form.false) refl

pub has_constant_form-returns-in-Primary : goal.has_constant_form-returns-in-Primary
has_constant_form-returns-in-Primary t c = rw (c.in-Primary.is, has_constant_form-Primary) c.is_constant_primary.ensures

pub has_constant_form-returns-then-has_constant_form : goal.has_constant_form-returns-then-has_constant_form
has_constant_form-returns-then-has_constant_form t c =
    let first : has_constant_form c.in-Applied.first ≡ true =
    ap has_constant_form (sym c.get.ensures) ∙ sym c.has_constant_form.ensures ∙ c.if-has_constant_form.true in
    rw (c.in-Applied.is, has_constant_form-Applied, first, c.steps_have_form.ensures, c.as_slice.ensures) refl

pub has_constant_form-returns-else-has_constant_form : goal.has_constant_form-returns-else-has_constant_form
has_constant_form-returns-else-has_constant_form t c =
    let first : has_constant_form c.in-Applied.first ≡ false =
    ap has_constant_form (sym c.get.ensures) ∙ sym c.has_constant_form.ensures ∙ c.if-has_constant_form.false in
    c.if-has_constant_form.false ∙ rw (c.in-Applied.is, has_constant_form-Applied, first) refl

pub has_constant_form-returns-in-All : goal.has_constant_form-returns-in-All
has_constant_form-returns-in-All t c =
    rw (c.in-All.is, has_constant_form-All, c.all_have_form.ensures, c.as_slice-in-All.ensures) refl

pub has_constant_form-returns-in-Any : goal.has_constant_form-returns-in-Any
has_constant_form-returns-in-Any t c =
    rw (c.in-Any.is, has_constant_form-Any, c.all_have_form-in-Any.ensures, c.as_slice-in-Any.ensures) refl

pub has_constant_form-returns-then-arms_have_form : goal.has_constant_form-returns-then-arms_have_form
has_constant_form-returns-then-arms_have_form t c =
    let arms = rw c.as_slice-in-Choose.ensures at (sym c.arms_have_form.ensures ∙ c.if-arms_have_form.true) in
    rw (c.in-Choose.is, has_constant_form-Choose, arms, c.has_constant_form-then-arms_have_form.ensures, c.get-then-arms_have_form.ensures) refl

pub has_constant_form-returns-else-arms_have_form : goal.has_constant_form-returns-else-arms_have_form
has_constant_form-returns-else-arms_have_form t c =
    let arms = rw c.as_slice-in-Choose.ensures at (sym c.arms_have_form.ensures ∙ c.if-arms_have_form.false) in
    c.if-arms_have_form.false ∙ rw (c.in-Choose.is, has_constant_form-Choose, arms) refl

pub has_constant_form-returns-in-Comma : goal.has_constant_form-returns-in-Comma
has_constant_form-returns-in-Comma t c = rw (c.in-Comma.is, has_constant_form-Comma) refl

pub has_constant_form-returns-in-Assign : goal.has_constant_form-returns-in-Assign
has_constant_form-returns-in-Assign t c = rw (c.in-Assign.is, has_constant_form-Assign) refl

pub has_constant_form-returns-in-Call : goal.has_constant_form-returns-in-Call
has_constant_form-returns-in-Call t c = rw (c.in-Call.is, has_constant_form-Call) refl

pub has_constant_form-returns-in-DroppedCall : goal.has_constant_form-returns-in-DroppedCall
has_constant_form-returns-in-DroppedCall t c = rw (c.in-DroppedCall.is, has_constant_form-DroppedCall) refl

pub has_constant_form-returns-in-GetChar : goal.has_constant_form-returns-in-GetChar
has_constant_form-returns-in-GetChar t c = rw (c.in-GetChar.is, has_constant_form-GetChar) refl

pub has_constant_form-returns-in-PutChar : goal.has_constant_form-returns-in-PutChar
has_constant_form-returns-in-PutChar t c = rw (c.in-PutChar.is, has_constant_form-PutChar) refl

pub has_constant_form-returns-in-Exit : goal.has_constant_form-returns-in-Exit
has_constant_form-returns-in-Exit t c = rw (c.in-Exit.is, has_constant_form-Exit) refl

pub step_has_form-returns-in-Unary : goal.step_has_form-returns-in-Unary
step_has_form-returns-in-Unary t c = rw (c.in-Unary.is, step_has_form-Unary) c.is_constant_unary.ensures

pub step_has_form-returns-then-is_constant_arithmetic : goal.step_has_form-returns-then-is_constant_arithmetic
step_has_form-returns-then-is_constant_arithmetic t c =
    rw (c.in-Binary.is, step_has_form-Binary, ← c.is_constant_arithmetic.ensures, c.if-is_constant_arithmetic.true)
    c.has_constant_form.ensures

pub step_has_form-returns-else-is_constant_arithmetic : goal.step_has_form-returns-else-is_constant_arithmetic
step_has_form-returns-else-is_constant_arithmetic t c =
    rw (c.in-Binary.is, step_has_form-Binary, ← c.is_constant_arithmetic.ensures, c.if-is_constant_arithmetic.false) refl
