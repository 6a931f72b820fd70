use Rattle.std.proofs.Common.{◌≡◌, ◌∙◌, sym, ap, refl, Some, None, drop, map, ◌+◌}
use Rattle.c_layout.specs.Constants.{number_of, arm_number_of}
use Rattle.c_layout.specs.ConstantNodes.{number_of-All, number_of-Any, number_of-Applied, number_of-Assign, number_of-Call, number_of-Choose, number_of-Comma, number_of-DroppedCall, number_of-Exit, number_of-GetChar, number_of-Primary, number_of-PutChar, step_number_of-Binary, step_number_of-Unary}
use Rattle.c_layout.proofs.Arms.{chosen-next, chosen-undefined, chosen-here, chosen-later}
use Rattle.c_layout.proofs.constants.+number.Goals as goal

pub chosen-returns-in_err-number_of : goal.chosen-returns-in_err-number_of
chosen-returns-in_err-number_of t c =
    let condition : number_of c.arm-item.result.condition ≡ None = sym c.number_of.ensures ∙ c.in_err-number_of.was in
    c.from_residual.ensures
    ∙ sym (sym c.loop-arm.invariant ∙ chosen-next c.args.arms.now c.loop-arm.arm-index c.arm-item.result c.args.last c.loop-arm-test.true c.arm-item.is ∙ chosen-undefined (number_of c.arm-item.result.condition) (number_of c.arm-item.result.chosen) (map arm_number_of (drop (c.loop-arm.arm-index + 1) c.args.arms.now)) c.args.last condition)

pub chosen-returns-then-branch-ne0 : goal.chosen-returns-then-branch-ne0
chosen-returns-then-branch-ne0 t c =
    let condition : number_of c.arm-item.result.condition ≡ Some c.in_ok-number_of.field-0 =
    sym c.number_of.ensures ∙ c.in_ok-number_of.was in
    c.number_of-then-branch-ne0.ensures
    ∙ sym (sym c.loop-arm.invariant ∙ chosen-next c.args.arms.now c.loop-arm.arm-index c.arm-item.result c.args.last c.loop-arm-test.true c.arm-item.is ∙ chosen-here (number_of c.arm-item.result.condition) (number_of c.arm-item.result.chosen) (map arm_number_of (drop (c.loop-arm.arm-index + 1) c.args.arms.now)) c.args.last c.in_ok-number_of.field-0 condition c.if-branch-ne0.true)

pub chosen-loop-arm-preserved : goal.chosen-loop-arm-preserved
chosen-loop-arm-preserved t c =
    let condition : number_of c.arm-item.result.condition ≡ Some c.in_ok-number_of.field-0 =
    sym c.number_of.ensures ∙ c.in_ok-number_of.was in
    sym (chosen-next c.args.arms.now c.loop-arm.arm-index c.arm-item.result c.args.last c.loop-arm-test.true c.arm-item.is ∙ chosen-later (number_of c.arm-item.result.condition) (number_of c.arm-item.result.chosen) (map arm_number_of (drop (c.loop-arm.arm-index + 1) c.args.arms.now)) c.args.last c.in_ok-number_of.field-0 condition c.if-branch-ne0.false)
    ∙ c.loop-arm.invariant

pub number_of-returns-in_err-number_of-in-Applied : goal.number_of-returns-in_err-number_of-in-Applied
number_of-returns-in_err-number_of-in-Applied t c =
    let first : number_of c.in-Applied.first ≡ None =
    ap number_of (sym c.get.ensures) ∙ sym c.number_of.ensures ∙ c.in_err-number_of-in-Applied.was in
    c.from_residual.ensures ∙ rw (c.in-Applied.is, number_of-Applied, first) refl

pub number_of-returns-in_ok-number_of-in-Applied : goal.number_of-returns-in_ok-number_of-in-Applied
number_of-returns-in_ok-number_of-in-Applied t c =
    let first : number_of c.in-Applied.first ≡ Some c.in_ok-number_of-in-Applied.field-0 =
    ap number_of (sym c.get.ensures) ∙ sym c.number_of.ensures ∙ c.in_ok-number_of-in-Applied.was in
    rw (c.in-Applied.is, number_of-Applied, first, c.stepped.ensures, c.as_slice.ensures) refl

pub number_of-returns-in-Primary : goal.number_of-returns-in-Primary
number_of-returns-in-Primary t c = rw (c.in-Primary.is, number_of-Primary) c.primary_number.ensures

pub number_of-returns-in-All : goal.number_of-returns-in-All
number_of-returns-in-All t c = rw (c.in-All.is, number_of-All, c.every.ensures, c.as_slice-in-All.ensures) refl

pub number_of-returns-in-Any : goal.number_of-returns-in-Any
number_of-returns-in-Any t c = rw (c.in-Any.is, number_of-Any, c.some.ensures, c.as_slice-in-Any.ensures) refl

pub number_of-returns-in-Choose : goal.number_of-returns-in-Choose
number_of-returns-in-Choose t c =
    rw (c.in-Choose.is, number_of-Choose, c.chosen.ensures, c.as_slice-in-Choose.ensures, c.number_of-in-Choose.ensures, c.get-in-Choose.ensures) refl

pub number_of-returns-in-Comma : goal.number_of-returns-in-Comma
number_of-returns-in-Comma t c = rw (c.in-Comma.is, number_of-Comma) refl

pub number_of-returns-in-Assign : goal.number_of-returns-in-Assign
number_of-returns-in-Assign t c = rw (c.in-Assign.is, number_of-Assign) refl

pub number_of-returns-in-Call : goal.number_of-returns-in-Call
number_of-returns-in-Call t c = rw (c.in-Call.is, number_of-Call) refl

pub number_of-returns-in-DroppedCall : goal.number_of-returns-in-DroppedCall
number_of-returns-in-DroppedCall t c = rw (c.in-DroppedCall.is, number_of-DroppedCall) refl

pub number_of-returns-in-GetChar : goal.number_of-returns-in-GetChar
number_of-returns-in-GetChar t c = rw (c.in-GetChar.is, number_of-GetChar) refl

pub number_of-returns-in-PutChar : goal.number_of-returns-in-PutChar
number_of-returns-in-PutChar t c = rw (c.in-PutChar.is, number_of-PutChar) refl

pub number_of-returns-in-Exit : goal.number_of-returns-in-Exit
number_of-returns-in-Exit t c = rw (c.in-Exit.is, number_of-Exit) refl

pub step_number-returns-in_err-number_of-in-Binary : goal.step_number-returns-in_err-number_of-in-Binary
step_number-returns-in_err-number_of-in-Binary t c =
    let right : number_of c.in-Binary.right ≡ None = sym c.number_of.ensures ∙ c.in_err-number_of-in-Binary.was in
    c.from_residual.ensures ∙ rw (c.in-Binary.is, step_number_of-Binary, right) refl

pub step_number-returns-in-Unary : goal.step_number-returns-in-Unary
step_number-returns-in-Unary t c = rw (c.in-Unary.is, step_number_of-Unary) c.unary_number.ensures

pub step_number-returns-in_ok-number_of-in-Binary : goal.step_number-returns-in_ok-number_of-in-Binary
step_number-returns-in_ok-number_of-in-Binary t c =
    let right : number_of c.in-Binary.right ≡ Some c.in_ok-number_of-in-Binary.field-0 =
    sym c.number_of.ensures ∙ c.in_ok-number_of-in-Binary.was in
    rw (c.in-Binary.is, step_number_of-Binary, right) c.arithmetic_number.ensures
