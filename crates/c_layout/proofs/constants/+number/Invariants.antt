use Rattle.std.proofs.Common.{◌≡◌, drop, map}
use Rattle.c_layout.specs.Constants.{stepped, every, some, chosen, number_of, step_number_of, arm_number_of}
use Rattle.c_layout.proofs.constants.+number.Given as goal

abbrev pub invariant-stepped-loop-one : goal.invariant-stepped-loop-one
invariant-stepped-loop-one l =
    stepped (map step_number_of (drop l.one-index l.steps)) l.number ≡ stepped (map step_number_of l.steps) l.fn.first

abbrev pub invariant-every-loop-one : goal.invariant-every-loop-one
invariant-every-loop-one l = every (map number_of (drop l.one-index l.all)) ≡ every (map number_of l.all)

abbrev pub invariant-some-loop-one : goal.invariant-some-loop-one
invariant-some-loop-one l = some (map number_of (drop l.one-index l.all)) ≡ some (map number_of l.all)

abbrev pub invariant-chosen-loop-arm : goal.invariant-chosen-loop-arm
invariant-chosen-loop-arm l =
    chosen (map arm_number_of (drop l.arm-index l.arms)) l.last ≡ chosen (map arm_number_of l.arms) l.last
