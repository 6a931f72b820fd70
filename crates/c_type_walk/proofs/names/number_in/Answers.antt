-- `number_in` of src/names.rt: what the check leaves open of its proof.
-- The place of the first name in a list that is this one, from 0.
use Rattle.std.proofs.Common.{◌≡◌, ◌∙◌, sym, ap, Some, arith}
use Rattle.c_type_walk.proofs.Numbers.{number_by_place}
use Rattle.c_type_walk.proofs.names.number_in.Goals as goal

pub returns-in-None : goal.returns-in-None
returns-in-None c = sym c.in-None.is ∙ c.place_of.ensures ∙ number_by_place 0 c.args.names.now c.args.name.now

pub returns-in-Ok : goal.returns-in-Ok
returns-in-Ok c =
    let same : c.in-Ok.number ≡ c.in-Some.place = omega (arith, c.in-Ok.ensures) in
    ap Some same ∙ sym c.in-Some.is ∙ c.place_of.ensures ∙ number_by_place 0 c.args.names.now c.args.name.now
