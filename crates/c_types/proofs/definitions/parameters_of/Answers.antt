-- `parameters_of` of src/definitions.rt: what the check leaves open of its proof.
-- The parameters of the function that the last derivation makes.
use Rattle.std.proofs.Common.{◌∙◌, sym}
use Rattle.c_types.proofs.Bodies.{parameters_popped}
use Rattle.c_types.proofs.definitions.parameters_of.Goals as goal

pub returns-in-Some : goal.returns-in-Some
returns-in-Some c = c.listed.ensures ∙ sym (parameters_popped c.args.list _ c.in-Some.last c.in-Some.ensures)
