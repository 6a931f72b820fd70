-- `has_value` of src/switch.rt: what the check leaves open of its proof.
-- Whether a label has this value.
use Rattle.std.proofs.Common.{◌∙◌}
use Rattle.c_type_statements.proofs.CaseValues.{among}
use Rattle.c_type_statements.proofs.switch.Parting.has_value.Goals as goal

pub returns : goal.returns
returns c = c.contains.ensures ∙ among c.args.value c.args.self.now.values
