use Rattle.constant_meaning.proofs.Meaning.{means-value, means-undefined}
use Rattle.constant_meaning.proofs.constants_mean_their_value.Goals as goal

pub returns : goal.returns
returns c = record { value = means-value; undefined = means-undefined }
