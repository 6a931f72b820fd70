-- A source says one thing at most.
use Rattle.first_form.proofs.Forms.{one_form}
use Rattle.first_form.proofs.form.says_one_thing.Goals as goal

pub returns : goal.returns
returns c = λ bytes f g hf hg. one_form _ f g hf hg
