-- Proof of the law `sizes_fit` of src/laws.rt: each clause is a lemma of specs/Laws.
use Rattle.code_sizes.proofs.laws.sizes_fit.Goals as goal
use Rattle.code_sizes.specs.Laws.Sizes.{text_fits, frame_fits}

pub returns : goal.returns
returns c = record { text = text_fits; frame = frame_fits }
