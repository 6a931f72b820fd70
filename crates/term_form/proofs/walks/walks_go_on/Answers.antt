-- Proof of the law `walks_go_on` of src/walks.rt: each clause is a lemma of
-- specs/Laws, or computes.
use Rattle.term_form.specs.Laws.Walks.{walk-append, program-timed}
use Rattle.term_form.proofs.walks.walks_go_on.Goals as goal

pub returns : goal.returns
returns c = record { append = walk-append; timed = program-timed }
