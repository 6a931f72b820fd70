use Rattle.c_layout.proofs.Completeness.{alignment_of-complete, aligned-aligned}
use Rattle.c_layout.proofs.sizes.align.Goals as goal

pub returns-clause-complete : goal.returns-clause-complete
returns-clause-complete c =
    rw (c.aligned.ensures, c.as_slice.ensures, c.base_alignment.ensures.alignment)
    (alignment_of-complete c.args.tags.now c.args.t.now)

pub returns-clause-aligned : goal.returns-clause-aligned
returns-clause-aligned c =
    rw c.aligned.ensures (aligned-aligned c.as_slice.result.now c.base_alignment.result c.base_alignment.ensures.aligned)
