use Rattle.c_layout.proofs.Completeness.{size_of-complete}
use Rattle.c_layout.proofs.sizes.size.Goals as goal

pub returns-clause-complete : goal.returns-clause-complete
returns-clause-complete c =
    rw (c.sized.ensures, c.as_slice.ensures, c.base_size.ensures.size) (size_of-complete c.args.tags.now c.args.t.now)
