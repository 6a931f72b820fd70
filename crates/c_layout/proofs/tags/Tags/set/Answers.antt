use Rattle.std.proofs.Common.{Some}
use Rattle.c_layout.specs.Tags.{is_aligned}
use Rattle.c_layout.proofs.Lists.{list_all-set}
use Rattle.c_layout.proofs.tags.Tags.set.Goals as goal

pub invariant_of-self : goal.invariant_of-self
invariant_of-self c =
    rw c.set.ensures
    (list_all-set is_aligned c.self.inside.list c.args.tag (Some c.args.layout) c.self.invariant c.requires)
