use Rattle.std.proofs.Common.{◌≡◌, ◌∙◌, sym, ap, Some, slice_get}
use Rattle.std.specs.Option.{option_copied}
use Rattle.c_layout.specs.Tags.{is_aligned}
use Rattle.c_layout.proofs.Lists.{list_all-at}
use Rattle.c_layout.proofs.tags.Tags.layout.Goals as goal

pub returns-in-Some-Some-clause-aligned : goal.returns-in-Some-Some-clause-aligned
returns-in-Some-Some-clause-aligned c =
    let there : slice_get c.self.inside.list c.args.tag ≡ Some (Some c.in-Some-Some.layout) =
    sym c.get.ensures.value ∙ ap option_copied c.in-Some-Some.is ∙ ap Some c.in-Some-Some.field-0-is in
    list_all-at is_aligned c.self.inside.list c.args.tag (Some c.in-Some-Some.layout) c.self.invariant there
