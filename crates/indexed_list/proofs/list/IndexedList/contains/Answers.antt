use Rattle.std.proofs.Common.{ap, is_some, ◌∙◌}
use Rattle.indexed_list.proofs.First.{has_place}
use Rattle.indexed_list.proofs.list.IndexedList.contains.Goals as goal

pub returns : goal.returns
returns g c = c.is_some.ensures ∙ ap is_some c.place_of.ensures ∙ has_place g.T.PartialEq.eq g.met.T.Eq.laws c.args.value.now 0 c.args.self.now
