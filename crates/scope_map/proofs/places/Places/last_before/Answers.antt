use Rattle.scope_map.proofs.Linked.{told}
use Rattle.scope_map.proofs.places.Places.last_before.Goals as goal

pub returns : goal.returns
returns c = told _ _ c.args.self.now c.args.place c.index.result.now c.self.view_is c.requires c.index.ensures c.self.invariant
