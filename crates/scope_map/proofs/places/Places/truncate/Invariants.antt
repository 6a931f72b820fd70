use Rattle.std.proofs.Common.{◌≡◌, ◌≤◌, length, nat_eq, take}
use Rattle.indexmap.specs.IndexMap.{get}
use Rattle.scope_map.specs.Places.{IsLinked}
use Rattle.scope_map.proofs.places.Places.truncate.Given as goal

abbrev pub invariant-loop-self : goal.invariant-loop-self
invariant-loop-self l = record {
  linked : IsLinked l.self-inside.links.items (get nat_eq l.self-inside.ends);
  enough : l.count ≤ length l.self-inside.links.items;
  first : l.self-inside.links.items ≡ take (length l.self-inside.links.items) l.initial.self-inside.links.items;
}

abbrev pub decreases-loop-self : goal.decreases-loop-self
decreases-loop-self l = length l.self-inside.links.items
