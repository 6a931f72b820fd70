use Rattle.std.proofs.Common.{◌≡◌, ap, arith, length, nat_eq, subst}
use Rattle.std.proofs.lemmas.List.{length_push}
use Rattle.indexmap.specs.IndexMap.{get}
use Rattle.scope_map.specs.Places.{IsLinked}
use Rattle.scope_map.proofs.Linked.{IsLinked-pop, first_numbers, front}
use Rattle.scope_map.proofs.places.Places.truncate.Goals as goal

pub loop-self-preserved-in-Some : goal.loop-self-preserved-in-Some
loop-self-preserved-in-Some c =
    let i = c.loop-self.invariant in
    let items = c.in-Some.ensures.items in
    record {
      linked = IsLinked-pop _ _ _ c.in-Some.link c.unlink.ensures (subst (λ links. IsLinked links (get nat_eq c.loop-self.self-inside.ends)) items i.linked);
      enough = omega (arith, c.loop-self.self-inside.links.ok.0, ap length items, length_push c.pop.new.self.items c.in-Some.link);
      first = front _ _ _ c.in-Some.link items i.first;
    }

pub returns : goal.returns
returns c =
    let i = c.loop-self.invariant in
    let len : length c.loop-self.self-inside.links.items ≡ c.args.count = omega (arith, c.loop-self.self-inside.links.ok.0) in
    first_numbers _ _ c.args.self.now c.args.count c.self.view_is len i.first
