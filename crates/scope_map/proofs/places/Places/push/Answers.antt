use Rattle.std.proofs.Common.{◌≡◌, nat_eq, ap, arith, length, subst, sym, take, ◌∙◌}
use Rattle.std.specs.Map.{lookup}
use Rattle.std.proofs.lemmas.List.{take_at}
use Rattle.indexmap.specs.IndexMap.{get}
use Rattle.scope_map.specs.Places.{IsLinked}
use Rattle.scope_map.proofs.Linked.{IsLinked-same, pushed}
use Rattle.scope_map.proofs.places.Places.push.Goals as goal

pub invariant_of-self-in-Err : goal.invariant_of-self-in-Err
invariant_of-self-in-Err c =
    let len : length c.self.inside.links.items ≡ c.len-place.result = omega (arith, c.self.inside.links.ok.0) in
    let items = c.truncate.ensures.items ∙ ap (take c.len-place.result) c.in_ok-push.ensures.items ∙ take_at _ _ _ len in
    subst (λ links. IsLinked links (get nat_eq c.insert.new.self)) (sym items)
    (IsLinked-same _ _ _ (λ number. ap (lookup (nat_eq number)) c.in-Err.ensures.err) c.self.invariant)

pub invariant_of-self-in-Ok : goal.invariant_of-self-in-Ok
invariant_of-self-in-Ok c =
    let len : length c.self.inside.links.items ≡ c.len-place.result = omega (arith, c.self.inside.links.ok.0) in
    subst (λ links. IsLinked links (get nat_eq c.insert.new.self)) (sym c.in_ok-push.ensures.items)
    (pushed _ _ _ _ c.args.self.now c.len-place.result c.self.view_is len c.last_of-before.ensures c.in-Ok.ensures.updates.0 c.self.invariant)
