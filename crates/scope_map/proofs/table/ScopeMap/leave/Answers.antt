use Rattle.std.proofs.Common.{ap, map, sym, take, ◌∙◌}
use Rattle.std.proofs.lemmas.List.{take-map}
use Rattle.scope_map.specs.Hashes.{hash_of}
use Rattle.scope_map.proofs.table.ScopeMap.leave.Goals as goal

pub invariant_of-self : goal.invariant_of-self
invariant_of-self g c =
    c.truncate-2.ensures ∙ ap (take c.args.mark) c.self.invariant ∙ take-map _ c.args.mark _
    ∙ ap (map (λ (pair : g.row.K.Denot × g.row.V.Denot). hash_of (g.K.Hash.hash_input pair.0))) (sym c.truncate.ensures.items)
