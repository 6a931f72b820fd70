use Rattle.std.proofs.Common.{ap, arith, drop, ◌∙◌}
use Rattle.std.proofs.lemmas.List.{take_all}
use Rattle.scope_map.specs.Scopes.{latest}
use Rattle.scope_map.proofs.table.ScopeMap.get_since.Goals as goal

pub returns : goal.returns
returns g c =
    c.get_between.ensures
    ∙ ap (λ pairs. latest g.K.PartialEq.eq (drop c.args.mark pairs) c.args.key.now) (take_all c.mark.result c.args.self.now (omega (arith, c.mark.ensures.length)))
