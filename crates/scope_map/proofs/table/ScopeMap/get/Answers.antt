use Rattle.std.proofs.Common.{ap, arith, ◌∙◌}
use Rattle.std.proofs.lemmas.List.{take_all}
use Rattle.scope_map.specs.Scopes.{latest}
use Rattle.scope_map.proofs.Latest.{lent_where_found}
use Rattle.scope_map.proofs.table.ScopeMap.get.Goals as goal

pub returns-clause-last : goal.returns-clause-last
returns-clause-last g c =
    c.get_between.ensures
    ∙ ap (λ pairs. latest g.K.PartialEq.eq pairs c.args.key.now) (take_all c.mark.result c.args.self.now (omega (arith, c.mark.ensures.length)))

pub returns-clause-found : goal.returns-clause-found
returns-clause-found g c = lent_where_found g.K.PartialEq.eq c.args.self.now c.args.key.now c.get_between.result (returns-clause-last g c)
