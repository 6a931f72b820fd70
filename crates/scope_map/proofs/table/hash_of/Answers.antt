use Rattle.std.proofs.Common.{ap, fold, ◌∙◌}
use Rattle.std.specs.Hash.FoldHasher as folding
use Rattle.scope_map.specs.Hashes.{hash_of}
use Rattle.scope_map.proofs.table.hash_of.Goals as goal

pub returns : goal.returns
unfolding hash_of
returns g c =
    c.finish.ensures ∙ ap folding.finish (c.hash.ensures ∙ ap (λ state. fold folding.write state (g.K.Hash.hash_input c.args.key.now)) c.default-hasher.ensures)
