-- `prefixes` of src/prefixes.rt: what the check leaves open of its proof.
-- Prefixes, from left to right.
use Rattle.std.proofs.Common.{◌∙◌, ap, sym, map}
use Rattle.std.specs.Prelude.{[], ◌∷◌, Some}
use Rattle.std.specs.Option.{option_map}
use Rattle.std.proofs.lemmas.List.{map-append}
use Rattle.c_typing.specs.Scopes.{◌>>=◌}
use Rattle.c_typing.specs.Trees.{prefix_typing}
use Rattle.c_type_expressions.specs.Prefixes.{prefixing}
use Rattle.c_type_trees.specs.Sequences.{prefixes_walk}
use Rattle.c_type_trees.proofs.After.{after, after_same, done}
use Rattle.c_type_trees.proofs.Kept.{all_turned}
use Rattle.c_type_trees.proofs.Loops.{gathered, gathered_first, gathered_last}
use Rattle.c_type_trees.proofs.Rounds.{prefixes_round}
use Rattle.c_type_trees.proofs.walker.Walker.prefixes.Goals as goal

pub loop-one-init : goal.loop-one-init
loop-one-init g c =
    sym (after_same _ _ c.args.around.now c.args.found.now (gathered_first (prefixes_walk (map prefix_typing c.args.run.now))))
    ∙ ap (λ all. after (prefixes_walk (map prefix_typing c.args.run.now) >>= gathered (map (option_map prefixing) all)) c.args.around.now c.args.found.now) (sym c.new-all.ensures)

pub loop-one-preserved : goal.loop-one-preserved
loop-one-preserved g c =
    prefixes_round c.args.run.now c.loop-one.one-index c.one-item.result (map (option_map prefixing) c.loop-one.all) _ _ _ c.args.around.now _ _ c.loop-one-test.true c.one-item.is c.loop-one.invariant c.in-Ok.ensures
    (ap (map (option_map prefixing)) c.in-Ok-push.ensures.ok ∙ map-append (option_map prefixing) c.loop-one.all (c.in-Ok.given ∷ []))

pub returns : goal.returns
returns g c =
    done (prefixes_walk (map prefix_typing c.args.run.now)) c.args.around.now _ _ (Some (map (option_map prefixing) c.loop-one.all))
    (all_turned prefix_typing c.args.run.now c.loop-one.one-index (λ ps. prefixes_walk ps >>= gathered (map (option_map prefixing) c.loop-one.all)) _ c.args.around.now _ c.loop-one-test.false c.loop-one.invariant
    ∙ after_same _ _ c.args.around.now c.loop-one.found (gathered_last (map (option_map prefixing) c.loop-one.all)))
