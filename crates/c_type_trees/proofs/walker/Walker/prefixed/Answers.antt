-- `prefixed` of src/prefixes.rt: what the check leaves open of its proof.
-- Prefixes, and the operand behind them.
use Rattle.std.proofs.Common.{map}
use Rattle.std.specs.Option.{option_map}
use Rattle.c_typing.specs.Scopes.{◌>>=◌, asked}
use Rattle.c_typing.specs.OfTrees.{prefixes_row}
use Rattle.c_typing.specs.Trees.{expr_typing, prefix_typing}
use Rattle.c_type_expressions.specs.Prefixes.{prefixing}
use Rattle.c_type_trees.specs.Sequences.{prefixes_walk}
use Rattle.c_type_trees.proofs.Arms.{then_walk}
use Rattle.c_type_trees.proofs.walker.Walker.prefixed.Goals as goal

pub returns : goal.returns
returns g c =
    then_walk (prefixes_walk (map prefix_typing c.args.run.now)) (λ qs. (expr_typing c.args.operand.now).typed >>= λ o. asked qs (λ qs. prefixes_row qs o)) c.args.around.now _ _ _ _ _ c.in_ok-all.ensures
    (then_walk (expr_typing c.args.operand.now).typed (λ o. asked (option_map (λ all. map (option_map prefixing) all) c.in_ok-all.all) (λ qs. prefixes_row qs o)) c.args.around.now _ _ _ _ _ c.in-Ok.ensures c.prefixed_if_any.ensures)
