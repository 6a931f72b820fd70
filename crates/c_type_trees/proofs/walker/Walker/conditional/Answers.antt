-- `conditional` of src/operators.rt: what the check leaves open of its proof.
-- `? :` (C11 6.5.15): the operands are walked from left to right, and the chain is made from its right end.
use Rattle.std.proofs.Common.{◌∙◌, ap, sym, map}
use Rattle.c_typing.specs.Scopes.{◌>>=◌}
use Rattle.c_typing.specs.OfTrees.{chain_row}
use Rattle.c_typing.specs.Trees.{branch_typing}
use Rattle.c_type_trees.specs.Sequences.{conditional_row, choices_row}
use Rattle.c_type_trees.proofs.After.{after, after_same, tail}
use Rattle.c_type_trees.proofs.Kept.{all_turned}
use Rattle.c_type_trees.proofs.Turns.{chosen, chain_last}
use Rattle.c_type_trees.proofs.Steps.{conditional_begin}
use Rattle.c_type_trees.proofs.Rounds.{conditional_round}
use Rattle.c_type_trees.proofs.walker.Walker.conditional.Goals as goal

pub loop-branch-init : goal.loop-branch-init
loop-branch-init g c =
    conditional_begin (map branch_typing c.args.rest.now) c.args.first c.args.around.now c.args.found.now
    ∙ ap (λ cs. after (chain_row (map branch_typing c.args.rest.now) c.args.first >>= chosen cs) c.args.around.now c.args.found.now) (sym c.new-choices.ensures)

pub loop-branch-preserved : goal.loop-branch-preserved
loop-branch-preserved g c =
    conditional_round c.args.rest.now c.loop-branch.branch-index c.branch-item.result c.loop-branch.last _ _ c.loop-branch.choices _ _ c.args.around.now _ _ _ c.loop-branch-test.true c.branch-item.is c.loop-branch.invariant c.in-Ok.ensures c.in-Ok-expr.ensures c.in-Ok-push.ensures.ok

pub returns : goal.returns
returns g c =
    tail (conditional_row (map branch_typing c.args.rest.now) c.args.first) (choices_row c.loop-branch.choices c.loop-branch.last) c.args.around.now _ c.loop-branch.found _ _
    (all_turned branch_typing c.args.rest.now c.loop-branch.branch-index (λ bs. chain_row bs c.loop-branch.last >>= chosen c.loop-branch.choices) _ c.args.around.now _ c.loop-branch-test.false c.loop-branch.invariant
    ∙ after_same _ _ c.args.around.now c.loop-branch.found (chain_last c.loop-branch.last c.loop-branch.choices))
    c.chosen_by.ensures
