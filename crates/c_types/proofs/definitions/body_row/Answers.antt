-- `body_row` of src/definitions.rt: what the check leaves open of its proof.
-- The body of a function, and its parameters as objects, once all is known of them.
use Rattle.c_typing.specs.Statements.{block_typing}
use Rattle.c_types.proofs.Bodies.{with_body, without_body, block_items}
use Rattle.c_types.proofs.definitions.body_row.Goals as goal

pub returns-in-Some : goal.returns-in-Some
returns-in-Some c =
    let g = rw (block_items c.args.tree.now c.as_slice.result.now c.as_slice.ensures) at c.in_ok-made.ensures in
    with_body c.args.parameters.now (block_typing c.args.tree.now) _ c.in_ok-within.within c.args.found.now c.owned_row.new.found c.in_ok-made.made (c.in-Some.objects, c.in-Some.made)
    c.in_ok-parameters.parameters c.in_ok-within.ensures c.in-Some.is c.in_ok-parameters.ensures g

pub returns-in-None : goal.returns-in-None
returns-in-None c =
    let g = rw (block_items c.args.tree.now c.as_slice.result.now c.as_slice.ensures) at c.in_ok-made.ensures in
    without_body c.args.parameters.now (block_typing c.args.tree.now) _ c.in_ok-within.within c.args.found.now c.owned_row.new.found c.in_ok-made.made c.in_ok-within.ensures c.in-None.is g
