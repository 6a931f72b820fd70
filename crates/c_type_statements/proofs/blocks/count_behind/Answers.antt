-- `count_behind` of src/blocks.rt: what the check leaves open of its proof.
-- How many automatic objects these items of a block declare, where these names are visible before them.
use Rattle.std.proofs.Common.{◌≡◌, ◌+◌, ◌<◌, length, map, zero-add, arith}
use Rattle.c_typing.specs.OfStatements as spec
use Rattle.c_typing.specs.Statements.{block_item_typing}
use Rattle.c_type_declarations.specs.Counting.{named}
use Rattle.c_type_statements.proofs.Counted.{counts_further}
use Rattle.c_type_statements.proofs.blocks.count_behind.Goals as goal

pub loop-item-init : goal.loop-item-init
loop-item-init c = zero-add (spec.count_items (named c.args.names.now) (map block_item_typing c.args.items.now))

pub loop-item-preserved : goal.loop-item-preserved
loop-item-preserved c =
    let items = c.args.items.now in
    let below : c.loop-item.item-index < length items = omega arith in
    let sum : c.in-Some.sum ≡ c.loop-item.count + c.in_ok-more.more = c.in-Some.ensures.1 in
    rw sum (counts_further (named c.loop-item.names) (named c.count_item.new.names) items c.loop-item.item-index c.item-item.result
    c.loop-item.count c.in_ok-more.more (spec.count_items (named c.args.names.now) (map block_item_typing items))
    below c.item-item.is c.loop-item.invariant c.in_ok-more.ensures.count c.in_ok-more.ensures.names)
