-- `count_behind` of src/blocks.rt: what holds in its loop.
-- How many automatic objects these items of a block declare, where these names are visible before them.
use Rattle.std.proofs.Common.{◌≡◌, ◌+◌, drop, map}
use Rattle.c_typing.specs.OfStatements as spec
use Rattle.c_typing.specs.Statements.{block_item_typing}
use Rattle.c_type_declarations.specs.Counting.{named}
use Rattle.c_type_statements.proofs.blocks.count_behind.Given as goal

abbrev pub invariant-loop-item : goal.invariant-loop-item
invariant-loop-item l =
    l.count + spec.count_items (named l.names) (map block_item_typing (drop l.item-index l.items))
    ≡ spec.count_items (named l.initial.names) (map block_item_typing l.items)
