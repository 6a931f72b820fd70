-- `starts_row` of src/starts.rt: what the check leaves open of its proof.
-- What stands in a static object as the program begins, where that is not zero (C11 6.7.9p4, p10).
use Rattle.c_type_initialisers.proofs.Loops.{starts_turn}
use Rattle.c_type_initialisers.proofs.starts.starts_row.Goals as goal

pub loop-leaf-preserved : goal.loop-leaf-preserved
loop-leaf-preserved c =
    starts_turn c.args.around.now c.loop-leaf.found c.start_row.new.found c.in-Some.leaf c.loop-leaf.rest c.pop.new.self _ _
    c.loop-leaf.parts c.in-Ok-with_parts.longer c.in-Ok.more
    c.in-Some.ensures c.in-Ok.ensures c.in-Ok-with_parts.ensures c.loop-leaf.invariant
