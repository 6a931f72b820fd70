-- `initials_row` of src/values.rt: what the check leaves open of its proof.
-- The pieces in order, all of them where nothing is wrong with any.
use Rattle.c_type_initialisers.proofs.Loops.{initials_turn}
use Rattle.c_type_initialisers.proofs.values.initials_row.Goals as goal

pub loop-leaf-preserved : goal.loop-leaf-preserved
loop-leaf-preserved c =
    initials_turn c.args.around.now c.loop-leaf.found c.initial_row.new.found c.in-Some.leaf c.loop-leaf.rest c.pop.new.self _ _
    c.loop-leaf.initials c.in-Ok-with_initial.longer c.in-Ok.initial
    c.in-Some.ensures c.in-Ok.ensures c.in-Ok-with_initial.ensures c.loop-leaf.invariant
