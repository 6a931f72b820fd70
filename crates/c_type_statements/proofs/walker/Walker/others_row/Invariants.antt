-- `others_row` of src/ifs.rt: what holds in its loop.
-- The branches behind the first one, and what is done where no condition holds.
use Rattle.std.proofs.Common.{drop, map}
use Rattle.c_typing.specs.OfStatements as spec
use Rattle.c_typing.specs.Statements.{else_typing}
use Rattle.c_type_walk.specs.Walks.{fixed}
use Rattle.c_type_statements.proofs.Elses.{ElsesLeft}
use Rattle.c_type_statements.proofs.walker.Walker.others_row.Given as goal

abbrev pub invariant-loop-one : goal.invariant-loop-one
invariant-loop-one g l =
    ElsesLeft (spec.others_row (map else_typing l.others)) (fixed l.around) (spec.others_row (map else_typing (drop l.one-index l.others)))
    (fixed l.within) l.initial.found l.found l.branches l.opened
