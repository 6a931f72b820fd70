-- The invariant of `parameters`.
-- What is declared so far is that of the parameters so far.
use Rattle.std.proofs.Common.{map, take}
use Rattle.c_tree.specs.Levels.Names.{in_row}
use Rattle.c_tree.specs.Levels.Trees as level
use Rattle.c_unit_parser.specs.Declares.{Puts}
use Rattle.c_unit_parser.proofs.declares.parameters.Given as goal

abbrev pub invariant-loop-one : goal.invariant-loop-one
invariant-loop-one l = Puts (in_row (map level.parameter_level (take l.one-index l.all))) l.fn.names l.names
