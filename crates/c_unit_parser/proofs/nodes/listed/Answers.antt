-- `listed` tells of a suffix what the levels of the grammar tell.
-- One goal for each kind of suffix.
use Rattle.std.proofs.Common.{arith}
use Rattle.std.proofs.lemmas.Grind.{common_steps}
use Rattle.c_tree.specs.Levels.Trees.{declarator_suffix_level-Array, declarator_suffix_level-ArrayOf, declarator_suffix_level-Empty, declarator_suffix_level-Void, declarator_suffix_level-Parameters}
use Rattle.c_unit_parser.proofs.nodes.listed.Goals as goal

pub returns-in-Array : goal.returns-in-Array
returns-in-Array c = λ names. grind (arith, common_steps, declarator_suffix_level-Array, declarator_suffix_level-ArrayOf)

pub returns-in-Empty : goal.returns-in-Empty
returns-in-Empty c = λ names. (names, grind (arith, common_steps, declarator_suffix_level-Empty, declarator_suffix_level-Void))

pub returns-in-Parameters : goal.returns-in-Parameters
returns-in-Parameters c = λ names. (names, rw (c.in-Parameters.is, declarator_suffix_level-Parameters, c.as_slice.ensures))
