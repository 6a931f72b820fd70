-- The invariants of the lists in the walk over trees, and the measures of its functions.
-- What is declared so far is that of the items so far.
use Rattle.std.proofs.Common.{map, take}
use Rattle.c_tree.specs.Levels.Names.{in_row}
use Rattle.c_tree.specs.Levels.Trees as level
use Rattle.c_unit_parser.specs.Declares.{Puts}
use Rattle.c_unit_parser.proofs.declares.+declares.Given as goal

abbrev pub invariant-suffixes-loop-one : goal.invariant-suffixes-loop-one
invariant-suffixes-loop-one l = Puts (in_row (map level.suffix_level (take l.one-index l.all))) l.fn.names l.names

abbrev pub invariant-prefixes-loop-one : goal.invariant-prefixes-loop-one
invariant-prefixes-loop-one l = Puts (in_row (map level.prefix_level (take l.one-index l.all))) l.fn.names l.names

abbrev pub invariant-nexts-loop-one : goal.invariant-nexts-loop-one
invariant-nexts-loop-one l = Puts (in_row (map level.next_level (take l.one-index l.all))) l.fn.names l.names

abbrev pub invariant-branches-loop-one : goal.invariant-branches-loop-one
invariant-branches-loop-one l = Puts (in_row (map level.branch_level (take l.one-index l.all))) l.fn.names l.names

abbrev pub invariant-specifiers-loop-one : goal.invariant-specifiers-loop-one
invariant-specifiers-loop-one l = Puts (in_row (map level.specifier_level (take l.one-index l.all))) l.fn.names l.names

abbrev pub invariant-members-loop-one : goal.invariant-members-loop-one
invariant-members-loop-one l = Puts (in_row (map level.member_level (take l.one-index l.all))) l.fn.names l.names

abbrev pub invariant-member_declarators-loop-one : goal.invariant-member_declarators-loop-one
invariant-member_declarators-loop-one l = Puts (in_row (map level.member_declarator_level (take l.one-index l.all))) l.fn.names l.names

abbrev pub invariant-enumerators-loop-one : goal.invariant-enumerators-loop-one
invariant-enumerators-loop-one l = Puts (in_row (map level.enumerator_level (take l.one-index l.all))) l.fn.names l.names

abbrev pub invariant-declarator_suffixes-loop-one : goal.invariant-declarator_suffixes-loop-one
invariant-declarator_suffixes-loop-one l = Puts (in_row (map level.declarator_suffix_level (take l.one-index l.all))) l.fn.names l.names
