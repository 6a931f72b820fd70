use Rattle.std.proofs.Common.{◌≡◌, ◌++◌, map, take}
use Rattle.c_tree.specs.Spelling.Tokens.{told, joined}
use Rattle.c_tree.specs.Spelling.Units.{external_spelling}
use Rattle.c_tree.proofs.spelling.unit.externals.Given as goal

abbrev pub invariant-loop-one : goal.invariant-loop-one
invariant-loop-one g l = g.S.Taker.taken l.out ≡ g.S.Taker.taken l.fn.out ++ told g.S.Taker.shown (joined (map external_spelling (take l.one-index l.all)))
