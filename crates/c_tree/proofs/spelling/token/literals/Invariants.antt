use Rattle.std.proofs.Common.{◌≡◌, ◌++◌, map, take}
use Rattle.c_tree.specs.Spelling.Tokens.{told, joined, literal_spelling}
use Rattle.c_tree.proofs.spelling.token.literals.Given as goal

abbrev pub invariant-loop-one : goal.invariant-loop-one
invariant-loop-one g l = g.S.Taker.taken l.out ≡ g.S.Taker.taken l.fn.out ++ told g.S.Taker.shown (joined (map literal_spelling (take l.one-index l.all)))
