use Rattle.std.proofs.Common.{◌≡◌, ◌++◌, map, take}
use Rattle.c_tree.specs.Spelling.Tokens.{told, joined}
use Rattle.c_tree.specs.Spelling.Initialisers.{initialiser_item_spelling}
use Rattle.c_tree.proofs.spelling.declaration.+spelling.Given as goal

abbrev pub invariant-initialiser_items-loop-one : goal.invariant-initialiser_items-loop-one
invariant-initialiser_items-loop-one g l = g.S.Taker.taken l.out ≡ g.S.Taker.taken l.fn.out ++ told g.S.Taker.shown (joined (map initialiser_item_spelling (take l.one-index l.all)))
