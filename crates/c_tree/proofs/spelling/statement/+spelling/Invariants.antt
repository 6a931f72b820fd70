use Rattle.std.proofs.Common.{◌≡◌, ◌++◌, map, take}
use Rattle.c_tree.specs.Spelling.Tokens.{told, joined}
use Rattle.c_tree.specs.Spelling.Statements.{else_spelling, block_item_spelling}
use Rattle.c_tree.proofs.spelling.statement.+spelling.Given as goal

abbrev pub invariant-elses-loop-one : goal.invariant-elses-loop-one
invariant-elses-loop-one g l = g.S.Taker.taken l.out ≡ g.S.Taker.taken l.fn.out ++ told g.S.Taker.shown (joined (map else_spelling (take l.one-index l.all)))

abbrev pub invariant-block_items-loop-one : goal.invariant-block_items-loop-one
invariant-block_items-loop-one g l = g.S.Taker.taken l.out ≡ g.S.Taker.taken l.fn.out ++ told g.S.Taker.shown (joined (map block_item_spelling (take l.one-index l.all)))
