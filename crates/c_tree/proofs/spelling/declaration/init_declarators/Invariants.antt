use Rattle.std.proofs.Common.{◌≡◌, ◌++◌, map, take}
use Rattle.c_tree.specs.Spelling.Tokens.{told, joined}
use Rattle.c_tree.specs.Spelling.Declarations.{init_declarator_spelling}
use Rattle.c_tree.proofs.spelling.declaration.init_declarators.Given as goal

abbrev pub invariant-loop-one : goal.invariant-loop-one
invariant-loop-one g l = g.S.Taker.taken l.out ≡ g.S.Taker.taken l.fn.out ++ told g.S.Taker.shown (joined (map init_declarator_spelling (take l.one-index l.all)))
