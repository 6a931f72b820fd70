use Rattle.std.proofs.Common.{◌≡◌, ◌++◌, map, take}
use Rattle.c_tree.specs.Spelling.Tokens.{told, joined}
use Rattle.c_tree.specs.Spelling.Trees.{suffix_spelling, prefix_spelling, specifier_spelling, enumerator_spelling, declarator_suffix_spelling, next_spelling, branch_spelling, member_spelling, member_declarator_spelling, parameter_spelling}
use Rattle.c_tree.proofs.spelling.tree.+spelling.Given as goal

abbrev pub invariant-suffixes-loop-one : goal.invariant-suffixes-loop-one
invariant-suffixes-loop-one g l = g.S.Taker.taken l.out ≡ g.S.Taker.taken l.fn.out ++ told g.S.Taker.shown (joined (map suffix_spelling (take l.one-index l.all)))

abbrev pub invariant-prefixes-loop-one : goal.invariant-prefixes-loop-one
invariant-prefixes-loop-one g l = g.S.Taker.taken l.out ≡ g.S.Taker.taken l.fn.out ++ told g.S.Taker.shown (joined (map prefix_spelling (take l.one-index l.all)))

abbrev pub invariant-specifiers-loop-one : goal.invariant-specifiers-loop-one
invariant-specifiers-loop-one g l = g.S.Taker.taken l.out ≡ g.S.Taker.taken l.fn.out ++ told g.S.Taker.shown (joined (map specifier_spelling (take l.one-index l.all)))

abbrev pub invariant-enumerators-loop-one : goal.invariant-enumerators-loop-one
invariant-enumerators-loop-one g l = g.S.Taker.taken l.out ≡ g.S.Taker.taken l.fn.out ++ told g.S.Taker.shown (joined (map enumerator_spelling (take l.one-index l.all)))

abbrev pub invariant-declarator_suffixes-loop-one : goal.invariant-declarator_suffixes-loop-one
invariant-declarator_suffixes-loop-one g l = g.S.Taker.taken l.out ≡ g.S.Taker.taken l.fn.out ++ told g.S.Taker.shown (joined (map declarator_suffix_spelling (take l.one-index l.all)))

abbrev pub invariant-nexts-loop-one : goal.invariant-nexts-loop-one
invariant-nexts-loop-one g l = g.S.Taker.taken l.out ≡ g.S.Taker.taken l.fn.out ++ told g.S.Taker.shown (joined (map next_spelling (take l.one-index l.all)))

abbrev pub invariant-branches-loop-one : goal.invariant-branches-loop-one
invariant-branches-loop-one g l = g.S.Taker.taken l.out ≡ g.S.Taker.taken l.fn.out ++ told g.S.Taker.shown (joined (map branch_spelling (take l.one-index l.all)))

abbrev pub invariant-members-loop-one : goal.invariant-members-loop-one
invariant-members-loop-one g l = g.S.Taker.taken l.out ≡ g.S.Taker.taken l.fn.out ++ told g.S.Taker.shown (joined (map member_spelling (take l.one-index l.all)))

abbrev pub invariant-member_declarators-loop-one : goal.invariant-member_declarators-loop-one
invariant-member_declarators-loop-one g l = g.S.Taker.taken l.out ≡ g.S.Taker.taken l.fn.out ++ told g.S.Taker.shown (joined (map member_declarator_spelling (take l.one-index l.all)))

abbrev pub invariant-parameters-loop-one : goal.invariant-parameters-loop-one
invariant-parameters-loop-one g l = g.S.Taker.taken l.out ≡ g.S.Taker.taken l.fn.out ++ told g.S.Taker.shown (joined (map parameter_spelling (take l.one-index l.all)))
