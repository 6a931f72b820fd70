-- What is meant of a tree that stands inside another: the walk of the definition, by the kind of the tree.
-- Each walk of this crate requires it, by `Nests`, of the function value that it goes into trees by.
use Rattle.std.specs.Prelude.{Result, Ok, Err, map}
use Rattle.word_ops.specs.declared.memory.Memory.{Memory}
use Rattle.c_typing.specs.Declarators.{specifiers_row}
use Rattle.c_typing.specs.Trees.{expr_typing, specifier_typing, declarator_typing}
use Rattle.c_type_walk.specs.declared.around.Around.{Around}
use Rattle.c_type_walk.specs.declared.found.Found.{Found}
use Rattle.c_type_walk.specs.Walks.{Gave, fixed}
use Rattle.c_type_trees.specs.declared.nested.Tree.{Tree}
use Rattle.c_type_trees.specs.declared.nested.Tree.TheVariants as tree
use Rattle.c_type_trees.specs.declared.nested.Typed.{Typed}
use Rattle.c_type_trees.specs.declared.nested.Typed.TheVariants as typed

-- what is typed is what the walk of the tree gives
abbrev pub Comes : Tree → Around → Found → Typed → Found → Type 0
Comes (tree.Expression e) c old (typed.Operand o) new = Gave ((expr_typing e.now).typed (fixed c) old.state) old new o
Comes (tree.Specifiers alone ss) c old (typed.Basis b) new = Gave (specifiers_row alone (map specifier_typing ss.now) (fixed c) old.state) old new b
Comes (tree.Declarator defining d) c old (typed.Parts ps) new = Gave ((declarator_typing d.now).parts defining (fixed c) old.state) old new ps
Comes t c old v new = ⊥

-- unless memory is wanting
abbrev pub WalksTree : Tree → Around → Found → Result Typed Memory → Found → Type 0
WalksTree t c old (Ok v) new = Comes t c old v new
WalksTree t c old (Err e) new = Unit {0}
