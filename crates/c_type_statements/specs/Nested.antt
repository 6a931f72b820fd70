-- What is meant of a statement that stands inside another: the walk of the definition.
-- Each walk of this crate requires it, by `Nests`, of the function value that it goes into statements by.
use Rattle.std.specs.Prelude.{Option, Result}
use Rattle.std.specs.Borrow.{Bor}
use Rattle.word_ops.specs.declared.memory.Memory.{Memory}
use Rattle.c_tree.specs.declared.statement.Stmt.{Stmt}
use Rattle.c_tree.specs.declared.typed.statement.TStmt.{TStmt}
use Rattle.c_typing.specs.Statements.{stmt_typing}
use Rattle.c_type_walk.specs.declared.around.Around.{Around}
use Rattle.c_type_walk.specs.declared.found.Found.{Found}
use Rattle.c_type_walk.specs.Walks.{Walks}

abbrev pub WalksStmt : Bor Stmt → Around → Found → Result (Option TStmt) Memory → Found → Type 0
WalksStmt tree c old r new = Walks (stmt_typing tree.now) c old r new
