-- `pushed` puts its item behind those that are there.
-- Behind none it stands alone.
use Rattle.std.proofs.Common.{◌≡◌, [], arith}
use Rattle.std.proofs.lemmas.Grind.{common_steps}
use Rattle.c_expr_parser.proofs.memory.pushed.Goals as goal

pub returns-then-is_empty : goal.returns-then-is_empty
returns-then-is_empty g c = let none : c.args.list ≡ [] = grind (arith, common_steps) in rw none c.alone.ensures
