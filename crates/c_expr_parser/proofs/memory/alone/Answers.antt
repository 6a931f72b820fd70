-- `alone` puts its item behind none, in the room for one.
-- Where there is no room, memory is wanting.
use Rattle.std.proofs.Common.{◌≡◌, [], arith}
use Rattle.std.proofs.lemmas.Grind.{common_steps}
use Rattle.c_expr_parser.proofs.memory.alone.Goals as goal

pub returns-in-Ok : goal.returns-in-Ok
returns-in-Ok g c = let none : c.from_vec.result ≡ [] = grind (arith, common_steps) in rw none at c.appended.ensures
