-- `nested_expression` reads what the grammar reads inside a bracket.
-- With none to be opened it stops, and else reads with one fewer.
use Rattle.std.proofs.Common.{arith, rules}
use Rattle.std.proofs.lemmas.Grind.{common_steps}
use Rattle.c_unit_parser.proofs.Depth.{no_expression, expression_inside}
use Rattle.c_unit_parser.proofs.cursor.Cursor.nested_expression.Goals as goal

pub returns-then-more-eq0-clause-reads : goal.returns-then-more-eq0-clause-reads
returns-then-more-eq0-clause-reads c =
    let e = no_expression c.args.more c.args.self.now.state (omega arith) in
    first_of (search (rules, e), grind (arith, common_steps, e))

pub returns-clause-reads : goal.returns-clause-reads
returns-clause-reads c = let e = expression_inside c.args.more c.args.self.now.state (omega arith) in rw e c.expression.ensures.reads
