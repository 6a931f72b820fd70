-- `declared_name` gives the name that the levels of the grammar give.
-- One goal for each kind of middle.
use Rattle.std.proofs.Common.{rules, arith}
use Rattle.std.proofs.lemmas.Grind.{common_steps}
use Rattle.c_expr_parser.proofs.Names.{name_of_nothing, name_of_named, name_of_grouped}
use Rattle.c_expr_parser.proofs.nodes.+declared_name.Goals as goal

pub returns-in-Nothing : goal.returns-in-Nothing
returns-in-Nothing t c = λ names. let e = name_of_nothing c.args.tree.now names in first_of (search (rules, e), grind (arith, common_steps, e))

pub returns-in-Named : goal.returns-in-Named
returns-in-Named t c = λ names. let e = name_of_named c.args.tree.now in first_of (search (rules, e), grind (arith, common_steps, e))

pub returns-in-Grouped : goal.returns-in-Grouped
returns-in-Grouped t c = λ names. let e = name_of_grouped c.args.tree.now in let h = c.declared_name.ensures names in first_of (search (rules, h, e), grind (arith, common_steps, h, e))
