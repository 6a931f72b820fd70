-- `level_at` gives the level that stands at the index in the list of levels.
-- All past the list are the loosest.
use Rattle.std.proofs.Common.{◌≤◌, length, arith, sym}
use Rattle.std.proofs.lemmas.List.{get_or_past}
use Rattle.c_tree.specs.declared.expression.Level.TheVariants as level
use Rattle.c_expr_parser.specs.Parts.{tighter}
use Rattle.c_expr_parser.proofs.operators.level_at.Goals as goal

pub returns-in_default : goal.returns-in_default
returns-in_default c =
    let past : length tighter ≤ c.args.index = omega arith in
    sym (get_or_past tighter c.args.index level.Or past)
