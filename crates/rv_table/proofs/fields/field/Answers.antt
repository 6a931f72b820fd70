-- The bits fit into a word.
use Rattle.std.proofs.Common.{arith}
use Rattle.rv_table.specs.Laws.Masks.{field_is}
use Rattle.rv_table.proofs.fields.field.Goals as goal

pub returns : goal.returns
returns g c = field_is c.args.word g.row.LOW g.row.COUNT (omega arith)
