-- The kinds of statements and of items of a block, as the grammar names them.
-- The code has enums of its own for them.
use Rattle.c_unit_grammar.specs.Read.Words as spec
use Rattle.c_unit_parser.specs.declared.words.StatementKind.{StatementKind}
use Rattle.c_unit_parser.specs.declared.words.StatementKind.TheVariants as statement
use Rattle.c_unit_parser.specs.declared.words.ItemKind.{ItemKind}
use Rattle.c_unit_parser.specs.declared.words.ItemKind.TheVariants as item

abbrev pub of_statement : StatementKind → spec.StatementKind
of_statement statement.Braced = spec.Braced
of_statement statement.If = spec.Ifs
of_statement statement.While = spec.Whiles
of_statement statement.Do = spec.Does
of_statement statement.For = spec.Fors
of_statement statement.Switch = spec.Switches
of_statement statement.Break = spec.Breaks
of_statement statement.Continue = spec.Continues
of_statement statement.Return = spec.Returns
of_statement statement.Expression = spec.Expressed

abbrev pub of_item : ItemKind → spec.ItemKind
of_item item.Declaration = spec.Declares
of_item item.Case = spec.Cases
of_item item.Default = spec.Defaults
of_item item.Statement = spec.States
