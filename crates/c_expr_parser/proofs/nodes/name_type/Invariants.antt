-- The invariant of `name_type`: no specifier so far names a type.
-- So the answer for all is that for those that are left.
use Rattle.std.proofs.Common.{◌≡◌, drop}
use Rattle.c_grammar.specs.Read.Nodes as spec
use Rattle.c_expr_parser.proofs.nodes.name_type.Given as goal

abbrev pub invariant-loop-specifier : goal.invariant-loop-specifier
invariant-loop-specifier l = spec.name_type l.specifiers ≡ spec.name_type (drop l.specifier-index l.specifiers)
