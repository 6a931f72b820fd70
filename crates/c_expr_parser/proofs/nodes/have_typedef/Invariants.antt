-- The invariant of `have_typedef`: no specifier so far is `typedef`.
-- So the answer for all is that for those that are left.
use Rattle.std.proofs.Common.{◌≡◌, drop}
use Rattle.c_grammar.specs.Read.Nodes as spec
use Rattle.c_expr_parser.proofs.nodes.have_typedef.Given as goal

abbrev pub invariant-loop-specifier : goal.invariant-loop-specifier
invariant-loop-specifier l = spec.have_typedef l.specifiers ≡ spec.have_typedef (drop l.specifier-index l.specifiers)
