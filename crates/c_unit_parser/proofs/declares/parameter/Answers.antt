-- `parameter` declares what its specifiers and its declarator do, and then its name.
-- A parameter without a name declares no more.
use Rattle.std.proofs.Common.{Some, None, refl, ap, sym, ◌∙◌}
use Rattle.std.proofs.lemmas.List.{append-nil}
use Rattle.std.proofs.lemmas.Result.{on_ok_weaker}
use Rattle.c_tree.specs.declared.declarator.Parameter.{out-Parameter}
use Rattle.c_tree.specs.Levels.Facts.{names_of}
use Rattle.c_tree.specs.Levels.Trees as level
use Rattle.c_grammar.specs.Read.Nodes.{have_typedef}
use Rattle.c_unit_parser.proofs.Puts.{puts_then, puts_itself}
use Rattle.c_unit_parser.proofs.Declared.{parameter_told}
use Rattle.c_unit_parser.proofs.declares.parameter.Goals as goal

pub returns-in-Some : goal.returns-in-Some
returns-in-Some c = on_ok_weaker c.declare.result
    (λ behind. puts_itself (level.parameter_level c.args.tree.now) (names_of c.have_typedef.result (Some c.in-Some.name.now))
    (parameter_told c.args.tree.now c.as_slice.result.now c.as_slice.ensures c.have_typedef.result (c.have_typedef.ensures ∙ ap have_typedef c.as_slice-in-Some.ensures) (Some c.in-Some.name.now) c.in-Some.ensures)
    (puts_then c.in_ok-specifiers.ensures c.in_ok-declarator.ensures) behind)
    c.declare.ensures

pub returns-in-None : goal.returns-in-None
returns-in-None c = puts_itself (level.parameter_level c.args.tree.now) (names_of (have_typedef (out-Parameter c.args.tree.now).specifiers) None)
    (parameter_told c.args.tree.now c.as_slice.result.now c.as_slice.ensures (have_typedef (out-Parameter c.args.tree.now).specifiers) refl None c.in-None.ensures)
    (puts_then c.in_ok-specifiers.ensures c.in_ok-declarator.ensures) (sym (append-nil c.declarator.new.names))
