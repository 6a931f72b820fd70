-- `read_declarator` unwraps what was read, which is a declarator.
-- A refusal is that of the production.
use Rattle.std.proofs.Common.{suc, ◌-◌, subst, rules, arith}
use Rattle.std.proofs.lemmas.Grind.{common_steps}
use Rattle.c_tree.specs.Levelled.{nesting_limit}
use Rattle.c_grammar.specs.Read.Depth as grammar
use Rattle.c_expr_parser.specs.declared.wanted.Wanted.TheVariants as wanted
use Rattle.c_expr_parser.specs.declared.wanted.Found.{Found}
use Rattle.c_expr_parser.specs.declared.wanted.Found.TheVariants as found
use Rattle.c_expr_parser.specs.Numbers.{use_of}
use Rattle.c_expr_parser.specs.Wanted.{read}
use Rattle.c_expr_parser.specs.Calls as call
use Rattle.c_expr_parser.proofs.AtFront.{wrapped_declarator, gave, stopped, same_declarators}
use Rattle.c_expr_parser.proofs.calls.read_declarator.Goals as goal

pub returns-in_err-found : goal.returns-in_err-found
returns-in_err-found c =
    let k : call.Stopped (grammar.declarator (nesting_limit - c.args.depth) (use_of c.args.purpose) c.args.typed) c.args.names.now c.read.new.names c.args.tokens.now.list c.args.at c.args.tokens.now.end c.in_err-found.field-0.0 = stopped found.Declarator (read (grammar.inside (suc (nesting_limit - c.args.depth))) (wanted.Declarator c.args.purpose c.args.typed)) (grammar.declarator (nesting_limit - c.args.depth) (use_of c.args.purpose) c.args.typed) (wrapped_declarator (nesting_limit - c.args.depth) c.args.purpose c.args.typed) c.args.names.now c.read.new.names c.args.tokens.now.list c.args.at c.args.tokens.now.end c.in_err-found.field-0.0 c.in_err-found.ensures in
    first_of (search rules, grind (arith, common_steps))

pub returns : goal.returns
returns c =
    gave found.Declarator (read (grammar.inside (suc (nesting_limit - c.args.depth))) (wanted.Declarator c.args.purpose c.args.typed)) (grammar.declarator (nesting_limit - c.args.depth) (use_of c.args.purpose) c.args.typed) (wrapped_declarator (nesting_limit - c.args.depth) c.args.purpose c.args.typed) c.args.names.now c.read.new.names c.args.tokens.now.list c.args.at same_declarators c.in_ok-found.behind c.in-Declarator.tree (subst (λ (x : Found). call.Gave (read (grammar.inside (suc (nesting_limit - c.args.depth))) (wanted.Declarator c.args.purpose c.args.typed)) c.args.names.now c.read.new.names c.args.tokens.now.list c.args.at c.in_ok-found.behind x) c.in-Declarator.is c.in_ok-found.ensures)
