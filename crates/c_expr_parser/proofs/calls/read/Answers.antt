-- `read` gives what is read from its place on, with the place behind it.
-- No more tokens are left than there were, so that place is their difference.
use Rattle.std.proofs.Common.{◌≡◌, suc, ◌+◌, ◌-◌, length, drop, Option, Ok, Err, ◌∙◌, ap, arith, add-one, length-drop}
use Rattle.std.proofs.lemmas.Grind.{common_steps}
use Rattle.c_tree.specs.declared.token.Pos.{Pos}
use Rattle.c_tree.specs.Levelled.{nesting_limit}
use Rattle.c_grammar.specs.Read.Depth as grammar
use Rattle.c_expr_parser.specs.Reads.{Reads}
use Rattle.c_expr_parser.specs.Wanted.{read}
use Rattle.c_expr_parser.specs.Calls as call
use Rattle.c_expr_parser.proofs.AtFront.{left_there, gave_there, stopped_there}
use Rattle.c_expr_parser.proofs.calls.read.Goals as goal

pub overflow_sub-result : goal.overflow_sub-result
overflow_sub-result c =
    let from : c.new-input.result ≡ (c.args.names.now, drop c.args.at c.args.tokens.now.list) = grind (arith, common_steps) in
    let reads : read (grammar.inside (suc (nesting_limit - c.args.depth))) c.args.wanted c.new-input.result ≡ Ok (c.in-Ok.found, c.inside-found.new.input) = rw (add-one) at c.in-Ok.ensures.reads in
    let left = left_there c.args.depth c.args.wanted c.args.names.now c.into_names.result c.args.tokens.now.list c.args.at c.new-input.result c.inside-found.new.input from c.into_names.ensures c.in-Ok.found reads in
    omega (arith, left, length-drop c.args.at c.args.tokens.now.list)

pub returns-in-Ok : goal.returns-in-Ok
returns-in-Ok c =
    let from : c.new-input.result ≡ (c.args.names.now, drop c.args.at c.args.tokens.now.list) = grind (arith, common_steps) in
    let reads : read (grammar.inside (suc (nesting_limit - c.args.depth))) c.args.wanted c.new-input.result ≡ Ok (c.in-Ok.found, c.inside-found.new.input) = rw (add-one) at c.in-Ok.ensures.reads in
    let left = left_there c.args.depth c.args.wanted c.args.names.now c.into_names.result c.args.tokens.now.list c.args.at c.new-input.result c.inside-found.new.input from c.into_names.ensures c.in-Ok.found reads in
    let place : c.len.result - c.left-left.result + length c.inside-found.new.input.1 ≡ length c.args.tokens.now.list = omega (arith, left, length-drop c.args.at c.args.tokens.now.list) in
    gave_there c.args.depth c.args.wanted c.args.names.now c.into_names.result c.args.tokens.now.list c.args.at c.new-input.result c.inside-found.new.input from c.into_names.ensures c.in-Ok.found (c.len.result - c.left-left.result) reads place

pub returns-in-Err : goal.returns-in-Err
returns-in-Err c =
    let from : c.new-input.result ≡ (c.args.names.now, drop c.args.at c.args.tokens.now.list) = grind (arith, common_steps) in
    let reads : Reads (read (grammar.inside (suc (nesting_limit - c.args.depth))) c.args.wanted c.new-input.result) (Err c.in-Err.stop) c.inside-found.new.input = rw (add-one) at c.in-Err.ensures.reads in
    stopped_there c.args.depth c.args.wanted c.args.names.now c.into_names.result c.args.tokens.now.list c.args.at c.new-input.result c.inside-found.new.input from c.into_names.ensures c.in-Err.stop c.args.tokens.now.end c.fault_at.result
    reads c.in-Err.ensures.keeps (c.fault_at.ensures ∙ ap (λ (place : Option Pos). call.fault_of c.in-Err.stop (call.place_or place c.args.tokens.now.end)) c.place-place.ensures)
