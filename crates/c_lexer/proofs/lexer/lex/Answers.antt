use Rattle.std.proofs.Common.{◌∙◌, rules, arith}
use Rattle.std.proofs.lemmas.List.{take_rest}
use Rattle.c_lexer.specs.Tokens.{tokens_of}
use Rattle.c_lexer.proofs.Pieces.{outcome_start, advanced, finished, ok_outcome, err_outcome}
use Rattle.c_lexer.proofs.lexer.lex.Goals as goal

pub pieces-init : goal.pieces-init
pieces-init c =
    (outcome_start c.new-reader.result c.args.bytes.now c.new-reader.ensures.list c.new-reader.ensures.left_out c.new-reader.ensures.after_long, omega arith, omega arith)

pub pieces-preserved : goal.pieces-preserved
pieces-preserved c =
    let next = advanced c.pieces.reader c.piece.new.self c.pieces.place c.place_after-place.result c.pieces.rest.now c.args.bytes.now c.in_ok-length.length c.in_ok-length.ensures.ok c.place_after-place.ensures.value c.pieces.invariant.0 in
    (rw (take_rest c.pieces.rest.now c.in_ok-length.length) next, search rules, search rules)

pub returns-clause-tokens : goal.returns-clause-tokens
returns-clause-tokens c =
    ok_outcome c.finish.result (tokens_of c.args.bytes.now) (c.finish.ensures ∙ finished c.pieces.reader c.pieces.place c.pieces.rest.now c.args.bytes.now (search rules) c.pieces.invariant.0)

pub returns-clause-refused : goal.returns-clause-refused
returns-clause-refused c =
    err_outcome c.finish.result (tokens_of c.args.bytes.now) (c.finish.ensures ∙ finished c.pieces.reader c.pieces.place c.pieces.rest.now c.args.bytes.now (search rules) c.pieces.invariant.0)
