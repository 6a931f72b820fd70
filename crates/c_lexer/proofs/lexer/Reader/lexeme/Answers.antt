use Rattle.std.proofs.Common.{sym, ◌∙◌, subst, length, take}
use Rattle.std.proofs.lemmas.List.{length-take-le}
use Rattle.std.proofs.lemmas.Result.{err_from_is_err_and}
use Rattle.c_lexer.specs.Scan.{Suits, IsWithin}
use Rattle.c_lexer.proofs.Bad.{reading_within}
use Rattle.c_lexer.proofs.Pieces.{stray_outcome, token_same, fault_outcome}
use Rattle.c_lexer.proofs.lexer.Reader.lexeme.Goals as goal

pub returns-in_default-clause-err : goal.returns-in_default-clause-err
returns-in_default-clause-err c =
    stray_outcome c.args.self.now c.args.place c.args.rest.now c.requires.no_gap c.requires.some (sym c.lexeme.ensures.value ∙ c.in_default.is)

pub keep-requires-clause-within : goal.keep-requires-clause-within
keep-requires-clause-within c =
    let text = take c.in-Some.length c.args.rest.now in
    let long = length-take-le c.in-Some.length c.args.rest.now c.in-Some.ensures.within.1 in
    let suits = subst (Suits c.in-Some.form) (sym long) c.in-Some.ensures.suits in
    subst (IsWithin (length text)) (sym c.in_ok-reading.ensures) (reading_within c.in-Some.form text suits)

pub returns-in_err-keep-clause-err : goal.returns-in_err-keep-clause-err
returns-in_err-keep-clause-err c =
    let p = err_from_is_err_and c.from_residual-in_err-keep.result c.from_residual-in_err-keep.ensures.1 in
    let found = sym c.lexeme.ensures.value ∙ c.in-Some.is in
    rw (p.1, p.2) (fault_outcome c.args.self.now c.args.place c.args.rest.now c.in-Some.form c.in-Some.length c.requires.no_gap found c.in_ok-reading.reading c.in_ok-reading.ensures _ c.in_err-keep.ensures.err)

pub returns-clause-ok : goal.returns-clause-ok
returns-clause-ok c =
    let found = sym c.lexeme.ensures.value ∙ c.in-Some.is in
    token_same c.args.self.now c.keep.new.self c.args.place c.args.rest.now c.in-Some.form c.in-Some.length c.requires.no_gap found c.in_ok-reading.reading c.in_ok-reading.ensures c.in_ok-keep.ensures.ok c.in_ok-keep.ensures.good
