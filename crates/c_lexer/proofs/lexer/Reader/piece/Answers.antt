use Rattle.std.proofs.Common.{sym}
use Rattle.c_lexer.proofs.Pieces.{gap_same}
use Rattle.c_lexer.proofs.lexer.Reader.piece.Goals as goal

pub returns-then-gap-gt0-clause-ok : goal.returns-then-gap-gt0-clause-ok
returns-then-gap-gt0-clause-ok c =
    gap_same c.args.self.now c.args.place c.args.rest.now c.gap_len-gap.result (sym c.gap_len-gap.ensures.value) c.if-gap-gt0.true c.gap_len-gap.ensures.within
