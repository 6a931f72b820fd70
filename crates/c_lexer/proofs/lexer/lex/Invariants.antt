use Rattle.std.proofs.Common.{◌≡◌, ◌+◌, ◌<◌, ◌^◌, length}
use Rattle.c_lexer.specs.Tokens.{place_after, pieces_from, tokens_of}
use Rattle.c_lexer.specs.Scan.{outcome_from}
use Rattle.c_lexer.proofs.lexer.lex.Given as goal

abbrev pub invariant-pieces : goal.invariant-pieces
invariant-pieces l =
    (outcome_from l.reader (pieces_from 0 l.place l.rest) (place_after l.place l.rest) ≡ tokens_of l.bytes)
    × (l.place.line + length l.rest < 2 ^ 32)
    × (l.place.column + length l.rest < 2 ^ 32)

abbrev pub decreases-pieces : goal.decreases-pieces
decreases-pieces l = length l.rest
