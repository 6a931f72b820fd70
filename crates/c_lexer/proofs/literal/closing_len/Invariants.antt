use Rattle.std.proofs.Common.{◌≡◌, ◌+◌, length, false}
use Rattle.c_lexer.specs.Scan.{beyond, closing_len}
use Rattle.c_lexer.proofs.literal.closing_len.Given as goal

abbrev pub invariant-inside : goal.invariant-inside
invariant-inside l =
    (beyond l.length (closing_len l.quote l.after_backslash l.rest) ≡ closing_len l.quote false l.bytes) × (l.length + length l.rest ≡ length l.bytes)

abbrev pub decreases-inside : goal.decreases-inside
decreases-inside l = length l.rest
