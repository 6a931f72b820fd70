use Rattle.std.proofs.Common.{◌≡◌, ◌+◌, length, false}
use Rattle.c_lexer.specs.Scan.{beyond, comment_len}
use Rattle.c_lexer.proofs.gap.comment_len.Given as goal

abbrev pub invariant-inside : goal.invariant-inside
invariant-inside l = (beyond l.length (comment_len l.after_star l.rest) ≡ comment_len false l.bytes) × (l.length + length l.rest ≡ length l.bytes)

abbrev pub decreases-inside : goal.decreases-inside
decreases-inside l = length l.rest
