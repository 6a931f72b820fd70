use Rattle.std.proofs.Common.{◌≡◌, ◌+◌, length}
use Rattle.c_lexer.specs.Scan.{number_len}
use Rattle.c_lexer.proofs.number.number_len.Given as goal

abbrev pub invariant-number : goal.invariant-number
invariant-number l = (l.length + number_len l.last l.rest ≡ number_len l.fn.last l.bytes) × (l.length + length l.rest ≡ length l.bytes)

abbrev pub decreases-number : goal.decreases-number
decreases-number l = length l.rest
