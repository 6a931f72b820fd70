use Rattle.std.proofs.Common.{◌≡◌, length}
use Rattle.c_lexer.specs.WhiteSpace.{past_blanks}
use Rattle.c_lexer.proofs.gap.past_blanks.Given as goal

abbrev pub invariant-blanks : goal.invariant-blanks
invariant-blanks l = past_blanks l.rest ≡ past_blanks l.bytes

abbrev pub decreases-blanks : goal.decreases-blanks
decreases-blanks l = length l.rest
