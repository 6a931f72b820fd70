use Rattle.std.proofs.Common.{◌≡◌, ◌^◌, ◌<◌, length}
use Rattle.std.specs.Str.Parse.{digits_value, digits_value_after}
use Rattle.c_lexer.proofs.number.value_of.Given as goal

abbrev pub invariant-digits : goal.invariant-digits
invariant-digits l = (digits_value_after l.base l.value l.rest ≡ digits_value l.base l.digits) × (l.value < 2 ^ 64)

abbrev pub decreases-digits : goal.decreases-digits
decreases-digits l = length l.rest
