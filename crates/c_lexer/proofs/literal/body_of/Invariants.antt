use Rattle.std.proofs.Common.{◌≡◌, ◌+◌, ◌<◌, ◌^◌, length}
use Rattle.c_lexer.specs.Literals.{elements_from}
use Rattle.c_lexer.specs.Scan.{body_from, body_of}
use Rattle.c_lexer.proofs.literal.body_of.Given as goal

abbrev pub invariant-elements : goal.invariant-elements
invariant-elements l =
    (body_from l.universal l.values.items (elements_from 0 l.at l.rest) ≡ body_of (elements_from 0 l.fn.at l.inside)) × (l.at + length l.rest < 2 ^ 64)

abbrev pub decreases-elements : goal.decreases-elements
decreases-elements l = length l.rest
