use Rattle.std.proofs.Common.{◌≡◌, ◌+◌, ◌≤◌, drop}
use Rattle.c_lexer.specs.Tokens.{place_after}
use Rattle.c_lexer.proofs.place.place_after.Given as goal

abbrev pub invariant-loop-b : goal.invariant-loop-b
invariant-loop-b l =
    (place_after l.place (drop l.b-index l.bytes) ≡ place_after l.fn.place l.bytes) × (l.place.line ≤ l.fn.place.line + l.b-index) × (l.place.column ≤ l.fn.place.column + l.b-index)
