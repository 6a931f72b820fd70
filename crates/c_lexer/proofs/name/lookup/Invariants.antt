use Rattle.std.proofs.Common.{◌≡◌, length, map}
use Rattle.c_lexer.specs.Fronts.{lookup}
use Rattle.c_lexer.proofs.name.lookup.Given as goal

abbrev pub invariant-entries : goal.invariant-entries
invariant-entries l = lookup (map (λ entry. (entry.0.now, entry.1)) l.rest) l.text ≡ lookup (map (λ entry. (entry.0.now, entry.1)) l.table) l.text

abbrev pub decreases-entries : goal.decreases-entries
decreases-entries l = length l.rest
