-- Marks of the names.
-- A scope that ends goes back to its mark, and each older mark stays good.
use Rattle.std.specs.Prelude.{◌≡◌, ℕ, ◌≤◌, length}
use Rattle.std.proofs.Common.{ap, sym, subst, arith}
use Rattle.std.proofs.lemmas.List.{length-take}
use Rattle.scope_map.specs.Scopes.{Marked}
use Rattle.c_tree.specs.Levels.Names.{Names}
use Rattle.c_grammar.specs.Input.{State}
use Rattle.c_expr_parser.specs.Reads.{Keeps}

pub mark_is_in : (now : Names) (mark : ℕ) (at : Names) → Marked now mark at → mark ≤ length now
mark_is_in now mark at m = let made : mark ≡ length at = m.made in omega (arith, ap length m.kept, length-take mark now)

-- where the names are the old ones again
pub kept_back : (old new : State) → new.0 ≡ old.0 → Keeps old new
kept_back old new same = λ mark at m. subst (λ (names : Names). Marked names mark at) (sym same) m
