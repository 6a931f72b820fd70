-- What is read inside a bracket, by how many could be opened with that one.
-- The cursor counts the brackets that may be opened behind one, the grammar those with it.
use Rattle.std.specs.Prelude.{◌≡◌, ℕ, suc, ◌+◌, ◌-◌, ◌<◌, Err}
use Rattle.std.proofs.Common.{ap, arith, add-one}
use Rattle.c_tree.specs.Levels.Productions.{comma}
use Rattle.c_grammar.specs.Input.{State, Nest}
use Rattle.c_grammar.specs.Read.Depth.{inside, expression}

pub no_expression : (more : ℕ) (i : State) → more ≡ 0 → (inside more).expr comma i ≡ Err (Nest, i.1)
unfolding inside
no_expression more i none = ap (λ n. (inside n).expr comma i) none

pub expression_inside : (more : ℕ) (i : State) → 0 < more → (inside more).expr comma i ≡ expression (more - 1) comma i
unfolding expression
expression_inside more i some = let e : more ≡ suc (more - 1) = omega arith in ap (λ n. (inside n).expr comma i) e

pub behind_bracket : (more : ℕ) → (inside (more + 1)).expr comma ≡ expression more comma
unfolding expression
behind_bracket more = ap (λ n. (inside n).expr comma) (add-one more)
