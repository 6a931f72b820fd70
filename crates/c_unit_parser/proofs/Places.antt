-- The tokens from a place on.
-- One token is gone behind, or none where the tokens end.
use Rattle.std.specs.Prelude.{◌≡◌, ℕ, ◌+◌, ◌≤◌, [], ◌∷◌, length, drop, refl}
use Rattle.std.proofs.Common.{ap, sym, ◌∙◌}
use Rattle.std.proofs.lemmas.List.{drop-drop, drop_all}
use Rattle.c_grammar.specs.Input.{Tokens, behind}

behind_is : (ts : Tokens) → drop 1 ts ≡ behind ts
unfolding behind
behind_is [] = refl
behind_is (t ∷ ts) = refl

pub one_behind : (n : ℕ) (ts : Tokens) → drop (n + 1) ts ≡ behind (drop n ts)
one_behind n ts = sym (drop-drop 1 n ts) ∙ behind_is (drop n ts)

pub at_the_end : (n : ℕ) (ts : Tokens) → length ts ≤ n → drop n ts ≡ behind (drop n ts)
unfolding behind
at_the_end n ts done = let e = drop_all n ts done in e ∙ sym (ap behind e)
