-- What widened facts hold of.
use Rattle.std.proofs.Common.{◌≡◌, sym, subst}
use Rattle.std.proofs.Math.Nat.{one-dvd}
use Rattle.term_form.specs.declared.facts.Facts.{Facts}
use Rattle.term_form.specs.Congruence.{rest_number}
use Rattle.term_form.specs.Narrower.{RefinesRest, any_word}
use Rattle.term_form.proofs.Congruences.{congruent_from_apart}

-- each congruence lies in the one that says nothing
pub refines_any : (f g : Facts) → g ≡ any_word → RefinesRest f g
refines_any f g e =
    subst (λ (g : Facts). RefinesRest f g) (sym e)
    (record { modulus = one-dvd f.modulus; rest = congruent_from_apart 1 (rest_number f.modulus f.rest) (rest_number 1 0) (one-dvd _) })
