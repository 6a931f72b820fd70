-- Lists from their other end.
-- `Loops` cites these lemmas, and so do the answers of `descend` and `passed_of`.
use Rattle.std.proofs.Common.{◌≡◌, ◌∙◌, ap, refl, List, [], ◌∷◌, ◌++◌}
use Rattle.std.specs.Prelude.{reverse, slice_get, Some, None}
use Rattle.std.proofs.lemmas.List.{reverse-append}
use Rattle.c_typing.specs.declared.initialiser.Frame.{Frame}
use Rattle.c_typing.specs.OfInitialisers.{passed_of}

pub reverse-last : {A : Type 0} (xs : List A) (x : A) → reverse (xs ++ x ∷ []) ≡ x ∷ reverse xs
reverse-last xs x = reverse-append xs (x ∷ [])

-- the outermost aggregate stands first in code
passed-last : (fs : List Frame) (f : Frame) → passed_of (fs ++ f ∷ []) ≡ f.passed
passed-last [] f = refl
passed-last (g ∷ []) f = refl
passed-last (g ∷ h ∷ fs) f = passed-last (h ∷ fs) f

pub passed-first : (fs : List Frame) (f : Frame) → passed_of (reverse (f ∷ fs)) ≡ f.passed
passed-first fs f = ap passed_of (reverse-append (f ∷ []) fs) ∙ passed-last (reverse fs) f

pub outermost : (fs : List Frame) (f : Frame) → slice_get fs 0 ≡ Some f → passed_of (reverse fs) ≡ f.passed
outermost [] f h = absurd (cc)
outermost (g ∷ fs) f h = let e : g ≡ f = cc in passed-first fs g ∙ ap (λ g. g.passed) e

pub none_open : (fs : List Frame) → slice_get fs 0 ≡ None → passed_of (reverse fs) ≡ 0
none_open [] h = refl
none_open (g ∷ fs) h = absurd (cc)
