-- The arms of `? :`, one after another.
use Rattle.std.proofs.Common.{◌≡◌, ◌≢◌, refl, sym, ap, ◌∙◌, ℕ, zero, suc, ◌+◌, ◌<◌, List, ◌∷◌, map, drop, length, get_or, Option, Some, None}
use Rattle.std.proofs.Math.Dec.{eqb-suc-zero}
use Rattle.std.proofs.lemmas.List.{at_drop_more}
use Rattle.c_tree.specs.declared.typed.expression.Arm.{Arm, out-Arm}
use Rattle.c_layout.specs.Constants.{ArmValue, chosen, number_of, arm_number_of}
use Rattle.c_layout.specs.ConstantNodes.{arm_number_of-is}

-- the next arm
pub chosen-next : (arms : List Arm) (i : ℕ) (a : Arm) (last : Option ℕ) → i < length arms → a ≡ get_or arms i a →
    chosen (map arm_number_of (drop i arms)) last
    ≡ chosen ((number_of (out-Arm a).condition, number_of (out-Arm a).chosen) ∷ map arm_number_of (drop (i + 1) arms)) last
chosen-next arms i a last below is =
    at_drop_more (λ l. chosen (map arm_number_of l) last) arms i a below
    ∙ ap (λ b. chosen (map arm_number_of (b ∷ drop (i + 1) arms)) last) (sym is)
    ∙ ap (λ v. chosen (v ∷ map arm_number_of (drop (i + 1) arms)) last) (arm_number_of-is a)

pub chosen-undefined : (o v : Option ℕ) (arms : List ArmValue) (last : Option ℕ) → o ≡ None →
    chosen ((o, v) ∷ arms) last ≡ None
chosen-undefined o v arms last e = rw e refl

pub chosen-here : (o v : Option ℕ) (arms : List ArmValue) (last : Option ℕ) (n : ℕ) → o ≡ Some n → n ≢ 0 →
    chosen ((o, v) ∷ arms) last ≡ v
chosen-here o v arms last zero e other = absurd (other refl)
chosen-here o v arms last (suc n) e other = rw (e, eqb-suc-zero n) refl

pub chosen-later : (o v : Option ℕ) (arms : List ArmValue) (last : Option ℕ) (n : ℕ) → o ≡ Some n → n ≡ 0 →
    chosen ((o, v) ∷ arms) last ≡ chosen arms last
chosen-later o v arms last n e none = rw (e, none) refl
