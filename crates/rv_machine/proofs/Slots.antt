-- The registers in their 33 places, of which the last takes the writes to x0.
use Rattle.std.proofs.Common.{◌≡◌, ℕ, zero, suc, ◌%◌, ◌<◌, ◌≤◌, refl, sym, ◌∙◌, ap, arith, cond, Bool, true, false, List, take, set, get_or, eqb}
use Rattle.std.specs.Prelude.{slice_index, slice_set}
use Rattle.std.proofs.lemmas.Bool.Decides.{nat_tests}
use Rattle.std.proofs.lemmas.List.{get_or-take, take-set-le}
use Rattle.std.proofs.Math.Seq.{take-set-lt}
use Rattle.rv_machine.specs.State.{register_in, with_register}

-- x0 reads 0, since its place is never written
pub register_in-take : (words registers : List ℕ) (n : ℕ) → take 32 words ≡ registers → slice_index words 0 ≡ 0 → n < 32 → slice_index words n ≡ register_in registers n
register_in-take words registers zero e z h = z
register_in-take words registers (suc n) e z h =
    let other : eqb (suc n) 0 ≡ false = grind (arith, nat_tests) in
    rw other (sym (ap (λ xs. get_or xs (suc n) 0) (sym e) ∙ get_or-take 32 words (suc n) 0 h))

written : (words registers : List ℕ) (slot word : ℕ) (past : Bool) → take 32 words ≡ registers → 1 ≤ slot → slot ≤ 32 → eqb slot 32 ≡ past → take 32 (set words slot word) ≡ cond (eqb (slot % 32) 0) registers (set registers (slot % 32) word)
written words registers slot word true e low high t =
    let is : 32 ≤ slot = grind (arith, nat_tests) in
    let zeroth : eqb (slot % 32) 0 ≡ true = grind (arith, nat_tests) in
    rw zeroth (take-set-le 32 words slot word is ∙ e)
written words registers slot word false e low high t =
    let below : slot < 32 = grind (arith, nat_tests) in
    let same : slot % 32 ≡ slot = omega arith in
    let other : eqb slot 0 ≡ false = grind (arith, nat_tests) in
    rw same (rw other (take-set-lt 32 words slot word below ∙ ap (λ xs. set xs slot word) e))

-- a write to a slot is a write to its register
pub take-with_register : (words registers : List ℕ) (slot word : ℕ) → take 32 words ≡ registers → 1 ≤ slot → slot ≤ 32 → take 32 (slice_set words slot word) ≡ with_register registers (slot % 32) word
take-with_register words registers slot word e low high = written words registers slot word (eqb slot 32) e low high refl
