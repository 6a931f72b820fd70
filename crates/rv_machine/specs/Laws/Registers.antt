-- Laws of registers: what was written is read, but for x0, and each other register is as it was. They are proofs: a contract
-- cites none of them but the carrier `register_laws`.
use Rattle.std.proofs.Common.{◌≡◌, ◌≢◌, refl, ap, ◌∙◌, ℕ, ◌<◌, Bool, true, false, List, length, set, arith}
use Rattle.std.proofs.lemmas.Bool.Decides.{nat_tests}
use Rattle.std.proofs.lemmas.List.{length-set, get_or-set_same, get_or-set_other}
use Rattle.std.specs.Prelude.{◌^◌, ◌==◌, if◌then◌else◌, slice_index}
use Rattle.rv_machine.specs.State.{register_in, with_register}
use Rattle.rv_machine.specs.Sound.{AreWords}
use Rattle.rv_machine.specs.Laws.Bytes.{below-at}

-- a register other than x0 is its word in the list, and a write to it is one there
listed : (registers : List ℕ) (n : ℕ) → n ≢ 0 → register_in registers n ≡ slice_index registers n
listed registers n h = let other : (n == 0) ≡ false = grind (arith, nat_tests) in ap (λ t. if t then 0 else slice_index registers n) other

written : (registers : List ℕ) (n word : ℕ) → n ≢ 0 → with_register registers n word ≡ set registers n word
written registers n word h = let other : (n == 0) ≡ false = grind (arith, nat_tests) in ap (λ t. if t then registers else set registers n word) other

pub register_in-written : (registers : List ℕ) (n word : ℕ) → n ≢ 0 → n < length registers → register_in (with_register registers n word) n ≡ word
register_in-written registers n word h b =
    listed (with_register registers n word) n h ∙ ap (λ xs. slice_index xs n) (written registers n word h) ∙ get_or-set_same registers n word 0 b

pub register_in-other : (registers : List ℕ) (n k word : ℕ) → k ≢ n → register_in (with_register registers n word) k ≡ register_in registers k
register_in-other registers n k word h = pick (k == 0) (n == 0)
  where
    pick : (t u : Bool) → (if t then 0 else slice_index (if u then registers else set registers n word) k) ≡ (if t then 0 else slice_index registers k)
    pick true u = refl
    pick false true = refl
    pick false false = get_or-set_other registers n k word 0 h

-- x0 reads 0, and a write to it does nothing
pub register_in-zero : (registers : List ℕ) → register_in registers 0 ≡ 0
register_in-zero registers = refl

pub with_register-zero : (registers : List ℕ) (word : ℕ) → with_register registers 0 word ≡ registers
with_register-zero registers word = refl

pub length-with_register : (registers : List ℕ) (n word : ℕ) → length (with_register registers n word) ≡ length registers
length-with_register registers n word = pick (n == 0)
  where
    pick : (t : Bool) → length (if t then registers else set registers n word) ≡ length registers
    pick true = refl
    pick false = length-set registers n word

pub register_in-word : (registers : List ℕ) (n : ℕ) → AreWords registers → register_in registers n < 2 ^ 32
register_in-word registers n h = pick (n == 0)
  where
    pick : (t : Bool) → (if t then 0 else slice_index registers n) < 2 ^ 32
    pick true = omega arith
    pick false = below-at (2 ^ 32) registers n (omega arith) h
