-- Instructions whose jumps are near lie in a text wherever its words decode to them.
-- No contract cites this file: it holds proofs.
use Rattle.std.proofs.Common.{◌≡◌, refl, ℕ, ◌+◌, ◌*◌, ◌<◌, Bool, true, false, List, [], ◌∷◌, length, Option, Some, None, inr, arith}
use Rattle.std.specs.Prelude.{◌^◌, ◌&&◌, nat_lt}
use Rattle.std.proofs.lemmas.List.Elements.{All-replicate, All-append}
use Rattle.std.proofs.lemmas.Bool.Decides.{nat_tests}
use Rattle.rv_table.specs.declared.instruction.Instr.{Instr}
use Rattle.rv_machine.specs.Step.{instruction_at}
use Rattle.rv_machine.specs.Sound.{AreWords}
use Rattle.rv_machine.specs.Laws.Instructions.{instruction_at-valid}
use Rattle.code_form.specs.declared.code.Loose.{Loose}
use Rattle.code_form.specs.Contents.{Setting}
use Rattle.laid_program.specs.Addresses.{Addresses, placed, target, near_form, IsForm}
use Rattle.laid_program.specs.Text.{Stand, Lie}

-- ---- texts of words

cons : (x : ℕ) (xs : List ℕ) → x < 2 ^ 32 → AreWords xs → AreWords (x ∷ xs)
cons x xs h r = All-append (λ w. w < 2 ^ 32) (x ∷ []) xs (All-replicate (λ w. w < 2 ^ 32) 1 x h) r

-- whether numbers are words
abbrev pub are_words : List ℕ → Bool
are_words [] = true
are_words (x ∷ xs) = nat_lt x (2 ^ 32) && are_words xs

pub words-from_test : (xs : List ℕ) → are_words xs ≡ true → AreWords xs
words-from_test [] e = All-replicate (λ w. w < 2 ^ 32) 0 0 (omega arith)
words-from_test (x ∷ xs) e = pick (nat_lt x (2 ^ 32)) refl e (words-from_test xs)
  where
    pick : (t : Bool) → nat_lt x (2 ^ 32) ≡ t → (t && are_words xs) ≡ true → (are_words xs ≡ true → AreWords xs) → AreWords (x ∷ xs)
    pick true t e rest = cons x xs (grind (arith, nat_tests)) (rest e)
    pick false t e rest = cc

-- ---- near forms

-- the form of an instruction at an address, near where it is a jump
abbrev pub near_or : Addresses → Setting → (pc : ℕ) → Loose → Option ℕ → List Instr
near_or a s pc i None = placed a s i ∷ []
near_or a s pc i (Some to) = near_form pc to i

near_or-form : (a : Addresses) (s : Setting) (pc : ℕ) (i : Loose) (o : Option ℕ) → IsForm a s pc i o (near_or a s pc i o)
near_or-form a s pc i None = refl
near_or-form a s pc i (Some to) = inr refl

-- the words from an address on decode to these instructions
abbrev pub Decode : (text : List ℕ) → (pc : ℕ) → List Instr → Type 0
Decode text pc [] = Unit {0}
Decode text pc (w ∷ ws) = (instruction_at text pc ≡ Some w) × Decode text (pc + 4) ws

pub stand : (text : List ℕ) (pc : ℕ) (ws : List Instr) → AreWords text → Decode text pc ws → Stand text pc ws
stand text pc [] h d = tt
stand text pc (w ∷ ws) h d = let v = instruction_at-valid text pc w h d.0 in (v.0, v.1, stand text (pc + 4) ws h d.1)

-- the same of instructions over registers, and where they end
abbrev pub DecodeNear : (text : List ℕ) → Addresses → Setting → (function : ℕ) → (pc : ℕ) → List Loose → Type 0
DecodeNear text a s f pc [] = Unit {0}
DecodeNear text a s f pc (i ∷ is) = Decode text pc (near_or a s pc i (target a f i)) × DecodeNear text a s f (pc + 4 * length (near_or a s pc i (target a f i))) is

abbrev pub end_of_near : Addresses → Setting → (function : ℕ) → (pc : ℕ) → List Loose → ℕ
end_of_near a s f pc [] = pc
end_of_near a s f pc (i ∷ is) = end_of_near a s f (pc + 4 * length (near_or a s pc i (target a f i))) is

pub lie-near : (text : List ℕ) (a : Addresses) (s : Setting) (f pc : ℕ) (is : List Loose) → AreWords text → DecodeNear text a s f pc is →
    Lie text a s f pc is (end_of_near a s f pc is)
lie-near text a s f pc [] h d = refl
lie-near text a s f pc (i ∷ is) h d =
    (near_or a s pc i (target a f i), near_or-form a s pc i (target a f i), stand text pc (near_or a s pc i (target a f i)) h d.0, lie-near text a s f (pc + 4 * length (near_or a s pc i (target a f i))) is h d.1)
