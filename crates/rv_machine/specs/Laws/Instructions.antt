-- Laws of steps by the words of the text: a step is the effect of the instruction whose word stands at pc. They are proofs: a
-- contract cites none of them but the carrier `step_laws`.
use Rattle.std.proofs.Common.{◌≡◌, refl, sym, ap, ◌∙◌, ℕ, ◌+◌, ◌-◌, ◌*◌, ◌<◌, Bool, true, false, List, [], ◌∷◌, ◌++◌, length, arith}
use Rattle.std.proofs.lemmas.Bool.Decides.{nat_tests}
use Rattle.std.proofs.lemmas.Option.{none-some, get_or_from_slice_get}
use Rattle.std.specs.Prelude.{Option, Some, None, ◌/◌, ◌%◌, ◌^◌, ◌==◌, ◌&&◌, nat_le, slice_get, if◌then◌else◌}
use Rattle.std.specs.Option.{option_and_then}
use Rattle.std.specs.Int.{w32, cast_unsigned}
use Rattle.rv_table.specs.declared.instruction.Instr.{Instr}
use Rattle.rv_table.specs.Instruction.{Valid, encode_of, decode_of}
use Rattle.rv_table.specs.Laws.Decoding.{decode_of-encode_of, decode_of-valid}
use Rattle.rv_machine.specs.State.{State, register_of}
use Rattle.rv_machine.specs.Effect.{Traps, effect}
use Rattle.rv_machine.specs.Step.{fetched, instruction_at, performs, step_of}
use Rattle.rv_machine.specs.Sound.{AreWords}
use Rattle.rv_machine.specs.Laws.Bytes.{below-at}

-- a step is what the instruction at pc does
pub step_of-instruction : (text : List ℕ) (m : State) → step_of text m ≡ performs m (instruction_at text m.pc)
unfolding step_of
step_of-instruction text m = refl

-- the word of a valid instruction is that instruction
pub instruction_at-word : (text : List ℕ) (pc : ℕ) (i : Instr) → Valid i → fetched text pc ≡ Some (encode_of i) → instruction_at text pc ≡ Some i
instruction_at-word text pc i v e = ap (option_and_then decode_of) e ∙ decode_of-encode_of i v

-- so the step at it is its effect
pub step_of-word : (text : List ℕ) (m : State) (i : Instr) → Valid i → fetched text m.pc ≡ Some (encode_of i) → step_of text m ≡ effect i.row i.rd (cast_unsigned w32 i.imm) (register_of m i.rs1) (register_of m i.rs2) m
step_of-word text m i v e = step_of-instruction text m ∙ ap (performs m) (instruction_at-word text m.pc i v e)

-- and where there is no instruction it traps
pub step_of-none : (text : List ℕ) (m : State) → instruction_at text m.pc ≡ None → step_of text m ≡ Traps m.pc
step_of-none text m e = step_of-instruction text m ∙ ap (performs m) e

-- what is fetched of a text of words is a word
slice_get-word : (text : List ℕ) (k : ℕ) (w : ℕ) → AreWords text → slice_get text k ≡ Some w → w < 2 ^ 32
slice_get-word text k w h e = rw (← get_or_from_slice_get text k w 0 e) (below-at (2 ^ 32) text k (omega arith) h)

pub fetched-word : (text : List ℕ) (pc w : ℕ) → AreWords text → fetched text pc ≡ Some w → w < 2 ^ 32
fetched-word text pc w h e = pick ((pc % 4 == 0) && nat_le 0x10000 pc) e
  where
    pick : (t : Bool) → (if t then slice_get text ((pc - 0x10000) / 4) else None) ≡ Some w → w < 2 ^ 32
    pick true f = slice_get-word text ((pc - 0x10000) / 4) w h f
    pick false f = absurd (none-some w f)

-- an instruction of a text of words is valid, and its word stands there
pub instruction_at-valid : (text : List ℕ) (pc : ℕ) (i : Instr) → AreWords text → instruction_at text pc ≡ Some i → Valid i × (fetched text pc ≡ Some (encode_of i))
instruction_at-valid text pc i h e = pick (fetched text pc) refl e
  where
    pick : (o : Option ℕ) → fetched text pc ≡ o → option_and_then decode_of o ≡ Some i → Valid i × (fetched text pc ≡ Some (encode_of i))
    pick None f d = absurd (none-some i d)
    pick (Some w) f d =
        let v : Valid i × (encode_of i ≡ w) = decode_of-valid w i (fetched-word text pc w h f) d in
        (v.0, f ∙ ap Some (sym v.1))

-- ---- a text in pieces

slice_get-seam : (before : List ℕ) (w : ℕ) (rest : List ℕ) → slice_get (before ++ w ∷ rest) (length before) ≡ Some w
slice_get-seam [] w rest = refl
slice_get-seam (v ∷ before) w rest = slice_get-seam before w rest

-- the word behind so many words is fetched at its address
pub fetched-behind : (before : List ℕ) (w : ℕ) (rest : List ℕ) → fetched (before ++ w ∷ rest) (0x10000 + 4 * length before) ≡ Some w
fetched-behind before w rest = at (length before) (slice_get-seam before w rest)
  where
    at : (n : ℕ) → slice_get (before ++ w ∷ rest) n ≡ Some w → fetched (before ++ w ∷ rest) (0x10000 + 4 * n) ≡ Some w
    at n e =
        let there : ((0x10000 + 4 * n) % 4 == 0) && nat_le 0x10000 (0x10000 + 4 * n) ≡ true = grind (arith, nat_tests) in
        let place : (0x10000 + 4 * n - 0x10000) / 4 ≡ n = omega arith in
        ap (λ t. if t then slice_get (before ++ w ∷ rest) ((0x10000 + 4 * n - 0x10000) / 4) else None) there
        ∙ ap (slice_get (before ++ w ∷ rest)) place ∙ e
