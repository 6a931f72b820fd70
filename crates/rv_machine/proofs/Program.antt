-- The decoded text does what the words of the text say.
use Rattle.std.proofs.Common.{◌≡◌, ℕ, zero, suc, ◌-◌, ◌/◌, ◌%◌, ◌<◌, refl, sym, ◌∙◌, ap, arith, cond, Bool, true, false, List, [], ◌∷◌, map, eqb, subst, length, take, ◌++◌}
use Rattle.std.specs.Prelude.{◌==◌, ◌&&◌, nat_le, slice_get, Option, Some, None, IfSome}
use Rattle.std.specs.Option.{option_map, option_and_then}
use Rattle.std.specs.Int.{w32, cast_unsigned}
use Rattle.std.proofs.lemmas.Bool.Decides.{nat_tests}
use Rattle.std.proofs.lemmas.Option.{slice_get-map}
use Rattle.std.proofs.Math.Seq.{take-append_seam}
use Rattle.rv_table.specs.declared.row.Row.{Row}
use Rattle.rv_table.specs.declared.instruction.Instr.{Instr}
use Rattle.rv_table.specs.Table.{format}
use Rattle.rv_table.specs.Instruction.{row_of, read, decode_of}
use Rattle.rv_table.specs.Laws.Formats.{read_as-registers}
use Rattle.rv_machine.specs.declared.decoded.Decoded.{Decoded}
use Rattle.rv_machine.specs.declared.stretch.Stop.{Stop}
use Rattle.rv_machine.specs.State.{State, Loaded, register_of, state}
use Rattle.rv_machine.specs.Effect.{Action, Goes, effect}
use Rattle.rv_machine.specs.Step.{fetched, performs, step_of}
use Rattle.rv_machine.specs.Decoded.{slot_of, decoded_from, decoded_of, program, action_of, action_in, decoded_at, effect_of, MovesIn}
use Rattle.rv_machine.specs.Pause.{Moves, stopped}

slot_back : (rd : ℕ) (zeroth : Bool) → rd < 32 → eqb rd 0 ≡ zeroth → cond zeroth 32 rd % 32 ≡ rd
slot_back rd true h t = grind (arith, nat_tests)
slot_back rd false h t = omega arith

-- a slot is the place of its register
slot_of-mod : (rd : ℕ) → rd < 32 → slot_of rd % 32 ≡ rd
slot_of-mod rd h = slot_back rd (eqb rd 0) h refl

rd_below : (w : ℕ) (i : Instr) (o : Option Row) → option_map (read w) o ≡ Some i → i.rd < 32
rd_below w i None e = absurd cc
rd_below w i (Some r) e =
    let is : read w r ≡ i = cc in
    subst (λ (j : Instr). j.rd < 32) is (read_as-registers (format r) r w).0

decoded_does : (m : State) (w : ℕ) (o : Option Instr) → decode_of w ≡ o → effect_of (decoded_from o) m ≡ performs m o
decoded_does m w None e = refl
decoded_does m w (Some i) e =
    ap (λ (rd : ℕ). effect i.row rd (cast_unsigned w32 i.imm) (register_of m i.rs1) (register_of m i.rs2) m) (slot_of-mod i.rd (rd_below w i (row_of w) e))

word_does : (m : State) (o : Option ℕ) → action_of m (option_map decoded_of o) ≡ performs m (option_and_then decode_of o)
word_does m None = refl
word_does m (Some w) = decoded_does m w (decode_of w) refl

found_does : (m : State) (text : List ℕ) (k : ℕ) (there : Bool) → action_of m (cond there (slice_get (map decoded_of text) k) None) ≡ performs m (option_and_then decode_of (cond there (slice_get text k) None))
found_does m text k true = ap (action_of m) (slice_get-map decoded_of text k) ∙ word_does m (slice_get text k)
found_does m text k false = refl

pub action_in-program : (text : List ℕ) (m : State) → action_in (program text) m ≡ step_of text m
unfolding program step_of
action_in-program text m = found_does m text ((m.pc - 0x10000) / 4) ((m.pc % 4 == 0) && nat_le 0x10000 m.pc)

pub moves_in-program : (text : List ℕ) (n : ℕ) (m m' : State) → MovesIn (program text) n m m' → Moves text n m m'
moves_in-program text zero m m' e = e
moves_in-program text (suc n) m m' (u, before, last) = (u, moves_in-program text n m u before, sym (action_in-program text u) ∙ last)

-- what a borrowed memory was left as, put back into its vector
pub written_back : (len : ℕ) (new rest : List ℕ) → len ≡ length new → take len (new ++ rest) ≡ new
written_back len new rest e = ap (λ k. take k (new ++ rest)) e ∙ take-append_seam new rest

-- a stretch of a machine's decoded text is one of its words
pub machine_moves : (m : Loaded) (text : List ℕ) (code : List Decoded) (registers registers' memory memory' last : List ℕ) (pc pc' base n : ℕ) → record { text = text; state = state registers pc base memory } ≡ m → code ≡ program text → last ≡ memory' → MovesIn code n (state registers pc base memory) (state registers' pc' base memory') → Moves m.text n m.state (state registers' pc' base last)
machine_moves m text code registers registers' memory memory' last pc pc' base n is coded same moves =
    let in_program : MovesIn (program text) n (state registers pc base memory) (state registers' pc' base memory') = rw (← coded) moves in
    let of_words : Moves text n (state registers pc base memory) (state registers' pc' base memory') = moves_in-program text n _ _ in_program in
    let kept : Moves text n (state registers pc base memory) (state registers' pc' base last) = rw same of_words in
    subst (λ (k : Loaded). Moves k.text n k.state (state registers' pc' base last)) is kept

-- and so is where it stopped
pub machine_stops : (text : List ℕ) (code : List Decoded) (m m' : State) (stop : Option Stop) → code ≡ program text → m' ≡ m → IfSome stop (λ s. action_in code m ≡ stopped s m) → IfSome stop (λ s. step_of text m' ≡ stopped s m')
machine_stops text code m m' None coded same h = tt
machine_stops text code m m' (Some s) coded same h =
    let in_program : action_in (program text) m ≡ stopped s m = rw (← coded) h in
    rw same (sym (action_in-program text m) ∙ in_program)
