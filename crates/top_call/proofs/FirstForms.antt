-- The program of a source of the first form, step by step.
use Rattle.std.specs.Prelude.{◌*◌, ◌==◌, ◌&&◌, slice_get, slice_index, slice_set, nat_le}
use Rattle.std.specs.Int.{w32, cast_unsigned}
use Rattle.std.proofs.Common.{◌≡◌, ◌≢◌, ◌≤◌, ◌<◌, ◌+◌, ◌-◌, ◌/◌, ◌%◌, ◌^◌, ℕ, zero, suc, pos, Bool, true, false, cond, ◌⊎◌, inl, inr, List, [], ◌∷◌, ◌++◌, length, drop, map, Option, Some, None, refl, sym, ap, subst, ◌∙◌, arith, append_assoc, append-nil}
use Rattle.std.proofs.lemmas.Bool.Decides.{nat_tests}
use Rattle.std.proofs.lemmas.List.{get_or-set_same, get_or-set_other, length-set}
use Rattle.std.specs.Option.{option_and_then}
use Rattle.std.specs.List.{flat_map}
use Rattle.ccai_io.specs.Outside.{Appends, AppendsPrefix, Rose}
use Rattle.rv_table.specs.declared.instruction.Instr.{Instr}
use Rattle.rv_table.specs.Instruction.{Valid, decode_of, encode_of}
use Rattle.rv_table.specs.Laws.Decoding.{decode_of-encode_of}
use Rattle.rv_machine.specs.declared.answer.End.{End}
use Rattle.rv_machine.specs.declared.answer.End.TheVariants as ended
use Rattle.rv_machine.specs.State.{State, register_of, with_register, following}
use Rattle.rv_machine.specs.Arithmetic.{sum}
use Rattle.rv_machine.specs.Effect.{Action, Goes, Puts, Exits, writes, calls}
use Rattle.rv_machine.specs.Step.{fetched, performs, step_of}
use Rattle.rv_machine.specs.Run.{World, answered, Run}
use Rattle.rv_machine.specs.Start.{start}
use Rattle.first_form.specs.Code.{call_words, environment_call, image_of, put_words, set_register, text_of}
use Rattle.top_call.specs.FirstForm.{bytes_of}
use Rattle.top_call.proofs.Runs.{SinkFailed, run_exits, run_goes, run_puts}

-- From w, the program that puts these constants out and returns the last may end like this and leave v: by
-- itself, with all bytes put out, or because the sink failed, with a prefix of them put out. It reads nothing.
abbrev pub Finishes : List ℕ → ℕ → World → End → World → Type 0
Finishes puts status w (ended.Exit s) v = (s ≡ status % 256) × Appends w.held v.held (bytes_of puts) × (v.left ≡ w.left) × (v.read_faults ≡ w.read_faults) × (v.write_faults ≡ w.write_faults)
Finishes puts status w ended.WriteFault v = AppendsPrefix w.held v.held (bytes_of puts) × (v.left ≡ w.left) × (v.read_faults ≡ w.read_faults) × (w.write_faults ≤ v.write_faults) × Rose w.write_faults v.write_faults
Finishes puts status w other v = ⊥

-- what stands at a place of a text, and behind it
get_front : (text : List ℕ) (at word : ℕ) (rest : List ℕ) → drop at text ≡ word ∷ rest → slice_get text at ≡ Some word
get_front text zero word rest e = subst (λ (t : List ℕ). slice_get t 0 ≡ Some word) (sym e) refl
get_front [] (suc at) word rest e = cc
get_front (t ∷ text) (suc at) word rest e = get_front text at word rest e

drop_front : (text : List ℕ) (at word : ℕ) (rest : List ℕ) → drop at text ≡ word ∷ rest → drop (suc at) text ≡ rest
drop_front text zero word rest e = subst (λ (t : List ℕ). drop 1 t ≡ rest) (sym e) refl
drop_front [] (suc at) word rest e = cc
drop_front (t ∷ text) (suc at) word rest e = drop_front text at word rest e

fetched_at : (text : List ℕ) (at pc : ℕ) → pc ≡ 0x10000 + 4 * at → fetched text pc ≡ slice_get text at
fetched_at text at pc e =
    let test : ((pc % 4 == 0) && nat_le 0x10000 pc) ≡ true = grind (arith, nat_tests) in
    let place : (pc - 0x10000) / 4 ≡ at = omega arith in
    rw (test, place) refl

-- the step of an instruction whose word stands at pc
step_at : (text : List ℕ) (at : ℕ) (i : Instr) (rest : List ℕ) (m : State) → m.pc ≡ 0x10000 + 4 * at → drop at text ≡ encode_of i ∷ rest → Valid i → step_of text m ≡ performs m (Some i)
unfolding step_of
step_at text at i rest m pc here valid = ap (λ (o : Option Instr). performs m o) (ap (option_and_then decode_of) (fetched_at text at m.pc pc ∙ get_front text at (encode_of i) rest here) ∙ decode_of-encode_of i valid)

set_is_valid : (rd value : ℕ) → rd < 32 → value < 2 ^ 11 → Valid (set_register rd value)
set_is_valid rd value r v = record { rd = r; rs1 = omega arith; rs2 = omega arith; fits = (refl, v) }

call_is_valid : Valid environment_call
call_is_valid = record { rd = omega arith; rs1 = omega arith; rs2 = omega arith; fits = (refl, refl, refl, refl) }

sum_is : (value : ℕ) → value < 2 ^ 11 → sum 0 (cast_unsigned w32 (pos value)) ≡ value
sum_is value h = omega arith

step_set : (text : List ℕ) (at rd value : ℕ) (rest : List ℕ) (m : State) → m.pc ≡ 0x10000 + 4 * at → drop at text ≡ encode_of (set_register rd value) ∷ rest → rd < 32 → value < 2 ^ 11 → step_of text m ≡ writes m rd value
step_set text at rd value rest m pc here r v = step_at text at (set_register rd value) rest m pc here (set_is_valid rd value r v) ∙ ap (λ (k : ℕ). writes m rd k) (sum_is value v)

step_call : (text : List ℕ) (at : ℕ) (rest : List ℕ) (m : State) → m.pc ≡ 0x10000 + 4 * at → drop at text ≡ encode_of environment_call ∷ rest → step_of text m ≡ calls m
step_call text at rest m pc here = step_at text at environment_call rest m pc here call_is_valid

calls_put : (m : State) (byte : ℕ) → register_of m 17 ≡ 2 → register_of m 10 ≡ byte → byte < 256 → calls m ≡ Puts byte
calls_put m byte number argument small = rw (number, argument) (ap Puts (omega arith))

calls_exit : (m : State) (byte : ℕ) → register_of m 17 ≡ 3 → register_of m 10 ≡ byte → byte < 256 → calls m ≡ Exits byte
calls_exit m byte number argument small = rw (number, argument) (ap Exits (omega arith))

-- the state as a call of this number with this byte stands next
abbrev ready : State → ℕ → ℕ → State
ready m number byte = record { registers = with_register (with_register m.registers 10 byte) 17 number; pc = following (following m.pc); base = m.base; memory = m.memory }

-- a machine of this text stands at a word of it
record StandsAt (at : ℕ) (m : State) : Type 0 where
  pc : m.pc ≡ 0x10000 + 4 * at
  registers : length m.registers ≡ 32
  early : at + 3 < 2 ^ 28

run_to_call : (text : List ℕ) (at n number byte : ℕ) (rest : List ℕ) (w : World) (e : End) (v : World) → StandsAt at w.state → drop at text ≡ call_words number byte ++ rest → number < 4 → byte < 256 → Run text (suc (suc n)) w e v → Run text n (record w { state = ready w.state number byte }) e v
run_to_call text at n number byte rest w e v stands here small less h =
    let pc : w.state.pc ≡ 0x10000 + 4 * at = stands.pc in
    let early : at + 3 < 2 ^ 28 = stands.early in
    let first : State = record { registers = with_register w.state.registers 10 byte; pc = following w.state.pc; base = w.state.base; memory = w.state.memory } in
    let one : Run text (suc n) (record w { state = first }) e v = run_goes text (suc n) w first e v (step_set text at 10 byte _ w.state pc here (omega arith) (omega arith)) h in
    run_goes text n (record w { state = first }) (ready w.state number byte) e v (step_set text (suc at) 17 number _ first (omega arith) (drop_front text at _ _ here) (omega arith) (omega arith)) one

ready_number : (m : State) (number byte : ℕ) → length m.registers ≡ 32 → register_of (ready m number byte) 17 ≡ number
ready_number m number byte long = get_or-set_same (slice_set m.registers 10 byte) 17 number 0 (omega (arith, length-set m.registers 10 byte))

ready_argument : (m : State) (number byte : ℕ) → length m.registers ≡ 32 → register_of (ready m number byte) 10 ≡ byte
ready_argument m number byte long = get_or-set_other (slice_set m.registers 10 byte) 17 10 number 0 (omega arith) ∙ get_or-set_same m.registers 10 byte 0 (omega arith)

ready_pc : (at : ℕ) (m : State) (number byte : ℕ) → StandsAt at m → (ready m number byte).pc ≡ 0x10000 + 4 * suc (suc at)
ready_pc at m number byte stands = let pc : m.pc ≡ 0x10000 + 4 * at = stands.pc in let early : at + 3 < 2 ^ 28 = stands.early in omega arith

call_here : (text : List ℕ) (at number byte : ℕ) (rest : List ℕ) → drop at text ≡ call_words number byte ++ rest → drop (suc (suc at)) text ≡ encode_of environment_call ∷ rest
call_here text at number byte rest here = drop_front text (suc at) _ _ (drop_front text at _ _ here)

step_ready : (text : List ℕ) (at number byte : ℕ) (rest : List ℕ) (m : State) → StandsAt at m → drop at text ≡ call_words number byte ++ rest → step_of text (ready m number byte) ≡ calls (ready m number byte)
step_ready text at number byte rest m stands here = step_call text (suc (suc at)) rest (ready m number byte) (ready_pc at m number byte stands) (call_here text at number byte rest here)

-- how a sink failed does not depend on the state before
other_state : (w : World) (m : State) (byte : ℕ) (e : End) (v : World) → SinkFailed (record w { state = m }) byte e v → SinkFailed w byte e v
other_state w m byte e v s = record { answer = s.answer; kept = s.kept; left = s.left; read_faults = s.read_faults; later = s.later; rose = s.rose }

-- three steps that put a byte out
run_one_put : (text : List ℕ) (at n byte : ℕ) (rest : List ℕ) (w : World) (e : End) (v : World) → StandsAt at w.state → drop at text ≡ call_words 2 byte ++ rest → byte < 256 → Run text (suc (suc (suc n))) w e v
    → SinkFailed w byte e v ⊎ ((held : Option (List ℕ)) × (Appends w.held held (byte ∷ []) × Run text n (record w { state = answered (ready w.state 2 byte) byte; held = held }) e v))
run_one_put text at n byte rest w e v stands here less h =
    let act : step_of text (ready w.state 2 byte) ≡ Puts byte = step_ready text at 2 byte rest w.state stands here ∙ calls_put (ready w.state 2 byte) byte (ready_number w.state 2 byte stands.registers) (ready_argument w.state 2 byte stands.registers) less in
    elim (run_puts text n (record w { state = ready w.state 2 byte }) byte e v act (run_to_call text at (suc n) 2 byte rest w e v stands here (omega arith) less h)) [
      | inl s ↦ inl (other_state w (ready w.state 2 byte) byte e v s)
      | inr r ↦ inr r
    ]

-- three steps that end the program
run_one_exit : (text : List ℕ) (at byte : ℕ) (rest : List ℕ) (w : World) (e : End) (v : World) → StandsAt at w.state → drop at text ≡ call_words 3 byte ++ rest → byte < 256 → Run text 3 w e v
    → (e ≡ ended.Exit byte) × (v ≡ record w { state = ready w.state 3 byte })
run_one_exit text at byte rest w e v stands here less h =
    let act : step_of text (ready w.state 3 byte) ≡ Exits byte = step_ready text at 3 byte rest w.state stands here ∙ calls_exit (ready w.state 3 byte) byte (ready_number w.state 3 byte stands.registers) (ready_argument w.state 3 byte stands.registers) less in
    run_exits text 0 (record w { state = ready w.state 3 byte }) byte e v act (run_to_call text at 1 3 byte rest w e v stands here (omega arith) less h)

-- a piece is put, and then others
appends_more : (h i j : Option (List ℕ)) (byte : ℕ) (bytes : List ℕ) → Appends h i (byte ∷ []) → Appends i j bytes → Appends h j (byte ∷ bytes)
appends_more None i j byte bytes first later = subst (λ (x : Option (List ℕ)). Appends x j bytes) first later
appends_more (Some held) i j byte bytes first later = subst (λ (x : Option (List ℕ)). Appends x j bytes) first later ∙ ap (λ (l : List ℕ). Some l) (append_assoc held (byte ∷ []) bytes)

prefix_more : (h i j : Option (List ℕ)) (byte : ℕ) (bytes : List ℕ) → Appends h i (byte ∷ []) → AppendsPrefix i j bytes → AppendsPrefix h j (byte ∷ bytes)
prefix_more h i j byte bytes first later = (byte ∷ later.0, later.1, ap (λ (l : List ℕ). byte ∷ l) later.2, appends_more h i j byte later.0 first later.3)

prefix_longer : (h j : Option (List ℕ)) (byte : ℕ) (bytes : List ℕ) → AppendsPrefix h j (byte ∷ []) → AppendsPrefix h j (byte ∷ bytes)
prefix_longer h j byte bytes kept = (kept.0, kept.1 ++ bytes, ap (λ (l : List ℕ). l ++ bytes) kept.2 ∙ append_assoc kept.0 kept.1 bytes, kept.3)

-- one more constant in front
form_more : (k status : ℕ) (ks : List ℕ) (w u : World) (e : End) (v : World) → Appends w.held u.held (k % 256 ∷ []) → u.left ≡ w.left → u.read_faults ≡ w.read_faults → u.write_faults ≡ w.write_faults → Finishes ks status u e v → Finishes (k ∷ ks) status w e v
form_more k status ks w u (ended.Exit s) v put left reads writes' h = (h.0, appends_more w.held u.held v.held (k % 256) (bytes_of ks) put h.1, h.2 ∙ left, h.3 ∙ reads, h.4 ∙ writes')
form_more k status ks w u ended.WriteFault v put left reads writes' h = (prefix_more w.held u.held v.held (k % 256) (bytes_of ks) put h.0, h.1 ∙ left, h.2 ∙ reads, subst (λ (n : ℕ). n ≤ v.write_faults) writes' h.3, subst (λ (n : ℕ). Rose n v.write_faults) writes' h.4)
form_more k status ks w u ended.Deep v put left reads writes' h = h
form_more k status ks w u (ended.Trap pc) v put left reads writes' h = h
form_more k status ks w u ended.ReadFault v put left reads writes' h = h
form_more k status ks w u ended.Spent v put left reads writes' h = h

form_stopped : (k status : ℕ) (ks : List ℕ) (w : World) (e : End) (v : World) → SinkFailed w (k % 256) e v → Finishes (k ∷ ks) status w e v
form_stopped k status ks w e v s = subst (λ (x : End). Finishes (k ∷ ks) status w x v) (sym s.answer)
    (prefix_longer w.held v.held (k % 256) (bytes_of ks) s.kept, s.left, s.read_faults, s.later, s.rose)

appends_none : (h : Option (List ℕ)) → Appends h h []
appends_none None = refl
appends_none (Some bytes) = ap (λ (l : List ℕ). Some l) (sym (append-nil bytes))

form_ended : (status : ℕ) (w : World) (m : State) (e : End) (v : World) → (e ≡ ended.Exit (status % 256)) × (v ≡ record w { state = m }) → Finishes [] status w e v
form_ended status w m e v h = subst (λ (x : End). Finishes [] status w x v) (sym h.0) (subst (λ (u : World). Finishes [] status w (ended.Exit (status % 256)) u) (sym h.1) (refl, appends_none w.held, refl, refl, refl))

-- the machine that was answered stands behind the call
stands_behind : (at byte : ℕ) (m : State) → StandsAt at m → at + 6 < 2 ^ 28 → StandsAt (at + 3) (answered (ready m 2 byte) byte)
stands_behind at byte m stands early = record {
  pc = let pc : (ready m 2 byte).pc ≡ 0x10000 + 4 * suc (suc at) = ready_pc at m 2 byte stands in omega arith;
  registers = length-set (with_register (with_register m.registers 10 byte) 17 2) 10 byte ∙ length-set (with_register m.registers 10 byte) 17 2 ∙ length-set m.registers 10 byte ∙ stands.registers;
  early = omega arith;
}

behind : (text : List ℕ) (at number byte : ℕ) (rest : List ℕ) → drop at text ≡ call_words number byte ++ rest → drop (at + 3) text ≡ rest
behind text at number byte rest here = let three : suc (suc (suc at)) ≡ at + 3 = omega arith in subst (λ (n : ℕ). drop n text ≡ rest) three (drop_front text (suc (suc at)) _ _ (call_here text at number byte rest here))

-- from a place of the text on, the program puts the constants out and returns the last
form_runs : (text : List ℕ) (at : ℕ) (puts : List ℕ) (status : ℕ) (w : World) (e : End) (v : World) → StandsAt at w.state → at + 3 * length puts + 3 < 2 ^ 28 → drop at text ≡ text_of puts status → Run text (3 * length puts + 3) w e v → Finishes puts status w e v
form_runs text at [] status w e v stands early here h = form_ended status w (ready w.state 3 (status % 256)) e v (run_one_exit text at (status % 256) [] w e v stands here (omega arith) h)
form_runs text at (k ∷ ks) status w e v stands early here h =
    let count : 3 * suc (length ks) + 3 ≡ suc (suc (suc (3 * length ks + 3))) = omega arith in
    elim (run_one_put text at (3 * length ks + 3) (k % 256) (text_of ks status) w e v stands here (omega arith) (subst (λ (n : ℕ). Run text n w e v) count h)) [
      | inl s ↦ form_stopped k status ks w e v s
      | inr r ↦
          let u : World = record w { state = answered (ready w.state 2 (k % 256)) (k % 256); held = r.0 } in
          form_more k status ks w u e v r.1.0 refl refl refl
          (form_runs text (at + 3) ks status u e v (stands_behind at (k % 256) w.state stands (omega arith)) (omega arith) (behind text at 2 (k % 256) (text_of ks status) here) r.1.1)
    ]

text_length : (puts : List ℕ) (status : ℕ) → length (text_of puts status) ≡ 3 * length puts + 3
text_length [] status = omega arith
text_length (k ∷ ks) status = omega (arith, text_length ks status)

-- the whole program, from the start of its image
pub program_runs : (puts : List ℕ) (status : ℕ) (w : World) (e : End) (v : World) → w.state ≡ start (image_of puts status) → 3 * length puts + 3 < 2 ^ 28 → Run (text_of puts status) (length (text_of puts status)) w e v → Finishes puts status w e v
program_runs puts status w e v began few h =
    form_runs (text_of puts status) 0 puts status w e v
    (record { pc = ap (λ (m : State). m.pc) began; registers = ap (λ (m : State). length m.registers) began; early = omega arith })
    (omega arith) refl (subst (λ (n : ℕ). Run (text_of puts status) n w e v) (text_length puts status) h)
