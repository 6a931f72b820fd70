-- Laws of states that a machine can be in: where an image is loaded they begin, and every step keeps them, over any source
-- and any sink. They are proofs: a contract cites none of them but the carrier `sound_laws`.
use Rattle.std.proofs.Common.{◌≡◌, refl, sym, ap, ◌∙◌, subst, ℕ, zero, suc, ◌-◌, ◌*◌, ◌≤◌, ◌<◌, Bool, true, false, ℤ, pos, negsuc, List, [], ◌∷◌, length, set, arith}
use Rattle.std.proofs.lemmas.Bool.{eqb-true}
use Rattle.std.proofs.lemmas.Nat.{or_lt, xor_lt, and_le_l}
use Rattle.std.proofs.lemmas.List.{length-replicate}
use Rattle.std.proofs.lemmas.List.Elements.{All-set, All-replicate, All-append}
use Rattle.std.specs.Prelude.{Option, Some, None, ◌/◌, ◌%◌, ◌^◌, ◌==◌, if◌then◌else◌}
use Rattle.std.specs.Int.{w32, cast_unsigned}
use Rattle.word_ops.specs.declared.operation.Op.{Op}
use Rattle.word_ops.specs.declared.operation.Op.TheVariants as op
use Rattle.word_ops.specs.declared.operation.Width.TheVariants.{U8, S8, U16, S16, Word}
use Rattle.word_ops.specs.Operation.{machine_word}
use Rattle.word_ops.specs.Laws.Operations.{machine_word-small}
use Rattle.word_ops.specs.Laws.Widths.{narrowed_to-small}
use Rattle.image_form.specs.declared.image.Image.{Image}
use Rattle.image_form.specs.Limits.{IsImage, IsWithinLimits}
use Rattle.rv_table.specs.declared.row.Row.{Row}
use Rattle.rv_table.specs.declared.row.Row.TheVariants.{Lui, Auipc, Jal, Jalr, Beq, Bne, Blt, Bge, Bltu, Bgeu, Lb, Lh, Lw, Lbu, Lhu, Sb, Sh, Sw, Addi, Slti, Sltiu, Xori, Ori, Andi, Slli, Srli, Srai, Add, Sub, Sll, Slt, Sltu, Xor, Srl, Sra, Or, And, Mul, Mulh, Mulhsu, Mulhu, Div, Divu, Rem, Remu, Fence, Ecall, Ebreak}
use Rattle.rv_table.specs.declared.table.Format.{Format}
use Rattle.rv_table.specs.declared.table.Format.TheVariants.{R, I, S, B, U, J, Shift, Whole}
use Rattle.rv_table.specs.declared.instruction.Instr.{Instr}
use Rattle.rv_table.specs.Table.{format}
use Rattle.rv_table.specs.Fields.{Fits, Within}
use Rattle.rv_table.specs.Instruction.{Valid}
use Rattle.rv_table.specs.Laws.Immediates.{cast_unsigned-within}
use Rattle.rv_machine.specs.declared.answer.Stepped.{Stepped}
use Rattle.rv_machine.specs.declared.answer.Stepped.TheVariants.{Going, Exit, Deep, Trap, ReadFault, WriteFault}
use Rattle.rv_machine.specs.declared.answer.End.{End}
use Rattle.rv_machine.specs.declared.answer.End.TheVariants as ended
use Rattle.rv_machine.specs.State.{State, register_of, with_register, following}
use Rattle.rv_machine.specs.Arithmetic as words
use Rattle.rv_machine.specs.Bytes.{byte_in, half_in, word_in, signed_byte_in, signed_half_in, with_byte, with_half, with_word, number_in, with_number}
use Rattle.rv_machine.specs.Effect.{Action, Goes, Gets, Puts, Exits, Deepens, Traps, moves, writes, jumps, branches, accesses, place_of, loads, stores, calls, effect}
use Rattle.rv_machine.specs.Step.{instruction_at, performs, step_of}
use Rattle.rv_machine.specs.Start.{start}
use Rattle.rv_machine.specs.Run.{World, answered, byte_or_end, Acts, Steps, Went, Ended, Run}
use Rattle.rv_machine.specs.After.{Moment, gets, acts, goes_on, next, after}
use Rattle.rv_machine.specs.Sound.{AreWords, AreBytes, IsSound, LiesAs}
use Rattle.rv_machine.specs.Laws.Bytes.{byte_in-narrowed, half_in-narrowed, word_in-narrowed, signed_byte_in-narrowed, signed_half_in-narrowed, with_half-number, with_word-number, length-with_number, AreBytes-with_number}
use Rattle.rv_machine.specs.Laws.Registers.{register_in-word, length-with_register}
use Rattle.rv_machine.specs.Laws.Arithmetic.{less-word, less_unsigned-word, shifted_right_signed-word, quotient-word, remainder-word, high_product-small, high_product_mixed-small, high_product_unsigned-small}
use Rattle.rv_machine.specs.Laws.Instructions.{step_of-instruction, instruction_at-valid}

-- ---- registers

with_register_words : (registers : List ℕ) (n word : ℕ) → AreWords registers → word < 2 ^ 32 → AreWords (with_register registers n word)
with_register_words registers n word h b = pick (n == 0)
  where
    pick : (t : Bool) → AreWords (if t then registers else set registers n word)
    pick true = h
    pick false = All-set (λ w. w < 2 ^ 32) registers n word b h

-- ---- what an action leaves

-- a state that is sound, with a memory where it was
abbrev Kept : State → State → Type 0
Kept m m' = IsSound m' × LiesAs m m'

kept_on : (m n k : State) → Kept m n → Kept n k → Kept m k
kept_on m n k (s, l) (t, r) = (t, record { base = r.base ∙ l.base; size = r.size ∙ l.size })

kept_as : (m : State) → IsSound m → Kept m m
kept_as m s = (s, record { base = refl; size = refl })

abbrev Keeps : State → Action → Type 0
Keeps m (Goes m') = Kept m m'
Keeps m Gets = Unit {0}
Keeps m (Puts byte) = byte < 2 ^ 8
Keeps m (Exits status) = Unit {0}
Keeps m Deepens = Unit {0}
Keeps m (Traps pc) = Unit {0}

-- on to an address, with registers that were written and a memory that was written
went_to : (m : State) (registers' : List ℕ) (to : ℕ) (memory' : List ℕ) → length registers' ≡ 32 → AreWords registers' → to < 2 ^ 32 → to % 4 ≡ 0 → length memory' ≡ length m.memory → AreBytes memory' → Keeps m (Goes (record { registers = registers'; pc = to; base = m.base; memory = memory' }))
went_to m registers' to memory' count' words' to_word to_step size' bytes' =
    (record { count = count'; registers = words'; pc = to_word; pc_step = to_step; memory = bytes' }, record { base = refl; size = size' })

following_step : (pc : ℕ) → pc % 4 ≡ 0 → following pc % 4 ≡ 0
following_step pc h = omega (arith, h)

moves_keeps : (m : State) (to : ℕ) → IsSound m → to < 2 ^ 32 → to % 4 ≡ 0 → Keeps m (moves m to)
moves_keeps m to s b t = went_to m m.registers to m.memory s.count s.registers b t refl s.memory

-- a register is written, and on to an address
links_keeps : (m : State) (rd word to : ℕ) → IsSound m → word < 2 ^ 32 → to < 2 ^ 32 → to % 4 ≡ 0 → Keeps m (Goes (record { registers = with_register m.registers rd word; pc = to; base = m.base; memory = m.memory }))
links_keeps m rd word to s h b t =
    went_to m (with_register m.registers rd word) to m.memory (length-with_register m.registers rd word ∙ s.count) (with_register_words m.registers rd word s.registers h) b t refl s.memory

writes_keeps : (m : State) (rd word : ℕ) → IsSound m → word < 2 ^ 32 → Keeps m (writes m rd word)
writes_keeps m rd word s h = links_keeps m rd word (following m.pc) s h (omega arith) (following_step m.pc s.pc_step)

jumps_keeps : (m : State) (rd to : ℕ) → IsSound m → to < 2 ^ 32 → Keeps m (jumps m rd to)
jumps_keeps m rd to s b = pick (to % 4 == 0) refl
  where
    pick : (t : Bool) → (to % 4 == 0) ≡ t → Keeps m (if t then Goes (record { registers = with_register m.registers rd (following m.pc); pc = to; base = m.base; memory = m.memory }) else Traps m.pc)
    pick true e = links_keeps m rd (following m.pc) to s (omega arith) b (eqb-true (to % 4) 0 e)
    pick false e = tt

branches_keeps : (m : State) (taken : Bool) (to : ℕ) → IsSound m → to < 2 ^ 32 → Keeps m (branches m taken to)
branches_keeps m false to s b = moves_keeps m (following m.pc) s (omega arith) (following_step m.pc s.pc_step)
branches_keeps m true to s b = pick (to % 4 == 0) refl
  where
    pick : (t : Bool) → (to % 4 == 0) ≡ t → Keeps m (if t then moves m to else Traps m.pc)
    pick true e = moves_keeps m to s b (eqb-true (to % 4) 0 e)
    pick false e = tt

accesses_keeps : (m : State) (place : Option ℕ) (act : ℕ → Action) → ((k : ℕ) → Keeps m (act k)) → Keeps m (accesses m place act)
accesses_keeps m None act h = tt
accesses_keeps m (Some k) act h = h k

loads_keeps : (m : State) (rd size at : ℕ) (reading : List ℕ → ℕ → ℕ) → IsSound m → ((k : ℕ) → reading m.memory k < 2 ^ 32) → Keeps m (loads m rd size at reading)
loads_keeps m rd size at reading s h =
    accesses_keeps m (place_of m.base (length m.memory) size at) (λ k. writes m rd (reading m.memory k)) (λ k. writes_keeps m rd (reading m.memory k) s (h k))

stores_keeps : (m : State) (size at count : ℕ) (writing : List ℕ → ℕ → List ℕ) (word : ℕ) → IsSound m → ((k : ℕ) → writing m.memory k ≡ with_number count word m.memory k) → Keeps m (stores m size at writing)
stores_keeps m size at count writing word s h =
    accesses_keeps m (place_of m.base (length m.memory) size at) (λ k. Goes (record { registers = m.registers; pc = following m.pc; base = m.base; memory = writing m.memory k })) (λ k. went_to m m.registers (following m.pc) (writing m.memory k) s.count s.registers (omega arith) (following_step m.pc s.pc_step) (ap length (h k) ∙ length-with_number count word m.memory k) (subst AreBytes (sym (h k)) (AreBytes-with_number count word m.memory k s.memory)))

calls_keeps : (m : State) → Keeps m (calls m)
calls_keeps m = pick (register_of m 17 == 1) (register_of m 17 == 2) (register_of m 17 == 3) (register_of m 17 == 4)
  where
    pick : (a b c d : Bool) → Keeps m (if a then Gets else if b then Puts (register_of m 10 % 2 ^ 8) else if c then Exits (register_of m 10 % 2 ^ 8) else if d then Deepens else Traps m.pc)
    pick true b c d = tt
    pick false true c d = omega arith
    pick false false true d = tt
    pick false false false true = tt
    pick false false false false = tt

-- ---- what instructions compute are words

of_operation : (o : Op) (n a b : ℕ) → n ≡ machine_word o a b → a < 2 ^ 32 → b < 2 ^ 32 → n < 2 ^ 32
of_operation o n a b e h i = rw e (machine_word-small o a b h i)

effect_keeps : (row : Row) (rd k a b : ℕ) (m : State) → IsSound m → k < 2 ^ 32 → a < 2 ^ 32 → b < 2 ^ 32 → Keeps m (effect row rd k a b m)
effect_keeps Lui rd k a b m s h i j = writes_keeps m rd k s h
effect_keeps Auipc rd k a b m s h i j = writes_keeps m rd (words.sum m.pc k) s (omega arith)
effect_keeps Jal rd k a b m s h i j = jumps_keeps m rd (words.sum m.pc k) s (omega arith)
effect_keeps Jalr rd k a b m s h i j = jumps_keeps m rd (words.sum a k / 2 * 2) s (omega arith)
effect_keeps Beq rd k a b m s h i j = branches_keeps m _ (words.sum m.pc k) s (omega arith)
effect_keeps Bne rd k a b m s h i j = branches_keeps m _ (words.sum m.pc k) s (omega arith)
effect_keeps Blt rd k a b m s h i j = branches_keeps m _ (words.sum m.pc k) s (omega arith)
effect_keeps Bge rd k a b m s h i j = branches_keeps m _ (words.sum m.pc k) s (omega arith)
effect_keeps Bltu rd k a b m s h i j = branches_keeps m _ (words.sum m.pc k) s (omega arith)
effect_keeps Bgeu rd k a b m s h i j = branches_keeps m _ (words.sum m.pc k) s (omega arith)
effect_keeps Lb rd k a b m s h i j = loads_keeps m rd 1 (words.sum a k) signed_byte_in s (λ x. rw (signed_byte_in-narrowed m.memory x s.memory) (narrowed_to-small S8 (number_in 1 m.memory x)))
effect_keeps Lh rd k a b m s h i j = loads_keeps m rd 2 (words.sum a k) signed_half_in s (λ x. rw (signed_half_in-narrowed m.memory x s.memory) (narrowed_to-small S16 (number_in 2 m.memory x)))
effect_keeps Lw rd k a b m s h i j = loads_keeps m rd 4 (words.sum a k) word_in s (λ x. rw (word_in-narrowed m.memory x s.memory) (narrowed_to-small Word (number_in 4 m.memory x)))
effect_keeps Lbu rd k a b m s h i j = loads_keeps m rd 1 (words.sum a k) byte_in s (λ x. rw (byte_in-narrowed m.memory x s.memory) (narrowed_to-small U8 (number_in 1 m.memory x)))
effect_keeps Lhu rd k a b m s h i j = loads_keeps m rd 2 (words.sum a k) half_in s (λ x. rw (half_in-narrowed m.memory x s.memory) (narrowed_to-small U16 (number_in 2 m.memory x)))
effect_keeps Sb rd k a b m s h i j = stores_keeps m 1 (words.sum a k) 1 (with_byte b) b s (λ x. refl)
effect_keeps Sh rd k a b m s h i j = stores_keeps m 2 (words.sum a k) 2 (with_half b) b s (λ x. with_half-number b m.memory x)
effect_keeps Sw rd k a b m s h i j = stores_keeps m 4 (words.sum a k) 4 (with_word b) b s (λ x. with_word-number b m.memory x)
effect_keeps Addi rd k a b m s h i j = writes_keeps m rd (words.sum a k) s (of_operation op.Add (words.sum a k) a k (refl) i h)
effect_keeps Slti rd k a b m s h i j = writes_keeps m rd (words.less a k) s (of_operation op.Lts (words.less a k) a k (less-word a k) i h)
effect_keeps Sltiu rd k a b m s h i j = writes_keeps m rd (words.less_unsigned a k) s (of_operation op.Ltu (words.less_unsigned a k) a k (less_unsigned-word a k) i h)
effect_keeps Xori rd k a b m s h i j = writes_keeps m rd _ s (xor_lt 32 a k i h)
effect_keeps Ori rd k a b m s h i j = writes_keeps m rd _ s (or_lt 32 a k i h)
effect_keeps Andi rd k a b m s h i j = writes_keeps m rd _ s (omega (arith, and_le_l a k, i))
effect_keeps Slli rd k a b m s h i j = writes_keeps m rd (words.shifted_left a k) s (of_operation op.Shl (words.shifted_left a k) a k (refl) i h)
effect_keeps Srli rd k a b m s h i j = writes_keeps m rd (words.shifted_right a k) s (of_operation op.Shru (words.shifted_right a k) a k (refl) i h)
effect_keeps Srai rd k a b m s h i j = writes_keeps m rd (words.shifted_right_signed a k) s (of_operation op.Shrs (words.shifted_right_signed a k) a k (shifted_right_signed-word a k i) i h)
effect_keeps Add rd k a b m s h i j = writes_keeps m rd (words.sum a b) s (of_operation op.Add (words.sum a b) a b (refl) i j)
effect_keeps Sub rd k a b m s h i j = writes_keeps m rd (words.difference a b) s (of_operation op.Sub (words.difference a b) a b (refl) i j)
effect_keeps Sll rd k a b m s h i j = writes_keeps m rd (words.shifted_left a b) s (of_operation op.Shl (words.shifted_left a b) a b (refl) i j)
effect_keeps Slt rd k a b m s h i j = writes_keeps m rd (words.less a b) s (of_operation op.Lts (words.less a b) a b (less-word a b) i j)
effect_keeps Sltu rd k a b m s h i j = writes_keeps m rd (words.less_unsigned a b) s (of_operation op.Ltu (words.less_unsigned a b) a b (less_unsigned-word a b) i j)
effect_keeps Xor rd k a b m s h i j = writes_keeps m rd _ s (xor_lt 32 a b i j)
effect_keeps Srl rd k a b m s h i j = writes_keeps m rd (words.shifted_right a b) s (of_operation op.Shru (words.shifted_right a b) a b (refl) i j)
effect_keeps Sra rd k a b m s h i j = writes_keeps m rd (words.shifted_right_signed a b) s (of_operation op.Shrs (words.shifted_right_signed a b) a b (shifted_right_signed-word a b i) i j)
effect_keeps Or rd k a b m s h i j = writes_keeps m rd _ s (or_lt 32 a b i j)
effect_keeps And rd k a b m s h i j = writes_keeps m rd _ s (omega (arith, and_le_l a b, i))
effect_keeps Mul rd k a b m s h i j = writes_keeps m rd (words.product a b) s (of_operation op.Mul (words.product a b) a b (refl) i j)
effect_keeps Mulh rd k a b m s h i j = writes_keeps m rd (words.high_product a b) s (high_product-small a b i j)
effect_keeps Mulhsu rd k a b m s h i j = writes_keeps m rd (words.high_product_mixed a b) s (high_product_mixed-small a b i j)
effect_keeps Mulhu rd k a b m s h i j = writes_keeps m rd (words.high_product_unsigned a b) s (high_product_unsigned-small a b i j)
effect_keeps Div rd k a b m s h i j = writes_keeps m rd (words.quotient a b) s (of_operation op.Divs (words.quotient a b) a b (quotient-word a b i) i j)
effect_keeps Divu rd k a b m s h i j = writes_keeps m rd (words.quotient_unsigned a b) s (of_operation op.Divu (words.quotient_unsigned a b) a b (refl) i j)
effect_keeps Rem rd k a b m s h i j = writes_keeps m rd (words.remainder a b) s (of_operation op.Rems (words.remainder a b) a b (remainder-word a b i) i j)
effect_keeps Remu rd k a b m s h i j = writes_keeps m rd (words.remainder_unsigned a b) s (of_operation op.Remu (words.remainder_unsigned a b) a b (refl) i j)
effect_keeps Fence rd k a b m s h i j = moves_keeps m (following m.pc) s (omega arith) (following_step m.pc s.pc_step)
effect_keeps Ecall rd k a b m s h i j = calls_keeps m
effect_keeps Ebreak rd k a b m s h i j = tt

-- ---- the immediate of a valid instruction is a word

within_more : (half : ℕ) (z : ℤ) → half ≤ 2 ^ 31 → Within half z → Within (2 ^ 31) z
within_more half (pos n) h w = omega (arith, h, w)
within_more half (negsuc n) h w = omega (arith, h, w)

fits_within : (f : Format) (i : Instr) → Fits f i → Within (2 ^ 31) i.imm
fits_within R i h = rw h (omega arith)
fits_within I i h = within_more (2 ^ 11) i.imm (omega arith) h.1
fits_within S i h = within_more (2 ^ 11) i.imm (omega arith) h.1
fits_within B i h = within_more (2 ^ 12) i.imm (omega arith) h.1
fits_within U i h = h.2
fits_within J i h = within_more (2 ^ 20) i.imm (omega arith) h.2
fits_within Shift i h = rw h.1 (omega arith)
fits_within Whole i h = rw h.3 (omega arith)

pub immediate-word : (i : Instr) → Valid i → cast_unsigned w32 i.imm < 2 ^ 32
immediate-word i v = cast_unsigned-within i.imm (fits_within (format i.row) i v.fits)

-- ---- steps

performs_keeps : (m : State) (o : Option Instr) → IsSound m → ((i : Instr) → o ≡ Some i → Valid i) → Keeps m (performs m o)
performs_keeps m None s v = tt
performs_keeps m (Some i) s v =
    effect_keeps i.row i.rd (cast_unsigned w32 i.imm) (register_of m i.rs1) (register_of m i.rs2) m s (immediate-word i (v i refl)) (register_in-word m.registers i.rs1 s.registers) (register_in-word m.registers i.rs2 s.registers)

step_keeps : (text : List ℕ) (m : State) → AreWords text → IsSound m → Keeps m (step_of text m)
step_keeps text m h s =
    subst (Keeps m) (sym (step_of-instruction text m)) (performs_keeps m (instruction_at text m.pc) s (λ i e. (instruction_at-valid text m.pc i h e).0))

pub step_of-sound : (text : List ℕ) (m m' : State) → AreWords text → IsSound m → step_of text m ≡ Goes m' → IsSound m' × LiesAs m m'
step_of-sound text m m' h s e = subst (Keeps m) e (step_keeps text m h s)

-- a byte that is put out is one
pub step_of-puts : (text : List ℕ) (m : State) (byte : ℕ) → AreWords text → IsSound m → step_of text m ≡ Puts byte → byte < 2 ^ 8
step_of-puts text m byte h s e = subst (Keeps m) e (step_keeps text m h s)

-- past a call
answered_kept : (m : State) (word : ℕ) → IsSound m → word < 2 ^ 32 → Kept m (answered m word)
answered_kept m word s h = writes_keeps m 10 word s h

byte_or_end_word : (byte : Option ℕ) → byte_or_end byte < 2 ^ 32
byte_or_end_word None = omega arith
byte_or_end_word (Some byte) = omega arith

byte_word : (byte : ℕ) → byte < 2 ^ 8 → byte < 2 ^ 32
byte_word byte h = omega (arith, h)

-- ---- on input that is told

gets_kept : (w : Moment) (input : List ℕ) → IsSound w.state → Kept w.state (gets w input).state
gets_kept w [] s = answered_kept w.state (byte_or_end None) s (byte_or_end_word None)
gets_kept w (byte ∷ input) s = answered_kept w.state (byte_or_end (Some byte)) s (byte_or_end_word (Some byte))

acts_kept : (w : Moment) (action : Action) → IsSound w.state → Keeps w.state action → Kept w.state (acts w action).state
acts_kept w (Goes m) s k = k
acts_kept w Gets s k = gets_kept w w.left s
acts_kept w (Puts byte) s k = answered_kept w.state byte s (byte_word byte k)
acts_kept w (Exits status) s k = kept_as w.state s
acts_kept w Deepens s k = kept_as w.state s
acts_kept w (Traps pc) s k = kept_as w.state s

goes_on_kept : (text : List ℕ) (w : Moment) (answer : Stepped) → AreWords text → IsSound w.state → Kept w.state (goes_on text w answer).state
goes_on_kept text w Going h s = acts_kept w (step_of text w.state) s (step_keeps text w.state h s)
goes_on_kept text w (Exit status) h s = kept_as w.state s
goes_on_kept text w Deep h s = kept_as w.state s
goes_on_kept text w (Trap pc) h s = kept_as w.state s
goes_on_kept text w ReadFault h s = kept_as w.state s
goes_on_kept text w WriteFault h s = kept_as w.state s

pub after-sound : (text : List ℕ) (n : ℕ) (w : Moment) → AreWords text → IsSound w.state → IsSound (after text n w).state × LiesAs w.state (after text n w).state
unfolding after next
after-sound text zero w h s = kept_as w.state s
after-sound text (suc n) w h s =
    let before : Kept w.state (after text n w).state = after-sound text n w h s in
    kept_on w.state (after text n w).state (after text (suc n) w).state before (goes_on_kept text (after text n w) (after text n w).answer h before.0)

-- ---- over any source and any sink

state_is : (w v : World) (m : State) → v.state ≡ m → Kept w.state m → Kept w.state v.state
state_is w v m e k = subst (Kept w.state) (sym e) k

stays : (w v : World) → v.state ≡ w.state → IsSound w.state → Kept w.state v.state
stays w v e s = state_is w v w.state e (kept_as w.state s)

Acts_kept : (action : Action) (w v : World) (answer : Stepped) → IsSound w.state → Keeps w.state action → Acts action w answer v → Kept w.state v.state
Acts_kept (Goes m) w v answer s k (is, e) = state_is w v m (ap (λ (x : World). x.state) e) k
Acts_kept Gets w v Going s k (byte, taken, e) = state_is w v (answered w.state (byte_or_end byte)) (ap (λ (x : World). x.state) e) (answered_kept w.state (byte_or_end byte) s (byte_or_end_word byte))
Acts_kept Gets w v ReadFault s k (later, rose, e) = stays w v (ap (λ (x : World). x.state) e) s
Acts_kept Gets w v (Exit status) s k h = absurd h
Acts_kept Gets w v Deep s k h = absurd h
Acts_kept Gets w v (Trap pc) s k h = absurd h
Acts_kept Gets w v WriteFault s k h = absurd h
Acts_kept (Puts byte) w v Going s k (put, e) = state_is w v (answered w.state byte) (ap (λ (x : World). x.state) e) (answered_kept w.state byte s (byte_word byte k))
Acts_kept (Puts byte) w v WriteFault s k (put, later, rose, e) = stays w v (ap (λ (x : World). x.state) e) s
Acts_kept (Puts byte) w v (Exit status) s k h = absurd h
Acts_kept (Puts byte) w v Deep s k h = absurd h
Acts_kept (Puts byte) w v (Trap pc) s k h = absurd h
Acts_kept (Puts byte) w v ReadFault s k h = absurd h
Acts_kept (Exits status) w v answer s k (is, e) = stays w v (ap (λ (x : World). x.state) e) s
Acts_kept Deepens w v answer s k (is, e) = stays w v (ap (λ (x : World). x.state) e) s
Acts_kept (Traps pc) w v answer s k (is, e) = stays w v (ap (λ (x : World). x.state) e) s

pub Steps-sound : (text : List ℕ) (w v : World) (answer : Stepped) → AreWords text → IsSound w.state → Steps text w answer v → IsSound v.state × LiesAs w.state v.state
unfolding Steps
Steps-sound text w v answer h s t = Acts_kept (step_of text w.state) w v answer s (step_keeps text w.state h s) t

pub Went-sound : (text : List ℕ) (n : ℕ) (w v : World) → AreWords text → IsSound w.state → Went text n w v → IsSound v.state × LiesAs w.state v.state
unfolding Went
Went-sound text zero w v h s e = stays w v (ap (λ (x : World). x.state) e) s
Went-sound text (suc n) w v h s (u, before, last) =
    let there : Kept w.state u.state = Went-sound text n w u h s before in
    kept_on w.state u.state v.state there (Steps-sound text u v Going h there.0 last)

ended_kept : (text : List ℕ) (n : ℕ) (w v : World) (answer : Stepped) → AreWords text → IsSound w.state → Ended text n w answer v → Kept w.state v.state
ended_kept text n w v answer h s e =
    let there : Kept w.state e.before.state = Went-sound text e.steps w e.before h s e.went in
    kept_on w.state e.before.state v.state there (Steps-sound text e.before v answer h there.0 e.last)

pub Run-sound : (text : List ℕ) (n : ℕ) (w v : World) (end : End) → AreWords text → IsSound w.state → Run text n w end v → IsSound v.state × LiesAs w.state v.state
Run-sound text n w v ended.Spent h s e = Went-sound text n w v h s e
Run-sound text n w v (ended.Exit status) h s e = ended_kept text n w v (Exit status) h s e
Run-sound text n w v ended.Deep h s e = ended_kept text n w v Deep h s e
Run-sound text n w v (ended.Trap pc) h s e = ended_kept text n w v (Trap pc) h s e
Run-sound text n w v ended.ReadFault h s e = ended_kept text n w v ReadFault h s e
Run-sound text n w v ended.WriteFault h s e = ended_kept text n w v WriteFault h s e

-- ---- where they begin

pub start-sound : (image : Image) → IsImage image → IsWithinLimits image → IsSound (start image)
start-sound image i l = record {
  count = length-replicate {A = ℕ} 32 0;
  registers = All-replicate (λ w. w < 2 ^ 32) 32 0 (omega arith);
  pc = i.entry;
  pc_step = l.entry_step;
  memory = All-append (λ b. b < 2 ^ 8) image.statics _ i.statics (All-replicate (λ b. b < 2 ^ 8) _ 0 (omega arith));
}
