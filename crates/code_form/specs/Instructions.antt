-- The other instructions: loads, stores and moves, jumps, calls of the environment and of functions, and those that take and give
-- back a frame (RISC-V unprivileged manual, "RV32I"; which registers they use is the profile's choice).
use Rattle.std.specs.Prelude.{ℕ, ◌+◌, ◌*◌, ◌/◌, ◌%◌, ◌^◌, ◌-◌, nat_lt, if◌then◌else◌, ℤ, pos, negsuc, ◌-ℤ◌, List, [], ◌∷◌, ◌++◌}
use Rattle.std.specs.Int.{w32, cast_signed}
use Rattle.word_ops.specs.declared.operation.Width.{Width}
use Rattle.word_ops.specs.declared.operation.Width.TheVariants as widths
use Rattle.term_form.specs.declared.listing.StoreWidth.{StoreWidth}
use Rattle.term_form.specs.declared.listing.StoreWidth.TheVariants as stores
use Rattle.rv_table.specs.declared.row.Row.{Row}
use Rattle.rv_table.specs.declared.row.Row.TheVariants as rows
use Rattle.rv_table.specs.Fields.{sign}
use Rattle.code_form.specs.declared.code.Operand.{Operand}
use Rattle.code_form.specs.declared.code.Operand.TheVariants.{Fixed}
use Rattle.code_form.specs.declared.code.Loose.{Loose}
use Rattle.code_form.specs.Registers.{x0, stack_pointer}
use Rattle.code_form.specs.Patterns.{on_registers, on_immediate, one}

-- ---- loads, stores and moves

abbrev pub row_of_load : Width → Row
row_of_load widths.U8 = rows.Lbu
row_of_load widths.S8 = rows.Lb
row_of_load widths.U16 = rows.Lhu
row_of_load widths.S16 = rows.Lh
row_of_load widths.Word = rows.Lw

abbrev pub row_of_store : StoreWidth → Row
row_of_store stores.Byte = rows.Sb
row_of_store stores.Half = rows.Sh
row_of_store stores.Word = rows.Sw

abbrev pub load : Width → (d a : Operand) → (offset : ℤ) → Loose
load k d a n = on_immediate (row_of_load k) d a n

abbrev pub store : StoreWidth → (a b : Operand) → (offset : ℤ) → Loose
store k a' b' n = record { row = row_of_store k; d = x0; a = a'; b = b'; imm = n }

-- a small constant into a register
abbrev pub set : (register : ℕ) → ℤ → Loose
set n k = on_immediate rows.Addi (Fixed n) x0 k

abbrev pub move_to : (to from : Operand) → Loose
move_to d s = on_immediate rows.Addi d s (pos 0)

-- ---- calls of the environment, and jumps

abbrev pub environment : Loose
environment = on_registers rows.Ecall x0 x0 x0

abbrev pub jump_to : (block : ℕ) → Loose
jump_to k = on_immediate rows.Jal x0 x0 (pos k)

-- where a word is not 0
abbrev pub branch_to : Operand → (block : ℕ) → Loose
branch_to a' k = record { row = rows.Bne; d = x0; a = a'; b = x0; imm = pos k }

abbrev pub call_to : (function : ℕ) → Loose
call_to f = on_immediate rows.Jal (Fixed 1) x0 (pos f)

-- to the end of a run where no further call may be nested
abbrev pub unless_deep : Loose
unless_deep = record { row = rows.Beq; d = x0; a = Fixed 3; b = x0; imm = pos 0 }

-- so many more calls may be nested
abbrev pub calls_left : ℤ → Loose
calls_left k = on_immediate rows.Addi (Fixed 3) (Fixed 3) k

abbrev pub return_to_link : Loose
return_to_link = on_immediate rows.Jalr x0 (Fixed 1) (pos 0)

-- a function is called from inside another: where a further call may be nested one less is left, and behind it one more again
abbrev pub nested_call : (function : ℕ) → (behind : List Loose) → List Loose
nested_call f behind = unless_deep ∷ calls_left (negsuc 0) ∷ call_to f ∷ calls_left (pos 1) ∷ behind

-- ---- constants

-- the two parts of a word, which LUI and ADDI, or AUIPC and JALR, put together: the lower one has 12 bits with a sign
abbrev pub upper_part : ℕ → ℤ
upper_part n = cast_signed w32 ((n + 2 ^ 11) / 2 ^ 12 * 2 ^ 12 % 2 ^ 32)

abbrev pub lower_part : ℕ → ℤ
lower_part n = sign (2 ^ 11) (n % 2 ^ 12)

-- the upper part in a register
abbrev pub upper_into : (register : ℕ) → ℕ → Loose
upper_into r n = on_immediate rows.Lui (Fixed r) x0 (upper_part n)

abbrev pub constant_words : (register : ℕ) → ℕ → List Loose
constant_words r n = upper_into r n ∷ on_immediate rows.Addi (Fixed r) (Fixed r) (lower_part n) ∷ []

-- ---- frames

-- the scratch register of numbers that no immediate holds, and of far jumps
abbrev pub far : ℕ
far = 31

-- so many bytes are added to the stack pointer, or as many as a register has
abbrev pub add_to_stack : ℕ → Loose
add_to_stack n = on_immediate rows.Addi stack_pointer stack_pointer (pos n)

abbrev pub add_register_to_stack : (register : ℕ) → Loose
add_register_to_stack r = on_registers rows.Add stack_pointer stack_pointer (Fixed r)

-- a frame of so many bytes is taken below that of the caller
abbrev pub take_frame : (bytes : ℕ) → List Loose
take_frame n =
    if nat_lt n (2 ^ 11) then one (on_immediate rows.Addi stack_pointer stack_pointer (pos 0 -ℤ pos n)) else constant_words far (2 ^ 32 - n) ++ one (add_register_to_stack far)

-- a register is kept at an offset from the stack pointer
abbrev pub keep_register : (register offset : ℕ) → List Loose
keep_register r o =
    if nat_lt o (2 ^ 11) then one (store stores.Word stack_pointer (Fixed r) (pos o))
    else upper_into far o ∷ on_registers rows.Add (Fixed far) (Fixed far) stack_pointer ∷ store stores.Word (Fixed far) (Fixed r) (lower_part o) ∷ []

-- as a function is entered: its frame is taken, and the return address kept at this offset
abbrev pub entry_words : (frame link : ℕ) → List Loose
entry_words frame link = take_frame frame ++ keep_register 1 link
