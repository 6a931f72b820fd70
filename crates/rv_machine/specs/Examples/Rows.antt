-- Instructions on words, computed: words of the GNU assembler, the words of x5 and x6 before, and the word of x7 after them,
-- or whether the branch is taken, as qemu-riscv32 gives it.
use Rattle.std.specs.Prelude.{◌≡◌, ℕ, Bool, true, false, if◌then◌else◌, List, [], ◌∷◌, map, replicate, Option, Some, None, refl}
use Rattle.rv_table.specs.Instruction.{decode_of, row_of}
use Rattle.rv_machine.specs.State.{State, register_of}
use Rattle.rv_machine.specs.Effect.{Action, Goes}
use Rattle.rv_machine.specs.Step.{performs}

-- an instruction that writes x7, and a branch to .+8
pub record Computing : Type 0 where
  pub word : ℕ
  pub x5 : ℕ
  pub x6 : ℕ
  pub x7 : ℕ

pub record Branching : Type 0 where
  pub word : ℕ
  pub x5 : ℕ
  pub x6 : ℕ
  pub taken : Bool

abbrev pub computing : (word x5 x6 x7 : ℕ) → Computing
computing word x5 x6 x7 = record { word = word; x5 = x5; x6 = x6; x7 = x7 }

abbrev pub branching : (word x5 x6 : ℕ) → Bool → Branching
branching word x5 x6 taken = record { word = word; x5 = x5; x6 = x6; taken = taken }

-- a machine of no memory, with these words in x5 and x6 and 77 in x7
abbrev pub with_words : (x5 x6 : ℕ) → State
with_words x5 x6 = record { registers = 0 ∷ 0 ∷ 0 ∷ 0 ∷ 0 ∷ x5 ∷ x6 ∷ 77 ∷ replicate 24 0; pc = 0x10000; base = 0x10010; memory = [] }

abbrev pub after_word : (word x5 x6 : ℕ) → Action
after_word word x5 x6 = performs (with_words x5 x6) (decode_of word)

abbrev pub x7_of : Action → Option ℕ
x7_of (Goes m) = Some (register_of m 7)
x7_of other = None

abbrev pub pc_of : Action → Option ℕ
pc_of (Goes m) = Some m.pc
pc_of other = None

-- what x7 has then
abbrev pub computations : List Computing
computations =
    computing 0x6283b3 0xffffffff 1 0  -- add x7, x5, x6
    ∷ computing 0x6283b3 0x7fffffff 1 0x80000000  -- add x7, x5, x6
    ∷ computing 0x6283b3 0x80000000 0x80000000 0  -- add x7, x5, x6
    ∷ computing 0x406283b3 0 1 0xffffffff  -- sub x7, x5, x6
    ∷ computing 0x406283b3 0x80000000 1 0x7fffffff  -- sub x7, x5, x6
    ∷ computing 0x406283b3 5 7 0xfffffffe  -- sub x7, x5, x6
    ∷ computing 0x6293b3 1 31 0x80000000  -- sll x7, x5, x6
    ∷ computing 0x6293b3 0x80000001 33 2  -- sll x7, x5, x6
    ∷ computing 0x6293b3 0xffffffff 0 0xffffffff  -- sll x7, x5, x6
    ∷ computing 0x62a3b3 0x80000000 0x7fffffff 1  -- slt x7, x5, x6
    ∷ computing 0x62a3b3 0x7fffffff 0x80000000 0  -- slt x7, x5, x6
    ∷ computing 0x62a3b3 0xffffffff 0 1  -- slt x7, x5, x6
    ∷ computing 0x62a3b3 3 3 0  -- slt x7, x5, x6
    ∷ computing 0x62b3b3 0x80000000 0x7fffffff 0  -- sltu x7, x5, x6
    ∷ computing 0x62b3b3 0x7fffffff 0x80000000 1  -- sltu x7, x5, x6
    ∷ computing 0x62b3b3 0 0xffffffff 1  -- sltu x7, x5, x6
    ∷ computing 0x62b3b3 3 3 0  -- sltu x7, x5, x6
    ∷ computing 0x62c3b3 0xff00ff00 0xff00ff0 0xf0f0f0f0  -- xor x7, x5, x6
    ∷ computing 0x62d3b3 0x80000000 31 1  -- srl x7, x5, x6
    ∷ computing 0x62d3b3 0xffffffff 36 0xfffffff  -- srl x7, x5, x6
    ∷ computing 0x62d3b3 0x80000001 0 0x80000001  -- srl x7, x5, x6
    ∷ computing 0x4062d3b3 0x80000000 31 0xffffffff  -- sra x7, x5, x6
    ∷ computing 0x4062d3b3 0x7fffffff 30 1  -- sra x7, x5, x6
    ∷ computing 0x4062d3b3 0x80000004 34 0xe0000001  -- sra x7, x5, x6
    ∷ computing 0x62e3b3 0xff00ff00 0xff00ff0 0xfff0fff0  -- or x7, x5, x6
    ∷ computing 0x62f3b3 0xff00ff00 0xff00ff0 0xf000f00  -- and x7, x5, x6
    ∷ computing 0x26283b3 0xffffffff 0xffffffff 1  -- mul x7, x5, x6
    ∷ computing 0x26283b3 0x10001 0x10001 0x20001  -- mul x7, x5, x6
    ∷ computing 0x26283b3 0x80000000 3 0x80000000  -- mul x7, x5, x6
    ∷ computing 0x26293b3 0xffffffff 0xffffffff 0  -- mulh x7, x5, x6
    ∷ computing 0x26293b3 0x80000000 0x80000000 0x40000000  -- mulh x7, x5, x6
    ∷ computing 0x26293b3 0x80000000 0x7fffffff 0xc0000000  -- mulh x7, x5, x6
    ∷ computing 0x26293b3 0x7fffffff 0x7fffffff 0x3fffffff  -- mulh x7, x5, x6
    ∷ computing 0x26293b3 0xffffffff 1 0xffffffff  -- mulh x7, x5, x6
    ∷ computing 0x26293b3 0x12345678 0x9abcdef0 0xf8cc93d6  -- mulh x7, x5, x6
    ∷ computing 0x262a3b3 0xffffffff 0xffffffff 0xffffffff  -- mulhsu x7, x5, x6
    ∷ computing 0x262a3b3 0x80000000 0xffffffff 0x80000000  -- mulhsu x7, x5, x6
    ∷ computing 0x262a3b3 0xffffffff 1 0xffffffff  -- mulhsu x7, x5, x6
    ∷ computing 0x262a3b3 1 0xffffffff 0  -- mulhsu x7, x5, x6
    ∷ computing 0x262a3b3 0x7fffffff 0xffffffff 0x7ffffffe  -- mulhsu x7, x5, x6
    ∷ computing 0x262a3b3 0x9abcdef0 0x12345678 0xf8cc93d6  -- mulhsu x7, x5, x6
    ∷ computing 0x262b3b3 0xffffffff 0xffffffff 0xfffffffe  -- mulhu x7, x5, x6
    ∷ computing 0x262b3b3 0x80000000 0x80000000 0x40000000  -- mulhu x7, x5, x6
    ∷ computing 0x262b3b3 0xffffffff 1 0  -- mulhu x7, x5, x6
    ∷ computing 0x262b3b3 0x12345678 0x9abcdef0 0xb00ea4e  -- mulhu x7, x5, x6
    ∷ computing 0x262c3b3 7 0 0xffffffff  -- div x7, x5, x6
    ∷ computing 0x262c3b3 0x80000000 0xffffffff 0x80000000  -- div x7, x5, x6
    ∷ computing 0x262c3b3 0xfffffff9 2 0xfffffffd  -- div x7, x5, x6
    ∷ computing 0x262c3b3 7 0xfffffffe 0xfffffffd  -- div x7, x5, x6
    ∷ computing 0x262c3b3 0 5 0  -- div x7, x5, x6
    ∷ computing 0x262d3b3 7 0 0xffffffff  -- divu x7, x5, x6
    ∷ computing 0x262d3b3 0x80000000 0xffffffff 0  -- divu x7, x5, x6
    ∷ computing 0x262d3b3 0xfffffff9 2 0x7ffffffc  -- divu x7, x5, x6
    ∷ computing 0x262d3b3 0xffffffff 1 0xffffffff  -- divu x7, x5, x6
    ∷ computing 0x262e3b3 7 0 7  -- rem x7, x5, x6
    ∷ computing 0x262e3b3 0x80000000 0xffffffff 0  -- rem x7, x5, x6
    ∷ computing 0x262e3b3 0xfffffff9 2 0xffffffff  -- rem x7, x5, x6
    ∷ computing 0x262e3b3 7 0xfffffffe 1  -- rem x7, x5, x6
    ∷ computing 0x262e3b3 0x80000000 0 0x80000000  -- rem x7, x5, x6
    ∷ computing 0x262f3b3 7 0 7  -- remu x7, x5, x6
    ∷ computing 0x262f3b3 0x80000000 0xffffffff 0x80000000  -- remu x7, x5, x6
    ∷ computing 0x262f3b3 0xfffffff9 2 1  -- remu x7, x5, x6
    ∷ computing 0x262f3b3 0xffffffff 16 15  -- remu x7, x5, x6
    ∷ computing 0x128393 0xffffffff 0 0  -- addi x7, x5, 1
    ∷ computing 0xfff28393 0x80000000 0 0x7fffffff  -- addi x7, x5, -1
    ∷ computing 0x80028393 0 0 0xfffff800  -- addi x7, x5, -2048
    ∷ computing 0x7ff28393 1 0 0x800  -- addi x7, x5, 2047
    ∷ computing 0x2a393 0xffffffff 0 1  -- slti x7, x5, 0
    ∷ computing 0x8002a393 0x80000000 0 1  -- slti x7, x5, -2048
    ∷ computing 0x7ff2a393 5 0 1  -- slti x7, x5, 2047
    ∷ computing 0x52a393 5 0 0  -- slti x7, x5, 5
    ∷ computing 0x2b393 0xffffffff 0 0  -- sltiu x7, x5, 0
    ∷ computing 0xfff2b393 5 0 1  -- sltiu x7, x5, -1
    ∷ computing 0x12b393 0 0 1  -- sltiu x7, x5, 1
    ∷ computing 0xfff2b393 0xffffffff 0 0  -- sltiu x7, x5, -1
    ∷ computing 0xfff2c393 255 0 0xffffff00  -- xori x7, x5, -1
    ∷ computing 0x7ff2c393 0x5a5 0 0x25a  -- xori x7, x5, 2047
    ∷ computing 0x8002e393 0 0 0xfffff800  -- ori x7, x5, -2048
    ∷ computing 0xf2e393 240 0 255  -- ori x7, x5, 15
    ∷ computing 0x8002f393 0xffffffff 0 0xfffff800  -- andi x7, x5, -2048
    ∷ computing 0xff2f393 0x1234 0 52  -- andi x7, x5, 255
    ∷ computing 0x1f29393 1 0 0x80000000  -- slli x7, x5, 31
    ∷ computing 0x129393 0x80000001 0 2  -- slli x7, x5, 1
    ∷ computing 0x29393 7 0 7  -- slli x7, x5, 0
    ∷ computing 0x1f2d393 0x80000000 0 1  -- srli x7, x5, 31
    ∷ computing 0x42d393 0xffffffff 0 0xfffffff  -- srli x7, x5, 4
    ∷ computing 0x41f2d393 0x80000000 0 0xffffffff  -- srai x7, x5, 31
    ∷ computing 0x4042d393 0x7fffffff 0 0x7ffffff  -- srai x7, x5, 4
    ∷ computing 0x4022d393 0xfffffff0 0 0xfffffffc  -- srai x7, x5, 2
    ∷ computing 0xfffff3b7 0 0 0xfffff000  -- lui x7, 0xfffff
    ∷ computing 0x123453b7 0 0 0x12345000  -- lui x7, 0x12345
    ∷ []

-- whether the branch is taken
abbrev pub branches : List Branching
branches =
    branching 0x628463 3 3 true  -- beq x5, x6, .+8
    ∷ branching 0x628463 3 4 false  -- beq x5, x6, .+8
    ∷ branching 0x629463 3 3 false  -- bne x5, x6, .+8
    ∷ branching 0x629463 3 4 true  -- bne x5, x6, .+8
    ∷ branching 0x62c463 0x80000000 0x7fffffff true  -- blt x5, x6, .+8
    ∷ branching 0x62c463 0x7fffffff 0x80000000 false  -- blt x5, x6, .+8
    ∷ branching 0x62c463 3 3 false  -- blt x5, x6, .+8
    ∷ branching 0x62c463 0xffffffff 0 true  -- blt x5, x6, .+8
    ∷ branching 0x62d463 0x80000000 0x7fffffff false  -- bge x5, x6, .+8
    ∷ branching 0x62d463 0x7fffffff 0x80000000 true  -- bge x5, x6, .+8
    ∷ branching 0x62d463 3 3 true  -- bge x5, x6, .+8
    ∷ branching 0x62d463 0 0xffffffff true  -- bge x5, x6, .+8
    ∷ branching 0x62e463 0x80000000 0x7fffffff false  -- bltu x5, x6, .+8
    ∷ branching 0x62e463 0x7fffffff 0x80000000 true  -- bltu x5, x6, .+8
    ∷ branching 0x62e463 3 3 false  -- bltu x5, x6, .+8
    ∷ branching 0x62e463 0 0xffffffff true  -- bltu x5, x6, .+8
    ∷ branching 0x62f463 0x80000000 0x7fffffff true  -- bgeu x5, x6, .+8
    ∷ branching 0x62f463 0x7fffffff 0x80000000 false  -- bgeu x5, x6, .+8
    ∷ branching 0x62f463 3 3 true  -- bgeu x5, x6, .+8
    ∷ branching 0x62f463 0xffffffff 0 true  -- bgeu x5, x6, .+8
    ∷ []

abbrev pub Computes : Type 0
Computes = map (λ (e : Computing). x7_of (after_word e.word e.x5 e.x6)) computations ≡ map (λ (e : Computing). Some e.x7) computations

pub computes : Computes
unfolding row_of
computes = refl

abbrev pub Branches : Type 0
Branches = map (λ (e : Branching). pc_of (after_word e.word e.x5 e.x6)) branches ≡ map (λ (e : Branching). Some (if e.taken then 0x10008 else 0x10004)) branches

pub goes : Branches
unfolding row_of
goes = refl
