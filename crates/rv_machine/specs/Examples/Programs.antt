-- Small images and their runs, computed: made by hand, with what the rules of the machine say of each.
use Rattle.std.specs.Prelude.{◌≡◌, ℕ, zero, suc, List, [], ◌∷◌, map, refl}
use Rattle.rv_table.specs.Instruction.{row_of}
use Rattle.image_form.specs.declared.image.Image.{Image}
use Rattle.rv_machine.specs.declared.answer.Stepped.{Stepped}
use Rattle.rv_machine.specs.declared.answer.Stepped.TheVariants.{Going, Exit, Deep, Trap, ReadFault, WriteFault}
use Rattle.rv_machine.specs.Step.{step_of}
use Rattle.rv_machine.specs.After.{Moment, next, after, machine_after}

-- an image that begins at its first word, its input, and the end and the output of its run
pub record Program : Type 0 where
  pub text : List ℕ
  pub statics : List ℕ
  pub stack : ℕ
  pub input : List ℕ
  pub ends : Stepped
  pub output : List ℕ

abbrev pub program : (text statics : List ℕ) → (stack : ℕ) → (input : List ℕ) → Stepped → (output : List ℕ) → Program
program text statics stack input ends output = record { text = text; statics = statics; stack = stack; input = input; ends = ends; output = output }

abbrev pub image_of : Program → Image
image_of p = record { text = p.text; statics = p.statics; stack = p.stack; entry = 0x10000; listing = record { records = [] } }

-- how a run ended, and what was put out
pub record Outcome : Type 0 where
  pub answer : Stepped
  pub out : List ℕ

abbrev pub outcome : Stepped → List ℕ → Outcome
outcome answer' out' = record { answer = answer'; out = out' }

abbrev pub outcome_after : ℕ → Program → Outcome
outcome_after n p = let w : Moment = machine_after (image_of p) p.input n in outcome w.answer w.out

-- each ends within 60 steps
abbrev pub programs : List Program
programs =
    -- exit takes the status modulo 256
    program (0x300893 ∷ 0x12c00513 ∷ 115 ∷ []) ([]) 16 ([]) (Exit 44) ([])
    -- a word of zeros is no instruction
    ∷ program (0 ∷ []) ([]) 16 ([]) (Trap 0x10000) ([])
    -- a store to address 0
    ∷ program (0x2023 ∷ []) ([]) 16 ([]) (Trap 0x10000) ([])
    -- the text ends
    ∷ program (19 ∷ []) ([]) 16 ([]) (Trap 0x10004) ([])
    -- breakpoint
    ∷ program (19 ∷ 0x100073 ∷ []) ([]) 16 ([]) (Trap 0x10004) ([])
    -- an unknown call
    ∷ program (0x500893 ∷ 115 ∷ []) ([]) 16 ([]) (Trap 0x10004) ([])
    -- call 0 is unknown
    ∷ program (115 ∷ []) ([]) 16 ([]) (Trap 0x10000) ([])
    -- depth
    ∷ program (0x400893 ∷ 115 ∷ []) ([]) 16 ([]) Deep ([])
    -- a jump to an address that is no multiple of 4 traps at the jump
    ∷ program (19 ∷ 0x20006f ∷ 19 ∷ []) ([]) 16 ([]) (Trap 0x10004) ([])
    -- a branch that is taken traps alike
    ∷ program (0x163 ∷ 19 ∷ []) ([]) 16 ([]) (Trap 0x10000) ([])
    -- a branch that is not taken does not trap
    ∷ program (0x1163 ∷ 0x400893 ∷ 115 ∷ []) ([]) 16 ([]) Deep ([])
    -- JALR clears bit 0, and its link is pc + 4
    ∷ program (0x102b7 ∷ 0x928367 ∷ 0x30513 ∷ 0x300893 ∷ 115 ∷ []) ([]) 16 ([]) (Exit 8) ([])
    -- a jump out of the text traps there
    ∷ program (103 ∷ []) ([]) 16 ([]) (Trap 0) ([])
    -- JALR to a half word traps at the jump
    ∷ program (0x102b7 ∷ 0xa28067 ∷ []) ([]) 16 ([]) (Trap 0x10004) ([])
    -- JAL links, and a jump back
    ∷ program (0x10002ef ∷ 0x300893 ∷ 0x28513 ∷ 115 ∷ 0x28067 ∷ []) ([]) 16 ([]) (Exit 4) ([])
    -- x0 stays 0
    ∷ program (0x500013 ∷ 0x1037 ∷ 0x100513 ∷ 0x300893 ∷ 115 ∷ []) ([]) 16 ([]) (Exit 1) ([])
    -- AUIPC wraps
    ∷ program (0xffff0517 ∷ 0x950513 ∷ 0x300893 ∷ 115 ∷ []) ([]) 16 ([]) (Exit 9) ([])
    -- FENCE does nothing
    ∷ program (0xff0000f ∷ 0x400893 ∷ 115 ∷ []) ([]) 16 ([]) Deep ([])
    -- a load from the text
    ∷ program (0x102b7 ∷ 0x2a503 ∷ []) ([]) 16 ([]) (Trap 0x10004) ([])
    -- a store to the text
    ∷ program (0x102b7 ∷ 0xa2a223 ∷ []) ([]) 16 ([]) (Trap 0x10004) ([])
    -- a load from between text and data
    ∷ program (0x102b7 ∷ 0xc2c503 ∷ 19 ∷ []) ([]) 16 ([]) (Trap 0x10004) ([])
    -- the first byte of the data, with its sign
    ∷ program (0x102b7 ∷ 0x1828503 ∷ 0x40a00533 ∷ 0x300893 ∷ 115 ∷ []) (128 ∷ []) 16 ([]) (Exit 128) ([])
    -- the last byte of the stack
    ∷ program (0x102b7 ∷ 0xc800513 ∷ 0x2a28ba3 ∷ 0x372c503 ∷ 0x300893 ∷ 115 ∷ []) (97 ∷ 98 ∷ 99 ∷ []) 24 ([]) (Exit 200) ([])
    -- a load of the byte past the stack
    ∷ program (0x102b7 ∷ 0x302c503 ∷ 0x300893 ∷ 115 ∷ []) (97 ∷ 98 ∷ 99 ∷ []) 24 ([]) (Trap 0x10004) ([])
    -- a store to the byte past the stack
    ∷ program (0x102b7 ∷ 0x2a28823 ∷ 0x300893 ∷ 115 ∷ []) (97 ∷ 98 ∷ 99 ∷ []) 24 ([]) (Trap 0x10004) ([])
    -- the last word of the stack
    ∷ program (0x102b7 ∷ 0x500513 ∷ 0x2a2aa23 ∷ 0x342a503 ∷ 0x300893 ∷ 115 ∷ []) (97 ∷ 98 ∷ 99 ∷ []) 24 ([]) (Exit 5) ([])
    -- a word past the stack
    ∷ program (0x102b7 ∷ 0x302a503 ∷ 0x300893 ∷ 115 ∷ []) (97 ∷ 98 ∷ 99 ∷ []) 24 ([]) (Trap 0x10004) ([])
    -- a word before the data
    ∷ program (0x102b7 ∷ 0xc2a503 ∷ 19 ∷ 19 ∷ []) (97 ∷ 98 ∷ 99 ∷ []) 16 ([]) (Trap 0x10004) ([])
    -- a load of a word that is no multiple of 4
    ∷ program (0x102b7 ∷ 0xa2a503 ∷ []) (97 ∷ 98 ∷ 99 ∷ 100 ∷ 101 ∷ 102 ∷ 103 ∷ 104 ∷ []) 16 ([]) (Trap 0x10004) ([])
    -- a load of a half that is no multiple of 2
    ∷ program (0x102b7 ∷ 0x92d503 ∷ []) (97 ∷ 98 ∷ 99 ∷ 100 ∷ 101 ∷ 102 ∷ 103 ∷ 104 ∷ []) 16 ([]) (Trap 0x10004) ([])
    -- a load of a signed half that is no multiple of 2
    ∷ program (0x102b7 ∷ 0xb29503 ∷ []) (97 ∷ 98 ∷ 99 ∷ 100 ∷ 101 ∷ 102 ∷ 103 ∷ 104 ∷ []) 16 ([]) (Trap 0x10004) ([])
    -- a store of a word that is no multiple of 4
    ∷ program (0x102b7 ∷ 0xa2a4a3 ∷ []) (97 ∷ 98 ∷ 99 ∷ 100 ∷ 101 ∷ 102 ∷ 103 ∷ 104 ∷ []) 16 ([]) (Trap 0x10004) ([])
    -- a store of a half that is no multiple of 2
    ∷ program (0x102b7 ∷ 0xa294a3 ∷ []) (97 ∷ 98 ∷ 99 ∷ 100 ∷ 101 ∷ 102 ∷ 103 ∷ 104 ∷ []) 16 ([]) (Trap 0x10004) ([])
    -- an address wraps
    ∷ program (0xff800293 ∷ 0x82a503 ∷ []) ([]) 16 ([]) (Trap 0x10004) ([])
    -- the gap after the data is zero, and is written
    ∷ program (0x102b7 ∷ 0x232c503 ∷ 0x350513 ∷ 0x2a281a3 ∷ 0x202a503 ∷ 0x1855513 ∷ 0x300893 ∷ 115 ∷ []) (97 ∷ 98 ∷ 99 ∷ []) 16 ([]) (Exit 3) ([])
    -- LW
    ∷ program (0x102b7 ∷ 0x182a503 ∷ 0x1455513 ∷ 0x300893 ∷ 115 ∷ []) (1 ∷ 2 ∷ 48 ∷ 132 ∷ []) 16 ([]) (Exit 67) ([])
    -- LH takes its sign
    ∷ program (0x102b7 ∷ 0x1a29503 ∷ 0x40455513 ∷ 0xfff54513 ∷ 0x300893 ∷ 115 ∷ []) (1 ∷ 2 ∷ 48 ∷ 132 ∷ []) 16 ([]) (Exit 188) ([])
    -- LHU has none
    ∷ program (0x102b7 ∷ 0x1a2d503 ∷ 0x855513 ∷ 0x300893 ∷ 115 ∷ []) (1 ∷ 2 ∷ 48 ∷ 132 ∷ []) 16 ([]) (Exit 132) ([])
    -- LBU has none
    ∷ program (0x102b7 ∷ 0x1b2c503 ∷ 0x155513 ∷ 0x300893 ∷ 115 ∷ []) (1 ∷ 2 ∷ 48 ∷ 132 ∷ []) 16 ([]) (Exit 66) ([])
    -- SH writes two bytes, the lowest first
    ∷ program (0x102b7 ∷ 0x1537 ∷ 0x23450513 ∷ 0x2a29523 ∷ 0x2a2c503 ∷ 0x292c583 ∷ 0xb50533 ∷ 0x300893 ∷ 115 ∷ []) (1 ∷ 2 ∷ 48 ∷ 132 ∷ 5 ∷ []) 16 ([]) (Exit 54) ([])
    -- SB writes one
    ∷ program (0x102b7 ∷ 0xfff00513 ∷ 0x2a280a3 ∷ 0x202a503 ∷ 0xc55513 ∷ 0x300893 ∷ 115 ∷ []) (1 ∷ 2 ∷ 48 ∷ 132 ∷ []) 16 ([]) (Exit 15) ([])
    -- a copy of the input
    ∷ program (0x100893 ∷ 115 ∷ 0xfff00293 ∷ 0x550863 ∷ 0x200893 ∷ 115 ∷ 0xfe9ff06f ∷ 0x700513 ∷ 0x300893 ∷ 115 ∷ []) ([]) 16 (116 ∷ 111 ∷ 0 ∷ 98 ∷ 101 ∷ 255 ∷ []) (Exit 7) (116 ∷ 111 ∷ 0 ∷ 98 ∷ 101 ∷ 255 ∷ [])
    -- a copy of no input
    ∷ program (0x100893 ∷ 115 ∷ 0xfff00293 ∷ 0x550863 ∷ 0x200893 ∷ 115 ∷ 0xfe9ff06f ∷ 0x700513 ∷ 0x300893 ∷ 115 ∷ []) ([]) 16 ([]) (Exit 7) ([])
    -- the low byte is put out, and x10 becomes it
    ∷ program (0x14100513 ∷ 0x200893 ∷ 115 ∷ 0x300893 ∷ 115 ∷ []) ([]) 16 ([]) (Exit 65) (65 ∷ [])
    ∷ []

abbrev pub ProgramsEnd : Type 0
ProgramsEnd = map (outcome_after 60) programs ≡ map (λ (p : Program). outcome p.ends p.output) programs

pub programs_end : ProgramsEnd
unfolding row_of step_of next after
programs_end = refl

-- copies its input to its output, and ends with status 7
abbrev pub copies : List ℕ → Program
copies input = program (0x100893 ∷ 115 ∷ 0xfff00293 ∷ 0x550863 ∷ 0x200893 ∷ 115 ∷ 0xfe9ff06f ∷ 0x700513 ∷ 0x300893 ∷ 115 ∷ []) [] 8 input (Exit 7) input

-- on no input, the seventh step is the call that ends the machine
abbrev pub StepsSpent : Type 0
StepsSpent = map (λ n. outcome_after n (copies [])) (0 ∷ 6 ∷ 7 ∷ 8 ∷ []) ≡ outcome Going [] ∷ outcome Going [] ∷ outcome (Exit 7) [] ∷ outcome (Exit 7) [] ∷ []

pub steps_spent : StepsSpent
unfolding row_of step_of next after
steps_spent = refl

abbrev pub pc_after : ℕ → Program → ℕ
pc_after n p = let w : Moment = machine_after (image_of p) p.input n in w.state.pc

-- where it stands after each step, on one byte of input; the last step ends it and leaves it where it is
abbrev pub StepsGo : Type 0
StepsGo =
    map (λ n. pc_after n (copies (104 ∷ []))) (0 ∷ 1 ∷ 2 ∷ 3 ∷ 4 ∷ 5 ∷ 6 ∷ 7 ∷ 8 ∷ 9 ∷ 10 ∷ 11 ∷ 12 ∷ 13 ∷ 14 ∷ [])
    ≡ 0x10000 ∷ 0x10004 ∷ 0x10008 ∷ 0x1000c ∷ 0x10010 ∷ 0x10014 ∷ 0x10018 ∷ 0x10000 ∷ 0x10004 ∷ 0x10008 ∷ 0x1000c ∷ 0x1001c ∷ 0x10020 ∷ 0x10024 ∷ 0x10024 ∷ []

pub steps_go : StepsGo
unfolding row_of step_of next after
steps_go = refl
