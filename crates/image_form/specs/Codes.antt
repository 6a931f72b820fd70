-- The numbers by which a listing names operations, modes, effects and ends.
use Rattle.std.specs.Prelude.{ℕ, ◌+◌, ◌*◌}
use Rattle.word_ops.specs.declared.operation.Op.{Op}
use Rattle.word_ops.specs.declared.operation.Op.TheVariants as ops
use Rattle.word_ops.specs.declared.operation.Width.{Width}
use Rattle.word_ops.specs.declared.operation.Width.TheVariants as widths
use Rattle.term_form.specs.declared.listing.TermKind.{TermKind}
use Rattle.term_form.specs.declared.listing.TermKind.TheVariants as kinds
use Rattle.term_form.specs.declared.listing.Mode.{Mode}
use Rattle.term_form.specs.declared.listing.Mode.TheVariants as modes
use Rattle.term_form.specs.declared.listing.StoreWidth.{StoreWidth}
use Rattle.term_form.specs.declared.listing.StoreWidth.TheVariants as stores
use Rattle.term_form.specs.declared.listing.EndKind.{EndKind}
use Rattle.term_form.specs.declared.listing.EndKind.TheVariants as ends

-- the operations, from 1 on
abbrev pub op_code : Op → ℕ
op_code ops.Add = 1
op_code ops.Sub = 2
op_code ops.Mul = 3
op_code ops.Adds = 4
op_code ops.Subs = 5
op_code ops.Muls = 6
op_code ops.Divs = 7
op_code ops.Rems = 8
op_code ops.Divu = 9
op_code ops.Remu = 10
op_code ops.And = 11
op_code ops.Or = 12
op_code ops.Xor = 13
op_code ops.Shl = 14
op_code ops.Shls = 15
op_code ops.Shru = 16
op_code ops.Shrs = 17
op_code ops.Eq = 18
op_code ops.Ne = 19
op_code ops.Lts = 20
op_code ops.Les = 21
op_code ops.Ltu = 22
op_code ops.Leu = 23
op_code ops.Zext8 = 24
op_code ops.Sext8 = 25
op_code ops.Zext16 = 26
op_code ops.Sext16 = 27

-- the loads: load8u, load8s, load16u, load16s, load32
abbrev pub load_code : Width → ℕ
load_code widths.U8 = 110
load_code widths.S8 = 111
load_code widths.U16 = 112
load_code widths.S16 = 113
load_code widths.Word = 114

-- the op code of a term
abbrev pub kind_code : TermKind → ℕ
kind_code (kinds.Operate op) = op_code op
kind_code kinds.Konst = 100
kind_code kinds.Global = 101
kind_code kinds.Local = 102
kind_code kinds.Param = 103
kind_code kinds.Phi = 104
kind_code kinds.Got = 105
kind_code kinds.Called = 106
kind_code (kinds.Load width) = load_code width

abbrev pub mode_code : Mode → ℕ
mode_code modes.After = 1
mode_code modes.At = 2
mode_code modes.Ready = 3

-- an op code with a mode
abbrev pub term_code : TermKind → Mode → ℕ
term_code kind mode = kind_code kind + 65536 * mode_code mode

-- the effects: store8, store16, store32, call, get, put, exit
abbrev pub store_code : StoreWidth → ℕ
store_code stores.Byte = 1
store_code stores.Half = 2
store_code stores.Word = 3

abbrev pub call_code : ℕ
call_code = 4

abbrev pub get_code : ℕ
get_code = 5

abbrev pub put_code : ℕ
put_code = 6

abbrev pub exit_code : ℕ
exit_code = 7

-- the ends of blocks: jump, branch, return, stop
abbrev pub end_code : EndKind → ℕ
end_code ends.Jump = 1
end_code ends.Branch = 2
end_code ends.Return = 3
end_code ends.Stop = 4
