-- Which rows compute an operation on words: of two registers, or of a register and the immediate.
use Rattle.std.specs.Prelude.{Option, Some, None}
use Rattle.word_ops.specs.declared.operation.Op.{Op}
use Rattle.word_ops.specs.declared.operation.Op.TheVariants as op
use Rattle.rv_table.specs.declared.row.Row.{Row}
use Rattle.rv_table.specs.declared.row.Row.TheVariants.{Addi, Slti, Sltiu, Xori, Ori, Andi, Slli, Srli, Srai, Add, Sub, Sll, Slt, Sltu, Xor, Srl, Sra, Or, And, Mul, Div, Divu, Rem, Remu}

abbrev pub operation_of_registers : Row → Option Op
operation_of_registers Add = Some op.Add
operation_of_registers Sub = Some op.Sub
operation_of_registers Sll = Some op.Shl
operation_of_registers Slt = Some op.Lts
operation_of_registers Sltu = Some op.Ltu
operation_of_registers Xor = Some op.Xor
operation_of_registers Srl = Some op.Shru
operation_of_registers Sra = Some op.Shrs
operation_of_registers Or = Some op.Or
operation_of_registers And = Some op.And
operation_of_registers Mul = Some op.Mul
operation_of_registers Div = Some op.Divs
operation_of_registers Divu = Some op.Divu
operation_of_registers Rem = Some op.Rems
operation_of_registers Remu = Some op.Remu
operation_of_registers other = None

abbrev pub operation_of_immediate : Row → Option Op
operation_of_immediate Addi = Some op.Add
operation_of_immediate Slti = Some op.Lts
operation_of_immediate Sltiu = Some op.Ltu
operation_of_immediate Xori = Some op.Xor
operation_of_immediate Ori = Some op.Or
operation_of_immediate Andi = Some op.And
operation_of_immediate Slli = Some op.Shl
operation_of_immediate Srli = Some op.Shru
operation_of_immediate Srai = Some op.Shrs
operation_of_immediate other = None
