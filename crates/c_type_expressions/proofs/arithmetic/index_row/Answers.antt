-- The row of `a[i]` for the values of the two operands
-- is that for the operands.
use Rattle.std.proofs.Common.{◌≡◌, ◌∙◌, sym, subst, [], ◌∷◌, Option, Result, Ok, Err}
use Rattle.word_ops.specs.declared.memory.Memory.{Memory}
use Rattle.c_tree.specs.declared.token.Pos.{Pos}
use Rattle.c_layout.specs.Tags.{Structs}
use Rattle.c_typing.specs.declared.operator.Row.{Row}
use Rattle.c_typing.specs.declared.operand.Operand.{Operand}
use Rattle.c_typing.specs.Operands.{valued}
use Rattle.c_typing.specs.Operators.{pointer_and_integer, integer_and_pointer, plus_stride, stride_plus, first_row}
use Rattle.c_typing.specs.Expressions.{index_by, index_row}
use Rattle.c_type_walk.specs.declared.around.Around.{Around}
use Rattle.c_type_walk.specs.declared.found.Found.{Found}
use Rattle.c_type_walk.specs.Walks.{Gave, Walks, fixed}
use Rattle.c_type_expressions.proofs.arithmetic.index_row.Goals as goal

abbrev indexing : Structs → Operand → Operand → Row
indexing structs l r = first_row (pointer_and_integer structs plus_stride ∷ integer_and_pointer structs stride_plus ∷ []) l r

indexed : (at : Pos) (l r one other : Operand) (row : Row) (c : Around) (old new : Found) (result : Result (Option Operand) Memory) →
    one ≡ valued l → other ≡ valued r → row ≡ indexing old.state.structs one other → Walks (index_by at one other row) c old result new →
    Walks (index_row at l r) c old result new
indexed at l r one other row c old new (Ok a) e f g w =
    subst (λ (o : Operand). Gave (index_by at o (valued r) (indexing old.state.structs o (valued r)) (fixed c) old.state) old new a) e
    (subst (λ (o : Operand). Gave (index_by at one o (indexing old.state.structs one o) (fixed c) old.state) old new a) f
    (subst (λ (n : Row). Gave (index_by at one other n (fixed c) old.state) old new a) g w))
indexed at l r one other row c old new (Err x) e f g w = tt

pub returns-in-Planned : goal.returns-in-Planned
returns-in-Planned c =
    indexed c.args.place c.args.left c.args.right c.in-Ok.left c.in-Ok-valued.right _ c.args.around.now c.args.found.now c.element.new.found c.element.result
    c.in-Ok.ensures c.in-Ok-valued.ensures (sym c.in-Planned.is ∙ c.in-Ok-index.ensures) c.element.ensures
