-- The row of a compound assignment
-- is that of the plan of its operator.
use Rattle.std.proofs.Common.{◌≡◌, ◌∙◌, sym, subst, Option, Some, Result, Ok, Err}
use Rattle.std.specs.Option.{option_map}
use Rattle.word_ops.specs.declared.memory.Memory.{Memory}
use Rattle.c_tree.specs.declared.token.Pos.{Pos}
use Rattle.c_tree.specs.declared.token.Punct.{Punct}
use Rattle.c_typing.specs.declared.operator.Row.{Row}
use Rattle.c_typing.specs.declared.operator.Row.TheVariants.{Planned}
use Rattle.c_typing.specs.declared.operand.Operand.{Operand}
use Rattle.c_typing.specs.Operands.{valued}
use Rattle.c_typing.specs.Operators.{binary}
use Rattle.c_typing.specs.Expressions as spec
use Rattle.c_type_walk.specs.declared.around.Around.{Around}
use Rattle.c_type_walk.specs.declared.found.Found.{Found}
use Rattle.c_type_walk.specs.Walks.{Gave, fixed}
use Rattle.c_type_expressions.specs.declared.assignments.Assigned.{Assigned}
use Rattle.c_type_expressions.specs.Told.{WalksAs}
use Rattle.c_type_expressions.specs.Assignments.{assigned_of}
use Rattle.c_type_expressions.proofs.assignments.compound_row.Goals as goal

compounded : (at : Pos) (left : Operand) (right : spec.Assigned) (q : Punct) (n : Row) (c : Around) (old new : Found) (r : Result (Option Assigned) Memory) →
    n ≡ binary old.state.structs q (valued left) right.whole → WalksAs assigned_of (spec.compound_by at left right n) c old r new →
    WalksAs assigned_of (spec.assign_by at (Some q) left right) c old r new
compounded at left right q n c old new (Ok a) e w =
    subst (λ (m : Row). Gave (spec.compound_by at left right m (fixed c) old.state) old new (option_map assigned_of a)) e w
compounded at left right q n c old new (Err x) e w = tt

pub returns-in-Planned : goal.returns-in-Planned
returns-in-Planned c =
    compounded c.args.place c.args.left (assigned_of c.args.right) c.args.operator (Planned c.in-Planned.plan) c.args.around.now c.args.found.now c.planned_row.new.found
    c.planned_row.result (sym c.in-Planned.is ∙ c.in-Ok.ensures) c.planned_row.ensures
