-- What a compound assignment gives is taken back:
-- the left side is an lvalue, and of scalar type.
use Rattle.std.proofs.Common.{ap, sym, is_some, Option}
use Rattle.c_tree.specs.declared.typed.operator.Scalar.{Scalar}
use Rattle.c_type_expressions.proofs.assignments.planned_row.Goals as goal

pub takes_back-requires : goal.takes_back-requires
takes_back-requires c = record { lvalue = c.requires; scalar = ap (λ (s : Option Scalar). is_some s) (sym c.in-Some.ensures) }
