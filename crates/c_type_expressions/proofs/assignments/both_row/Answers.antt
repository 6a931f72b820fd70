-- The left side of a compound assignment is an lvalue,
-- and its operator is one that assignments contain.
use Rattle.std.proofs.Common.{subst}
use Rattle.c_type_expressions.specs.Lvalues.{IsLvalue}
use Rattle.c_type_expressions.proofs.assignments.both_row.Goals as goal

pub compound_row-requires : goal.compound_row-requires
compound_row-requires c = record { lvalue = subst IsLvalue c.in-Some.is c.requires; contained = (c.args.mark.punct, cc) }
