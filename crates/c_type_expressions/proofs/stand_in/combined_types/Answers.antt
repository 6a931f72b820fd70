-- The row of an operator for operands that stand in
-- is that for all operands of their types.
use Rattle.std.proofs.Common.{sym}
use Rattle.c_type_expressions.specs.Lvalues.{stand_in_of}
use Rattle.c_type_expressions.proofs.Ends.{same_end}
use Rattle.c_type_expressions.proofs.Combined.{combined-alike}
use Rattle.c_type_expressions.proofs.stand_in.combined_types.Goals as goal

pub returns : goal.returns
returns c =
    λ l r e f. same_end c.combined_stand_ins.result _ _ (combined-alike c.args.tags.now c.args.operator c.requires (stand_in_of c.args.left) (stand_in_of c.args.right) l r (sym e) (sym f)) c.combined_stand_ins.ensures
