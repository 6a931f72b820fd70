-- `stated_row` of src/switches.rt: what the check leaves open of its proof.
-- A declaration or a statement, which stands in the present part; whether no fault stands in it.
use Rattle.std.proofs.Common.{refl}
use Rattle.c_typing.specs.Statements.{block_item_typing}
use Rattle.c_type_walk.specs.Walks.{fixed}
use Rattle.c_type_statements.specs.Statements.{parting_of}
use Rattle.c_type_statements.proofs.Rows.{in_part, in_no_part}
use Rattle.c_type_statements.proofs.walker.Walker.stated_row.Goals as goal

pub returns : goal.returns
returns g c =
    in_part (parting_of c.args.parting.now) (block_item_typing c.args.item.now) (fixed c.args.around.now) c.args.found.now _ _ _ _ c.in_ok-made.ensures c.in-Some.is c.in_ok-add.ensures

pub returns-in_default : goal.returns-in_default
returns-in_default g c =
    in_no_part (parting_of c.args.parting.now) (block_item_typing c.args.item.now) (fixed c.args.around.now) c.args.found.now _ _ _ c.in_ok-made.ensures c.in_default.is refl
