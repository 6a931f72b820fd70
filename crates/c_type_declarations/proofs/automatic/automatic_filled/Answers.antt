-- `automatic_filled` of src/automatic.rt: what the check leaves open of its proof.
-- What an initialiser fills: an array without a number of elements is declared again with as many as it tells.
use Rattle.c_type_declarations.proofs.Started.{automatic_says}
use Rattle.c_type_declarations.proofs.automatic.automatic_filled.Goals as goal

pub returns : goal.returns
returns c =
    automatic_says c.args.name.now c.args.ctype c.in-Ok.ctype c.args.slot c.args.filled
    c.args.around.now c.args.found.now c.sized_row.new.found c.declare_automatic.new.found c.initialiser_row.new.found c.keep_local.new.found
    c.in-Ok-sized_row.sized c.in-Ok-initialiser_row.initial c.initialised.result c.in-Ok.ensures
    c.in-Ok-sized_row.ensures c.declare_automatic.ensures.faults c.in-Ok-declare_automatic.ensures.state c.in-Ok-initialiser_row.ensures
    c.keep_local.ensures.faults c.in-Ok-keep_local.ensures.state c.initialised.ensures
