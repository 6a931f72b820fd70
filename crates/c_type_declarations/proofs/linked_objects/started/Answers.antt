-- `started` of src/linked_objects.rt: what the check leaves open of its proof.
-- An object with an initialiser.
use Rattle.c_typing.specs.Initialisers.{initialiser_typing}
use Rattle.c_typing.specs.Declarations as spec
use Rattle.c_type_declarations.proofs.Started.{started_as}
use Rattle.c_type_declarations.proofs.linked_objects.started.Goals as goal

pub returns : goal.returns
returns c =
    started_as (spec.fillable_row c.args.name.now.place c.args.ctype) ((initialiser_typing c.args.start.now).fill 0) (λ v. spec.linked_filled c.args.name.now v)
    c.args.around.now c.args.found.now c.fillable_row.new.found c.filled_row.new.found c.linked_filled.new.found
    c.in-Some.ctype c.in-Some-filled.filled c.in_ok-ctype.field-0 c.in-Ok.filled c.linked_filled.result
    c.in_ok-ctype.ensures c.in-Some.is c.in-Ok.ensures c.in-Some-filled.is c.linked_filled.ensures
