-- `is_null_pointer` of src/constants.rt: what the check leaves open of its proof.
-- A tree with steps is a null pointer by the plain list of its steps.
use Rattle.std.proofs.Common.{◌∙◌, sym}
use Rattle.c_type_initialisers.proofs.Rows.{null-Applied}
use Rattle.c_type_initialisers.proofs.constants.is_null_pointer.Goals as goal

pub returns-in-Applied : goal.returns-in-Applied
returns-in-Applied c =
    rw (c.in-Applied.is, c.is_null_behind.ensures, c.get.ensures, c.as_slice.ensures) (sym (null-Applied c.in-Applied.field-0 c.in-Applied.first c.in-Applied.steps))
