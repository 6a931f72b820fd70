-- `addresses` of src/addresses.rt: what the check leaves open of its proof.
-- The place in a static object that an expression is the address of, by constant indices, members, offsets and conversions of pointers; or `None` exactly where it is none (C11 6.6p9).
use Rattle.std.proofs.Common.{refl}
use Rattle.c_type_initialisers.proofs.Rows.{address-Applied}
use Rattle.c_type_initialisers.proofs.addresses.+addresses.Goals as goal

pub address_of-returns-in-Applied : goal.address_of-returns-in-Applied
address_of-returns-in-Applied t c =
    rw (c.in-Applied.is, address-Applied, c.stepped_address.ensures, c.as_slice.ensures, c.get-in-Applied.ensures, c.address_of-start.ensures, c.get.ensures) refl
