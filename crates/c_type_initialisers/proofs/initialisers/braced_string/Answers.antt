-- `braced_string` of src/initialisers.rt: what the check leaves open of its proof.
-- A string for an array of characters may stand in braces (C11 6.7.9p14).
use Rattle.std.proofs.Common.{◌≡◌, length, arith}
use Rattle.c_type_initialisers.proofs.Braced.{braced_list, braced_expression}
use Rattle.c_type_initialisers.proofs.initialisers.braced_string.Goals as goal

pub returns-in-Expression : goal.returns-in-Expression
returns-in-Expression c =
    let one : length c.args.items.now ≡ 1 = omega arith in
    braced_expression c.string_if_fits.result c.args.ctype.now c.args.items.now c.only-item.result c.in-Expression.expression one c.only-item.is c.in-Expression.is c.string_if_fits.ensures

pub returns-in-List : goal.returns-in-List
returns-in-List c =
    let one : length c.args.items.now ≡ 1 = omega arith in
    braced_list c.args.ctype.now c.args.items.now _ c.only-item.result _ _ _ one c.only-item.is c.in-List.is
