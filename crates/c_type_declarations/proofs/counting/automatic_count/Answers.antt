-- `automatic_count` of src/counting.rt: what the check leaves open of its proof.
-- How many automatic objects a declaration in a function declares; `names` are then those behind it.
use Rattle.c_type_declarations.proofs.counting.automatic_count.Goals as goal

pub returns-then-stores-clause-names : goal.returns-then-stores-clause-names
returns-then-stores-clause-names c =
    rw (← c.as_slice-list.ensures, ← c.as_slice-declarators.ensures, ← c.uses_function-by_specifiers.ensures) c.in_ok-add_typedefs.ensures

pub returns-clause-names : goal.returns-clause-names
returns-clause-names c =
    rw (← c.as_slice-list.ensures, ← c.as_slice-declarators.ensures, ← c.uses_function-by_specifiers.ensures) c.in_ok-add_typedefs.ensures
