-- `defined_objects` of src/counting.rt: what the check leaves open of its proof.
-- Puts the names of the file-level objects that a declaration defines, tentatively or not (C11 6.9.2), behind those that are there already, each once; `names` are then those behind it.
use Rattle.c_type_declarations.proofs.counting.defined_objects.Goals as goal

pub returns-clause-all : goal.returns-clause-all
returns-clause-all c =
    rw (← c.as_slice-list.ensures, ← c.as_slice-declarators.ensures, ← c.stores.ensures, c.if-stores.false, ← c.stores-started_alone.ensures, ← c.uses_function-by_specifiers.ensures)
    c.add_objects.ensures
