-- `suffix_part` of src/declarators.rt: what the check leaves open of its proof.
-- An array or a parameter list behind a declarator's middle (C11 6.7.6.2, 6.7.6.3).
use Rattle.c_typing.specs.Trees.{expr_typing, declarator_suffix_typing-Array, declarator_suffix_typing-ArrayOf, declarator_suffix_typing-Empty, declarator_suffix_typing-Void, declarator_suffix_typing-Parameters}
use Rattle.c_type_trees.specs.Sequences.{sized_row}
use Rattle.c_type_trees.proofs.Arms.{then_walk}
use Rattle.c_type_trees.proofs.Nodes.{offered}
use Rattle.c_type_trees.proofs.walker.Walker.suffix_part.Goals as goal

pub returns-in-Array : goal.returns-in-Array
returns-in-Array g c =
    rw (c.in-Array.is, declarator_suffix_typing-Array) (offered _ c.args.around.now c.args.found.now)

pub returns-in_ok-operand-in-ArrayOf : goal.returns-in_ok-operand-in-ArrayOf
returns-in_ok-operand-in-ArrayOf g c =
    rw (c.in-ArrayOf.is, declarator_suffix_typing-ArrayOf)
    (then_walk (expr_typing c.in-ArrayOf.size).typed (sized_row c.in-ArrayOf.from (expr_typing c.in-ArrayOf.size).first) c.args.around.now _ _ _ _ _ c.in_ok-operand-in-ArrayOf.ensures (rw c.first_token.ensures at c.sized_array.ensures))

pub returns-in-Empty : goal.returns-in-Empty
returns-in-Empty g c =
    rw (c.in-Empty.is, declarator_suffix_typing-Empty) (rw c.new.ensures (offered _ c.args.around.now c.args.found.now))

pub returns-in-Void : goal.returns-in-Void
returns-in-Void g c =
    rw (c.in-Void.is, declarator_suffix_typing-Void) (rw c.new-in-Void.ensures (offered _ c.args.around.now c.args.found.now))

pub returns-in-Parameters : goal.returns-in-Parameters
returns-in-Parameters g c =
    rw (c.in-Parameters.is, declarator_suffix_typing-Parameters) (rw c.as_slice.ensures at c.parameter_list.ensures)
