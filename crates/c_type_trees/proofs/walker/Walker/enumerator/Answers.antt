-- `enumerator` of src/specifying.rt: what the check leaves open of its proof.
-- An enumerator, from the value that it has without an expression (C11 6.7.2.2p3).
use Rattle.c_typing.specs.Trees.{expr_typing, enumerator_typing-Plain, enumerator_typing-Valued}
use Rattle.c_type_trees.proofs.Arms.{enumerated}
use Rattle.c_type_trees.proofs.walker.Walker.enumerator.Goals as goal

pub returns-in-Plain : goal.returns-in-Plain
returns-in-Plain g c =
    rw (c.in-Plain.is, enumerator_typing-Plain) c.plain_enumerator.ensures

pub returns-in_ok-operand-in-Valued : goal.returns-in_ok-operand-in-Valued
returns-in_ok-operand-in-Valued g c =
    rw (c.in-Valued.is, enumerator_typing-Valued)
    (enumerated c.in-Valued.name (expr_typing c.in-Valued.value) c.args.around.now _ _ _ _ _ c.in_ok-operand-in-Valued.ensures (rw (c.first_token-first.ensures, c.released.ensures) at c.valued_enumerator.ensures))
