-- `direct_parts` of src/declarators.rt: what the check leaves open of its proof.
-- The derivations of a declarator's middle.
use Rattle.std.specs.Prelude.{[], Some}
use Rattle.c_typing.specs.Trees.{direct_typing-Nothing, direct_typing-Named, direct_typing-Grouped}
use Rattle.c_type_trees.proofs.Nodes.{offered}
use Rattle.c_type_trees.proofs.walker.Walker.direct_parts.Goals as goal

pub returns-in-Nothing : goal.returns-in-Nothing
returns-in-Nothing g c =
    rw (c.in-Nothing.is, direct_typing-Nothing) (rw c.new.ensures (offered (Some []) c.args.around.now c.args.found.now))

pub returns-in-Named : goal.returns-in-Named
returns-in-Named g c =
    rw (c.in-Named.is, direct_typing-Named) (rw c.new-in-Named.ensures (offered (Some []) c.args.around.now c.args.found.now))

pub returns-in-Grouped : goal.returns-in-Grouped
returns-in-Grouped g c =
    rw (c.in-Grouped.is, direct_typing-Grouped) (rw c.get.ensures at c.parts.ensures)
