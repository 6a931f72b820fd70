-- `name` of src/names.rt: what the check leaves open of its proof.
-- The name that a declarator declares, where it has one (C11 6.7.6).
use Rattle.std.proofs.Common.{refl}
use Rattle.c_typing.specs.Trees.{declarator_typing-is, direct_typing-Grouped, direct_typing-Named, direct_typing-Nothing}
use Rattle.c_type_trees.proofs.names.+name.Goals as goal

pub direct_name-returns-in-Nothing : goal.direct_name-returns-in-Nothing
direct_name-returns-in-Nothing t c = rw (c.in-Nothing.is, direct_typing-Nothing) refl

pub direct_name-returns-in-Named : goal.direct_name-returns-in-Named
direct_name-returns-in-Named t c = rw (c.in-Named.is, direct_typing-Named) refl

pub direct_name-returns-in-Grouped : goal.direct_name-returns-in-Grouped
direct_name-returns-in-Grouped t c = rw (c.in-Grouped.is, direct_typing-Grouped, c.name.ensures, c.get.ensures) refl

pub name-returns : goal.name-returns
name-returns t c = rw (declarator_typing-is c.args.tree.now) c.direct_name.ensures
