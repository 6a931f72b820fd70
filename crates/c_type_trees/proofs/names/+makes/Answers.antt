-- `makes` of src/names.rt: what the check leaves open of its proof.
-- Whether the outermost part of a declarator makes a function, where it has a part (C11 6.7.6).
use Rattle.std.proofs.Common.{refl}
use Rattle.c_typing.specs.Trees.{declarator_typing-is, direct_typing-Grouped, direct_typing-Named, direct_typing-Nothing}
use Rattle.c_type_trees.proofs.names.+makes.Goals as goal

pub direct_makes-returns-in-Nothing : goal.direct_makes-returns-in-Nothing
direct_makes-returns-in-Nothing t c = rw (c.in-Nothing.is, direct_typing-Nothing) refl

pub direct_makes-returns-in-Named : goal.direct_makes-returns-in-Named
direct_makes-returns-in-Named t c = rw (c.in-Named.is, direct_typing-Named) refl

pub direct_makes-returns-in-Grouped : goal.direct_makes-returns-in-Grouped
direct_makes-returns-in-Grouped t c = rw (c.in-Grouped.is, direct_typing-Grouped, c.makes.ensures, c.get.ensures) refl

pub makes-returns-in-Some : goal.makes-returns-in-Some
makes-returns-in-Some t c = rw (declarator_typing-is c.args.tree.now, ← c.in-Some.ensures) refl

pub makes-returns-in-None : goal.makes-returns-in-None
makes-returns-in-None t c = rw (declarator_typing-is c.args.tree.now, ← c.in-None.ensures, c.own_makes.ensures, c.as_slice.ensures, c.as_slice-in-None.ensures) refl
