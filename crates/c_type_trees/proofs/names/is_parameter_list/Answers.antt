-- `is_parameter_list` of src/names.rt: what the check leaves open of its proof.
-- Whether a part of a declarator is a parameter list.
use Rattle.std.proofs.Common.{refl}
use Rattle.c_typing.specs.Trees.{declarator_suffix_typing-Array, declarator_suffix_typing-ArrayOf, declarator_suffix_typing-Empty, declarator_suffix_typing-Parameters, declarator_suffix_typing-Void}
use Rattle.c_type_trees.proofs.names.is_parameter_list.Goals as goal

pub returns-in-Array : goal.returns-in-Array
returns-in-Array c = rw (c.in-Array.is, declarator_suffix_typing-Array) refl

pub returns-in-ArrayOf : goal.returns-in-ArrayOf
returns-in-ArrayOf c = rw (c.in-ArrayOf.is, declarator_suffix_typing-ArrayOf) refl

pub returns-in-Empty : goal.returns-in-Empty
returns-in-Empty c = rw (c.in-Empty.is, declarator_suffix_typing-Empty) refl

pub returns-in-Void : goal.returns-in-Void
returns-in-Void c = rw (c.in-Void.is, declarator_suffix_typing-Void) refl

pub returns-in-Parameters : goal.returns-in-Parameters
returns-in-Parameters c = rw (c.in-Parameters.is, declarator_suffix_typing-Parameters) refl
