-- `first_of_initialiser` of src/initialisers.rt: what the check leaves open of its proof.
-- The first token of an initialiser.
use Rattle.std.proofs.Common.{refl}
use Rattle.c_typing.specs.Initialisers.{initialiser_typing-Expression, initialiser_typing-List}
use Rattle.c_type_initialisers.proofs.initialisers.first_of_initialiser.Goals as goal

pub returns-in-Expression : goal.returns-in-Expression
returns-in-Expression c = rw (c.in-Expression.is, initialiser_typing-Expression) c.first_token.ensures

pub returns-in-List : goal.returns-in-List
returns-in-List c = rw (c.in-List.is, initialiser_typing-List) refl
