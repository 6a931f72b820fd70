-- The initialiser of a declarator, where one stands.
-- The clauses of `starts`, of the three kinds of objects and of `declarations` cite it.
use Rattle.std.specs.Prelude.{Option}
use Rattle.std.specs.Option.{option_map}
use Rattle.c_tree.specs.declared.declaration.Initialiser.{Initialiser}
use Rattle.c_typing.specs.OfInitialisers.{Initialising}
use Rattle.c_typing.specs.Initialisers.{initialiser_typing}

abbrev pub starting : Option Initialiser → Option Initialising
starting o = option_map initialiser_typing o
