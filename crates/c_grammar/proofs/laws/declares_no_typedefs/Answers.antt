use Rattle.c_grammar.specs.Laws.Productions.{no_typedefs_declared}
use Rattle.c_grammar.proofs.laws.declares_no_typedefs.Goals as goal

pub returns : goal.returns
returns c = no_typedefs_declared
