use Rattle.c_typing_laws.specs.Laws.{clean_units_are_typed, unfaulted_units_are_typed}
use Rattle.c_typing_laws.proofs.laws.clean_units_are_typed.Goals as goal

pub returns-clause-clean : goal.returns-clause-clean
returns-clause-clean c = clean_units_are_typed

pub returns-clause-unfaulted : goal.returns-clause-unfaulted
returns-clause-unfaulted c = unfaulted_units_are_typed
