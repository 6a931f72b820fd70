-- Answers of the law main_gives_a_value.
use Rattle.core_lang.specs.Laws.Returns.{main-gives}
use Rattle.core_lang.proofs.laws.main_gives_a_value.Goals as goal

pub returns : goal.returns
returns c = main-gives
