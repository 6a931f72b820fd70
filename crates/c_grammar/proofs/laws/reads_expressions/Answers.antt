use Rattle.c_grammar.specs.Laws.Productions.{commas_at_front, assignments_at_front, conditionals_at_front}
use Rattle.c_grammar.proofs.laws.reads_expressions.Goals as goal

pub returns-clause-commas : goal.returns-clause-commas
returns-clause-commas c = commas_at_front

pub returns-clause-assignments : goal.returns-clause-assignments
returns-clause-assignments c = assignments_at_front

pub returns-clause-conditionals : goal.returns-clause-conditionals
returns-clause-conditionals c = conditionals_at_front
