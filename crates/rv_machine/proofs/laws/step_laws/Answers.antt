-- The laws of steps by the words of the text.
use Rattle.rv_machine.specs.Laws.Instructions.{step_of-instruction, step_of-word, instruction_at-valid, step_of-none, fetched-behind}
use Rattle.rv_machine.specs.Laws.Reading.{word_at-memory, word_at-text}
use Rattle.rv_machine.proofs.laws.step_laws.Goals as goal

pub returns-clause-performs : goal.returns-clause-performs
returns-clause-performs c = step_of-instruction

pub returns-clause-word : goal.returns-clause-word
returns-clause-word c = step_of-word

pub returns-clause-valid : goal.returns-clause-valid
returns-clause-valid c = instruction_at-valid

pub returns-clause-none : goal.returns-clause-none
returns-clause-none c = step_of-none

pub returns-clause-behind : goal.returns-clause-behind
returns-clause-behind c = fetched-behind

pub returns-clause-memory : goal.returns-clause-memory
returns-clause-memory c = word_at-memory

pub returns-clause-text : goal.returns-clause-text
returns-clause-text c = word_at-text
