-- What the code's types stand for.
use Rattle.std.specs.Prelude.{ℕ}
use Rattle.top_call.specs.declared.line.Line.{Line}
use Rattle.top_call.specs.declared.line.Line.TheVariants as line
use Rattle.top_call.specs.CommandLine as spec
use Rattle.top_call.specs.declared.answer.Answer.{Answer}
use Rattle.top_call.specs.declared.answer.Answer.TheVariants as answer
use Rattle.top_call.specs.Outcome as outcome

-- a line by the bytes of its name
abbrev pub named_line : Line → spec.Line
named_line (line.Exec file) = spec.Exec file.now
named_line (line.Run image) = spec.Run image.now

-- an answer by the bytes of its name
abbrev pub outcome_of : Answer → outcome.Outcome
outcome_of (answer.Own status) = outcome.Own status
outcome_of answer.Usage = outcome.Usage
outcome_of (answer.Missing name) = outcome.Missing name.now
outcome_of answer.ReadFault = outcome.ReadFault
outcome_of answer.WriteFault = outcome.WriteFault
outcome_of (answer.NotYet place) = outcome.NotYet place.line place.column
outcome_of answer.Room = outcome.Room
outcome_of (answer.BadImage offset) = outcome.BadImage offset
outcome_of (answer.Trap pc) = outcome.Trap pc
outcome_of answer.StepsSpent = outcome.StepsSpent
outcome_of answer.TooDeep = outcome.TooDeep
outcome_of answer.OutOfMemory = outcome.OutOfMemory
