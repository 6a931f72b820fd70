-- What the account learns, and what is asked of it, as the machine arrives at an instruction: blocks, terms, effects, and the
-- instruction itself.
use Rattle.std.specs.Prelude.{List, [], ◌∷◌, None}
use Rattle.rv_machine.specs.State.{Loaded}
use Rattle.rv_machine.specs.Step.{instruction_at}
use Rattle.audited_machine.specs.Functions.{Records, no_records}
use Rattle.audited_machine.specs.Account.{Activation, Account, Judged, judged, then_judge}
use Rattle.audited_machine.specs.Blocks.{enter_blocks}
use Rattle.audited_machine.specs.Terms.{receive_places, begin_terms}
use Rattle.audited_machine.specs.Effects.{asked_of_effects, asked_of_instruction}

abbrev pub arrive_in : Loaded → Activation → Judged Activation
arrive_in m a =
    then_judge (enter_blocks m a) (λ a. then_judge (receive_places m a) (λ a. then_judge (begin_terms m a) (λ a. judged a (asked_of_effects m a))))

-- in the innermost call
abbrev pub arrive_among : Loaded → List Activation → Judged (List Activation)
arrive_among m [] = judged [] None
arrive_among m (a ∷ rest) = let j = arrive_in m a in judged (j.value ∷ rest) j.fault

abbrev pub records_of : List Activation → Records
records_of [] = no_records
records_of (a ∷ rest) = a.records

abbrev pub arrive : Loaded → Account → Judged Account
arrive m a =
    then_judge (arrive_among m a.activations) (λ l. judged (record a { activations = l }) (asked_of_instruction m a.linked (records_of l) (instruction_at m.text m.state.pc)))
