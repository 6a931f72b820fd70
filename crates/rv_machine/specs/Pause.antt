-- Where the machine stops to run its text, and what it asks of its environment then.
use Rattle.std.specs.Prelude.{◌≡◌, ℕ, zero, suc, List, Option, Some, None}
use Rattle.rv_machine.specs.declared.answer.Stepped.{Stepped}
use Rattle.rv_machine.specs.declared.answer.Stepped.TheVariants.{Going, Exit, Deep, Trap, ReadFault, WriteFault}
use Rattle.rv_machine.specs.declared.answer.End.{End}
use Rattle.rv_machine.specs.declared.answer.End.TheVariants as ended
use Rattle.rv_machine.specs.declared.stretch.Stop.{Stop}
use Rattle.rv_machine.specs.declared.stretch.Stop.TheVariants as stop
use Rattle.rv_machine.specs.declared.request.Request.{Request}
use Rattle.rv_machine.specs.declared.request.Request.TheVariants as request
use Rattle.rv_machine.specs.State.{State}
use Rattle.rv_machine.specs.Effect.{Action, Goes, Gets, Puts, Exits, Deepens, Traps, calls}
use Rattle.rv_machine.specs.Step.{step_of}

-- what a machine that stopped does
abbrev pub stopped : Stop → State → Action
stopped stop.Call m = calls m
stopped stop.Trap m = Traps m.pc

-- what a request is
abbrev pub requested : Request → Action
requested request.Byte = Gets
requested (request.Put byte) = Puts byte
requested (request.Exit status) = Exits status
requested request.Deep = Deepens
requested (request.Trap pc) = Traps pc

-- n steps, none of which called the environment or stopped, lead from one state to another
abbrev pub Moves : List ℕ → ℕ → State → State → Type 0
Moves text zero m m' = m' ≡ m
Moves text (suc n) m m' = (u : State) × Moves text n m u × (step_of text u ≡ Goes m')

-- the end of a run whose last step gave this answer
abbrev pub ending_of : Stepped → Option End
ending_of Going = None
ending_of (Exit status) = Some (ended.Exit status)
ending_of Deep = Some ended.Deep
ending_of (Trap pc) = Some (ended.Trap pc)
ending_of ReadFault = Some ended.ReadFault
ending_of WriteFault = Some ended.WriteFault
