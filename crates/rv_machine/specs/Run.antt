-- A machine in its environment: one step, and a run of many, over any source and any sink.
use Rattle.std.specs.Prelude.{◌≡◌, ℕ, zero, suc, ◌-◌, ◌%◌, ◌^◌, ◌<◌, ◌≤◌, List, [], ◌∷◌, Option, Some, None}
use Rattle.ccai_io.specs.Outside.{Rose, Takes, Appends, AppendsPrefix}
use Rattle.rv_machine.specs.declared.answer.Stepped.{Stepped}
use Rattle.rv_machine.specs.declared.answer.Stepped.TheVariants.{Going, Exit, Deep, Trap, ReadFault, WriteFault}
use Rattle.rv_machine.specs.declared.answer.End.{End}
use Rattle.rv_machine.specs.declared.answer.End.TheVariants as ended
use Rattle.rv_machine.specs.State.{State, following, with_register}
use Rattle.rv_machine.specs.Effect.{Action, Goes, Gets, Puts, Exits, Deepens, Traps}
use Rattle.rv_machine.specs.Step.{step_of}

-- a machine's state, the input left and the output held where they are told, and how many reads and how many
-- writes have failed
pub record World : Type 0 where
  pub state : State
  pub left : Option (List ℕ)
  pub held : Option (List ℕ)
  pub read_faults : ℕ
  pub write_faults : ℕ

abbrev pub world : State → Option (List ℕ) → Option (List ℕ) → ℕ → ℕ → World
world state' left' held' read' write' = record { state = state'; left = left'; held = held'; read_faults = read'; write_faults = write' }

-- past a call of the environment, with its answer in x10
abbrev pub answered : State → ℕ → State
answered m word = record { registers = with_register m.registers 10 word; pc = following m.pc; base = m.base; memory = m.memory }

-- the answer to a request for a byte: the byte, which counts modulo 2^8, or all ones at the end of the input
abbrev pub byte_or_end : Option ℕ → ℕ
byte_or_end None = 2 ^ 32 - 1
byte_or_end (Some byte) = byte % 2 ^ 8

-- a step that asks for a byte: it is taken or the end is met, or the source fails and nothing is taken
abbrev pub Getting : World → Stepped → World → Type 0
Getting w Going v = (byte : Option ℕ) × Takes w.left v.left byte × (v ≡ record w { state = answered w.state (byte_or_end byte); left = v.left })
Getting w ReadFault v = (w.read_faults ≤ v.read_faults) × Rose w.read_faults v.read_faults × (v ≡ record w { read_faults = v.read_faults })
Getting w other v = ⊥

-- a step that puts a byte out: it is put, or the sink fails and has kept it or not
abbrev pub Putting : ℕ → World → Stepped → World → Type 0
Putting byte w Going v = Appends w.held v.held (byte ∷ []) × (v ≡ record w { state = answered w.state byte; held = v.held })
Putting byte w WriteFault v = AppendsPrefix w.held v.held (byte ∷ []) × (w.write_faults ≤ v.write_faults) × Rose w.write_faults v.write_faults × (v ≡ record w { held = v.held; write_faults = v.write_faults })
Putting byte w other v = ⊥

-- what an action may answer, and what it may leave
abbrev pub Acts : Action → World → Stepped → World → Type 0
Acts (Goes m) w answer v = (answer ≡ Going) × (v ≡ record w { state = m })
Acts Gets w answer v = Getting w answer v
Acts (Puts byte) w answer v = Putting byte w answer v
Acts (Exits status) w answer v = (answer ≡ Exit status) × (v ≡ w)
Acts Deepens w answer v = (answer ≡ Deep) × (v ≡ w)
Acts (Traps pc) w answer v = (answer ≡ Trap pc) × (v ≡ w)

-- from w, one step of a machine of this text may give this answer and leave v
unfoldable pub Steps : List ℕ → World → Stepped → World → Type 0
Steps text w answer v = Acts (step_of text w.state) w answer v

-- from w, n steps that all went on may leave v
unfoldable pub Went : List ℕ → ℕ → World → World → Type 0
Went text zero w v = v ≡ w
Went text (suc n) w v = (u : World) × Went text n w u × Steps text u Going v

-- A count of faults over a call whose answer is this fault, or is not: it never falls, it rose where the
-- answer is the fault, and it stayed where the answer is another.
pub record Counts (is_fault : Type 0) (before now : ℕ) : Type 0 where
  pub later : before ≤ now
  pub rose : is_fault → Rose before now
  pub calm : ¬ is_fault → now ≡ before

-- one of the first n steps gave this answer, and all before it went on
pub record Ended (text : List ℕ) (n : ℕ) (w : World) (answer : Stepped) (v : World) : Type 0 where
  pub steps : ℕ
  pub fewer : steps < n
  pub before : World
  pub went : Went text steps w before
  pub last : Steps text before answer v

-- from w, a run of at most n steps may give this answer and leave v
abbrev pub Run : List ℕ → ℕ → World → End → World → Type 0
Run text n w ended.Spent v = Went text n w v
Run text n w (ended.Exit status) v = Ended text n w (Exit status) v
Run text n w ended.Deep v = Ended text n w Deep v
Run text n w (ended.Trap pc) v = Ended text n w (Trap pc) v
Run text n w ended.ReadFault v = Ended text n w ReadFault v
Run text n w ended.WriteFault v = Ended text n w WriteFault v
