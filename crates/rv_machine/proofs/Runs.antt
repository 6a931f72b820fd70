-- Stretches of instructions, calls of the environment and the runs that they make.
use Rattle.std.proofs.Common.{◌≡◌, ◌≢◌, ℕ, zero, suc, ◌+◌, ◌-◌, ◌<◌, ◌≤◌, refl, sym, ◌∙◌, ap, arith, List, subst, add-one, add-zero, add-suc}
use Rattle.std.specs.Prelude.{Option, Some, None, IfSome}
use Rattle.rv_machine.specs.declared.answer.Stepped.{Stepped}
use Rattle.rv_machine.specs.declared.answer.Stepped.TheVariants.{Going, Exit, Deep, Trap, ReadFault, WriteFault}
use Rattle.rv_machine.specs.declared.answer.End.{End}
use Rattle.rv_machine.specs.declared.answer.End.TheVariants as ended
use Rattle.rv_machine.specs.declared.stretch.Stop.{Stop}
use Rattle.rv_machine.specs.State.{State, Loaded}
use Rattle.rv_machine.specs.Effect.{Action, Goes, Gets, Puts, Exits, Deepens, Traps}
use Rattle.rv_machine.specs.Step.{step_of}
use Rattle.rv_machine.specs.Run.{World, world, Getting, Putting, Acts, Steps, Went, Ended, Run}
use Rattle.rv_machine.specs.Pause.{stopped, Moves, ending_of}

-- an instruction that goes on is a step
pub instruction_steps : (text : List ℕ) (m m' : State) (left held : Option (List ℕ)) (reads writes : ℕ) → step_of text m ≡ Goes m' → Steps text (world m left held reads writes) Going (world m' left held reads writes)
unfolding Steps
instruction_steps text m m' left held reads writes e = rw e (refl, refl)

-- what a machine that stopped does is a step
pub stop_steps : (text : List ℕ) (stop : Stop) (w v : World) (answer : Stepped) → step_of text w.state ≡ stopped stop w.state → Acts (stopped stop w.state) w answer v → Steps text w answer v
unfolding Steps
stop_steps text stop w v answer e h = rw e h

pub moves_went : (text : List ℕ) (n : ℕ) (m m' : State) (left held : Option (List ℕ)) (reads writes : ℕ) → Moves text n m m' → Went text n (world m left held reads writes) (world m' left held reads writes)
unfolding Went
moves_went text zero m m' left held reads writes e = ap (λ (k : State). world k left held reads writes) e
moves_went text (suc n) m m' left held reads writes (u, before, last) =
    (world u left held reads writes, moves_went text n m u left held reads writes before, instruction_steps text u m' left held reads writes last)

-- a run and a run after it are one
pub went_on : (text : List ℕ) (n k : ℕ) (w u v : World) → Went text n w u → Went text k u v → Went text (n + k) w v
unfolding Went
went_on text n zero w u v first e =
    let whole : Went text n w v = rw e first in
    rw add-zero whole
went_on text n (suc k) w u v first (t, before, last) =
    let whole : Went text (suc (n + k)) w v = (t, went_on text n k w u t first before, last) in
    rw add-suc whole

-- the end of a run that a step ended
pub ended_run : (text : List ℕ) (n : ℕ) (w v : World) (answer : Stepped) (end : End) → ending_of answer ≡ Some end → Ended text n w answer v → Run text n w end v
ended_run text n w v Going end e h = absurd cc
ended_run text n w v (Exit status) end e h = let is : ended.Exit status ≡ end = cc in subst (λ (x : End). Run text n w x v) is h
ended_run text n w v Deep end e h = let is : ended.Deep ≡ end = cc in subst (λ (x : End). Run text n w x v) is h
ended_run text n w v (Trap pc) end e h = let is : ended.Trap pc ≡ end = cc in subst (λ (x : End). Run text n w x v) is h
ended_run text n w v ReadFault end e h = let is : ended.ReadFault ≡ end = cc in subst (λ (x : End). Run text n w x v) is h
ended_run text n w v WriteFault end e h = let is : ended.WriteFault ≡ end = cc in subst (λ (x : End). Run text n w x v) is h

-- a stretch of one instruction is a step
pub one_step : (text : List ℕ) (n : ℕ) (m m' : State) (left held : Option (List ℕ)) (reads writes : ℕ) → n ≡ 1 → Moves text n m m' → Steps text (world m left held reads writes) Going (world m' left held reads writes)
one_step text n m m' left held reads writes e h =
    let one : Moves text 1 m m' = rw e at h in
    instruction_steps text m m' left held reads writes (ap (step_of text) (sym one.1) ∙ one.2)

no_moves : (text : List ℕ) (n : ℕ) (m m' : State) → n < 1 → Moves text n m m' → m' ≡ m
no_moves text zero m m' h e = e
no_moves text (suc n) m m' h e = absurd (omega arith)

found : (text : List ℕ) (m : State) (stop : Option Stop) (s : Stop) → stop ≡ Some s → IfSome stop (λ t. step_of text m ≡ stopped t m) → step_of text m ≡ stopped s m
found text m stop s e h = rw e at h

-- where a machine stopped, its call of the environment is a step
pub stop_step : (text text' : List ℕ) (m : State) (stop : Option Stop) (s : Stop) (left held : Option (List ℕ)) (reads writes : ℕ) (answer : Stepped) (v : World) → text' ≡ text → stop ≡ Some s → IfSome stop (λ t. step_of text' m ≡ stopped t m) → Acts (stopped s m) (world m left held reads writes) answer v → Steps text (world m left held reads writes) answer v
stop_step text text' m stop s left held reads writes answer v same is stops acts =
    let h : step_of text m ≡ stopped s m = rw (← same) (found text' m stop s is stops) in
    stop_steps text s (world m left held reads writes) v answer h acts

-- and it is the first step where no instruction went before
pub first_step : (text text' : List ℕ) (n : ℕ) (m m' : State) (stop : Option Stop) (s : Stop) (left held : Option (List ℕ)) (reads writes : ℕ) (answer : Stepped) (v : World) → n < 1 → Moves text n m m' → text' ≡ text → stop ≡ Some s → IfSome stop (λ t. step_of text' m' ≡ stopped t m') → Acts (stopped s m') (world m' left held reads writes) answer v → Steps text (world m left held reads writes) answer v
first_step text text' n m m' stop s left held reads writes answer v fewer moves same is stops acts =
    let here : Steps text (world m' left held reads writes) answer v = stop_step text text' m' stop s left held reads writes answer v same is stops acts in
    let unmoved : m' ≡ m = no_moves text n m m' fewer moves in
    rw unmoved at here

-- the answer of a step that does not end a run
going_of : (answer : Stepped) → ending_of answer ≡ None → answer ≡ Going
going_of Going e = refl
going_of (Exit status) e = absurd cc
going_of Deep e = absurd cc
going_of (Trap pc) e = absurd cc
going_of ReadFault e = absurd cc
going_of WriteFault e = absurd cc

-- Of a run of `steps` steps, from w, `rest` are still to come; a stretch takes n of these.
module _ (text : List ℕ) (steps rest n : ℕ) (bound : rest ≤ steps) (w : World) where
  pub stretch_went : (text' : List ℕ) (m m' : State) (left held : Option (List ℕ)) (reads writes : ℕ) → n ≤ rest → text' ≡ text → Went text (steps - rest) w (world m left held reads writes) → Moves text' n m m' → Went text (steps - (rest - n)) w (world m' left held reads writes)
  stretch_went text' m m' left held reads writes fewer same went moves =
      let more : Went text n (world m left held reads writes) (world m' left held reads writes) = moves_went text n m m' left held reads writes (rw same at moves) in
      let all : Went text (steps - rest + n) w (world m' left held reads writes) = went_on text (steps - rest) n w (world m left held reads writes) (world m' left held reads writes) went more in
      let count : steps - rest + n ≡ steps - (rest - n) = omega arith in
      rw count at all

  -- a step of the machine that stopped, which goes on
  pub call_went : (u v : World) (answer : Stepped) → n < rest → ending_of answer ≡ None → Went text (steps - (rest - n)) w u → Steps text u answer v → Went text (steps - (rest - n - 1)) w v
  unfolding Went
  call_went u v answer fewer goes went last =
      let going : answer ≡ Going = going_of answer goes in
      let step : Steps text u Going v = rw going at last in
      let all : Went text (suc (steps - (rest - n))) w v = (u, went, step) in
      let count : suc (steps - (rest - n)) ≡ steps - (rest - n - 1) = omega arith in
      subst (λ (k : ℕ). Went text k w v) count all

  -- or that ends
  pub call_ended : (u v : World) (answer : Stepped) (end : End) → n < rest → ending_of answer ≡ Some end → Went text (steps - (rest - n)) w u → Steps text u answer v → Run text steps w end v
  call_ended u v answer end fewer ends went last = ended_run text steps w v answer end ends (record { steps = steps - (rest - n); fewer = omega arith; before = u; went = went; last = last })

acts_keeps : (action : Action) (w v : World) (answer : Stepped) → answer ≢ Going → Acts action w answer v → v.state ≡ w.state
acts_keeps (Goes m) w v answer stopped (is, e) = absurd (stopped is)
acts_keeps Gets w v Going stopped h = absurd (stopped refl)
acts_keeps Gets w v (Exit status) stopped h = absurd h
acts_keeps Gets w v Deep stopped h = absurd h
acts_keeps Gets w v (Trap pc) stopped h = absurd h
acts_keeps Gets w v ReadFault stopped (later, rose, e) = ap (λ (k : World). k.state) e
acts_keeps Gets w v WriteFault stopped h = absurd h
acts_keeps (Puts byte) w v Going stopped h = absurd (stopped refl)
acts_keeps (Puts byte) w v (Exit status) stopped h = absurd h
acts_keeps (Puts byte) w v Deep stopped h = absurd h
acts_keeps (Puts byte) w v (Trap pc) stopped h = absurd h
acts_keeps (Puts byte) w v ReadFault stopped h = absurd h
acts_keeps (Puts byte) w v WriteFault stopped (put, later, rose, e) = ap (λ (k : World). k.state) e
acts_keeps (Exits status) w v answer stopped (is, e) = ap (λ (k : World). k.state) e
acts_keeps Deepens w v answer stopped (is, e) = ap (λ (k : World). k.state) e
acts_keeps (Traps pc) w v answer stopped (is, e) = ap (λ (k : World). k.state) e

steps_keeps : (text : List ℕ) (w v : World) (answer : Stepped) → answer ≢ Going → Steps text w answer v → v.state ≡ w.state
unfolding Steps
steps_keeps text w v answer stopped h = acts_keeps (step_of text w.state) w v answer stopped h

-- a step that does not go on leaves the machine as it was
pub machine_kept : (text : List ℕ) (m m' : Loaded) (left held left' held' : Option (List ℕ)) (reads writes reads' writes' : ℕ) (answer : Stepped) → answer ≢ Going → m'.text ≡ m.text → Steps text (world m.state left held reads writes) answer (world m'.state left' held' reads' writes') → m' ≡ m
machine_kept text m m' left held left' held' reads writes reads' writes' answer stopped same h =
    let state' : m'.state ≡ m.state = steps_keeps text (world m.state left held reads writes) (world m'.state left' held' reads' writes') answer stopped h in
    ap (λ (t : List ℕ). let k : Loaded = record { text = t; state = m'.state } in k) same ∙ ap (λ (s : State). let k : Loaded = record { text = m.text; state = s } in k) state'
