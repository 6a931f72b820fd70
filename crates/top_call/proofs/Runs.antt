-- Runs of a machine from their front.
use Rattle.std.proofs.Common.{◌≡◌, ◌≤◌, ◌<◌, ◌+◌, ℕ, zero, suc, ◌⊎◌, inl, inr, List, [], ◌∷◌, ◌++◌, Option, Some, None, refl, sym, ap, subst, ◌∙◌, arith}
use Rattle.ccai_io.specs.Outside.{Appends, AppendsPrefix, Rose}
use Rattle.rv_machine.specs.declared.answer.Stepped.{Stepped}
use Rattle.rv_machine.specs.declared.answer.Stepped.TheVariants.{Going, Exit, Deep, Trap, ReadFault, WriteFault}
use Rattle.rv_machine.specs.declared.answer.End.{End}
use Rattle.rv_machine.specs.declared.answer.End.TheVariants as ended
use Rattle.rv_machine.specs.State.{State}
use Rattle.rv_machine.specs.Effect.{Action, Goes, Gets, Puts, Exits, Deepens, Traps}
use Rattle.rv_machine.specs.Step.{step_of}
use Rattle.rv_machine.specs.Run.{World, answered, Acts, Steps, Went, Ended, Run}
use Rattle.rv_machine.specs.After.{end_of}

-- n + 1 steps are one step and n more
went_front : (text : List ℕ) (n : ℕ) (w v : World) → Went text (suc n) w v → (u : World) × (Steps text w Going u × Went text n u v)
unfolding Went
went_front text zero w v h = (v, (subst (λ (x : World). Steps text x Going v) h.1 h.2, refl))
went_front text (suc n) w v h =
    let front : (u : World) × (Steps text w Going u × Went text n u h.0) = went_front text n w h.0 h.1 in
    (front.0, (front.1.0, (h.0, front.1.1, h.2)))

-- the first step ended the run, or the rest of it did
ended_front : (text : List ℕ) (n steps : ℕ) (w before v : World) (answer : Stepped) → steps < suc n → Went text steps w before → Steps text before answer v → Steps text w answer v ⊎ ((u : World) × (Steps text w Going u × Ended text n u answer v))
unfolding Went
ended_front text n zero w before v answer few went last = inl (subst (λ (x : World). Steps text x answer v) went last)
ended_front text n (suc steps) w before v answer few went last =
    let front : (u : World) × (Steps text w Going u × Went text steps u before) = went_front text steps w before went in
    inr (front.0, (front.1.0, record { steps = steps; fewer = omega arith; before = before; went = front.1.1; last = last }))

abbrev NotGoing : Stepped → Type 0
NotGoing Going = ⊥
NotGoing other = Unit {0}

-- the first step ends the run, or it goes on
abbrev Begins : List ℕ → ℕ → World → End → World → Type 0
Begins text n w e v = ((answer : Stepped) × ((e ≡ end_of answer) × (NotGoing answer × Steps text w answer v))) ⊎ ((u : World) × (Steps text w Going u × Run text n u e v))

first_end : (text : List ℕ) (n : ℕ) (w : World) (answer : Stepped) (e : End) (v : World) → NotGoing answer → e ≡ end_of answer → ((u : World) → Ended text n u answer v → Run text n u e v) → Ended text (suc n) w answer v → Begins text n w e v
first_end text n w answer e v stops same later h =
    elim (ended_front text n h.steps w h.before v answer h.fewer h.went h.last) [ inl s ↦ inl (answer, (same, (stops, s))) | inr r ↦ inr (r.0, (r.1.0, later r.0 r.1.1)) ]

pub run_front : (text : List ℕ) (n : ℕ) (w : World) (e : End) (v : World) → Run text (suc n) w e v → Begins text n w e v
run_front text n w ended.Spent v h = inr (went_front text n w v h)
run_front text n w (ended.Exit s) v h = first_end text n w (Exit s) (ended.Exit s) v tt refl (λ u k. k) h
run_front text n w ended.Deep v h = first_end text n w Deep ended.Deep v tt refl (λ u k. k) h
run_front text n w (ended.Trap pc) v h = first_end text n w (Trap pc) (ended.Trap pc) v tt refl (λ u k. k) h
run_front text n w ended.ReadFault v h = first_end text n w ReadFault ended.ReadFault v tt refl (λ u k. k) h
run_front text n w ended.WriteFault v h = first_end text n w WriteFault ended.WriteFault v tt refl (λ u k. k) h

-- what the action of a step says of it
pub acted : (text : List ℕ) (w : World) (act : Action) (answer : Stepped) (v : World) → step_of text w.state ≡ act → Steps text w answer v → Acts act w answer v
unfolding Steps
acted text w act answer v is h = subst (λ (a : Action). Acts a w answer v) is h

-- a step that goes on by itself
pub run_goes : (text : List ℕ) (n : ℕ) (w : World) (m : State) (e : End) (v : World) → step_of text w.state ≡ Goes m → Run text (suc n) w e v → Run text n (record w { state = m }) e v
run_goes text n w m e v is h = elim (run_front text n w e v h) [
  | inl s ↦ absurd (subst NotGoing (acted text w (Goes m) s.0 v is s.1.1.1).0 s.1.1.0)
  | inr r ↦ subst (λ (x : World). Run text n x e v) (acted text w (Goes m) Going r.0 is r.1.0).1 r.1.1
]

going_is_no_exit : (s : ℕ) → Going ≡ Exit s → ⊥
going_is_no_exit s h = cc

-- a step that ends by itself
pub run_exits : (text : List ℕ) (n : ℕ) (w : World) (s : ℕ) (e : End) (v : World) → step_of text w.state ≡ Exits s → Run text (suc n) w e v → (e ≡ ended.Exit s) × (v ≡ w)
run_exits text n w s e v is h = elim (run_front text n w e v h) [
  | inl t ↦ (t.1.0 ∙ ap end_of (acted text w (Exits s) t.0 v is t.1.1.1).0, (acted text w (Exits s) t.0 v is t.1.1.1).1)
  | inr r ↦ absurd (going_is_no_exit s (acted text w (Exits s) Going r.0 is r.1.0).0)
]

-- what the sink kept as it failed, of a run that had put nothing out before
pub record SinkFailed (w : World) (byte : ℕ) (e : End) (v : World) : Type 0 where
  pub answer : e ≡ ended.WriteFault
  pub kept : AppendsPrefix w.held v.held (byte ∷ [])
  pub left : v.left ≡ w.left
  pub read_faults : v.read_faults ≡ w.read_faults
  pub later : w.write_faults ≤ v.write_faults
  pub rose : Rose w.write_faults v.write_faults

put_stopped : (w : World) (byte : ℕ) (answer : Stepped) (e : End) (v : World) → NotGoing answer → e ≡ end_of answer → Acts (Puts byte) w answer v → SinkFailed w byte e v
put_stopped w byte Going e v stops same acts = absurd stops
put_stopped w byte (Exit s) e v stops same acts = absurd acts
put_stopped w byte Deep e v stops same acts = absurd acts
put_stopped w byte (Trap pc) e v stops same acts = absurd acts
put_stopped w byte ReadFault e v stops same acts = absurd acts
put_stopped w byte WriteFault e v stops same acts = record {
  answer = same;
  kept = acts.0;
  left = ap (λ (x : World). x.left) acts.3;
  read_faults = ap (λ (x : World). x.read_faults) acts.3;
  later = acts.1;
  rose = acts.2;
}

-- a step that puts a byte out
pub run_puts : (text : List ℕ) (n : ℕ) (w : World) (byte : ℕ) (e : End) (v : World) → step_of text w.state ≡ Puts byte → Run text (suc n) w e v → SinkFailed w byte e v ⊎ ((held : Option (List ℕ)) × (Appends w.held held (byte ∷ []) × Run text n (record w { state = answered w.state byte; held = held }) e v))
run_puts text n w byte e v is h = elim (run_front text n w e v h) [
  | inl s ↦ inl (put_stopped w byte s.0 e v s.1.1.0 s.1.0 (acted text w (Puts byte) s.0 v is s.1.1.1))
  | inr r ↦
      let put : Appends w.held r.0.held (byte ∷ []) × (r.0 ≡ record w { state = answered w.state byte; held = r.0.held }) = acted text w (Puts byte) Going r.0 is r.1.0 in
      inr (r.0.held, (put.0, subst (λ (x : World). Run text n x e v) put.1 r.1.1))
]
