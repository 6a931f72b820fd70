-- When the counts of faults rise over steps and runs.
use Rattle.std.proofs.Common.{◌≡◌, ◌≢◌, ℕ, zero, suc, ◌≤◌, refl, sym, ◌∙◌, ap, subst, arith, List}
use Rattle.ccai_io.specs.Outside.{Rose}
use Rattle.rv_machine.specs.declared.answer.Stepped.{Stepped}
use Rattle.rv_machine.specs.declared.answer.Stepped.TheVariants.{Going, Exit, Deep, Trap, ReadFault, WriteFault}
use Rattle.rv_machine.specs.declared.answer.End.{End}
use Rattle.rv_machine.specs.declared.answer.End.TheVariants as ended
use Rattle.rv_machine.specs.Effect.{Action, Goes, Gets, Puts, Exits, Deepens, Traps}
use Rattle.rv_machine.specs.Step.{step_of}
use Rattle.rv_machine.specs.Run.{World, Acts, Steps, Went, Ended, Run, Counts}

-- a count that did not change, where the answer is not its fault
calm : {P : Type 0} (before now : ℕ) → ¬ P → now ≡ before → Counts P before now
calm before now other e = record { later = omega arith; rose = λ p. absurd (other p); calm = λ q. e }

-- a count that rose, where the answer is its fault
risen : {P : Type 0} (before now : ℕ) → P → before ≤ now → Rose before now → Counts P before now
risen before now p later' rose' = record { later = later'; rose = λ q. rose'; calm = λ other. absurd (other p) }

-- the counts of both after a call
record Both (w : World) (answer : Stepped) (v : World) : Type 0 where
  reads : Counts (answer ≡ ReadFault) w.read_faults v.read_faults
  writes : Counts (answer ≡ WriteFault) w.write_faults v.write_faults

quiet : (w v : World) (answer : Stepped) → answer ≢ ReadFault → answer ≢ WriteFault → v.read_faults ≡ w.read_faults → v.write_faults ≡ w.write_faults → Both w answer v
quiet w v answer r f a b = record { reads = calm w.read_faults v.read_faults r a; writes = calm w.write_faults v.write_faults f b }

ends_quietly : (w v : World) (answer given : Stepped) → given ≢ ReadFault → given ≢ WriteFault → answer ≡ given → v.read_faults ≡ w.read_faults → v.write_faults ≡ w.write_faults → Both w answer v
ends_quietly w v answer given r f e a b = quiet w v answer (λ x. r (sym e ∙ x)) (λ x. f (sym e ∙ x)) a b

acts_both : (action : Action) (w v : World) (answer : Stepped) → Acts action w answer v → Both w answer v
acts_both (Goes m) w v answer (is, e) = ends_quietly w v answer Going (λ x. cc) (λ x. cc) is (ap (λ (k : World). k.read_faults) e) (ap (λ (k : World). k.write_faults) e)
acts_both Gets w v Going (byte, taken, e) = quiet w v Going (λ x. cc) (λ x. cc) (ap (λ (k : World). k.read_faults) e) (ap (λ (k : World). k.write_faults) e)
acts_both Gets w v ReadFault (later, rose, e) = record {
  reads = risen w.read_faults v.read_faults refl later rose;
  writes = calm w.write_faults v.write_faults (λ x. cc) (ap (λ (k : World). k.write_faults) e);
}
acts_both Gets w v (Exit status) h = absurd h
acts_both Gets w v Deep h = absurd h
acts_both Gets w v (Trap pc) h = absurd h
acts_both Gets w v WriteFault h = absurd h
acts_both (Puts byte) w v Going (put, e) = quiet w v Going (λ x. cc) (λ x. cc) (ap (λ (k : World). k.read_faults) e) (ap (λ (k : World). k.write_faults) e)
acts_both (Puts byte) w v WriteFault (put, later, rose, e) = record {
  reads = calm w.read_faults v.read_faults (λ x. cc) (ap (λ (k : World). k.read_faults) e);
  writes = risen w.write_faults v.write_faults refl later rose;
}
acts_both (Puts byte) w v (Exit status) h = absurd h
acts_both (Puts byte) w v Deep h = absurd h
acts_both (Puts byte) w v (Trap pc) h = absurd h
acts_both (Puts byte) w v ReadFault h = absurd h
acts_both (Exits status) w v answer (is, e) = ends_quietly w v answer (Exit status) (λ x. cc) (λ x. cc) is (ap (λ (k : World). k.read_faults) e) (ap (λ (k : World). k.write_faults) e)
acts_both Deepens w v answer (is, e) = ends_quietly w v answer Deep (λ x. cc) (λ x. cc) is (ap (λ (k : World). k.read_faults) e) (ap (λ (k : World). k.write_faults) e)
acts_both (Traps pc) w v answer (is, e) = ends_quietly w v answer (Trap pc) (λ x. cc) (λ x. cc) is (ap (λ (k : World). k.read_faults) e) (ap (λ (k : World). k.write_faults) e)

steps_both : (text : List ℕ) (w v : World) (answer : Stepped) → Steps text w answer v → Both w answer v
unfolding Steps
steps_both text w v answer h = acts_both (step_of text w.state) w v answer h

pub steps_reads : (text : List ℕ) (w v : World) (answer : Stepped) → Steps text w answer v → Counts (answer ≡ ReadFault) w.read_faults v.read_faults
steps_reads text w v answer h = (steps_both text w v answer h).reads

pub steps_writes : (text : List ℕ) (w v : World) (answer : Stepped) → Steps text w answer v → Counts (answer ≡ WriteFault) w.write_faults v.write_faults
steps_writes text w v answer h = (steps_both text w v answer h).writes

-- steps that went on raised no count
went_reads : (text : List ℕ) (n : ℕ) (w v : World) → Went text n w v → v.read_faults ≡ w.read_faults
unfolding Went
went_reads text zero w v e = ap (λ (k : World). k.read_faults) e
went_reads text (suc n) w v (u, before, last) = (steps_reads text u v Going last).calm (λ x. cc) ∙ went_reads text n w u before

went_writes : (text : List ℕ) (n : ℕ) (w v : World) → Went text n w v → v.write_faults ≡ w.write_faults
unfolding Went
went_writes text zero w v e = ap (λ (k : World). k.write_faults) e
went_writes text (suc n) w v (u, before, last) = (steps_writes text u v Going last).calm (λ x. cc) ∙ went_writes text n w u before

-- the counts over a run that a step ended
module _ (text : List ℕ) (n : ℕ) (w : World) (answer : Stepped) (v : World) (h : Ended text n w answer v) where
  ended_reads : Counts (answer ≡ ReadFault) w.read_faults v.read_faults
  ended_reads = subst (λ (k : ℕ). Counts (answer ≡ ReadFault) k v.read_faults) (went_reads text h.steps w h.before h.went) (steps_reads text h.before v answer h.last)

  ended_writes : Counts (answer ≡ WriteFault) w.write_faults v.write_faults
  ended_writes = subst (λ (k : ℕ). Counts (answer ≡ WriteFault) k v.write_faults) (went_writes text h.steps w h.before h.went) (steps_writes text h.before v answer h.last)

pub run_reads : (text : List ℕ) (n : ℕ) (w v : World) (end : End) → Run text n w end v → Counts (end ≡ ended.ReadFault) w.read_faults v.read_faults
run_reads text n w v ended.Spent h = calm w.read_faults v.read_faults (λ x. cc) (went_reads text n w v h)
run_reads text n w v (ended.Exit status) h = calm w.read_faults v.read_faults (λ x. cc) ((ended_reads text n w (Exit status) v h).calm (λ x. cc))
run_reads text n w v ended.Deep h = calm w.read_faults v.read_faults (λ x. cc) ((ended_reads text n w Deep v h).calm (λ x. cc))
run_reads text n w v (ended.Trap pc) h = calm w.read_faults v.read_faults (λ x. cc) ((ended_reads text n w (Trap pc) v h).calm (λ x. cc))
run_reads text n w v ended.ReadFault h = let c = ended_reads text n w ReadFault v h in risen w.read_faults v.read_faults refl c.later (c.rose refl)
run_reads text n w v ended.WriteFault h = calm w.read_faults v.read_faults (λ x. cc) ((ended_reads text n w WriteFault v h).calm (λ x. cc))

pub run_writes : (text : List ℕ) (n : ℕ) (w v : World) (end : End) → Run text n w end v → Counts (end ≡ ended.WriteFault) w.write_faults v.write_faults
run_writes text n w v ended.Spent h = calm w.write_faults v.write_faults (λ x. cc) (went_writes text n w v h)
run_writes text n w v (ended.Exit status) h = calm w.write_faults v.write_faults (λ x. cc) ((ended_writes text n w (Exit status) v h).calm (λ x. cc))
run_writes text n w v ended.Deep h = calm w.write_faults v.write_faults (λ x. cc) ((ended_writes text n w Deep v h).calm (λ x. cc))
run_writes text n w v (ended.Trap pc) h = calm w.write_faults v.write_faults (λ x. cc) ((ended_writes text n w (Trap pc) v h).calm (λ x. cc))
run_writes text n w v ended.ReadFault h = calm w.write_faults v.write_faults (λ x. cc) ((ended_writes text n w ReadFault v h).calm (λ x. cc))
run_writes text n w v ended.WriteFault h = let c = ended_writes text n w WriteFault v h in risen w.write_faults v.write_faults refl c.later (c.rose refl)
