-- On input that is told, steps and runs over any source and sink are those of the function.
use Rattle.std.proofs.Common.{◌≡◌, ◌≢◌, ℕ, zero, suc, ◌+◌, ◌-◌, ◌<◌, ◌≤◌, refl, sym, ◌∙◌, ap, arith, inl, inr, ◌⊎◌, List, [], ◌∷◌, ◌++◌, append-nil, append_assoc, subst}
use Rattle.std.specs.Prelude.{Option, Some, None}
use Rattle.ccai_io.specs.Outside.{Rose, Takes, Appends, AppendsPrefix}
use Rattle.rv_machine.specs.declared.answer.Stepped.{Stepped}
use Rattle.rv_machine.specs.declared.answer.Stepped.TheVariants.{Going, Exit, Deep, Trap, ReadFault, WriteFault}
use Rattle.rv_machine.specs.declared.answer.End.{End}
use Rattle.rv_machine.specs.declared.answer.End.TheVariants as ended
use Rattle.rv_machine.specs.State.{State}
use Rattle.rv_machine.specs.Effect.{Action, Goes, Gets, Puts, Exits, Deepens, Traps}
use Rattle.rv_machine.specs.Step.{step_of}
use Rattle.rv_machine.specs.Run.{World, answered, byte_or_end, Getting, Putting, Acts, Steps, Went, Ended, Run}
use Rattle.rv_machine.specs.After.{Moment, beginning, gets, acts, next, after, Left, Answers, FailsReading, FailsWriting, RunsAs, end_of}
use Rattle.rv_machine.specs.Laws.After.{next-going, after-past}

-- two pieces that were put one after the other are one
appends-append : (before mid last : Option (List ℕ)) (xs ys : List ℕ) → Appends before mid xs → Appends mid last ys → Appends before last (xs ++ ys)
appends-append None mid last xs ys e f = rw e at f
appends-append (Some held) mid last xs ys e f =
    let g : last ≡ Some ((held ++ xs) ++ ys) = rw e at f in
    g ∙ ap Some (append_assoc held xs ys)

-- a sink that was not touched has nothing put behind what it held
appends_nothing : (held held' : Option (List ℕ)) → held' ≡ held → Appends held held' []
appends_nothing None held' e = e
appends_nothing (Some held) held' e = e ∙ ap Some (sym (append-nil held))

-- what was left is a moment of a run, and then a later one
left_on : (w u v : World) (a b : Moment) (ys : List ℕ) → Left w u a → v.state ≡ b.state → v.left ≡ Some b.left → Appends u.held v.held ys → b.out ≡ a.out ++ ys → v.read_faults ≡ u.read_faults → v.write_faults ≡ u.write_faults → Left w v b
left_on w u v a b ys l state' left' put out' reads writes = record {
  state = state';
  left = left';
  held = subst (λ (xs : List ℕ). Appends w.held v.held xs) (sym out') (appends-append w.held u.held v.held a.out ys l.held put);
  read_faults = reads ∙ l.read_faults;
  write_faults = writes ∙ l.write_faults;
}

-- the same where nothing was put out
left_quietly : (w u v : World) (a b : Moment) → Left w u a → v.state ≡ b.state → v.left ≡ Some b.left → v.held ≡ u.held → b.out ≡ a.out → v.read_faults ≡ u.read_faults → v.write_faults ≡ u.write_faults → Left w v b
left_quietly w u v a b l state' left' held' out' reads writes = left_on w u v a b [] l state' left' (appends_nothing u.held v.held held') (out' ∙ sym (append-nil a.out)) reads writes

-- what a request for a byte gives where the input is told
record Given (a b : Moment) (last : Option (List ℕ)) (byte : Option ℕ) : Type 0 where
  left : last ≡ Some b.left
  state : answered a.state (byte_or_end byte) ≡ b.state
  out : b.out ≡ a.out
  answer : b.answer ≡ a.answer

given : (a : Moment) (input : List ℕ) (last : Option (List ℕ)) (byte : Option ℕ) → Takes (Some input) last byte → Given a (gets a input) last byte
given a [] last byte (e, f) = record { left = e; state = ap (λ b. answered a.state (byte_or_end b)) f; out = refl; answer = refl }
given a (x ∷ xs) last byte (e, f) = record { left = e; state = ap (λ b. answered a.state (byte_or_end b)) f; out = refl; answer = refl }

got : (w u v : World) (a : Moment) → a.answer ≡ Going → Left w u a → Getting u Going v → Answers Going w v (gets a a.left)
got w u v a going l (byte, taken, e) =
    let told : Takes (Some a.left) v.left byte = rw l.left at taken in
    let g = given a a.left v.left byte told in
    let state' : v.state ≡ answered u.state (byte_or_end byte) = ap (λ (k : World). k.state) e in
    record {
      answer_is = g.answer ∙ going;
      left = left_quietly w u v a (gets a a.left) l (state' ∙ ap (λ (m : State). answered m (byte_or_end byte)) l.state ∙ g.state) g.left (ap (λ (k : World). k.held) e) g.out (ap (λ (k : World). k.read_faults) e) (ap (λ (k : World). k.write_faults) e);
    }

gave : (w u v : World) (a : Moment) (byte : ℕ) → a.answer ≡ Going → Left w u a → Putting byte u Going v → Answers Going w v (acts a (Puts byte))
gave w u v a byte going l (put, e) =
    let state' : v.state ≡ answered u.state byte = ap (λ (k : World). k.state) e in
    record {
      answer_is = going;
      left = left_on w u v a (acts a (Puts byte)) (byte ∷ []) l (state' ∙ ap (λ (m : State). answered m byte) l.state) (ap (λ (k : World). k.left) e ∙ l.left) put refl (ap (λ (k : World). k.read_faults) e) (ap (λ (k : World). k.write_faults) e);
    }

-- a step that ends the machine leaves all as it was
halted : (w u v : World) (a b : Moment) (answer : Stepped) → Left w u a → b.answer ≡ answer → b.state ≡ a.state → b.left ≡ a.left → b.out ≡ a.out → v ≡ u → Answers answer w v b
halted w u v a b answer l is state' left' out' e = record {
  answer_is = is;
  left = left_quietly w u v a b l (ap (λ (k : World). k.state) e ∙ l.state ∙ sym state') (ap (λ (k : World). k.left) e ∙ l.left ∙ ap Some (sym left')) (ap (λ (k : World). k.held) e) out' (ap (λ (k : World). k.read_faults) e) (ap (λ (k : World). k.write_faults) e);
}

abbrev NoFault : Stepped → Type 0
NoFault ReadFault = ⊥
NoFault WriteFault = ⊥
NoFault other = Unit {0}

-- an answer that is no fault is that of the function's step
acts_answers : (w u v : World) (a : Moment) (action : Action) (answer : Stepped) → NoFault answer → a.answer ≡ Going → Left w u a → Acts action u answer v → Answers answer w v (acts a action)
acts_answers w u v a (Goes m) answer calm going l (is, e) = record {
  answer_is = going ∙ sym is;
  left = left_quietly w u v a (acts a (Goes m)) l (ap (λ (k : World). k.state) e) (ap (λ (k : World). k.left) e ∙ l.left) (ap (λ (k : World). k.held) e) refl (ap (λ (k : World). k.read_faults) e) (ap (λ (k : World). k.write_faults) e);
}
acts_answers w u v a Gets Going calm going l h = got w u v a going l h
acts_answers w u v a Gets (Exit status) calm going l h = absurd h
acts_answers w u v a Gets Deep calm going l h = absurd h
acts_answers w u v a Gets (Trap pc) calm going l h = absurd h
acts_answers w u v a Gets ReadFault calm going l h = absurd calm
acts_answers w u v a Gets WriteFault calm going l h = absurd calm
acts_answers w u v a (Puts byte) Going calm going l h = gave w u v a byte going l h
acts_answers w u v a (Puts byte) (Exit status) calm going l h = absurd h
acts_answers w u v a (Puts byte) Deep calm going l h = absurd h
acts_answers w u v a (Puts byte) (Trap pc) calm going l h = absurd h
acts_answers w u v a (Puts byte) ReadFault calm going l h = absurd calm
acts_answers w u v a (Puts byte) WriteFault calm going l h = absurd calm
acts_answers w u v a (Exits status) answer calm going l (is, e) = halted w u v a (acts a (Exits status)) answer l (sym is) refl refl refl e
acts_answers w u v a Deepens answer calm going l (is, e) = halted w u v a (acts a Deepens) answer l (sym is) refl refl refl e
acts_answers w u v a (Traps pc) answer calm going l (is, e) = halted w u v a (acts a (Traps pc)) answer l (sym is) refl refl refl e

-- a step from a moment of a run
acts_at : (text : List ℕ) (w u v : World) (a : Moment) (answer : Stepped) → Left w u a → Steps text u answer v → Acts (step_of text a.state) u answer v
unfolding Steps
acts_at text w u v a answer l h = subst (λ (m : State). Acts (step_of text m) u answer v) l.state h

pub step_answers : (text : List ℕ) (w u v : World) (a : Moment) (answer : Stepped) → NoFault answer → a.answer ≡ Going → Left w u a → Steps text u answer v → Answers answer w v (next text a)
step_answers text w u v a answer calm going l h =
    let b : Answers answer w v (acts a (step_of text a.state)) = acts_answers w u v a (step_of text a.state) answer calm going l (acts_at text w u v a answer l h) in
    subst (λ (m : Moment). Answers answer w v m) (sym (next-going text a going)) b

begins : (w v : World) (input : List ℕ) → w.left ≡ Some input → v ≡ w → Answers Going w v (beginning w.state input)
begins w v input told e = record {
  answer_is = refl;
  left = record {
    state = ap (λ (k : World). k.state) e;
    left = ap (λ (k : World). k.left) e ∙ told;
    held = appends_nothing w.held v.held (ap (λ (k : World). k.held) e);
    read_faults = ap (λ (k : World). k.read_faults) e;
    write_faults = ap (λ (k : World). k.write_faults) e;
  };
}

pub went_answers : (text : List ℕ) (n : ℕ) (w v : World) (input : List ℕ) → w.left ≡ Some input → Went text n w v → Answers Going w v (after text n (beginning w.state input))
unfolding Went after
went_answers text zero w v input told e = begins w v input told e
went_answers text (suc n) w v input told (u, went, last) =
    let before = went_answers text n w u input told went in
    step_answers text w u v (after text n (beginning w.state input)) Going tt before.answer_is before.left last

not_going : (at : Moment) (answer : Stepped) → answer ≢ Going → at.answer ≡ answer → at.answer ≢ Going
not_going at answer h e g = h (sym e ∙ g)

-- an end that is no fault stands from its step on
ended_answers : (text : List ℕ) (n : ℕ) (w v : World) (input : List ℕ) (answer : Stepped) → NoFault answer → answer ≢ Going → w.left ≡ Some input → Ended text n w answer v → Answers answer w v (after text n (beginning w.state input))
unfolding after
ended_answers text n w v input answer calm stopped told h =
    let before = went_answers text h.steps w h.before input told h.went in
    let first : Answers answer w v (after text (suc h.steps) (beginning w.state input)) = step_answers text w h.before v (after text h.steps (beginning w.state input)) answer calm before.answer_is before.left h.last in
    let past : after text n (beginning w.state input) ≡ after text (suc h.steps) (beginning w.state input) = after-past text (suc h.steps) n (beginning w.state input) (let f = h.fewer in omega arith) (not_going (after text (suc h.steps) (beginning w.state input)) answer stopped first.answer_is) in
    subst (λ (m : Moment). Answers answer w v m) (sym past) first

-- a source that failed
acts_reading : (text : List ℕ) (w u v : World) (a : Moment) (action : Action) → step_of text a.state ≡ action → a.answer ≡ Going → Left w u a → Acts action u ReadFault v → FailsReading text w v a
acts_reading text w u v a (Goes m) asks going l (is, e) = absurd cc
acts_reading text w u v a Gets asks going l (later, rose, e) = record {
  going = going;
  asks = asks;
  state = ap (λ (k : World). k.state) e ∙ l.state;
  left = ap (λ (k : World). k.left) e ∙ l.left;
  held = subst (λ (h : Option (List ℕ)). Appends w.held h a.out) (sym (ap (λ (k : World). k.held) e)) l.held;
  later = subst (λ (k : ℕ). k ≤ v.read_faults) l.read_faults later;
  rose = subst (λ (k : ℕ). Rose k v.read_faults) l.read_faults rose;
  write_faults = ap (λ (k : World). k.write_faults) e ∙ l.write_faults;
}
acts_reading text w u v a (Puts byte) asks going l h = absurd h
acts_reading text w u v a (Exits status) asks going l (is, e) = absurd cc
acts_reading text w u v a Deepens asks going l (is, e) = absurd cc
acts_reading text w u v a (Traps pc) asks going l (is, e) = absurd cc

-- what a sink that failed has kept of one byte
kept_or_not : (before mid last : Option (List ℕ)) (out kept rest : List ℕ) (byte : ℕ) → Appends before mid out → byte ∷ [] ≡ kept ++ rest → Appends mid last kept → Appends before last out ⊎ Appends before last (out ++ byte ∷ [])
kept_or_not before mid last out [] rest byte held e f =
    let whole : Appends before last (out ++ []) = appends-append before mid last out [] held f in
    inl (subst (λ (xs : List ℕ). Appends before last xs) (append-nil out) whole)
kept_or_not before mid last out (x ∷ []) rest byte held e f =
    let is : x ≡ byte = cc in
    let whole : Appends before last (out ++ x ∷ []) = appends-append before mid last out (x ∷ []) held f in
    inr (subst (λ (y : ℕ). Appends before last (out ++ y ∷ [])) is whole)
kept_or_not before mid last out (x ∷ y ∷ ys) rest byte held e f = absurd cc

acts_writing : (text : List ℕ) (w u v : World) (a : Moment) (action : Action) → step_of text a.state ≡ action → a.answer ≡ Going → Left w u a → Acts action u WriteFault v → FailsWriting text w v a
acts_writing text w u v a (Goes m) asks going l (is, e) = absurd cc
acts_writing text w u v a Gets asks going l h = absurd h
acts_writing text w u v a (Puts byte') asks going l ((kept, rest, piece, put), later, rose, e) = record {
  going = going;
  byte = byte';
  asks = asks;
  state = ap (λ (k : World). k.state) e ∙ l.state;
  left = ap (λ (k : World). k.left) e ∙ l.left;
  held = kept_or_not w.held u.held v.held a.out kept rest byte' l.held piece put;
  read_faults = ap (λ (k : World). k.read_faults) e ∙ l.read_faults;
  later = subst (λ (k : ℕ). k ≤ v.write_faults) l.write_faults later;
  rose = subst (λ (k : ℕ). Rose k v.write_faults) l.write_faults rose;
}
acts_writing text w u v a (Exits status) asks going l (is, e) = absurd cc
acts_writing text w u v a Deepens asks going l (is, e) = absurd cc
acts_writing text w u v a (Traps pc) asks going l (is, e) = absurd cc

-- a run answers and leaves what the function says
pub run_is : (text : List ℕ) (n : ℕ) (w v : World) (end : End) (input : List ℕ) → w.left ≡ Some input → Run text n w end v → RunsAs text n input w end v
run_is text n w v ended.Spent input told h = went_answers text n w v input told h
run_is text n w v (ended.Exit status) input told h = ended_answers text n w v input (Exit status) tt (λ e. cc) told h
run_is text n w v ended.Deep input told h = ended_answers text n w v input Deep tt (λ e. cc) told h
run_is text n w v (ended.Trap pc) input told h = ended_answers text n w v input (Trap pc) tt (λ e. cc) told h
run_is text n w v ended.ReadFault input told h =
    let before = went_answers text h.steps w h.before input told h.went in
    let a : Moment = after text h.steps (beginning w.state input) in
    (h.steps, h.fewer, acts_reading text w h.before v a (step_of text a.state) refl before.answer_is before.left (acts_at text w h.before v a ReadFault before.left h.last))
run_is text n w v ended.WriteFault input told h =
    let before = went_answers text h.steps w h.before input told h.went in
    let a : Moment = after text h.steps (beginning w.state input) in
    (h.steps, h.fewer, acts_writing text w h.before v a (step_of text a.state) refl before.answer_is before.left (acts_at text w h.before v a WriteFault before.left h.last))

first : (text : List ℕ) (w v : World) (answer : Stepped) → Steps text w answer v → Ended text 1 w answer v
unfolding Went
first text w v answer h = record { steps = 0; fewer = omega arith; before = w; went = refl; last = h }

-- and so does a step, as a run of one
pub step_is : (text : List ℕ) (w v : World) (answer : Stepped) (input : List ℕ) → w.left ≡ Some input → Steps text w answer v → RunsAs text 1 input w (end_of answer) v
unfolding Went
step_is text w v Going input told h = run_is text 1 w v ended.Spent input told (w, refl, h)
step_is text w v (Exit status) input told h = run_is text 1 w v (ended.Exit status) input told (first text w v (Exit status) h)
step_is text w v Deep input told h = run_is text 1 w v ended.Deep input told (first text w v Deep h)
step_is text w v (Trap pc) input told h = run_is text 1 w v (ended.Trap pc) input told (first text w v (Trap pc) h)
step_is text w v ReadFault input told h = run_is text 1 w v ended.ReadFault input told (first text w v ReadFault h)
step_is text w v WriteFault input told h = run_is text 1 w v ended.WriteFault input told (first text w v WriteFault h)
