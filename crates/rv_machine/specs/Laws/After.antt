-- Laws of a machine after a number of steps on input that is told. They are proofs: a contract cites none of them, but
-- the carrier `after_laws` states those that other crates may rest on.
use Rattle.std.proofs.Common.{◌≡◌, ◌≢◌, ℕ, zero, suc, ◌+◌, ◌-◌, ◌≤◌, refl, sym, ◌∙◌, ap, arith, List, [], ◌∷◌, ◌++◌, add-zero, append_assoc, append-nil}
use Rattle.std.proofs.Math.Nat.{add-suc}
use Rattle.rv_machine.specs.declared.answer.Stepped.{Stepped}
use Rattle.rv_machine.specs.declared.answer.Stepped.TheVariants.{Going, Exit, Deep, Trap, ReadFault, WriteFault}
use Rattle.rv_machine.specs.Effect.{Action, Goes, Gets, Puts, Exits, Deepens, Traps}
use Rattle.rv_machine.specs.State.{State}
use Rattle.rv_machine.specs.Pause.{Moves}
use Rattle.rv_machine.specs.Step.{step_of}
use Rattle.rv_machine.specs.After.{Moment, gets, acts, goes_on, next, after}

-- a machine that goes on takes the step of its state
pub next-going : (text : List ℕ) (w : Moment) → w.answer ≡ Going → next text w ≡ acts w (step_of text w.state)
unfolding next
next-going text w e = ap (goes_on text w) e

-- what the action of its state says
pub next-acts : (text : List ℕ) (w : Moment) (action : Action) → w.answer ≡ Going → step_of text w.state ≡ action → next text w ≡ acts w action
next-acts text w action e a = next-going text w e ∙ ap (acts w) a

stays : (text : List ℕ) (w : Moment) (answer : Stepped) → answer ≢ Going → goes_on text w answer ≡ w
stays text w Going h = absurd (h refl)
stays text w (Exit status) h = refl
stays text w Deep h = refl
stays text w (Trap pc) h = refl
stays text w ReadFault h = refl
stays text w WriteFault h = refl

-- and one that has ended stays as it is
pub next-ended : (text : List ℕ) (w : Moment) → w.answer ≢ Going → next text w ≡ w
unfolding next
next-ended text w h = stays text w w.answer h

pub after-ended : (text : List ℕ) (n : ℕ) (w : Moment) → w.answer ≢ Going → after text n w ≡ w
unfolding after
after-ended text zero w h = refl
after-ended text (suc n) w h = ap (next text) (after-ended text n w h) ∙ next-ended text w h

pub after-zero : (text : List ℕ) (w : Moment) → after text 0 w ≡ w
unfolding after
after-zero text w = refl

-- steps that go on by themselves lead to their last state
pub after-moves : (text : List ℕ) (n : ℕ) (w : Moment) (m : State) → w.answer ≡ Going → Moves text n w.state m → after text n w ≡ record w { state = m }
unfolding after
after-moves text zero w m e h = ap (λ (s : State). record w { state = s }) (sym h)
after-moves text (suc n) w m e (u, before, last) = ap (next text) (after-moves text n w u e before) ∙ next-acts text (record w { state = u }) (Goes m) e last

-- n steps and then one more
pub after-suc : (text : List ℕ) (n : ℕ) (w : Moment) → after text (suc n) w ≡ next text (after text n w)
unfolding after
after-suc text n w = refl

-- a step and then n more
pub after-front : (text : List ℕ) (n : ℕ) (w : Moment) → after text (suc n) w ≡ after text n (next text w)
unfolding after
after-front text zero w = refl
after-front text (suc n) w = ap (next text) (after-front text n w)

-- m steps and then n more
pub after-add : (text : List ℕ) (m n : ℕ) (w : Moment) → after text (m + n) w ≡ after text n (after text m w)
unfolding after
after-add text m zero w = ap (λ (k : ℕ). after text k w) (add-zero m)
after-add text m (suc n) w = ap (λ (k : ℕ). after text k w) (add-suc m n) ∙ ap (next text) (after-add text m n w)

-- an end stands from then on
pub after-past : (text : List ℕ) (m n : ℕ) (w : Moment) → m ≤ n → (after text m w).answer ≢ Going → after text n w ≡ after text m w
after-past text m n w h ended =
    let split : n ≡ m + (n - m) = omega arith in
    ap (λ (k : ℕ). after text k w) split ∙ after-add text m (n - m) w ∙ after-ended text (n - m) (after text m w) ended

-- from one moment to a later one, these bytes were put out and those were taken from the input
pub record Grows (w v : Moment) : Type 0 where
  pub put : List ℕ
  pub out : v.out ≡ w.out ++ put
  pub taken : List ℕ
  pub left : w.left ≡ taken ++ v.left

grows_not : (w v : Moment) → v.out ≡ w.out → v.left ≡ w.left → Grows w v
grows_not w v out' left' = record { put = []; out = out' ∙ sym (append-nil w.out); taken = []; left = sym left' }

gets_grows : (w : Moment) (input : List ℕ) → w.left ≡ input → Grows w (gets w input)
gets_grows w [] e = record { put = []; out = sym (append-nil w.out); taken = []; left = e }
gets_grows w (byte ∷ input) e = record { put = []; out = sym (append-nil w.out); taken = byte ∷ []; left = e }

acts_grows : (w : Moment) (action : Action) → Grows w (acts w action)
acts_grows w (Goes m) = grows_not w (acts w (Goes m)) refl refl
acts_grows w Gets = gets_grows w w.left refl
acts_grows w (Puts byte) = record { put = byte ∷ []; out = refl; taken = []; left = refl }
acts_grows w (Exits status) = grows_not w (acts w (Exits status)) refl refl
acts_grows w Deepens = grows_not w (acts w Deepens) refl refl
acts_grows w (Traps pc) = grows_not w (acts w (Traps pc)) refl refl

goes_grows : (text : List ℕ) (w : Moment) (answer : Stepped) → Grows w (goes_on text w answer)
goes_grows text w Going = acts_grows w (step_of text w.state)
goes_grows text w (Exit status) = grows_not w w refl refl
goes_grows text w Deep = grows_not w w refl refl
goes_grows text w (Trap pc) = grows_not w w refl refl
goes_grows text w ReadFault = grows_not w w refl refl
goes_grows text w WriteFault = grows_not w w refl refl

grows_on : (w u v : Moment) → Grows w u → Grows u v → Grows w v
grows_on w u v a b = record {
  put = a.put ++ b.put;
  out = b.out ∙ ap (λ (xs : List ℕ). xs ++ b.put) a.out ∙ append_assoc w.out a.put b.put;
  taken = a.taken ++ b.taken;
  left = a.left ∙ ap (λ (xs : List ℕ). a.taken ++ xs) b.left ∙ sym (append_assoc a.taken b.taken v.left);
}

-- what was put out stays, and what is left of the input is its end
pub after-grows : (text : List ℕ) (n : ℕ) (w : Moment) → Grows w (after text n w)
unfolding after next
after-grows text zero w = grows_not w w refl refl
after-grows text (suc n) w = grows_on w (after text n w) (after text (suc n) w) (after-grows text n w) (goes_grows text (after text n w) (after text n w).answer)
