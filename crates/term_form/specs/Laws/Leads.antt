-- Laws of where walks lead. No contract cites this file: it holds proofs.
use Rattle.std.proofs.Common.{◌≡◌, sym, subst, ap, ◌∙◌, ℕ, suc}
use Rattle.word_ops.specs.Run.{Outside, End, Run, Gives, Ends, then_do}
use Rattle.term_form.specs.Walk.{Program, Layout, Walk, step, walk}
use Rattle.term_form.specs.Leads.{Leads, there, goes, ends, NoEnd, first_choices, HasCome}

module _ (p : Program) (l : Layout) where
  -- what leads to a moment from which all lead on leads on
  pub leads-then : (Q R : Walk → Outside → Type 0) (E F : End → Outside → Type 0) (s : Walk) (w : Outside) → Leads p l Q E s w →
      ((t : Walk) (u : Outside) → Q t u → Leads p l R F t u) → ((e : End) (u : Outside) → E e u → F e u) → Leads p l R F s w
  leads-then Q R E F s w (there t u q) go more = go t u q
  leads-then Q R E F s w (goes x y t u e h) go more = goes x y t u e (λ n. leads-then Q R E F (t n) (u n) (h n) go more)
  leads-then Q R E F s w (ends t y x u e h) go more = ends t y x u e (more x u h)

  -- one step of the walk that no choice changes
  pub leads-step : (Q : Walk → Outside → Type 0) (E : End → Outside → Type 0) (s t : Walk) (w u : Outside) →
      ((n : ℕ) → step p l n s w ≡ Gives t u tt) → Leads p l Q E t u → Leads p l Q E s w
  leads-step Q E s t w u e h = goes s w (λ n. t) (λ n. u) e (λ n. h)

  -- whatever is chosen, so many steps come there
  pub leads-walk : (Q : Walk → Outside → Type 0) (E : End → Outside → Type 0) (s : Walk) (w : Outside) → Leads p l Q E s w →
      (choice : ℕ → ℕ) → (n : ℕ) × HasCome Q E (walk p l (first_choices n choice) s w)
  leads-walk Q E s w (there t u q) choice = (0, q)
  leads-walk Q E s w (goes x y t u e h) choice =
      let more = leads-walk Q E (t (choice 0)) (u (choice 0)) (h (choice 0)) (λ i. choice (suc i)) in (
        suc more.0,
        subst (λ r. HasCome Q E (then_do r (λ s w done. walk p l (first_choices more.0 (λ i. choice (suc i))) s w))) (sym (e (choice 0))) more.1,
      )
  leads-walk Q E s w (ends t y x u e h) choice =
      (1, subst (λ r. HasCome Q E (then_do r (λ s w done. walk p l (first_choices 0 (λ i. choice (suc i))) s w))) (sym (e (choice 0))) h)
