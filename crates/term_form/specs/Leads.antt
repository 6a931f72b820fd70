-- Where a walk leads, whatever its choices are (a notion of this project).
use Rattle.std.specs.Prelude.{◌≡◌, ℕ, zero, suc, List, [], ◌∷◌}
use Rattle.word_ops.specs.Run.{Outside, End, Run, Gives, Ends, Undefined}
use Rattle.term_form.specs.Walk.{Program, Layout, Walk, step}

-- every walk from this moment on comes to a moment of the first kind, or the program ends as the second says
pub data Leads (p : Program) (l : Layout) (Q : Walk → Outside → Type 0) (E : End → Outside → Type 0) : Walk → Outside → Type 0 where
  there : (s : Walk) (w : Outside) → Q s w → Leads p l Q E s w
  goes : (s : Walk) (w : Outside) (t : ℕ → Walk) (u : ℕ → Outside) → ((n : ℕ) → step p l n s w ≡ Gives (t n) (u n) tt) → ((n : ℕ) → Leads p l Q E (t n) (u n)) → Leads p l Q E s w
  ends : (s : Walk) (w : Outside) (e : End) (u : Outside) → ((n : ℕ) → step p l n s w ≡ Ends e u) → E e u → Leads p l Q E s w

-- the program does not end on the way
abbrev pub NoEnd : End → Outside → Type 0
NoEnd e u = ⊥

-- the first of a sequence of choices
abbrev pub first_choices : (count : ℕ) → (ℕ → ℕ) → List ℕ
first_choices zero choice = []
first_choices (suc n) choice = choice 0 ∷ first_choices n (λ i. choice (suc i))

-- a walk has come to such a moment, or the program has ended so
abbrev pub HasCome : (Walk → Outside → Type 0) → (End → Outside → Type 0) → Run Walk (Unit {0}) → Type 0
HasCome Q E (Gives s w done) = Q s w
HasCome Q E (Ends e w) = E e w
HasCome Q E Undefined = ⊥
