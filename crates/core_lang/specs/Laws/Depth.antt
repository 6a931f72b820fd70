-- Laws of the depth: with more depth a run is the same where it was not too deep, and goes on from there where it was.
-- No contract cites this file: it holds proofs.
use Rattle.std.proofs.Common.{refl, ℕ, zero, suc, ◌≤◌, arith}
use Rattle.std.specs.Prelude.{List, [], ◌∷◌, length, ◌==◌, slice_get}
use Rattle.word_ops.specs.Values.{truth}
use Rattle.word_ops.specs.Run.{Outside, Gives}
use Rattle.word_ops.specs.Clock.{IsTimed}
use Rattle.word_ops.specs.Depth.{GoesDeeper}
use Rattle.word_ops.specs.Laws.Clock.{IsTimed-Gives, IsTimed-then}
use Rattle.word_ops.specs.Laws.Depth.{GoesDeeper-refl, GoesDeeper-then, GoesDeeper-tick, GoesDeeper-given, GoesDeeper-branch, GoesDeeper-loop, GoesDeeper-main}
use Rattle.core_lang.specs.declared.act.Core.{Core, Row_of-Core, end_of-Core, more_of-Core}
use Rattle.core_lang.specs.declared.act.Core.TheVariants as c
use Rattle.core_lang.specs.declared.program.CoreFunction.{CoreFunction}
use Rattle.core_lang.specs.declared.program.Program.{Program}
use Rattle.core_lang.specs.Layout.{Layout}
use Rattle.core_lang.specs.State.{State, Activation, value_of_atom, values_of_atoms}
use Rattle.core_lang.specs.Acts.{Invocation, Calls, Flow, Falls, Leaves, Returned, Does, assign_result, behind, in_turn, out_of_block, out_of_turn, turn_of, act, row, acts}
use Rattle.core_lang.specs.Run.{calls, activation_of, first_state, value_given_back, program_from, first_call}
use Rattle.core_lang.specs.Laws.Clock.{IsTimed-assign_result, IsTimed-behind, IsTimed-row, IsTimed-acts, IsTimed-calls}

-- ---- acts

behind_deeper : (d : Flow) (f g : Does) (s : State) (w : Outside) → GoesDeeper (f s w) (g s w) →
    GoesDeeper (behind d f s w) (behind d g s w)
behind_deeper Falls f g s w h = h
behind_deeper (Leaves k) f g s w h = refl
behind_deeper (Returned v) f g s w h = refl

module _ (call other : Calls) (timed : (c : Invocation) → IsTimed (call c)) (other_timed : (c : Invocation) → IsTimed (other c)) (deeper : (c : Invocation) (w : Outside) → GoesDeeper (call c w) (other c w)) where
  turn_of_timed : (f : Does) → ((s : State) → IsTimed (f s)) → (s : State) → IsTimed (turn_of f s)
  turn_of_timed f t s =
      IsTimed-then (f s) (λ s w d. Gives s w (out_of_turn d)) (t s) (λ s d. IsTimed-Gives s (out_of_turn d))

  in_turn_deeper : (f g h k : Does) → ((s : State) (w : Outside) → GoesDeeper (f s w) (g s w)) →
      ((s : State) (w : Outside) → GoesDeeper (h s w) (k s w)) → ((s : State) → IsTimed (k s)) → (s : State)
      (w : Outside) → GoesDeeper (in_turn f h s w) (in_turn g k s w)
  in_turn_deeper f g h k a b t s w =
      GoesDeeper-then (f s w) (g s w) (λ s w d. behind d h s w) (λ s w d. behind d k s w) (a s w) (λ s w d. behind_deeper d h k s w (b s w)) (λ s d. IsTimed-behind d k s (t s))

  mutual
    pub GoesDeeper-act : (e : Activation) (a : Core) (s : State) (w : Outside) →
        GoesDeeper (act call e a s w) (act other e a s w)
    GoesDeeper-act e (c.Call x f vs) s w =
        let i : Invocation = record { function = f; arguments = values_of_atoms e s vs; stack = e.stack; store = s.store } in
        GoesDeeper-tick w _ _ (λ w lt. GoesDeeper-then (call i w) (other i w) (λ t w v. assign_result x v (record s { store = t }) w) (λ t w v. assign_result x v (record s { store = t }) w) (deeper i w) (λ t w v. GoesDeeper-refl (assign_result x v (record s { store = t }) w)) (λ t v. IsTimed-assign_result x v (record s { store = t })))
    GoesDeeper-act e (c.Block' n all) s w =
        GoesDeeper-then (row call e all s w) (row other e all s w) (λ s w d. Gives s w (out_of_block d)) (λ s w d. Gives s w (out_of_block d)) (GoesDeeper-row e all s w) (λ s w d. refl) (λ s d. IsTimed-Gives s (out_of_block d))
    GoesDeeper-act e (c.Loop' n all) s w =
        GoesDeeper-loop (turn_of (row call e all)) (turn_of (row other e all)) (turn_of_timed (row call e all) (IsTimed-row call timed e all)) (turn_of_timed (row other e all) (IsTimed-row other other_timed e all)) (λ s w. GoesDeeper-then (row call e all s w) (row other e all s w) (λ s w d. Gives s w (out_of_turn d)) (λ s w d. Gives s w (out_of_turn d)) (GoesDeeper-row e all s w) (λ s w d. refl) (λ s d. IsTimed-Gives s (out_of_turn d))) s w
    GoesDeeper-act e (c.If' v n first m second) s w =
        GoesDeeper-given (truth s.store (value_of_atom e s v)) _ _ (λ b. GoesDeeper-branch b (row call e first) (row call e second) (row other e first) (row other e second) s w (GoesDeeper-row e first s w) (GoesDeeper-row e second s w))
    GoesDeeper-act e (c.Move x v) s w = GoesDeeper-refl (act call e (c.Move x v) s w)
    GoesDeeper-act e (c.Operate x op u v) s w = GoesDeeper-refl (act call e (c.Operate x op u v) s w)
    GoesDeeper-act e (c.Pointer x op u v) s w = GoesDeeper-refl (act call e (c.Pointer x op u v) s w)
    GoesDeeper-act e (c.Load x k p) s w = GoesDeeper-refl (act call e (c.Load x k p) s w)
    GoesDeeper-act e (c.Store k p v) s w = GoesDeeper-refl (act call e (c.Store k p v) s w)
    GoesDeeper-act e (c.Enter x) s w = GoesDeeper-refl (act call e (c.Enter x) s w)
    GoesDeeper-act e (c.Fill x) s w = GoesDeeper-refl (act call e (c.Fill x) s w)
    GoesDeeper-act e (c.Copy u v n k) s w = GoesDeeper-refl (act call e (c.Copy u v n k) s w)
    GoesDeeper-act e (c.Get x) s w = GoesDeeper-refl (act call e (c.Get x) s w)
    GoesDeeper-act e (c.Put v) s w = GoesDeeper-refl (act call e (c.Put v) s w)
    GoesDeeper-act e (c.Exit v) s w = GoesDeeper-refl (act call e (c.Exit v) s w)
    GoesDeeper-act e (c.Break k) s w = GoesDeeper-refl (act call e (c.Break k) s w)
    GoesDeeper-act e (c.Return v) s w = GoesDeeper-refl (act call e (c.Return v) s w)

    pub GoesDeeper-row : (e : Activation) {n : _} (r : Row_of-Core n) (s : State) (w : Outside) →
        GoesDeeper (row call e r s w) (row other e r s w)
    GoesDeeper-row e end_of-Core s w = refl
    GoesDeeper-row e (more_of-Core a rest) s w =
        in_turn_deeper (act call e a) (act other e a) (row call e rest) (row other e rest) (GoesDeeper-act e a) (GoesDeeper-row e rest) (IsTimed-row other other_timed e rest) s w

  pub GoesDeeper-acts : (e : Activation) (xs : List Core) (s : State) (w : Outside) →
      GoesDeeper (acts call e xs s w) (acts other e xs s w)
  GoesDeeper-acts e [] s w = refl
  GoesDeeper-acts e (a ∷ xs) s w =
      in_turn_deeper (act call e a) (act other e a) (acts call e xs) (acts other e xs) (GoesDeeper-act e a) (GoesDeeper-acts e xs) (IsTimed-acts other other_timed e xs) s w

-- ---- calls and programs

pub GoesDeeper-calls : (l : Layout) (gs : List CoreFunction) (n m : ℕ) → n ≤ m → (c : Invocation) (w : Outside) →
    GoesDeeper (calls l gs n c w) (calls l gs m c w)
GoesDeeper-calls l gs zero m le c w = (IsTimed-calls l gs m c).reaches w
GoesDeeper-calls l gs (suc n) zero le c w = absurd (omega (arith, le))
GoesDeeper-calls l gs (suc n) (suc m) le c w =
    GoesDeeper-given (slice_get gs c.function) _ _ (λ g. GoesDeeper-branch (length c.arguments == g.params) _ _ _ _ c.store w (GoesDeeper-then (acts (calls l gs n) (activation_of l c) g.body (first_state l c g) w) (acts (calls l gs m) (activation_of l c) g.body (first_state l c g) w) _ _ (GoesDeeper-acts (calls l gs n) (calls l gs m) (IsTimed-calls l gs n) (IsTimed-calls l gs m) (λ c w. GoesDeeper-calls l gs n m (omega (arith, le)) c w) (activation_of l c) g.body (first_state l c g) w) (λ s w f. refl) (λ s f. IsTimed-Gives _ (value_given_back f))) refl)

pub GoesDeeper-program : (l : Layout) (p : Program) (n m : ℕ) → n ≤ m → (w : Outside) →
    GoesDeeper (program_from l p n w) (program_from l p m w)
GoesDeeper-program l p n m le w =
    GoesDeeper-main (calls l p.functions n (first_call l p) w) (calls l p.functions m (first_call l p) w) (GoesDeeper-calls l p.functions n m le (first_call l p) w)
