-- Laws of the clock: acts, calls and programs take of the outside alone, and with a longer clock each is the same run,
-- further (`IsTimed` of word_ops).
-- No contract cites this file: it holds proofs.
use Rattle.std.proofs.Common.{◌≡◌, ℕ, ◌+◌}
use Rattle.std.specs.Prelude.{Option, Some, None, List, [], ◌∷◌, length, ◌==◌, slice_get}
use Rattle.word_ops.specs.Store.{Value, Number, Pointer, Store, Unset, Byte, refill_region}
use Rattle.word_ops.specs.Access.{load, write}
use Rattle.word_ops.specs.Values.{value_of_operation, truth}
use Rattle.word_ops.specs.Run.{Outside, Gives, Undefined, then_do, after_turn}
use Rattle.word_ops.specs.Clock.{IsTimed}
use Rattle.word_ops.specs.Laws.Clock.{IsTimed-Gives, IsTimed-exit, IsTimed-undefined, IsTimed-given, IsTimed-branch, IsTimed-then, IsTimed-tick, IsTimed-put_byte, IsTimed-get_byte, IsTimed-loop, loop-first, IsTimed-nested, IsTimed-main}
use Rattle.core_lang.specs.declared.act.Core.{Core, Row_of-Core, end_of-Core, more_of-Core}
use Rattle.core_lang.specs.declared.act.Core.TheVariants as c
use Rattle.core_lang.specs.declared.program.CoreFunction.{CoreFunction}
use Rattle.core_lang.specs.declared.program.Program.{Program}
use Rattle.core_lang.specs.Layout.{Layout}
use Rattle.core_lang.specs.State.{State, Activation, value_of_atom, value_of_option, values_of_atoms, assigned}
use Rattle.core_lang.specs.Copying.{copied}
use Rattle.core_lang.specs.Acts.{Invocation, Calls, Flow, Falls, Leaves, Returned, Does, assign, assign_result, with_store, value_of_pointers, put_value, exit_value, behind, in_turn, out_of_block, as_block, out_of_turn, turn_of, as_loop, by_truth, act, row, acts}
use Rattle.core_lang.specs.Run.{calls, call_of, run_function, run_body, activation_of, first_state, value_given_back, program_from, first_call}

-- ---- the parts of acts

IsTimed-assign : (x : ℕ) (v : Option Value) (s : State) → IsTimed (assign x v s)
IsTimed-assign x v s = IsTimed-given v (λ v w. Gives (assigned s x v) w Falls) (λ v. IsTimed-Gives (assigned s x v) Falls)

pub IsTimed-assign_result : (x : Option ℕ) (v : Option Value) (s : State) → IsTimed (assign_result x v s)
IsTimed-assign_result None v s = IsTimed-Gives s Falls
IsTimed-assign_result (Some x) v s = IsTimed-assign x v s

IsTimed-with_store : (t : Option Store) (s : State) → IsTimed (with_store t s)
IsTimed-with_store t s =
    IsTimed-given t (λ t w. Gives (record s { store = t }) w Falls) (λ t. IsTimed-Gives (record s { store = t }) Falls)

IsTimed-put_value : (v : Value) (s : State) → IsTimed (put_value v s)
IsTimed-put_value (Number n) s = IsTimed-put_byte n (λ w. Gives s w Falls) (IsTimed-Gives s Falls)
IsTimed-put_value (Pointer r o) s = IsTimed-undefined

IsTimed-exit_value : (v : Value) (s : State) → IsTimed (exit_value v s)
IsTimed-exit_value (Number n) s = IsTimed-exit n
IsTimed-exit_value (Pointer r o) s = IsTimed-undefined

pub IsTimed-behind : (f : Flow) (go : Does) (s : State) → IsTimed (go s) → IsTimed (behind f go s)
IsTimed-behind Falls go s h = record { reaches = h.reaches; goes_on = h.goes_on }
IsTimed-behind (Leaves k) go s h = IsTimed-Gives s (Leaves k)
IsTimed-behind (Returned v) go s h = IsTimed-Gives s (Returned v)

IsTimed-in_turn : (f g : Does) → ((s : State) → IsTimed (f s)) → ((s : State) → IsTimed (g s)) → (s : State) →
    IsTimed (in_turn f g s)
IsTimed-in_turn f g h k s = IsTimed-then (f s) (λ s w d. behind d g s w) (h s) (λ s d. IsTimed-behind d g s (k s))

IsTimed-as_block : (f : Does) → ((s : State) → IsTimed (f s)) → (s : State) → IsTimed (as_block f s)
IsTimed-as_block f h s =
    IsTimed-then (f s) (λ s w d. Gives s w (out_of_block d)) (h s) (λ s d. IsTimed-Gives s (out_of_block d))

IsTimed-as_loop : (f : Does) → ((s : State) → IsTimed (f s)) → (s : State) → IsTimed (as_loop f s)
IsTimed-as_loop f h s =
    IsTimed-loop (turn_of f) (λ s. IsTimed-then (f s) (λ s w d. Gives s w (out_of_turn d)) (h s) (λ s d. IsTimed-Gives s (out_of_turn d))) s

IsTimed-by_truth : (v : Value) (f g : Does) → ((s : State) → IsTimed (f s)) → ((s : State) → IsTimed (g s)) →
    (s : State) → IsTimed (by_truth v f g s)
IsTimed-by_truth v f g h k s =
    IsTimed-given (truth s.store v) (λ b w. _) (λ b. IsTimed-branch b f g s (h s) (k s))

-- ---- acts

module _ (call : Calls) (timed : (c : Invocation) → IsTimed (call c)) where
  IsTimed-call : (e : Activation) (x : Option ℕ) (c : Invocation) (s : State) →
      IsTimed (λ w. then_do (call c w) (λ t w v. assign_result x v (record s { store = t }) w))
  IsTimed-call e x c s =
      IsTimed-then (call c) (λ t w v. assign_result x v (record s { store = t }) w) (timed c) (λ t v. IsTimed-assign_result x v (record s { store = t }))

  mutual
    pub IsTimed-act : (e : Activation) (a : Core) (s : State) → IsTimed (act call e a s)
    IsTimed-act e (c.Move x v) s = IsTimed-Gives (assigned s x (value_of_atom e s v)) Falls
    IsTimed-act e (c.Operate x op u v) s =
        IsTimed-assign x (value_of_operation s.store op (value_of_atom e s u) (value_of_atom e s v)) s
    IsTimed-act e (c.Pointer x op u v) s =
        IsTimed-assign x (value_of_pointers s.store op (value_of_atom e s u) (value_of_atom e s v)) s
    IsTimed-act e (c.Load x k p) s = IsTimed-assign x (load s.store k (value_of_atom e s p)) s
    IsTimed-act e (c.Store k p v) s = IsTimed-with_store (write s.store k (value_of_atom e s p) (value_of_atom e s v)) s
    IsTimed-act e (c.Enter x) s = IsTimed-Gives (record s { store = refill_region s.store (e.first + x) Unset }) Falls
    IsTimed-act e (c.Fill x) s = IsTimed-Gives (record s { store = refill_region s.store (e.first + x) (Byte 0) }) Falls
    IsTimed-act e (c.Copy u v n k) s =
        IsTimed-with_store (copied s.store (value_of_atom e s u) (value_of_atom e s v) n k) s
    IsTimed-act e (c.Call x f vs) s =
        IsTimed-tick _ (IsTimed-call e x (record { function = f; arguments = values_of_atoms e s vs; stack = e.stack; store = s.store }) s)
    IsTimed-act e (c.Get x) s =
        IsTimed-get_byte (λ n w. Gives (assigned s x (Number n)) w Falls) (λ n. IsTimed-Gives (assigned s x (Number n)) Falls)
    IsTimed-act e (c.Put v) s = IsTimed-put_value (value_of_atom e s v) s
    IsTimed-act e (c.Exit v) s = IsTimed-exit_value (value_of_atom e s v) s
    IsTimed-act e (c.Block' n all) s = IsTimed-as_block (row call e all) (IsTimed-row e all) s
    IsTimed-act e (c.Loop' n all) s = IsTimed-as_loop (row call e all) (IsTimed-row e all) s
    IsTimed-act e (c.Break k) s = IsTimed-Gives s (Leaves k)
    IsTimed-act e (c.If' v n first m second) s =
        IsTimed-by_truth (value_of_atom e s v) (row call e first) (row call e second) (IsTimed-row e first) (IsTimed-row e second) s
    IsTimed-act e (c.Return v) s = IsTimed-Gives s (Returned (value_of_option e s v))

    pub IsTimed-row : (e : Activation) {n : _} (r : Row_of-Core n) (s : State) → IsTimed (row call e r s)
    IsTimed-row e end_of-Core s = IsTimed-Gives s Falls
    IsTimed-row e (more_of-Core a rest) s =
        IsTimed-in_turn (act call e a) (row call e rest) (IsTimed-act e a) (IsTimed-row e rest) s

  pub IsTimed-acts : (e : Activation) (xs : List Core) (s : State) → IsTimed (acts call e xs s)
  IsTimed-acts e [] s = IsTimed-Gives s Falls
  IsTimed-acts e (a ∷ xs) s = IsTimed-in_turn (act call e a) (acts call e xs) (IsTimed-act e a) (IsTimed-acts e xs) s

-- a loop is its first iteration, and behind a tick the loop
pub as_loop-first : (f : Does) → ((s : State) → IsTimed (f s)) → (s : State) (w : Outside) →
    as_loop f s w ≡ then_do (turn_of f s w) (λ s w t. after_turn t (as_loop f s) s w)
as_loop-first f h s w =
    loop-first (turn_of f) (λ s. IsTimed-then (f s) (λ s w d. Gives s w (out_of_turn d)) (h s) (λ s d. IsTimed-Gives s (out_of_turn d))) s w

-- ---- calls and programs

IsTimed-function : (l : Layout) (call : Calls) → ((c : Invocation) → IsTimed (call c)) → (c : Invocation) (g : CoreFunction) →
    IsTimed (run_function l call c g)
IsTimed-function l call timed c g =
    IsTimed-branch (length c.arguments == g.params) (λ s w. run_body l call c g w) (λ s w. Undefined) c.store (IsTimed-then (acts call (activation_of l c) g.body (first_state l c g)) _ (IsTimed-acts call timed (activation_of l c) g.body (first_state l c g)) (λ s f. IsTimed-Gives _ (value_given_back f))) IsTimed-undefined

pub IsTimed-calls : (l : Layout) (gs : List CoreFunction) (depth : ℕ) (c : Invocation) → IsTimed (calls l gs depth c)
IsTimed-calls l gs depth c =
    IsTimed-nested (call_of l gs) (λ call timed c. IsTimed-given (slice_get gs c.function) (λ g w. run_function l call c g w) (λ g. IsTimed-function l call timed c g)) depth c

pub IsTimed-program : (l : Layout) (p : Program) (depth : ℕ) → IsTimed (program_from l p depth)
IsTimed-program l p depth =
    IsTimed-main (calls l p.functions depth (first_call l p)) (IsTimed-calls l p.functions depth (first_call l p))
