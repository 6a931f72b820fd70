-- Induction over acts: where each act without acts in it does in one state what it does in another, so do all acts.
-- No contract cites this file: it holds proofs.
use Rattle.std.proofs.Common.{◌≡◌, refl, ℕ, zero, suc}
use Rattle.std.specs.Prelude.{Option, Some, Bool, List, [], ◌∷◌}
use Rattle.word_ops.specs.Store.{Value}
use Rattle.word_ops.specs.Values.{truth}
use Rattle.word_ops.specs.Run.{Outside, Gives, Again, Over}
use Rattle.word_ops.specs.Following.{Follows, TurnsAlike}
use Rattle.word_ops.specs.Laws.Runs.{Follows-then, Follows-given_both, Follows-branch, Follows-loop}
use Rattle.core_lang.specs.declared.act.Atom.{Atom}
use Rattle.core_lang.specs.declared.act.Core.{Core, Row_of-Core, end_of-Core, more_of-Core}
use Rattle.core_lang.specs.declared.act.Core.TheVariants as c
use Rattle.core_lang.specs.State.{State, Activation, value_of_atom}
use Rattle.core_lang.specs.Acts.{Calls, Flow, Falls, Leaves, Returned, Does, behind, in_turn, out_of_block, as_block, out_of_turn, turn_of, as_loop, by_truth, act, row, acts}
use Rattle.core_lang.specs.Following.{EndAlike, IsPlainAct, EachAct, EachInRow, EachOf}

module _ (I : State → State → Type 0) (V : State → State → Option Value → Option Value → Type 0) where
  out_of_block_alike : (s : State) (f : Flow) (t : State) (d : Flow) (w : Outside) → EndAlike I V s f t d →
      Follows (EndAlike I V) (Gives s w (out_of_block f)) (Gives t w (out_of_block d))
  out_of_block_alike s Falls t Falls w h = (t, Falls, refl, h)
  out_of_block_alike s Falls t (Leaves k) w h = absurd h.1
  out_of_block_alike s Falls t (Returned v) w h = absurd h.1
  out_of_block_alike s (Leaves j) t Falls w h = absurd h.1
  out_of_block_alike s (Leaves zero) t (Leaves zero) w h = (t, Falls, refl, (h.0, tt))
  out_of_block_alike s (Leaves zero) t (Leaves (suc k)) w h = absurd (zero_suc k h.1)
    where
      zero_suc : (k : ℕ) → zero ≡ suc k → ⊥
      zero_suc k e = cc
  out_of_block_alike s (Leaves (suc j)) t (Leaves zero) w h = absurd (suc_zero j h.1)
    where
      suc_zero : (k : ℕ) → suc k ≡ zero → ⊥
      suc_zero k e = cc
  out_of_block_alike s (Leaves (suc j)) t (Leaves (suc k)) w h = (t, Leaves k, refl, (h.0, same j k h.1))
    where
      same : (j k : ℕ) → suc j ≡ suc k → j ≡ k
      same j k e = cc
  out_of_block_alike s (Leaves j) t (Returned v) w h = absurd h.1
  out_of_block_alike s (Returned u) t Falls w h = absurd h.1
  out_of_block_alike s (Returned u) t (Leaves k) w h = absurd h.1
  out_of_block_alike s (Returned u) t (Returned v) w h = (t, Returned v, refl, h)

  out_of_turn_alike : (s : State) (f : Flow) (t : State) (d : Flow) (w : Outside) → EndAlike I V s f t d →
      Follows (TurnsAlike I (EndAlike I V)) (Gives s w (out_of_turn f)) (Gives t w (out_of_turn d))
  out_of_turn_alike s Falls t Falls w h = (t, Again, refl, h.0)
  out_of_turn_alike s Falls t (Leaves k) w h = absurd h.1
  out_of_turn_alike s Falls t (Returned v) w h = absurd h.1
  out_of_turn_alike s (Leaves j) t Falls w h = absurd h.1
  out_of_turn_alike s (Leaves zero) t (Leaves zero) w h = (t, Over Falls, refl, (h.0, tt))
  out_of_turn_alike s (Leaves zero) t (Leaves (suc k)) w h = absurd (zero_suc k h.1)
    where
      zero_suc : (k : ℕ) → zero ≡ suc k → ⊥
      zero_suc k e = cc
  out_of_turn_alike s (Leaves (suc j)) t (Leaves zero) w h = absurd (suc_zero j h.1)
    where
      suc_zero : (k : ℕ) → suc k ≡ zero → ⊥
      suc_zero k e = cc
  out_of_turn_alike s (Leaves (suc j)) t (Leaves (suc k)) w h = (t, Over (Leaves k), refl, (h.0, same j k h.1))
    where
      same : (j k : ℕ) → suc j ≡ suc k → j ≡ k
      same j k e = cc
  out_of_turn_alike s (Leaves j) t (Returned v) w h = absurd h.1
  out_of_turn_alike s (Returned u) t Falls w h = absurd h.1
  out_of_turn_alike s (Returned u) t (Leaves k) w h = absurd h.1
  out_of_turn_alike s (Returned u) t (Returned v) w h = (t, Over (Returned v), refl, h)

  behind_alike : (s : State) (f : Flow) (t : State) (d : Flow) (w : Outside) (go other : Does) → EndAlike I V s f t d →
      (I s t → Follows (EndAlike I V) (go s w) (other t w)) → Follows (EndAlike I V) (behind f go s w) (behind d other t w)
  behind_alike s Falls t Falls w go other h k = k h.0
  behind_alike s Falls t (Leaves j) w go other h k = absurd h.1
  behind_alike s Falls t (Returned v) w go other h k = absurd h.1
  behind_alike s (Leaves i) t Falls w go other h k = absurd h.1
  behind_alike s (Leaves i) t (Leaves j) w go other h k = (t, Leaves j, refl, h)
  behind_alike s (Leaves i) t (Returned v) w go other h k = absurd h.1
  behind_alike s (Returned u) t Falls w go other h k = absurd h.1
  behind_alike s (Returned u) t (Leaves j) w go other h k = absurd h.1
  behind_alike s (Returned u) t (Returned v) w go other h k = (t, Returned v, refl, h)

  -- what two ways to act do alike
  abbrev pub DoAlike : Does → Does → Type 0
  DoAlike f g = (s t : State) (w : Outside) → I s t → Follows (EndAlike I V) (f s w) (g t w)

  pub in_turn-alike : (f g h k : Does) → DoAlike f g → DoAlike h k → DoAlike (in_turn f h) (in_turn g k)
  in_turn-alike f g h k a b s t w i =
      Follows-then (EndAlike I V) (EndAlike I V) (f s w) (g t w) _ _ (a s t w i) (λ s w x t y p. behind_alike s x t y w h k p (b s t w))

  pub as_block-alike : (f g : Does) → DoAlike f g → DoAlike (as_block f) (as_block g)
  as_block-alike f g a s t w i =
      Follows-then (EndAlike I V) (EndAlike I V) (f s w) (g t w) _ _ (a s t w i) (λ s w x t y p. out_of_block_alike s x t y w p)

  pub as_loop-alike : (f g : Does) → DoAlike f g → DoAlike (as_loop f) (as_loop g)
  as_loop-alike f g a s t w i =
      Follows-loop I (EndAlike I V) (turn_of f) (turn_of g) (λ s w t i. Follows-then (EndAlike I V) (TurnsAlike I (EndAlike I V)) (f s w) (g t w) _ _ (a s t w i) (λ s w x t y p. out_of_turn_alike s x t y w p)) s w t i

  pub by_truth-alike : (u v : Value) (f g h k : Does) (s t : State) (w : Outside) → I s t →
      ((b : Bool) → truth s.store u ≡ Some b → truth t.store v ≡ Some b) → DoAlike f g → DoAlike h k →
      Follows (EndAlike I V) (by_truth u f h s w) (by_truth v g k t w)
  by_truth-alike u v f g h k s t w i test a b =
      Follows-given_both (EndAlike I V) (truth s.store u) (truth t.store v) _ _ (λ x e. (x, test x e, Follows-branch (EndAlike I V) x f h g k s t w (a s t w i) (b s t w i)))

  module _ (call other : Calls) (e d : Activation) (P : Core → Type 0) (Q : Atom → Type 0) (plain : (a : Core) → IsPlainAct a → P a → DoAlike (act call e a) (act other d a)) (test : (v : Atom) (s t : State) (b : Bool) → Q v → I s t → truth s.store (value_of_atom e s v) ≡ Some b → truth t.store (value_of_atom d t v) ≡ Some b) where
    mutual
      pub act-alike : (a : Core) → EachAct P Q a → DoAlike (act call e a) (act other d a)
      act-alike (c.Block' n all) h = as_block-alike (row call e all) (row other d all) (row-alike all h)
      act-alike (c.Loop' n all) h = as_loop-alike (row call e all) (row other d all) (row-alike all h)
      act-alike (c.If' v n first m second) h =
          λ s t w i. by_truth-alike (value_of_atom e s v) (value_of_atom d t v) (row call e first) (row other d first) (row call e second) (row other d second) s t w i (λ b. test v s t b h.0 i) (row-alike first h.1) (row-alike second h.2)
      act-alike (c.Move x v) h = plain (c.Move x v) tt h
      act-alike (c.Operate x op u v) h = plain (c.Operate x op u v) tt h
      act-alike (c.Pointer x op u v) h = plain (c.Pointer x op u v) tt h
      act-alike (c.Load x k p) h = plain (c.Load x k p) tt h
      act-alike (c.Store k p v) h = plain (c.Store k p v) tt h
      act-alike (c.Enter x) h = plain (c.Enter x) tt h
      act-alike (c.Fill x) h = plain (c.Fill x) tt h
      act-alike (c.Copy u v n k) h = plain (c.Copy u v n k) tt h
      act-alike (c.Call x f vs) h = plain (c.Call x f vs) tt h
      act-alike (c.Get x) h = plain (c.Get x) tt h
      act-alike (c.Put v) h = plain (c.Put v) tt h
      act-alike (c.Exit v) h = plain (c.Exit v) tt h
      act-alike (c.Break k) h = plain (c.Break k) tt h
      act-alike (c.Return v) h = plain (c.Return v) tt h

      pub row-alike : {n : _} (r : Row_of-Core n) → EachInRow P Q r → DoAlike (row call e r) (row other d r)
      row-alike end_of-Core h = λ s t w i. (t, Falls, refl, (i, tt))
      row-alike (more_of-Core a rest) h =
          in_turn-alike (act call e a) (act other d a) (row call e rest) (row other d rest) (act-alike a h.0) (row-alike rest h.1)

    -- so do lists of acts
    pub acts-alike : (xs : List Core) → EachOf P Q xs → DoAlike (acts call e xs) (acts other d xs)
    acts-alike [] h = λ s t w i. (t, Falls, refl, (i, tt))
    acts-alike (a ∷ xs) h =
        in_turn-alike (act call e a) (act other d a) (acts call e xs) (acts other d xs) (act-alike a h.0) (acts-alike xs h.1)
