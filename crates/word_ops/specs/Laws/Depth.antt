-- Laws of the depth: with more depth a run is the same where it was not too deep, and goes on from there where it was.
-- No contract cites this file: it holds proofs.
use Rattle.std.proofs.Common.{◌≡◌, refl, sym, ap, subst, ℕ, zero, suc, ◌≤◌, ◌<◌, arith}
use Rattle.std.specs.Prelude.{Option, Some, None, Bool, true, false}
use Rattle.word_ops.specs.Store.{Value, Number, Pointer}
use Rattle.word_ops.specs.Run.{Outside, Exit, Deep, More, Run, Gives, Ends, Undefined, then_do, given, branch, tick_from, tick, Turn, Again, Over, after_turn, loop, put_byte, get_byte, exit_with, end_of_main}
use Rattle.word_ops.specs.Clock.{RunReaches, IsTimed}
use Rattle.word_ops.specs.Depth.{GoesDeeper, IsDeeper}
use Rattle.word_ops.specs.Laws.Clock.{Reaches-refl, RunReaches-then, RunReaches-main, IsTimed-Gives, IsTimed-exit, IsTimed-undefined, IsTimed-then, IsTimed-tick, IsTimed-put_byte, IsTimed-get_byte, IsTimed-loop, IsTimed-after_turn, loop-first}

-- ---- the ways to put runs together

-- a run that makes no calls
pub GoesDeeper-refl : {S A : Type 0} (r : Run S A) → GoesDeeper r r
GoesDeeper-refl (Gives s u a) = refl
GoesDeeper-refl (Ends Deep u) = Reaches-refl u
GoesDeeper-refl (Ends More u) = refl
GoesDeeper-refl (Ends (Exit n) u) = refl
GoesDeeper-refl Undefined = refl

-- what goes on is told what the first run gave
pub GoesDeeper-then_at : {S T A B : Type 0} (r q : Run S A) (f g : S → Outside → A → Run T B) → GoesDeeper r q →
    ((s : S) (w : Outside) (a : A) → r ≡ Gives s w a → GoesDeeper (f s w a) (g s w a)) →
    ((s : S) (a : A) → IsTimed (λ w. g s w a)) → GoesDeeper (then_do r f) (then_do q g)
GoesDeeper-then_at (Gives s u a) q f g h go t =
    subst (λ q. GoesDeeper (f s u a) (then_do q g)) (sym h) (go s u a refl)
GoesDeeper-then_at (Ends Deep u) q f g h go t = RunReaches-then u q g h (λ s w a. (t s a).reaches w)
GoesDeeper-then_at (Ends More u) q f g h go t = ap (λ q. then_do q g) h
GoesDeeper-then_at (Ends (Exit n) u) q f g h go t = ap (λ q. then_do q g) h
GoesDeeper-then_at Undefined q f g h go t = ap (λ q. then_do q g) h

pub GoesDeeper-then : {S T A B : Type 0} (r q : Run S A) (f g : S → Outside → A → Run T B) → GoesDeeper r q →
    ((s : S) (w : Outside) (a : A) → GoesDeeper (f s w a) (g s w a)) →
    ((s : S) (a : A) → IsTimed (λ w. g s w a)) → GoesDeeper (then_do r f) (then_do q g)
GoesDeeper-then r q f g h go t = GoesDeeper-then_at r q f g h (λ s w a e. go s w a) t

pub GoesDeeper-tick : {S A : Type 0} (w : Outside) (f g : Outside → Run S A) →
    ((u : Outside) → u.left < w.left → GoesDeeper (f u) (g u)) → GoesDeeper (tick w f) (tick w g)
GoesDeeper-tick {S} {A} w f g go = from w.left refl
  where
    from : (n : ℕ) → w.left ≡ n → GoesDeeper (tick_from n w f) (tick_from n w g)
    from zero e = refl
    from (suc n) e = go (record w { left = n }) (omega (arith, e))

pub GoesDeeper-given : {S A B : Type 0} (o : Option A) (f g : A → Run S B) → ((a : A) → GoesDeeper (f a) (g a)) →
    GoesDeeper (given o f) (given o g)
GoesDeeper-given None f g go = refl
GoesDeeper-given (Some a) f g go = go a

pub GoesDeeper-branch : {S A : Type 0} (b : Bool) (f g h k : S → Outside → Run S A) (s : S) (w : Outside) →
    GoesDeeper (f s w) (h s w) → GoesDeeper (g s w) (k s w) → GoesDeeper (branch b f g s w) (branch b h k s w)
GoesDeeper-branch true f g h k s w a b = a
GoesDeeper-branch false f g h k s w a b = b

-- ---- loops

-- an iteration, and what comes behind it with fewer ticks
turn_deeper : {S D : Type 0} (f g : S → Outside → Run S (Turn D)) → ((s : S) → IsTimed (f s)) →
    ((s : S) → IsTimed (g s)) → ((s : S) (w : Outside) → GoesDeeper (f s w) (g s w)) → (s : S) (w : Outside) →
    ((s : S) (u : Outside) → u.left < w.left → GoesDeeper (loop f s u) (loop g s u)) →
    GoesDeeper (loop f s w) (loop g s w)
turn_deeper {S} {D} f g tf tg go s w next =
    subst (λ r. GoesDeeper r (loop g s w)) (sym (loop-first f tf s w)) (subst (λ q. GoesDeeper (then_do (f s w) (λ s w t. after_turn t (loop f s) s w)) q) (sym (loop-first g tg s w)) (GoesDeeper-then_at (f s w) (g s w) (λ s w t. after_turn t (loop f s) s w) (λ s w t. after_turn t (loop g s) s w) (go s w) (λ s' u t e. after s' u t (subst (λ r. RunReaches w r) e ((tf s).reaches w)).left) (λ s t. IsTimed-after_turn t (loop g s) s (IsTimed-loop g tg s))))
  where
    after : (s : S) (u : Outside) (t : Turn D) → u.left ≤ w.left →
        GoesDeeper (after_turn t (loop f s) s u) (after_turn t (loop g s) s u)
    after s u Again le = GoesDeeper-tick u (loop f s) (loop g s) (λ v lt. next s v (omega (arith, le, lt)))
    after s u (Over d) le = refl

loops_deeper : {S D : Type 0} (n : ℕ) (f g : S → Outside → Run S (Turn D)) → ((s : S) → IsTimed (f s)) →
    ((s : S) → IsTimed (g s)) → ((s : S) (w : Outside) → GoesDeeper (f s w) (g s w)) → (s : S) (w : Outside) →
    w.left ≤ n → GoesDeeper (loop f s w) (loop g s w)
loops_deeper zero f g tf tg go s w le = turn_deeper f g tf tg go s w (λ s u lt. absurd (omega (arith, lt, le)))
loops_deeper (suc n) f g tf tg go s w le =
    turn_deeper f g tf tg go s w (λ s u lt. loops_deeper n f g tf tg go s u (omega (arith, lt, le)))

pub GoesDeeper-loop : {S D : Type 0} (f g : S → Outside → Run S (Turn D)) → ((s : S) → IsTimed (f s)) →
    ((s : S) → IsTimed (g s)) → ((s : S) (w : Outside) → GoesDeeper (f s w) (g s w)) → (s : S) (w : Outside) →
    GoesDeeper (loop f s w) (loop g s w)
GoesDeeper-loop f g tf tg go s w = loops_deeper w.left f g tf tg go s w (omega arith)

-- ---- main

pub GoesDeeper-main : {S : Type 0} (r q : Run S (Option Value)) → GoesDeeper r q →
    GoesDeeper (end_of_main r) (end_of_main q)
GoesDeeper-main (Gives s u None) q h = ap end_of_main h
GoesDeeper-main (Gives s u (Some (Number n))) q h = ap end_of_main h
GoesDeeper-main (Gives s u (Some (Pointer r o))) q h = ap end_of_main h
GoesDeeper-main (Ends Deep u) q h = RunReaches-main u q h
GoesDeeper-main (Ends More u) q h = ap end_of_main h
GoesDeeper-main (Ends (Exit n) u) q h = ap end_of_main h
GoesDeeper-main Undefined q h = ap end_of_main h

-- ---- parts of programs

pub IsDeeper-Gives : {S A : Type 0} (s : S) (a : A) → IsDeeper (λ w. Gives s w a) (λ w. Gives s w a)
IsDeeper-Gives s a =
    record { first_timed = IsTimed-Gives s a; timed = IsTimed-Gives s a; deeper = λ w. refl }

pub IsDeeper-undefined : {S A : Type 0} → IsDeeper {S = S} {A = A} (λ w. Undefined) (λ w. Undefined)
IsDeeper-undefined = record { first_timed = IsTimed-undefined; timed = IsTimed-undefined; deeper = λ w. refl }

pub IsDeeper-exit : {S A : Type 0} (n : ℕ) → IsDeeper {S = S} {A = A} (λ w. exit_with n w) (λ w. exit_with n w)
IsDeeper-exit n = record { first_timed = IsTimed-exit n; timed = IsTimed-exit n; deeper = λ w. refl }

pub IsDeeper-then : {S T A B : Type 0} (h k : Outside → Run S A) (f g : S → Outside → A → Run T B) → IsDeeper h k →
    ((s : S) (a : A) → IsDeeper (λ w. f s w a) (λ w. g s w a)) →
    IsDeeper (λ w. then_do (h w) f) (λ w. then_do (k w) g)
IsDeeper-then h k f g d e = record {
  first_timed = IsTimed-then h f d.first_timed (λ s a. (e s a).first_timed);
  timed = IsTimed-then k g d.timed (λ s a. (e s a).timed);
  deeper = λ w. GoesDeeper-then (h w) (k w) f g (d.deeper w) (λ s u a. (e s a).deeper u) (λ s a. (e s a).timed);
}

pub IsDeeper-tick : {S A : Type 0} (f g : Outside → Run S A) → IsDeeper f g → IsDeeper (λ w. tick w f) (λ w. tick w g)
IsDeeper-tick f g d = record {
  first_timed = IsTimed-tick f d.first_timed;
  timed = IsTimed-tick g d.timed;
  deeper = λ w. GoesDeeper-tick w f g (λ u lt. d.deeper u);
}

pub IsDeeper-put_byte : {S A : Type 0} (n : ℕ) (f g : Outside → Run S A) → IsDeeper f g →
    IsDeeper (λ w. put_byte n w f) (λ w. put_byte n w g)
IsDeeper-put_byte n f g d = record {
  first_timed = IsTimed-put_byte n f d.first_timed;
  timed = IsTimed-put_byte n g d.timed;
  deeper = λ w. GoesDeeper-tick _ f g (λ u lt. d.deeper u);
}

pub IsDeeper-get_byte : {S A : Type 0} (f g : ℕ → Outside → Run S A) → ((b : ℕ) → IsDeeper (f b) (g b)) →
    IsDeeper (λ w. get_byte w f) (λ w. get_byte w g)
IsDeeper-get_byte f g d = record {
  first_timed = IsTimed-get_byte f (λ b. (d b).first_timed);
  timed = IsTimed-get_byte g (λ b. (d b).timed);
  deeper = λ w. GoesDeeper-tick _ (f _) (g _) (λ u lt. (d _).deeper u);
}

pub IsDeeper-loop : {S D : Type 0} (f g : S → Outside → Run S (Turn D)) → ((s : S) → IsDeeper (f s) (g s)) → (s : S) →
    IsDeeper (loop f s) (loop g s)
IsDeeper-loop f g d s = record {
  first_timed = IsTimed-loop f (λ s. (d s).first_timed) s;
  timed = IsTimed-loop g (λ s. (d s).timed) s;
  deeper = λ w. GoesDeeper-loop f g (λ s. (d s).first_timed) (λ s. (d s).timed) (λ s u. (d s).deeper u) s w;
}
