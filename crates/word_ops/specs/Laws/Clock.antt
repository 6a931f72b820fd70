-- Laws of the clock: a run takes of the input, the output and the ticks alone, and with a longer clock it is the same run,
-- further.
-- No contract cites this file: it holds proofs.
use Rattle.std.proofs.Common.{◌≡◌, refl, sym, ap, ◌∙◌, subst, ℕ, zero, suc, ◌+◌, ◌≤◌, ◌<◌, List, [], ◌∷◌, ◌++◌, drop, arith, append_assoc}
use Rattle.std.proofs.lemmas.List.{append-nil}
use Rattle.std.specs.Prelude.{Option, Some, None, Bool, true, false, ◌%◌}
use Rattle.word_ops.specs.Store.{Value, Number, Pointer}
use Rattle.word_ops.specs.Clock.{Reaches, RunReaches, later, GoesOn, IsTimed}
use Rattle.word_ops.specs.Run.{Outside, Exit, Deep, More, Run, Gives, Ends, Undefined, then_do, given, branch, tick_from, tick, Turn, Again, Over, after_turn, turns, loop, nested, put_byte, next_word, get_byte, exit_with, end_of_main}

-- ---- moments

pub Reaches-refl : (w : Outside) → Reaches w w
Reaches-refl w =
    record { taken = []; put = []; input = refl; output = sym (append-nil w.output); left = omega arith }

pub Reaches-trans : (w u v : Outside) → Reaches w u → Reaches u v → Reaches w v
Reaches-trans w u v h k = record {
  taken = h.taken ++ k.taken;
  put = h.put ++ k.put;
  input = h.input ∙ ap (λ l. h.taken ++ l) k.input ∙ sym (append_assoc h.taken k.taken v.input);
  output = k.output ∙ ap (λ l. l ++ k.put) h.output ∙ append_assoc w.output h.put k.put;
  left = omega (arith, h.left, k.left);
}

-- a run that began later began earlier too
pub RunReaches-earlier : {S A : Type 0} (w u : Outside) (r : Run S A) → Reaches w u → RunReaches u r → RunReaches w r
RunReaches-earlier w u (Gives s v a) h k = Reaches-trans w u v h k
RunReaches-earlier w u (Ends More v) h k = (Reaches-trans w u v h k.0, k.1)
RunReaches-earlier w u (Ends Deep v) h k = Reaches-trans w u v h k
RunReaches-earlier w u (Ends (Exit n) v) h k = Reaches-trans w u v h k
RunReaches-earlier w u Undefined h k = tt

-- ---- the ways to put runs together

pub IsTimed-Gives : {S A : Type 0} (s : S) (a : A) → IsTimed (λ w. Gives s w a)
IsTimed-Gives s a = record { reaches = λ w. Reaches-refl w; goes_on = λ k w. refl }

pub IsTimed-exit : {S A : Type 0} (n : ℕ) → IsTimed {S = S} {A = A} (λ w. exit_with n w)
IsTimed-exit n = record { reaches = λ w. Reaches-refl w; goes_on = λ k w. refl }

pub IsTimed-deep : {S A : Type 0} → IsTimed {S = S} {A = A} (λ w. Ends Deep w)
IsTimed-deep = record { reaches = λ w. Reaches-refl w; goes_on = λ k w. refl }

pub IsTimed-undefined : {S A : Type 0} → IsTimed {S = S} {A = A} (λ w. Undefined)
IsTimed-undefined = record { reaches = λ w. tt; goes_on = λ k w. refl }

pub IsTimed-given : {S A B : Type 0} (o : Option A) (f : A → Outside → Run S B) → ((a : A) → IsTimed (f a)) →
    IsTimed (λ w. given o (λ a. f a w))
IsTimed-given None f h = record { reaches = λ w. tt; goes_on = λ k w. refl }
IsTimed-given (Some a) f h = record { reaches = (h a).reaches; goes_on = (h a).goes_on }

pub IsTimed-branch : {S A : Type 0} (b : Bool) (f g : S → Outside → Run S A) (s : S) → IsTimed (f s) → IsTimed (g s) →
    IsTimed (λ w. branch b f g s w)
IsTimed-branch true f g s h k = record { reaches = h.reaches; goes_on = h.goes_on }
IsTimed-branch false f g s h k = record { reaches = k.reaches; goes_on = k.goes_on }

-- a run reaches what comes behind it
pub RunReaches-then : {S T A B : Type 0} (w : Outside) (r : Run S A) (g : S → Outside → A → Run T B) → RunReaches w r →
    ((s : S) (u : Outside) (a : A) → RunReaches u (g s u a)) → RunReaches w (then_do r g)
RunReaches-then w (Gives s u a) g h k = RunReaches-earlier w u (g s u a) h (k s u a)
RunReaches-then w (Ends More u) g h k = h
RunReaches-then w (Ends Deep u) g h k = h
RunReaches-then w (Ends (Exit n) u) g h k = h
RunReaches-then w Undefined g h k = tt

then_goes_on : {S T A B : Type 0} (k : ℕ) (r q : Run S A) (g : S → Outside → A → Run T B) → GoesOn k r q →
    ((s : S) (a : A) → IsTimed (λ w. g s w a)) → GoesOn k (then_do r g) (then_do q g)
then_goes_on k (Gives s u a) q g h t = subst (λ q. GoesOn k (g s u a) (then_do q g)) (sym h) ((t s a).goes_on k u)
then_goes_on k (Ends More u) q g h t = RunReaches-then (later k u) q g h (λ s u a. (t s a).reaches u)
then_goes_on k (Ends Deep u) q g h t = ap (λ q. then_do q g) h
then_goes_on k (Ends (Exit n) u) q g h t = ap (λ q. then_do q g) h
then_goes_on k Undefined q g h t = ap (λ q. then_do q g) h

pub IsTimed-then : {S T A B : Type 0} (h : Outside → Run S A) (g : S → Outside → A → Run T B) → IsTimed h →
    ((s : S) (a : A) → IsTimed (λ w. g s w a)) → IsTimed (λ w. then_do (h w) g)
IsTimed-then h g t k = record {
  reaches = λ w. RunReaches-then w (h w) g (t.reaches w) (λ s u a. (k s a).reaches u);
  goes_on = λ j w. then_goes_on j (h w) (h (later j w)) g (t.goes_on j w) k;
}

-- ---- ticks

one_less : (w : Outside) (n : ℕ) → w.left ≡ suc n → Reaches w (record w { left = n })
one_less w n e =
    record { taken = []; put = []; input = refl; output = sym (append-nil w.output); left = omega (arith, e) }

tick_reaches : {S A : Type 0} (n : ℕ) (w : Outside) (g : Outside → Run S A) → w.left ≡ n →
    ((u : Outside) → RunReaches u (g u)) → RunReaches w (tick_from n w g)
tick_reaches zero w g e h = (Reaches-refl w, e)
tick_reaches (suc n) w g e h =
    RunReaches-earlier w (record w { left = n }) (g (record w { left = n })) (one_less w n e) (h (record w { left = n }))

tick_goes_on : {S A : Type 0} (k n : ℕ) (w : Outside) (g : Outside → Run S A) → w.left ≡ n → IsTimed g →
    GoesOn k (tick_from n w g) (tick (later k w) g)
tick_goes_on k zero w g e t = tick_reaches (w.left + k) (later k w) g refl t.reaches
tick_goes_on k (suc n) w g e t =
    let same : suc (n + k) ≡ w.left + k = omega (arith, e) in
    subst (λ m. GoesOn k (g (record w { left = n })) (tick_from m (later k w) g)) same (t.goes_on k (record w { left = n }))

pub IsTimed-tick : {S A : Type 0} (g : Outside → Run S A) → IsTimed g → IsTimed (λ w. tick w g)
IsTimed-tick g t =
    record { reaches = λ w. tick_reaches w.left w g refl t.reaches; goes_on = λ k w. tick_goes_on k w.left w g refl t }

-- a step that changes the input and the output, where the change is the same with more ticks
record IsStep (f : Outside → Outside) : Type 0 where
  reaches : (w : Outside) → Reaches w (f w)
  later_too : (k : ℕ) (w : Outside) → f (later k w) ≡ later k (f w)

step_timed : {S A : Type 0} (f : Outside → Outside) (h : Outside → Run S A) → IsStep f → IsTimed h →
    IsTimed (λ w. h (f w))
step_timed f h i t = record {
  reaches = λ w. RunReaches-earlier w (f w) (h (f w)) (i.reaches w) (t.reaches (f w));
  goes_on = λ k w. subst (λ u. GoesOn k (h (f w)) (h u)) (sym (i.later_too k w)) (t.goes_on k (f w));
}

pub IsTimed-put_byte : {S A : Type 0} (n : ℕ) (g : Outside → Run S A) → IsTimed g → IsTimed (λ w. put_byte n w g)
IsTimed-put_byte n g t =
    step_timed (λ w. record w { output = w.output ++ (n % 256) ∷ [] }) (λ w. tick w g) (record { reaches = λ w. record { taken = []; put = (n % 256) ∷ []; input = refl; output = refl; left = omega arith }; later_too = λ k w. refl }) (IsTimed-tick g t)

taken_is : (xs : List ℕ) → (ys : List ℕ) × (xs ≡ ys ++ drop 1 xs)
taken_is [] = ([], refl)
taken_is (x ∷ xs) = (x ∷ [], refl)

pub IsTimed-get_byte : {S A : Type 0} (g : ℕ → Outside → Run S A) → ((b : ℕ) → IsTimed (g b)) →
    IsTimed (λ w. get_byte w g)
IsTimed-get_byte g t = record {
  reaches =
      λ w. RunReaches-earlier w (record w { input = drop 1 w.input }) (get_byte w g) (step w) ((IsTimed-tick (g (next_word w.input)) (t (next_word w.input))).reaches (record w { input = drop 1 w.input }));
  goes_on =
      λ k w. (IsTimed-tick (g (next_word w.input)) (t (next_word w.input))).goes_on k (record w { input = drop 1 w.input });
}
  where
    step : (w : Outside) → Reaches w (record w { input = drop 1 w.input })
    step w =
        let h = taken_is w.input in record { taken = h.0; put = []; input = h.1; output = sym (append-nil w.output); left = omega arith }

-- ---- loops

-- what comes behind a tick has fewer ticks left
tick_below : {S A : Type 0} (n : ℕ) (w : Outside) (g : Outside → Run S A) → w.left ≡ n →
    ((u : Outside) → u.left < w.left → RunReaches u (g u)) → RunReaches w (tick_from n w g)
tick_below zero w g e h = (Reaches-refl w, e)
tick_below (suc n) w g e h =
    RunReaches-earlier w (record w { left = n }) (g (record w { left = n })) (one_less w n e) (h (record w { left = n }) (omega (arith, e)))

turn_reaches : {S D : Type 0} (w : Outside) (r : Run S (Turn D)) (next : S → Outside → Run S D) → RunReaches w r →
    ((s : S) (u : Outside) → u.left < w.left → RunReaches u (next s u)) →
    RunReaches w (then_do r (λ s w t. after_turn t (next s) s w))
turn_reaches {S} {D} w (Gives s u t) next k h = RunReaches-earlier w u (after_turn t (next s) s u) k (after t)
  where
    after : (t : Turn D) → RunReaches u (after_turn t (next s) s u)
    after Again = tick_below u.left u (next s) refl (λ v lt. h s v (omega (arith, lt, k.left)))
    after (Over d) = Reaches-refl u
turn_reaches w (Ends More u) next k h = k
turn_reaches w (Ends Deep u) next k h = k
turn_reaches w (Ends (Exit n) u) next k h = k
turn_reaches w Undefined next k h = tt

turns_reach : {S D : Type 0} (n : ℕ) (turn : S → Outside → Run S (Turn D)) →
    ((s : S) (w : Outside) → RunReaches w (turn s w)) → (s : S) (w : Outside) → w.left ≤ n →
    RunReaches w (turns n turn s w)
turns_reach zero turn h s w le =
    turn_reaches w (turn s w) (λ s w. Ends More w) (h s w) (λ s u lt. absurd (omega (arith, lt, le)))
turns_reach (suc n) turn h s w le =
    turn_reaches w (turn s w) (λ s w. turns n turn s w) (h s w) (λ s u lt. turns_reach n turn h s u (omega (arith, lt, le)))

-- the same iteration, and what comes behind it
turn_goes_on : {S D : Type 0} (k : ℕ) (w : Outside) (r q : Run S (Turn D)) (next further : S → Outside → Run S D) →
    RunReaches w r → GoesOn k r q →
    ((s : S) (u : Outside) → u.left < w.left → GoesOn k (next s u) (further s (later k u))) →
    ((s : S) (u : Outside) → u.left < w.left + k → RunReaches u (further s u)) →
    GoesOn k (then_do r (λ s w t. after_turn t (next s) s w)) (then_do q (λ s w t. after_turn t (further s) s w))
turn_goes_on {S} {D} k w (Gives s u t) q next further m h go far =
    subst (λ q. GoesOn k (after_turn t (next s) s u) (then_do q (λ s w t. after_turn t (further s) s w))) (sym h) (after t)
  where
    ticked : (n : ℕ) → u.left ≡ n → GoesOn k (tick_from n u (next s)) (tick (later k u) (further s))
    ticked zero e = tick_below (u.left + k) (later k u) (further s) refl (λ v lt. far s v (omega (arith, lt, m.left)))
    ticked (suc n) e =
        let same : suc (n + k) ≡ u.left + k = omega (arith, e) in
        subst (λ j. GoesOn k (next s (record u { left = n })) (tick_from j (later k u) (further s))) same (go s (record u { left = n }) (omega (arith, e, m.left)))

    after : (t : Turn D) → GoesOn k (after_turn t (next s) s u) (after_turn t (further s) s (later k u))
    after Again = ticked u.left refl
    after (Over d) = refl
turn_goes_on {S} {D} k w (Ends More u) q next further m h go far = behind q h
  where
    behind : (q : Run S (Turn D)) → RunReaches (later k u) q →
        RunReaches (later k u) (then_do q (λ s w t. after_turn t (further s) s w))
    behind q h = turn_reaches (later k u) q further h (λ s v lt. far s v (omega (arith, lt, m.0.left)))
turn_goes_on k w (Ends Deep u) q next further m h go far =
    ap (λ q. then_do q (λ s w t. after_turn t (further s) s w)) h
turn_goes_on k w (Ends (Exit n) u) q next further m h go far =
    ap (λ q. then_do q (λ s w t. after_turn t (further s) s w)) h
turn_goes_on k w Undefined q next further m h go far = ap (λ q. then_do q (λ s w t. after_turn t (further s) s w)) h

turns_go_on : {S D : Type 0} (k n m : ℕ) (turn : S → Outside → Run S (Turn D)) → ((s : S) → IsTimed (turn s)) →
    (s : S) (w : Outside) → w.left ≤ n → w.left + k ≤ m → GoesOn k (turns n turn s w) (turns m turn s (later k w))
turns_go_on k zero zero turn t s w le fits =
    turn_goes_on k w (turn s w) (turn s (later k w)) (λ s w. Ends More w) (λ s w. Ends More w) ((t s).reaches w) ((t s).goes_on k w) (λ s u lt. absurd (omega (arith, lt, le))) (λ s u lt. absurd (omega (arith, lt, fits)))
turns_go_on k zero (suc m) turn t s w le fits =
    turn_goes_on k w (turn s w) (turn s (later k w)) (λ s w. Ends More w) (λ s w. turns m turn s w) ((t s).reaches w) ((t s).goes_on k w) (λ s u lt. absurd (omega (arith, lt, le))) (λ s u lt. turns_reach m turn (λ s w. (t s).reaches w) s u (omega (arith, lt, fits)))
turns_go_on k (suc n) zero turn t s w le fits =
    turn_goes_on k w (turn s w) (turn s (later k w)) (λ s w. turns n turn s w) (λ s w. Ends More w) ((t s).reaches w) ((t s).goes_on k w) (λ s u lt. absurd (omega (arith, lt, fits))) (λ s u lt. absurd (omega (arith, lt, fits)))
turns_go_on k (suc n) (suc m) turn t s w le fits =
    turn_goes_on k w (turn s w) (turn s (later k w)) (λ s w. turns n turn s w) (λ s w. turns m turn s w) ((t s).reaches w) ((t s).goes_on k w) (λ s u lt. turns_go_on k n m turn t s u (omega (arith, lt, le)) (omega (arith, lt, fits))) (λ s u lt. turns_reach m turn (λ s w. (t s).reaches w) s u (omega (arith, lt, fits)))

pub IsTimed-loop : {S D : Type 0} (turn : S → Outside → Run S (Turn D)) → ((s : S) → IsTimed (turn s)) → (s : S) →
    IsTimed (loop turn s)
IsTimed-loop turn t s = record {
  reaches = λ w. turns_reach w.left turn (λ s w. (t s).reaches w) s w (omega arith);
  goes_on = λ k w. turns_go_on k w.left (w.left + k) turn t s w (omega arith) (omega arith);
}

-- what comes behind an iteration
pub IsTimed-after_turn : {S D : Type 0} (t : Turn D) (f : Outside → Run S D) (s : S) → IsTimed f →
    IsTimed (λ w. after_turn t f s w)
IsTimed-after_turn Again f s h = IsTimed-tick f h
IsTimed-after_turn (Over d) f s h = IsTimed-Gives s d

-- a loop is its first iteration, and behind a tick the loop
turn_same : {S D : Type 0} (w : Outside) (r : Run S (Turn D)) (next other : S → Outside → Run S D) → RunReaches w r →
    ((s : S) (u : Outside) → u.left < w.left → next s u ≡ other s u) →
    then_do r (λ s w t. after_turn t (next s) s w) ≡ then_do r (λ s w t. after_turn t (other s) s w)
turn_same {S} {D} w (Gives s u t) next other k h = after t
  where
    ticked : (n : ℕ) → u.left ≡ n → tick_from n u (next s) ≡ tick_from n u (other s)
    ticked zero e = refl
    ticked (suc n) e = h s (record u { left = n }) (omega (arith, e, k.left))

    after : (t : Turn D) → after_turn t (next s) s u ≡ after_turn t (other s) s u
    after Again = ticked u.left refl
    after (Over d) = refl
turn_same w (Ends e u) next other k h = refl
turn_same w Undefined next other k h = refl

turns_same : {S D : Type 0} (n m : ℕ) (turn : S → Outside → Run S (Turn D)) → ((s : S) → IsTimed (turn s)) →
    (s : S) (w : Outside) → w.left ≤ n → w.left ≤ m → turns n turn s w ≡ turns m turn s w
turns_same zero zero turn t s w l k = refl
turns_same zero (suc m) turn t s w l k =
    turn_same w (turn s w) (λ s w. Ends More w) (λ s w. turns m turn s w) ((t s).reaches w) (λ s u lt. absurd (omega (arith, lt, l)))
turns_same (suc n) zero turn t s w l k =
    turn_same w (turn s w) (λ s w. turns n turn s w) (λ s w. Ends More w) ((t s).reaches w) (λ s u lt. absurd (omega (arith, lt, k)))
turns_same (suc n) (suc m) turn t s w l k =
    turn_same w (turn s w) (λ s w. turns n turn s w) (λ s w. turns m turn s w) ((t s).reaches w) (λ s u lt. turns_same n m turn t s u (omega (arith, lt, l)) (omega (arith, lt, k)))

pub loop-first : {S D : Type 0} (turn : S → Outside → Run S (Turn D)) → ((s : S) → IsTimed (turn s)) →
    (s : S) (w : Outside) → loop turn s w ≡ then_do (turn s w) (λ s w t. after_turn t (loop turn s) s w)
loop-first turn t s w =
    turns_same w.left (suc w.left) turn t s w (omega arith) (omega arith)
    ∙ turn_same w (turn s w) (λ s w'. turns w.left turn s w') (λ s w. loop turn s w) ((t s).reaches w) (λ s u lt. turns_same w.left u.left turn t s u (omega (arith, lt)) (omega arith))

-- ---- calls

pub IsTimed-nested : {X S A : Type 0} (body : (X → Outside → Run S A) → X → Outside → Run S A) →
    ((call : X → Outside → Run S A) → ((x : X) → IsTimed (call x)) → (x : X) → IsTimed (body call x)) →
    (depth : ℕ) (x : X) → IsTimed (nested body depth x)
IsTimed-nested body h zero x = record { reaches = λ w. Reaches-refl w; goes_on = λ k w. refl }
IsTimed-nested body h (suc depth) x =
    let t = h (nested body depth) (λ x. IsTimed-nested body h depth x) x in record { reaches = t.reaches; goes_on = t.goes_on }

pub RunReaches-main : {S : Type 0} (w : Outside) (r : Run S (Option Value)) → RunReaches w r → RunReaches w (end_of_main r)
RunReaches-main w (Gives s u None) h = h
RunReaches-main w (Gives s u (Some (Number n))) h = h
RunReaches-main w (Gives s u (Some (Pointer r o))) h = tt
RunReaches-main w (Ends More u) h = h
RunReaches-main w (Ends Deep u) h = h
RunReaches-main w (Ends (Exit n) u) h = h
RunReaches-main w Undefined h = h

main_goes_on : {S : Type 0} (k : ℕ) (r q : Run S (Option Value)) → GoesOn k r q →
    GoesOn k (end_of_main r) (end_of_main q)
main_goes_on k (Gives s u None) q h = ap end_of_main h
main_goes_on k (Gives s u (Some (Number n))) q h = ap end_of_main h
main_goes_on k (Gives s u (Some (Pointer r o))) q h = ap end_of_main h
main_goes_on k (Ends More u) q h = RunReaches-main (later k u) q h
main_goes_on k (Ends Deep u) q h = ap end_of_main h
main_goes_on k (Ends (Exit n) u) q h = ap end_of_main h
main_goes_on k Undefined q h = ap end_of_main h

pub IsTimed-main : {S : Type 0} (h : Outside → Run S (Option Value)) → IsTimed h → IsTimed (λ w. end_of_main (h w))
IsTimed-main h t =
    record { reaches = λ w. RunReaches-main w (h w) (t.reaches w); goes_on = λ k w. main_goes_on k (h w) (h (later k w)) (t.goes_on k w) }
