-- Laws of runs: what stands one after another, and runs that follow other runs.
-- No contract cites this file: it holds proofs.
use Rattle.std.proofs.Common.{◌≡◌, refl, sym, ap, ◌∙◌, subst, ℕ, zero, suc, ◌<◌, arith, ◌⊎◌, inl, inr, ◌∷◌}
use Rattle.std.proofs.lemmas.Option.{none-some}
use Rattle.std.specs.Prelude.{Option, Some, None, Bool, true, false, List, ◌-◌, ◌^◌, []}
use Rattle.word_ops.specs.Store.{Value, Number, Pointer}
use Rattle.word_ops.specs.Run.{Outside, End, Run, Gives, Ends, Undefined, then_do, given, branch, tick_from, tick, Turn, Again, Over, after_turn, turns, loop, nested, put_byte, next_word, get_byte, end_of_main}
use Rattle.word_ops.specs.Following.{Follows, Through, TurnsAlike, SameStatus, Never}
use Rattle.word_ops.specs.Outcome.{Outcome, outcome_of}

-- ---- one after another

pub then_do-then_do :
    {S T U A B C : Type 0} (r : Run S A) (f : S → Outside → A → Run T B) (g : T → Outside → B → Run U C) →
    then_do (then_do r f) g ≡ then_do r (λ s w a. then_do (f s w a) g)
then_do-then_do (Gives s w a) f g = refl
then_do-then_do (Ends e w) f g = refl
then_do-then_do Undefined f g = refl

pub then_do-Gives : {S A : Type 0} (r : Run S A) → then_do r (λ s w a. Gives s w a) ≡ r
then_do-Gives (Gives s w a) = refl
then_do-Gives (Ends e w) = refl
then_do-Gives Undefined = refl

pub then_do-given : {S T A B C : Type 0} (o : Option A) (f : A → Run S B) (g : S → Outside → B → Run T C) →
    then_do (given o f) g ≡ given o (λ a. then_do (f a) g)
then_do-given None f g = refl
then_do-given (Some a) f g = refl

pub then_do-tick_from :
    {S T A B : Type 0} (n : ℕ) (w : Outside) (f : Outside → Run S A) (g : S → Outside → A → Run T B) →
    then_do (tick_from n w f) g ≡ tick_from n w (λ w. then_do (f w) g)
then_do-tick_from zero w f g = refl
then_do-tick_from (suc n) w f g = refl

-- ---- runs that follow others

pub Follows-more : {S A T B : Type 0} (P Q : S → A → T → B → Type 0) (r : Run S A) (q : Run T B) →
    ((s : S) (a : A) (t : T) (b : B) → P s a t b → Q s a t b) → Follows P r q → Follows Q r q
Follows-more P Q (Gives s w a) q more h = (h.0, h.1, h.2, more s a h.0 h.1 h.3)
Follows-more P Q (Ends e w) q more h = h
Follows-more P Q Undefined q more h = tt

pub Follows-trans :
    {S A T B U C : Type 0} (P : S → A → T → B → Type 0) (Q : T → B → U → C → Type 0) (r : Run S A) (q : Run T B) (p : Run U C) →
    Follows P r q → Follows Q q p → Follows (Through P Q) r p
Follows-trans P Q (Gives s w a) q p h k =
    let k2 = subst (λ q. Follows Q q p) h.2 k in (k2.0, k2.1, k2.2, (h.0, h.1, h.3, k2.3))
Follows-trans P Q (Ends e w) q p h k = subst (λ q. Follows Q q p) h k
Follows-trans P Q Undefined q p h k = tt

pub Follows-end :
    {S A T B : Type 0} (P : S → A → T → B → Type 0) (r : Run S A) (q : Run T B) (e : End) (w : Outside) →
    Follows P r q → r ≡ Ends e w → q ≡ Ends e w
Follows-end P r q e w h same = subst (λ r. Follows P r q) same h

-- the outcome of the whole is the same
pub Follows-outcome :
    {S A T B : Type 0} (P : S → A → T → B → Type 0) (r : Run S A) (q : Run T B) (input : List ℕ) (clock : ℕ) (o : Outcome) →
    Follows P r q → outcome_of input clock r ≡ Some o → outcome_of input clock q ≡ Some o
Follows-outcome P (Gives s w a) q input clock o h e = absurd (none-some o e)
Follows-outcome P (Ends x w) q input clock o h e = ap (outcome_of input clock) h ∙ e
Follows-outcome P Undefined q input clock o h e = absurd (none-some o e)

pub Follows-then :
    {S T A B U V C D : Type 0} (P : S → A → U → C → Type 0) (Q : T → B → V → D → Type 0) (r : Run S A) (q : Run U C) (f : S → Outside → A → Run T B) (g : U → Outside → C → Run V D) →
    Follows P r q → ((s : S) (w : Outside) (a : A) (u : U) (c : C) → P s a u c → Follows Q (f s w a) (g u w c)) →
    Follows Q (then_do r f) (then_do q g)
Follows-then P Q (Gives s w a) q f g h go =
    subst (λ x. Follows Q (f s w a) (then_do x g)) (sym h.2) (go s w a h.0 h.1 h.3)
Follows-then P Q (Ends e w) q f g h go = subst (λ x. then_do x g ≡ Ends e w) (sym h) refl
Follows-then P Q Undefined q f g h go = tt

-- the same, where what goes on is told that the first run gave this
pub Follows-then_at :
    {S T A B U V C D : Type 0} (P : S → A → U → C → Type 0) (Q : T → B → V → D → Type 0) (r : Run S A) (q : Run U C) (f : S → Outside → A → Run T B) (g : U → Outside → C → Run V D) →
    Follows P r q →
    ((s : S) (w : Outside) (a : A) (u : U) (c : C) → r ≡ Gives s w a → P s a u c → Follows Q (f s w a) (g u w c)) →
    Follows Q (then_do r f) (then_do q g)
Follows-then_at P Q (Gives s w a) q f g h go =
    subst (λ x. Follows Q (f s w a) (then_do x g)) (sym h.2) (go s w a h.0 h.1 refl h.3)
Follows-then_at P Q (Ends e w) q f g h go = subst (λ x. then_do x g ≡ Ends e w) (sym h) refl
Follows-then_at P Q Undefined q f g h go = tt

pub Follows-given : {S A B T D : Type 0} (Q : S → B → T → D → Type 0) (o : Option A) (f : A → Run S B) (q : Run T D) →
    ((a : A) → o ≡ Some a → Follows Q (f a) q) → Follows Q (given o f) q
Follows-given Q None f q go = tt
Follows-given Q (Some a) f q go = go a refl

pub Follows-given_both :
    {S A B T C D : Type 0} (Q : S → B → T → D → Type 0) (o : Option A) (x : Option C) (f : A → Run S B) (g : C → Run T D) →
    ((a : A) → o ≡ Some a → (c : C) × (x ≡ Some c) × Follows Q (f a) (g c)) → Follows Q (given o f) (given x g)
Follows-given_both Q None x f g go = tt
Follows-given_both Q (Some a) x f g go = let h = go a refl in subst (λ x. Follows Q (f a) (given x g)) (sym h.1) h.2

pub Follows-branch :
    {S A T B : Type 0} (Q : S → A → T → B → Type 0) (b : Bool) (f g : S → Outside → Run S A) (h k : T → Outside → Run T B) (s : S) (t : T) (w : Outside) →
    Follows Q (f s w) (h t w) → Follows Q (g s w) (k t w) → Follows Q (branch b f g s w) (branch b h k t w)
Follows-branch Q true f g h k s t w a b = a
Follows-branch Q false f g h k s t w a b = b

pub Follows-tick_from :
    {S B T D : Type 0} (Q : S → B → T → D → Type 0) (n : ℕ) (w : Outside) (f : Outside → Run S B) (g : Outside → Run T D) →
    ((w : Outside) → Follows Q (f w) (g w)) → Follows Q (tick_from n w f) (tick_from n w g)
Follows-tick_from Q zero w f g go = refl
Follows-tick_from Q (suc n) w f g go = go _

pub Follows-tick :
    {S B T D : Type 0} (Q : S → B → T → D → Type 0) (w : Outside) (f : Outside → Run S B) (g : Outside → Run T D) →
    ((w : Outside) → Follows Q (f w) (g w)) → Follows Q (tick w f) (tick w g)
Follows-tick Q w f g go = Follows-tick_from Q w.left w f g go

pub Follows-put_byte :
    {S B T D : Type 0} (Q : S → B → T → D → Type 0) (n : ℕ) (w : Outside) (f : Outside → Run S B) (g : Outside → Run T D) →
    ((w : Outside) → Follows Q (f w) (g w)) → Follows Q (put_byte n w f) (put_byte n w g)
Follows-put_byte Q n w f g go = Follows-tick_from Q w.left _ f g go

pub Follows-get_byte :
    {S B T D : Type 0} (Q : S → B → T → D → Type 0) (w : Outside) (f : ℕ → Outside → Run S B) (g : ℕ → Outside → Run T D) →
    ((b : ℕ) (w : Outside) → Follows Q (f b w) (g b w)) → Follows Q (get_byte w f) (get_byte w g)
Follows-get_byte Q w f g go =
    Follows-tick_from Q w.left _ (f (next_word w.input)) (g (next_word w.input)) (go (next_word w.input))

-- ---- loops whose iterations follow one another

follows_after :
    {S D T E : Type 0} (I : S → T → Type 0) (Q : S → D → T → E → Type 0) (s : S) (w : Outside) (d : Turn D) (t : T) (e : Turn E) (f : Outside → Run S D) (g : Outside → Run T E) →
    TurnsAlike I Q s d t e → (I s t → (w : Outside) → Follows Q (f w) (g w)) →
    Follows Q (after_turn d f s w) (after_turn e g t w)
follows_after I Q s w Again t Again f g h go = Follows-tick Q w f g (go h)
follows_after I Q s w Again t (Over e) f g h go = absurd h
follows_after I Q s w (Over d) t Again f g h go = absurd h
follows_after I Q s w (Over d) t (Over e) f g h go = (t, e, refl, h)

pub Follows-turns :
    {S D T E : Type 0} (I : S → T → Type 0) (Q : S → D → T → E → Type 0) (n : ℕ) (f : S → Outside → Run S (Turn D)) (g : T → Outside → Run T (Turn E)) →
    ((s : S) (w : Outside) (t : T) → I s t → Follows (TurnsAlike I Q) (f s w) (g t w)) →
    (s : S) (w : Outside) (t : T) → I s t → Follows Q (turns n f s w) (turns n g t w)
Follows-turns I Q zero f g turn s w t i =
    Follows-then (TurnsAlike I Q) Q (f s w) (g t w) _ _ (turn s w t i) (λ s w d t e h. follows_after I Q s w d t e _ _ h (λ i w. refl))
Follows-turns I Q (suc n) f g turn s w t i =
    Follows-then (TurnsAlike I Q) Q (f s w) (g t w) _ _ (turn s w t i) (λ s w d t e h. follows_after I Q s w d t e _ _ h (λ i w. Follows-turns I Q n f g turn s w t i))

pub Follows-loop :
    {S D T E : Type 0} (I : S → T → Type 0) (Q : S → D → T → E → Type 0) (f : S → Outside → Run S (Turn D)) (g : T → Outside → Run T (Turn E)) →
    ((s : S) (w : Outside) (t : T) → I s t → Follows (TurnsAlike I Q) (f s w) (g t w)) →
    (s : S) (w : Outside) (t : T) → I s t → Follows Q (loop f s w) (loop g t w)
Follows-loop I Q f g turn s w t i = Follows-turns I Q w.left f g turn s w t i

-- ---- calls that follow one another, to any depth

pub Follows-nested :
    {X Y S A T B : Type 0} (I : X → Y → Type 0) (P : (x : X) (y : Y) → I x y → S → A → T → B → Type 0) (f : (X → Outside → Run S A) → X → Outside → Run S A) (g : (Y → Outside → Run T B) → Y → Outside → Run T B) →
    ((call : X → Outside → Run S A) (other : Y → Outside → Run T B) → ((x : X) (y : Y) (i : I x y) (w : Outside) → Follows (P x y i) (call x w) (other y w)) → (x : X) (y : Y) (i : I x y) (w : Outside) → Follows (P x y i) (f call x w) (g other y w)) →
    (depth : ℕ) (x : X) (y : Y) (i : I x y) (w : Outside) →
    Follows (P x y i) (nested f depth x w) (nested g depth y w)
Follows-nested I P f g body zero x y i w = refl
Follows-nested I P f g body (suc depth) x y i w =
    body (nested f depth) (nested g depth) (λ x y i w. Follows-nested I P f g body depth x y i w) x y i w

-- ---- the library and main

-- a number that was got is a byte or -1
pub next_word-in : (xs : List ℕ) → (next_word xs < 256) ⊎ (next_word xs ≡ 2 ^ 32 - 1)
next_word-in [] = inr refl
next_word-in (x ∷ xs) = inl (omega arith)

pub Follows-main :
    {S T : Type 0} (P : S → Option Value → T → Option Value → Type 0) (r : Run S (Option Value)) (q : Run T (Option Value)) →
    ((s : S) (a : Option Value) (t : T) (b : Option Value) → P s a t b → SameStatus a b) → Follows P r q →
    Follows Never (end_of_main r) (end_of_main q)
Follows-main P (Gives s w None) q same h = ap end_of_main (h.2 ∙ ap (λ b. Gives h.0 w b) (same s None h.0 h.1 h.3))
Follows-main P (Gives s w (Some (Number n))) q same h =
    ap end_of_main (h.2 ∙ ap (λ b. Gives h.0 w b) (same s (Some (Number n)) h.0 h.1 h.3))
Follows-main P (Gives s w (Some (Pointer r o))) q same h = tt
Follows-main P (Ends e w) q same h = ap end_of_main h
Follows-main P Undefined q same h = tt
