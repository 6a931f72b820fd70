-- How a program runs: what is outside of it, how a run goes on, and how it ends (C11 5.1.2.3).
use Rattle.std.specs.Prelude.{ℕ, zero, suc, ◌-◌, ◌%◌, ◌^◌, Bool, true, false, List, [], ◌∷◌, ◌++◌, drop, Option, Some, None}
use Rattle.word_ops.specs.Store.{Value, Number, Pointer}

-- what is outside of a program: the input that is left, the output so far in its order, and the ticks that may still be
-- taken
pub record Outside : Type 0 where
  pub input : List ℕ
  pub output : List ℕ
  pub left : ℕ

-- how a run ends: with a status (C11 7.22.4.4p5, 5.1.2.2.3); at a call that would be too deep, or where a tick is due and
-- none is left (the profile's clock and depth)
pub data End : Type 0 where
  Exit : (status : ℕ) → End
  Deep : End
  More : End

-- what a part of a program does: it gives a state and a result, the whole ends, or it is undefined (C11 3.4.3)
pub data Run (S A : Type 0) : Type 0 where
  Gives : S → Outside → A → Run S A
  Ends : End → Outside → Run S A
  Undefined : Run S A

-- goes on behind a run: one evaluation is sequenced before the other (C11 5.1.2.3p3; the profile fixes the order)
abbrev pub then_do : {S T A B : Type 0} → Run S A → (S → Outside → A → Run T B) → Run T B
then_do (Gives s w a) go = go s w a
then_do (Ends e w) go = Ends e w
then_do Undefined go = Undefined

-- goes on where there is a value; where there is none the run is undefined (C11 3.4.3)
abbrev pub given : {S A B : Type 0} → Option A → (A → Run S B) → Run S B
given None go = Undefined
given (Some a) go = go a

-- one of two ways to go on (C11 6.8.4.1p2)
abbrev pub branch : {S A : Type 0} → Bool → (first second : S → Outside → Run S A) → S → Outside → Run S A
branch true first second s w = first s w
branch false first second s w = second s w

-- goes on with one tick less, or ends where none is left
abbrev pub tick_from : {S A : Type 0} → ℕ → Outside → (Outside → Run S A) → Run S A
tick_from zero w go = Ends More w
tick_from (suc n) w go = go (record w { left = n })

-- takes a tick, of those that are left (the profile's clock)
abbrev pub tick : {S A : Type 0} → Outside → (Outside → Run S A) → Run S A
tick w go = tick_from w.left w go

-- ---- loops (C11 6.8.5p4)

-- how one iteration of a loop ends: there is another one, or the loop is left
pub data Turn (D : Type 0) : Type 0 where
  Again : Turn D
  Over : D → Turn D

-- goes on to the next iteration with a tick less, or leaves the loop
abbrev pub after_turn : {S D : Type 0} → Turn D → (Outside → Run S D) → S → Outside → Run S D
after_turn Again go s w = tick w go
after_turn (Over d) go s w = Gives s w d

-- a loop of at most so many iterations behind its first, before each of which it takes a tick
abbrev pub turns : {S D : Type 0} → ℕ → (S → Outside → Run S (Turn D)) → S → Outside → Run S D
turns zero turn s w = then_do (turn s w) (λ s w t. after_turn t (λ w. Ends More w) s w)
turns (suc n) turn s w = then_do (turn s w) (λ s w t. after_turn t (λ w. turns n turn s w) s w)

-- a loop; since each iteration behind the first takes a tick, the ticks left bound their number
abbrev pub loop : {S D : Type 0} → (S → Outside → Run S (Turn D)) → S → Outside → Run S D
loop turn s w = turns w.left turn s w

-- ---- calls

-- calls that nest to a depth: what a call does, told from what the calls that it makes do; at depth 0 it is too deep
-- (C11 6.5.2.2p11; the profile's depth)
abbrev pub nested : {X S A : Type 0} → ((X → Outside → Run S A) → X → Outside → Run S A) → ℕ → X → Outside → Run S A
nested body zero x w = Ends Deep w
nested body (suc depth) x w = body (nested body depth) x w

-- ---- the library

-- putchar: puts the low byte of a number, then takes a tick (C11 7.21.7.8, 7.21.7.3p2)
abbrev pub put_byte : {S A : Type 0} → ℕ → Outside → (Outside → Run S A) → Run S A
put_byte n w go = tick (record w { output = w.output ++ (n % 256) ∷ [] }) go

-- the word of the next byte of an input, or -1 at its end (C11 7.21.7.6, 7.21.7.1p3, 7.21.1p3); a byte counts modulo 2^8
abbrev pub next_word : List ℕ → ℕ
next_word [] = 2 ^ 32 - 1
next_word (b ∷ more) = b % 256

-- getchar: takes the next byte, then a tick (C11 7.21.7.6)
abbrev pub get_byte : {S A : Type 0} → Outside → (ℕ → Outside → Run S A) → Run S A
get_byte w go = tick (record w { input = drop 1 w.input }) (go (next_word w.input))

-- exit: ends with a status modulo 256 (C11 7.22.4.4p5)
abbrev pub exit_with : {S A : Type 0} → ℕ → Outside → Run S A
exit_with n w = Ends (Exit (n % 256)) w

-- the end of the first call of main: with what it gives as status, and with 0 where its closing brace was reached
-- (C11 5.1.2.2.3p1)
abbrev pub end_of_main : {S : Type 0} → Run S (Option Value) → Run S (Option Value)
end_of_main (Gives s w None) = exit_with 0 w
end_of_main (Gives s w (Some (Number n))) = exit_with n w
end_of_main (Gives s w (Some (Pointer r o))) = Undefined
end_of_main (Ends e w) = Ends e w
end_of_main Undefined = Undefined
