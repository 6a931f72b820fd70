-- Relations of runs that all ways to put runs together keep. A law of the meaning by induction over trees is proved once, for any
-- such relation.
-- No contract cites this file: it holds proofs.
use Rattle.std.specs.Prelude.{ℕ, Bool, true, false, Option, Some, None}
use Rattle.word_ops.specs.Run.{Outside, Run, Gives, Undefined, then_do, given, branch, tick, Turn, loop, put_byte, get_byte, exit_with}

-- a relation of two parts of programs, whatever their states and results are
abbrev pub Relation : Type 1
Relation = (S A : Type 0) → (Outside → Run S A) → (Outside → Run S A) → Type 0

-- each way to put runs together relates what is put together from related parts
pub record IsCongruence (R : Relation) : Type 1 where
  pub gives : (S A : Type 0) (s : S) (a : A) → R S A (λ w. Gives s w a) (λ w. Gives s w a)
  pub undefined : (S A : Type 0) → R S A (λ w. Undefined) (λ w. Undefined)
  pub exit : (S A : Type 0) (n : ℕ) → R S A (λ w. exit_with n w) (λ w. exit_with n w)
  pub then_ :
      (S T A B : Type 0) (h k : Outside → Run S A) (f g : S → Outside → A → Run T B) → R S A h k → ((s : S) (a : A) → R T B (λ w. f s w a) (λ w. g s w a)) → R T B (λ w. then_do (h w) f) (λ w. then_do (k w) g)
  pub ticks : (S A : Type 0) (f g : Outside → Run S A) → R S A f g → R S A (λ w. tick w f) (λ w. tick w g)
  pub puts : (S A : Type 0) (n : ℕ) (f g : Outside → Run S A) → R S A f g → R S A (λ w. put_byte n w f) (λ w. put_byte n w g)
  pub gets :
      (S A : Type 0) (f g : ℕ → Outside → Run S A) → ((b : ℕ) → R S A (f b) (g b)) → R S A (λ w. get_byte w f) (λ w. get_byte w g)
  pub loops :
      (S D : Type 0) (f g : S → Outside → Run S (Turn D)) → ((s : S) → R S (Turn D) (f s) (g s)) → (s : S) → R S D (loop f s) (loop g s)

module _ (R : Relation) (c : IsCongruence R) where
  pub related-given : (S A B : Type 0) (o : Option A) (f g : A → Outside → Run S B) → ((a : A) → R S B (f a) (g a)) →
      R S B (λ w. given o (λ a. f a w)) (λ w. given o (λ a. g a w))
  related-given S A B None f g h = c.undefined S B
  related-given S A B (Some a) f g h = h a

  pub related-branch :
      (S A : Type 0) (b : Bool) (f g h k : S → Outside → Run S A) (s : S) → R S A (f s) (h s) → R S A (g s) (k s) → R S A (λ w. branch b f g s w) (λ w. branch b h k s w)
  related-branch S A true f g h k s p q = p
  related-branch S A false f g h k s p q = q
