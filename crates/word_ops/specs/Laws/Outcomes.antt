-- Laws of outcomes: a longer clock and more depth only add to what is seen of a run.
-- No contract cites this file: it holds proofs.
use Rattle.std.proofs.Common.{◌≡◌, ◌≢◌, sym, ap, ◌∙◌, subst, ℕ, ◌+◌, List, [], length, arith, length-append}
use Rattle.std.proofs.lemmas.List.{append-nil}
use Rattle.std.proofs.lemmas.Option.{none-some, same_Some}
use Rattle.std.specs.Prelude.{Some, None, ◌-◌}
use Rattle.word_ops.specs.Run.{Outside, End, Exit, Deep, More, Run, Gives, Ends, Undefined}
use Rattle.word_ops.specs.Outcome.{Outcome, outcome_of, start, IsFurther, IsWithinClock}
use Rattle.word_ops.specs.Clock.{Reaches, RunReaches, later, GoesOn, IsTimed}
use Rattle.word_ops.specs.Depth.{GoesDeeper}

within : (input : List ℕ) (clock : ℕ) (e : End) (u : Outside) → Reaches (start input clock) u →
    (e ≡ More → u.left ≡ 0) →
    IsWithinClock input clock (record { end = e; output = u.output; ticks = clock - u.left; taken = length input - length u.input })
within input clock e u h spent = record {
  ticks = omega arith;
  taken = omega arith;
  spent = λ q. omega (arith, spent q);
}

not_more : (n : ℕ) → Exit n ≢ More
not_more n q = cc

pub outcome-within : {S A : Type 0} (h : Outside → Run S A) (input : List ℕ) (clock : ℕ) (o : Outcome) → IsTimed h →
    outcome_of input clock (h (start input clock)) ≡ Some o → IsWithinClock input clock o
outcome-within {S} {A} h input clock o t e = go (h (start input clock)) (t.reaches (start input clock)) e
  where
    go : (r : Run S A) → RunReaches (start input clock) r → outcome_of input clock r ≡ Some o →
        IsWithinClock input clock o
    go (Gives s u a) k e = absurd (none-some o e)
    go (Ends More u) k e =
        subst (IsWithinClock input clock) (same_Some _ o e) (within input clock More u k.0 (λ q. k.1))
    go (Ends Deep u) k e = subst (IsWithinClock input clock) (same_Some _ o e) (within input clock Deep u k (λ q. cc))
    go (Ends (Exit n) u) k e =
        subst (IsWithinClock input clock) (same_Some _ o e) (within input clock (Exit n) u k (λ q. absurd (not_more n q)))
    go Undefined k e = absurd (none-some o e)

same_ticks : (n k j : ℕ) → n + k - (j + k) ≡ n - j
same_ticks n k j = omega arith

-- a run that ended otherwise than for want of ticks ends so with each longer clock
pub outcome-same : {S A : Type 0} (h : Outside → Run S A) (input : List ℕ) (clock k : ℕ) (o : Outcome) → IsTimed h →
    outcome_of input clock (h (start input clock)) ≡ Some o → o.end ≢ More →
    outcome_of input (clock + k) (h (start input (clock + k))) ≡ Some o
outcome-same {S} {A} h input clock k o t e ne = go (h (start input clock)) (t.goes_on k (start input clock)) e
  where
    go : (r : Run S A) → GoesOn k r (h (start input (clock + k))) → outcome_of input clock r ≡ Some o →
        outcome_of input (clock + k) (h (start input (clock + k))) ≡ Some o
    go (Gives s u a) g e = absurd (none-some o e)
    go (Ends More u) g e = absurd (ne (sym (ap (λ (o : Outcome). o.end) (same_Some _ o e))))
    go (Ends Deep u) g e =
        ap (outcome_of input (clock + k)) g
        ∙ ap (λ n. Some (record { end = Deep; output = u.output; ticks = n; taken = length input - length u.input })) (same_ticks clock k u.left)
        ∙ e
    go (Ends (Exit n) u) g e =
        ap (outcome_of input (clock + k)) g
        ∙ ap (λ m. Some (record { end = Exit n; output = u.output; ticks = m; taken = length input - length u.input })) (same_ticks clock k u.left)
        ∙ e
    go Undefined g e = absurd (none-some o e)

further_same : (o : Outcome) → IsFurther o o
further_same o = record { more = []; output = sym (append-nil o.output); ticks = omega arith; taken = omega arith }

-- one that ended for want of ticks goes on from there
further : (input : List ℕ) (clock k : ℕ) (e : End) (u v : Outside) → Reaches (later k u) v → u.left ≡ 0 →
    IsFurther (record { end = More; output = u.output; ticks = clock - u.left; taken = length input - length u.input }) (record { end = e; output = v.output; ticks = clock + k - v.left; taken = length input - length v.input })
further input clock k e u v h z = record {
  more = h.put;
  output = h.output;
  ticks = omega (arith, h.left, z);
  taken =
      let l : length u.input ≡ length h.taken + length v.input = ap length h.input
      ∙ length-append h.taken v.input in omega (arith, l);
}

-- with a longer clock an outcome is further
pub outcome-further : {S A : Type 0} (h : Outside → Run S A) (input : List ℕ) (clock k : ℕ) (o p : Outcome) →
    IsTimed h → outcome_of input clock (h (start input clock)) ≡ Some o →
    outcome_of input (clock + k) (h (start input (clock + k))) ≡ Some p → IsFurther o p
outcome-further {S} {A} h input clock k o p t e f =
    go (h (start input clock)) (h (start input (clock + k))) (t.reaches (start input clock)) (t.goes_on k (start input clock)) e f
  where
    from_more : (u : Outside) (q : Run S A) → u.left ≡ 0 → RunReaches (later k u) q →
        outcome_of input (clock + k) q ≡ Some p →
        IsFurther (record { end = More; output = u.output; ticks = clock - u.left; taken = length input - length u.input }) p
    from_more u (Gives s v a) z m f = absurd (none-some p f)
    from_more u (Ends More v) z m f = subst (IsFurther _) (same_Some _ p f) (further input clock k More u v m.0 z)
    from_more u (Ends Deep v) z m f = subst (IsFurther _) (same_Some _ p f) (further input clock k Deep u v m z)
    from_more u (Ends (Exit n) v) z m f =
        subst (IsFurther _) (same_Some _ p f) (further input clock k (Exit n) u v m z)
    from_more u Undefined z m f = absurd (none-some p f)

    ended : (x : End) (u : Outside) (q : Run S A) → q ≡ Ends x (later k u) →
        outcome_of {S = S} {A = A} input clock (Ends x u) ≡ Some o → outcome_of input (clock + k) q ≡ Some p →
        IsFurther o p
    ended x u q g e f =
        let same : p ≡ o = same_Some p o (sym f ∙ ap (outcome_of input (clock + k)) g ∙ ap (λ n. Some (record { end = x; output = u.output; ticks = n; taken = length input - length u.input })) (same_ticks clock k u.left) ∙ e) in
        subst (IsFurther o) (sym same) (further_same o)

    go : (r q : Run S A) → RunReaches (start input clock) r → GoesOn k r q → outcome_of input clock r ≡ Some o →
        outcome_of input (clock + k) q ≡ Some p → IsFurther o p
    go (Gives s u a) q m g e f = absurd (none-some o e)
    go (Ends More u) q m g e f = subst (λ o. IsFurther o p) (same_Some _ o e) (from_more u q m.1 g f)
    go (Ends Deep u) q m g e f = ended Deep u q g e f
    go (Ends (Exit n) u) q m g e f = ended (Exit n) u q g e f
    go Undefined q m g e f = absurd (none-some o e)

-- what is undefined within a clock is so within each longer one
pub outcome-none : {S A : Type 0} (h : Outside → Run S A) (input : List ℕ) (clock k : ℕ) → IsTimed h →
    outcome_of input clock (h (start input clock)) ≡ None →
    outcome_of input (clock + k) (h (start input (clock + k))) ≡ None
outcome-none {S} {A} h input clock k t e = go (h (start input clock)) (t.goes_on k (start input clock)) e
  where
    go : (r : Run S A) → GoesOn k r (h (start input (clock + k))) → outcome_of input clock r ≡ None →
        outcome_of input (clock + k) (h (start input (clock + k))) ≡ None
    go (Gives s u a) g e = ap (outcome_of input (clock + k)) g
    go (Ends x u) g e = absurd (none-some _ (sym e))
    go Undefined g e = ap (outcome_of input (clock + k)) g

-- ---- more depth

further_deep : (input : List ℕ) (clock : ℕ) (e : End) (u v : Outside) → Reaches u v →
    IsFurther (record { end = Deep; output = u.output; ticks = clock - u.left; taken = length input - length u.input }) (record { end = e; output = v.output; ticks = clock - v.left; taken = length input - length v.input })
further_deep input clock e u v h = record {
  more = h.put;
  output = h.output;
  ticks = omega (arith, h.left);
  taken =
      let l : length u.input ≡ length h.taken + length v.input = ap length h.input
      ∙ length-append h.taken v.input in omega (arith, l);
}

module _ {S A : Type 0} (input : List ℕ) (clock : ℕ) where
  -- a run that ended otherwise than for want of depth ends so with more depth
  pub outcome-same_deeper : (r q : Run S A) (o : Outcome) → GoesDeeper r q → outcome_of input clock r ≡ Some o →
      o.end ≢ Deep → outcome_of input clock q ≡ Some o
  outcome-same_deeper (Gives s u a) q o h e ne = ap (outcome_of input clock) h ∙ e
  outcome-same_deeper (Ends More u) q o h e ne = ap (outcome_of input clock) h ∙ e
  outcome-same_deeper (Ends Deep u) q o h e ne =
      absurd (ne (sym (ap (λ (o : Outcome). o.end) (same_Some _ o e))))
  outcome-same_deeper (Ends (Exit n) u) q o h e ne = ap (outcome_of input clock) h ∙ e
  outcome-same_deeper Undefined q o h e ne = ap (outcome_of input clock) h ∙ e

  -- what is undefined is so with more depth
  pub outcome-none_deeper : (r q : Run S A) → GoesDeeper r q → outcome_of input clock r ≡ None →
      outcome_of input clock q ≡ None
  outcome-none_deeper (Gives s u a) q h e = ap (outcome_of input clock) h
  outcome-none_deeper (Ends More u) q h e = ap (outcome_of input clock) h ∙ e
  outcome-none_deeper (Ends Deep u) q h e = absurd (none-some _ (sym e))
  outcome-none_deeper (Ends (Exit n) u) q h e = ap (outcome_of input clock) h ∙ e
  outcome-none_deeper Undefined q h e = ap (outcome_of input clock) h

  -- one that was too deep goes on from there
  from_deep : (p : Outcome) (u : Outside) (q : Run S A) → RunReaches u q → outcome_of input clock q ≡ Some p →
      IsFurther (record { end = Deep; output = u.output; ticks = clock - u.left; taken = length input - length u.input }) p
  from_deep p u (Gives s v a) h f = absurd (none-some p f)
  from_deep p u (Ends More v) h f = subst (IsFurther _) (same_Some _ p f) (further_deep input clock More u v h.0)
  from_deep p u (Ends Deep v) h f = subst (IsFurther _) (same_Some _ p f) (further_deep input clock Deep u v h)
  from_deep p u (Ends (Exit n) v) h f = subst (IsFurther _) (same_Some _ p f) (further_deep input clock (Exit n) u v h)
  from_deep p u Undefined h f = absurd (none-some p f)

  same_outcome : (o p : Outcome) (r q : Run S A) → q ≡ r → outcome_of input clock r ≡ Some o →
      outcome_of input clock q ≡ Some p → IsFurther o p
  same_outcome o p r q h e f =
      let same : o ≡ p = same_Some o p (sym e ∙ ap (outcome_of input clock) (sym h) ∙ f) in
      subst (IsFurther o) same (further_same o)

  -- with more depth an outcome is further
  pub outcome-further_deeper : (r q : Run S A) (o p : Outcome) → GoesDeeper r q → outcome_of input clock r ≡ Some o →
      outcome_of input clock q ≡ Some p → IsFurther o p
  outcome-further_deeper (Gives s u a) q o p h e f = absurd (none-some o e)
  outcome-further_deeper (Ends More u) q o p h e f = same_outcome o p (Ends More u) q h e f
  outcome-further_deeper (Ends Deep u) q o p h e f = subst (λ o. IsFurther o p) (same_Some _ o e) (from_deep p u q h f)
  outcome-further_deeper (Ends (Exit n) u) q o p h e f = same_outcome o p (Ends (Exit n) u) q h e f
  outcome-further_deeper Undefined q o p h e f = absurd (none-some o e)
