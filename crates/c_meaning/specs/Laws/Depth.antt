-- With more depth a run of a unit is the same where it was not too deep, and goes on where it was.
-- No contract cites this file: it holds proofs.
use Rattle.std.proofs.Common.{◌≡◌, ◌≢◌, ℕ, zero, suc, ◌≤◌, List, arith}
use Rattle.std.specs.Prelude.{Some, None}
use Rattle.word_ops.specs.Run.{Outside, Deep}
use Rattle.word_ops.specs.Outcome.{Outcome, start, IsFurther}
use Rattle.word_ops.specs.Depth.{GoesDeeper, IsDeeper}
use Rattle.word_ops.specs.Laws.Depth.{GoesDeeper-main, IsDeeper-Gives, IsDeeper-undefined, IsDeeper-exit, IsDeeper-then, IsDeeper-tick, IsDeeper-put_byte, IsDeeper-get_byte, IsDeeper-loop}
use Rattle.word_ops.specs.Laws.Outcomes.{outcome-same_deeper, outcome-none_deeper, outcome-further_deeper}
use Rattle.c_tree.specs.declared.typed.unit.Typed.{Typed}
use Rattle.c_meaning.specs.Expressions.{Invocation}
use Rattle.c_meaning.specs.Units.{calls, first_call, run_of_unit, outcome_of_unit}
use Rattle.c_meaning.specs.Laws.Congruence.{Relation, IsCongruence}
use Rattle.c_meaning.specs.Laws.Related.{function_run-related}
use Rattle.c_meaning.specs.Laws.Clock.{calls_timed}

-- ---- the congruence

-- the second part is the first one with more depth
abbrev pub Deeper : Relation
Deeper S A h k = IsDeeper h k

deeper : IsCongruence Deeper
deeper = record {
  gives = λ S A s a. IsDeeper-Gives s a;
  undefined = λ S A. IsDeeper-undefined;
  exit = λ S A n. IsDeeper-exit n;
  then_ = λ S T A B h k f g d e. IsDeeper-then h k f g d e;
  ticks = λ S A f g d. IsDeeper-tick f g d;
  puts = λ S A n f g d. IsDeeper-put_byte n f g d;
  gets = λ S A f g d. IsDeeper-get_byte f g d;
  loops = λ S D f g d s. IsDeeper-loop f g d s;
}

-- ---- calls and the unit

pub calls_deeper : (u : Typed) (d e : ℕ) → d ≤ e → (i : Invocation) → IsDeeper (calls u d i) (calls u e i)
calls_deeper u zero e le i = record {
  first_timed = calls_timed u zero i;
  timed = calls_timed u e i;
  deeper = λ w. (calls_timed u e i).reaches w;
}
calls_deeper u (suc d) zero le i = absurd (omega (arith, le))
calls_deeper u (suc d) (suc e) le i =
    function_run-related Deeper deeper (calls u d) (calls u e) (λ i. calls_deeper u d e (omega (arith, le)) i) u i

pub run_deeper : (u : Typed) (d e : ℕ) (w : Outside) → d ≤ e → GoesDeeper (run_of_unit u d w) (run_of_unit u e w)
run_deeper u d e w le =
    GoesDeeper-main (calls u d (first_call u) w) (calls u e (first_call u) w) ((calls_deeper u d e le (first_call u)).deeper w)

-- ---- outcomes

pub deeper-same : (u : Typed) (input : List ℕ) (d e clock : ℕ) (o : Outcome) → d ≤ e →
    outcome_of_unit u input d clock ≡ Some o → o.end ≢ Deep → outcome_of_unit u input e clock ≡ Some o
deeper-same u input d e clock o le q ne =
    outcome-same_deeper input clock (run_of_unit u d (start input clock)) (run_of_unit u e (start input clock)) o (run_deeper u d e (start input clock) le) q ne

pub deeper-none : (u : Typed) (input : List ℕ) (d e clock : ℕ) → d ≤ e → outcome_of_unit u input d clock ≡ None →
    outcome_of_unit u input e clock ≡ None
deeper-none u input d e clock le q =
    outcome-none_deeper input clock (run_of_unit u d (start input clock)) (run_of_unit u e (start input clock)) (run_deeper u d e (start input clock) le) q

pub deeper-further : (u : Typed) (input : List ℕ) (d e clock : ℕ) (o p : Outcome) → d ≤ e →
    outcome_of_unit u input d clock ≡ Some o → outcome_of_unit u input e clock ≡ Some p → IsFurther o p
deeper-further u input d e clock o p le q r =
    outcome-further_deeper input clock (run_of_unit u d (start input clock)) (run_of_unit u e (start input clock)) o p (run_deeper u d e (start input clock) le) q r
