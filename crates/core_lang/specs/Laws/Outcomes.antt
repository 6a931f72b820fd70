-- Laws of outcomes: what a longer clock and more depth add to the run of a program.
-- No contract cites this file: it holds proofs.
use Rattle.std.proofs.Common.{◌≡◌, ◌≢◌, refl, sym, ap, ◌∙◌, subst, ℕ, ◌+◌, List, [], ◌∷◌, ◌++◌, length, arith, length-append}
use Rattle.std.proofs.lemmas.Option.{none-some, same_Some}
use Rattle.std.specs.Prelude.{Option, Some, None, ◌-◌}
use Rattle.word_ops.specs.Store.{Value, Number, Pointer, Store}
use Rattle.word_ops.specs.Run.{Outside, End, Exit, Deep, More, Run, Gives, Ends, Undefined, end_of_main}
use Rattle.word_ops.specs.Outcome.{Outcome, outcome_of, start, IsFurther, IsWithinClock}
use Rattle.word_ops.specs.Clock.{Reaches, RunReaches}
use Rattle.word_ops.specs.Laws.Outcomes.{outcome-within, outcome-same, outcome-further, outcome-none, outcome-same_deeper, outcome-none_deeper, outcome-further_deeper}
use Rattle.core_lang.specs.declared.program.Program.{Program}
use Rattle.core_lang.specs.Layout.{Layout}
use Rattle.core_lang.specs.Run.{calls, first_call, program_from, run_of_core}
use Rattle.core_lang.specs.Laws.Clock.{IsTimed-program}
use Rattle.core_lang.specs.Laws.Depth.{GoesDeeper-program}

-- ---- a longer clock

pub run-within : (l : Layout) (p : Program) (input : List ℕ) (depth clock : ℕ) (o : Outcome) →
    run_of_core l p input depth clock ≡ Some o → IsWithinClock input clock o
run-within l p input depth clock o e =
    outcome-within (program_from l p depth) input clock o (IsTimed-program l p depth) e

pub run-longer : (l : Layout) (p : Program) (input : List ℕ) (depth clock k : ℕ) (o : Outcome) →
    run_of_core l p input depth clock ≡ Some o → o.end ≢ More → run_of_core l p input depth (clock + k) ≡ Some o
run-longer l p input depth clock k o e ne =
    outcome-same (program_from l p depth) input clock k o (IsTimed-program l p depth) e ne

pub run-further : (l : Layout) (p : Program) (input : List ℕ) (depth clock k : ℕ) (o q : Outcome) →
    run_of_core l p input depth clock ≡ Some o → run_of_core l p input depth (clock + k) ≡ Some q → IsFurther o q
run-further l p input depth clock k o q e f =
    outcome-further (program_from l p depth) input clock k o q (IsTimed-program l p depth) e f

-- what is undefined within a clock is so within each longer one
pub run-undefined : (l : Layout) (p : Program) (input : List ℕ) (depth clock k : ℕ) →
    run_of_core l p input depth clock ≡ None → run_of_core l p input depth (clock + k) ≡ None
run-undefined l p input depth clock k e =
    outcome-none (program_from l p depth) input clock k (IsTimed-program l p depth) e

-- ---- more depth

pub run-deeper : (l : Layout) (p : Program) (input : List ℕ) (depth k clock : ℕ) (o : Outcome) →
    run_of_core l p input depth clock ≡ Some o → o.end ≢ Deep → run_of_core l p input (depth + k) clock ≡ Some o
run-deeper l p input depth k clock o e ne =
    outcome-same_deeper input clock (program_from l p depth (start input clock)) (program_from l p (depth + k) (start input clock)) o (GoesDeeper-program l p depth (depth + k) (omega arith) (start input clock)) e ne

-- what is undefined with a depth is so with each greater one
pub run-undefined_deeper : (l : Layout) (p : Program) (input : List ℕ) (depth k clock : ℕ) →
    run_of_core l p input depth clock ≡ None → run_of_core l p input (depth + k) clock ≡ None
run-undefined_deeper l p input depth k clock e =
    outcome-none_deeper input clock (program_from l p depth (start input clock)) (program_from l p (depth + k) (start input clock)) (GoesDeeper-program l p depth (depth + k) (omega arith) (start input clock)) e

-- with more depth an outcome is further
pub run-deeper_further : (l : Layout) (p : Program) (input : List ℕ) (depth k clock : ℕ) (o q : Outcome) →
    run_of_core l p input depth clock ≡ Some o → run_of_core l p input (depth + k) clock ≡ Some q → IsFurther o q
run-deeper_further l p input depth k clock o q e f =
    outcome-further_deeper input clock (program_from l p depth (start input clock)) (program_from l p (depth + k) (start input clock)) o q (GoesDeeper-program l p depth (depth + k) (omega arith) (start input clock)) e f

-- ---- the outside

-- at its end a run has taken a prefix of the input and added to the output
pub run-reaches : (l : Layout) (p : Program) (depth : ℕ) (w u : Outside) (e : End) → program_from l p depth w ≡ Ends e u →
    Reaches w u
run-reaches l p depth w u e q = go e (subst (RunReaches w) q ((IsTimed-program l p depth).reaches w))
  where
    go : (e : End) → RunReaches {S = Store} {A = Option Value} w (Ends e u) → Reaches w u
    go More h = h.0
    go Deep h = h
    go (Exit n) h = h

pub run-determined : (l : Layout) (p : Program) (input : List ℕ) (depth clock : ℕ) (o q : Outcome) →
    run_of_core l p input depth clock ≡ Some o → run_of_core l p input depth clock ≡ Some q → o ≡ q
run-determined l p input depth clock o q e f = same_Some o q (sym e ∙ f)
