-- A run takes of the input, the output and the ticks alone, and with a longer clock it is the same run, further.
-- No contract cites this file: it holds proofs.
use Rattle.std.proofs.Common.{◌≡◌, ℕ, ◌+◌, List}
use Rattle.std.specs.Prelude.{None}
use Rattle.word_ops.specs.Clock.{IsTimed}
use Rattle.word_ops.specs.Laws.Outcomes.{outcome-none}
use Rattle.word_ops.specs.Laws.Clock.{IsTimed-Gives, IsTimed-exit, IsTimed-undefined, IsTimed-then, IsTimed-tick, IsTimed-put_byte, IsTimed-get_byte, IsTimed-loop, IsTimed-nested, IsTimed-main}
use Rattle.c_tree.specs.declared.typed.unit.Typed.{Typed}
use Rattle.c_meaning.specs.Expressions.{Invocation}
use Rattle.c_meaning.specs.Units.{function_run, calls, first_call, run_of_unit, outcome_of_unit}
use Rattle.c_meaning.specs.Laws.Congruence.{Relation, IsCongruence}
use Rattle.c_meaning.specs.Laws.Related.{function_run-related}

-- the first of two parts is timed
abbrev pub FirstIsTimed : Relation
FirstIsTimed S A h k = IsTimed h

timed : IsCongruence FirstIsTimed
timed = record {
  gives = λ S A s a. IsTimed-Gives s a;
  undefined = λ S A. IsTimed-undefined;
  exit = λ S A n. IsTimed-exit n;
  then_ = λ S T A B h k f g t q. IsTimed-then h f t q;
  ticks = λ S A f g t. IsTimed-tick f t;
  puts = λ S A n f g t. IsTimed-put_byte n f t;
  gets = λ S A f g t. IsTimed-get_byte f t;
  loops = λ S D f g t s. IsTimed-loop f t s;
}

pub calls_timed : (u : Typed) (depth : ℕ) (i : Invocation) → IsTimed (calls u depth i)
calls_timed u depth i =
    IsTimed-nested (function_run u) (λ call t i. function_run-related FirstIsTimed timed call call t u i) depth i

pub run_timed : (u : Typed) (depth : ℕ) → IsTimed (run_of_unit u depth)
run_timed u depth = IsTimed-main (calls u depth (first_call u)) (calls_timed u depth (first_call u))

-- what is undefined is so with a longer clock
pub longer-none : (u : Typed) (input : List ℕ) (depth clock k : ℕ) → outcome_of_unit u input depth clock ≡ None →
    outcome_of_unit u input depth (clock + k) ≡ None
longer-none u input depth clock k e = outcome-none (run_of_unit u depth) input clock k (run_timed u depth) e
