-- Proof of the law `acts_in_lists` of src/laws.rt: each clause is a lemma of
-- specs/Laws, or computes.
use Rattle.core_lang.proofs.laws.acts_in_lists.Goals as goal
use Rattle.core_lang.specs.Acts.{acts}
use Rattle.core_lang.specs.Run.{calls}
use Rattle.core_lang.specs.Laws.Lists.{acts-append, act-Block, act-Loop, act-If}
use Rattle.core_lang.specs.Laws.Clock.{IsTimed-acts, IsTimed-calls, as_loop-first}

pub returns-clause-append : goal.returns-clause-append
returns-clause-append c = acts-append

pub returns-clause-block : goal.returns-clause-block
returns-clause-block c = act-Block

pub returns-clause-loops : goal.returns-clause-loops
returns-clause-loops c = act-Loop

pub returns-clause-choice : goal.returns-clause-choice
returns-clause-choice c = act-If

pub returns-clause-iteration : goal.returns-clause-iteration
returns-clause-iteration c = λ l gs depth e xs s w. as_loop-first (acts (calls l gs depth) e xs) (IsTimed-acts (calls l gs depth) (IsTimed-calls l gs depth) e xs) s w
