-- Proof of the law `values_are_of_their_kinds` of src/laws.rt: each clause is a lemma of
-- specs/Laws, or computes.
use Rattle.std.proofs.Common.{sym, subst}
use Rattle.c_meaning.specs.Units.{calls}
use Rattle.c_meaning.specs.Laws.ValueKinds.{value-kind}
use Rattle.c_meaning.specs.Laws.CallKinds.{CallsGiveResults, calls-kind}
use Rattle.c_meaning.proofs.laws.values_are_of_their_kinds.Goals as goal

pub returns-clause-values : goal.returns-clause-values
returns-clause-values c u depth n a g env st w whole same k =
    value-kind n (calls u depth) (subst (λ fs. CallsGiveResults fs (calls u depth)) (sym same) (calls-kind u whole depth)) a g k env st w

pub returns-clause-calls : goal.returns-clause-calls
returns-clause-calls c u depth i w whole = calls-kind u whole depth i w
