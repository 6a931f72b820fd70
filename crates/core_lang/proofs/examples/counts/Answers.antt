-- Proof of the examples `counts` of src/examples.rt: each clause is computed in
-- specs/Examples or specs/Instances.
use Rattle.core_lang.proofs.examples.counts.Goals as goal
use Rattle.core_lang.specs.Instances as instance

pub returns-clause-sum_counts : goal.returns-clause-sum_counts
returns-clause-sum_counts c = instance.sum_counts

pub returns-clause-sum_assigns : goal.returns-clause-sum_assigns
returns-clause-sum_assigns c = instance.sum_assigns

pub returns-clause-fill_counts : goal.returns-clause-fill_counts
returns-clause-fill_counts c = instance.fill_counts

pub returns-clause-copy_counts : goal.returns-clause-copy_counts
returns-clause-copy_counts c = instance.copy_counts

pub returns-clause-objects_take : goal.returns-clause-objects_take
returns-clause-objects_take c = instance.objects_take
