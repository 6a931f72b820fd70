-- Proof of `leave` of src/terms.rt: the goals that the check leaves open,
-- by lemmas of proofs/ and of the crates below.
use Rattle.std.proofs.Common.{sym, subst}
use Rattle.term_domain.specs.Rows.{Rows, TableStands}
use Rattle.term_domain.specs.Laws.{stands-take}
use Rattle.term_domain.proofs.Kept.{left_at, left_restores, same_state}
use Rattle.term_domain.proofs.terms.TermsDomain.leave.Goals as goal

pub returns-clause-restores : goal.returns-clause-restores
returns-clause-restores c = λ d m. left_restores c.args.self.now _ d c.args.mark.now.count c.truncate.ensures m

pub returns-clause-stays : goal.returns-clause-stays
returns-clause-stays c = λ w h. subst (λ (rows : Rows). TableStands rows w) (sym c.truncate.ensures) (stands-take c.args.self.now.table c.args.mark.now.count w h)

pub returns-clause-same : goal.returns-clause-same
returns-clause-same c = λ d m. same_state d _ (left_at c.args.self.now _ d c.args.mark.now.count c.truncate.ensures m)
