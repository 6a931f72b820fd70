-- Proof of `load` of src/terms.rt: the goals that the check leaves open,
-- by lemmas of proofs/ and of the crates below.
use Rattle.std.proofs.lemmas.Result.{on_err_weaker, IfOk-weaker}
use Rattle.term_domain.proofs.Kept.{grown_extends, grown_pushed, same_state, on_ok}
use Rattle.term_domain.proofs.Given.{pushed_node, load_given}
use Rattle.term_domain.proofs.terms.TermsDomain.load.Goals as goal

pub returns-clause-same : goal.returns-clause-same
returns-clause-same c = on_err_weaker c.push.result (λ e. same_state c.args.self.now _ e) c.push.ensures.err

pub returns-clause-extends : goal.returns-clause-extends
returns-clause-extends c = on_ok c.push.result (λ t n. grown_extends c.args.self.now _ (grown_pushed _ _ _ _ n.pushed)) c.push.ensures.ok

pub returns-clause-node : goal.returns-clause-node
returns-clause-node c = IfOk-weaker c.push.result _ _ (λ t n fresh. pushed_node _ _ _ _ t.0 n) c.push.ensures.ok

pub returns-clause-value : goal.returns-clause-value
returns-clause-value c =
    IfOk-weaker c.push.result _ _
    (λ t n. load_given c.args.self.now.table c.push.new.self c.args.width c.args.pointer c.width_facts.result t.0 n c.requires c.width_facts.ensures)
    c.push.ensures.ok
