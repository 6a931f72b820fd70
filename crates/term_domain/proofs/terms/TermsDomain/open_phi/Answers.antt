-- Proof of `open_phi` of src/terms.rt: the goals that the check leaves open,
-- by lemmas of proofs/ and of the crates below.
use Rattle.std.proofs.Common.{sym, subst}
use Rattle.std.proofs.lemmas.Result.{on_err_weaker, IfOk-weaker}
use Rattle.word_ops.specs.Addresses.{word_of_value, IsValueIn}
use Rattle.term_form.specs.declared.term.Node.TheVariants.{Phi}
use Rattle.term_form.specs.declared.facts.Facts.{Facts}
use Rattle.term_form.specs.Meets.{Meets}
use Rattle.term_form.specs.Narrower.{IsNarrower}
use Rattle.term_form.proofs.Widths.{IsNarrower-refl}
use Rattle.term_domain.proofs.Kept.{grown_extends, grown_pushed, same_state, on_ok}
use Rattle.term_domain.proofs.Given.{pushed_node, pushed_facts, gives_pushed, phi_may}
use Rattle.term_domain.proofs.terms.TermsDomain.open_phi.Goals as goal

pub returns-clause-same : goal.returns-clause-same
returns-clause-same c = on_err_weaker c.push.result (λ e. same_state c.args.self.now _ e) c.push.ensures.err

pub returns-clause-extends : goal.returns-clause-extends
returns-clause-extends c = on_ok c.push.result (λ t n. grown_extends c.args.self.now _ (grown_pushed _ _ _ _ n.pushed)) c.push.ensures.ok

pub returns-clause-node : goal.returns-clause-node
returns-clause-node c = IfOk-weaker c.push.result _ _ (λ t n. pushed_node _ _ _ _ t.0 n) c.push.ensures.ok

pub returns-clause-assumed : goal.returns-clause-assumed
returns-clause-assumed c =
    IfOk-weaker c.push.result _ _
    (λ t n. subst (λ (f : Facts). IsNarrower f c.args.assumed.now) (sym (pushed_facts _ _ _ _ t.0 n)) (IsNarrower-refl c.args.assumed.now))
    c.push.ensures.ok

pub returns-clause-value : goal.returns-clause-value
returns-clause-value c =
    IfOk-weaker c.push.result _ _
    (λ t n. gives_pushed (λ w v. IsValueIn w.store v × Meets c.args.assumed.now (word_of_value w.store v)) c.args.self.now.table c.push.new.self Phi c.args.assumed.now t.0 n tt
    (phi_may c.args.self.now.table c.args.assumed.now))
    c.push.ensures.ok
