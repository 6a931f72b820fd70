-- Proof of `konst` of src/terms.rt: the goals that the check leaves open,
-- by lemmas of proofs/ and of the crates below.
use Rattle.std.proofs.Common.{◌≡◌, sym, ◌∙◌}
use Rattle.std.proofs.lemmas.Result.{on_err_weaker, IfOk-weaker}
use Rattle.word_ops.specs.Store.{Number}
use Rattle.term_form.specs.declared.term.Node.TheVariants.{Konst}
use Rattle.term_domain.proofs.Kept.{grown_extends, grown_shared, same_state, on_ok}
use Rattle.term_domain.proofs.Given.{gives_shared, konst_may, shared_is, shared_alone}
use Rattle.term_domain.proofs.terms.TermsDomain.konst.Goals as goal

pub returns-clause-same : goal.returns-clause-same
returns-clause-same c = on_err_weaker c.share.result (λ e. same_state c.args.self.now c.share.new.self e) c.share.ensures.err

pub returns-clause-extends : goal.returns-clause-extends
returns-clause-extends c = on_ok c.share.result (λ t s. grown_extends c.args.self.now c.share.new.self (grown_shared _ _ _ _ t.0 s)) c.share.ensures.ok

pub returns-clause-value : goal.returns-clause-value
returns-clause-value c =
    IfOk-weaker c.share.result _ _
    (λ t s. gives_shared (λ w v. v ≡ Number c.args.word) c.args.self.now.table c.share.new.self.table (Konst c.args.word) c.only.result t.0 s tt
    (konst_may c.args.self.now.table c.args.word c.only.result c.ranges.word.fits c.only.ensures.holds) (λ w u v h k. h ∙ sym k))
    c.share.ensures.ok

pub returns-clause-node : goal.returns-clause-node
returns-clause-node c = IfOk-weaker c.share.result _ _ (λ t s. shared_is _ _ _ _ t.0 s) c.share.ensures.ok

pub returns-clause-alone : goal.returns-clause-alone
returns-clause-alone c = IfOk-weaker c.share.result _ _ (λ t s fresh. shared_alone _ _ _ _ t.0 s fresh) c.share.ensures.ok
