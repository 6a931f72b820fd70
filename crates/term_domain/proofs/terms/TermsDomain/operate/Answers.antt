-- Proof of `operate` of src/terms.rt: the goals that the check leaves open,
-- by lemmas of proofs/ and of the crates below.
use Rattle.std.proofs.Common.{◌≡◌, sym, ◌∙◌, refl, subst, Some}
use Rattle.std.proofs.lemmas.Result.{on_err_weaker, IfOk-weaker}
use Rattle.word_ops.specs.Values.{value_of_operation}
use Rattle.term_form.specs.declared.term.Node.{Node}
use Rattle.term_form.specs.declared.term.Node.TheVariants.{Operate}
use Rattle.domain_laws.specs.Promises.{IsMadeBy}
use Rattle.term_domain.proofs.Kept.{grown_extends, grown_shared, same_state, on_ok}
use Rattle.term_domain.proofs.Given.{gives_shared, shared_is, shared_one, shared_alone, operation_may, same_Some}
use Rattle.term_domain.proofs.terms.TermsDomain.operate.Goals as goal

pub returns-clause-same : goal.returns-clause-same
returns-clause-same c = on_err_weaker c.share.result (λ e. same_state c.args.self.now c.share.new.self e) c.share.ensures.err

pub returns-clause-extends : goal.returns-clause-extends
returns-clause-extends c = on_ok c.share.result (λ t s. grown_extends c.args.self.now c.share.new.self (grown_shared _ _ _ _ t.0 s)) c.share.ensures.ok

pub returns-clause-made : goal.returns-clause-made
returns-clause-made c =
    IfOk-weaker c.share.result _ _
    (λ t s fresh. subst (λ (n : Node). IsMadeBy c.args.op c.args.a c.args.b n) (sym (shared_is _ _ _ _ t.0 s)) refl)
    c.share.ensures.ok

pub returns-clause-alone : goal.returns-clause-alone
returns-clause-alone c = IfOk-weaker c.share.result _ _ (λ t s fresh. shared_alone _ _ _ _ t.0 s fresh) c.share.ensures.ok

pub returns-clause-value : goal.returns-clause-value
returns-clause-value c =
    IfOk-weaker c.share.result _ _
    (λ t s. gives_shared (λ w v. value_of_operation w.store c.args.op (w.values c.args.a.0) (w.values c.args.b.0) ≡ Some v)
    c.args.self.now.table c.share.new.self.table (Operate c.args.op c.args.a c.args.b) c.anything.result t.0 s (c.requires.first, c.requires.second)
    (operation_may c.args.self.now.table c.args.op c.args.a c.args.b c.anything.result c.requires.first c.requires.second c.anything.ensures.is)
    (λ w u v h k. same_Some u v (sym h ∙ k)))
    c.share.ensures.ok

pub returns-clause-shared : goal.returns-clause-shared
returns-clause-shared c =
    IfOk-weaker c.share.result _ _ (λ t s is. (shared_is _ _ _ _ t.0 s, λ x lt e. shared_one _ _ _ _ t.0 s x lt e)) c.share.ensures.ok
