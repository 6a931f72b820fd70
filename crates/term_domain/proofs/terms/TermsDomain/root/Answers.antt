-- Proof of `root` of src/terms.rt: the goals that the check leaves open,
-- by lemmas of proofs/ and of the crates below.
use Rattle.std.proofs.Common.{arith}
use Rattle.std.proofs.lemmas.Result.{on_err_weaker, IfOk-weaker}
use Rattle.term_form.specs.declared.term.Node.TheVariants.{Root}
use Rattle.domain_laws.specs.World.{IsOfRoot}
use Rattle.term_domain.proofs.Kept.{grown_extends, grown_adds, grown_shared, grown_pushed, same_state, brings_new, on_ok}
use Rattle.term_domain.proofs.Given.{gives_shared, gives_pushed, shared_is, shared_alone, pushed_node, root_may, root_one, object_shared, no_object}
use Rattle.term_domain.proofs.terms.TermsDomain.root.Goals as goal

pub returns-in-Global-clause-same : goal.returns-in-Global-clause-same
returns-in-Global-clause-same c = on_err_weaker c.share.result (λ e. same_state c.args.self.now c.share.new.self e) c.share.ensures.err

pub returns-in-Global-clause-extends : goal.returns-in-Global-clause-extends
returns-in-Global-clause-extends c = on_ok c.share.result (λ t s. grown_extends c.args.self.now c.share.new.self (grown_shared _ _ _ _ t.0 s)) c.share.ensures.ok

pub returns-in-Global-clause-node : goal.returns-in-Global-clause-node
returns-in-Global-clause-node c = IfOk-weaker c.share.result _ _ (λ t s fresh. shared_is _ _ _ _ t.0 s) c.share.ensures.ok

pub returns-in-Global-clause-object : goal.returns-in-Global-clause-object
returns-in-Global-clause-object c = IfOk-weaker c.share.result _ _ (λ t s object. shared_is _ _ _ _ t.0 s) c.share.ensures.ok

pub returns-in-Global-clause-alone : goal.returns-in-Global-clause-alone
returns-in-Global-clause-alone c = IfOk-weaker c.share.result _ _ (λ t s fresh object. shared_alone _ _ _ _ t.0 s fresh) c.share.ensures.ok

pub returns-in-Global-clause-value : goal.returns-in-Global-clause-value
returns-in-Global-clause-value c =
    IfOk-weaker c.share.result _ _
    (λ t s. gives_shared (λ w v. IsOfRoot w c.args.root v) c.args.self.now.table c.share.new.self.table (Root c.args.root) c.root_facts-facts.result t.0 s tt
    (root_may c.args.self.now.table c.args.root c.root_facts-facts.result c.root_facts-facts.ensures) (root_one c.args.root (object_shared c.args.root c.in-Global.is)))
    c.share.ensures.ok

pub returns-in-Param : goal.returns-in-Param
returns-in-Param c = record {
  same = on_err_weaker c.push.result (λ e. same_state c.args.self.now _ e) c.push.ensures.err;
  extends = on_ok c.push.result (λ t n. grown_extends c.args.self.now _ (grown_pushed _ _ _ _ n.pushed)) c.push.ensures.ok;
  adds = on_ok c.push.result (λ t n. grown_adds c.args.self.now _ (grown_pushed _ _ _ _ n.pushed)) c.push.ensures.ok;
  brings = IfOk-weaker c.push.result _ _ (λ t n. brings_new c.args.self.now _ _ _ t.0 n) c.push.ensures.ok;
  node = IfOk-weaker c.push.result _ _ (λ t n fresh. pushed_node _ _ _ _ t.0 n) c.push.ensures.ok;
  fresh = IfOk-weaker c.push.result _ _ (λ t n other lt. let e = n.number in omega (arith, e, lt)) c.push.ensures.ok;
  object = IfOk-weaker c.push.result _ _ (λ t n object. pushed_node _ _ _ _ t.0 n) c.push.ensures.ok;
  alone = IfOk-weaker c.push.result _ _ (λ t n fresh object. absurd (no_object c.args.root c.in-Param.is object)) c.push.ensures.ok;
  value = IfOk-weaker c.push.result _ _
      (λ t n. gives_pushed (λ w v. IsOfRoot w c.args.root v) c.args.self.now.table c.push.new.self (Root c.args.root) c.root_facts-facts.result t.0 n tt
      (root_may c.args.self.now.table c.args.root c.root_facts-facts.result c.root_facts-facts.ensures))
      c.push.ensures.ok;
}
