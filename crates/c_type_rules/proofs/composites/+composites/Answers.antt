-- The parameters of two functions, and the loops over two lists,
-- put together as the definition does.
use Rattle.std.proofs.Common.{◌∙◌, sym, ap, arith}
use Rattle.std.proofs.lemmas.List.{take_all}
use Rattle.c_typing.specs.Types.{with_each, composite_derived, composite}
use Rattle.c_type_rules.specs.Composites.{derivation_with, type_with}
use Rattle.c_type_rules.proofs.WithEach.{next, same_length, lent_at, parameters-composite}
use Rattle.c_type_rules.proofs.composites.+composites.Goals as goal

pub composite_derivation-returns-in_ok-parameters-in-Function-Function :
    goal.composite_derivation-returns-in_ok-parameters-in-Function-Function
composite_derivation-returns-in_ok-parameters-in-Function-Function t c =
    rw (c.in-Function-Function.is-0, c.in-Function-Function.is-1, c.in_ok-parameters-in-Function-Function.ensures, c.as_slice.ensures, c.as_slice-in-Function-Function.ensures)
    (sym (parameters-composite c.in-Function-Function.ps c.in-Function-Function.qs))

pub composite_derivations-loop-at-preserved : goal.composite_derivations-loop-at-preserved
composite_derivations-loop-at-preserved t c =
    next composite_derived c.args.list.now c.args.others.now c.loop-at.all.items c.push.new.self.items c.loop-at.at c.index-list-at.result c.in_ok-derivation_with.field-0
    c.loop-at-test.true c.index-list-at.is c.loop-at.invariant (c.in_ok-derivation_with.ensures ∙ ap (derivation_with c.index-list-at.result) (lent_at c.get.result c.args.others.now c.loop-at.at c.get.ensures.lookup.0 c.get.ensures.lookup.1)) c.in_ok-push.ensures.items

pub composite_derivations-returns : goal.composite_derivations-returns
composite_derivations-returns t c =
    c.from_vec.ensures ∙ c.loop-at.invariant
    ∙ take_all c.loop-at.at (with_each composite_derived c.args.list.now c.args.others.now) (omega (arith, same_length composite_derived c.args.list.now c.args.others.now, c.loop-at-test.false))

pub composite_types-loop-at-preserved : goal.composite_types-loop-at-preserved
composite_types-loop-at-preserved t c =
    next composite c.args.list.now c.args.others.now c.loop-at.all.items c.push.new.self.items c.loop-at.at c.index-list-at.result c.in_ok-type_with.field-0
    c.loop-at-test.true c.index-list-at.is c.loop-at.invariant (c.in_ok-type_with.ensures ∙ ap (type_with c.index-list-at.result) (lent_at c.get.result c.args.others.now c.loop-at.at c.get.ensures.lookup.0 c.get.ensures.lookup.1)) c.in_ok-push.ensures.items

pub composite_types-returns : goal.composite_types-returns
composite_types-returns t c =
    c.from_vec.ensures ∙ c.loop-at.invariant
    ∙ take_all c.loop-at.at (with_each composite c.args.list.now c.args.others.now) (omega (arith, same_length composite c.args.list.now c.args.others.now, c.loop-at-test.false))
