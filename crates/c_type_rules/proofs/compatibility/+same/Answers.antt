-- The parameters of two functions, and lists of different lengths,
-- compared as the definition does.
use Rattle.std.proofs.Common.{sym}
use Rattle.c_type_rules.specs.Compatibility.{compared}
use Rattle.c_type_rules.proofs.Rows.{parameters-agree, all_same-lengths, all_agree-lengths}
use Rattle.c_type_rules.proofs.compatibility.+same.Goals as goal

pub same_derivation-returns-in-Function-Function :
    goal.same_derivation-returns-in-Function-Function
same_derivation-returns-in-Function-Function t c =
    rw (c.in-Function-Function.is-0, c.in-Function-Function.is-1, c.same_types.ensures, c.as_slice.ensures, c.as_slice-in-Function-Function.ensures)
    (sym (parameters-agree (compared c.args.by) c.in-Function-Function.ps c.in-Function-Function.qs))

pub same_derivations-returns-then-list-others : goal.same_derivations-returns-then-list-others
same_derivations-returns-then-list-others t c =
    all_same-lengths (compared c.args.by) c.args.list.now c.args.others.now c.if-list-others.true

pub same_types-returns-then-list-others : goal.same_types-returns-then-list-others
same_types-returns-then-list-others t c =
    all_agree-lengths (compared c.args.by) c.args.list.now c.args.others.now c.if-list-others.true
