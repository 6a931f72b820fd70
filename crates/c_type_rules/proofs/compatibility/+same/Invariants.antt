-- The loops over two lists at once:
-- what was passed is the same in both, and what is left tells.
use Rattle.std.proofs.Common.{◌≡◌, length}
use Rattle.c_typing.specs.Types as spec
use Rattle.c_type_rules.specs.Compatibility.{compared, all_agree}
use Rattle.c_type_rules.proofs.compatibility.+same.Given as goal

abbrev pub invariant-same_derivations-loop-one : goal.invariant-same_derivations-loop-one
invariant-same_derivations-loop-one l = record {
  can_next : (goal.iterator-same_derivations-loop-one).can_next l.one-iterator;
  is_finite : (goal.iterator-same_derivations-loop-one).is_finite l.one-iterator;
  lengths : length l.one-iterator.a.rest.now ≡ length l.one-iterator.b.rest.now;
  rest : spec.all_same (compared l.by) l.one-iterator.a.rest.now l.one-iterator.b.rest.now ≡ spec.all_same (compared l.by) l.list l.others;
}

abbrev pub invariant-same_types-loop-one : goal.invariant-same_types-loop-one
invariant-same_types-loop-one l = record {
  can_next : (goal.iterator-same_types-loop-one).can_next l.one-iterator;
  is_finite : (goal.iterator-same_types-loop-one).is_finite l.one-iterator;
  lengths : length l.one-iterator.a.rest.now ≡ length l.one-iterator.b.rest.now;
  rest : all_agree (compared l.by) l.one-iterator.a.rest.now l.one-iterator.b.rest.now ≡ all_agree (compared l.by) l.list l.others;
}
