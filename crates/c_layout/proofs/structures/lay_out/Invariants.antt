use Rattle.std.proofs.Common.{◌≡◌, ◌++◌, true}
use Rattle.c_layout.specs.Tags.{is_alignment}
use Rattle.c_layout.specs.Sizes.{capped}
use Rattle.c_layout.specs.Structures.{end_of, placed, strictest}
use Rattle.c_layout.proofs.structures.lay_out.Given as goal

abbrev pub invariant-loop-name : goal.invariant-loop-name
invariant-loop-name l = record {
  can_next : (goal.iterator-loop-name).can_next l.name-iterator;
  is_finite : (goal.iterator-loop-name).is_finite l.name-iterator;
  rest : l.yielded ++ l.name-iterator.rest.items ≡ l.fn.members.items;
  end : l.end ≡ capped (end_of l.fn.tags 0 l.yielded);
  alignment : l.alignment ≡ strictest l.fn.tags l.yielded;
  aligned : is_alignment l.alignment ≡ true;
  placed : l.placed.items ≡ placed l.fn.tags 0 l.yielded;
}
