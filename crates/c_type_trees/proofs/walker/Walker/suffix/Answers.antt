-- `suffix` of src/suffixes.rt: what the check leaves open of its proof.
-- A suffix behind an operand.
use Rattle.c_typing.specs.Trees.{suffix_typing-Index, suffix_typing-Call, suffix_typing-CallWith, suffix_typing-Member, suffix_typing-Arrow, suffix_typing-Increment, suffix_typing-Decrement}
use Rattle.c_type_trees.proofs.walker.Walker.suffix.Goals as goal

pub returns-in-Index : goal.returns-in-Index
returns-in-Index g c =
    rw (c.in-Index.is, suffix_typing-Index) c.indexed.ensures

pub returns-in-Call : goal.returns-in-Call
returns-in-Call g c =
    rw (c.in-Call.is, suffix_typing-Call) c.bad_call_if_any.ensures

pub returns-in-CallWith : goal.returns-in-CallWith
returns-in-CallWith g c =
    rw (c.in-CallWith.is, suffix_typing-CallWith) (rw c.as_slice.ensures at c.called_value.ensures)

pub returns-in-Member : goal.returns-in-Member
returns-in-Member g c =
    rw (c.in-Member.is, suffix_typing-Member) c.member_if_any.ensures

pub returns-in-Arrow : goal.returns-in-Arrow
returns-in-Arrow g c =
    rw (c.in-Arrow.is, suffix_typing-Arrow) c.arrow_if_any.ensures

pub returns-in-Increment : goal.returns-in-Increment
returns-in-Increment g c =
    rw (c.in-Increment.is, suffix_typing-Increment) c.increment_if_any.ensures

pub returns-in-Decrement : goal.returns-in-Decrement
returns-in-Decrement g c =
    rw (c.in-Decrement.is, suffix_typing-Decrement) c.increment_if_any-in-Decrement.ensures
