-- `is_call` of src/names.rt: what the check leaves open of its proof.
-- Whether a suffix is a call.
use Rattle.std.proofs.Common.{refl}
use Rattle.c_typing.specs.Trees.{suffix_typing-Arrow, suffix_typing-Call, suffix_typing-CallWith, suffix_typing-Decrement, suffix_typing-Increment, suffix_typing-Index, suffix_typing-Member}
use Rattle.c_type_trees.proofs.names.is_call.Goals as goal

pub returns-in-Index : goal.returns-in-Index
returns-in-Index c = rw (c.in-Index.is, suffix_typing-Index) refl

pub returns-in-Call : goal.returns-in-Call
returns-in-Call c = rw (c.in-Call.is, suffix_typing-Call) refl

pub returns-in-CallWith : goal.returns-in-CallWith
returns-in-CallWith c = rw (c.in-CallWith.is, suffix_typing-CallWith) refl

pub returns-in-Member : goal.returns-in-Member
returns-in-Member c = rw (c.in-Member.is, suffix_typing-Member) refl

pub returns-in-Arrow : goal.returns-in-Arrow
returns-in-Arrow c = rw (c.in-Arrow.is, suffix_typing-Arrow) refl

pub returns-in-Increment : goal.returns-in-Increment
returns-in-Increment c = rw (c.in-Increment.is, suffix_typing-Increment) refl

pub returns-in-Decrement : goal.returns-in-Decrement
returns-in-Decrement c = rw (c.in-Decrement.is, suffix_typing-Decrement) refl
