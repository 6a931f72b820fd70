-- `arguments` of src/suffixes.rt: what the check leaves open of its proof.
-- The arguments of a call, from left to right (C11 6.5.2.2p4); another suffix has none.
use Rattle.std.specs.Prelude.{[], Some, None}
use Rattle.c_typing.specs.Trees.{suffix_typing-Index, suffix_typing-Call, suffix_typing-CallWith, suffix_typing-Member, suffix_typing-Arrow, suffix_typing-Increment, suffix_typing-Decrement}
use Rattle.c_type_trees.proofs.Nodes.{offered}
use Rattle.c_type_trees.proofs.walker.Walker.arguments.Goals as goal

pub returns-in-Call : goal.returns-in-Call
returns-in-Call g c =
    rw (c.in-Call.is, suffix_typing-Call) (rw c.new.ensures.items (offered (Some []) c.args.around.now c.args.found.now))

pub returns-in-CallWith : goal.returns-in-CallWith
returns-in-CallWith g c =
    rw (c.in-CallWith.is, suffix_typing-CallWith) (rw c.as_slice.ensures at c.all_arguments.ensures)

pub returns-in-Index : goal.returns-in-Index
returns-in-Index g c =
    rw (c.in-Index.is, suffix_typing-Index) (offered None c.args.around.now c.args.found.now)

pub returns-in-Member : goal.returns-in-Member
returns-in-Member g c =
    rw (c.in-Member.is, suffix_typing-Member) (offered None c.args.around.now c.args.found.now)

pub returns-in-Arrow : goal.returns-in-Arrow
returns-in-Arrow g c =
    rw (c.in-Arrow.is, suffix_typing-Arrow) (offered None c.args.around.now c.args.found.now)

pub returns-in-Increment : goal.returns-in-Increment
returns-in-Increment g c =
    rw (c.in-Increment.is, suffix_typing-Increment) (offered None c.args.around.now c.args.found.now)

pub returns-in-Decrement : goal.returns-in-Decrement
returns-in-Decrement g c =
    rw (c.in-Decrement.is, suffix_typing-Decrement) (offered None c.args.around.now c.args.found.now)
