-- `addresses` of src/addresses.rt: what holds in its loop.
-- The place in a static object that an expression is the address of, by constant indices, members, offsets and conversions of pointers; or `None` exactly where it is none (C11 6.6p9).
use Rattle.std.proofs.Common.{◌≡◌, [], take, drop}
use Rattle.c_typing.specs.Starts.{after_steps}
use Rattle.c_type_walk.specs.Walks.{fixed}
use Rattle.c_typing.specs.Starts as spec
use Rattle.c_type_initialisers.proofs.addresses.+addresses.Given as goal

abbrev pub invariant-stepped_address-loop-at : goal.invariant-stepped_address-loop-at
invariant-stepped_address-loop-at l =
    after_steps (spec.static_size (fixed l.around) l.found.state) l.first (take l.at l.steps) (drop l.at l.steps) l.address
    ≡ after_steps (spec.static_size (fixed l.around) l.found.state) l.first [] l.steps l.fn.start
