-- `pointing` of src/derivations.rt: what holds in its loop.
-- The parts that the pointers of a declarator are (C11 6.7.6.1).
use Rattle.std.proofs.Common.{◌≡◌, take}
use Rattle.c_typing.specs.OfTrees.{pointing}
use Rattle.c_type_declarators.proofs.derivations.pointing.Given as goal

abbrev pub invariant-loop-pointer : goal.invariant-loop-pointer
invariant-loop-pointer l = l.parts ≡ pointing (take l.pointer-index l.pointers)
