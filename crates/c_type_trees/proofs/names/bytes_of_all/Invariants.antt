-- `bytes_of_all` of src/names.rt: what holds in its loop.
-- The bytes of string literals that stand side by side, as one (C11 6.4.5p5).
use Rattle.std.proofs.Common.{◌≡◌, ◌++◌, drop}
use Rattle.c_typing.specs.OfTrees.{bytes_of_all}
use Rattle.c_type_trees.proofs.names.bytes_of_all.Given as goal

abbrev pub invariant-loop-one : goal.invariant-loop-one
invariant-loop-one l = l.bytes.items ++ bytes_of_all (drop l.one-index l.all) ≡ bytes_of_all l.all
