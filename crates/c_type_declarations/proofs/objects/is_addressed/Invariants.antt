-- `is_addressed` of src/objects.rt: what holds in its loop.
-- Whether `&` is applied to the object of this number.
use Rattle.std.proofs.Common.{◌≡◌, ◌==◌, drop}
use Rattle.std.specs.List.{list_any}
use Rattle.c_typing.specs.OfStatements as statements
use Rattle.c_type_declarations.proofs.objects.is_addressed.Given as goal

abbrev pub invariant-loop-one : goal.invariant-loop-one
invariant-loop-one l = list_any (λ m. m == l.number) (drop l.one-index l.one-items) ≡ statements.is_addressed l.state l.number
