-- `parameter_types` of src/derivations.rt: what holds in its loop.
-- The types of parameters in the type of their function, which are unqualified (C11 6.7.6.3p15).
use Rattle.std.proofs.Common.{◌≡◌, take, map}
use Rattle.c_typing.specs.Types.{unqualified}
use Rattle.c_type_declarators.proofs.derivations.parameter_types.Given as goal

abbrev pub invariant-loop-parameter : goal.invariant-loop-parameter
invariant-loop-parameter l = l.list ≡ map (λ q. unqualified q.ctype) (take l.parameter-index l.parameters)
