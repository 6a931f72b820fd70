-- `prototype` of src/parameters.rt: what the check leaves open of its proof.
-- A parameter list of a declaration is a scope of its own (C11 6.2.1p4), in which no object stands.
use Rattle.std.proofs.Common.{ap, map, rules, arith}
use Rattle.std.specs.Prelude.{false}
use Rattle.std.proofs.lemmas.Grind.{common_steps}
use Rattle.c_typing.specs.Scopes as scopes
use Rattle.c_typing.specs.OfTrees.{parameters_row}
use Rattle.c_typing.specs.Trees.{parameter_typing}
use Rattle.c_type_trees.proofs.Prototypes.{prototyped}
use Rattle.c_type_trees.proofs.walker.Walker.prototype.Goals as goal

pub returns : goal.returns
returns g c =
    prototyped (parameters_row 0 (map parameter_typing c.args.list.now)) c.args.around.now (record c.in_scope.result { at_file_level = false }) _ _ _ _
    (ap (λ (a : scopes.Around). record a { at_file_level = false }) c.in_scope.ensures) c.in-Ok.ensures c.close.ensures.faults (first_of (search rules, grind (arith, common_steps)))
