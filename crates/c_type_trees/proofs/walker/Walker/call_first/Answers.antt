-- `call_first` of src/suffixes.rt: what the check leaves open of its proof.
-- Suffixes of which the first is the call of a name (C11 6.5.2.2).
use Rattle.std.proofs.Common.{sym, map, subst}
use Rattle.std.specs.Prelude.{List}
use Rattle.c_tree.specs.declared.expression.Suffix.{Suffix}
use Rattle.c_typing.specs.Trees.{suffix_typing}
use Rattle.c_type_trees.specs.Calls.{call_first}
use Rattle.c_type_trees.proofs.Arms.{called_first, no_call}
use Rattle.c_type_walk.specs.Walks.{Walks}
use Rattle.c_type_trees.proofs.walker.Walker.call_first.Goals as goal

pub returns-in_ok-value-in-Some : goal.returns-in_ok-value-in-Some
returns-in_ok-value-in-Some g c =
    subst (λ (qs : List Suffix). Walks (call_first c.args.function.now (map suffix_typing qs)) c.args.around.now c.args.found.now c.suffixes.result c.suffixes.new.found) (sym c.in-Some.ensures.cases.0)
    (called_first c.args.function.now (suffix_typing c.in-Some.first.now) (map suffix_typing c.in-Some.rest.now) c.args.around.now _ _ _ _ _ _ _ c.in_ok-given-in-Some.ensures (rw c.call_place-place.ensures at c.in_ok-value-in-Some.ensures) c.suffixes.ensures)

pub returns-in-None : goal.returns-in-None
returns-in-None g c =
    no_call c.args.function.now c.args.all.now c.args.around.now _ c.in-None.ensures.cases
