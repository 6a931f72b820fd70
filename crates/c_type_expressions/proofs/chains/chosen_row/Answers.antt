-- The row of `? :` before a chain of which the tree was made
-- is that before the chain as it was.
use Rattle.std.proofs.Common.{◌∙◌, ap, subst, ◌&&◌}
use Rattle.c_typing.specs.Types.{is_pointer}
use Rattle.c_typing.specs.Operators.{chosen}
use Rattle.c_typing.specs.Scopes.{Walk}
use Rattle.c_typing.specs.Expressions as spec
use Rattle.c_type_expressions.specs.declared.chains.Chain.{Chain}
use Rattle.c_type_expressions.specs.Told.{WalksAs}
use Rattle.c_type_expressions.specs.Chains.{chain_of, gives_integer}
use Rattle.c_type_expressions.proofs.Settled.{settled-integer, settled-chosen}
use Rattle.c_type_expressions.proofs.chains.chosen_row.Goals as goal

pub settled_row-requires : goal.settled_row-requires
settled_row-requires c =
    ap (λ (r : Chain). is_pointer c.args.gives.ctype && gives_integer r) c.in-Ok.ensures ∙ settled-integer c.args.gives.ctype c.args.rest

pub returns : goal.returns
returns c =
    let at = c.args.place in
    let k = c.args.condition in
    let g = c.args.gives in
    subst (λ (w : Walk spec.Chain). WalksAs chain_of w c.args.around.now c.args.found.now c.settled_row.result c.settled_row.new.found)
    (ap (λ (r : Chain). spec.chosen_if at k g (chain_of r) (chosen g (chain_of r).whole)) c.in-Ok.ensures ∙ settled-chosen at k g c.args.rest)
    c.settled_row.ensures
