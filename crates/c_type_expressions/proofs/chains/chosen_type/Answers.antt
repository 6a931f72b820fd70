-- The type of an operand and a chain as one
-- is that of the operand and the value of the chain.
use Rattle.std.proofs.Common.{◌≡◌, ◌∙◌, ap, Bool}
use Rattle.c_tree.specs.declared.typed.types.CType.{CType}
use Rattle.c_typing.specs.Operators.{chosen, chosen_by}
use Rattle.c_typing.specs.Operands.{is_null_constant}
use Rattle.c_type_expressions.specs.Chains.{chain_of}
use Rattle.c_type_expressions.proofs.Ends.{same_end}
use Rattle.c_type_expressions.proofs.Settled.{chosen-null}
use Rattle.c_type_expressions.proofs.chains.chosen_type.Goals as goal

pub returns : goal.returns
returns c =
    let g = c.args.gives.now in
    let rest = c.args.rest.now in
    let same : chosen_by g.ctype c.is_null_constant.result c.ctype.result.now c.is_null.result ≡ chosen g (chain_of rest).whole =
    ap (λ (b : Bool). chosen_by g.ctype b c.ctype.result.now c.is_null.result) c.is_null_constant.ensures
    ∙ ap (λ (t : CType). chosen_by g.ctype (is_null_constant g) t c.is_null.result) c.ctype.ensures
    ∙ ap (λ (b : Bool). chosen_by g.ctype (is_null_constant g) (chain_of rest).whole.ctype b) c.is_null.ensures
    ∙ chosen-null g rest c.requires in
    same_end c.chosen_by.result _ _ same c.chosen_by.ensures
