-- The row of a call of a name with linkage,
-- where that is a function.
use Rattle.std.proofs.Common.{◌∙◌, ap}
use Rattle.c_tree.specs.declared.typed.types.CType.{CType}
use Rattle.c_typing.specs.Types.{FunctionOf, shape}
use Rattle.c_type_expressions.proofs.Linked.{called_function}
use Rattle.c_type_expressions.proofs.calls.linked_call.Goals as goal

pub returns : goal.returns
returns c =
    let ts = c.in-FunctionOf.parameters.now in
    let t = c.in-Ok-copied.given in
    let e = ap (λ (t : CType). FunctionOf ts t) c.in-Ok-copied.ensures ∙ c.in-FunctionOf.ensures in
    called_function c.args.name.now c.args.place c.args.arguments.items ts t (shape c.args.ctype.now) c.args.around.now c.args.found.now c.defined_function.new.found
    c.function_call.new.found c.function_call.result e c.in-Ok.ensures.faults c.in-Ok.ensures.state c.function_call.ensures
