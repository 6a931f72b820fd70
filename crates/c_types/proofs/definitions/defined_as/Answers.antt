-- `defined_as` of src/definitions.rt: what the check leaves open of its proof.
-- A definition of this type: its name is declared at file scope, and the block stands in the scope that its parameters begin.
use Rattle.std.proofs.Common.{◌≡◌, List}
use Rattle.c_typing.specs.Units as spec
use Rattle.c_typing.specs.declared.declarator.Parameter.{Parameter}
use Rattle.c_type_walk.specs.Walks.{fixed}
use Rattle.c_types.proofs.InOrder.{defined}
use Rattle.c_types.proofs.definitions.defined_as.Goals as goal

pub returns : goal.returns
returns c =
    let all : List Parameter = spec.parameters_of c.args.header.0 in
    let first : c.as_slice.result.now ≡ all = cc in
    let second : c.as_slice-2.result.now ≡ all = cc in
    defined (spec.defined_of c.args.tree.now) c.args.name.now c.args.header c.in_ok-tokens.tokens c.in_ok-value.value
    c.as_slice.result.now c.as_slice-2.result.now (fixed c.args.around.now) c.args.found.now c.linked_faults.new.found c.begin.new.found c.scoped_body.new.found c.end.new.found
    c.in_ok-body.body c.function_of.result c.in_ok-tokens.ensures c.in_ok-value.ensures first second c.in_ok-linked_faults.ensures.faults
    c.in_ok-linked_faults.ensures.state c.in_ok-begin.ensures.faults c.in_ok-begin.ensures.state c.in_ok-body.ensures
    c.end.ensures.faults c.end.ensures.state c.function_of.ensures
