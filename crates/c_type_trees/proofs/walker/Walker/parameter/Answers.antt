-- `parameter` of src/parameters.rt: what the check leaves open of its proof.
-- A parameter of this number.
use Rattle.std.proofs.Common.{◌∙◌, ap, map}
use Rattle.c_tree.specs.declared.declarator.Parameter.{out-Parameter}
use Rattle.c_typing.specs.Declarators.{first_token}
use Rattle.c_typing.specs.Trees.{declarator_typing, parameter_typing-is, specifier_typing}
use Rattle.c_type_trees.proofs.Nodes.{parameter_read}
use Rattle.c_type_trees.proofs.walker.Walker.parameter.Goals as goal

pub returns : goal.returns
returns g c =
    let node = out-Parameter c.args.tree.now in
    rw (parameter_typing-is c.args.tree.now)
    (parameter_read node.specifiers _ (declarator_typing node.declarator) c.args.number _ _ _ _ _ _ c.parameter_if_both.result c.args.around.now _ _ _ _ c.parameter_if_both.new.found
    c.as_slice-2.ensures (c.first_specifier-first.ensures ∙ ap (λ ss. first_token (map specifier_typing ss)) c.as_slice.ensures) c.name-name.ensures c.register_of-in_register.ensures
    c.in_ok-basis.ensures c.in_ok-basis-2.ensures c.in_ok-ctype.ensures c.parameter_if_both.ensures)
