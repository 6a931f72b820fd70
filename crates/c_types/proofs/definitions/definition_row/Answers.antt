-- `definition_row` of src/definitions.rt: what the check leaves open of its proof.
-- A function definition.
use Rattle.std.proofs.Common.{◌≡◌, ◌∙◌, ap, map}
use Rattle.c_typing.specs.Declarators.{first_token, name_place}
use Rattle.c_typing.specs.Trees.{specifier_typing}
use Rattle.c_typing.specs.Units as spec
use Rattle.c_type_walk.specs.Walks.{fixed}
use Rattle.c_type_walk.proofs.Walked.{tail}
use Rattle.c_types.specs.Definitions as parts
use Rattle.c_types.proofs.InOrder.{whole}
use Rattle.c_types.proofs.definitions.definition_row.Goals as goal

pub returns : goal.returns
returns c =
    let d : spec.Defined = spec.defined_of c.args.tree.now in
    let around = c.args.around.now in
    let old = c.args.found.now in
    let header = c.in_ok-header.header in
    let at : c.first_specifier-first.result ≡ first_token d.specifiers = c.first_specifier-first.ensures ∙ ap (λ l. first_token (map specifier_typing l)) c.as_slice-list.ensures in
    let place = c.name_place-place.ensures.name ∙ ap (λ name. name_place name c.first_specifier-first.result) c.name.ensures in
    tail (parts.behind_header d d.declaring.name header) (spec.definition_row d) around around
    old c.header.new.found c.behind_header.new.found c.behind_header.result
    (λ made g. whole d (fixed around) old c.specifiers.new.found c.defining_basis.new.found c.begin_definition.new.self c.header.new.found c.behind_header.new.found
    c.in_ok-basis.basis c.in_ok-basis-2.basis c.first_specifier-first.result c.name_place-place.result header made at place
    (rw c.as_slice-list.ensures at c.in_ok-basis.ensures) c.in_ok-basis-2.ensures c.begin_definition.ensures.faults c.begin_definition.ensures.state c.in_ok-header.ensures g) c.behind_header.ensures
