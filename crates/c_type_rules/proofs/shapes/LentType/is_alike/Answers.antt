-- Two types but for their qualifiers, by the shapes of both:
-- one answer for each pair of shapes.
use Rattle.std.proofs.Common.{◌∙◌, ap, sym, Bool, ◌&&◌}
use Rattle.c_typing.specs.Types.{Basic, PointerTo, ArrayOf, FunctionOf, compatible}
use Rattle.c_type_rules.specs.Shapes.{lent, meant}
use Rattle.c_type_rules.proofs.SameTargets.{alike-as, not_basic, not_pointer, not_array, not_function}
use Rattle.c_type_rules.proofs.shapes.LentType.is_alike.Goals as goal

pub returns-in-Basic-Basic : goal.returns-in-Basic-Basic
returns-in-Basic-Basic c =
    let here = c.in-Basic-Basic in
    c.are_compatible_bases.ensures
    ∙ sym (alike-as (lent c.args.self) (lent c.args.other) (Basic here.one) (Basic here.other) here.ensures here.ensures')

pub returns-in-PointerTo-PointerTo : goal.returns-in-PointerTo-PointerTo
returns-in-PointerTo-PointerTo c =
    let here = c.in-PointerTo-PointerTo in
    c.is_compatible.ensures
    ∙ sym (alike-as (lent c.args.self) (lent c.args.other) (PointerTo here.field-0-0 (lent here.one)) (PointerTo here.field-0-1 (lent here.other)) here.ensures here.ensures')

pub returns-then-counts : goal.returns-then-counts
returns-then-counts c =
    let here = c.in-ArrayOf-ArrayOf in
    c.is_compatible-then-counts.ensures
    ∙ ap (λ (b : Bool). b && compatible (lent here.one) (lent here.other)) c.if-counts.ensures
    ∙ sym (alike-as (lent c.args.self) (lent c.args.other) (ArrayOf here.m (lent here.one)) (ArrayOf here.n (lent here.other)) here.ensures here.ensures')

pub returns-else-counts : goal.returns-else-counts
returns-else-counts c =
    let here = c.in-ArrayOf-ArrayOf in
    c.if-counts.false
    ∙ ap (λ (b : Bool). b && compatible (lent here.one) (lent here.other)) c.if-counts.ensures
    ∙ sym (alike-as (lent c.args.self) (lent c.args.other) (ArrayOf here.m (lent here.one)) (ArrayOf here.n (lent here.other)) here.ensures here.ensures')

pub returns-then-same_types : goal.returns-then-same_types
returns-then-same_types c =
    let here = c.in-FunctionOf-FunctionOf in
    c.is_compatible-then-same_types.ensures
    ∙ ap (λ (b : Bool). b && compatible (lent here.one) (lent here.other)) c.if-same_types.ensures
    ∙ sym (alike-as (lent c.args.self) (lent c.args.other) (FunctionOf here.ps.now (lent here.one)) (FunctionOf here.qs.now (lent here.other)) here.ensures here.ensures')

pub returns-else-same_types : goal.returns-else-same_types
returns-else-same_types c =
    let here = c.in-FunctionOf-FunctionOf in
    c.if-same_types.false
    ∙ ap (λ (b : Bool). b && compatible (lent here.one) (lent here.other)) c.if-same_types.ensures
    ∙ sym (alike-as (lent c.args.self) (lent c.args.other) (FunctionOf here.ps.now (lent here.one)) (FunctionOf here.qs.now (lent here.other)) here.ensures here.ensures')

pub returns-in_default : goal.returns-in_default
returns-in_default c =
    let here = c.in_default in
    not_basic here.field-0-0 c.shape-2.result here.not-Basic-1
    ∙ sym (alike-as (lent c.args.self) (lent c.args.other) (Basic here.field-0-0) (meant c.shape-2.result) here.ensures c.shape-2.ensures)

pub returns-in_default-2 : goal.returns-in_default-2
returns-in_default-2 c =
    let here = c.in_default in
    not_pointer here.field-0-0 (lent here.field-1-0) c.shape-2.result here.not-PointerTo-1
    ∙ sym (alike-as (lent c.args.self) (lent c.args.other) (PointerTo here.field-0-0 (lent here.field-1-0)) (meant c.shape-2.result) here.ensures c.shape-2.ensures)

pub returns-in_default-3 : goal.returns-in_default-3
returns-in_default-3 c =
    let here = c.in_default in
    not_array here.field-0-0 (lent here.field-1-0) c.shape-2.result here.not-ArrayOf-1
    ∙ sym (alike-as (lent c.args.self) (lent c.args.other) (ArrayOf here.field-0-0 (lent here.field-1-0)) (meant c.shape-2.result) here.ensures c.shape-2.ensures)

pub returns-in_default-4 : goal.returns-in_default-4
returns-in_default-4 c =
    let here = c.in_default in
    not_function here.field-0-0.now (lent here.field-1-0) c.shape-2.result here.not-FunctionOf-1
    ∙ sym (alike-as (lent c.args.self) (lent c.args.other) (FunctionOf here.field-0-0.now (lent here.field-1-0)) (meant c.shape-2.result) here.ensures c.shape-2.ensures)
