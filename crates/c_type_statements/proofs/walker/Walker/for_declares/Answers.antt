-- `for_declares` of src/loops.rt: what the check leaves open of its proof.
-- A `for` whose head declares: that lies around the loop (C11 6.8.5.3p1).
use Rattle.std.proofs.Common.{ℕ, subst}
use Rattle.c_typing.specs.Declarations as declarations
use Rattle.c_typing.specs.Scopes.{◌>>=◌}
use Rattle.c_typing.specs.OfStatements as spec
use Rattle.c_typing.specs.Statements.{stmt_typing}
use Rattle.c_type_walk.specs.Walks.{Gave, fixed}
use Rattle.c_type_statements.specs.Statements.{then_loop}
use Rattle.c_type_statements.proofs.Rows.{objects_walked, blocked}
use Rattle.c_type_statements.proofs.walker.Walker.for_declares.Goals as goal

pub returns : goal.returns
returns g c =
    let first = declarations.declaration_row (declarations.declared_of c.args.head.now) in
    let repeated = spec.loop_row c.args.at (spec.controlling_of c.args.control.now) (stmt_typing c.args.body.now) in
    let w = then_loop first repeated in
    let P : ℕ → Type 0 = λ n. Gave ((spec.with_objects n w >>= spec.block_of) (fixed c.args.around.now) c.args.found.now.state) c.args.found.now c.close.new.self c.block_of.result in
    subst P c.in_ok-count.ensures (blocked c.in_ok-count.count w (fixed c.args.around.now) c.args.found.now _ c.in-Ok-end_objects.objects c.in-Ok.made c.block_of.result
    (objects_walked c.in_ok-count.count w c.args.around.now c.in_scope-scope.result c.in_ok-outside.within c.args.found.now _ _ _ _ _ _ _ _
    c.in_scope-scope.ensures c.begin_objects.ensures.faults c.in_ok-outside.ensures.state c.in_ok-outside.ensures.outside.0 c.in_ok-outside.ensures.outside.1 c.in_ok-outside.ensures.within
    c.in-Ok.ensures
    c.in-Ok-end_objects.ensures.given c.end_objects.ensures.faults c.in-Ok-end_objects.ensures.state c.close.ensures.faults c.close.ensures.state) c.block_of.ensures)
