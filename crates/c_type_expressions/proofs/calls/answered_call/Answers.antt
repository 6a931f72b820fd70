-- A call of as many arguments as there are parameters
-- gives what is made of them.
use Rattle.std.proofs.Common.{◌≡◌, ◌∙◌, ap, subst, ℕ, true, List, Option}
use Rattle.c_tree.specs.declared.typed.expression.TExpr.{TExpr}
use Rattle.c_typing.specs.Expressions as spec
use Rattle.c_type_walk.specs.Walks.{Gave, fixed}
use Rattle.c_type_expressions.specs.Calls.{made}
use Rattle.c_type_expressions.proofs.Called.{answered-made}
use Rattle.c_type_expressions.proofs.calls.answered_call.Goals as goal

pub returns : goal.returns
returns c =
    let id = c.args.name.now in
    let args = c.args.arguments.items in
    let ts = c.args.parameters.now in
    let old = c.args.found.now in
    let new = c.arguments_row.new.found in
    let es = c.in-Some.values in
    let b : spec.same_length args ts ≡ true = cc in
    let h = subst (λ (o : Option (List TExpr)). Gave (spec.arguments_row args ts (fixed c.args.around.now) old.state) old new o) c.in-Some.is c.in-Ok.ensures in
    answered-made id args ts c.args.given (fixed c.args.around.now) old new es _ b h
    (c.in_ok-call.ensures ∙ ap (λ (d : Option ℕ). made id c.args.given es d) c.requires)
