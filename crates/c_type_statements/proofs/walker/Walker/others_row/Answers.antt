-- `others_row` of src/ifs.rt: what the check leaves open of its proof.
-- The branches behind the first one, and what is done where no condition holds.
use Rattle.std.proofs.Common.{◌∙◌, ap, sym, subst, List, [], Some, map}
use Rattle.c_tree.specs.declared.typed.statement.Branch.{Branch}
use Rattle.c_typing.specs.Declarations.{Made}
use Rattle.c_typing.specs.OfStatements.{others_row}
use Rattle.c_typing.specs.Statements.{else_typing}
use Rattle.c_type_walk.specs.Walks.{fixed}
use Rattle.c_type_statements.specs.Statements.{empty_block}
use Rattle.c_type_statements.specs.declared.branches.Opened.{Opened}
use Rattle.c_type_statements.proofs.Elses.{ElsesLeft, elses_begun}
use Rattle.c_type_statements.proofs.Turns.{elses_last, elses_more, elses_none}
use Rattle.c_type_statements.proofs.walker.Walker.others_row.Goals as goal

pub loop-one-init : goal.loop-one-init
loop-one-init g c =
    let all = others_row (map else_typing c.args.others.now) in
    let around = fixed c.args.around.now in
    let old = c.args.found.now in
    let P : List Branch → Type 0 = λ bs. ElsesLeft all around all around old old (Some bs) c.new-opened.result in
    let Q : Opened → Type 0 = λ opened. ElsesLeft all around all around old old (Some []) opened in
    subst P (sym c.new.ensures) (subst Q (sym c.new-opened.ensures) (elses_begun all around old))

pub returns-in_default : goal.returns-in_default
returns-in_default g c =
    elses_last c.args.others.now c.loop-one.one-index c.one-item.result (fixed c.args.around.now) (fixed c.loop-one.within) c.args.found.now c.loop-one.found _ _
    c.loop-one.branches c.loop-one.opened c.in-Ok.last c.zip.result c.loop-one-test.true c.one-item.is c.in_default.is c.loop-one.invariant c.in-Ok.ensures
    c.close.ensures.faults c.close.ensures.state c.zip.ensures

pub loop-one-preserved : goal.loop-one-preserved
loop-one-preserved g c =
    elses_more c.args.others.now c.loop-one.one-index c.one-item.result c.in-Some.head (fixed c.args.around.now) (fixed c.loop-one.within) c.in_scope-within.result c.args.found.now c.loop-one.found _
    c.loop-one.branches c.in_ok-branches.branches c.loop-one.opened c.open.new.self c.in-Ok-branch_row.branch c.loop-one-test.true c.one-item.is c.in-Some.is
    c.in_scope-within.ensures c.loop-one.invariant c.in-Ok-branch_row.ensures c.open.ensures c.in_ok-branches.ensures

pub returns : goal.returns
returns g c =
    elses_none c.args.others.now c.loop-one.one-index (fixed c.args.around.now) (fixed c.loop-one.within) c.args.found.now c.loop-one.found _
    c.loop-one.branches c.loop-one.opened c.empty-last.result c.zip-2.result c.loop-one-test.false c.loop-one.invariant
    (c.empty-last.ensures ∙ ap (λ (made : Made). empty_block c.loop-one.found.state made) c.new-2.ensures)
    c.close-2.ensures.faults c.close-2.ensures.state c.zip-2.ensures
