-- The cycle of `levels`, `level_rest` and `level_next`: each reads what its parser of levels reads.
-- The first climbs level by level, and the second reads the list of one level.
use Rattle.std.proofs.Common.{rules, arith, refl}
use Rattle.std.proofs.lemmas.Grind.{common_steps}
use Rattle.c_grammar.specs.Input.{loop}
use Rattle.c_grammar.specs.Read.Expressions as expressions
use Rattle.c_grammar.specs.Read.Depth.{inside}
use Rattle.c_expr_parser.specs.Parts as parts
use Rattle.c_expr_parser.proofs.Turns.{item_read, item_refused, items_end, turns_end}
use Rattle.c_expr_parser.proofs.Levels.{behind_cast, no_cast, level_read, level_refused, levels_end}
use Rattle.c_expr_parser.proofs.grammar.Grammar.+levels.Goals as goal

pub level_rest-loop-turn-init : goal.level_rest-loop-turn-init
unfolding parts.level_rest expressions.nexts loop
level_rest-loop-turn-init g t c = first_of (search rules, grind (arith, common_steps))

pub level_rest-returns-then-not-goes-clause-reads : goal.level_rest-returns-then-not-goes-clause-reads
level_rest-returns-then-not-goes-clause-reads g t c = items_end c.loop-turn.invariant c.loop-turn-test.true (cc)

pub level_rest-returns-in-Err-clause-reads : goal.level_rest-returns-in-Err-clause-reads
level_rest-returns-in-Err-clause-reads g t c = let e = item_refused c.loop-turn.invariant c.loop-turn-test.true (cc) c.in-Err.ensures.reads in search (rules, e)

pub level_rest-loop-turn-preserved : goal.level_rest-loop-turn-preserved
level_rest-loop-turn-preserved g t c = item_read c.loop-turn.invariant c.loop-turn-test.true (cc) c.in-Ok.ensures.reads c.in-Ok.ensures.keeps refl c.in_ok-found.ensures

pub level_rest-returns-clause-reads : goal.level_rest-returns-clause-reads
level_rest-returns-clause-reads g t c = turns_end c.loop-turn.invariant c.loop-turn-test.false

pub levels-loop-index-init : goal.levels-loop-index-init
levels-loop-index-init g t c =
    let e = behind_cast c.args.self.now.more (inside c.args.self.now.more) c.args.count c.args.input.now in
    first_of (search (rules, e), grind (arith, common_steps, e))

pub levels-returns-in_err-tree-clause-reads : goal.levels-returns-in_err-tree-clause-reads
levels-returns-in_err-tree-clause-reads g t c =
    let e = no_cast c.args.self.now.more (inside c.args.self.now.more) c.args.count c.args.input.now in
    first_of (search (rules, e), grind (arith, common_steps, e))

pub levels-returns-in-Err-clause-reads : goal.levels-returns-in-Err-clause-reads
levels-returns-in-Err-clause-reads g t c = let e = level_refused c.loop-index.invariant c.loop-index-test.true c.in-Err.ensures.reads in search (rules, e)

pub levels-loop-index-preserved : goal.levels-loop-index-preserved
levels-loop-index-preserved g t c = level_read c.loop-index.invariant c.loop-index-test.true c.in-Ok.ensures.reads c.in-Ok.ensures.keeps c.level_at.ensures c.in_ok-tree-2.ensures

pub levels-returns-clause-reads : goal.levels-returns-clause-reads
levels-returns-clause-reads g t c = levels_end c.loop-index.invariant c.loop-index-test.false

pub level_next-returns-in_err-operator-clause-keeps : goal.level_next-returns-in_err-operator-clause-keeps
level_next-returns-in_err-operator-clause-keeps g t c = λ mark names m. c.in_err-operator.ensures.keeps mark names m

pub level_next-returns-in_err-operand-clause-keeps : goal.level_next-returns-in_err-operand-clause-keeps
level_next-returns-in_err-operand-clause-keeps g t c = λ mark names m. c.in_err-operand.ensures.keeps mark names (c.in_ok-operator.ensures.keeps mark names m)

pub level_next-returns-clause-keeps : goal.level_next-returns-clause-keeps
level_next-returns-clause-keeps g t c = λ mark names m. c.in_ok-operand.ensures.keeps mark names (c.in_ok-operator.ensures.keeps mark names m)

pub level_rest-returns-then-not-goes-clause-keeps : goal.level_rest-returns-then-not-goes-clause-keeps
level_rest-returns-then-not-goes-clause-keeps g t c = λ mark names m. c.loop-turn.invariant.keeps mark names m

pub level_rest-returns-in-Err-clause-keeps : goal.level_rest-returns-in-Err-clause-keeps
level_rest-returns-in-Err-clause-keeps g t c = λ mark names m. c.in-Err.ensures.keeps mark names (c.loop-turn.invariant.keeps mark names m)

pub level_rest-returns-in_err-found-clause-keeps : goal.level_rest-returns-in_err-found-clause-keeps
level_rest-returns-in_err-found-clause-keeps g t c = λ mark names m. c.in-Ok.ensures.keeps mark names (c.loop-turn.invariant.keeps mark names m)

pub level_rest-returns-clause-keeps : goal.level_rest-returns-clause-keeps
level_rest-returns-clause-keeps g t c = λ mark names m. c.loop-turn.invariant.keeps mark names m

pub levels-returns-in_err-tree-clause-keeps : goal.levels-returns-in_err-tree-clause-keeps
levels-returns-in_err-tree-clause-keeps g t c = λ mark names m. c.in_err-tree.ensures.keeps mark names m

pub levels-returns-in-Err-clause-keeps : goal.levels-returns-in-Err-clause-keeps
levels-returns-in-Err-clause-keeps g t c = λ mark names m. c.in-Err.ensures.keeps mark names (c.loop-index.invariant.keeps mark names m)

pub levels-returns-in_err-tree-2-clause-keeps : goal.levels-returns-in_err-tree-2-clause-keeps
levels-returns-in_err-tree-2-clause-keeps g t c = λ mark names m. c.in-Ok.ensures.keeps mark names (c.loop-index.invariant.keeps mark names m)

pub levels-returns-clause-keeps : goal.levels-returns-clause-keeps
levels-returns-clause-keeps g t c = λ mark names m. c.loop-index.invariant.keeps mark names m
