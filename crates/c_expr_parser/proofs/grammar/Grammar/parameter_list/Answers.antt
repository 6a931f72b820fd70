-- Written by tools/parser_loops.py.
-- An item that is read or refused, and the end of the list, by the lemmas on turns.
use Rattle.std.proofs.Common.{rules, arith, refl}
use Rattle.std.proofs.lemmas.Grind.{common_steps}
use Rattle.c_expr_parser.proofs.Turns.{item_read, item_refused, items_end, turns_end}
use Rattle.c_expr_parser.specs.Parts as parts
use Rattle.c_expr_parser.proofs.grammar.Grammar.parameter_list.Goals as goal

pub loop-turn-init : goal.loop-turn-init
unfolding parts.parameter_list
loop-turn-init g c = first_of (search rules, grind (arith, common_steps))

pub returns-then-not-sees-clause-reads : goal.returns-then-not-sees-clause-reads
returns-then-not-sees-clause-reads g c = items_end c.loop-turn.invariant c.loop-turn-test.true (cc)

pub returns-in-Err-clause-reads : goal.returns-in-Err-clause-reads
returns-in-Err-clause-reads g c = let e = item_refused c.loop-turn.invariant c.loop-turn-test.true (cc) c.in-Err.ensures.reads in search (rules, e)

pub loop-turn-preserved : goal.loop-turn-preserved
loop-turn-preserved g c = item_read c.loop-turn.invariant c.loop-turn-test.true (cc) c.in-Ok.ensures.reads c.in-Ok.ensures.keeps refl c.in_ok-found-2.ensures

pub returns-clause-reads : goal.returns-clause-reads
returns-clause-reads g c = turns_end c.loop-turn.invariant c.loop-turn-test.false

pub returns-in_err-first-clause-keeps : goal.returns-in_err-first-clause-keeps
returns-in_err-first-clause-keeps g c = λ mark names m. c.in_err-first.ensures.keeps mark names m

pub returns-in_err-found-clause-keeps : goal.returns-in_err-found-clause-keeps
returns-in_err-found-clause-keeps g c = λ mark names m. c.in_ok-first.ensures.keeps mark names m

pub returns-then-not-sees-clause-keeps : goal.returns-then-not-sees-clause-keeps
returns-then-not-sees-clause-keeps g c = λ mark names m. c.loop-turn.invariant.keeps mark names m

pub returns-in-Err-clause-keeps : goal.returns-in-Err-clause-keeps
returns-in-Err-clause-keeps g c = λ mark names m. c.in-Err.ensures.keeps mark names (c.loop-turn.invariant.keeps mark names m)

pub returns-in_err-found-2-clause-keeps : goal.returns-in_err-found-2-clause-keeps
returns-in_err-found-2-clause-keeps g c = λ mark names m. c.in-Ok.ensures.keeps mark names (c.loop-turn.invariant.keeps mark names m)

pub returns-clause-keeps : goal.returns-clause-keeps
returns-clause-keeps g c = λ mark names m. c.loop-turn.invariant.keeps mark names m
