-- Written by tools/parser_loops.py.
-- An item that is read or refused, and the end of the list, by the lemmas on turns.
use Rattle.std.proofs.Common.{rules, arith, refl}
use Rattle.std.proofs.lemmas.Grind.{common_steps}
use Rattle.c_expr_parser.proofs.Turns.{items_end, turns_end}
use Rattle.c_unit_parser.proofs.Turns.{item_read, item_refused}
use Rattle.c_unit_parser.specs.Parts as parts
use Rattle.c_unit_parser.proofs.grammar.Grammar.externals.Goals as goal

pub loop-turn-init : goal.loop-turn-init
unfolding parts.externals
loop-turn-init g c = first_of (search rules, grind (arith, common_steps))

pub returns-then-not-goes_external-clause-reads : goal.returns-then-not-goes_external-clause-reads
returns-then-not-goes_external-clause-reads g c = items_end c.loop-turn.invariant.so_far c.loop-turn-test.true (cc)

pub returns-in-loop-turn-clause-reads : goal.returns-in-loop-turn-clause-reads
returns-in-loop-turn-clause-reads g c = let e = item_refused c.loop-turn.invariant c.loop-turn-test.true (cc) c.in-Err-or_drop.ensures.reads in search (rules, e)

pub loop-turn-preserved : goal.loop-turn-preserved
loop-turn-preserved g c = item_read c.loop-turn.invariant c.loop-turn-test.true (cc) c.in-Ok-or_drop.ensures.reads c.in-Ok-or_drop.ensures.keeps c.in-Ok-or_drop.ensures.ends refl c.in_ok-found-2.ensures

pub returns-clause-reads : goal.returns-clause-reads
returns-clause-reads g c = turns_end c.loop-turn.invariant.so_far c.loop-turn-test.false
