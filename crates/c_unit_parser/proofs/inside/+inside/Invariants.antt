-- The measure of `inside`: what may still be nested.
-- Each call hands on one fewer.
use Rattle.c_unit_parser.proofs.inside.+inside.Given as goal

abbrev pub decreases-inside : goal.decreases-inside
decreases-inside l = l.more
