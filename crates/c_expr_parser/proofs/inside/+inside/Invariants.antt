-- The measure of `inside`: the brackets that may still be opened.
-- Each call hands on one fewer.
use Rattle.c_expr_parser.proofs.inside.+inside.Given as goal

abbrev pub decreases-inside : goal.decreases-inside
decreases-inside l = l.more
