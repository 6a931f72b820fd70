-- Written by tools/parser_loops.py.
-- What is left of the tokens gives what is left of the list, item by item.
use Rattle.c_grammar.specs.Read.Depth.{inside}
use Rattle.c_expr_parser.proofs.Turns.{TellingListing}
use Rattle.c_grammar.specs.Read.Specifiers as specifiers
use Rattle.c_expr_parser.proofs.grammar.Grammar.specifiers.Given as goal

abbrev pub invariant-loop-turn : goal.invariant-loop-turn
invariant-loop-turn g l = TellingListing (specifiers.goes_specifier l.self.more (inside l.self.more) l.with_storage) (specifiers.one_specifier l.self.more (inside l.self.more) l.with_storage) (specifiers.types l.self.more (inside l.self.more)) (specifiers.specifiers l.self.more (inside l.self.more) l.with_storage l.fn.input) l.fn.input l._turn-end l._turn l.typed l.found l.input
