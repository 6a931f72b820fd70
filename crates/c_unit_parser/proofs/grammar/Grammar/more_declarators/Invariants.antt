-- Written by tools/parser_loops.py.
-- What is left of the tokens gives what is left of the list, item by item.
use Rattle.c_grammar.specs.Input.{sees}
use Rattle.c_unit_parser.proofs.Turns.{Listing}
use Rattle.c_tree.specs.declared.token.Punct.TheVariants as p
use Rattle.c_unit_grammar.specs.Read.Declarations as declarations
use Rattle.c_unit_parser.specs.Parts as parts
use Rattle.c_unit_parser.proofs.grammar.Grammar.more_declarators.Given as goal

abbrev pub invariant-loop-turn : goal.invariant-loop-turn
invariant-loop-turn g l = Listing (sees p.Comma) (declarations.next_declarator l.self.more l.specifiers) (parts.more_declarators l.self.more l.specifiers l.fn.first l.fn.input.state) l.fn.input l._turn-end l._turn l.found l.input
