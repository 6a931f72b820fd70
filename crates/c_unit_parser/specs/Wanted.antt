-- What is read that is nested by one more, by what is wanted there.
-- It says of the function value, in one parser, what the productions of the grammar say apart.
use Rattle.std.specs.Prelude.{ℕ}
use Rattle.c_grammar.specs.Input.{Parser, ◌>>=◌, pure}
use Rattle.c_unit_grammar.specs.Read.Initialisers.{inside_initialiser}
use Rattle.c_unit_grammar.specs.Read.Declarations.{inside_declaration}
use Rattle.c_unit_grammar.specs.Read.Statements.{within}
use Rattle.c_unit_parser.specs.declared.wanted.Wanted.{Wanted}
use Rattle.c_unit_parser.specs.declared.wanted.Wanted.TheVariants as wanted
use Rattle.c_unit_parser.specs.declared.wanted.Found.{Found}
use Rattle.c_unit_parser.specs.declared.wanted.Found.TheVariants as found

abbrev pub read : ℕ → Wanted → Parser Found
read more wanted.Initialiser = inside_initialiser more >>= (λ x. pure (found.Initialiser x))
read more wanted.Declaration = inside_declaration more >>= (λ x. pure (found.Declaration x))
read more (wanted.Item labels) = (within more).item labels >>= (λ x. pure (found.Item x))
read more wanted.Body = (within more).body >>= (λ x. pure (found.Body x))
