-- What is read inside brackets, by what is wanted there.
-- It says of the function value, in one parser, what the productions of the grammar say apart.
use Rattle.c_grammar.specs.Input.{Parser, ◌>>=◌, pure}
use Rattle.c_grammar.specs.Read.Inner.{Inner}
use Rattle.c_expr_parser.specs.declared.wanted.Wanted.{Wanted}
use Rattle.c_expr_parser.specs.declared.wanted.Wanted.TheVariants as wanted
use Rattle.c_expr_parser.specs.declared.wanted.Found.{Found}
use Rattle.c_expr_parser.specs.declared.wanted.Found.TheVariants as found
use Rattle.c_expr_parser.specs.Numbers.{within_number, use_of}

abbrev pub read : Inner → Wanted → Parser Found
read inner (wanted.Expression within) = inner.expr (within_number within) >>= (λ x. pure (found.Expression x))
read inner (wanted.Specifiers with_storage) = inner.specifiers with_storage >>= (λ x. pure (found.Specifiers x))
read inner (wanted.Declarator purpose typed) = inner.declarator (use_of purpose) typed >>= (λ x. pure (found.Declarator x))
