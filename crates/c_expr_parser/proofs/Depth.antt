-- Where no bracket may be opened.
-- Nothing is read inside one then: the grammar stops at the token that would open it.
use Rattle.std.specs.Prelude.{◌≡◌, Err, refl}
use Rattle.c_grammar.specs.Input.{State, Nest}
use Rattle.c_grammar.specs.Read.Depth.{inside}
use Rattle.c_expr_parser.specs.declared.wanted.Wanted.{Wanted}
use Rattle.c_expr_parser.specs.declared.wanted.Wanted.TheVariants as wanted
use Rattle.c_expr_parser.specs.Wanted.{read}

pub no_deeper : (w : Wanted) (i : State) → read (inside 0) w i ≡ Err (Nest, i.1)
unfolding inside
no_deeper (wanted.Expression within) i = refl
no_deeper (wanted.Specifiers with_storage) i = refl
no_deeper (wanted.Declarator purpose typed) i = refl
