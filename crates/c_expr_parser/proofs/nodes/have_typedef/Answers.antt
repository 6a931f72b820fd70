-- `have_typedef` looks through the list from its front.
-- It answers at the first word `typedef`, or goes on where a specifier is none.
use Rattle.std.proofs.Common.{◌≡◌, true, false, refl}
use Rattle.c_grammar.specs.Read.Nodes as spec
use Rattle.c_expr_parser.proofs.Lists.{found_at, not_at}
use Rattle.c_expr_parser.proofs.nodes.have_typedef.Goals as goal

pub returns-then-is_typedef_word : goal.returns-then-is_typedef_word
returns-then-is_typedef_word c =
    let holds : spec.is_typedef_word c.specifier-item.result ≡ true = cc in
    found_at spec.have_typedef spec.is_typedef_word (λ x xs. refl) c.args.specifiers.now c.loop-specifier.specifier-index c.specifier-item.result c.loop-specifier-test.true c.specifier-item.is c.loop-specifier.invariant holds

pub loop-specifier-preserved : goal.loop-specifier-preserved
loop-specifier-preserved c =
    let fails : spec.is_typedef_word c.specifier-item.result ≡ false = cc in
    not_at spec.have_typedef spec.is_typedef_word (λ x xs. refl) c.args.specifiers.now c.loop-specifier.specifier-index c.specifier-item.result c.loop-specifier-test.true c.specifier-item.is c.loop-specifier.invariant fails
