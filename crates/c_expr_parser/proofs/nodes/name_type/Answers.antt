-- `name_type` looks through the list from its front.
-- It answers at the first specifier that names a type, or goes on where one names none.
use Rattle.std.proofs.Common.{◌≡◌, true, false, refl}
use Rattle.c_grammar.specs.Read.Nodes as spec
use Rattle.c_expr_parser.proofs.Lists.{found_at, not_at}
use Rattle.c_expr_parser.proofs.nodes.name_type.Goals as goal

pub returns-then-is_type : goal.returns-then-is_type
returns-then-is_type c =
    let holds : spec.is_type c.specifier-item.result ≡ true = cc in
    found_at spec.name_type spec.is_type (λ x xs. refl) c.args.specifiers.now c.loop-specifier.specifier-index c.specifier-item.result c.loop-specifier-test.true c.specifier-item.is c.loop-specifier.invariant holds

pub loop-specifier-preserved : goal.loop-specifier-preserved
loop-specifier-preserved c =
    let fails : spec.is_type c.specifier-item.result ≡ false = cc in
    not_at spec.name_type spec.is_type (λ x xs. refl) c.args.specifiers.now c.loop-specifier.specifier-index c.specifier-item.result c.loop-specifier-test.true c.specifier-item.is c.loop-specifier.invariant fails
