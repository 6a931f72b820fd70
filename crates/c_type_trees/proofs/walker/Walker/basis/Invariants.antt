-- `basis` of src/specifying.rt: what holds in its loop.
-- What specifiers are as a whole (C11 6.7); whether they stand alone, without a declarator behind them, matters to a tag (C11 6.7.2.3p7).
use Rattle.std.proofs.Common.{◌≡◌, drop, map}
use Rattle.c_typing.specs.Scopes.{◌>>=◌, asked}
use Rattle.c_typing.specs.Declarators.{specifiers_row, read_specifiers, basis_of, first_token}
use Rattle.c_typing.specs.Trees.{specifier_typing}
use Rattle.c_type_declarators.specs.Specifiers.{parts_of}
use Rattle.c_type_trees.proofs.After.{after}
use Rattle.c_type_trees.proofs.walker.Walker.basis.Given as goal

abbrev pub invariant-loop-one : goal.invariant-loop-one
invariant-loop-one g l =
    after (specifiers_row l.alone (map specifier_typing l.list)) l.around l.fn.found
    ≡ after (read_specifiers l.alone (parts_of l.parts) (map specifier_typing (drop l.one-index l.list)) >>= λ r. asked r (basis_of (first_token (map specifier_typing l.list)))) l.around l.found
