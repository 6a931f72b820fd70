-- `basis` of src/specifying.rt: what the check leaves open of its proof.
-- What specifiers are as a whole (C11 6.7); whether they stand alone, without a declarator behind them, matters to a tag (C11 6.7.2.3p7).
use Rattle.std.proofs.Common.{◌+◌, ◌∙◌, ap, sym, subst, map, drop}
use Rattle.std.specs.Prelude.{None}
use Rattle.c_tree.specs.declared.token.Pos.{Pos}
use Rattle.c_type_walk.specs.Walks.{Walks}
use Rattle.c_typing.specs.Scopes.{◌>>=◌, asked}
use Rattle.c_typing.specs.Declarators.{specifiers_row, read_specifiers, basis_of, first_token}
use Rattle.c_typing.specs.Trees.{specifier_typing}
use Rattle.c_type_declarators.specs.Specifiers.{parts_of}
use Rattle.c_type_trees.proofs.After.{after, done, tail}
use Rattle.c_type_trees.proofs.Nodes.{gave_some, gave_none}
use Rattle.c_type_trees.proofs.Kept.{left_at, all_turned}
use Rattle.c_type_trees.proofs.Steps.{specifiers_stop}
use Rattle.c_type_trees.proofs.Rounds.{specifiers_round}
use Rattle.c_type_trees.proofs.walker.Walker.basis.Goals as goal

pub loop-one-init : goal.loop-one-init
loop-one-init g c =
    ap (λ p. after (read_specifiers c.args.alone p (map specifier_typing c.args.list.now) >>= λ r. asked r (basis_of (first_token (map specifier_typing c.args.list.now)))) c.args.around.now c.args.found.now) (sym c.new-parts.ensures)

pub returns-in_default : goal.returns-in_default
returns-in_default g c =
    done (specifiers_row c.args.alone (map specifier_typing c.args.list.now)) c.args.around.now _ _ None
    (c.loop-one.invariant
    ∙ ap (λ rest. after (read_specifiers c.args.alone (parts_of c.loop-one.parts) (map specifier_typing rest) >>= λ r. asked r (basis_of (first_token (map specifier_typing c.args.list.now)))) c.args.around.now c.loop-one.found) (left_at c.args.list.now c.loop-one.one-index c.one-item.result c.loop-one-test.true c.one-item.is)
    ∙ specifiers_stop c.args.alone (parts_of c.loop-one.parts) (specifier_typing c.one-item.result) (map specifier_typing (drop (c.loop-one.one-index + 1) c.args.list.now)) _ c.args.around.now _ _ (gave_none parts_of _ _ _ _ c.in_default.is c.in_ok-more.ensures))

pub loop-one-preserved : goal.loop-one-preserved
loop-one-preserved g c =
    specifiers_round c.args.alone c.args.list.now c.loop-one.one-index c.one-item.result (parts_of c.loop-one.parts) (parts_of c.in-Some.more) _ _ c.args.around.now _ _ c.loop-one-test.true c.one-item.is c.loop-one.invariant (gave_some parts_of _ _ _ _ _ c.in-Some.is c.in_ok-more.ensures)

pub returns : goal.returns
returns g c =
    tail (specifiers_row c.args.alone (map specifier_typing c.args.list.now)) (basis_of (first_token (map specifier_typing c.args.list.now)) (parts_of c.loop-one.parts)) c.args.around.now _ c.loop-one.found _ _
    (all_turned specifier_typing c.args.list.now c.loop-one.one-index (λ ss. read_specifiers c.args.alone (parts_of c.loop-one.parts) ss >>= λ r. asked r (basis_of (first_token (map specifier_typing c.args.list.now)))) _ c.args.around.now _ c.loop-one-test.false c.loop-one.invariant)
    (subst (λ (p : Pos). Walks (basis_of p (parts_of c.loop-one.parts)) c.args.around.now c.loop-one.found c.basis_of.result c.basis_of.new.found) c.first_specifier.ensures c.basis_of.ensures)
