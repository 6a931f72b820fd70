-- The row of `? :` where its operands go together
-- gives the chain with one more condition.
use Rattle.std.proofs.Common.{◌≡◌, ◌∙◌, ap, refl, sym, subst, false, ◌&&◌, Option, Some}
use Rattle.std.proofs.lemmas.List.{append-nil}
use Rattle.c_tree.specs.declared.token.Pos.{Pos}
use Rattle.c_tree.specs.declared.typed.types.CType.{CType}
use Rattle.c_typing.specs.Types.{is_pointer}
use Rattle.c_typing.specs.declared.operand.Operand.{Operand}
use Rattle.c_typing.specs.Operators.{chosen}
use Rattle.c_typing.specs.Scopes.{Around}
use Rattle.c_typing.specs.Expressions as spec
use Rattle.c_type_walk.specs.declared.found.Found.{Found}
use Rattle.c_type_walk.specs.Walks.{Gave, fixed}
use Rattle.c_type_expressions.specs.declared.chains.Chain.{Chain}
use Rattle.c_type_expressions.specs.Chains.{chain_of, gives_integer, longer}
use Rattle.c_type_expressions.proofs.Settled.{lengthened-settled}
use Rattle.c_type_expressions.proofs.chains.settled_row.Goals as goal

gave_longer : (at : Pos) (k g : Operand) (rest r : Chain) (t : CType) (c : Around) (found : Found) →
    (is_pointer g.ctype && gives_integer rest) ≡ false → chosen g (chain_of rest).whole ≡ Some t → r ≡ longer t (k, g) rest →
    Gave (spec.chosen_if at k g (chain_of rest) (chosen g (chain_of rest).whole) c found.state) found found (Some (chain_of r))
gave_longer at k g rest r t c found h e f =
    subst (λ (o : Option CType). Gave (spec.chosen_if at k g (chain_of rest) o c found.state) found found (Some (chain_of r))) (sym e)
    (record {
      is = ap (λ (x : Chain). Some (chain_of x)) f ∙ ap (λ (x : spec.Chain). Some x) (lengthened-settled t k g rest h e);
      faults = sym (append-nil found.faults);
      state = refl;
    })

pub returns : goal.returns
returns c =
    let e : chosen c.args.gives (chain_of c.args.rest).whole ≡ Some c.in-Some.ctype = sym c.in-Ok.ensures ∙ c.in-Some.is in
    gave_longer c.args.place c.args.condition c.args.gives c.args.rest _ c.in-Some.ctype (fixed c.args.around.now) c.args.found.now c.requires e c.in_ok-lengthened.ensures
