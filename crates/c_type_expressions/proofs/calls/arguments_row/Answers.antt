-- One argument more in the row of a call,
-- and the end of the arguments.
use Rattle.std.proofs.Common.{◌≡◌, ◌∙◌, sym, subst, List, [], ◌∷◌, Option}
use Rattle.std.proofs.lemmas.List.{nil_from_length}
use Rattle.c_tree.specs.declared.token.Pos.{Pos}
use Rattle.c_tree.specs.declared.typed.types.CType.{CType}
use Rattle.c_tree.specs.declared.typed.expression.TExpr.{TExpr}
use Rattle.c_typing.specs.declared.fault.Fault.{Fault}
use Rattle.c_typing.specs.declared.operand.Operand.{Operand}
use Rattle.c_typing.specs.Scopes.{Around, Said, asked}
use Rattle.c_typing.specs.Expressions.{Argument, given_row, arguments_row}
use Rattle.c_type_walk.specs.declared.found.Found.{Found}
use Rattle.c_type_walk.specs.Walks.{Gave, fixed}
use Rattle.c_type_expressions.specs.Calls.{both_given}
use Rattle.c_type_expressions.proofs.Arguments.{SoFar, so_far-next, so_far-end}
use Rattle.c_type_expressions.proofs.calls.arguments_row.Goals as goal

one_more : (c : Around) (p : Pos) (a : Option Operand) (items args : List Argument) (left ts : List CType) (t : CType) (whole : Said (List TExpr)) (before : List Fault) →
    (now new : Found) (given all : Option (List TExpr)) (one : Option TExpr) →
    items ≡ (p, a) ∷ args → left ≡ t ∷ ts → all ≡ both_given given one →
    SoFar whole before now given (arguments_row items left c now.state) →
    Gave (asked a (given_row p t) c now.state) now new one →
    SoFar whole before new all (arguments_row args ts c new.state)
one_more c p a items args left ts t whole before now new given all one e f g h w =
    subst (λ (o : Option (List TExpr)). SoFar whole before new o (arguments_row args ts c new.state)) (sym g)
    (so_far-next c p a args t ts whole before now new given one
    (subst (λ (l : List CType). SoFar whole before now given (arguments_row ((p, a) ∷ args) l c now.state)) f
    (subst (λ (l : List Argument). SoFar whole before now given (arguments_row l left c now.state)) e h))
    w)

no_more : (c : Around) (items : List Argument) (left : List CType) (whole : Said (List TExpr)) (old now : Found) (given : Option (List TExpr)) →
    items ≡ [] → SoFar whole old.faults now given (arguments_row items left c now.state) → Gave whole old now given
no_more c items left whole old now given e h =
    so_far-end whole old now given c (subst (λ (l : List Argument). SoFar whole old.faults now given (arguments_row l left c now.state)) e h)

pub loop-place-preserved : goal.loop-place-preserved
loop-place-preserved c = record {
  can_next = tt;
  is_finite = tt;
  so_far = one_more (fixed c.args.around.now) c.in-Some.place c.in-Some.argument c.loop-place.place-iterator.rest.items c.next.new.self.rest.items
      c.loop-place.left.now c.in-Some-split_first.behind.now c.in-Some-split_first.ctype.now _ c.args.found.now.faults c.loop-place.found c.argument_row.new.found
      c.loop-place.given c.in_ok-given.given c.in-Ok.value c.in-Some.ensures.steps.0 c.in-Some-split_first.ensures.cases.0 c.in_ok-given.ensures
      c.loop-place.invariant.so_far c.in-Ok.ensures;
}

pub returns : goal.returns
returns c =
    let items = c.loop-place.place-iterator.rest.items in
    let none = nil_from_length items (sym c.loop-place.place-iterator.rest.ok.0 ∙ c.in-None.ensures.steps.0) in
    no_more (fixed c.args.around.now) items c.loop-place.left.now _ c.args.found.now c.loop-place.found c.loop-place.given none c.loop-place.invariant.so_far
