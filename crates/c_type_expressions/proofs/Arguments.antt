-- Arguments that are given one after another
-- are given as the whole row is.
use Rattle.std.proofs.Common.{◌≡◌, ◌∙◌, refl, ap, sym, List, [], ◌∷◌, ◌++◌, append_assoc, Option, Some, None}
use Rattle.std.proofs.lemmas.List.{append-nil}
use Rattle.c_tree.specs.declared.token.Pos.{Pos}
use Rattle.c_tree.specs.declared.typed.types.CType.{CType}
use Rattle.c_tree.specs.declared.typed.expression.TExpr.{TExpr}
use Rattle.c_typing.specs.declared.fault.Fault.{Fault}
use Rattle.c_typing.specs.declared.scope.State.{State}
use Rattle.c_typing.specs.declared.operand.Operand.{Operand}
use Rattle.c_typing.specs.Scopes.{Around, Said, give, both_asked, asked}
use Rattle.c_typing.specs.Expressions.{Argument, given_row, arguments_row}
use Rattle.c_type_walk.specs.declared.found.Found.{Found}
use Rattle.c_type_walk.specs.Walks.{Gave}
use Rattle.c_type_expressions.specs.Calls.{both_given}

-- what is given so far, and what is given behind it
abbrev pub behind : Option (List TExpr) → Option (List TExpr) → Option (List TExpr)
behind (Some es) (Some fs) = Some (es ++ fs)
behind _ _ = None

-- what the whole row says is what was found so far, and what the row of the rest says
pub record SoFar (whole : Said (List TExpr)) (before : List Fault) (now : Found) (given : Option (List TExpr)) (rest : Said (List TExpr)) : Type 0 where
  pub is : whole.given ≡ behind given rest.given
  pub faults : before ++ whole.faults ≡ now.faults ++ rest.faults
  pub state : whole.state ≡ rest.state

abbrev in_front : Option TExpr → Option (List TExpr) → Option (List TExpr)
in_front (Some e) (Some es) = Some (e ∷ es)
in_front _ _ = None

put_in_front-given : (one : Option TExpr) (rest : Option (List TExpr)) (c : Around) (s : State) →
    (both_asked one rest (λ e es. give (e ∷ es)) c s).given ≡ in_front one rest
put_in_front-given (Some e) (Some es) c s = refl
put_in_front-given (Some e) None c s = refl
put_in_front-given None rest c s = refl

put_in_front-faults : (one : Option TExpr) (rest : Option (List TExpr)) (c : Around) (s : State) →
    (both_asked one rest (λ e es. give (e ∷ es)) c s).faults ≡ []
put_in_front-faults (Some e) (Some es) c s = refl
put_in_front-faults (Some e) None c s = refl
put_in_front-faults None rest c s = refl

put_in_front-state : (one : Option TExpr) (rest : Option (List TExpr)) (c : Around) (s : State) →
    (both_asked one rest (λ e es. give (e ∷ es)) c s).state ≡ s
put_in_front-state (Some e) (Some es) c s = refl
put_in_front-state (Some e) None c s = refl
put_in_front-state None rest c s = refl

behind-in_front : (given : Option (List TExpr)) (one : Option TExpr) (rest : Option (List TExpr)) →
    behind given (in_front one rest) ≡ behind (both_given given one) rest
behind-in_front (Some ds) (Some e) (Some es) = ap (λ (l : List TExpr). Some l) (sym (append_assoc ds (e ∷ []) es))
behind-in_front (Some ds) (Some e) None = refl
behind-in_front (Some ds) None rest = refl
behind-in_front None one rest = refl

-- one more argument
pub so_far-next : (c : Around) (p : Pos) (a : Option Operand) (args : List Argument) (t : CType) (ts : List CType) →
    (whole : Said (List TExpr)) (before : List Fault) (now new : Found) (given : Option (List TExpr)) (one : Option TExpr) →
    SoFar whole before now given (arguments_row ((p, a) ∷ args) (t ∷ ts) c now.state) →
    Gave (asked a (given_row p t) c now.state) now new one →
    SoFar whole before new (both_given given one) (arguments_row args ts c new.state)
so_far-next c p a args t ts whole before now new given one h g =
    let first = asked a (given_row p t) c now.state in
    let second = arguments_row args ts c first.state in
    let kept : arguments_row args ts c new.state ≡ second = ap (λ (s : State). arguments_row args ts c s) g.state in
    record {
      is = h.is ∙ ap (λ (o : Option (List TExpr)). behind given o) (put_in_front-given first.given second.given c second.state)
          ∙ behind-in_front given first.given second.given
          ∙ ap (λ (o : Option TExpr). behind (both_given given o) second.given) (sym g.is)
          ∙ ap (λ (said : Said (List TExpr)). behind (both_given given one) said.given) (sym kept);
      faults = h.faults
          ∙ ap (λ (l : List Fault). now.faults ++ (first.faults ++ (second.faults ++ l))) (put_in_front-faults first.given second.given c second.state)
          ∙ ap (λ (l : List Fault). now.faults ++ (first.faults ++ l)) (append-nil second.faults)
          ∙ sym (append_assoc now.faults first.faults second.faults)
          ∙ ap (λ (l : List Fault). l ++ second.faults) (sym g.faults)
          ∙ ap (λ (said : Said (List TExpr)). new.faults ++ said.faults) (sym kept);
      state = h.state ∙ put_in_front-state first.given second.given c second.state ∙ ap (λ (said : Said (List TExpr)). said.state) (sym kept);
    }

nothing_behind : (o : Option (List TExpr)) → behind o (Some []) ≡ o
nothing_behind (Some es) = ap (λ (l : List TExpr). Some l) (append-nil es)
nothing_behind None = refl

-- no more arguments, or no more parameters
pub so_far-end : (whole : Said (List TExpr)) (old now : Found) (given : Option (List TExpr)) (c : Around) →
    SoFar whole old.faults now given (give [] c now.state) → Gave whole old now given
so_far-end whole old now given c h = record {
  is = sym (nothing_behind given) ∙ sym h.is;
  faults = sym (append-nil now.faults) ∙ sym h.faults;
  state = sym h.state;
}
