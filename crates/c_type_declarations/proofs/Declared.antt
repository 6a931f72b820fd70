-- A whole declaration.
-- The answer of `declaration_row` cites it.
use Rattle.std.proofs.Common.{◌≡◌, refl, subst, Bool, true, false, IsTrue, ◌↔◌, List, [], ◌∷◌, Option, Some, None, map}
use Rattle.c_tree.specs.declared.declaration.InitDeclarator.{InitDeclarator}
use Rattle.c_tree.specs.declared.declaration.Declaration.{Declaration}
use Rattle.c_typing.specs.Scopes.{give, ◌>>=◌, both_asked}
use Rattle.c_typing.specs.Scopes as scopes
use Rattle.c_typing.specs.declared.declarator.Basis.{Basis}
use Rattle.c_typing.specs.Declarators.{first_token, specifiers_row}
use Rattle.c_typing.specs.Trees.{specifier_typing}
use Rattle.c_typing.specs.Declarations as spec
use Rattle.c_type_walk.specs.Walks.{Gave}
use Rattle.c_type_walk.specs.declared.found.Found.{Found}
use Rattle.c_type_declarations.specs.Rows.{behind_any}
use Rattle.c_type_walk.proofs.Walked.{then, gives, asks_nothing}

pub stands_alone : (ds : List InitDeclarator) (b : Bool) → (IsTrue b ↔ (ds ≡ [])) → b ≡ spec.is_nil (map spec.beginning_of ds)
stands_alone [] true h = refl
stands_alone [] false h = h.1 refl
stands_alone (d ∷ ds) true h = let e : (d ∷ ds) ≡ [] = h.0 refl in cc
stands_alone (d ∷ ds) false h = refl

both_says : (b : Option Basis) (made : Option spec.Made) (c : scopes.Around) (now : Found) →
    Gave (both_asked b made (λ b made. give made) c now.state) now now (behind_any b made)
both_says (Some b) (Some made) c now = gives made c now
both_says (Some b) None c now = asks_nothing c now
both_says None (Some made) c now = asks_nothing c now
both_says None None c now = asks_nothing c now

pub declaration_says : (tree : Declaration) (alone : Bool) (c : scopes.Around) (old mid new : Found) (b : Option Basis) (made : Option spec.Made) →
    alone ≡ spec.is_nil (map spec.beginning_of tree.declarators) →
    Gave (specifiers_row alone (map specifier_typing tree.specifiers) c old.state) old mid b →
    Gave (spec.init_declarators_row (first_token (map specifier_typing tree.specifiers)) b (map spec.beginning_of tree.declarators) c mid.state) mid new made →
    Gave (spec.declaration_row (spec.declared_of tree) c old.state) old new (behind_any b made)
declaration_says tree alone c old mid new b made e g h =
    let P : Bool → Type 0 = λ x. Gave (specifiers_row x (map specifier_typing tree.specifiers) c old.state) old mid b in
    let ds = map spec.beginning_of tree.declarators in
    then (specifiers_row (spec.is_nil ds) (map specifier_typing tree.specifiers))
    (λ b. spec.init_declarators_row (first_token (map specifier_typing tree.specifiers)) b ds >>= λ made. both_asked b made (λ b made. give made))
    c old mid new b (behind_any b made) (subst P e g)
    (then (spec.init_declarators_row (first_token (map specifier_typing tree.specifiers)) b ds) (λ made. both_asked b made (λ b made. give made)) c mid new new made (behind_any b made) h
    (both_says b made c new))
