-- A definition, walked part after part.
-- The answers of `definition_row` and `defined_as` cite these lemmas.
use Rattle.std.proofs.Common.{◌≡◌, ◌∙◌, ap, sym, subst, ℕ, true, false, List, ◌++◌, Option, Some, None}
use Rattle.std.specs.Option.{option_map}
use Rattle.c_tree.specs.declared.token.Pos.{Pos}
use Rattle.c_tree.specs.declared.expression.Identifier.{Identifier}
use Rattle.c_tree.specs.declared.typed.statement.TStmt.{TStmt}
use Rattle.c_tree.specs.declared.typed.unit.Object.{Object}
use Rattle.c_tree.specs.declared.typed.unit.TFunction.{TFunction}
use Rattle.c_tree.specs.declared.typed.types.CType.{CType}
use Rattle.c_typing.specs.Types.{shape}
use Rattle.c_typing.specs.declared.fault.Fault.{Fault}
use Rattle.c_typing.specs.declared.scope.State.{State}
use Rattle.c_typing.specs.declared.declarator.Basis.{Basis}
use Rattle.c_typing.specs.declared.declarator.Part.{Part}
use Rattle.c_typing.specs.declared.declarator.Parameter.{Parameter}
use Rattle.c_typing.specs.Scopes.{Walk, give, ◌>>=◌, asked, change, in_definition}
use Rattle.c_typing.specs.Scopes as scopes
use Rattle.c_typing.specs.Declarators.{name_place, first_token, specifiers_row}
use Rattle.c_typing.specs.Declarations.{linked_faults}
use Rattle.c_typing.specs.OfStatements.{Blocked}
use Rattle.c_typing.specs.Units as spec
use Rattle.c_type_walk.specs.Walks.{Gave}
use Rattle.c_type_walk.specs.declared.found.Found.{Found}
use Rattle.c_type_walk.proofs.Walked.{then, tells, changes, gives, asks_nothing}
use Rattle.c_types.specs.Definitions as parts

-- ---- behind the header

made : (tokens : ℕ) (u : CType) (body : Option (TStmt × List Object)) (c : scopes.Around) (now : Found) →
    Gave (asked body (λ r. give (spec.function_made tokens u r)) c now.state) now now (option_map (spec.function_made tokens u) body)
made tokens u None c now = asks_nothing c now
made tokens u (Some r) c now = gives (spec.function_made tokens u r) c now

-- the block of a function of these parameters and this value, and its end
abbrev block_of : List Parameter → CType → Blocked → Walk (TStmt × List Object)
block_of ps u items = in_definition (spec.body_row ps u items)

walked : (d : spec.Defined) (id : Identifier) (h : List Part × CType) (c : scopes.Around) (old told begun after new : Found) (body : Option (TStmt × List Object)) →
    told.faults ≡ old.faults ++ linked_faults c old.state id true h.1 → told.state ≡ old.state → begun.faults ≡ told.faults →
    begun.state ≡ parts.begun_as id.text h.1 (spec.parameters_of h.0) told.state →
    Gave (block_of (spec.parameters_of h.0) (spec.result_of_shape (shape h.1)) d.body c begun.state) begun after body →
    new.faults ≡ after.faults → new.state ≡ spec.ended after.state →
    Gave (parts.defined_as d id h c old.state) old new (option_map (spec.function_made d.tokens (spec.result_of_shape (shape h.1))) body)
walked d id h c old told begun after new body e1 e2 e3 e4 g e5 e6 =
    let ps = spec.parameters_of h.0 in
    let u = spec.result_of_shape (shape h.1) in
    let fs : List Fault = linked_faults c old.state id true h.1 in
    let w : Walk (TStmt × List Object) = block_of ps u d.body in
    let f : Option (TStmt × List Object) → Walk TFunction = λ r. change spec.ended (asked r (λ r. give (spec.function_made d.tokens u r))) in
    let F : State → State = parts.begun_as id.text h.1 ps in
    let b = option_map (spec.function_made d.tokens u) body in
    tells fs (change F (w >>= f)) c old told new b e1 e2
    (changes F (w >>= f) c told begun new b e3 e4
    (then w f c begun after new body b g
    (changes spec.ended (asked body (λ r. give (spec.function_made d.tokens u r))) c after new new b e5 e6 (made d.tokens u body c new))))

pub defined : (d : spec.Defined) (id : Identifier) (h : List Part × CType) (tokens : ℕ) (u : CType) (ps qs : List Parameter)
    (c : scopes.Around) (old told begun after new : Found) (body : Option (TStmt × List Object)) (given : Option TFunction) →
    tokens ≡ d.tokens → u ≡ spec.result_of_shape (shape h.1) → ps ≡ spec.parameters_of h.0 → qs ≡ spec.parameters_of h.0 →
    told.faults ≡ old.faults ++ linked_faults c old.state id true h.1 → told.state ≡ old.state → begun.faults ≡ told.faults →
    begun.state ≡ parts.begun_as id.text h.1 ps told.state →
    Gave (block_of qs u d.body c begun.state) begun after body →
    new.faults ≡ after.faults → new.state ≡ spec.ended after.state →
    given ≡ option_map (spec.function_made tokens u) body →
    Gave (parts.defined_as d id h c old.state) old new given
defined d id h tokens u ps qs c old told begun after new body given et eu ep eq e1 e2 e3 e4 g e5 e6 em =
    let all = spec.parameters_of h.0 in
    let value = spec.result_of_shape (shape h.1) in
    let P0 : Option TFunction → Type 0 = λ o. Gave (parts.defined_as d id h c old.state) old new o in
    let P1 : List Parameter → Type 0 = λ x. Gave (block_of x u d.body c begun.state) begun after body in
    let P2 : CType → Type 0 = λ v. Gave (block_of all v d.body c begun.state) begun after body in
    let f3 : List Parameter → State = λ x. parts.begun_as id.text h.1 x told.state in
    let f4 : ℕ → Option TFunction = λ x. option_map (spec.function_made x u) body in
    let f5 : CType → Option TFunction = λ v. option_map (spec.function_made d.tokens v) body in
    subst P0 (sym (em ∙ ap f4 et ∙ ap f5 eu))
    (walked d id h c old told begun after new body e1 e2 e3 (e4 ∙ ap f3 ep) (subst P2 eu (subst P1 eq g)) e5 e6)

-- ---- a whole definition

in_order : (d : spec.Defined) (c : scopes.Around) (old first basis begun header new : Found) (b0 b1 : Option Basis)
    (h : Option (List Part × CType)) (made : Option TFunction) →
    Gave (specifiers_row false d.specifiers c old.state) old first b0 →
    Gave (asked b0 (spec.defining_basis (first_token d.specifiers)) c first.state) first basis b1 →
    begun.faults ≡ basis.faults → begun.state ≡ spec.unlisted basis.state →
    Gave (spec.header (name_place d.declaring.name (first_token d.specifiers)) b1 d.declaring c begun.state) begun header h →
    Gave (parts.behind_header d d.declaring.name h c header.state) header new made →
    Gave (spec.definition_row d c old.state) old new made
in_order d c old first basis begun header new b0 b1 h made g0 g1 ef es g2 g3 =
    let at = first_token d.specifiers in
    let w2 : Option Basis → Walk (List Part × CType) = λ b. spec.header (name_place d.declaring.name at) b d.declaring in
    let f2 : Option Basis → Walk TFunction = λ b. change spec.unlisted (w2 b) >>= parts.behind_header d d.declaring.name in
    let f1 : Option Basis → Walk TFunction = λ b. asked b (spec.defining_basis at) >>= f2 in
    then (specifiers_row false d.specifiers) f1 c old first new b0 made g0
    (then (asked b0 (spec.defining_basis at)) f2 c first basis new b1 made g1
    (then (change spec.unlisted (w2 b1)) (parts.behind_header d d.declaring.name) c basis header new h made
    (changes spec.unlisted (w2 b1) c basis begun header h ef es g2) g3))

-- a definition by its parts, each asked behind the one before it
pub whole : (d : spec.Defined) (c : scopes.Around) (old first basis begun header new : Found) (b0 b1 : Option Basis) (at place : Pos)
    (h : Option (List Part × CType)) (made : Option TFunction) →
    at ≡ first_token d.specifiers → place ≡ name_place d.declaring.name at →
    Gave (specifiers_row false d.specifiers c old.state) old first b0 →
    Gave (asked b0 (spec.defining_basis at) c first.state) first basis b1 →
    begun.faults ≡ basis.faults → begun.state ≡ spec.unlisted basis.state →
    Gave (spec.header place b1 d.declaring c begun.state) begun header h →
    Gave (parts.behind_header d d.declaring.name h c header.state) header new made →
    Gave (spec.definition_row d c old.state) old new made
whole d c old first basis begun header new b0 b1 at place h made ea ep g0 g1 ef es g2 g3 =
    let P1 : Pos → Type 0 = λ p. Gave (asked b0 (spec.defining_basis p) c first.state) first basis b1 in
    let P2 : Pos → Type 0 = λ p. Gave (spec.header p b1 d.declaring c begun.state) begun header h in
    in_order d c old first basis begun header new b0 b1 h made g0 (subst P1 ea g1) ef es
    (subst P2 (ep ∙ ap (name_place d.declaring.name) ea) g2) g3
