-- The parameters of a function, and its body.
-- The answers of `body_row` and `parameters_of` cite these lemmas.
use Rattle.std.proofs.Common.{◌≡◌, ◌∙◌, refl, ap, sym, subst, false, ℕ, List, [], ◌∷◌, ◌++◌, Option, Some, None, map}
use Rattle.c_tree.specs.declared.statement.Block.{Block, out-Block}
use Rattle.c_tree.specs.declared.statement.BlockItem.{BlockItem}
use Rattle.c_tree.specs.declared.typed.statement.TStmt.{TStmt}
use Rattle.c_tree.specs.declared.typed.statement.TStmt.TheVariants as t
use Rattle.c_tree.specs.declared.typed.statement.Objects.{Objects}
use Rattle.c_tree.specs.declared.typed.unit.Object.{Object}
use Rattle.c_tree.specs.declared.typed.types.CType.{CType}
use Rattle.c_typing.specs.declared.declarator.Part.{Part}
use Rattle.c_typing.specs.declared.declarator.Part.TheVariants.{Pointing, Arraying, SomeArray, Listing, SomeFunction}
use Rattle.c_typing.specs.declared.declarator.Parameter.{Parameter}
use Rattle.c_typing.specs.Scopes.{Walk, give, ◌>>=◌, asked, here}
use Rattle.c_typing.specs.Scopes as scopes
use Rattle.c_typing.specs.Declarations.{Made}
use Rattle.c_typing.specs.OfStatements.{Blocked}
use Rattle.c_typing.specs.Statements.{block_item_typing, block_typing, block_typing-is}
use Rattle.c_typing.specs.Units.{parameters_of, parameter_objects}
use Rattle.c_typing.specs.Units as spec
use Rattle.c_type_walk.specs.Walks.{Gave, fixed}
use Rattle.c_type_walk.specs.declared.around.Around.{Around}
use Rattle.c_type_walk.specs.declared.found.Found.{Found}
use Rattle.c_type_walk.proofs.Walked.{then, gives, asks_nothing}

-- the last derivation alone tells the parameters
pub parameters_last : (ds : List Part) (d : Part) → parameters_of (ds ++ d ∷ []) ≡ parameters_of (d ∷ [])
parameters_last [] d = refl
parameters_last (Pointing c ∷ ds) d = parameters_last ds d
parameters_last (Arraying n ∷ ds) d = parameters_last ds d
parameters_last (SomeArray ∷ ds) d = parameters_last ds d
parameters_last (SomeFunction ∷ ds) d = parameters_last ds d
parameters_last (Listing ps ∷ []) d = refl
parameters_last (Listing ps ∷ e ∷ ds) d = parameters_last (e ∷ ds) d

pub parameters_popped : (all rest : List Part) (d : Part) → all ≡ rest ++ d ∷ [] → parameters_of all ≡ parameters_of (d ∷ [])
parameters_popped all rest d e = ap parameters_of e ∙ parameters_last rest d

-- the body and the parameters, behind the items of the block
abbrev pub with_parameters : List Parameter → Objects × Made → Walk (TStmt × List Object)
with_parameters ps r = here (λ c s. give (t.Block r.0 r.1, parameter_objects s 0 ps))

-- the items of a block are those of its tree
pub block_items : (tree : Block) (items : List BlockItem) → items ≡ (out-Block tree).items → map block_item_typing items ≡ block_typing tree
block_items tree items e = ap (map block_item_typing) e ∙ sym (block_typing-is tree)

pub with_body : (ps : List Parameter) (items : Blocked) (c : scopes.Around) (within : Around) (old new : Found) (given : Option (Objects × Made))
    (r : Objects × Made) (objects : List Object) → fixed within ≡ c → given ≡ Some r → objects ≡ parameter_objects new.state 0 ps →
    Gave (spec.owned_row items (fixed within) old.state) old new given →
    Gave ((spec.owned_row items >>= λ r. asked r (with_parameters ps)) c old.state) old new (Some (t.Block r.0 r.1, objects))
with_body ps items c within old new given r objects e f h g =
    let P : scopes.Around → Type 0 = λ d. Gave (spec.owned_row items d old.state) old new given in
    let Q : Option (Objects × Made) → Type 0 = λ o. Gave (spec.owned_row items c old.state) old new o in
    let R : List Object → Type 0 = λ x. Gave ((spec.owned_row items >>= λ r. asked r (with_parameters ps)) c old.state) old new (Some (t.Block r.0 r.1, x)) in
    let all = parameter_objects new.state 0 ps in
    subst R (sym h) (then (spec.owned_row items) (λ r. asked r (with_parameters ps)) c old new new (Some r) (Some (t.Block r.0 r.1, all))
    (subst Q f (subst P e g)) (gives (t.Block r.0 r.1, all) c new))

pub without_body : (ps : List Parameter) (items : Blocked) (c : scopes.Around) (within : Around) (old new : Found) (given : Option (Objects × Made)) →
    fixed within ≡ c → given ≡ None → Gave (spec.owned_row items (fixed within) old.state) old new given →
    Gave ((spec.owned_row items >>= λ r. asked r (with_parameters ps)) c old.state) old new None
without_body ps items c within old new given e f g =
    let P : scopes.Around → Type 0 = λ d. Gave (spec.owned_row items d old.state) old new given in
    let Q : Option (Objects × Made) → Type 0 = λ o. Gave (spec.owned_row items c old.state) old new o in
    then (spec.owned_row items) (λ r. asked r (with_parameters ps)) c old new new None None (subst Q f (subst P e g)) (asks_nothing c new)
