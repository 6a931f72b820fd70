-- Scalars and strings in braces.
-- The answers of `fill` and `braced_string` cite these lemmas.
use Rattle.std.proofs.Common.{◌≡◌, ◌∙◌, refl, sym, ap, ℕ, true, false, eqb, List, [], ◌∷◌, length, get_or, map, Option, None, Result, Ok, Err, IfOk, Bor, arith, eqb-true}
use Rattle.std.proofs.lemmas.Bool.{eqb-false}
use Rattle.std.specs.Option.{option_copied, option_map}
use Rattle.word_ops.specs.declared.memory.Memory.{Memory}
use Rattle.c_tree.specs.declared.token.Pos.{Pos}
use Rattle.c_tree.specs.declared.expression.Expr.{Expr}
use Rattle.c_tree.specs.declared.typed.types.CType.{CType}
use Rattle.c_tree.specs.declared.declaration.Initialiser.TheVariants as initialiser
use Rattle.c_tree.specs.declared.declaration.InitialiserItem.{InitialiserItem, out-InitialiserItem}
use Rattle.c_typing.specs.declared.initialiser.Filled.{Filled}
use Rattle.c_typing.specs.Initialisers.{initialiser_typing, initialiser_item_typing, initialiser_typing-Expression, initialiser_typing-List, initialiser_item_typing-is}
use Rattle.c_typing.specs.OfInitialisers.{Initialising, scalar_list, braced_string}
use Rattle.c_typing.specs.Scopes.{Walk, ◌>>=◌}
use Rattle.c_typing.specs.Trees.{expr_typing}
use Rattle.c_type_walk.specs.declared.around.Around.{Around}
use Rattle.c_type_walk.specs.declared.found.Found.{Found}
use Rattle.c_type_walk.specs.Walks.{Gave, Walks, fixed}
use Rattle.c_type_initialisers.specs.Braced.{too_many, string_if_fits}
use Rattle.c_type_initialisers.proofs.Thens.{gave_as, walks_as, walks_then}
use Rattle.c_type_initialisers.proofs.Typed.{one_item}

-- ---- scalars

-- what the item of a list is walked as
abbrev filling : InitialiserItem → ℕ → CType → Walk Filled
filling item offset t = (initialiser_typing (out-InitialiserItem item).value).fill offset t

scalar_is_one : (list : Pos) (offset : ℕ) (t : CType) (items : List InitialiserItem) (only : InitialiserItem) → items ≡ only ∷ [] →
    scalar_list list offset t (map initialiser_item_typing items) ≡ filling only offset t
scalar_is_one list offset t items only e =
    ap (λ (is : List InitialiserItem). scalar_list list offset t (map initialiser_item_typing is)) e
    ∙ ap (λ (i : Initialising). i.fill offset t) (initialiser_item_typing-is only)

scalar_is_more : (list : Pos) (offset : ℕ) (t : CType) (items more : List InitialiserItem) (only next : InitialiserItem) → items ≡ only ∷ next ∷ more →
    scalar_list list offset t (map initialiser_item_typing items) ≡ (filling only offset t >>= too_many list)
scalar_is_more list offset t items more only next e =
    ap (λ (is : List InitialiserItem). scalar_list list offset t (map initialiser_item_typing is)) e
    ∙ ap (λ (i : Initialising). i.fill offset t >>= too_many list) (initialiser_item_typing-is only)

pub scalar_one : (list : Pos) (offset : ℕ) (t : CType) (items : List InitialiserItem) (only : InitialiserItem) (more : List InitialiserItem)
    (c : Around) (old new : Found) (o : Option Filled) → items ≡ only ∷ more → eqb (length more) 0 ≡ true →
    Gave ((initialiser_typing (out-InitialiserItem only).value).fill offset t (fixed c) old.state) old new o →
    Gave (scalar_list list offset t (map initialiser_item_typing items) (fixed c) old.state) old new o
scalar_one list offset t items only [] c old new o e n g =
    gave_as (scalar_list list offset t (map initialiser_item_typing items) (fixed c) old.state) (filling only offset t (fixed c) old.state) old new o
    (ap (λ (w : Walk Filled). w (fixed c) old.state) (scalar_is_one list offset t items only e)) g
scalar_one list offset t items only (x ∷ more) c old new o e n g = absurd (omega (arith, eqb-true (length (x ∷ more)) 0 n))

pub scalar_many : (list : Pos) (offset : ℕ) (t : CType) (items : List InitialiserItem) (only : InitialiserItem) (more : List InitialiserItem)
    (c : Around) (old mid new : Found) (o : Option Filled) (r : Result (Option Filled) Memory) → items ≡ only ∷ more → eqb (length more) 0 ≡ false →
    Gave ((initialiser_typing (out-InitialiserItem only).value).fill offset t (fixed c) old.state) old mid o →
    Walks (too_many list o) c mid r new →
    Walks (scalar_list list offset t (map initialiser_item_typing items)) c old r new
scalar_many list offset t items only [] c old mid new o r e n g h = absurd (eqb-false 0 0 n refl)
scalar_many list offset t items only (x ∷ more) c old mid new o r e n g h =
    walks_as (scalar_list list offset t (map initialiser_item_typing items)) (filling only offset t >>= too_many list) c old new r
    (ap (λ (w : Walk Filled). w (fixed c) old.state) (scalar_is_more list offset t items more only x e))
    (walks_then (filling only offset t) (too_many list) c old mid new o r g h)

-- ---- strings

braced_is : (t : CType) (items : List InitialiserItem) (only : InitialiserItem) → length items ≡ 1 → only ≡ get_or items 0 only →
    braced_string t (map initialiser_item_typing items) ≡ braced_string t (initialiser_typing (out-InitialiserItem only).value ∷ [])
braced_is t items only l e =
    ap (λ (is : List InitialiserItem). braced_string t (map initialiser_item_typing is)) (one_item items only l e)
    ∙ ap (λ (i : Initialising). braced_string t (i ∷ [])) (initialiser_item_typing-is only)

pub braced_list : (t : CType) (items its : List InitialiserItem) (only : InitialiserItem) (from : Pos) (comma : Option Pos) (to : Pos) →
    length items ≡ 1 → only ≡ get_or items 0 only → (out-InitialiserItem only).value ≡ initialiser.List from its comma to →
    None ≡ braced_string t (map initialiser_item_typing items)
braced_list t items its only from comma to l e v =
    sym (braced_is t items only l e
    ∙ ap (λ (i : Initialising). braced_string t (i ∷ [])) (ap initialiser_typing v ∙ initialiser_typing-List from its comma to))

braced_as : (t : CType) (items : List InitialiserItem) (only : InitialiserItem) (x : Expr) →
    length items ≡ 1 → only ≡ get_or items 0 only → (out-InitialiserItem only).value ≡ initialiser.Expression x →
    braced_string t (map initialiser_item_typing items) ≡ string_if_fits t (expr_typing x)
braced_as t items only x l e v =
    braced_is t items only l e
    ∙ ap (λ (i : Initialising). braced_string t (i ∷ [])) (ap initialiser_typing v ∙ initialiser_typing-Expression x)

pub braced_expression : (r : Result (Option (Bor Expr)) Memory) (t : CType) (items : List InitialiserItem) (only : InitialiserItem) (x : Expr) →
    length items ≡ 1 → only ≡ get_or items 0 only → (out-InitialiserItem only).value ≡ initialiser.Expression x →
    IfOk r (λ o. option_map expr_typing (option_copied o) ≡ string_if_fits t (expr_typing x)) →
    IfOk r (λ o. option_map expr_typing (option_copied o) ≡ braced_string t (map initialiser_item_typing items))
braced_expression (Ok o) t items only x l e v h = h ∙ sym (braced_as t items only x l e v)
braced_expression (Err m) t items only x l e v h = tt
