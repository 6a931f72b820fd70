-- The items of a list, as typed.
-- `Braced` and the answers of `fill` cite it.
use Rattle.std.proofs.Common.{◌≡◌, ◌∙◌, sym, ap, ℕ, suc, ◌+◌, ◌<◌, List, [], ◌∷◌, length, get_or, drop, map, drop-cons, add-one, arith}
use Rattle.c_tree.specs.declared.declaration.InitialiserItem.{InitialiserItem, out-InitialiserItem}
use Rattle.c_typing.specs.Initialisers.{initialiser_typing, initialiser_item_typing, initialiser_item_typing-is}
use Rattle.c_typing.specs.OfInitialisers.{Initialising}

-- the item at a place, and those behind it
pub next_typed : (items : List InitialiserItem) (n : ℕ) (item : InitialiserItem) → n < length items → item ≡ get_or items n item →
    map initialiser_item_typing (drop n items) ≡ initialiser_typing (out-InitialiserItem item).value ∷ map initialiser_item_typing (drop (n + 1) items)
next_typed items n item h e =
    rw add-one (ap (map initialiser_item_typing) (drop-cons items n item h)
    ∙ ap (λ (i : Initialising). i ∷ map initialiser_item_typing (drop (suc n) items)) (ap initialiser_item_typing (sym e) ∙ initialiser_item_typing-is item))

-- an item alone
pub one_item : (items : List InitialiserItem) (item : InitialiserItem) → length items ≡ 1 → item ≡ get_or items 0 item → items ≡ item ∷ []
one_item [] item l e = absurd (omega (arith, l))
one_item (x ∷ []) item l e = ap (λ (x : InitialiserItem). x ∷ []) (sym e)
one_item (x ∷ y ∷ ys) item l e = absurd (omega (arith, l))
