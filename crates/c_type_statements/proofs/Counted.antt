-- How many automatic objects the items of a block declare.
-- The answer of `count_items` cites it.
use Rattle.std.proofs.Common.{◌≡◌, ◌∙◌, refl, ap, ℕ, ◌+◌, ◌<◌, List, ◌∷◌, get_or, length, drop, map, arith}
use Rattle.c_tree.specs.declared.statement.BlockItem.{BlockItem}
use Rattle.c_typing.specs.Declarations.{FunctionNames}
use Rattle.c_typing.specs.OfStatements.{Itemised, Counted, States, Cases, Defaults, count_items}
use Rattle.c_typing.specs.Statements.{block_item_typing}
use Rattle.c_type_declarations.proofs.InTurn.{first_left}
use Rattle.c_type_statements.specs.Statements.{counted_item}

count_one : (names : FunctionNames) (i : Itemised) (is : List Itemised) → count_items names (i ∷ is) ≡ (counted_item names i).0 + count_items (counted_item names i).1 is
count_one names (Counted counts made) is = refl
count_one names (States w) is = omega arith
count_one names (Cases at e) is = omega arith
count_one names (Defaults at) is = omega arith

-- one item further
pub counts_further : (f g : FunctionNames) (items : List BlockItem) (i : ℕ) (item : BlockItem) (count more total : ℕ) → i < length items → item ≡ get_or items i item →
    count + count_items f (map block_item_typing (drop i items)) ≡ total →
    more ≡ (counted_item f (block_item_typing item)).0 → g ≡ (counted_item f (block_item_typing item)).1 →
    (count + more) + count_items g (map block_item_typing (drop (i + 1) items)) ≡ total
counts_further f g items i item count more total h e k m n =
    let rest = map block_item_typing (drop (i + 1) items) in
    let one : count_items f (map block_item_typing (drop i items)) ≡ (counted_item f (block_item_typing item)).0 + count_items (counted_item f (block_item_typing item)).1 rest =
    ap (λ (l : List BlockItem). count_items f (map block_item_typing l)) (first_left items i item h e) ∙ count_one f (block_item_typing item) rest in
    let last : count_items g rest ≡ count_items (counted_item f (block_item_typing item)).1 rest = ap (λ (names : FunctionNames). count_items names rest) n in
    omega arith
