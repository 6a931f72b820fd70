-- Where an item stands, and what it fills.
-- The answers of `fill` and `expression_item` cite these lemmas.
use Rattle.std.proofs.Common.{◌≡◌, ◌∙◌, sym, ap, subst, ℕ, Bool, false, List, Option, Some, None, Result, map}
use Rattle.std.specs.Prelude.{if◌then◌else◌}
use Rattle.std.specs.Option.{option_map}
use Rattle.word_ops.specs.declared.memory.Memory.{Memory}
use Rattle.c_tree.specs.declared.token.Pos.{Pos}
use Rattle.c_tree.specs.declared.expression.Expr.{Expr}
use Rattle.c_tree.specs.declared.declaration.Initialiser.{Initialiser}
use Rattle.c_tree.specs.declared.declaration.Initialiser.TheVariants as initialiser
use Rattle.c_tree.specs.declared.declaration.InitialiserItem.{InitialiserItem}
use Rattle.c_typing.specs.declared.initialiser.Filled.{Filled}
use Rattle.c_typing.specs.declared.initialiser.Frame.{Frame}
use Rattle.c_typing.specs.declared.initialiser.Leaf.{Leaf}
use Rattle.c_typing.specs.declared.initialiser.Piece.{Piece}
use Rattle.c_typing.specs.declared.operand.Operand.{Operand}
use Rattle.c_typing.specs.Declarators.{Expressed}
use Rattle.c_typing.specs.Initialisers.{initialiser_typing, initialiser_item_typing, initialiser_typing-Expression, initialiser_typing-List}
use Rattle.c_typing.specs.OfInitialisers.{Initialising, Placed, by_expression, by_list, placed_by, next_piece, item_row, item_if, fill_list, is_string_for, expression_item, expression_placed}
use Rattle.c_typing.specs.declared.scope.State.{State}
use Rattle.c_typing.specs.Scopes as scopes
use Rattle.c_typing.specs.Trees.{expr_typing}
use Rattle.c_type_walk.specs.declared.around.Around.{Around}
use Rattle.c_type_walk.specs.declared.found.Found.{Found}
use Rattle.c_type_walk.specs.Walks.{Gave, Walks, fixed}
use Rattle.c_type_initialisers.specs.Stacks.{stack, placed_if, placed}
use Rattle.c_type_initialisers.proofs.Thens.{gave_as, walks_as, walks_then, placed_gives}

-- ---- items

item_from : (list : Pos) (i : Initialising) (fs gs : List Frame) (p : Option Piece) (c : scopes.Around) (s : State) →
    p ≡ (next_piece s.structs fs).0 → gs ≡ (next_piece s.structs fs).1 → item_row list i fs c s ≡ item_if list i gs p c s
item_from list i fs gs p c s e o =
    ap (λ (p : Option Piece). item_if list i (next_piece s.structs fs).1 p c s) (sym e) ∙ ap (λ (gs : List Frame). item_if list i gs p c s) (sym o)

pub item_expression : (list : Pos) (item : Initialiser) (x : Expr) (fs mid frames : List Frame) (p : Option Piece) (q : Piece) (c : Around) (old new : Found) (r : Result (Option (List Leaf)) Memory) →
    p ≡ (next_piece old.state.structs fs).0 → stack mid ≡ (next_piece old.state.structs fs).1 → p ≡ Some q → item ≡ initialiser.Expression x →
    Walks (expression_item (expr_typing x) (stack mid) q) c old (placed r frames) new →
    Walks (item_row list (initialiser_typing item) fs) c old (placed r frames) new
item_expression list item x fs mid frames p q c old new r e a n is h =
    let typed : initialiser_typing item ≡ by_expression (expr_typing x) = ap initialiser_typing is ∙ initialiser_typing-Expression x in
    walks_as (item_row list (initialiser_typing item) fs) (expression_item (expr_typing x) (stack mid) q) c old new (placed r frames)
    (ap (λ (i : Initialising). item_row list i fs (fixed c) old.state) typed ∙ item_from list (by_expression (expr_typing x)) fs (stack mid) (Some q) (fixed c) old.state (sym n ∙ e) a) h

pub item_list : (list : Pos) (item : Initialiser) (from : Pos) (items : List InitialiserItem) (comma : Option Pos) (to : Pos) (fs frames : List Frame) (p : Option Piece) (q : Piece) (c : Around) (old new : Found) (o : Option Filled) (r : Option (List Leaf)) →
    p ≡ (next_piece old.state.structs fs).0 → stack frames ≡ (next_piece old.state.structs fs).1 → p ≡ Some q → item ≡ initialiser.List from items comma to →
    Gave (fill_list from (map initialiser_item_typing items) q.offset q.ctype (fixed c) old.state) old new o → r ≡ option_map (λ r. r.leaves) o →
    Gave (item_row list (initialiser_typing item) fs (fixed c) old.state) old new (placed_if r frames)
item_list list item from items comma to fs frames p q c old new o r e a n is g h =
    let its : List Initialising = map initialiser_item_typing items in
    let typed : initialiser_typing item ≡ by_list from its = ap initialiser_typing is ∙ initialiser_typing-List from items comma to in
    let P : Option (List Leaf) → Type 0 = λ r. Gave (item_row list (initialiser_typing item) fs (fixed c) old.state) old new (placed_if r frames) in
    subst P (sym h) (gave_as (item_row list (initialiser_typing item) fs (fixed c) old.state) (placed_by (stack frames) (fill_list from its q.offset q.ctype) (fixed c) old.state) old new (placed_if (option_map (λ r. r.leaves) o) frames)
    (ap (λ (i : Initialising). item_row list i fs (fixed c) old.state) typed ∙ item_from list (by_list from its) fs (stack frames) (Some q) (fixed c) old.state (sym n ∙ e) a)
    (placed_gives (fill_list from its q.offset q.ctype) frames c old new o g))

-- ---- expressions

pub value_item : (e : Expressed) (first : Pos) (literal : Option (List ℕ)) (fs : List Frame) (q : Piece) (c : Around) (old mid new : Found) (o : Option Operand)
    (r : Result (Option Placed) Memory) → first ≡ e.first → literal ≡ e.literal →
    is_string_for old.state.structs literal q ≡ false → Gave (e.typed (fixed c) old.state) old mid o →
    Walks (expression_placed first literal fs q o) c mid r new → Walks (expression_item e fs q) c old r new
value_item e first literal fs q c old mid new o r f l b g h =
    let no : is_string_for old.state.structs e.literal q ≡ false = ap (λ (l : Option (List ℕ)). is_string_for old.state.structs l q) (sym l) ∙ b in
    let same : expression_placed e.first e.literal fs q o (fixed c) mid.state ≡ expression_placed first literal fs q o (fixed c) mid.state =
    ap (λ (p : Pos). expression_placed p e.literal fs q o (fixed c) mid.state) (sym f) ∙ ap (λ (l : Option (List ℕ)). expression_placed first l fs q o (fixed c) mid.state) (sym l) in
    let placed_so : Walks (expression_placed e.first e.literal fs q o) c mid r new =
    walks_as (expression_placed e.first e.literal fs q o) (expression_placed first literal fs q o) c mid new r same h in
    walks_as (expression_item e fs q) (scopes.◌>>=◌ e.typed (expression_placed e.first e.literal fs q)) c old new r
    (ap (λ (b : Bool). (if b then expression_placed e.first e.literal fs q None else scopes.◌>>=◌ e.typed (expression_placed e.first e.literal fs q)) (fixed c) old.state) no)
    (walks_then e.typed (expression_placed e.first e.literal fs q) c old mid new o r g placed_so)
