-- The rows of initialisers fill an object with parts that are right, where they tell no fault.
use Rattle.std.specs.Prelude.{◌≡◌, ℕ, zero, suc, nat_le, Bool, true, false, ◌||◌, if◌then◌else◌, List, [], ◌∷◌, Option, Some, None, length, is_some, refl}
use Rattle.std.proofs.Common.{sym, ◌∙◌, subst}
use Rattle.std.specs.List.{AllByRecursion}
use Rattle.c_tree.specs.declared.token.Pos.{Pos}
use Rattle.c_tree.specs.declared.refusal.FaultKind.TheVariants as kind
use Rattle.c_tree.specs.declared.typed.types.CType.{CType}
use Rattle.c_layout.specs.Tags.{Structs}
use Rattle.c_typing.specs.declared.operand.Operand.{Operand}
use Rattle.c_typing.specs.declared.initialiser.Leaf.{Leaf}
use Rattle.c_typing.specs.declared.initialiser.Leaf.TheVariants.{Unfit, Given, Text, Wrong}
use Rattle.c_typing.specs.declared.initialiser.Filled.{Filled}
use Rattle.c_typing.specs.declared.initialiser.Frame.{Frame}
use Rattle.c_typing.specs.declared.initialiser.Piece.{Piece}
use Rattle.c_typing.specs.declared.scope.State.{State}
use Rattle.c_typing.specs.Faults.{fault}
use Rattle.c_typing.specs.Types.{Shape, Basic, PointerTo, ArrayOf, FunctionOf, shape, basic, is_integer_base, is_pointer_shape, is_scalar, is_character}
use Rattle.c_typing.specs.Scopes.{Around, Walk, ◌>>=◌}
use Rattle.c_typing.specs.Declarators.{Expressed}
use Rattle.c_typing.specs.OfInitialisers as typing
use Rattle.c_typing.specs.OfInitialisers.{Initialising, Placed, descend, greatest_depth}
use Rattle.c_typing_laws.specs.Scopes.{AreKnown, IfGiven, Answered, Answers, Any, gives, follows, chain, faulty, either, sees, weaker, all_append}
use Rattle.c_typing_laws.specs.Declarators.{Says}

-- ---- parts of an object

-- a part that is given, or a string
abbrev pub IsRight : Leaf → Type 0
IsRight (Given offset t first o) = IfGiven Any o
IsRight (Text offset bytes) = Unit {0}
IsRight (Unfit first o) = ⊥
IsRight Wrong = ⊥

-- the first part is an expression
abbrev pub BeginsGiven : List Leaf → Type 0
BeginsGiven (Given offset t first o ∷ ls) = Unit {0}
BeginsGiven ls = ⊥

abbrev pub AreRight : Filled → Type 0
AreRight f = AllByRecursion IsRight f.leaves

-- all parts are right, and a scalar gets an expression
pub record Fills (t : CType) (f : Filled) : Type 0 where
  pub leaves : AreRight f
  pub begins : is_scalar t ≡ true → BeginsGiven f.leaves

abbrev pub IfSingle : Option Expressed → Type 0
IfSingle None = Unit {0}
IfSingle (Some e) = Says e

pub record Initialises (i : Initialising) : Type 0 where
  pub fill : (offset : ℕ) (t : CType) → Answers (Fills t) (i.fill offset t)
  pub single : IfSingle i.single

array_not_scalar : (t : CType) (n : Option ℕ) (u : CType) → shape t ≡ ArrayOf n u → is_scalar t ≡ true → ⊥
array_not_scalar t n u e h =
    let h' : (basic is_integer_base (ArrayOf n u) || is_pointer_shape (ArrayOf n u)) ≡ true = subst (λ s. (basic is_integer_base s || is_pointer_shape s) ≡ true) e h in
    let h'' : false ≡ true = h' in absurd cc

-- ---- one expression

text_row : (offset : ℕ) (at : Pos) (bytes : List ℕ) (n : Option ℕ) → Answers AreRight (typing.text_row offset at bytes n)
text_row offset at bytes None = gives _ (tt, tt)
text_row offset at bytes (Some n) = either (nat_le (length bytes) n) (λ e. gives _ (tt, tt)) (λ e. faulty (fault kind.Mismatch at))

abbrev wrong_or : Expressed → Option Operand → Walk Filled
wrong_or e (Some v) = typing.unfit_at e.first v
wrong_or e None = typing.filled (Wrong ∷ [])

no_value : (e : Expressed) (o : Option Operand) → IfGiven Any o → Answers AreRight (wrong_or e o)
no_value e (Some v) h = faulty (fault kind.Mismatch e.first)
no_value e None h = absurd h

array_single : (offset : ℕ) (e : Expressed) (literal : Option (List ℕ)) (n : Option ℕ) (u : CType) → Says e → Answers AreRight (typing.array_single offset e literal n u)
array_single offset e None n u p = follows (wrong_or e) p (no_value e)
array_single offset e (Some bytes) n u p = either (is_character u) (λ h. text_row offset e.first bytes n) (λ h. faulty (fault kind.Mismatch e.first))

given_leaf : (offset : ℕ) (t : CType) (e : Expressed) → Says e → Answers (Fills t) (typing.given_leaf offset t e)
given_leaf offset t e p =
    follows (λ o. typing.filled (Given offset t e.first o ∷ [])) p (λ o g. gives _ (record { leaves = (g, tt); begins = λ h. tt }))

single_by : (offset : ℕ) (e : Expressed) (t : CType) (s : Shape) → shape t ≡ s → Says e → Answers (Fills t) (typing.single_by offset e t s)
single_by offset e t (ArrayOf n u) is p =
    weaker (λ f g. record { leaves = g; begins = λ h. absurd (array_not_scalar t n u is h) }) (array_single offset e e.literal n u p)
single_by offset e t (Basic b) is p = given_leaf offset t e p
single_by offset e t (PointerTo c u) is p = given_leaf offset t e p
single_by offset e t (FunctionOf ps u) is p = given_leaf offset t e p

pub fill_single : (e : Expressed) (offset : ℕ) (t : CType) → Says e → Answers (Fills t) (typing.fill_single e offset t)
fill_single e offset t p = single_by offset e t (shape t) refl p

-- ---- where the items of a list go

-- the part that is reached does not depend on the aggregates around it
abbrev goes_down : (List Frame → Piece → List Frame × Piece) → List Frame → Piece → Bool → Option Piece → List Frame × Piece
goes_down further fs q b o = if b then (fs, q) else typing.descend_into further fs q o

by_step : (further : List Frame → Piece → List Frame × Piece) → ((fs gs : List Frame) (q : Piece) → (further fs q).1 ≡ (further gs q).1)
    → (fs gs : List Frame) (q : Piece) (b : Bool) (o : Option Piece) → (goes_down further fs q b o).1 ≡ (goes_down further gs q b o).1
by_step further same fs gs q true o = refl
by_step further same fs gs q false None = refl
by_step further same fs gs q false (Some p) = same _ _ p

same_piece : (depth : ℕ) (structs : Structs) (whole : CType → Bool) (fs gs : List Frame) (q : Piece) → (descend depth structs whole fs q).1 ≡ (descend depth structs whole gs q).1
unfolding descend
same_piece zero structs whole fs gs q = refl
same_piece (suc depth) structs whole fs gs q =
    by_step (descend depth structs whole) (same_piece depth structs whole) fs gs q (whole q.ctype) (typing.part_by structs (shape q.ctype) q.offset 0)

-- what was filled by an item
abbrev PlacesRight : Placed → Type 0
PlacesRight r = AllByRecursion IsRight r.leaves

placed_by : (fs : List Frame) (w : Walk Filled) → Answers AreRight w → Answers PlacesRight (typing.placed_by fs w)
placed_by fs w p = chain p (λ r g. gives _ g)

leaf_given : (first : Pos) (literal : Option (List ℕ)) (o : Option Operand) (q : Piece) (s : Shape) → IfGiven Any o → Answers AreRight (typing.leaf_at first literal o q s)
leaf_given first (Some bytes) o q (ArrayOf n u) g = text_row q.offset first bytes n
leaf_given first (Some bytes) o q (Basic b) g = gives _ (g, tt)
leaf_given first (Some bytes) o q (PointerTo c u) g = gives _ (g, tt)
leaf_given first (Some bytes) o q (FunctionOf ps u) g = gives _ (g, tt)
leaf_given first None o q s g = gives _ (g, tt)

leaf_text : (first : Pos) (literal : Option (List ℕ)) (q : Piece) (s : Shape) → typing.string_fits s literal ≡ true → Answers AreRight (typing.leaf_at first literal None q s)
leaf_text first (Some bytes) q (ArrayOf n u) h = text_row q.offset first bytes n
leaf_text first (Some bytes) q (Basic b) h = absurd (let e : false ≡ true = h in cc)
leaf_text first (Some bytes) q (PointerTo c u) h = absurd (let e : false ≡ true = h in cc)
leaf_text first (Some bytes) q (FunctionOf ps u) h = absurd (let e : false ≡ true = h in cc)
leaf_text first None q s h = absurd (let e : false ≡ true = h in cc)

expression_placed : (first : Pos) (literal : Option (List ℕ)) (fs : List Frame) (q : Piece) (o : Option Operand) → IfGiven Any o
    → Answers PlacesRight (typing.expression_placed first literal fs q o)
expression_placed first literal fs q o g =
    sees (λ c s. typing.placed_in first literal o (descend greatest_depth s.structs (typing.takes_whole (is_some literal) (typing.is_struct_value o)) fs q))
    (λ c s k. let r = descend greatest_depth s.structs (typing.takes_whole (is_some literal) (typing.is_struct_value o)) fs q in
    placed_by r.0 (typing.leaf_at first literal o r.1 (shape r.1.ctype)) (leaf_given first literal o r.1 (shape r.1.ctype) g))

text_placed : (e : Expressed) (fs : List Frame) (q : Piece) (s : State) → typing.is_string_for s.structs e.literal q ≡ true
    → Answers PlacesRight (typing.placed_in e.first e.literal None (descend greatest_depth s.structs (typing.takes_whole (is_some e.literal) false) fs q))
text_placed e fs q s h =
    let whole = typing.takes_whole (is_some e.literal) false in
    let r = descend greatest_depth s.structs whole fs q in
    let fits : typing.string_fits (shape r.1.ctype) e.literal ≡ true =
    subst (λ (p : Piece). typing.string_fits (shape p.ctype) e.literal ≡ true) (same_piece greatest_depth s.structs whole [] fs q) h in
    placed_by r.0 (typing.leaf_at e.first e.literal None r.1 (shape r.1.ctype)) (leaf_text e.first e.literal r.1 (shape r.1.ctype) fits)

abbrev item_by : Expressed → List Frame → Piece → Bool → Walk Placed
item_by e fs q b = if b then typing.expression_placed e.first e.literal fs q None else (e.typed >>= typing.expression_placed e.first e.literal fs q)

-- what the string is for is asked in the state in which it is placed
by_string : (e : Expressed) (fs : List Frame) (q : Piece) → Says e → (c : Around) (s : State) (b : Bool) → typing.is_string_for s.structs e.literal q ≡ b
    → AreKnown s → (item_by e fs q b c s).faults ≡ [] → Answered PlacesRight (item_by e fs q b c s).given (item_by e fs q b c s).state
by_string e fs q p c s true is k h = (text_placed e fs q s is).run c s k h
by_string e fs q p c s false is k h =
    (follows (typing.expression_placed e.first e.literal fs q) p (expression_placed e.first e.literal fs q)).run c s k h

expression_item : (e : Expressed) (fs : List Frame) (q : Piece) → Says e → Answers PlacesRight (typing.expression_item e fs q)
expression_item e fs q p = record { run = λ c s k h. by_string e fs q p c s (typing.is_string_for s.structs e.literal q) refl k h }

item_at : (i : Initialising) (o : Option Expressed) (fs : List Frame) (q : Piece) → Initialises i → IfSingle o → Answers PlacesRight (typing.item_at i o fs q)
item_at i (Some e) fs q p h = expression_item e fs q h
item_at i None fs q p h = placed_by fs (i.fill q.offset q.ctype) (weaker (λ f g. g.leaves) (p.fill q.offset q.ctype))

item_if : (list : Pos) (i : Initialising) (fs : List Frame) (o : Option Piece) → Initialises i → Answers PlacesRight (typing.item_if list i fs o)
item_if list i fs (Some q) p = item_at i i.single fs q p p.single
item_if list i fs None p = placed_by fs (typing.wrong_at list) (faulty (fault kind.Mismatch list))

item_row : (list : Pos) (i : Initialising) (fs : List Frame) → Initialises i → Answers PlacesRight (typing.item_row list i fs)
item_row list i fs p =
    sees (λ c s. typing.item_if list i (typing.next_piece s.structs fs).1 (typing.next_piece s.structs fs).0)
    (λ c s k. item_if list i (typing.next_piece s.structs fs).1 (typing.next_piece s.structs fs).0 p)

items_row : (list : Pos) (is : List Initialising) (fs : List Frame) → AllByRecursion Initialises is → Answers AreRight (typing.items_row list is fs)
items_row list [] fs p = gives _ tt
items_row list (i ∷ is) fs p =
    chain (item_row list i fs p.0) (λ a g. chain (items_row list is a.around p.1) (λ rest k. gives _ (all_append IsRight a.leaves rest.leaves g k)))

-- ---- a list in braces

scalar_list : (list : Pos) (offset : ℕ) (t : CType) (i : Initialising) (is : List Initialising) → AllByRecursion Initialises (i ∷ is)
    → Answers (Fills t) (typing.scalar_list list offset t (i ∷ is))
scalar_list list offset t i [] p = p.0.fill offset t
scalar_list list offset t i (j ∷ is) p = chain (p.0.fill offset t) (λ r g. faulty (fault kind.Mismatch list))

braced : (t : CType) (is : List Initialising) → AllByRecursion Initialises is → IfSingle (typing.braced_string t is)
braced t [] p = tt
braced t (i ∷ []) p = by_single i.single p.0.single
  where
    by_test : (e : Expressed) (b : Bool) → Says e → IfSingle (if b then Some e else None)
    by_test e true h = h
    by_test e false h = tt

    by_single : (o : Option Expressed) → IfSingle o → IfSingle (elim o as (λ e. Option Expressed) [ None ↦ None | Some e ↦ if typing.string_fits (shape t) e.literal then Some e else None ])
    by_single None h = tt
    by_single (Some e) h = by_test e (typing.string_fits (shape t) e.literal) h
braced t (i ∷ j ∷ is) p = tt

aggregate_list : (list : Pos) (offset : ℕ) (t : CType) (is : List Initialising) (o : Option Expressed) → is_scalar t ≡ false → AllByRecursion Initialises is → IfSingle o
    → Answers (Fills t) (typing.aggregate_list list offset t is o)
aggregate_list list offset t is (Some e) n p h = fill_single e offset t h
aggregate_list list offset t is None n p h =
    weaker (λ f g. record { leaves = g; begins = λ k. absurd (let e : false ≡ true = sym n ∙ k in cc) }) (items_row list is (record { ctype = t; offset = offset; passed = 0 } ∷ []) p)

pub fill_list : (list : Pos) (i : Initialising) (is : List Initialising) (offset : ℕ) (t : CType) → AllByRecursion Initialises (i ∷ is)
    → Answers (Fills t) (typing.fill_list list (i ∷ is) offset t)
fill_list list i is offset t p =
    either (is_scalar t) (λ e. scalar_list list offset t i is p) (λ e. aggregate_list list offset t (i ∷ is) (typing.braced_string t (i ∷ is)) e p (braced t (i ∷ is) p))
