-- Initialisers (C11 6.7.9): which part of an object each expression in braces initialises, where inner braces may be left out
-- (p17 to p23). What the expressions are is told apart from where they stand.
use Rattle.std.specs.Prelude.{ℕ, zero, suc, ◌+◌, ◌-◌, ◌*◌, ◌^◌, nat_lt, nat_le, Bool, false, ◌&&◌, ◌||◌, if◌then◌else◌, List, [], ◌∷◌, ◌++◌, Option, Some, None, length, slice_get, is_some, unwrap_or}
use Rattle.c_tree.specs.declared.token.Pos.{Pos}
use Rattle.c_tree.specs.declared.refusal.FaultKind.TheVariants as kind
use Rattle.c_tree.specs.declared.typed.types.Base.{Base}
use Rattle.c_tree.specs.declared.typed.types.Base.TheVariants as base
use Rattle.c_tree.specs.declared.typed.types.CType.{CType}
use Rattle.c_tree.specs.declared.declaration.Initialiser.TheOpen.{Initialiser-F, InitialiserItem-F}
use Rattle.c_layout.specs.declared.tags.MemberLayout.{MemberLayout}
use Rattle.c_layout.specs.Tags.{Structs, layout_of}
use Rattle.c_layout.specs.Sizes.{capped, size_of}
use Rattle.c_typing.specs.Faults.{fault}
use Rattle.c_typing.specs.Types.{in_word, Shape, Basic, ArrayOf, shape, is_struct, is_scalar, is_character}
use Rattle.c_typing.specs.Scopes.{Walk, give, ◌>>=◌, asked, beside, here}
use Rattle.c_typing.specs.Operands.{Operand}
use Rattle.c_typing.specs.Declarators.{Expressed}
pub use Rattle.c_typing.specs.declared.initialiser.Leaf.{Leaf}
pub use Rattle.c_typing.specs.declared.initialiser.Leaf.TheVariants.{Given, Text, Unfit, Wrong}
pub use Rattle.c_typing.specs.declared.initialiser.Filled.{Filled}
pub use Rattle.c_typing.specs.declared.initialiser.Frame.{Frame}
pub use Rattle.c_typing.specs.declared.initialiser.Piece.{Piece}
use Rattle.c_typing.specs.Trees.{expr_typing}

-- an initialiser: its first token, the expression that it is where it has no braces, and how it fills an object of a type, so many
-- bytes from the start of the whole
pub record Initialising : Type 0 where
  pub first : Pos
  pub single : Option Expressed
  pub fill : (offset : ℕ) → CType → Walk Filled

abbrev pub filled : List Leaf → Walk Filled
filled ls = give (record { leaves = ls; count = 1 })

abbrev pub wrong_at : Pos → Walk Filled
wrong_at at = beside (fault kind.Mismatch at ∷ []) (filled (Wrong ∷ []))

abbrev pub unfit_at : Pos → Operand → Walk Filled
unfit_at at o = beside (fault kind.Mismatch at ∷ []) (filled (Unfit at o ∷ []))

-- ---- one expression

-- a string for an array of characters; the zero byte at its end may be left out (p14)
abbrev pub text_row : (offset : ℕ) → Pos → List ℕ → Option ℕ → Walk Filled
text_row offset at bytes None = give (record { leaves = Text offset bytes ∷ []; count = length bytes + 1 })
text_row offset at bytes (Some n) =
    if nat_le (length bytes) n then give (record { leaves = Text offset bytes ∷ []; count = n }) else wrong_at at

abbrev pub given_leaf : (offset : ℕ) → CType → Expressed → Walk Filled
given_leaf offset t e = e.typed >>= λ o. filled (Given offset t e.first o ∷ [])

-- an array takes a string alone without braces (p14, p16)
abbrev pub array_single : (offset : ℕ) → Expressed → Option (List ℕ) → Option ℕ → CType → Walk Filled
array_single offset e None n t = e.typed >>= λ o. asked' o
  where
    asked' : Option Operand → Walk Filled
    asked' (Some v) = unfit_at e.first v
    asked' None = filled (Wrong ∷ [])
array_single offset e (Some bytes) n t = if is_character t then text_row offset e.first bytes n else wrong_at e.first

abbrev pub single_by : (offset : ℕ) → Expressed → CType → Shape → Walk Filled
single_by offset e t (ArrayOf n u) = array_single offset e e.literal n u
single_by offset e t s = given_leaf offset t e

abbrev pub fill_single : Expressed → (offset : ℕ) → CType → Walk Filled
fill_single e offset t = single_by offset e t (shape t)

-- ---- where the items of a list go (p17, p20)

abbrev pub members_of : Structs → Base → List MemberLayout
members_of structs (base.Struct n) = elim (layout_of structs n) as (λ l. List MemberLayout) [ None ↦ [] | Some l ↦ l.members ]
members_of structs b = []

-- a part of an aggregate by its number: where it begins, and its type
abbrev pub member_part : (offset : ℕ) → Option MemberLayout → Option Piece
member_part offset None = None
member_part offset (Some m) = Some (record { offset = in_word (offset + m.offset); ctype = m.ctype })

abbrev pub element_part : Structs → (offset i : ℕ) → CType → Piece
element_part structs offset i t = record { offset = in_word (offset + i * unwrap_or (size_of structs t) 0); ctype = t }

abbrev pub part_by : Structs → Shape → (offset i : ℕ) → Option Piece
part_by structs (ArrayOf None t) offset i = Some (element_part structs offset i t)
part_by structs (ArrayOf (Some n) t) offset i = if nat_lt i n then Some (element_part structs offset i t) else None
part_by structs (Basic b) offset i = member_part offset (slice_get (members_of structs b) i)
part_by structs s offset i = None

abbrev pub next_part : Structs → Frame → Option Piece
next_part structs f = part_by structs (shape f.ctype) f.offset f.passed

-- no list has more items than 64 bits count
abbrev pub passing : Frame → Frame
passing f = record f { passed = capped (f.passed + 1) }

-- the next part of the innermost aggregate that has one left, and the aggregates that are open behind it
abbrev pub next_piece : Structs → List Frame → Option Piece × List Frame
next_piece structs [] = (None, [])
next_piece structs (f ∷ fs) =
    elim (next_part structs f) as (λ q. Option Piece × List Frame) [ None ↦ next_piece structs fs | Some q ↦ (Some q, passing f ∷ fs) ]

-- what an expression without braces initialises as a whole: a part of scalar type, an array of characters by a string, a structure
-- by a value of such a type (p13, p14)
abbrev pub is_struct_value : Option Operand → Bool
is_struct_value (Some o) = is_struct o.ctype
is_struct_value None = false

abbrev pub takes_text : Shape → Bool
takes_text (ArrayOf n t) = is_character t
takes_text s = false

abbrev pub string_fits : Shape → Option (List ℕ) → Bool
string_fits s literal = is_some literal && takes_text s

abbrev pub takes_whole : (is_string is_structure : Bool) → CType → Bool
takes_whole is_string is_structure t = is_scalar t || ((is_string && takes_text (shape t)) || (is_structure && is_struct t))

-- the aggregates around the part for an expression, and the part; as deep as types nest
abbrev pub descend_into : (List Frame → Piece → List Frame × Piece) → List Frame → Piece → Option Piece → List Frame × Piece
descend_into further fs q None = (fs, q)
descend_into further fs q (Some p) = further (record { ctype = q.ctype; offset = q.offset; passed = 1 } ∷ fs) p

unfoldable pub descend : (depth : ℕ) → Structs → (whole : CType → Bool) → List Frame → Piece → List Frame × Piece
descend zero structs whole fs q = (fs, q)
descend (suc depth) structs whole fs q =
    if whole q.ctype then (fs, q) else descend_into (descend depth structs whole) fs q (part_by structs (shape q.ctype) q.offset 0)

-- no type nests deeper than this
abbrev pub greatest_depth : ℕ
greatest_depth = 2 ^ 64 - 1

-- one expression in a list
abbrev pub leaf_at : Pos → Option (List ℕ) → Option Operand → Piece → Shape → Walk Filled
leaf_at first (Some bytes) o q (ArrayOf n u) = text_row q.offset first bytes n
leaf_at first literal o q s = filled (Given q.offset q.ctype first o ∷ [])

-- what was filled by an item, and the aggregates that are open behind it
pub record Placed : Type 0 where
  pub leaves : List Leaf
  pub around : List Frame

abbrev pub placed_by : List Frame → Walk Filled → Walk Placed
placed_by fs w = w >>= λ r. asked r (λ r. give (record { leaves = r.leaves; around = fs }))

abbrev pub placed_in : Pos → Option (List ℕ) → Option Operand → List Frame × Piece → Walk Placed
placed_in first literal o r = placed_by r.0 (leaf_at first literal o r.1 (shape r.1.ctype))

abbrev pub expression_placed : Pos → Option (List ℕ) → List Frame → Piece → Option Operand → Walk Placed
expression_placed first literal fs q o =
    here (λ c s. placed_in first literal o (descend greatest_depth s.structs (takes_whole (is_some literal) (is_struct_value o)) fs q))

-- a string that initialises an array makes no object of its own
abbrev pub is_string_for : Structs → Option (List ℕ) → Piece → Bool
is_string_for structs literal q =
    string_fits (shape (descend greatest_depth structs (takes_whole (is_some literal) false) [] q).1.ctype) literal

abbrev pub expression_item : Expressed → List Frame → Piece → Walk Placed
expression_item e fs q =
    here (λ c s. if is_string_for s.structs e.literal q then expression_placed e.first e.literal fs q None
    else (e.typed >>= expression_placed e.first e.literal fs q))

abbrev pub item_at : Initialising → Option Expressed → List Frame → Piece → Walk Placed
item_at i (Some e) fs q = expression_item e fs q
item_at i None fs q = placed_by fs (i.fill q.offset q.ctype)

-- where there is no part left for an item, the list has too many of them: the fault stands at its first token
abbrev pub item_if : (list : Pos) → Initialising → List Frame → Option Piece → Walk Placed
item_if list i fs (Some q) = item_at i i.single fs q
item_if list i fs None = placed_by fs (wrong_at list)

abbrev pub item_row : (list : Pos) → Initialising → List Frame → Walk Placed
item_row list i fs = here (λ c s. item_if list i (next_piece s.structs fs).1 (next_piece s.structs fs).0)

-- how many parts of the outermost aggregate were passed
abbrev pub passed_of : List Frame → ℕ
passed_of [] = 0
passed_of (f ∷ []) = f.passed
passed_of (f ∷ fs) = passed_of fs

abbrev pub items_row : (list : Pos) → List Initialising → List Frame → Walk Filled
items_row list [] fs = give (record { leaves = []; count = passed_of fs })
items_row list (i ∷ is) fs =
    item_row list i fs >>= λ a. asked a (λ a.
    items_row list is a.around >>= λ rest. asked rest (λ rest. give (record { leaves = a.leaves ++ rest.leaves; count = rest.count })))

-- ---- a list in braces

-- a scalar in braces has one item (p11)
abbrev pub scalar_list : (list : Pos) → (offset : ℕ) → CType → List Initialising → Walk Filled
scalar_list list offset t [] = filled (Wrong ∷ [])
scalar_list list offset t (i ∷ []) = i.fill offset t
scalar_list list offset t (i ∷ j ∷ is) =
    i.fill offset t >>= λ r. asked r (λ r. beside (fault kind.Mismatch list ∷ []) (filled (r.leaves ++ Wrong ∷ [])))

-- a string for an array of characters may stand in braces (p14)
abbrev pub braced_string : CType → List Initialising → Option Expressed
braced_string t (i ∷ []) = elim i.single as (λ e. Option Expressed) [ None ↦ None | Some e ↦ if string_fits (shape t) e.literal then Some e else None ]
braced_string t is = None

abbrev pub aggregate_list : (list : Pos) → (offset : ℕ) → CType → List Initialising → Option Expressed → Walk Filled
aggregate_list list offset t is (Some e) = fill_single e offset t
aggregate_list list offset t is None = items_row list is (record { ctype = t; offset = offset; passed = 0 } ∷ [])

abbrev pub fill_list : (list : Pos) → List Initialising → (offset : ℕ) → CType → Walk Filled
fill_list list is offset t =
    if is_scalar t then scalar_list list offset t is else aggregate_list list offset t is (braced_string t is)

-- ---- one node

abbrev pub by_expression : Expressed → Initialising
by_expression e = record { first = e.first; single = Some e; fill = fill_single e }

abbrev pub by_list : (list : Pos) → List Initialising → Initialising
by_list list is = record { first = list; single = None; fill = fill_list list is }

abbrev pub typed_initialiser : Initialiser-F Initialising Initialising → Initialising
typed_initialiser (Initialiser-F.Expression e) = by_expression (expr_typing e)
typed_initialiser (Initialiser-F.List from items comma to) = by_list from items

abbrev pub typed_initialiser_item : InitialiserItem-F Initialising Initialising → Initialising
typed_initialiser_item i = i.value
