-- One item of a block and one `else` further.
-- The answers of `parts_row` and `others_row` cite these lemmas.
use Rattle.std.proofs.Common.{◌≡◌, ◌∙◌, refl, ap, sym, subst, ℕ, ◌+◌, ◌<◌, ◌≤◌, Bool, true, false, ◌&&◌, List, [], ◌∷◌, ◌++◌, Option, Some, None, drop, get_or, length, map}
use Rattle.std.proofs.lemmas.List.{append-nil, at_drop_all}
use Rattle.std.specs.Option.{option_zip}
use Rattle.c_tree.specs.declared.statement.BlockItem.{BlockItem}
use Rattle.c_tree.specs.declared.statement.Else.{Else, out-Else}
use Rattle.c_tree.specs.declared.statement.IfHead.{IfHead}
use Rattle.c_tree.specs.declared.typed.statement.TStmt.{TStmt}
use Rattle.c_tree.specs.declared.typed.statement.Branch.{Branch}
use Rattle.c_tree.specs.declared.typed.statement.Part.{Part}
use Rattle.c_typing.specs.Scopes.{Walk, ◌>>=◌, asked, scoped}
use Rattle.c_typing.specs.Scopes as scopes
use Rattle.c_typing.specs.OfStatements.{Elsed, condition_row, others_row, typed_else, Parting, part_if, part_row, parts_row}
use Rattle.c_typing.specs.Statements.{block_item_typing, stmt_typing, else_typing, else_typing-is}
use Rattle.c_typing.specs.Trees.{expr_typing}
use Rattle.c_type_walk.specs.Walks.{Gave}
use Rattle.c_type_walk.specs.declared.found.Found.{Found}
use Rattle.c_type_declarations.proofs.InTurn.{first_left}
use Rattle.c_type_walk.proofs.Walked.{gives, asks_nothing}
use Rattle.c_type_walk.specs.Walks.{fixed}
use Rattle.c_type_walk.specs.declared.around.Around.{Around}
use Rattle.c_type_statements.specs.Statements.{branch_row, closed_all, empty_block, opened_by, with_one}
use Rattle.c_type_statements.specs.declared.branches.Opened.{Opened}
use Rattle.c_type_statements.proofs.Left.{Left, behind, done}
use Rattle.c_type_statements.proofs.Elses.{ElsesLeft, before, within, alone, lone, in_scope, with_last, with_none, elses_ended, elses_further}

-- one item of a `switch` further
pub parts_further : (items : List BlockItem) (i : ℕ) (item : BlockItem) → i < length items → item ≡ get_or items i item →
    (all : Walk (List Part)) (c : scopes.Around) (old now new : Found) (p q : Parting) (good fine : Bool) →
    Left all (parts_row p good (map block_item_typing (drop i items))) c old now →
    Gave (part_row p (block_item_typing item) c now.state) now new (Some (q, fine)) →
    Left all (parts_row q (good && fine) (map block_item_typing (drop (i + 1) items))) c old new
parts_further items i item h e all c old now new p q good fine l g =
    let rest = map block_item_typing (drop (i + 1) items) in
    let next : Option (Parting × Bool) → Walk (List Part) = λ r. asked r (λ r. parts_row r.0 (good && r.1) rest) in
    let P : List BlockItem → Type 0 = λ left. Left all (parts_row p good (map block_item_typing left)) c old now in
    behind all (part_row p (block_item_typing item)) next c old now new (Some (q, fine)) (subst P (first_left items i item h e) l) g

-- no item is left
pub parts_ended : (items : List BlockItem) (i : ℕ) → length items ≤ i → (all : Walk (List Part)) (c : scopes.Around) (old now : Found) (p : Parting) (good : Bool) (made : List Part) →
    good ≡ true → made ≡ p.done ++ part_if p.labels p.body →
    Left all (parts_row p good (map block_item_typing (drop i items))) c old now → Gave (all c old.state) old now (Some made)
parts_ended items i h all c old now p good made k e l =
    let P : Walk (List Part) → Type 0 = λ w. Left all w c old now in
    let Q : List Part → Type 0 = λ ps. Gave (all c old.state) old now (Some ps) in
    let last = p.done ++ part_if p.labels p.body in
    let row : parts_row p good (map block_item_typing (drop i items)) ≡ parts_row p true [] =
    at_drop_all (λ (is : List BlockItem). parts_row p good (map block_item_typing is)) items i h ∙ ap (λ (b : Bool). parts_row p b []) k in
    subst Q (sym e) (done all (parts_row p true []) c old now now (Some last) (subst P row l) (gives last c now))

pub parts_faulty : (items : List BlockItem) (i : ℕ) → length items ≤ i → (all : Walk (List Part)) (c : scopes.Around) (old now : Found) (p : Parting) (good : Bool) →
    good ≡ false → Left all (parts_row p good (map block_item_typing (drop i items))) c old now → Gave (all c old.state) old now None
parts_faulty items i h all c old now p good k l =
    let P : Walk (List Part) → Type 0 = λ w. Left all w c old now in
    let row : parts_row p good (map block_item_typing (drop i items)) ≡ parts_row p false [] =
    at_drop_all (λ (is : List BlockItem). parts_row p good (map block_item_typing is)) items i h ∙ ap (λ (b : Bool). parts_row p b []) k in
    done all (parts_row p false []) c old now now None (subst P row l) (asks_nothing c now)

-- the first `else` that is left
one_left : (others : List Else) (i : ℕ) (one : Else) (head : Option IfHead) → i < length others → one ≡ get_or others i one → (out-Else one).head ≡ head →
    others_row (map else_typing (drop i others))
    ≡ others_row (typed_else (record { word = (out-Else one).word; head = head; body = stmt_typing (out-Else one).body }) ∷ map else_typing (drop (i + 1) others))
one_left others i one head h e k =
    ap (λ (l : List Else). others_row (map else_typing l)) (first_left others i one h e)
    ∙ ap (λ (x : Elsed). others_row (x ∷ map else_typing (drop (i + 1) others)))
    (else_typing-is one ∙ ap (λ (o : Option IfHead). typed_else (record { word = (out-Else one).word; head = o; body = stmt_typing (out-Else one).body })) k)

-- with a condition behind it
pub conditioned : (others : List Else) (i : ℕ) (one : Else) (head : IfHead) → i < length others → one ≡ get_or others i one → (out-Else one).head ≡ Some head →
    others_row (map else_typing (drop i others))
    ≡ within (condition_row head.word (expr_typing head.condition.value)) (stmt_typing (out-Else one).body) (others_row (map else_typing (drop (i + 1) others)))
conditioned others i one head h e k = one_left others i one (Some head) h e k

-- without one
pub unconditioned : (others : List Else) (i : ℕ) (one : Else) → i < length others → one ≡ get_or others i one → (out-Else one).head ≡ None →
    others_row (map else_typing (drop i others)) ≡ (scoped (stmt_typing (out-Else one).body) >>= lone)
unconditioned others i one h e k = one_left others i one None h e k

zipped : (bs : Option (List Branch)) (a : Option TStmt) → option_zip bs a ≡ before bs (alone a)
zipped None None = refl
zipped None (Some a) = refl
zipped (Some bs) None = refl
zipped (Some bs) (Some a) = ap (λ (l : List Branch). Some (l, a)) (sym (append-nil bs))

-- the last `else`, without a condition
pub elses_last : (others : List Else) (i : ℕ) (one : Else) (around inner : scopes.Around) (old now mid new : Found) (branches : Option (List Branch)) (opened : Opened)
    (last : Option TStmt) (given : Option (List Branch × TStmt)) → i < length others → one ≡ get_or others i one → (out-Else one).head ≡ None →
    ElsesLeft (others_row (map else_typing others)) around (others_row (map else_typing (drop i others))) inner old now branches opened →
    Gave (scoped (stmt_typing (out-Else one).body) inner now.state) now mid last →
    new.faults ≡ mid.faults → new.state ≡ closed_all opened mid.state → given ≡ option_zip branches last →
    Gave (others_row (map else_typing others) around old.state) old new given
elses_last others i one around inner old now mid new branches opened last given h e k l g f s z =
    let all = others_row (map else_typing others) in
    let body = stmt_typing (out-Else one).body in
    let P : Walk (List Branch × TStmt) → Type 0 = λ w. ElsesLeft all around w inner old now branches opened in
    let made = elses_ended all around inner (scoped body >>= lone) old now mid new branches opened (alone last)
    (subst P (unconditioned others i one h e k) l) (with_last body inner now mid last g) f s in
    record { is = z ∙ zipped branches last ∙ made.is; faults = made.faults; state = made.state }

-- no `else` without a condition
pub elses_none : (others : List Else) (i : ℕ) (around inner : scopes.Around) (old now new : Found) (branches : Option (List Branch)) (opened : Opened)
    (last : TStmt) (given : Option (List Branch × TStmt)) → length others ≤ i →
    ElsesLeft (others_row (map else_typing others)) around (others_row (map else_typing (drop i others))) inner old now branches opened →
    last ≡ empty_block now.state [] → new.faults ≡ now.faults → new.state ≡ closed_all opened now.state → given ≡ option_zip branches (Some last) →
    Gave (others_row (map else_typing others) around old.state) old new given
elses_none others i around inner old now new branches opened last given h l e f s z =
    let all = others_row (map else_typing others) in
    let empty = empty_block now.state [] in
    let P : Walk (List Branch × TStmt) → Type 0 = λ w. ElsesLeft all around w inner old now branches opened in
    let row : others_row (map else_typing (drop i others)) ≡ others_row [] = at_drop_all (λ (es : List Else). others_row (map else_typing es)) others i h in
    let made = elses_ended all around inner (others_row []) old now now new branches opened (Some ([], empty)) (subst P row l) (with_none inner now) f s in
    record {
      is = z ∙ ap (λ (a : TStmt). option_zip branches (Some a)) e ∙ zipped branches (Some empty) ∙ made.is;
      faults = made.faults;
      state = made.state;
    }

-- one `else` with a condition further
pub elses_more : (others : List Else) (i : ℕ) (one : Else) (head : IfHead) (around inner : scopes.Around) (deeper : Around) (old now new : Found)
    (branches more : Option (List Branch)) (opened wider : Opened) (given : Option Branch) → i < length others → one ≡ get_or others i one → (out-Else one).head ≡ Some head →
    fixed deeper ≡ in_scope inner now.state →
    ElsesLeft (others_row (map else_typing others)) around (others_row (map else_typing (drop i others))) inner old now branches opened →
    Gave (branch_row (condition_row head.word (expr_typing head.condition.value)) (stmt_typing (out-Else one).body) (fixed deeper) now.state) now new given →
    wider ≡ opened_by opened deeper.names_from deeper.tags_from → more ≡ with_one branches given →
    ElsesLeft (others_row (map else_typing others)) around (others_row (map else_typing (drop (i + 1) others))) (fixed deeper) old new more wider
elses_more others i one head around inner deeper old now new branches more opened wider given h e k w l g o m =
    let all = others_row (map else_typing others) in
    let rest = others_row (map else_typing (drop (i + 1) others)) in
    let condition = condition_row head.word (expr_typing head.condition.value) in
    let body = stmt_typing (out-Else one).body in
    let P : Walk (List Branch × TStmt) → Type 0 = λ v. ElsesLeft all around v inner old now branches opened in
    let Q : scopes.Around → Type 0 = λ c. Gave (branch_row condition body c now.state) now new given in
    let R : scopes.Around → Type 0 = λ c. ElsesLeft all around rest c old new (with_one branches given) (opened_by opened c.names_from c.tags_from) in
    let S : Opened → Type 0 = λ x. ElsesLeft all around rest (fixed deeper) old new (with_one branches given) x in
    let T : Option (List Branch) → Type 0 = λ x. ElsesLeft all around rest (fixed deeper) old new x wider in
    subst T (sym m) (subst S (sym o) (subst R (sym w) (elses_further all around inner condition body rest old now new branches given opened
    (subst P (conditioned others i one head h e k) l) (subst Q w g))))
