-- In what the rows of statements give, jumps have what they leave, and the labels of each switch differ.
use Rattle.std.specs.Prelude.{◌≡◌, ℕ, ◌+◌, ◌==◌, Bool, true, false, ◌&&◌, not, if◌then◌else◌, List, [], ◌∷◌, ◌++◌, Option, Some, None, refl}
use Rattle.std.proofs.Common.{sym, subst}
use Rattle.std.specs.List.{AllByRecursion, list_any}
use Rattle.std.specs.Option.{option_map}
use Rattle.c_tree.specs.declared.token.Pos.{Pos}
use Rattle.c_tree.specs.declared.refusal.FaultKind.TheVariants as kind
use Rattle.c_tree.specs.declared.typed.expression.TExpr.{TExpr}
use Rattle.c_tree.specs.declared.typed.statement.TStmt.{TStmt}
use Rattle.c_tree.specs.declared.typed.statement.TStmt.TheVariants as t
use Rattle.c_tree.specs.declared.typed.statement.Branch.{Branch}
use Rattle.c_tree.specs.declared.typed.statement.Part.{Part}
use Rattle.c_tree.specs.declared.typed.statement.Label.TheVariants as label
use Rattle.c_tree.specs.declared.typed.statement.Objects.{Objects}
use Rattle.c_typing.specs.declared.scope.State.{State}
use Rattle.c_typing.specs.Scopes.{Around, unasked, beside, fault_if, Walk, give, tell, asked, both_asked, here, unless, scoped, ◌>>=◌}
use Rattle.c_typing.specs.Types.{is_void}
use Rattle.c_typing.specs.Declarators.{Expressed}
use Rattle.c_typing.specs.Declarators as parts
use Rattle.c_typing.specs.Declarations.{Made, Declared, automatic_count}
use Rattle.c_typing.specs.Declarations as declaring
use Rattle.c_typing.specs.OfStatements as typing
use Rattle.c_typing.specs.OfStatements.{Stated, Itemised, Counted, States, Cases, Defaults, Blocked, Elsed, Heading, First, Controlling, Parting, function_names, count_items, part_if}
use Rattle.typed_form.specs.Statements.{AreDifferent}
use Rattle.typed_form.specs.Lists.{all_labels}
use Rattle.c_unit_laws.specs.Walks.{IfAny, Does, Anything, anything, gives, silent, tells, follows, asks, both, chain, pair, besides, passes, sees, scopes}
use Rattle.c_unit_laws.specs.Placed.{Placed, AllPlaced, BranchesPlaced, PartPlaced, PartsPlaced, Parted, all_append, evaluate_placed, return_placed, break_placed, continue_placed, block_placed, if_placed, while_placed, do_placed, for_placed, switch_placed, branch_placed, part_placed, labels_at_end, parted_case, parted_default, parted_body}
use Rattle.c_unit_laws.specs.Declarations.{declaration_row}

-- ---- what the parts of a statement are

-- a statement is placed, wherever it stands
abbrev pub Stands : Stated → Type 0
Stands w = (b k : Bool) → Does (Placed b k) b k w

abbrev pub DoesItem : Itemised → Type 0
DoesItem (Counted counts made) = (b k : Bool) → Does (AllPlaced b k) b k made
DoesItem (States w) = Stands w
DoesItem (Cases at e) = Unit {0}
DoesItem (Defaults at) = Unit {0}

abbrev pub DoesElse : Elsed → Type 0
DoesElse e = Stands e.body

-- ---- blocks

-- the objects of a block stand beside what is given in it
beside_objects : {A : Type 0} (P : A → Type 0) (f : A → Objects) (o : Option A) → IfAny P o → IfAny (λ (r : Objects × A). P r.1) (option_map (λ (a : A). (f a, a)) o)
beside_objects P f (Some a) h = h
beside_objects P f None h = tt

pub owning : {A : Type 0} {P : A → Type 0} {b k : Bool} (count : ℕ) (w : Walk A) → Does P b k w → Does (λ (r : Objects × A). P r.1) b k (typing.owning count w)
owning {A} {P} {b} {k} count w p = record {
  run = λ c s e f.
      let said = w (record c { own_from = c.inner_from; inner_from = c.inner_from + count; numbers_from = s.declared }) (record s { declared = s.declared + count; own = [] }) in
      beside_objects P (λ a. record { first = s.declared; list = typing.objects_of said.state said.state.own }) said.given
      (p.run (record c { own_from = c.inner_from; inner_from = c.inner_from + count; numbers_from = s.declared }) (record s { declared = s.declared + count; own = [] }) e f);
}

with_objects : {A : Type 0} {P : A → Type 0} {b k : Bool} (count : ℕ) (w : Walk A) → Does P b k w → Does (λ (r : Objects × A). P r.1) b k (typing.with_objects count w)
with_objects count w p = scopes (owning count w p)

block_of : (b k : Bool) (r : Option (Objects × Made)) → IfAny (λ (r : Objects × Made). AllPlaced b k r.1) r → Does (Placed b k) b k (typing.block_of r)
block_of b k (Some r) h = gives (t.Block r.0 r.1) (block_placed b k r.0 r.1 h)
block_of b k None h = silent

item_row : (i : Itemised) → DoesItem i → (b k : Bool) → Does (AllPlaced b k) b k (typing.item_row i)
item_row (Counted counts made) p b k = p b k
item_row (States w) p b k = chain (p b k) (λ a g. gives (a ∷ []) (g, tt))
item_row (Cases at e) p b k = gives [] tt
item_row (Defaults at) p b k = gives [] tt

pub items_row : (is : List Itemised) → AllByRecursion DoesItem is → (b k : Bool) → Does (AllPlaced b k) b k (typing.items_row is)
items_row [] p b k = gives [] tt
items_row (i ∷ is) p b k = pair (item_row i p.0 b k) (items_row is p.1 b k) (λ a rest g h. gives (a ++ rest) (all_append (Placed b k) a rest g h))

pub block_row : (items : Blocked) → AllByRecursion DoesItem items → Stands (typing.block_row items)
block_row items p b k =
    sees (λ c s. typing.with_objects (count_items (function_names s) items) (typing.items_row items) >>= typing.block_of)
    (λ c s. follows typing.block_of (with_objects (count_items (function_names s) items) (typing.items_row items) (items_row items p b k)) (block_of b k))

pub empty : (b k : Bool) (made : Made) → AllPlaced b k made → Does (Placed b k) b k (typing.empty made)
empty b k made h = record { run = λ c s e f. block_placed b k (record { first = s.declared; list = [] }) made h }

-- ---- expressions in statements

pub evaluate_row : (e : Expressed) → Stands (typing.evaluate_row e)
evaluate_row e b k = chain (anything (typing.dropped_row e)) (λ v g. gives (t.Evaluate v) (evaluate_placed b k v))

-- ---- `if`

abbrev others : Type 0
others = List Branch × TStmt

-- the branches, and what is done where no condition holds
abbrev give_both : List Branch → TStmt → Walk others
give_both bs a = give (bs, a)

abbrev OthersPlaced : Bool → Bool → others → Type 0
OthersPlaced b k r = BranchesPlaced b k r.0 × Placed b k r.1

branch_made : (b k : Bool) (e : Option TExpr) (a : Option TStmt) (r : Option others) → IfAny (Placed b k) a → IfAny (OthersPlaced b k) r
    → Does (OthersPlaced b k) b k (both_asked e a (λ e a. asked r (λ (r : others). give_both (typing.branch e a ∷ r.0) r.1)))
branch_made b k (Some e) (Some a) (Some r) h l = gives (typing.branch e a ∷ r.0, r.1) ((branch_placed b k e a h, l.0), l.1)
branch_made b k (Some e) (Some a) None h l = silent
branch_made b k (Some e) None r h l = silent
branch_made b k None a r h l = silent

abbrev other : Option (Walk TExpr) → Stated → Walk others → Walk others
other None body rest = scoped body >>= λ a. asked a (λ a. give ([], a))
other (Some condition) body rest = scoped (
    condition >>= λ k. scoped body >>= λ a. rest >>= λ r. both_asked k a (λ k a. asked r (λ r. give_both (typing.branch k a ∷ r.0) r.1)))

other_row : (o : Option (Walk TExpr)) (body : Stated) (rest : Walk others) (b k : Bool) → Stands body → Does (OthersPlaced b k) b k rest → Does (OthersPlaced b k) b k (other o body rest)
other_row None body rest b k p q = chain (scopes (p b k)) (λ a g. gives ([], a) (tt, g))
other_row (Some condition) body rest b k p q = scopes
    (follows (λ x. scoped body >>= λ a. rest >>= λ r. both_asked x a (λ x a. asked r (λ r. give_both (typing.branch x a ∷ r.0) r.1))) (anything condition)
    (λ x g. follows (λ a. rest >>= λ r. both_asked x a (λ x a. asked r (λ r. give_both (typing.branch x a ∷ r.0) r.1))) (scopes (p b k))
    (λ a h. follows (λ r. both_asked x a (λ x a. asked r (λ r. give_both (typing.branch x a ∷ r.0) r.1))) q (λ r l. branch_made b k x a r h l))))

others_row : (es : List Elsed) → AllByRecursion DoesElse es → (b k : Bool) → Does (OthersPlaced b k) b k (typing.others_row es)
others_row [] p b k = chain {f = give_both []} (empty b k [] tt) (λ a g. gives ([], a) (tt, g))
others_row (e ∷ es) p b k = other_row e.condition e.body (typing.others_row es) b k p.0 (others_row es p.1 b k)

if_made : (b k : Bool) (e : Option TExpr) (a : Option TStmt) (r : Option others) → IfAny (Placed b k) a → IfAny (OthersPlaced b k) r
    → Does (Placed b k) b k (both_asked e a (λ e a. asked r (λ (r : others). give (t.If (typing.branch e a ∷ r.0) r.1))))
if_made b k (Some e) (Some a) (Some r) h l = gives (t.If (typing.branch e a ∷ r.0) r.1) (if_placed b k (typing.branch e a ∷ r.0) r.1 (branch_placed b k e a h, l.0) l.1)
if_made b k (Some e) (Some a) None h l = silent
if_made b k (Some e) None r h l = silent
if_made b k None a r h l = silent

pub if_row : (at : Pos) (e : Expressed) (body : Stated) (es : List Elsed) → Stands body → AllByRecursion DoesElse es → Stands (typing.if_row at e body es)
if_row at e body es q r b k = scopes
    (follows (λ x. scoped body >>= λ a. typing.others_row es >>= λ r. both_asked x a (λ x a. asked r (λ r. give (t.If (typing.branch x a ∷ r.0) r.1)))) (anything (typing.condition_row at e))
    (λ x g. follows (λ a. typing.others_row es >>= λ r. both_asked x a (λ x a. asked r (λ r. give (t.If (typing.branch x a ∷ r.0) r.1)))) (scopes (q b k))
    (λ a h. follows (λ r. both_asked x a (λ x a. asked r (λ r. give (t.If (typing.branch x a ∷ r.0) r.1)))) (others_row es r b k) (λ r l. if_made b k x a r h l))))

-- ---- loops

in_loop : (b k : Bool) (w : Stated) → Stands w → Does (Placed true true) b k (typing.in_loop w)
in_loop b k w p = record { run = λ c s e f. (p true true).run (record c { may_break = true; may_continue = true }) s refl refl }

pub while_row : (at : Pos) (e : Expressed) (body : Stated) → Stands body → Stands (typing.while_row at e body)
while_row at e body q b k = scopes (pair (anything (typing.condition_row at e)) (scopes (in_loop b k body q)) (λ x a g h. gives (t.While x a) (while_placed b k x a h)))

pub do_row : (at : Pos) (body : Stated) (e : Expressed) → Stands body → Stands (typing.do_row at body e)
do_row at body e q b k = scopes
    (follows (λ a. typing.condition_row at e >>= λ x. both_asked x a (λ x a. give (t.Do a x))) (scopes (in_loop b k body q))
    (λ a g. follows (λ x. both_asked x a (λ x a. give (t.Do a x))) (anything (typing.condition_row at e)) (λ x h. both x a h g (λ x a y z. gives (t.Do a x) (do_placed b k a x z)))))

for_made : (b k : Bool) (x e : Option (Option TExpr)) (a : Option TStmt) → IfAny (Placed true true) a → Does (Placed b k) b k (both_asked x e (λ x e. asked a (λ a. give (t.For x e a))))
for_made b k (Some x) (Some e) (Some a) l = gives (t.For x e a) (for_placed b k x e a l)
for_made b k (Some x) (Some e) None l = silent
for_made b k (Some x) None a l = silent
for_made b k None e a l = silent

loop_row : (at : Pos) (k : Controlling) (body : Stated) → Stands body → Stands (typing.loop_row at k body)
loop_row at control body q b k =
    follows (λ x. typing.if_any typing.dropped_row control.step >>= λ e. scoped (typing.in_loop body) >>= λ a. both_asked x e (λ x e. asked a (λ a. give (t.For x e a))))
    (anything (typing.if_any (typing.condition_row at) control.condition))
    (λ x g. follows (λ e. scoped (typing.in_loop body) >>= λ a. both_asked x e (λ x e. asked a (λ a. give (t.For x e a)))) (anything (typing.if_any typing.dropped_row control.step))
    (λ e h. follows (λ a. both_asked x e (λ x e. asked a (λ a. give (t.For x e a)))) (scopes (in_loop b k body q)) (λ a l. for_made b k x e a l)))

for_head : (b k : Bool) (e : Option TExpr) (a : TStmt) → Placed b k a → Does (Placed b k) b k (typing.for_head e a)
for_head b k None a h = gives a h
for_head b k (Some e) a h = empty b k (t.Evaluate e ∷ a ∷ []) (evaluate_placed b k e, (h, tt))

for_with : (at : Pos) (k : Controlling) (body : Stated) (head : Heading) → Stands body → Stands (typing.for_row at k body head)
for_with at control body (First e) q b k = scopes
    (pair (anything (typing.if_any typing.dropped_row e)) (loop_row at control body q b k) (λ e a g l. for_head b k e a l))
for_with at control body (typing.Declares d) q b k =
    sees (λ c s. typing.with_objects (automatic_count (function_names s) d).0 (
    declaring.declaration_row d >>= λ made. typing.loop_row at control body >>= λ a. both_asked made a (λ made a. give (made ++ a ∷ []))) >>= typing.block_of)
    (λ c s. follows typing.block_of (with_objects {P = AllPlaced b k} (automatic_count (function_names s) d).0 _
    (pair (declaration_row d b k) (loop_row at control body q b k) (λ made a g l. gives (made ++ a ∷ []) (all_append (Placed b k) made (a ∷ []) g (l, tt))))) (block_of b k))

pub for_row : (at : Pos) (k : Controlling) (body : Stated) → Stands body → Stands (typing.for_row at k body k.head)
for_row at control body q = for_with at control body control.head q

-- ---- `switch`

-- the parts so far, in the body of a switch
abbrev PartedPair : Bool → Parting × Bool → Type 0
PartedPair k q = Parted k q.0

case_if : (k : Bool) (at : Pos) (r : Parting) (n : ℕ × Bool) (old : Bool) → list_any (λ m. m == n.0) r.values ≡ old → Parted k r
    → Does (Parted k) true k (unless old kind.Redeclared at (give (record (typing.labelled (label.Case n.0) r) { values = r.values ++ n.0 ∷ [] })))
case_if k at r n true e p = tells kind.Redeclared at
case_if k at r n false e p = gives _ (parted_case k r n.0 p e)

case_row : (k : Bool) (at : Pos) (r : Parting) (n : ℕ × Bool) → Parted k r → Does (Parted k) true k (typing.case_row at r n)
case_row k at r n p = case_if k at r n (list_any (λ m. m == n.0) r.values) refl p

abbrev going : Parting → Option Parting → Walk (Parting × Bool)
going r None = give (r, false)
going r (Some q) = give (q, true)

goes : (k : Bool) (r : Parting) (o : Option Parting) → Parted k r → IfAny (Parted k) o → Does (PartedPair k) true k (going r o)
goes k r (Some q) p h = gives (q, true) h
goes k r None p h = gives (r, false) p

abbrev stating : Parting → Option Made → Walk (Parting × Bool)
stating r None = give (r, false)
stating r (Some made) = give (record r { body = r.body ++ made }, true)

states : (k : Bool) (r : Parting) (o : Option Made) → Parted k r → IfAny (AllPlaced true k) o → Does (PartedPair k) true k (stating r o)
states k r (Some made) p h = gives (record r { body = r.body ++ made }, true) (parted_body k r made p h)
states k r None p h = gives (r, false) p

default_if : (k : Bool) (at : Pos) (r : Parting) (old : Bool) → r.has_default ≡ old → Parted k r
    → Does (PartedPair k) true k (if old then (tell kind.Redeclared at >>= λ (u : Option (Unit {0})). going r None) else give (record (typing.labelled label.Default r) { has_default = true }, true))
default_if k at r true e p = record { run = λ c s x y. p }
default_if k at r false e p = gives (record (typing.labelled label.Default r) { has_default = true }, true) (parted_default k r p e)

part_row : (k : Bool) (r : Parting) (i : Itemised) → DoesItem i → Parted k r → Does (PartedPair k) true k (typing.part_row r i)
part_row k r (Cases at e) d p =
    follows (λ o. asked o (parts.constant_row e.first) >>= λ n. asked n (typing.case_row at r) >>= going r) (anything e.typed)
    (λ o g. follows (λ n. asked n (typing.case_row at r) >>= going r) (anything (asked o (parts.constant_row e.first)))
    (λ n h. follows (going r) (asks n h (λ n a. case_row k at r n p)) (λ q l. goes k r q p l)))
part_row k r (Defaults at) d p = default_if k at r r.has_default refl p
part_row k r (Counted counts made) d p = follows (stating r) (item_row (Counted counts made) d true k) (λ o h. states k r o p h)
part_row k r (States w) d p = follows (stating r) (item_row (States w) d true k) (λ o h. states k r o p h)

-- the parts of a switch
abbrev PartsGood : Bool → List Part → Type 0
PartsGood k ps = PartsPlaced true k ps × AreDifferent (all_labels ps)

at_end : (k : Bool) (r : Parting) (good : Bool) → Parted k r → Does (PartsGood k) true k (if good then give (r.done ++ part_if r.labels r.body) else unasked)
at_end k r true p =
    gives (r.done ++ part_if r.labels r.body)
    (all_append (PartPlaced true k) r.done (part_if r.labels r.body) p.done (part_placed true k r.labels r.body p.body), subst AreDifferent (sym (labels_at_end r)) p.different)
at_end k r false p = silent

parts_row : (k : Bool) (r : Parting) (good : Bool) (is : List Itemised) → AllByRecursion DoesItem is → Parted k r → Does (PartsGood k) true k (typing.parts_row r good is)
parts_row k r good [] d p = at_end k r good p
parts_row k r good (i ∷ is) d p = chain (part_row k r i d.0 p) (λ q g. parts_row k q.0 (good && q.1) is d.1 g)

no_parts : (k : Bool) → Parted k typing.no_parts
no_parts k = record { done = tt; body = tt; different = tt; values = λ n. refl; defaults = refl }

in_switch : {A : Type 0} {P : A → Type 0} (b k : Bool) (w : Walk A) → Does P true k w → Does P b k (typing.in_switch w)
in_switch b k w p = record { run = λ c s e f. p.run (record c { may_break = true }) s refl f }

abbrev switched : TExpr → (Objects × List Part) → Walk TStmt
switched e r = give (t.Switch e r.0 r.1)

abbrev switch_at : Blocked → Option TExpr → Walk TStmt
switch_at items e = here (λ c s.
    typing.with_objects (count_items (function_names s) items) (typing.in_switch (typing.parts_row typing.no_parts true items)) >>= λ r. both_asked e r switched)

switch_body : (items : Blocked) (e : Option TExpr) → AllByRecursion DoesItem items → Stands (switch_at items e)
switch_body items e p b k =
    sees (λ c s. typing.with_objects (count_items (function_names s) items) (typing.in_switch (typing.parts_row typing.no_parts true items)) >>= λ r. both_asked e r switched)
    (λ c s. follows (λ r. both_asked e r switched)
    (with_objects {P = PartsGood k} (count_items (function_names s) items) (typing.in_switch (typing.parts_row typing.no_parts true items)) (in_switch b k (typing.parts_row typing.no_parts true items) (parts_row k typing.no_parts true items p (no_parts k))))
    (λ r h. both {P = Anything} e r (given_any e) h (λ e r x y. gives (t.Switch e r.0 r.1) (switch_placed b k e r.0 r.1 y.0 y.1))))
  where
    given_any : (o : Option TExpr) → IfAny Anything o
    given_any (Some e) = tt
    given_any None = tt

pub switch_row : (at : Pos) (e : Expressed) (items : Blocked) → AllByRecursion DoesItem items → Stands (typing.switch_row at e items)
switch_row at e items q b k = scopes
    (follows (λ o. asked o (typing.operand_row at) >>= switch_at items) (anything e.typed)
    (λ o g. follows (switch_at items) (anything (asked o (typing.operand_row at))) (λ e h. switch_body items e q b k)))

-- ---- jumps

break_if : (at : Pos) (m b k : Bool) → m ≡ b → (c : Around) (s : State) → IfAny (Placed b k) (unless (not m) kind.Stray at (give t.Break) c s).given
break_if at true b k e c s = subst (λ z. Placed z k t.Break) e (break_placed k)
break_if at false b k e c s = tt

pub break_row : (at : Pos) → Stands (typing.break_row at)
break_row at b k = record { run = λ c s e f. break_if at c.may_break b k e c s }

continue_if : (at : Pos) (m b k : Bool) → m ≡ k → (c : Around) (s : State) → IfAny (Placed b k) (unless (not m) kind.Stray at (give t.Continue) c s).given
continue_if at true b k e c s = subst (λ z. Placed b z t.Continue) e (continue_placed b)
continue_if at false b k e c s = tt

pub continue_row : (at : Pos) → Stands (typing.continue_row at)
continue_row at b k = record { run = λ c s e f. continue_if at c.may_continue b k f c s }

pub return_row : (at : Pos) (o : Option Expressed) → Stands (typing.return_row at o)
return_row at None b k =
    sees (λ c s. unless (not (is_void c.result)) kind.Mismatch at (give (t.Return None)))
    (λ c s. passes (not (is_void c.result)) kind.Mismatch at (gives (t.Return None) (return_placed b k None)))
return_row at (Some e) b k =
    sees (λ c s. beside (fault_if (is_void c.result) kind.Mismatch at) (e.typed >>= λ o. typing.returned at c.result o >>= λ v. asked v (λ v. give (t.Return (Some v)))))
    (λ c s. besides (fault_if (is_void c.result) kind.Mismatch at)
    (follows (λ o. typing.returned at c.result o >>= λ v. asked v (λ v. give (t.Return (Some v)))) (anything e.typed)
    (λ o g. chain (anything (typing.returned at c.result o)) (λ v h. gives (t.Return (Some v)) (return_placed b k (Some v))))))
