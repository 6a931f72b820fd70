-- The rows of statements give a typed tree where they tell no fault.
use Rattle.std.specs.Prelude.{◌≡◌, ℕ, ◌+◌, Bool, true, false, if◌then◌else◌, List, [], ◌∷◌, ◌++◌, Option, Some, None, refl}
use Rattle.std.proofs.Common.{sym, subst}
use Rattle.std.specs.List.{AllByRecursion}
use Rattle.std.specs.Option.{option_map}
use Rattle.c_tree.specs.declared.token.Pos.{Pos}
use Rattle.c_tree.specs.declared.refusal.FaultKind.TheVariants as kind
use Rattle.c_tree.specs.declared.typed.types.CType.{CType}
use Rattle.c_tree.specs.declared.typed.expression.TExpr.{TExpr}
use Rattle.c_tree.specs.declared.typed.statement.TStmt.{TStmt}
use Rattle.c_tree.specs.declared.typed.statement.TStmt.TheVariants as t
use Rattle.c_tree.specs.declared.typed.statement.Branch.{Branch}
use Rattle.c_tree.specs.declared.typed.statement.Part.{Part}
use Rattle.c_tree.specs.declared.typed.statement.Label.TheVariants as label
use Rattle.c_tree.specs.declared.typed.statement.Objects.{Objects}
use Rattle.c_typing.specs.declared.operand.Operand.{Operand}
use Rattle.c_typing.specs.Faults.{fault}
use Rattle.c_typing.specs.Types.{is_void}
use Rattle.c_typing.specs.Operands.{tree_of}
use Rattle.c_typing.specs.Expressions as rows
use Rattle.c_typing.specs.Scopes.{unasked, beside, fault_if, Walk, give, tell, asked, both_asked, here, scoped, ◌>>=◌}
use Rattle.c_typing.specs.Declarators.{Expressed}
use Rattle.c_typing.specs.Declarators as parts
use Rattle.c_typing.specs.Declarations.{Made, FunctionNames, Declared, automatic_count}
use Rattle.c_typing.specs.Declarations as declaring
use Rattle.c_typing.specs.OfStatements as typing
use Rattle.c_typing.specs.OfStatements.{Stated, Itemised, Counted, States, Cases, Defaults, Blocked, Elsed, Heading, First, Controlling, Parting, function_names, count_items}
use Rattle.c_typing_laws.specs.Scopes.{besides, not_told, IfGiven, Answers, Any, gives, follows, asks, both, chain, pair, sees, turns, scopes, walks}
use Rattle.c_typing_laws.specs.Expressions.{truth_row, given_row}
use Rattle.c_typing_laws.specs.Declarators.{Says, constant_row}
use Rattle.c_typing_laws.specs.Declarations.{Declares, declaration_row}

-- ---- what the parts of a statement are

abbrev pub DoesItem : Itemised → Type 0
DoesItem (Counted counts made) = Answers Any made
DoesItem (States w) = Answers Any w
DoesItem (Cases at e) = Says e
DoesItem (Defaults at) = Unit {0}

abbrev pub IfDone : Option (Walk TExpr) → Type 0
IfDone None = Unit {0}
IfDone (Some w) = Answers Any w

pub record DoesElse (e : Elsed) : Type 0 where
  pub condition : IfDone e.condition
  pub body : Answers Any e.body

abbrev pub IfSays : Option Expressed → Type 0
IfSays None = Unit {0}
IfSays (Some e) = Says e

abbrev pub Heads : Heading → Type 0
Heads (First e) = IfSays e
Heads (typing.Declares d) = Declares d

pub record Controls (k : Controlling) : Type 0 where
  pub head : Heads k.head
  pub condition : IfSays k.condition
  pub step : IfSays k.step

-- ---- blocks

pub owning : {A : Type 0} {P : A → Type 0} (count : ℕ) (w : Walk A) → Answers P w → Answers Any (typing.owning count w)
owning {A} {P} count w p = record {
  run = λ c s k h.
      let r = p.run (record c { own_from = c.inner_from; inner_from = c.inner_from + count; numbers_from = s.declared }) (record s { declared = s.declared + count; own = [] }) k h in
      let said = w (record c { own_from = c.inner_from; inner_from = c.inner_from + count; numbers_from = s.declared }) (record s { declared = s.declared + count; own = [] }) in
      record { gives = still (λ a. (record { first = s.declared; list = typing.objects_of said.state said.state.own }, a)) said.given r.gives; known = r.known };
}
  where
    still : (f : A → Objects × A) (o : Option A) → IfGiven P o → IfGiven Any (option_map f o)
    still f (Some a) g = tt
    still f None g = g

with_objects : {A : Type 0} {P : A → Type 0} (count : ℕ) (w : Walk A) → Answers P w → Answers Any (typing.with_objects count w)
with_objects count w p = scopes (owning count w p)

block_of : (r : Option (Objects × Made)) → IfGiven Any r → Answers Any (typing.block_of r)
block_of (Some r) h = gives _ tt
block_of None h = absurd h

item_row : (i : Itemised) → DoesItem i → Answers Any (typing.item_row i)
item_row (Counted counts made) p = p
item_row (States w) p = chain p (λ a g. gives (a ∷ []) tt)
item_row (Cases at e) p = gives _ tt
item_row (Defaults at) p = gives _ tt

pub items_row : (is : List Itemised) → AllByRecursion DoesItem is → Answers Any (typing.items_row is)
items_row [] p = gives [] tt
items_row (i ∷ is) p = pair (item_row i p.0) (items_row is p.1) (λ a rest g h. gives (a ++ rest) tt)

pub block_row : (items : Blocked) → AllByRecursion DoesItem items → Answers Any (typing.block_row items)
block_row items p =
    sees (λ c s. typing.with_objects (count_items (function_names s) items) (typing.items_row items) >>= typing.block_of)
    (λ c s k. follows typing.block_of (with_objects (count_items (function_names s) items) (typing.items_row items) (items_row items p)) block_of)

pub empty : (made : Made) → Answers Any (typing.empty made)
empty made = search walks

-- ---- expressions in statements

dropped_row : (e : Expressed) → Says e → Answers Any (typing.dropped_row e)
dropped_row e p = chain p (λ o g. gives _ tt)

pub evaluate_row : (e : Expressed) → Says e → Answers Any (typing.evaluate_row e)
evaluate_row e p = chain (dropped_row e p) (λ v g. gives _ tt)

pub condition_row : (at : Pos) (e : Expressed) → Says e → Answers Any (typing.condition_row at e)
condition_row at e p =
    follows (λ o. asked o (rows.truth_row at) >>= λ v. asked v (λ v. give (tree_of v))) p
    (λ o g. chain (asks o g (λ o a. truth_row at o)) (λ v h. gives (tree_of v) tt))

if_any : {A : Type 0} (f : Expressed → Walk A) (o : Option Expressed) → ((e : Expressed) → Says e → Answers Any (f e)) → IfSays o → Answers Any (typing.if_any f o)
if_any f None q h = gives None tt
if_any f (Some e) q h = chain (q e h) (λ a g. gives (Some a) tt)

-- ---- `if`

abbrev others : Type 0
others = List Branch × TStmt

-- the branches, and what is done where no condition holds
abbrev give_both : List Branch → TStmt → Walk others
give_both bs a = give (bs, a)

branch_made : (k : Option TExpr) (a : Option TStmt) (r : Option others) → IfGiven Any k → IfGiven Any a → IfGiven Any r
    → Answers Any (both_asked k a (λ k a. asked r (λ (r : others). give_both (typing.branch k a ∷ r.0) r.1)))
branch_made (Some k) (Some a) (Some r) g h l = gives _ tt
branch_made (Some k) (Some a) None g h l = absurd l
branch_made (Some k) None r g h l = absurd h
branch_made None a r g h l = absurd g

abbrev other : Option (Walk TExpr) → Stated → Walk others → Walk others
other None body rest = scoped body >>= λ a. asked a (λ a. give ([], a))
other (Some condition) body rest = scoped (
    condition >>= λ k. scoped body >>= λ a. rest >>= λ r. both_asked k a (λ k a. asked r (λ r. give_both (typing.branch k a ∷ r.0) r.1)))

other_row : (o : Option (Walk TExpr)) (body : Stated) (rest : Walk others) → IfDone o → Answers Any body → Answers Any rest → Answers Any (other o body rest)
other_row None body rest c p q = chain (scopes p) (λ a g. gives _ tt)
other_row (Some condition) body rest c p q = scopes
    (follows (λ k. scoped body >>= λ a. rest >>= λ r. both_asked k a (λ k a. asked r (λ r. give_both (typing.branch k a ∷ r.0) r.1))) c
    (λ k g. follows (λ a. rest >>= λ r. both_asked k a (λ k a. asked r (λ r. give_both (typing.branch k a ∷ r.0) r.1))) (scopes p)
    (λ a h. follows (λ r. both_asked k a (λ k a. asked r (λ r. give_both (typing.branch k a ∷ r.0) r.1))) q (λ r l. branch_made k a r g h l))))

others_row : (es : List Elsed) → AllByRecursion DoesElse es → Answers Any (typing.others_row es)
others_row [] p = chain {f = give_both []} (empty []) (λ a g. gives ([], a) tt)
others_row (e ∷ es) p = other_row e.condition e.body (typing.others_row es) p.0.condition p.0.body (others_row es p.1)

if_made : (k : Option TExpr) (a : Option TStmt) (r : Option others) → IfGiven Any k → IfGiven Any a → IfGiven Any r
    → Answers Any (both_asked k a (λ k a. asked r (λ (r : others). give (t.If (typing.branch k a ∷ r.0) r.1))))
if_made (Some k) (Some a) (Some r) g h l = gives _ tt
if_made (Some k) (Some a) None g h l = absurd l
if_made (Some k) None r g h l = absurd h
if_made None a r g h l = absurd g

pub if_row : (at : Pos) (e : Expressed) (body : Stated) (es : List Elsed) → Says e → Answers Any body → AllByRecursion DoesElse es → Answers Any (typing.if_row at e body es)
if_row at e body es p q r = scopes
    (follows (λ k. scoped body >>= λ a. typing.others_row es >>= λ r. both_asked k a (λ k a. asked r (λ r. give (t.If (typing.branch k a ∷ r.0) r.1)))) (condition_row at e p)
    (λ k g. follows (λ a. typing.others_row es >>= λ r. both_asked k a (λ k a. asked r (λ r. give (t.If (typing.branch k a ∷ r.0) r.1)))) (scopes q)
    (λ a h. follows (λ r. both_asked k a (λ k a. asked r (λ r. give (t.If (typing.branch k a ∷ r.0) r.1)))) (others_row es r) (λ r l. if_made k a r g h l))))

-- ---- loops

in_loop : {A : Type 0} {P : A → Type 0} (w : Walk A) → Answers P w → Answers P (typing.in_loop w)
in_loop w p = turns (λ c. record c { may_break = true; may_continue = true }) p

pub while_row : (at : Pos) (e : Expressed) (body : Stated) → Says e → Answers Any body → Answers Any (typing.while_row at e body)
while_row at e body p q = scopes (pair (condition_row at e p) (scopes (in_loop body q)) (λ k a g h. gives (t.While k a) tt))

pub do_row : (at : Pos) (body : Stated) (e : Expressed) → Answers Any body → Says e → Answers Any (typing.do_row at body e)
do_row at body e q p = scopes
    (follows (λ a. typing.condition_row at e >>= λ k. both_asked k a (λ k a. give (t.Do a k))) (scopes (in_loop body q))
    (λ a g. follows (λ k. both_asked k a (λ k a. give (t.Do a k))) (condition_row at e p) (λ k h. both k a h g (λ k a x y. gives (t.Do a k) tt))))

for_made : (k e : Option (Option TExpr)) (a : Option TStmt) → IfGiven Any k → IfGiven Any e → IfGiven Any a → Answers Any (both_asked k e (λ k e. asked a (λ a. give (t.For k e a))))
for_made (Some k) (Some e) (Some a) g h l = gives _ tt
for_made (Some k) (Some e) None g h l = absurd l
for_made (Some k) None a g h l = absurd h
for_made None e a g h l = absurd g

loop_row : (at : Pos) (k : Controlling) (body : Stated) → Controls k → Answers Any body → Answers Any (typing.loop_row at k body)
loop_row at control body p q =
    follows (λ k. typing.if_any typing.dropped_row control.step >>= λ e. scoped (typing.in_loop body) >>= λ a. both_asked k e (λ k e. asked a (λ a. give (t.For k e a))))
    (if_any (typing.condition_row at) control.condition (condition_row at) p.condition)
    (λ k g. follows (λ e. scoped (typing.in_loop body) >>= λ a. both_asked k e (λ k e. asked a (λ a. give (t.For k e a)))) (if_any typing.dropped_row control.step dropped_row p.step)
    (λ e h. follows (λ a. both_asked k e (λ k e. asked a (λ a. give (t.For k e a)))) (scopes (in_loop body q)) (λ a l. for_made k e a g h l)))

for_head : (e : Option TExpr) (a : TStmt) → Answers Any (typing.for_head e a)
for_head None a = gives a tt
for_head (Some e) a = empty (t.Evaluate e ∷ a ∷ [])

for_with : (at : Pos) (k : Controlling) (body : Stated) (head : Heading) → Heads head → Controls k → Answers Any body → Answers Any (typing.for_row at k body head)
for_with at control body (First e) h p q = scopes
    (pair (if_any typing.dropped_row e dropped_row h) (loop_row at control body p q) (λ e a g l. for_head e a))
for_with at control body (typing.Declares d) h p q =
    sees (λ c s. typing.with_objects (automatic_count (function_names s) d).0 (
    declaring.declaration_row d >>= λ made. typing.loop_row at control body >>= λ a. both_asked made a (λ made a. give (made ++ a ∷ []))) >>= typing.block_of)
    (λ c s k. follows typing.block_of (with_objects {P = Any} (automatic_count (function_names s) d).0 _
    (pair (declaration_row d h) (loop_row at control body p q) (λ made a g l. gives (made ++ a ∷ []) tt))) block_of)

pub for_row : (at : Pos) (k : Controlling) (body : Stated) → Controls k → Answers Any body → Answers Any (typing.for_row at k body k.head)
for_row at k body p q = for_with at k body k.head p.head p q

-- ---- `switch`

-- whether all is right so far
abbrev IsGood : Parting × Bool → Type 0
IsGood q = q.1 ≡ true

case_row : (at : Pos) (r : Parting) (n : ℕ × Bool) → Answers Any (typing.case_row at r n)
case_row at r n = search walks

abbrev going : Parting → Option Parting → Walk (Parting × Bool)
going r None = give (r, false)
going r (Some q) = give (q, true)

goes : (r : Parting) (o : Option Parting) → IfGiven Any o → Answers IsGood (going r o)
goes r (Some q) h = gives (q, true) refl
goes r None h = absurd h

abbrev stating : Parting → Option Made → Walk (Parting × Bool)
stating r None = give (r, false)
stating r (Some made) = give (record r { body = r.body ++ made }, true)

states : (r : Parting) (o : Option Made) → IfGiven Any o → Answers IsGood (stating r o)
states r (Some made) h = gives (record r { body = r.body ++ made }, true) refl
states r None h = absurd h

default_row : (at : Pos) (r : Parting) (b : Bool) → Answers IsGood (if b then (tell kind.Redeclared at >>= λ (u : Option (Unit {0})). going r None) else give (record (typing.labelled label.Default r) { has_default = true }, true))
default_row at r true = record { run = λ c s k h. absurd (let e : fault kind.Redeclared at ∷ [] ≡ [] = h in cc) }
default_row at r false = gives (record (typing.labelled label.Default r) { has_default = true }, true) refl

part_row : (r : Parting) (i : Itemised) → DoesItem i → Answers IsGood (typing.part_row r i)
part_row r (Cases at e) p =
    follows (λ o. asked o (parts.constant_row e.first) >>= λ n. asked n (typing.case_row at r) >>= going r) p
    (λ o g. follows (λ n. asked n (typing.case_row at r) >>= going r) (asks o g (λ o a. constant_row e.first o))
    (λ n h. follows (going r) (asks n h (λ n a. case_row at r n)) (goes r)))
part_row r (Defaults at) p = default_row at r r.has_default
part_row r (Counted counts made) p = follows (stating r) (item_row (Counted counts made) p) (states r)
part_row r (States w) p = follows (stating r) (item_row (States w) p) (states r)

parts_row : (r : Parting) (is : List Itemised) → AllByRecursion DoesItem is → Answers Any (typing.parts_row r true is)
parts_row r [] p = gives _ tt
parts_row r (i ∷ is) p =
    chain (part_row r i p.0) (λ q g. subst (λ b. Answers Any (typing.parts_row q.0 b is)) (sym g) (parts_row q.0 is p.1))

in_switch : {A : Type 0} {P : A → Type 0} (w : Walk A) → Answers P w → Answers P (typing.in_switch w)
in_switch w p = turns (λ c. record c { may_break = true }) p

operand_row : (at : Pos) (o : Operand) → Answers Any (typing.operand_row at o)
operand_row at o = search walks

abbrev switched : TExpr → (Objects × List Part) → Walk TStmt
switched e r = give (t.Switch e r.0 r.1)

abbrev switch_at : Blocked → Option TExpr → Walk TStmt
switch_at items e = here (λ c s.
    typing.with_objects (count_items (function_names s) items) (typing.in_switch (typing.parts_row typing.no_parts true items)) >>= λ r. both_asked e r switched)

switch_body : (items : Blocked) (e : Option TExpr) → IfGiven Any e → AllByRecursion DoesItem items → Answers Any (switch_at items e)
switch_body items e g p =
    sees (λ c s. typing.with_objects (count_items (function_names s) items) (typing.in_switch (typing.parts_row typing.no_parts true items)) >>= λ r. both_asked e r switched)
    (λ c s k. follows (λ r. both_asked e r switched)
    (with_objects (count_items (function_names s) items) (typing.in_switch (typing.parts_row typing.no_parts true items)) (in_switch (typing.parts_row typing.no_parts true items) (parts_row typing.no_parts items p)))
    (λ r h. both e r g h (λ e r a b. gives (t.Switch e r.0 r.1) tt)))

pub switch_row : (at : Pos) (e : Expressed) (items : Blocked) → Says e → AllByRecursion DoesItem items → Answers Any (typing.switch_row at e items)
switch_row at e items p q = scopes
    (follows (λ o. asked o (typing.operand_row at) >>= switch_at items) p
    (λ o g. follows (switch_at items) (asks o g (λ o a. operand_row at o)) (λ e h. switch_body items e h q)))

-- ---- jumps

pub break_row : (at : Pos) → Answers Any (typing.break_row at)
break_row at = search walks

pub continue_row : (at : Pos) → Answers Any (typing.continue_row at)
continue_row at = search walks

value_row : (at : Pos) (u : CType) (o : Operand) (b : Bool) → b ≡ false → Answers Any (if b then unasked else rows.given_row at u o)
value_row at u o true e = absurd cc
value_row at u o false e = given_row at u o

returned : (at : Pos) (u : CType) (o : Option Operand) → IfGiven Any o → is_void u ≡ false → Answers Any (typing.returned at u o)
returned at u o g e = asks o g (λ o a. value_row at u o (is_void u) e)

pub return_row : (at : Pos) (o : Option Expressed) → IfSays o → Answers Any (typing.return_row at o)
return_row at None h = search walks
return_row at (Some e) h =
    sees (λ c s. beside (fault_if (is_void c.result) kind.Mismatch at) (e.typed >>= λ o. typing.returned at c.result o >>= λ v. asked v (λ v. give (t.Return (Some v)))))
    (λ c s k. besides (fault_if (is_void c.result) kind.Mismatch at)
    (λ n. follows (λ o. typing.returned at c.result o >>= λ v. asked v (λ v. give (t.Return (Some v)))) h
    (λ o g. chain (returned at c.result o g (not_told (is_void c.result) kind.Mismatch at n)) (λ v h. gives (t.Return (Some v)) tt))))
