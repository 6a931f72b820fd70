-- What typing makes of one node of a statement, from what it makes of the parts (C11 6.8).
use Rattle.c_tree.specs.declared.typed.types.CType.{CType}
use Rattle.std.specs.Prelude.{ℕ, ◌+◌, ◌==◌, Bool, true, false, ◌&&◌, not, if◌then◌else◌, List, [], ◌∷◌, ◌++◌, Option, Some, None, map}
use Rattle.std.specs.List.{list_any}
use Rattle.std.specs.Option.{option_map}
use Rattle.c_tree.specs.declared.token.Pos.{Pos}
use Rattle.c_tree.specs.declared.statement.IfHead.{IfHead}
use Rattle.c_tree.specs.declared.statement.ForHead.{ForHead}
use Rattle.c_tree.specs.declared.statement.ForHead.TheVariants as head
use Rattle.c_tree.specs.declared.statement.ForControl.{ForControl}
use Rattle.c_tree.specs.declared.statement.BlockItem.TheOpen.{BlockItem-F, Stmt-F, Block-F, Else-F}
use Rattle.c_tree.specs.declared.refusal.FaultKind.TheVariants as kind
use Rattle.c_tree.specs.declared.typed.expression.TExpr.{TExpr}
use Rattle.c_tree.specs.declared.typed.statement.TStmt.{TStmt}
use Rattle.c_tree.specs.declared.typed.statement.TStmt.TheVariants as t
use Rattle.c_tree.specs.declared.typed.statement.Branch.{Branch, roll-Branch}
use Rattle.c_tree.specs.declared.typed.statement.Part.{Part, roll-Part}
use Rattle.c_tree.specs.declared.typed.statement.Label.{Label}
use Rattle.c_tree.specs.declared.typed.statement.Label.TheVariants as label
use Rattle.c_tree.specs.declared.typed.statement.Objects.{Objects}
use Rattle.c_tree.specs.declared.typed.unit.Object.{Object}
use Rattle.c_typing.specs.Types.{is_integer, is_void, is_function}
use Rattle.c_typing.specs.Scopes.{Meaning, TypedefOf, Local, State, Walk, give, unasked, tell, ◌>>=◌, asked, both_asked, beside, fault_if, unless, here, scoped, meaning_of}
use Rattle.c_typing.specs.Operands.{Operand, tree_of, valued, dropping, converted}
use Rattle.c_typing.specs.Operators.{promoted_type}
use Rattle.c_typing.specs.Expressions.{truth_row, given_row}
use Rattle.c_typing.specs.Declarators.{Expressed, constant_row}
use Rattle.c_typing.specs.Trees.{expr_typing}
use Rattle.c_typing.specs.Declarations.{Made, FunctionNames, Declared, declared_of, object_of, declaration_row, automatic_count}

-- a statement
abbrev pub Stated : Type 0
Stated = Walk TStmt

-- what stands in a block
pub data Itemised : Type 0 where
  Counted : (counts : FunctionNames → ℕ × FunctionNames) → (made : Walk Made) → Itemised
  States : Stated → Itemised
  Cases : (at : Pos) → (value : Expressed) → Itemised
  Defaults : (at : Pos) → Itemised

abbrev pub Blocked : Type 0
Blocked = List Itemised

-- an `else`: the condition behind it, where there is one, and the body
pub record Elsed : Type 0 where
  pub condition : Option (Walk TExpr)
  pub body : Stated

-- ---- blocks (6.8.2)

-- a typedef name of a function type
abbrev pub is_function_name : Option Meaning → Bool
is_function_name (Some (TypedefOf u)) = is_function u
is_function_name m = false

abbrev pub function_names : State → FunctionNames
function_names s name = is_function_name (meaning_of s name)

-- how many automatic objects a block declares itself
abbrev pub count_items : FunctionNames → List Itemised → ℕ
count_items names [] = 0
count_items names (Counted counts made ∷ rest) = (counts names).0 + count_items (counts names).1 rest
count_items names (i ∷ rest) = count_items names rest

abbrev pub is_addressed : State → ℕ → Bool
is_addressed s n = list_any (λ m. m == n) s.addressed

-- the objects of a block, once all is known of them
abbrev pub objects_of : State → List Local → List Object
objects_of s locals = map (λ l. object_of s.structs (is_addressed s l.number) l.ctype) locals

-- what a block declares, which has so many automatic objects of its own
abbrev pub owning : {A : Type 0} → (count : ℕ) → Walk A → Walk (Objects × A)
owning {A} count w c s =
    let said = w (record c { own_from = c.inner_from; inner_from = c.inner_from + count; numbers_from = s.declared })
    (record s { declared = s.declared + count; own = [] }) in
    let after = said.state in
    record {
      faults = said.faults;
      given = option_map (λ (a : A). (record { first = s.declared; list = objects_of after after.own }, a)) said.given;
      state = record after { own = s.own };
    }

-- the same in a scope of its own
abbrev pub with_objects : {A : Type 0} → (count : ℕ) → Walk A → Walk (Objects × A)
with_objects count w = scoped (owning count w)

abbrev pub block_of : Option (Objects × Made) → Walk TStmt
block_of r = asked r (λ r. give (t.Block r.0 r.1))

-- labels stand in the block of a switch alone
abbrev pub item_row : Itemised → Walk Made
item_row (Counted counts made) = made
item_row (States w) = w >>= λ a. asked a (λ a. give (a ∷ []))
item_row i = give []

abbrev pub items_row : List Itemised → Walk Made
items_row [] = give []
items_row (i ∷ is) = item_row i >>= λ a. items_row is >>= λ rest. both_asked a rest (λ a rest. give (a ++ rest))

abbrev pub block_row : Blocked → Walk TStmt
block_row items = here (λ c s. with_objects (count_items (function_names s) items) (items_row items) >>= block_of)

-- nothing
abbrev pub empty : Made → Walk TStmt
empty made = here (λ c s. give (t.Block (record { first = s.declared; list = [] }) made))

-- ---- expressions in statements

-- the value is dropped (6.8.3p2)
abbrev pub dropped_row : Expressed → Walk TExpr
dropped_row e = e.typed >>= λ o. asked o (λ o. give (tree_of (dropping o)))

abbrev pub evaluate_row : Expressed → Walk TStmt
evaluate_row e = dropped_row e >>= λ v. asked v (λ v. give (t.Evaluate v))

-- a condition is true or false; the fault stands at the word (6.8.4.1p1, 6.8.5p2)
abbrev pub condition_row : Pos → Expressed → Walk TExpr
condition_row at e = e.typed >>= λ o. asked o (truth_row at) >>= λ v. asked v (λ v. give (tree_of v))

-- where there may be none
abbrev pub if_any : {A : Type 0} → (Expressed → Walk A) → Option Expressed → Walk (Option A)
if_any f None = give None
if_any f (Some e) = f e >>= λ a. asked a (λ a. give (Some a))

-- ---- `if` (6.8.4.1)

abbrev pub branch : TExpr → TStmt → Branch
branch e a = roll-Branch (record { condition = e; body = a })

-- the branches behind the first one, and what is done where no condition holds
abbrev pub others_row : List Elsed → Walk (List Branch × TStmt)
others_row [] = empty [] >>= λ a. asked a (λ a. give ([], a))
others_row (e ∷ es) = other e.condition e.body (others_row es)
  where
    other : Option (Walk TExpr) → Stated → Walk (List Branch × TStmt) → Walk (List Branch × TStmt)
    other None body rest = scoped body >>= λ a. asked a (λ a. give ([], a))
    other (Some condition) body rest = scoped (
        condition >>= λ k. scoped body >>= λ a. rest >>= λ r. both_asked k a (λ k a. asked r (λ r. give (branch k a ∷ r.0, r.1))))

abbrev pub if_row : Pos → Expressed → Stated → List Elsed → Walk TStmt
if_row at condition body others = scoped (
    condition_row at condition >>= λ k. scoped body >>= λ a. others_row others >>= λ r.
    both_asked k a (λ k a. asked r (λ r. give (t.If (branch k a ∷ r.0) r.1))))

-- ---- loops (6.8.5)

abbrev pub in_loop : {A : Type 0} → Walk A → Walk A
in_loop w c s = w (record c { may_break = true; may_continue = true }) s

abbrev pub while_row : Pos → Expressed → Stated → Walk TStmt
while_row at condition body = scoped (
    condition_row at condition >>= λ k. scoped (in_loop body) >>= λ a. both_asked k a (λ k a. give (t.While k a)))

abbrev pub do_row : Pos → Stated → Expressed → Walk TStmt
do_row at body condition = scoped (
    scoped (in_loop body) >>= λ a. condition_row at condition >>= λ k. both_asked k a (λ k a. give (t.Do a k)))

-- what the head of a `for` is: an expression or nothing, or a declaration
pub data Heading : Type 0 where
  First : Option Expressed → Heading
  Declares : Declared → Heading

-- what stands in the brackets of a `for`
pub record Controlling : Type 0 where
  pub head : Heading
  pub condition : Option Expressed
  pub step : Option Expressed

abbrev pub loop_row : Pos → Controlling → Stated → Walk TStmt
loop_row at control body =
    if_any (condition_row at) control.condition >>= λ k. if_any dropped_row control.step >>= λ e. scoped (in_loop body) >>= λ a.
    both_asked k e (λ k e. asked a (λ a. give (t.For k e a)))

abbrev pub for_head : Option TExpr → TStmt → Walk TStmt
for_head None a = give a
for_head (Some e) a = empty (t.Evaluate e ∷ a ∷ [])

-- what the head declares lies around the loop (6.8.5.3p1)
abbrev pub for_row : Pos → Controlling → Stated → Heading → Walk TStmt
for_row at control body (First e) = scoped (
    if_any dropped_row e >>= λ e. loop_row at control body >>= λ a. both_asked e a for_head)
for_row at control body (Declares d) = here (λ c s.
    with_objects (automatic_count (function_names s) d).0 (
    declaration_row d >>= λ made. loop_row at control body >>= λ a. both_asked made a (λ made a. give (made ++ a ∷ []))) >>= block_of)

-- ---- `switch` (6.8.4.2)

-- parts that are done, and the labels and the statements of the present one
pub record Parting : Type 0 where
  pub done : List Part
  pub labels : List Label
  pub body : Made
  pub values : List ℕ
  pub has_default : Bool

abbrev pub part_if : List Label → Made → List Part
part_if [] [] = []
part_if ls made = roll-Part (record { labels = ls; body = made }) ∷ []

-- a label begins a part, unless it stands directly behind another one
abbrev pub labelled_by : Made → Label → Parting → Parting
labelled_by [] l r = record r { labels = r.labels ++ l ∷ [] }
labelled_by (a ∷ made) l r = record r { done = r.done ++ part_if r.labels (a ∷ made); labels = l ∷ []; body = [] }

abbrev pub labelled : Label → Parting → Parting
labelled l r = labelled_by r.body l r

-- two values that are equal at the promoted type, of four bytes, are equal words (p3)
abbrev pub case_row : Pos → Parting → ℕ × Bool → Walk Parting
case_row at r n =
    unless (list_any (λ m. m == n.0) r.values) kind.Redeclared at
    (give (record (labelled (label.Case n.0) r) { values = r.values ++ n.0 ∷ [] }))

-- where a label has a fault, the walk goes on behind it
abbrev pub part_row : Parting → Itemised → Walk (Parting × Bool)
part_row r (Cases at e) = e.typed >>= λ o. asked o (constant_row e.first) >>= λ n. asked n (case_row at r) >>= going r
  where
    going : Parting → Option Parting → Walk (Parting × Bool)
    going r None = give (r, false)
    going r (Some q) = give (q, true)
part_row r (Defaults at) =
    if r.has_default then (tell kind.Redeclared at >>= λ (u : Option (Unit {0})). give (r, false))
    else give (record (labelled label.Default r) { has_default = true }, true)
part_row r i = item_row i >>= stating r
  where
    stating : Parting → Option Made → Walk (Parting × Bool)
    stating r None = give (r, false)
    stating r (Some made) = give (record r { body = r.body ++ made }, true)

abbrev pub parts_row : Parting → (good : Bool) → List Itemised → Walk (List Part)
parts_row r good [] = if good then give (r.done ++ part_if r.labels r.body) else unasked
parts_row r good (i ∷ is) = part_row r i >>= λ q. asked q (λ q. parts_row q.0 (good && q.1) is)

abbrev pub in_switch : {A : Type 0} → Walk A → Walk A
in_switch w c s = w (record c { may_break = true }) s

abbrev pub operand_row : Pos → Operand → Walk TExpr
operand_row at o = unless (not (is_integer (valued o).ctype)) kind.Mismatch at (give (tree_of (converted (promoted_type (valued o).ctype) (valued o))))

abbrev pub no_parts : Parting
no_parts = record { done = []; labels = []; body = []; values = []; has_default = false }

abbrev pub switch_row : Pos → Expressed → Blocked → Walk TStmt
switch_row at condition items = scoped (
    condition.typed >>= λ o. asked o (operand_row at) >>= λ e. here (λ c s.
    with_objects (count_items (function_names s) items) (in_switch (parts_row no_parts true items)) >>= λ r.
    both_asked e r (λ e r. give (t.Switch e r.0 r.1))))

-- ---- jumps (6.8.6)

abbrev pub break_row : Pos → Walk TStmt
break_row at = here (λ c s. unless (not c.may_break) kind.Stray at (give t.Break))

abbrev pub continue_row : Pos → Walk TStmt
continue_row at = here (λ c s. unless (not c.may_continue) kind.Stray at (give t.Continue))

-- the value that a function gives; nothing is asked of it in a function of type void
abbrev pub returned : Pos → (result : CType) → Option Operand → Walk TExpr
returned at u o = asked o (λ o. if is_void u then unasked else given_row at u o)

-- a function of type void gives no value, any other one gives one
abbrev pub return_row : Pos → Option Expressed → Walk TStmt
return_row at None = here (λ c s. unless (not (is_void c.result)) kind.Mismatch at (give (t.Return None)))
return_row at (Some e) = here (λ c s.
    beside (fault_if (is_void c.result) kind.Mismatch at)
    (e.typed >>= λ o. returned at c.result o >>= λ v. asked v (λ v. give (t.Return (Some v)))))

-- ---- one node

abbrev pub item_of : Declared → Itemised
item_of d = Counted (λ names. automatic_count names d) (declaration_row d)

abbrev pub heading_of : ForHead → Heading
heading_of (head.Expression e semicolon) = First (option_map expr_typing e)
heading_of (head.Declaration d) = Declares (declared_of d)

abbrev pub controlling_of : ForControl → Controlling
controlling_of k = record {
  head = heading_of k.head;
  condition = option_map expr_typing k.condition;
  step = option_map expr_typing k.step;
}

abbrev pub typed_stmt : Stmt-F Itemised Stated Blocked Elsed → Stated
typed_stmt (Stmt-F.Block block) = block_row block
typed_stmt (Stmt-F.Expression None semicolon) = empty []
typed_stmt (Stmt-F.Expression (Some e) semicolon) = evaluate_row (expr_typing e)
typed_stmt (Stmt-F.If at condition body others) = if_row at (expr_typing condition.value) body others
typed_stmt (Stmt-F.While at condition body) = while_row at (expr_typing condition.value) body
typed_stmt (Stmt-F.Do at body while_at condition semicolon) = do_row at body (expr_typing condition.value)
typed_stmt (Stmt-F.For at control body) = let k = controlling_of control in for_row at k body k.head
typed_stmt (Stmt-F.Switch at condition body) = switch_row at (expr_typing condition.value) body
typed_stmt (Stmt-F.Break at semicolon) = break_row at
typed_stmt (Stmt-F.Continue at semicolon) = continue_row at
typed_stmt (Stmt-F.Return at e semicolon) = return_row at (option_map expr_typing e)

abbrev pub else_condition : Option IfHead → Option (Walk TExpr)
else_condition None = None
else_condition (Some h) = Some (condition_row h.word (expr_typing h.condition.value))

abbrev pub typed_else : Else-F Itemised Stated Blocked Elsed → Elsed
typed_else e = record { condition = else_condition e.head; body = e.body }

abbrev pub typed_block : Block-F Itemised Stated Blocked Elsed → Blocked
typed_block b = b.items

abbrev pub typed_block_item : BlockItem-F Itemised Stated Blocked Elsed → Itemised
typed_block_item (BlockItem-F.Declaration d) = item_of (declared_of d)
typed_block_item (BlockItem-F.Statement w) = States w
typed_block_item (BlockItem-F.Case at e colon) = Cases at (expr_typing e)
typed_block_item (BlockItem-F.Default at colon) = Defaults at
