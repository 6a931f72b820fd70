-- The parts of what statements come to, and what the types of `branches` and `switch` stand for.
-- The clauses of all files of this crate but the walker and the calls cite them.
use Rattle.std.specs.Prelude.{ℕ, ◌+◌, min, Bool, true, false, List, [], ◌∷◌, ◌++◌, Option, Some, None, Result, Ok, Err, take}
use Rattle.word_ops.specs.declared.memory.Memory.{Memory}
use Rattle.c_tree.specs.declared.token.Pos.{Pos}
use Rattle.c_tree.specs.declared.typed.expression.TExpr.{TExpr}
use Rattle.c_tree.specs.declared.typed.statement.TStmt.{TStmt}
use Rattle.c_tree.specs.declared.typed.statement.TStmt.TheVariants as t
use Rattle.c_tree.specs.declared.typed.statement.Branch.{Branch}
use Rattle.c_tree.specs.declared.typed.statement.Part.{Part}
use Rattle.c_tree.specs.declared.typed.statement.Objects.{Objects}
use Rattle.c_typing.specs.declared.scope.State.{State}
use Rattle.c_typing.specs.Scopes.{Walk, give, ◌>>=◌, asked, both_asked, offer, here, scoped}
use Rattle.c_typing.specs.Scopes as scopes
use Rattle.c_typing.specs.Declarators.{Expressed}
use Rattle.c_typing.specs.Declarations.{Made, FunctionNames}
use Rattle.c_typing.specs.OfStatements.{Stated, Itemised, Counted, function_names, count_items, with_objects, branch, empty, evaluate_row, item_row, operand_row, in_switch, no_parts, parts_row, part_if}
use Rattle.c_typing.specs.OfStatements as statements
use Rattle.c_type_walk.specs.Walks.{Gave, fixed}
use Rattle.c_type_walk.specs.declared.around.Around.{Around}
use Rattle.c_type_walk.specs.declared.found.Found.{Found}
use Rattle.c_type_statements.specs.declared.branches.Opened.{Opened}
use Rattle.c_type_statements.specs.declared.switch.Parting.{Parting}

-- ---- blocks

-- how many automatic objects an item of a block declares, and the typedef names behind it
abbrev pub counted_item : FunctionNames → Itemised → ℕ × FunctionNames
counted_item names (Counted counts made) = counts names
counted_item names i = (0, names)

-- statements without objects of their own
abbrev pub empty_block : State → Made → TStmt
empty_block s made = t.Block (record { first = s.declared; list = [] }) made

-- where a block of so many objects begins
abbrev pub opened_state : (count : ℕ) → State → State
opened_state count s = record s { declared = s.declared + count; own = [] }

abbrev pub opened_around : (count : ℕ) → State → scopes.Around → scopes.Around
opened_around count s c = record c { own_from = c.inner_from; inner_from = c.inner_from + count; numbers_from = s.declared }

-- ---- expressions

-- an expression statement, by its expression
abbrev pub expression_row : Option Expressed → Stated
expression_row None = empty []
expression_row (Some e) = evaluate_row e

-- ---- scopes that end together

abbrev pub none_opened : Opened
none_opened = record { marks = None }

abbrev pub lower : Option (ℕ × ℕ) → (names tags : ℕ) → ℕ × ℕ
lower None n m = (n, m)
lower (Some p) n m = (min p.0 n, min p.1 m)

abbrev pub opened_by : Opened → (names tags : ℕ) → Opened
opened_by o n m = record { marks = Some (lower o.marks n m) }

abbrev pub closed_to : Option (ℕ × ℕ) → State → State
closed_to None s = s
closed_to (Some p) s = record s { names = take p.0 s.names; tags = take p.1 s.tags }

abbrev pub closed_all : Opened → State → State
closed_all o s = closed_to o.marks s

-- ---- `if`

abbrev pub both_branches : Option TExpr → Option TStmt → Option Branch
both_branches (Some k) (Some a) = Some (branch k a)
both_branches _ _ = None

-- one more behind others
abbrev pub with_one : {A : Type 0} → Option (List A) → Option A → Option (List A)
with_one (Some all) (Some one) = Some (all ++ one ∷ [])
with_one _ _ = None

abbrev pub if_of : Option (List Branch) → Option (List Branch × TStmt) → Option TStmt
if_of (Some bs) (Some r) = Some (t.If (bs ++ r.0) r.1)
if_of _ _ = None

abbrev pub branch_row : Walk TExpr → Stated → Walk Branch
branch_row condition body = condition >>= λ k. scoped body >>= λ a. offer (both_branches k a)

-- ---- `for`

abbrev pub for_headed : State → Option TExpr → TStmt → TStmt
for_headed s None a = a
for_headed s (Some e) a = empty_block s (t.Evaluate e ∷ a ∷ [])

abbrev pub headed : State → Option (Option TExpr) → Option TStmt → Option TStmt
headed s (Some e) (Some a) = Some (for_headed s e a)
headed s _ _ = None

-- what the head of a `for` declares, and then the loop
abbrev pub then_loop : Walk Made → Walk TStmt → Walk Made
then_loop w v = w >>= λ made. v >>= λ a. both_asked made a (λ made a. give (made ++ a ∷ []))

-- ---- loops and `switch`, where their parts are there

abbrev pub while_of : Option TExpr → Option TStmt → Option TStmt
while_of (Some k) (Some a) = Some (t.While k a)
while_of _ _ = None

abbrev pub do_of : Option TStmt → Option TExpr → Option TStmt
do_of (Some a) (Some k) = Some (t.Do a k)
do_of _ _ = None

abbrev pub for_of : Option (Option TExpr) → Option (Option TExpr) → Option TStmt → Option TStmt
for_of (Some k) (Some e) (Some a) = Some (t.For k e a)
for_of _ _ _ = None

abbrev pub switch_of : Option TExpr → Option (Objects × List Part) → Option TStmt
switch_of (Some e) (Some r) = Some (t.Switch e r.0 r.1)
switch_of _ _ = None

-- ---- `switch`

abbrev pub switched : Pos → Expressed → Walk TExpr
switched at e = e.typed >>= λ o. asked o (operand_row at)

abbrev pub switch_body : List Itemised → Walk (Objects × List Part)
switch_body items = here (λ c s. with_objects (count_items (function_names s) items) (in_switch (parts_row no_parts true items)))

abbrev pub parting_of : Parting → statements.Parting
parting_of p = record { done = p.done; labels = p.labels; body = p.body; values = p.values; has_default = p.has_default }

-- the present part is done
abbrev pub ended : statements.Parting → statements.Parting
ended r = record r { done = r.done ++ part_if r.labels r.body; labels = []; body = [] }

-- a declaration or a statement in the present part
abbrev pub stating : statements.Parting → Option Made → Walk (statements.Parting × Bool)
stating r None = give (r, false)
stating r (Some made) = give (record r { body = r.body ++ made }, true)

abbrev pub stated_row : statements.Parting → Itemised → Walk (statements.Parting × Bool)
stated_row r i = item_row i >>= stating r

-- what a walk over an item of a `switch` gives: what is then done, and whether no fault stands in the item
abbrev pub WalksPart : Walk (statements.Parting × Bool) → Around → Found → Parting → Result Bool Memory → Found → Type 0
WalksPart w c old parting (Ok good) new = Gave (w (fixed c) old.state) old new (Some (parting_of parting, good))
WalksPart w c old parting (Err e) new = Unit {0}
