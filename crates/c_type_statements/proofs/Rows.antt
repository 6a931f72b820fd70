-- Each kind of statement, from what the walks of its parts gave.
-- The answers of the walks cite these lemmas, each that of its function.
use Rattle.std.proofs.Common.{◌≡◌, ◌∙◌, refl, ap, sym, subst, ℕ, Bool, true, false, List, [], ◌∷◌, ◌++◌, Option, Some, None, Result, IfOk, append_assoc}
use Rattle.std.proofs.lemmas.List.{append-nil}
use Rattle.std.specs.Option.{option_map, option_zip}
use Rattle.word_ops.specs.declared.memory.Memory.{Memory}
use Rattle.c_tree.specs.declared.token.Pos.{Pos}
use Rattle.c_tree.specs.declared.expression.Expr.{Expr}
use Rattle.c_tree.specs.declared.statement.BlockItem.TheOpen.{Stmt-F}
use Rattle.c_tree.specs.declared.typed.expression.TExpr.{TExpr}
use Rattle.c_tree.specs.declared.typed.statement.TStmt.{TStmt}
use Rattle.c_tree.specs.declared.typed.statement.TStmt.TheVariants as t
use Rattle.c_tree.specs.declared.typed.statement.Objects.{Objects}
use Rattle.c_tree.specs.declared.typed.statement.Branch.{Branch}
use Rattle.c_tree.specs.declared.typed.statement.Part.{Part}
use Rattle.c_typing.specs.declared.fault.Fault.{Fault}
use Rattle.c_typing.specs.declared.operand.Operand.{Operand}
use Rattle.c_typing.specs.declared.scope.State.{State}
use Rattle.c_typing.specs.declared.scope.Local.{Local}
use Rattle.c_typing.specs.Scopes.{Walk, Said, give, offer, ◌>>=◌, asked, both_asked, scoped}
use Rattle.c_typing.specs.Scopes as scopes
use Rattle.c_typing.specs.Declarators.{Expressed}
use Rattle.c_typing.specs.Trees.{expr_typing}
use Rattle.c_typing.specs.Declarations.{Made}
use Rattle.c_typing.specs.OfStatements as spec
use Rattle.c_typing.specs.OfStatements.{Stated, Itemised, States, Parting, Controlling, branch, item_row, operand_row, First, in_loop, if_any, condition_row, dropped_row, loop_row, owning, with_objects, objects_of, typed_stmt}
use Rattle.c_type_walk.specs.Walks.{Gave, Walks, fixed}
use Rattle.c_type_walk.specs.declared.around.Around.{Around}
use Rattle.c_type_walk.specs.declared.found.Found.{Found}
use Rattle.c_type_walk.proofs.Walked.{then, gives, asks_nothing, answered, in_own_scope, in_scope, closed_at}
use Rattle.c_type_statements.specs.Statements.{expression_row, while_of, do_of, for_of, headed, empty_block, with_one, both_branches, if_of, switch_of, branch_row, switched, switch_body, then_loop, opened_state, opened_around, stating, stated_row}
use Rattle.c_type_statements.proofs.Owned.{with_own_objects}

-- ---- loops

while_made : (k : Option TExpr) (a : Option TStmt) (c : scopes.Around) (now : Found) → Gave (both_asked k a (λ k a. give (t.While k a)) c now.state) now now (while_of k a)
while_made (Some k) (Some a) c now = gives (t.While k a) c now
while_made (Some k) None c now = asks_nothing c now
while_made None (Some a) c now = asks_nothing c now
while_made None None c now = asks_nothing c now

pub while_walked : (at : Pos) (e : Expressed) (body : Stated) (c within : Around) (old now mid new : Found) (k : Option TExpr) (a : Option TStmt) (r : Result (Option TStmt) Memory) →
    fixed within ≡ in_scope (fixed c) old.state → Gave (condition_row at e (fixed within) old.state) old now k →
    Gave (scoped (in_loop body) (fixed within) now.state) now mid a →
    new.faults ≡ mid.faults → new.state ≡ closed_at within.names_from within.tags_from mid.state →
    IfOk r (λ x. x ≡ while_of k a) → Walks (spec.while_row at e body) c old r new
while_walked at e body c within old now mid new k a r w g h f s i =
    let last : Option TExpr → Option TStmt → Walk TStmt = λ k a. both_asked k a (λ k a. give (t.While k a)) in
    let rest : Option TExpr → Walk TStmt = λ k. scoped (in_loop body) >>= last k in
    answered (spec.while_row at e body) c old new r (while_of k a) i
    (in_own_scope (condition_row at e >>= rest) (fixed c) within old mid new (while_of k a) w
    (then (condition_row at e) rest (fixed within) old now mid k (while_of k a) g
    (then (scoped (in_loop body)) (last k) (fixed within) now mid mid a (while_of k a) h (while_made k a (fixed within) mid))) f s)

do_made : (a : Option TStmt) (k : Option TExpr) (c : scopes.Around) (now : Found) → Gave (both_asked k a (λ k a. give (t.Do a k)) c now.state) now now (do_of a k)
do_made (Some a) (Some k) c now = gives (t.Do a k) c now
do_made None (Some k) c now = asks_nothing c now
do_made (Some a) None c now = asks_nothing c now
do_made None None c now = asks_nothing c now

pub do_walked : (at : Pos) (body : Stated) (e : Expressed) (c within : Around) (old now mid new : Found) (a : Option TStmt) (k : Option TExpr) (r : Result (Option TStmt) Memory) →
    fixed within ≡ in_scope (fixed c) old.state → Gave (scoped (in_loop body) (fixed within) old.state) old now a →
    Gave (condition_row at e (fixed within) now.state) now mid k →
    new.faults ≡ mid.faults → new.state ≡ closed_at within.names_from within.tags_from mid.state →
    IfOk r (λ x. x ≡ do_of a k) → Walks (spec.do_row at body e) c old r new
do_walked at body e c within old now mid new a k r w g h f s i =
    let last : Option TStmt → Option TExpr → Walk TStmt = λ a k. both_asked k a (λ k a. give (t.Do a k)) in
    let rest : Option TStmt → Walk TStmt = λ a. condition_row at e >>= last a in
    answered (spec.do_row at body e) c old new r (do_of a k) i
    (in_own_scope (scoped (in_loop body) >>= rest) (fixed c) within old mid new (do_of a k) w
    (then (scoped (in_loop body)) rest (fixed within) old now mid a (do_of a k) g
    (then (condition_row at e) (last a) (fixed within) now mid mid k (do_of a k) h (do_made a k (fixed within) mid))) f s)

for_made : (k e : Option (Option TExpr)) (a : Option TStmt) (c : scopes.Around) (now : Found) →
    Gave (both_asked k e (λ k e. asked a (λ a. give (t.For k e a))) c now.state) now now (for_of k e a)
for_made (Some k) (Some e) (Some a) c now = gives (t.For k e a) c now
for_made (Some k) (Some e) None c now = asks_nothing c now
for_made (Some k) None (Some a) c now = asks_nothing c now
for_made (Some k) None None c now = asks_nothing c now
for_made None (Some e) (Some a) c now = asks_nothing c now
for_made None (Some e) None c now = asks_nothing c now
for_made None None (Some a) c now = asks_nothing c now
for_made None None None c now = asks_nothing c now

pub loop_walked : (at : Pos) (control : Controlling) (body : Stated) (c : Around) (old now mid new : Found) (k e : Option (Option TExpr)) (a : Option TStmt) (r : Result (Option TStmt) Memory) →
    Gave (if_any (condition_row at) control.condition (fixed c) old.state) old now k →
    Gave (if_any dropped_row control.step (fixed c) now.state) now mid e →
    Gave (scoped (in_loop body) (fixed c) mid.state) mid new a →
    IfOk r (λ x. x ≡ for_of k e a) → Walks (loop_row at control body) c old r new
loop_walked at control body c old now mid new k e a r g h l i =
    let last : Option (Option TExpr) → Option (Option TExpr) → Option TStmt → Walk TStmt = λ k e a. both_asked k e (λ k e. asked a (λ a. give (t.For k e a))) in
    let third : Option (Option TExpr) → Option (Option TExpr) → Walk TStmt = λ k e. scoped (in_loop body) >>= last k e in
    let second : Option (Option TExpr) → Walk TStmt = λ k. if_any dropped_row control.step >>= third k in
    answered (loop_row at control body) c old new r (for_of k e a) i
    (then (if_any (condition_row at) control.condition) second (fixed c) old now new k (for_of k e a) g
    (then (if_any dropped_row control.step) (third k) (fixed c) now mid new e (for_of k e a) h
    (then (scoped (in_loop body)) (last k e) (fixed c) mid new new a (for_of k e a) l (for_made k e a (fixed c) new))))

head_made : (e : Option (Option TExpr)) (a : Option TStmt) (c : scopes.Around) (now : Found) → Gave (both_asked e a spec.for_head c now.state) now now (headed now.state e a)
head_made (Some None) (Some a) c now = gives a c now
head_made (Some (Some e)) (Some a) c now = gives (empty_block now.state (t.Evaluate e ∷ a ∷ [])) c now
head_made (Some None) None c now = asks_nothing c now
head_made (Some (Some e)) None c now = asks_nothing c now
head_made None (Some a) c now = asks_nothing c now
head_made None None c now = asks_nothing c now

pub first_walked : (at : Pos) (control : Controlling) (body : Stated) (first : Option Expressed) (c within : Around) (old now mid new : Found) (e : Option (Option TExpr)) (a o : Option TStmt) →
    fixed within ≡ in_scope (fixed c) old.state → Gave (if_any dropped_row first (fixed within) old.state) old now e →
    Gave (loop_row at control body (fixed within) now.state) now mid a → o ≡ headed mid.state e a →
    new.faults ≡ mid.faults → new.state ≡ closed_at within.names_from within.tags_from mid.state →
    Gave (spec.for_row at control body (First first) (fixed c) old.state) old new o
first_walked at control body first c within old now mid new e a o w g h i f s =
    let last : Option (Option TExpr) → Option TStmt → Walk TStmt = λ e a. both_asked e a spec.for_head in
    let rest : Option (Option TExpr) → Walk TStmt = λ e. loop_row at control body >>= last e in
    let made : Gave (spec.for_row at control body (First first) (fixed c) old.state) old new (headed mid.state e a) =
    in_own_scope (if_any dropped_row first >>= rest) (fixed c) within old mid new (headed mid.state e a) w
    (then (if_any dropped_row first) rest (fixed within) old now mid e (headed mid.state e a) g
    (then (loop_row at control body) (last e) (fixed within) now mid mid a (headed mid.state e a) h (head_made e a (fixed within) mid))) f s in
    record { is = i ∙ made.is; faults = made.faults; state = made.state }

-- ---- blocks

-- a block with its scope ends
pub objects_walked : {A : Type 0} (count : ℕ) (w : Walk A) (c scope within : Around) (old begun ended after new : Found) (own : List Local) (declared : ℕ) (objects : Objects) (a : Option A) →
    fixed scope ≡ in_scope (fixed c) old.state →
    begun.faults ≡ old.faults → begun.state ≡ opened_state count old.state →
    own ≡ old.state.own → declared ≡ old.state.declared → fixed within ≡ opened_around count old.state (fixed scope) →
    Gave (w (fixed within) begun.state) begun ended a →
    objects ≡ record { first = declared; list = objects_of ended.state ended.state.own } →
    after.faults ≡ ended.faults → after.state ≡ record (ended.state) { own = own } →
    new.faults ≡ after.faults → new.state ≡ closed_at scope.names_from scope.tags_from after.state →
    Gave (with_objects count w (fixed c) old.state) old new (option_map (λ (a : A). (objects, a)) a)
objects_walked {A} count w c scope within old begun ended after new own declared objects a e f h p q v g o k l m n =
    in_own_scope (owning count w) (fixed c) scope old after new (option_map (λ (a : A). (objects, a)) a) e
    (with_own_objects count w (fixed scope) within old begun ended after objects a v f h g
    (o ∙ ap (λ (d : ℕ). record { first = d; list = objects_of ended.state ended.state.own }) q) k
    (l ∙ ap (λ (x : List Local). record (ended.state) { own = x }) p)) m n

block_made : (objects : Objects) (made : Option Made) (c : scopes.Around) (now : Found) →
    Gave (spec.block_of (option_map (λ (made : Made). (objects, made)) made) c now.state) now now (option_map (λ (made : Made). t.Block objects made) made)
block_made objects (Some made) c now = gives (t.Block objects made) c now
block_made objects None c now = asks_nothing c now

pub blocked : (count : ℕ) (w : Walk Made) (c : scopes.Around) (old new : Found) (objects : Objects) (made : Option Made) (o : Option TStmt) →
    Gave (with_objects count w c old.state) old new (option_map (λ (made : Made). (objects, made)) made) →
    o ≡ option_map (λ (made : Made). t.Block objects made) made → Gave ((with_objects count w >>= spec.block_of) c old.state) old new o
blocked count w c old new objects made o g e =
    let all = then (with_objects count w) spec.block_of c old new new (option_map (λ (made : Made). (objects, made)) made) (option_map (λ (made : Made). t.Block objects made) made) g
    (block_made objects made c new) in
    record { is = e ∙ all.is; faults = all.faults; state = all.state }

-- what the head of a `for` declares, and then the loop
loop_made : (made : Option Made) (a : Option TStmt) (c : scopes.Around) (now : Found) →
    Gave (both_asked made a (λ made a. give (made ++ a ∷ [])) c now.state) now now (with_one made a)
loop_made (Some made) (Some a) c now = gives (made ++ a ∷ []) c now
loop_made (Some made) None c now = asks_nothing c now
loop_made None (Some a) c now = asks_nothing c now
loop_made None None c now = asks_nothing c now

pub loop_walks : (w : Walk Made) (v : Walk TStmt) (c : Around) (old now new : Found) (made : Option Made) (a : Option TStmt) (r : Result (Option Made) Memory) →
    Gave (w (fixed c) old.state) old now made → Gave (v (fixed c) now.state) now new a → IfOk r (λ x. x ≡ with_one made a) → Walks (then_loop w v) c old r new
loop_walks w v c old now new made a r g h i =
    let last : Option Made → Option TStmt → Walk Made = λ made a. both_asked made a (λ made a. give (made ++ a ∷ [])) in
    let rest : Option Made → Walk Made = λ made. v >>= last made in
    answered (then_loop w v) c old new r (with_one made a) i
    (then w rest (fixed c) old now new made (with_one made a) g (then v (last made) (fixed c) now new new a (with_one made a) h (loop_made made a (fixed c) new)))

-- ---- `if`

abbrev pub if_inner : Walk TExpr → Stated → Walk (List Branch × TStmt) → Walk TStmt
if_inner condition body rest =
    condition >>= λ k. scoped body >>= λ a. rest >>= λ r. both_asked k a (λ k a. asked r (λ r. give (t.If (branch k a ∷ r.0) r.1)))

abbrev lone : Option Branch → Option (List Branch)
lone b = option_map (λ (b : Branch). b ∷ []) b

abbrev if_made_said : Option TExpr → Option TStmt → Option (List Branch × TStmt) → State → Said TStmt
if_made_said k a r s = record { faults = []; given = if_of (lone (both_branches k a)) r; state = s }

if_made : (k : Option TExpr) (a : Option TStmt) (r : Option (List Branch × TStmt)) (c : scopes.Around) (s : State) →
    both_asked k a (λ k a. asked r (λ r. give (t.If (branch k a ∷ r.0) r.1))) c s ≡ if_made_said k a r s
if_made None None r c s = refl
if_made None (Some a) r c s = refl
if_made (Some k) None r c s = refl
if_made (Some k) (Some a) None c s = refl
if_made (Some k) (Some a) (Some r) c s = refl

abbrev if_said : Said Branch → Said (List Branch × TStmt) → Said TStmt
if_said b r = record { faults = b.faults ++ r.faults; given = if_of (lone b.given) r.given; state = r.state }

if_says : (condition : Walk TExpr) (body : Stated) (rest : Walk (List Branch × TStmt)) (c : scopes.Around) (s : State) →
    if_inner condition body rest c s ≡ if_said (branch_row condition body c s) (rest c (branch_row condition body c s).state)
if_says condition body rest c s =
    let k = condition c s in
    let a = scoped body c k.state in
    let r = rest c a.state in
    let last : Said TStmt → Said TStmt = λ l. record { faults = k.faults ++ (a.faults ++ (r.faults ++ l.faults)); given = l.given; state = l.state } in
    let flat : k.faults ++ (a.faults ++ (r.faults ++ [])) ≡ (k.faults ++ (a.faults ++ [])) ++ r.faults = simp (append_assoc, append-nil) in
    ap last (if_made k.given a.given r.given c r.state)
    ∙ (λ i. record { faults = flat i; given = if_of (lone (both_branches k.given a.given)) r.given; state = r.state })

pub if_walked : (condition : Walk TExpr) (body : Stated) (rest : Walk (List Branch × TStmt)) (c within : Around) (old now mid new : Found)
    (b : Option Branch) (first : Option (List Branch)) (r : Option (List Branch × TStmt)) (result : Result (Option TStmt) Memory) →
    fixed within ≡ in_scope (fixed c) old.state → Gave (branch_row condition body (fixed within) old.state) old now b →
    first ≡ option_map (λ (b : Branch). b ∷ []) b → Gave (rest (fixed within) now.state) now mid r →
    new.faults ≡ mid.faults → new.state ≡ closed_at within.names_from within.tags_from mid.state →
    IfOk result (λ x. x ≡ if_of first r) → Walks (scoped (if_inner condition body rest)) c old result new
if_walked condition body rest c within old now mid new b first r result w g e h f s i =
    let d = fixed within in
    let B = branch_row condition body d old.state in
    let R = rest d B.state in
    let says = if_says condition body rest d old.state in
    let inner : Gave (if_inner condition body rest d old.state) old mid (if_of first r) = record {
      is =
          ap (λ (l : Option (List Branch)). if_of l r) e
          ∙ ap (λ (o : Option Branch). if_of (lone o) r) g.is
          ∙ ap (λ (o : Option (List Branch × TStmt)). if_of (lone B.given) o) h.is
          ∙ ap (λ (s : State). if_of (lone B.given) (rest d s).given) g.state
          ∙ ap (λ (x : Said TStmt). x.given) (sym says);
      faults =
          h.faults
          ∙ ap (λ (fs : List Fault). fs ++ (rest d now.state).faults) g.faults
          ∙ ap (λ (s : State). (old.faults ++ B.faults) ++ (rest d s).faults) g.state
          ∙ append_assoc old.faults B.faults R.faults
          ∙ ap (λ (x : Said TStmt). old.faults ++ x.faults) (sym says);
      state = h.state ∙ ap (λ (s : State). (rest d s).state) g.state ∙ ap (λ (x : Said TStmt). x.state) (sym says);
    } in
    answered (scoped (if_inner condition body rest)) c old new result (if_of first r) i
    (in_own_scope (if_inner condition body rest) (fixed c) within old mid new (if_of first r) w inner f s)

offers : {A : Type 0} (o : Option A) (c : scopes.Around) (now : Found) → Gave (offer o c now.state) now now o
offers o c now = record { is = refl; faults = sym (append-nil now.faults); state = refl }

pub branch_walked : (condition : Walk TExpr) (body : Stated) (c : scopes.Around) (old now new : Found) (k : Option TExpr) (a : Option TStmt) (b : Option Branch) →
    Gave (condition c old.state) old now k → Gave (scoped body c now.state) now new a → b ≡ both_branches k a → Gave (branch_row condition body c old.state) old new b
branch_walked condition body c old now new k a b g h e =
    let last : Option TExpr → Option TStmt → Walk Branch = λ k a. offer (both_branches k a) in
    let rest : Option TExpr → Walk Branch = λ k. scoped body >>= last k in
    let whole = then condition rest c old now new k (both_branches k a) g (then (scoped body) (last k) c now new new a (both_branches k a) h (offers (both_branches k a) c new)) in
    record { is = e ∙ whole.is; faults = whole.faults; state = whole.state }

-- ---- `switch`

bind_assoc : {A B C : Type 0} (w : Walk A) (f : Option A → Walk B) (g : Option B → Walk C) (c : scopes.Around) (old new : Found) (x : Option C) →
    Gave (((w >>= f) >>= g) c old.state) old new x → Gave ((w >>= λ a. f a >>= g) c old.state) old new x
bind_assoc w f g c old new x h =
    let a = w c old.state in
    let b = f a.given c a.state in
    let d = g b.given c b.state in
    record { is = h.is; faults = h.faults ∙ ap (λ (fs : List Fault). old.faults ++ fs) (append_assoc a.faults b.faults d.faults); state = h.state }

-- objects beside what was made with them
paired_is : {A B : Type 0} (a : A) (b : Option B) → option_zip (Some a) b ≡ option_map (λ (b : B). (a, b)) b
paired_is a None = refl
paired_is a (Some b) = refl

pub paired : {A B : Type 0} (said : Said (A × B)) (old new : Found) (a : A) (b : Option B) (given : Option (A × B)) →
    given ≡ option_zip (Some a) b → Gave said old new (option_map (λ (b : B). (a, b)) b) → Gave said old new given
paired said old new a b given e g = record { is = e ∙ paired_is a b ∙ g.is; faults = g.faults; state = g.state }

switch_made : (e : Option TExpr) (r : Option (Objects × List Part)) (c : scopes.Around) (now : Found) →
    Gave (both_asked e r (λ e r. give (t.Switch e r.0 r.1)) c now.state) now now (switch_of e r)
switch_made (Some e) (Some r) c now = gives (t.Switch e r.0 r.1) c now
switch_made (Some e) None c now = asks_nothing c now
switch_made None (Some r) c now = asks_nothing c now
switch_made None None c now = asks_nothing c now

pub switch_walked : (at : Pos) (e : Expressed) (items : List Itemised) (c within : Around) (old now mid new : Found) (o : Option TExpr) (r : Option (Objects × List Part)) (x : Option TStmt) →
    fixed within ≡ in_scope (fixed c) old.state → Gave (switched at e (fixed within) old.state) old now o →
    Gave (switch_body items (fixed within) now.state) now mid r → x ≡ switch_of o r →
    new.faults ≡ mid.faults → new.state ≡ closed_at within.names_from within.tags_from mid.state →
    Gave (spec.switch_row at e items (fixed c) old.state) old new x
switch_walked at e items c within old now mid new o r x w g h i f s =
    let last : Option TExpr → Option (Objects × List Part) → Walk TStmt = λ e r. both_asked e r (λ e r. give (t.Switch e r.0 r.1)) in
    let rest : Option TExpr → Walk TStmt = λ e. switch_body items >>= last e in
    let operand : Option Operand → Walk TExpr = λ v. asked v (operand_row at) in
    let inner = then (switched at e) rest (fixed within) old now mid o (switch_of o r) g
    (then (switch_body items) (last o) (fixed within) now mid mid r (switch_of o r) h (switch_made o r (fixed within) mid)) in
    let made : Gave (spec.switch_row at e items (fixed c) old.state) old new (switch_of o r) =
    in_own_scope (e.typed >>= λ v. operand v >>= rest) (fixed c) within old mid new (switch_of o r) w
    (bind_assoc e.typed operand rest (fixed within) old mid (switch_of o r) inner) f s in
    record { is = i ∙ made.is; faults = made.faults; state = made.state }

-- ---- an item of a block

pub stated : (w : Stated) (c : scopes.Around) (old new : Found) (o : Option TStmt) (a : TStmt) (made : Made) →
    Gave (w c old.state) old new o → o ≡ Some a → made ≡ a ∷ [] → Gave (spec.item_row (States w) c old.state) old new (Some made)
stated w c old new o a made g k e =
    let next : Option TStmt → Walk Made = λ a. asked a (λ a. give (a ∷ [])) in
    let P : Option TStmt → Type 0 = λ x. Gave (w c old.state) old new x in
    let all = then w next c old new new (Some a) (Some (a ∷ [])) (subst P k g) (gives (a ∷ []) c new) in
    record { is = ap Some e ∙ all.is; faults = all.faults; state = all.state }

pub unstated : (w : Stated) (c : scopes.Around) (old new : Found) (o : Option TStmt) →
    Gave (w c old.state) old new o → o ≡ None → Gave (spec.item_row (States w) c old.state) old new None
unstated w c old new o g k =
    let next : Option TStmt → Walk Made = λ a. asked a (λ a. give (a ∷ [])) in
    let P : Option TStmt → Type 0 = λ x. Gave (w c old.state) old new x in
    then w next c old new new None None (subst P k g) (asks_nothing c new)

pub nothing_walked : (c : scopes.Around) (now : Found) (made : Made) → made ≡ [] → Gave (give {A = Made} [] c now.state) now now (Some made)
nothing_walked c now made e =
    let all = gives {A = Made} [] c now in
    record { is = ap Some e ∙ all.is; faults = all.faults; state = all.state }

-- ---- an item of a `switch`

pub in_part : (r : Parting) (i : Itemised) (c : scopes.Around) (old new : Found) (o : Option Made) (made : Made) (q : Parting) →
    Gave (item_row i c old.state) old new o → o ≡ Some made → q ≡ record r { body = r.body ++ made } → Gave (stated_row r i c old.state) old new (Some (q, true))
in_part r i c old new o made q g k e =
    let P : Option Made → Type 0 = λ x. Gave (item_row i c old.state) old new x in
    let inner : Parting × Bool = (record r { body = r.body ++ made }, true) in
    let all = then (item_row i) (stating r) c old new new (Some made) (Some inner) (subst P k g) (gives inner c new) in
    record { is = ap (λ (x : Parting). Some (x, true)) e ∙ all.is; faults = all.faults; state = all.state }

pub in_no_part : (r : Parting) (i : Itemised) (c : scopes.Around) (old new : Found) (o : Option Made) (q : Parting) →
    Gave (item_row i c old.state) old new o → o ≡ None → q ≡ r → Gave (stated_row r i c old.state) old new (Some (q, false))
in_no_part r i c old new o q g k e =
    let P : Option Made → Type 0 = λ x. Gave (item_row i c old.state) old new x in
    let all = then (item_row i) (stating r) c old new new None (Some (r, false)) (subst P k g) (gives (r, false) c new) in
    record { is = ap (λ (x : Parting). Some (x, false)) e ∙ all.is; faults = all.faults; state = all.state }

-- ---- a statement of nothing

pub nothing_done : (c : scopes.Around) (now : Found) (made : Made) (a : TStmt) → made ≡ [] → a ≡ empty_block now.state made → Gave (spec.empty [] c now.state) now now (Some a)
nothing_done c now made a e k = record {
  is = ap Some (k ∙ ap (λ (m : Made). empty_block now.state m) e);
  faults = sym (append-nil now.faults);
  state = refl;
}

-- an expression statement is the row of its expression
pub expression_typed : (value : Option Expr) (semicolon : Pos) → typed_stmt (Stmt-F.Expression value semicolon) ≡ expression_row (option_map expr_typing value)
expression_typed None semicolon = refl
expression_typed (Some e) semicolon = refl
