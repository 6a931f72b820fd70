-- The code of each form of statement, over plain lists.
-- No contract cites this file: it holds proofs.
use Rattle.std.proofs.Common.{◌≡◌, refl, sym, ap, ◌∙◌, ℕ, suc, List, [], ◌∷◌}
use Rattle.std.specs.Prelude.{Option}
use Rattle.core_lang.specs.declared.act.Atom.{Atom}
use Rattle.core_lang.specs.declared.act.Atom.TheVariants as at
use Rattle.core_lang.specs.declared.act.Core.TheVariants as c
use Rattle.c_tree.specs.declared.typed.expression.TExpr.{TExpr}
use Rattle.c_tree.specs.declared.typed.statement.TStmt.{TStmt, Row_of-TStmt, end_of-TStmt, more_of-TStmt, Row_of-Branch, end_of-Branch, more_of-Branch, Row_of-Part, end_of-Part, more_of-Part, items-the_row-TStmt, items_hidden-the_row-TStmt-0, items_shown-the_row-TStmt-0, items-the_row-Branch, items_hidden-the_row-Branch-1, items-the_row-Part, items_hidden-the_row-Part-3}
use Rattle.c_tree.specs.declared.typed.statement.TStmt.TheVariants as s
use Rattle.c_tree.specs.declared.typed.statement.TStmt.TheBlock.{hidden-the_row-TStmt-0, shown-the_row-TStmt-0, hidden-the_row-Branch-1, hidden-the_row-Part-3}
use Rattle.c_tree.specs.declared.typed.statement.Branch.{Branch}
use Rattle.c_tree.specs.declared.typed.statement.Part.{Part}
use Rattle.c_tree.specs.declared.typed.statement.Objects.{Objects}
use Rattle.lowering_form.specs.Code.{Code, begun, with_act}
use Rattle.lowering_form.specs.Places.{Scope}
use Rattle.lowering_form.specs.Expressions.{value_code}
use Rattle.lowering_form.specs.Objects.{Body, Declared, with_code, inside, closed, all_declared}
use Rattle.lowering_form.specs.Statements.{in_block, in_loop, with_switch, evaluated_if_any, tested, tested_if_any, loop_body, looped, chosen_by, left_by, has_default, first_or_behind, default_part, labels_code, dispatch_code, found_code, part_code, switched, statement_code, statements_code, if_code, branches_code, parts_code}

-- ---- the same over lists

-- statements one behind the other
abbrev pub statements_of : List TStmt → Scope → Body → Body
statements_of [] sc b = b
statements_of (a ∷ rest) sc b = statements_of rest sc (statement_code a sc b)

-- the conditions of an `if` in order
abbrev pub branches_of : List Branch → Scope → Body → Body
branches_of [] sc b = b
branches_of (a ∷ rest) sc b =
    branches_of rest sc (left_by (value_code a.condition sc b.code) (statement_code a.body sc) b)

-- an `if`
abbrev pub if_of : List Branch → (last : Scope → Body → Body) → Scope → Body → Body
if_of [] last sc b = closed c.Block b.code (last (in_block sc) (inside b))
if_of (a ∷ []) last sc b = chosen_by (value_code a.condition sc b.code) (statement_code a.body sc) (last sc) b
if_of (a ∷ d ∷ rest) last sc b =
    let first = left_by (value_code a.condition sc (begun b.code)) (statement_code a.body (in_block sc)) (inside b) in
    closed c.Block b.code (last (in_block sc) (branches_of (d ∷ rest) (in_block sc) first))

-- the part with `default`, or else how many parts there are
abbrev pub default_of : List Part → ℕ
default_of [] = 0
default_of (p ∷ rest) = first_or_behind (has_default p.labels) (default_of rest)

-- the labels of the parts, the last part first
abbrev pub dispatch_of : (switch : ℕ) → (operand : Atom) → (part : ℕ) → List Part → Code → Code
dispatch_of x v i [] k = k
dispatch_of x v i (p ∷ rest) k = labels_code x v i p.labels (dispatch_of x v (suc i) rest k)

-- the number of the first part that runs goes into the variable of the switch
abbrev pub found_of : (switch : ℕ) → (operand : Atom) → List Part → Code → Code
found_of x v parts k = dispatch_of x v 0 parts (with_act (c.Move x (at.Word (default_of parts))) k)

-- the parts of a switch from one on
abbrev pub parts_of : List Part → (switch part : ℕ) → Scope → Body → Body
parts_of [] x i sc b = b
parts_of (p ∷ rest) x i sc b = parts_of rest x (suc i) sc (part_code x i (statements_of p.body sc) b)

-- ---- a row is lowered as its list

statements-row : (n : _) (r : Row_of-TStmt n) → statements_code r ≡ statements_of (items-the_row-TStmt n r)
statements-row n end_of-TStmt = refl
statements-row n (more_of-TStmt a rest) =
    ap {B = Scope → Body → Body} (λ f sc b. f sc (statement_code a sc b)) (statements-row _ rest)

branches-row : (n : _) (r : Row_of-Branch n) → branches_code r ≡ branches_of (items-the_row-Branch n r)
branches-row n end_of-Branch = refl
branches-row n (more_of-Branch e a rest) =
    ap {B = Scope → Body → Body} (λ f sc b. f sc (left_by (value_code e sc b.code) (statement_code a sc) b)) (branches-row _ rest)

if-row : (n : _) (r : Row_of-Branch n) → if_code r ≡ if_of (items-the_row-Branch n r)
if-row n end_of-Branch = refl
if-row n (more_of-Branch e a end_of-Branch) = refl
if-row n (more_of-Branch e a (more_of-Branch f d rest)) =
    ap {B = (Scope → Body → Body) → Scope → Body → Body} (λ g last sc b. closed c.Block b.code (last (in_block sc) (g (in_block sc) (left_by (value_code e sc (begun b.code)) (statement_code a (in_block sc)) (inside b))))) (branches-row _ (more_of-Branch f d rest))

default-row : (n : _) (r : Row_of-Part n) → default_part r ≡ default_of (items-the_row-Part n r)
default-row n end_of-Part = refl
default-row n (more_of-Part labels m body rest) = ap (first_or_behind (has_default labels)) (default-row _ rest)

dispatch-row : (x : ℕ) (v : Atom) (i : ℕ) (n : _) (r : Row_of-Part n) →
    dispatch_code x v i r ≡ dispatch_of x v i (items-the_row-Part n r)
dispatch-row x v i n end_of-Part = refl
dispatch-row x v i n (more_of-Part labels m body rest) =
    ap {B = Code → Code} (λ f k. labels_code x v i labels (f k)) (dispatch-row x v (suc i) _ rest)

body-row : (m : _) (body : Row_of-TStmt _) → statements_code body ≡ statements_of (shown-the_row-TStmt-0 m body)
body-row m body = statements-row _ body ∙ ap statements_of (sym (items_shown-the_row-TStmt-0 m body))

parts-row : (n : _) (r : Row_of-Part n) → parts_code r ≡ parts_of (items-the_row-Part n r)
parts-row n end_of-Part = refl
parts-row n (more_of-Part labels m body rest) =
    ap {B = ℕ → ℕ → Scope → Body → Body} (λ (f : Scope → Body → Body) x i sc b. parts_code rest x (suc i) sc (part_code x i (f sc) b)) (body-row m body)
    ∙ ap {B = ℕ → ℕ → Scope → Body → Body} (λ (f : ℕ → ℕ → Scope → Body → Body) x i sc b. f x (suc i) sc (part_code x i (statements_of (shown-the_row-TStmt-0 m body) sc) b)) (parts-row _ rest)

-- ---- each form

pub statement-Block : (objects : Objects) (all : List TStmt) (sc : Scope) (b : Body) →
    statement_code (s.Block objects all) sc b ≡ (let inner = all_declared objects.first objects.list sc b in statements_of all inner.scope inner.body)
statement-Block objects all sc b =
    ap (λ f. let inner = all_declared objects.first objects.list sc b in f inner.scope inner.body) (statements-row _ (hidden-the_row-TStmt-0 all) ∙ ap statements_of (items_hidden-the_row-TStmt-0 all))

pub statement-If : (branches : List Branch) (last : TStmt) (sc : Scope) (b : Body) →
    statement_code (s.If branches last) sc b ≡ if_of branches (statement_code last) sc b
unfolding Rattle.c_tree.specs.declared.typed.statement.TStmt.TheBlock.hidden-the_row-TStmt-2 denote.Hole.Carrier.hidden
statement-If branches last sc b =
    ap (λ f. f (statement_code last) sc b) (if-row _ (hidden-the_row-Branch-1 branches) ∙ ap if_of (items_hidden-the_row-Branch-1 branches))

pub statement-While : (e : TExpr) (a : TStmt) (sc : Scope) (b : Body) →
    statement_code (s.While e a) sc b ≡ looped (λ b. loop_body (statement_code a (in_loop sc)) (tested e sc b)) b
unfolding Rattle.c_tree.specs.declared.typed.statement.TStmt.TheBlock.hidden-the_row-TStmt-2 denote.Hole.Carrier.hidden
statement-While e a sc b = refl

pub statement-Do : (a : TStmt) (e : TExpr) (sc : Scope) (b : Body) →
    statement_code (s.Do a e) sc b ≡ looped (λ b. tested e sc (loop_body (statement_code a (in_loop sc)) b)) b
unfolding Rattle.c_tree.specs.declared.typed.statement.TStmt.TheBlock.hidden-the_row-TStmt-2 denote.Hole.Carrier.hidden
statement-Do a e sc b = refl

pub statement-For : (e f : Option TExpr) (a : TStmt) (sc : Scope) (b : Body) →
    statement_code (s.For e f a) sc b ≡ looped (λ b. evaluated_if_any f sc (loop_body (statement_code a (in_loop sc)) (tested_if_any e sc b))) b
unfolding Rattle.c_tree.specs.declared.typed.statement.TStmt.TheBlock.hidden-the_row-TStmt-2 denote.Hole.Carrier.hidden
statement-For e f a sc b = refl

pub statement-Switch : (e : TExpr) (objects : Objects) (parts : List Part) (sc : Scope) (b : Body) →
    statement_code (s.Switch e objects parts) sc b ≡ (let v = value_code e sc b.code in switched sc.level (found_of sc.level v.atom parts) (parts_of parts sc.level 0) (all_declared objects.first objects.list (with_switch sc) (with_code v.code b)))
statement-Switch e objects parts sc b =
    ap (λ (f : Code → Code). switched sc.level f (parts_code (hidden-the_row-Part-3 parts) sc.level 0) d) found
    ∙ ap (λ (f : ℕ → ℕ → Scope → Body → Body). switched sc.level (found_of sc.level v parts) (f sc.level 0) d) (parts-row _ (hidden-the_row-Part-3 parts) ∙ ap parts_of (items_hidden-the_row-Part-3 parts))
  where
    v : Atom
    v = (value_code e sc b.code).atom

    d : Declared
    d = all_declared objects.first objects.list (with_switch sc) (with_code (value_code e sc b.code).code b)

    found : found_code sc.level v (hidden-the_row-Part-3 parts) ≡ found_of sc.level v parts
    found =
        ap {B = Code → Code} (λ j k. dispatch_code sc.level v 0 (hidden-the_row-Part-3 parts) (with_act (c.Move sc.level (at.Word j)) k)) (default-row _ (hidden-the_row-Part-3 parts))
        ∙ ap {B = Code → Code} (λ (f : Code → Code) k. f (with_act (c.Move sc.level (at.Word (default_of (items-the_row-Part _ (hidden-the_row-Part-3 parts))))) k)) (dispatch-row sc.level v 0 _ (hidden-the_row-Part-3 parts))
        ∙ ap {B = Code → Code} (λ ps k. found_of sc.level v ps k) (items_hidden-the_row-Part-3 parts)
