-- What each form of statement does, over plain lists.
-- No contract cites this file: it holds proofs.
use Rattle.std.proofs.Common.{◌≡◌, refl, sym, ap, ◌∙◌, ℕ, zero, suc, List, [], ◌∷◌, length}
use Rattle.std.specs.Prelude.{◌==◌, Bool, Option, if◌then◌else◌}
use Rattle.word_ops.specs.Store.{Store, number_of}
use Rattle.word_ops.specs.Run.{Outside, Run, Gives, then_do, given, branch, loop}
use Rattle.c_tree.specs.declared.typed.expression.TExpr.{TExpr}
use Rattle.c_tree.specs.declared.typed.statement.TStmt.{TStmt, Row_of-TStmt, end_of-TStmt, more_of-TStmt, Row_of-Branch, end_of-Branch, more_of-Branch, Row_of-Part, end_of-Part, more_of-Part, items-the_row-TStmt, items_hidden-the_row-TStmt-0, items_shown-the_row-TStmt-0, items-the_row-Branch, items_hidden-the_row-Branch-1, items-the_row-Part, items_hidden-the_row-Part-3}
use Rattle.c_tree.specs.declared.typed.statement.TStmt.TheVariants as s
use Rattle.c_tree.specs.declared.typed.statement.TStmt.TheBlock.{hidden-the_row-TStmt-0, shown-the_row-TStmt-0, hidden-the_row-Branch-1, hidden-the_row-Part-3}
use Rattle.c_tree.specs.declared.typed.statement.Branch.{Branch}
use Rattle.c_tree.specs.declared.typed.statement.Part.{Part}
use Rattle.c_tree.specs.declared.typed.statement.Objects.{Objects}
use Rattle.c_tree.specs.declared.typed.statement.Label.{Label}
use Rattle.c_meaning.specs.Environment.{Environment}
use Rattle.c_meaning.specs.Expressions.{Calls, value}
use Rattle.c_meaning.specs.Statements.{Done, Normal, in_block, holds, holds_if_any, next, again, where_holds, behind_body, next_iteration, is_case, is_default, has_label, place_behind, part_with, parts_in, first_part, switch_body, statement, statements, first_holding, statements_from}

-- what a statement does, told its environment
abbrev pub Runs : Type 0
Runs = Environment → Store → Outside → Run Store Done

-- ---- the same over lists

-- statements one after another
abbrev pub statements_of : Calls → List TStmt → Runs
statements_of call [] env st w = Gives st w Normal
statements_of call (a ∷ rest) env st w =
    then_do (statement call a env st w) (λ st w d. next d (statements_of call rest env) st w)

-- the branches of an `if`
abbrev pub first_holding_of : Calls → List Branch → (last : Store → Outside → Run Store Done) → Runs
first_holding_of call [] last env st w = last st w
first_holding_of call (a ∷ rest) last env st w =
    then_do (holds call a.condition env st w) (λ st w b. branch b (statement call a.body env) (first_holding_of call rest last env) st w)

-- the parts of a switch from one on
abbrev pub statements_from_of : Calls → List Part → ℕ → Runs
statements_from_of call [] k env st w = Gives st w Normal
statements_from_of call (p ∷ rest) zero env st w =
    then_do (statements_of call p.body env st w) (λ st w d. next d (statements_from_of call rest zero env) st w)
statements_from_of call (p ∷ rest) (suc k) env st w = statements_from_of call rest k env st w

-- the first part with such a label, or the number of parts
abbrev pub part_with_of : (Label → Bool) → List Part → ℕ
part_with_of is [] = zero
part_with_of is (p ∷ rest) = place_behind (has_label is p.labels) (part_with_of is rest)

-- where a switch begins
abbrev pub first_part_of : ℕ → List Part → ℕ
first_part_of v parts =
    if part_with_of (is_case v) parts == length parts then part_with_of is_default parts else part_with_of (is_case v) parts

-- ---- a row does what its list does

statements-row : (call : Calls) (n : _) (r : Row_of-TStmt n) → statements call r ≡ statements_of call (items-the_row-TStmt n r)
statements-row call n end_of-TStmt = refl
statements-row call n (more_of-TStmt a rest) =
    ap {B = Runs} (λ k env st w. then_do (statement call a env st w) (λ st w d. next d (k env) st w)) (statements-row call _ rest)

first_holding-row : (call : Calls) (n : _) (r : Row_of-Branch n) →
    first_holding call r ≡ first_holding_of call (items-the_row-Branch n r)
first_holding-row call n end_of-Branch = refl
first_holding-row call n (more_of-Branch c a rest) =
    ap {B = (Store → Outside → Run Store Done) → Runs} (λ k last env st w. then_do (holds call c env st w) (λ st w b. branch b (statement call a env) (k last env) st w)) (first_holding-row call _ rest)

statements-list : (call : Calls) (all : List TStmt) → statements call (hidden-the_row-TStmt-0 all) ≡ statements_of call all
statements-list call all =
    statements-row call _ (hidden-the_row-TStmt-0 all) ∙ ap (λ es. statements_of call es) (items_hidden-the_row-TStmt-0 all)

statements_from-row : (call : Calls) (n : _) (r : Row_of-Part n) (k : ℕ) →
    statements_from call r k ≡ statements_from_of call (items-the_row-Part n r) k
statements_from-row call n end_of-Part k = refl
statements_from-row call n (more_of-Part labels m body rest) zero =
    ap {B = Runs} (λ k env st w. then_do (k env st w) (λ st w d. next d (statements_from call rest zero env) st w)) (statements-row call _ body ∙ ap (λ es. statements_of call es) (sym (items_shown-the_row-TStmt-0 m body)))
    ∙ ap {B = Runs} (λ k env st w. then_do (statements_of call (shown-the_row-TStmt-0 m body) env st w) (λ st w d. next d (k env) st w)) (statements_from-row call _ rest zero)
statements_from-row call n (more_of-Part labels m body rest) (suc k) = statements_from-row call _ rest k

part_with-row : (is : Label → Bool) (n : _) (r : Row_of-Part n) → part_with is r ≡ part_with_of is (items-the_row-Part n r)
part_with-row is n end_of-Part = refl
part_with-row is n (more_of-Part labels m body rest) = ap (place_behind (has_label is labels)) (part_with-row is _ rest)

parts_in-row : (n : _) (r : Row_of-Part n) → parts_in r ≡ length (items-the_row-Part n r)
parts_in-row n end_of-Part = refl
parts_in-row n (more_of-Part labels m body rest) = ap suc (parts_in-row _ rest)

first_part-row : (v : ℕ) (n : _) (r : Row_of-Part n) → first_part v r ≡ first_part_of v (items-the_row-Part n r)
first_part-row v n r =
    ap (λ i. if i == parts_in r then part_with is_default r else i) (part_with-row (is_case v) n r)
    ∙ ap (λ i. if part_with_of (is_case v) (items-the_row-Part n r) == i then part_with is_default r else part_with_of (is_case v) (items-the_row-Part n r)) (parts_in-row n r)
    ∙ ap (λ i. if part_with_of (is_case v) (items-the_row-Part n r) == length (items-the_row-Part n r) then i else part_with_of (is_case v) (items-the_row-Part n r)) (part_with-row is_default n r)

-- ---- each form

pub statement-Block : (call : Calls) (b : Objects) (all : List TStmt) (env : Environment) (st : Store) (w : Outside) →
    statement call (s.Block b all) env st w ≡ in_block b (statements_of call all) env st w
statement-Block call b all env st w = ap (λ k. in_block b k env st w) (statements-list call all)

pub statement-If : (call : Calls) (branches : List Branch) (last : TStmt) (env : Environment) (st : Store) (w : Outside) →
    statement call (s.If branches last) env st w ≡ first_holding_of call branches (statement call last env) env st w
unfolding Rattle.c_tree.specs.declared.typed.statement.TStmt.TheBlock.hidden-the_row-TStmt-2 denote.Hole.Carrier.hidden
statement-If call branches last env st w =
    ap (λ k. k (statement call last env) env st w) (first_holding-row call _ (hidden-the_row-Branch-1 branches) ∙ ap (λ es. first_holding_of call es) (items_hidden-the_row-Branch-1 branches))

pub statement-While : (call : Calls) (c : TExpr) (a : TStmt) (env : Environment) (st : Store) (w : Outside) →
    statement call (s.While c a) env st w ≡ loop (where_holds (holds call c env) (behind_body (statement call a env) again)) st w
unfolding Rattle.c_tree.specs.declared.typed.statement.TStmt.TheBlock.hidden-the_row-TStmt-2 denote.Hole.Carrier.hidden
statement-While call c a env st w = refl

pub statement-Do : (call : Calls) (a : TStmt) (c : TExpr) (env : Environment) (st : Store) (w : Outside) →
    statement call (s.Do a c) env st w ≡ loop (behind_body (statement call a env) (where_holds (holds call c env) again)) st w
unfolding Rattle.c_tree.specs.declared.typed.statement.TStmt.TheBlock.hidden-the_row-TStmt-2 denote.Hole.Carrier.hidden
statement-Do call a c env st w = refl

pub statement-For : (call : Calls) (c e : Option TExpr) (a : TStmt) (env : Environment) (st : Store) (w : Outside) →
    statement call (s.For c e a) env st w ≡ loop (where_holds (holds_if_any call c env) (behind_body (statement call a env) (next_iteration call e env))) st w
unfolding Rattle.c_tree.specs.declared.typed.statement.TStmt.TheBlock.hidden-the_row-TStmt-2 denote.Hole.Carrier.hidden
statement-For call c e a env st w = refl

pub statement-Switch : (call : Calls) (e : TExpr) (b : Objects) (parts : List Part) (env : Environment) (st : Store) (w : Outside) →
    statement call (s.Switch e b parts) env st w ≡ then_do (value call e env st w) (λ st w v. given (number_of v) (λ k. switch_body b (statements_from_of call parts (first_part_of k parts)) env st w))
statement-Switch call e b parts env st w =
    λ i. then_do (value call e env st w) (λ st w v. given (number_of v) (λ k. switch_body b (same k i) env st w))
  where
    same : (k : ℕ) →
        statements_from call (hidden-the_row-Part-3 parts) (first_part k (hidden-the_row-Part-3 parts)) ≡ statements_from_of call parts (first_part_of k parts)
    same k =
        statements_from-row call _ (hidden-the_row-Part-3 parts) (first_part k (hidden-the_row-Part-3 parts))
        ∙ ap (λ j. statements_from_of call (items-the_row-Part _ (hidden-the_row-Part-3 parts)) j) (first_part-row k _ (hidden-the_row-Part-3 parts))
        ∙ ap (λ ps. statements_from_of call ps (first_part_of k ps)) (items_hidden-the_row-Part-3 parts)
