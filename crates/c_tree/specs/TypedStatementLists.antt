-- What hangs together in typed statements, over plain lists.
use Rattle.std.proofs.Common.{◌≡◌, refl, sym, ap, ◌∙◌, ℕ, ◌+◌, List, [], ◌∷◌, length}
use Rattle.std.specs.Prelude.{Option}
use Rattle.c_tree.specs.declared.typed.expression.TExpr.{TExpr}
use Rattle.c_tree.specs.declared.typed.statement.TStmt.{TStmt, Row_of-TStmt, end_of-TStmt, more_of-TStmt, Row_of-Branch, end_of-Branch, more_of-Branch, Row_of-Part, end_of-Part, more_of-Part, items-the_row-TStmt, items_hidden-the_row-TStmt-0, items_shown-the_row-TStmt-0, items-the_row-Branch, items_hidden-the_row-Branch-1, items-the_row-Part, items_hidden-the_row-Part-3}
use Rattle.c_tree.specs.declared.typed.statement.TStmt.TheVariants as s
use Rattle.c_tree.specs.declared.typed.statement.TStmt.TheBlock.{hidden-the_row-TStmt-0, shown-the_row-TStmt-0, hidden-the_row-Branch-1, hidden-the_row-Part-3}
use Rattle.c_tree.specs.declared.typed.statement.Branch.{Branch}
use Rattle.c_tree.specs.declared.typed.statement.Part.{Part}
use Rattle.c_tree.specs.declared.typed.statement.Objects.{Objects}
use Rattle.c_tree.specs.TypedKinds.{Kind, Names, IsInteger, IsOfKind}
use Rattle.c_tree.specs.TypedUnits.{with_declared, Jumps, in_loop, in_switch, IsCondition, IsConditionIfAny, IsDroppedIfAny, IsDeclaring, declared_in, declared_in_all, declared_in_branches, declared_in_parts, IsStatement, AreStatements, AreBranches, AreParts}

-- ---- the same over lists

-- how many objects statements declare
abbrev pub declared_all : List TStmt → ℕ
declared_all [] = 0
declared_all (a ∷ rest) = declared_in a + declared_all rest

-- how many the branches of an `if` declare
abbrev pub declared_branches : List Branch → ℕ
declared_branches [] = 0
declared_branches (b ∷ rest) = declared_in b.body + declared_branches rest

-- how many the parts of a switch declare
abbrev pub declared_parts : List Part → ℕ
declared_parts [] = 0
declared_parts (p ∷ rest) = declared_all p.body + declared_parts rest

-- statements hang together, one behind the other
abbrev pub AllStatements : Names → Jumps → (declared : ℕ) → List TStmt → Type 0
AllStatements c j n [] = Unit {0}
AllStatements c j n (a ∷ rest) = IsStatement c j n a × AllStatements c j (n + declared_in a) rest

-- branches of an `if` hang together
abbrev pub AllBranches : Names → Jumps → (declared : ℕ) → List Branch → Type 0
AllBranches c j n [] = Unit {0}
AllBranches c j n (b ∷ rest) =
    IsCondition c b.condition × IsStatement c j n b.body × AllBranches c j (n + declared_in b.body) rest

-- parts of a switch hang together
abbrev pub AllParts : Names → Jumps → (declared : ℕ) → List Part → Type 0
AllParts c j n [] = Unit {0}
AllParts c j n (p ∷ rest) = AllStatements c j n p.body × AllParts c j (n + declared_all p.body) rest

-- ---- a row is its list

declared-row : (n : _) (r : Row_of-TStmt n) → declared_in_all r ≡ declared_all (items-the_row-TStmt n r)
declared-row n end_of-TStmt = refl
declared-row n (more_of-TStmt a rest) = ap (λ i. declared_in a + i) (declared-row _ rest)

declared_branches-row : (n : _) (r : Row_of-Branch n) →
    declared_in_branches r ≡ declared_branches (items-the_row-Branch n r)
declared_branches-row n end_of-Branch = refl
declared_branches-row n (more_of-Branch e a rest) = ap (λ i. declared_in a + i) (declared_branches-row _ rest)

-- of a part, whose statements are a list in it
declared_body : (m : _) (body : Row_of-TStmt _) → declared_in_all body ≡ declared_all (shown-the_row-TStmt-0 m body)
declared_body m body = declared-row _ body ∙ ap (λ es. declared_all es) (sym (items_shown-the_row-TStmt-0 m body))

declared_parts-row : (n : _) (r : Row_of-Part n) → declared_in_parts r ≡ declared_parts (items-the_row-Part n r)
declared_parts-row n end_of-Part = refl
declared_parts-row n (more_of-Part labels m body rest) =
    ap (λ i. i + declared_in_parts rest) (declared_body m body)
    ∙ ap (λ i. declared_all (shown-the_row-TStmt-0 m body) + i) (declared_parts-row _ rest)

statements-row : (c : Names) (j : Jumps) (i : ℕ) (n : _) (r : Row_of-TStmt n) →
    AreStatements c j i r ≡ AllStatements c j i (items-the_row-TStmt n r)
statements-row c j i n end_of-TStmt = refl
statements-row c j i n (more_of-TStmt a rest) =
    ap (λ (T : Type 0). IsStatement c j i a × T) (statements-row c j (i + declared_in a) _ rest)

branches-row : (c : Names) (j : Jumps) (i : ℕ) (n : _) (r : Row_of-Branch n) →
    AreBranches c j i r ≡ AllBranches c j i (items-the_row-Branch n r)
branches-row c j i n end_of-Branch = refl
branches-row c j i n (more_of-Branch e a rest) =
    ap (λ (T : Type 0). IsCondition c e × IsStatement c j i a × T) (branches-row c j (i + declared_in a) _ rest)

statements_body : (c : Names) (j : Jumps) (i : ℕ) (m : _) (body : Row_of-TStmt _) →
    AreStatements c j i body ≡ AllStatements c j i (shown-the_row-TStmt-0 m body)
statements_body c j i m body =
    statements-row c j i _ body ∙ ap (λ es. AllStatements c j i es) (sym (items_shown-the_row-TStmt-0 m body))

parts-row : (c : Names) (j : Jumps) (i : ℕ) (n : _) (r : Row_of-Part n) →
    AreParts c j i r ≡ AllParts c j i (items-the_row-Part n r)
parts-row c j i n end_of-Part = refl
parts-row c j i n (more_of-Part labels m body rest) =
    ap (λ (T : Type 0). T × AreParts c j (i + declared_in_all body) rest) (statements_body c j i m body)
    ∙ ap (λ k. AllStatements c j i (shown-the_row-TStmt-0 m body) × AreParts c j (i + k) rest) (declared_body m body)
    ∙ ap (λ (T : Type 0). AllStatements c j i (shown-the_row-TStmt-0 m body) × T) (parts-row c j (i + declared_all (shown-the_row-TStmt-0 m body)) _ rest)

statements-list : (c : Names) (j : Jumps) (i : ℕ) (all : List TStmt) →
    AreStatements c j i (hidden-the_row-TStmt-0 all) ≡ AllStatements c j i all
statements-list c j i all =
    statements-row c j i _ (hidden-the_row-TStmt-0 all) ∙ ap (λ es. AllStatements c j i es) (items_hidden-the_row-TStmt-0 all)

branches_list : (branches : List Branch) → declared_in_branches (hidden-the_row-Branch-1 branches) ≡ declared_branches branches
branches_list branches =
    declared_branches-row _ (hidden-the_row-Branch-1 branches) ∙ ap (λ es. declared_branches es) (items_hidden-the_row-Branch-1 branches)

-- ---- each form

pub declared-Block : (b : Objects) (all : List TStmt) → declared_in (s.Block b all) ≡ length b.list + declared_all all
declared-Block b all =
    ap (λ i. length b.list + i) (declared-row _ (hidden-the_row-TStmt-0 all) ∙ ap (λ es. declared_all es) (items_hidden-the_row-TStmt-0 all))

pub declared-If : (branches : List Branch) (a : TStmt) → declared_in (s.If branches a) ≡ declared_branches branches + declared_in a
unfolding Rattle.c_tree.specs.declared.typed.statement.TStmt.TheBlock.hidden-the_row-TStmt-2 denote.Hole.Carrier.hidden
declared-If branches a = ap (λ i. i + declared_in a) (branches_list branches)

pub declared-While : (e : TExpr) (a : TStmt) → declared_in (s.While e a) ≡ declared_in a
unfolding Rattle.c_tree.specs.declared.typed.statement.TStmt.TheBlock.hidden-the_row-TStmt-2 denote.Hole.Carrier.hidden
declared-While e a = refl

pub declared-Do : (a : TStmt) (e : TExpr) → declared_in (s.Do a e) ≡ declared_in a
unfolding Rattle.c_tree.specs.declared.typed.statement.TStmt.TheBlock.hidden-the_row-TStmt-2 denote.Hole.Carrier.hidden
declared-Do a e = refl

pub declared-For : (e f : Option TExpr) (a : TStmt) → declared_in (s.For e f a) ≡ declared_in a
unfolding Rattle.c_tree.specs.declared.typed.statement.TStmt.TheBlock.hidden-the_row-TStmt-2 denote.Hole.Carrier.hidden
declared-For e f a = refl

pub declared-Switch : (e : TExpr) (b : Objects) (parts : List Part) →
    declared_in (s.Switch e b parts) ≡ length b.list + declared_parts parts
declared-Switch e b parts =
    ap (λ i. length b.list + i) (declared_parts-row _ (hidden-the_row-Part-3 parts) ∙ ap (λ es. declared_parts es) (items_hidden-the_row-Part-3 parts))

pub statement-Block : (c : Names) (j : Jumps) (n : ℕ) (b : Objects) (all : List TStmt) →
    IsStatement c j n (s.Block b all) ≡ (IsDeclaring n b × AllStatements (with_declared c b.list) j (n + length b.list) all)
statement-Block c j n b all =
    ap (λ (T : Type 0). IsDeclaring n b × T) (statements-list (with_declared c b.list) j (n + length b.list) all)

pub statement-If : (c : Names) (j : Jumps) (n : ℕ) (branches : List Branch) (a : TStmt) →
    IsStatement c j n (s.If branches a) ≡ (AllBranches c j n branches × IsStatement c j (n + declared_branches branches) a)
unfolding Rattle.c_tree.specs.declared.typed.statement.TStmt.TheBlock.hidden-the_row-TStmt-2 denote.Hole.Carrier.hidden
statement-If c j n branches a =
    ap (λ (T : Type 0). T × IsStatement c j (n + declared_in_branches (hidden-the_row-Branch-1 branches)) a) (branches-row c j n _ (hidden-the_row-Branch-1 branches) ∙ ap (λ es. AllBranches c j n es) (items_hidden-the_row-Branch-1 branches))
    ∙ ap (λ i. AllBranches c j n branches × IsStatement c j (n + i) a) (branches_list branches)

pub statement-While : (c : Names) (j : Jumps) (n : ℕ) (e : TExpr) (a : TStmt) →
    IsStatement c j n (s.While e a) ≡ (IsCondition c e × IsStatement c (in_loop j) n a)
unfolding Rattle.c_tree.specs.declared.typed.statement.TStmt.TheBlock.hidden-the_row-TStmt-2 denote.Hole.Carrier.hidden
statement-While c j n e a = refl

pub statement-Do : (c : Names) (j : Jumps) (n : ℕ) (a : TStmt) (e : TExpr) →
    IsStatement c j n (s.Do a e) ≡ (IsStatement c (in_loop j) n a × IsCondition c e)
unfolding Rattle.c_tree.specs.declared.typed.statement.TStmt.TheBlock.hidden-the_row-TStmt-2 denote.Hole.Carrier.hidden
statement-Do c j n a e = refl

pub statement-For : (c : Names) (j : Jumps) (n : ℕ) (e f : Option TExpr) (a : TStmt) →
    IsStatement c j n (s.For e f a) ≡ (IsConditionIfAny c e × IsDroppedIfAny c f × IsStatement c (in_loop j) n a)
unfolding Rattle.c_tree.specs.declared.typed.statement.TStmt.TheBlock.hidden-the_row-TStmt-2 denote.Hole.Carrier.hidden
statement-For c j n e f a = refl

pub statement-Switch : (c : Names) (j : Jumps) (n : ℕ) (e : TExpr) (b : Objects) (parts : List Part) →
    IsStatement c j n (s.Switch e b parts) ≡ ((k : Kind) × IsOfKind c e k × IsInteger k × IsDeclaring n b × AllParts (with_declared c b.list) (in_switch j) (n + length b.list) parts)
statement-Switch c j n e b parts =
    ap (λ (T : Type 0). (k : Kind) × IsOfKind c e k × IsInteger k × IsDeclaring n b × T) (parts-row (with_declared c b.list) (in_switch j) (n + length b.list) _ (hidden-the_row-Part-3 parts) ∙ ap (λ es. AllParts (with_declared c b.list) (in_switch j) (n + length b.list) es) (items_hidden-the_row-Part-3 parts))
