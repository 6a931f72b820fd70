-- What holds throughout typed statements, over plain lists of their parts.
-- No contract cites this file: it holds proofs.
use Rattle.std.proofs.Common.{◌≡◌, refl, sym, ap, ◌∙◌, List, [], ◌∷◌, ◌++◌}
use Rattle.std.specs.Prelude.{Option}
use Rattle.c_tree.specs.declared.typed.expression.TExpr.{TExpr}
use Rattle.c_tree.specs.declared.typed.statement.TStmt.{TStmt, Row_of-TStmt, end_of-TStmt, more_of-TStmt, Row_of-Branch, end_of-Branch, more_of-Branch, Row_of-Part, end_of-Part, more_of-Part, items-the_row-TStmt, items_hidden-the_row-TStmt-0, items_shown-the_row-TStmt-0, items-the_row-Branch, items_hidden-the_row-Branch-1, items-the_row-Part, items_hidden-the_row-Part-3}
use Rattle.c_tree.specs.declared.typed.statement.TStmt.TheVariants as s
use Rattle.c_tree.specs.declared.typed.statement.TStmt.TheBlock.{hidden-the_row-TStmt-0, shown-the_row-TStmt-0, hidden-the_row-Branch-1, hidden-the_row-Part-3}
use Rattle.c_tree.specs.declared.typed.statement.Branch.{Branch}
use Rattle.c_tree.specs.declared.typed.statement.Part.{Part}
use Rattle.c_tree.specs.declared.typed.statement.Objects.{Objects}
use Rattle.c_tree.specs.declared.typed.statement.Label.{Label}
use Rattle.typed_form.specs.Statements.{Around, behind, looped, switched, Throughout, AllThroughout, BranchesThroughout, PartsThroughout, AreDifferent, labels_in, LabelsDiffer}

-- ---- the same over lists

abbrev pub AllOver : (Around → TStmt → Type 0) → Around → List TStmt → Type 0
AllOver P q [] = Unit {0}
AllOver P q (a ∷ rest) = Throughout P q a × AllOver P q rest

abbrev pub BranchesOver : (Around → TStmt → Type 0) → Around → List Branch → Type 0
BranchesOver P q [] = Unit {0}
BranchesOver P q (b ∷ rest) = Throughout P q b.body × BranchesOver P q rest

abbrev pub PartsOver : (Around → TStmt → Type 0) → Around → List Part → Type 0
PartsOver P q [] = Unit {0}
PartsOver P q (p ∷ rest) = AllOver P q p.body × PartsOver P q rest

abbrev pub all_labels : List Part → List Label
all_labels [] = []
all_labels (p ∷ rest) = p.labels ++ all_labels rest

-- ---- a row is its list

all-row : (P : Around → TStmt → Type 0) (q : Around) (n : _) (r : Row_of-TStmt n) → AllThroughout P q r ≡ AllOver P q (items-the_row-TStmt n r)
all-row P q n end_of-TStmt = refl
all-row P q n (more_of-TStmt a rest) = ap (λ (T : Type 0). Throughout P q a × T) (all-row P q _ rest)

all-body : (P : Around → TStmt → Type 0) (q : Around) (m : _) (body : Row_of-TStmt _) → AllThroughout P q body ≡ AllOver P q (shown-the_row-TStmt-0 m body)
all-body P q m body = all-row P q _ body ∙ ap (λ es. AllOver P q es) (sym (items_shown-the_row-TStmt-0 m body))

branches-row : (P : Around → TStmt → Type 0) (q : Around) (n : _) (r : Row_of-Branch n) → BranchesThroughout P q r ≡ BranchesOver P q (items-the_row-Branch n r)
branches-row P q n end_of-Branch = refl
branches-row P q n (more_of-Branch e a rest) = ap (λ (T : Type 0). Throughout P q a × T) (branches-row P q _ rest)

parts-row : (P : Around → TStmt → Type 0) (q : Around) (n : _) (r : Row_of-Part n) → PartsThroughout P q r ≡ PartsOver P q (items-the_row-Part n r)
parts-row P q n end_of-Part = refl
parts-row P q n (more_of-Part labels m body rest) =
    ap (λ (T : Type 0). T × PartsThroughout P q rest) (all-body P q m body)
    ∙ ap (λ (T : Type 0). AllOver P q (shown-the_row-TStmt-0 m body) × T) (parts-row P q _ rest)

labels-row : (n : _) (r : Row_of-Part n) → labels_in r ≡ all_labels (items-the_row-Part n r)
labels-row n end_of-Part = refl
labels-row n (more_of-Part labels m body rest) = ap (λ ls. labels ++ ls) (labels-row _ rest)

-- ---- each form

pub throughout-Block : (P : Around → TStmt → Type 0) (q : Around) (b : Objects) (all : List TStmt) →
    Throughout P q (s.Block b all) ≡ (P q (s.Block b all) × AllOver P (behind q b) all)
throughout-Block P q b all =
    ap (λ (T : Type 0). P q (s.Block b all) × T) (all-row P (behind q b) _ (hidden-the_row-TStmt-0 all) ∙ ap (λ es. AllOver P (behind q b) es) (items_hidden-the_row-TStmt-0 all))

pub throughout-If : (P : Around → TStmt → Type 0) (q : Around) (branches : List Branch) (a : TStmt) →
    Throughout P q (s.If branches a) ≡ (P q (s.If branches a) × BranchesOver P q branches × Throughout P q a)
unfolding Rattle.c_tree.specs.declared.typed.statement.TStmt.TheBlock.hidden-the_row-TStmt-2 denote.Hole.Carrier.hidden
throughout-If P q branches a =
    ap (λ (T : Type 0). P q (s.If branches a) × T × Throughout P q a) (branches-row P q _ (hidden-the_row-Branch-1 branches) ∙ ap (λ es. BranchesOver P q es) (items_hidden-the_row-Branch-1 branches))

pub throughout-While : (P : Around → TStmt → Type 0) (q : Around) (e : TExpr) (a : TStmt) →
    Throughout P q (s.While e a) ≡ (P q (s.While e a) × Throughout P (looped q) a)
unfolding Rattle.c_tree.specs.declared.typed.statement.TStmt.TheBlock.hidden-the_row-TStmt-2 denote.Hole.Carrier.hidden
throughout-While P q e a = refl

pub throughout-Do : (P : Around → TStmt → Type 0) (q : Around) (a : TStmt) (e : TExpr) →
    Throughout P q (s.Do a e) ≡ (P q (s.Do a e) × Throughout P (looped q) a)
unfolding Rattle.c_tree.specs.declared.typed.statement.TStmt.TheBlock.hidden-the_row-TStmt-2 denote.Hole.Carrier.hidden
throughout-Do P q a e = refl

pub throughout-For : (P : Around → TStmt → Type 0) (q : Around) (e f : Option TExpr) (a : TStmt) →
    Throughout P q (s.For e f a) ≡ (P q (s.For e f a) × Throughout P (looped q) a)
unfolding Rattle.c_tree.specs.declared.typed.statement.TStmt.TheBlock.hidden-the_row-TStmt-2 denote.Hole.Carrier.hidden
throughout-For P q e f a = refl

pub throughout-Switch : (P : Around → TStmt → Type 0) (q : Around) (e : TExpr) (b : Objects) (parts : List Part) →
    Throughout P q (s.Switch e b parts) ≡ (P q (s.Switch e b parts) × PartsOver P (behind (switched q) b) parts)
throughout-Switch P q e b parts =
    ap (λ (T : Type 0). P q (s.Switch e b parts) × T) (parts-row P (behind (switched q) b) _ (hidden-the_row-Part-3 parts) ∙ ap (λ es. PartsOver P (behind (switched q) b) es) (items_hidden-the_row-Part-3 parts))

-- the labels of a switch are those of its parts
pub differ-Switch : (q : Around) (e : TExpr) (b : Objects) (parts : List Part) →
    LabelsDiffer q (s.Switch e b parts) ≡ AreDifferent (all_labels parts)
differ-Switch q e b parts =
    ap AreDifferent (labels-row _ (hidden-the_row-Part-3 parts) ∙ ap all_labels (items_hidden-the_row-Part-3 parts))
