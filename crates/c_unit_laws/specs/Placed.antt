-- Statements in which each jump has what it leaves and the labels of each switch differ, by their forms.
use Rattle.std.proofs.Common.{◌≡◌, refl, sym, ap, ◌∙◌, subst, append_assoc, append-nil, ℕ, Bool, true, false, ◌||◌, List, [], ◌∷◌, ◌++◌, Option}
use Rattle.std.specs.Prelude.{◌==◌}
use Rattle.std.specs.List.{AllByRecursion, list_any}
use Rattle.c_tree.specs.declared.typed.expression.TExpr.{TExpr}
use Rattle.c_tree.specs.declared.typed.statement.Initialiser.{Initialiser}
use Rattle.c_tree.specs.declared.typed.statement.TStmt.{TStmt}
use Rattle.c_tree.specs.declared.typed.statement.TStmt.TheVariants as t
use Rattle.c_tree.specs.declared.typed.statement.Branch.{Branch, out-roll-Branch}
use Rattle.c_tree.specs.declared.typed.statement.Part.{Part, roll-Part, out-roll-Part}
use Rattle.c_tree.specs.declared.typed.statement.Label.{Label}
use Rattle.c_tree.specs.declared.typed.statement.Label.TheVariants as label
use Rattle.c_tree.specs.declared.typed.statement.Objects.{Objects}
use Rattle.typed_form.specs.Statements as form
use Rattle.typed_form.specs.Statements.{behind, looped, switched, Throughout, HasItsTarget, is_same_label, AreDifferent, LabelsDiffer}
use Rattle.typed_form.specs.Lists.{AllOver, BranchesOver, PartsOver, all_labels, throughout-Block, throughout-If, throughout-While, throughout-Do, throughout-For, throughout-Switch, differ-Switch}
use Rattle.c_typing.specs.OfStatements.{Parting, part_if, labelled_by, labelled, branch}

-- a jump has what it leaves (C11 6.8.6.2p1, 6.8.6.3p1), and the labels of a switch differ (6.8.4.2p3)
pub record IsPlaced (q : form.Around) (a : TStmt) : Type 0 where
  pub target : HasItsTarget q a
  pub labels : LabelsDiffer q a

-- the same of a statement and all statements in it, where `break` and `continue` may stand so
pub record Placed (b k : Bool) (a : TStmt) : Type 0 where
  pub within : (q : form.Around) → q.jumps.breaks ≡ b → q.jumps.continues ≡ k → Throughout IsPlaced q a

abbrev pub AllPlaced : Bool → Bool → List TStmt → Type 0
AllPlaced b k xs = AllByRecursion (Placed b k) xs

abbrev pub BranchPlaced : Bool → Bool → Branch → Type 0
BranchPlaced b k r = Placed b k r.body

abbrev pub BranchesPlaced : Bool → Bool → List Branch → Type 0
BranchesPlaced b k bs = AllByRecursion (BranchPlaced b k) bs

abbrev pub PartPlaced : Bool → Bool → Part → Type 0
PartPlaced b k p = AllPlaced b k p.body

abbrev pub PartsPlaced : Bool → Bool → List Part → Type 0
PartsPlaced b k ps = AllByRecursion (PartPlaced b k) ps

-- ---- lists

pub all_append : {A : Type 0} (P : A → Type 0) (xs ys : List A) → AllByRecursion P xs → AllByRecursion P ys → AllByRecursion P (xs ++ ys)
all_append P [] ys h g = g
all_append P (x ∷ xs) ys h g = (h.0, all_append P xs ys h.1 g)

all_over : (b k : Bool) (xs : List TStmt) → AllPlaced b k xs → (q : form.Around) → q.jumps.breaks ≡ b → q.jumps.continues ≡ k → AllOver IsPlaced q xs
all_over b k [] h q e f = tt
all_over b k (x ∷ xs) h q e f = (h.0.within q e f, all_over b k xs h.1 q e f)

branches_over : (b k : Bool) (bs : List Branch) → BranchesPlaced b k bs → (q : form.Around) → q.jumps.breaks ≡ b → q.jumps.continues ≡ k → BranchesOver IsPlaced q bs
branches_over b k [] h q e f = tt
branches_over b k (r ∷ bs) h q e f = (h.0.within q e f, branches_over b k bs h.1 q e f)

parts_over : (b k : Bool) (ps : List Part) → PartsPlaced b k ps → (q : form.Around) → q.jumps.breaks ≡ b → q.jumps.continues ≡ k → PartsOver IsPlaced q ps
parts_over b k [] h q e f = tt
parts_over b k (p ∷ ps) h q e f = (all_over b k p.body h.0 q e f, parts_over b k ps h.1 q e f)

-- ---- each form

-- from one of two equal types to the other
back : {S T : Type 0} → S ≡ T → T → S
back e x = subst (λ (U : Type 0). U) (sym e) x

pub evaluate_placed : (b k : Bool) (e : TExpr) → Placed b k (t.Evaluate e)
evaluate_placed b k e = record { within = λ q x y. record { target = tt; labels = tt } }

pub initialise_placed : (b k : Bool) (i : ℕ) (v : Initialiser) → Placed b k (t.Initialise i v)
initialise_placed b k i v = record { within = λ q x y. record { target = tt; labels = tt } }

pub return_placed : (b k : Bool) (e : Option TExpr) → Placed b k (t.Return e)
return_placed b k e = record { within = λ q x y. record { target = tt; labels = tt } }

pub break_placed : (k : Bool) → Placed true k t.Break
break_placed k = record { within = λ q x y. record { target = x; labels = tt } }

pub continue_placed : (b : Bool) → Placed b true t.Continue
continue_placed b = record { within = λ q x y. record { target = y; labels = tt } }

pub block_placed : (b k : Bool) (o : Objects) (xs : List TStmt) → AllPlaced b k xs → Placed b k (t.Block o xs)
block_placed b k o xs h = record {
  within = λ q x y. back (throughout-Block IsPlaced q o xs) (record { target = tt; labels = tt }, all_over b k xs h (behind q o) x y);
}

pub if_placed : (b k : Bool) (bs : List Branch) (a : TStmt) → BranchesPlaced b k bs → Placed b k a → Placed b k (t.If bs a)
if_placed b k bs a h g = record {
  within = λ q x y. back (throughout-If IsPlaced q bs a) (record { target = tt; labels = tt }, branches_over b k bs h q x y, g.within q x y);
}

pub while_placed : (b k : Bool) (e : TExpr) (a : TStmt) → Placed true true a → Placed b k (t.While e a)
while_placed b k e a h = record {
  within = λ q x y. back (throughout-While IsPlaced q e a) (record { target = tt; labels = tt }, h.within (looped q) refl refl);
}

pub do_placed : (b k : Bool) (a : TStmt) (e : TExpr) → Placed true true a → Placed b k (t.Do a e)
do_placed b k a e h = record {
  within = λ q x y. back (throughout-Do IsPlaced q a e) (record { target = tt; labels = tt }, h.within (looped q) refl refl);
}

pub for_placed : (b k : Bool) (e f : Option TExpr) (a : TStmt) → Placed true true a → Placed b k (t.For e f a)
for_placed b k e f a h = record {
  within = λ q x y. back (throughout-For IsPlaced q e f a) (record { target = tt; labels = tt }, h.within (looped q) refl refl);
}

pub switch_placed : (b k : Bool) (e : TExpr) (o : Objects) (ps : List Part) → PartsPlaced true k ps → AreDifferent (all_labels ps) → Placed b k (t.Switch e o ps)
switch_placed b k e o ps h d = record {
  within = λ q x y. back (throughout-Switch IsPlaced q e o ps)
      (record { target = tt; labels = back (differ-Switch q e o ps) d }, parts_over true k ps h (behind (switched q) o) refl y);
}

-- a branch of an `if`
branch_body : (e : TExpr) (a : TStmt) → (branch e a).body ≡ a
branch_body e a = λ i. (out-roll-Branch (record { condition = e; body = a }) i).body

pub branch_placed : (b k : Bool) (e : TExpr) (a : TStmt) → Placed b k a → BranchPlaced b k (branch e a)
branch_placed b k e a h = subst (Placed b k) (sym (branch_body e a)) h

-- ---- labels

or_assoc : (a b c : Bool) → (a || (b || c)) ≡ ((a || b) || c)
or_assoc true b c = refl
or_assoc false b c = refl

or_first : (a b : Bool) → (a || b) ≡ false → a ≡ false
or_first true b h = h
or_first false b h = refl

or_second : (a b : Bool) → (a || b) ≡ false → b ≡ false
or_second true b h = absurd (let e : true ≡ false = h in cc)
or_second false b h = h

any_append : (test : Label → Bool) (xs ys : List Label) → list_any test (xs ++ ys) ≡ (list_any test xs || list_any test ys)
any_append test [] ys = refl
any_append test (x ∷ xs) ys =
    ap (λ z. test x || z) (any_append test xs ys) ∙ or_assoc (test x) (list_any test xs) (list_any test ys)

-- none is like it
abbrev none_like : List Label → Label → Type 0
none_like ls l = list_any (λ k. is_same_label k l) ls ≡ false

one_more : (l : Label) (xs : List Label) (n : Label) → list_any (λ k. is_same_label l k) xs ≡ false → is_same_label l n ≡ false
    → list_any (λ k. is_same_label l k) (xs ++ n ∷ []) ≡ false
one_more l [] n h g = ap (λ z. z || false) g
one_more l (x ∷ xs) n h g =
    ap (λ z. z || list_any (λ k. is_same_label l k) (xs ++ n ∷ [])) (or_first (is_same_label l x) _ h)
    ∙ one_more l xs n (or_second (is_same_label l x) (list_any (λ k. is_same_label l k) xs) h) g

different_and : (ls : List Label) (n : Label) → AreDifferent ls → none_like ls n → AreDifferent (ls ++ n ∷ [])
different_and [] n h g = (refl, tt)
different_and (l ∷ ls) n h g =
    (one_more l ls n h.0 (or_first (is_same_label l n) _ g), different_and ls n h.1 (or_second (is_same_label l n) (list_any (λ k. is_same_label k n) ls) g))

-- the labels so far: those of the parts that are done, and those in front of the present one
abbrev pub labels_so_far : Parting → List Label
labels_so_far r = all_labels r.done ++ r.labels

-- what holds of the parts of a switch as far as they are made
pub record Parted (k : Bool) (r : Parting) : Type 0 where
  pub done : PartsPlaced true k r.done
  pub body : AllPlaced true k r.body
  pub different : AreDifferent (labels_so_far r)
  pub values : (n : ℕ) → list_any (λ l. is_same_label l (label.Case n)) (labels_so_far r) ≡ list_any (λ m. m == n) r.values
  pub defaults : list_any (λ l. is_same_label l label.Default) (labels_so_far r) ≡ r.has_default

-- the part that is made of labels and statements
made_body : (ls : List Label) (xs : List TStmt) → (roll-Part (record { labels = ls; body = xs })).body ≡ xs
made_body ls xs = λ i. (out-roll-Part (record { labels = ls; body = xs }) i).body

made_labels : (ls : List Label) (xs : List TStmt) → (roll-Part (record { labels = ls; body = xs })).labels ≡ ls
made_labels ls xs = λ i. (out-roll-Part (record { labels = ls; body = xs }) i).labels

made_placed : (b k : Bool) (ls : List Label) (xs : List TStmt) → AllPlaced b k xs → PartPlaced b k (roll-Part (record { labels = ls; body = xs }))
made_placed b k ls xs h = subst (AllPlaced b k) (sym (made_body ls xs)) h

pub part_placed : (b k : Bool) (ls : List Label) (xs : List TStmt) → AllPlaced b k xs → PartsPlaced b k (part_if ls xs)
part_placed b k [] [] h = tt
part_placed b k [] (x ∷ xs) h = (made_placed b k [] (x ∷ xs) h, tt)
part_placed b k (l ∷ ls) [] h = (made_placed b k (l ∷ ls) [] h, tt)
part_placed b k (l ∷ ls) (x ∷ xs) h = (made_placed b k (l ∷ ls) (x ∷ xs) h, tt)

one_part : (ls : List Label) (xs : List TStmt) → all_labels (roll-Part (record { labels = ls; body = xs }) ∷ []) ≡ ls
one_part ls xs = append-nil (roll-Part (record { labels = ls; body = xs })).labels ∙ made_labels ls xs

labels_of_part : (ls : List Label) (xs : List TStmt) → all_labels (part_if ls xs) ≡ ls
labels_of_part [] [] = refl
labels_of_part [] (x ∷ xs) = one_part [] (x ∷ xs)
labels_of_part (l ∷ ls) [] = one_part (l ∷ ls) []
labels_of_part (l ∷ ls) (x ∷ xs) = one_part (l ∷ ls) (x ∷ xs)

labels_append : (ps qs : List Part) → all_labels (ps ++ qs) ≡ all_labels ps ++ all_labels qs
labels_append [] qs = refl
labels_append (p ∷ ps) qs = ap (λ ls. p.labels ++ ls) (labels_append ps qs) ∙ sym (append_assoc p.labels (all_labels ps) (all_labels qs))

-- the parts at the end of a switch have the labels that were found
pub labels_at_end : (r : Parting) → all_labels (r.done ++ part_if r.labels r.body) ≡ labels_so_far r
labels_at_end r = labels_append r.done (part_if r.labels r.body) ∙ ap (λ ls. all_labels r.done ++ ls) (labels_of_part r.labels r.body)

-- a label stands behind those so far
labels_by : (body : List TStmt) (l : Label) (r : Parting) → labels_so_far (labelled_by body l r) ≡ (all_labels r.done ++ r.labels) ++ l ∷ []
labels_by [] l r = sym (append_assoc (all_labels r.done) r.labels (l ∷ []))
labels_by (x ∷ xs) l r =
    ap (λ ls. ls ++ l ∷ []) (labels_append r.done (part_if r.labels (x ∷ xs)) ∙ ap (λ ls. all_labels r.done ++ ls) (labels_of_part r.labels (x ∷ xs)))

done_by : (k : Bool) (body : List TStmt) (l : Label) (r : Parting) → PartsPlaced true k r.done → AllPlaced true k body → PartsPlaced true k (labelled_by body l r).done
done_by k [] l r h g = h
done_by k (x ∷ xs) l r h g = all_append (PartPlaced true k) r.done (part_if r.labels (x ∷ xs)) h (part_placed true k r.labels (x ∷ xs) g)

body_by : (k : Bool) (body : List TStmt) (l : Label) (r : Parting) → AllPlaced true k r.body → AllPlaced true k (labelled_by body l r).body
body_by k [] l r h = h
body_by k (x ∷ xs) l r h = tt

values_by : (body : List TStmt) (l : Label) (r : Parting) → (labelled_by body l r).values ≡ r.values
values_by [] l r = refl
values_by (x ∷ xs) l r = refl

default_by : (body : List TStmt) (l : Label) (r : Parting) → (labelled_by body l r).has_default ≡ r.has_default
default_by [] l r = refl
default_by (x ∷ xs) l r = refl

any_value : (test : ℕ → Bool) (xs : List ℕ) (n : ℕ) → list_any test (xs ++ n ∷ []) ≡ (list_any test xs || (test n || false))
any_value test [] n = refl
any_value test (x ∷ xs) n = ap (λ z. test x || z) (any_value test xs n) ∙ or_assoc (test x) (list_any test xs) (test n || false)

or_false : (b : Bool) → (b || false) ≡ b
or_false true = refl
or_false false = refl

-- a `case` behind the labels so far, none of which has its value
pub parted_case : (k : Bool) (r : Parting) (n : ℕ) → Parted k r → list_any (λ m. m == n) r.values ≡ false
    → Parted k (record (labelled (label.Case n) r) { values = r.values ++ n ∷ [] })
parted_case k r n p e = record {
  done = done_by k r.body (label.Case n) r p.done p.body;
  body = body_by k r.body (label.Case n) r p.body;
  different = subst AreDifferent (sym (labels_by r.body (label.Case n) r)) (different_and (labels_so_far r) (label.Case n) p.different (p.values n ∙ e));
  values = λ m.
      ap (λ ls. list_any (λ l. is_same_label l (label.Case m)) ls) (labels_by r.body (label.Case n) r)
      ∙ any_append (λ l. is_same_label l (label.Case m)) (labels_so_far r) (label.Case n ∷ [])
      ∙ ap (λ z. z || ((n == m) || false)) (p.values m)
      ∙ sym (any_value (λ x. x == m) r.values n);
  defaults =
      ap (λ ls. list_any (λ l. is_same_label l label.Default) ls) (labels_by r.body (label.Case n) r)
      ∙ any_append (λ l. is_same_label l label.Default) (labels_so_far r) (label.Case n ∷ [])
      ∙ or_false (list_any (λ l. is_same_label l label.Default) (labels_so_far r))
      ∙ p.defaults
      ∙ sym (default_by r.body (label.Case n) r);
}

or_true : (b : Bool) → (b || true) ≡ true
or_true true = refl
or_true false = refl

-- a `default` behind them, where there is none yet
pub parted_default : (k : Bool) (r : Parting) → Parted k r → r.has_default ≡ false → Parted k (record (labelled label.Default r) { has_default = true })
parted_default k r p e = record {
  done = done_by k r.body label.Default r p.done p.body;
  body = body_by k r.body label.Default r p.body;
  different = subst AreDifferent (sym (labels_by r.body label.Default r)) (different_and (labels_so_far r) label.Default p.different (p.defaults ∙ e));
  values = λ m.
      ap (λ ls. list_any (λ l. is_same_label l (label.Case m)) ls) (labels_by r.body label.Default r)
      ∙ any_append (λ l. is_same_label l (label.Case m)) (labels_so_far r) (label.Default ∷ [])
      ∙ or_false (list_any (λ l. is_same_label l (label.Case m)) (labels_so_far r))
      ∙ p.values m
      ∙ ap (λ xs. list_any (λ x. x == m) xs) (sym (values_by r.body label.Default r));
  defaults =
      ap (λ ls. list_any (λ l. is_same_label l label.Default) ls) (labels_by r.body label.Default r)
      ∙ any_append (λ l. is_same_label l label.Default) (labels_so_far r) (label.Default ∷ [])
      ∙ or_true (list_any (λ l. is_same_label l label.Default) (labels_so_far r));
}

-- statements behind them
pub parted_body : (k : Bool) (r : Parting) (made : List TStmt) → Parted k r → AllPlaced true k made → Parted k (record r { body = r.body ++ made })
parted_body k r made p h = record {
  done = p.done;
  body = all_append (Placed true k) r.body made p.body h;
  different = p.different;
  values = p.values;
  defaults = p.defaults;
}
