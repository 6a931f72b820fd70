-- Conditional expressions and assignments are read exactly (C11 6.5.15, 6.5.16).
use Rattle.std.specs.Prelude.{◌≡◌, ℕ, ◌≤◌, ◌<◌, Bool, true, false, ◌&&◌, if◌then◌else◌, nat_le, List, [], ◌∷◌, ◌++◌, map, refl}
use Rattle.std.proofs.Common.{ap, sym, ◌∙◌, subst, arith, append_assoc, append-nil}
use Rattle.c_tree.specs.declared.token.Pos.{Pos}
use Rattle.c_tree.specs.declared.token.Punct.TheVariants as p
use Rattle.c_tree.specs.declared.expression.Expr.{Expr}
use Rattle.c_tree.specs.declared.expression.Expr.TheVariants as expr
use Rattle.c_tree.specs.declared.expression.Branch.{Branch, out-Branch, roll-Branch, roll-out-Branch}
use Rattle.c_tree.specs.Spelling.Tokens.{punct}
use Rattle.c_tree.specs.Spelling.Trees.{expr_spelling, branch_spelling, branch_spelling-is, expr_spelling-Conditional}
use Rattle.c_tree.specs.Levels.Names.{Names, in_row}
use Rattle.c_tree.specs.Levels.Productions.{unary, cast, or, conditional, comma}
use Rattle.c_tree.specs.Levels.Facts.{all_good as all_true}
use Rattle.c_tree.specs.Levels.Trees.{expr_level, branch_level}
use Rattle.c_grammar.specs.Laws.Told.{branch_level-is, expr_level-Conditional}
use Rattle.c_tree.specs.Nesting.Trees.{expr_nesting, branch_nesting, branch_nesting-is, expr_nesting-Conditional}
use Rattle.c_grammar.specs.Input.{Tokens, peek, goes, expect, opening, many}
use Rattle.c_grammar.specs.Read.Nodes.{with_branches, begins_cast}
use Rattle.c_grammar.specs.Read.Inner.{Inner}
use Rattle.c_grammar.specs.Read.Expressions.{branch, conditional as read_conditional, or as read_or}
use Rattle.c_grammar.specs.Ending.OfTrees.{Ending, last, no_target}
use Rattle.c_grammar.specs.Ending.Trees.{expr_ending, branch_ending, branch_ending-is, expr_ending-Conditional}
use Rattle.c_grammar.specs.Laws.Form.{Form, Exact, Node, Image, Split, Joint, only, seq, seq_exact, node_exact, joint_exact, same_exact, whole_exact, two, four}
use Rattle.c_grammar.specs.Laws.Lists.{Items, Kept, all_good, chain, chain_exact, last_of, stop_goes, stop_last, stop_made, added_in_row}
use Rattle.c_grammar.specs.Laws.Rows.{deeper, bracketed, bracketed_exact}
use Rattle.c_grammar.specs.Laws.Cases.{ExprShape, expr_shape}
use Rattle.c_grammar.specs.Laws.Behind.{goes_on, expr_form, both_true, both_are, nat_le-true, nat_le-is, good_of, where_is, before_mark, goes_mark, goes_end, next_level as next_production, no_goes_level}
use Rattle.c_grammar.specs.Laws.Numbers.{shape_number, number_within, tighter, level_low}
use Rattle.c_grammar.specs.Laws.Levels.{no_target_to, no_target_from}

-- ---- a branch: `?`, what it gives, `:` and an operand

-- `?` and `:` are brackets; the operand behind them stands outside
abbrev branch_parts : Form (((Pos × Expr) × Pos) × Expr)
branch_parts = seq (bracketed p.Question (deeper (expr_form comma)) p.Colon) (λ t. expr_form or)

abbrev branch_of : ((Pos × Expr) × Pos) × Expr → Branch
branch_of t = roll-Branch (record { question = t.0.0.0; gives = t.0.0.1; colon = t.0.1; operand = t.1 })

abbrev branch_form : Form Branch
branch_form = record {
  spell = branch_spelling;
  good = λ names b. (branch_level b names).0 ≡ true;
  adds = λ names b. (branch_level b names).1;
  nest = branch_nesting;
  stop = λ b names rest. or < goes_on (expr_ending (out-Branch b).operand) (peek rest);
}

branch_node : Node branch_parts branch_of branch_form
branch_node = record {
  good = λ names t g. ap (λ f. (f names).0) (branch_level-is (branch_of t)) ∙ both_are _ _ (nat_le-is (expr_level t.0.0.1 names).0 comma g.0.0.1) (nat_le-is (expr_level t.1 (names ++ (expr_level t.0.0.1 names).1)).0 or g.1);
  parts = λ names t g.
      let b = both_true (nat_le (expr_level t.0.0.1 names).0 comma) _ (sym (ap (λ f. (f names).0) (branch_level-is (branch_of t))) ∙ g) in
      (((tt, nat_le-true (expr_level t.0.0.1 names).0 comma b.0), tt), nat_le-true (expr_level t.1 (names ++ (expr_level t.0.0.1 names).1)).0 or b.1);
  nested = λ t. branch_nesting-is (branch_of t) ∙ omega arith;
  spelt = λ t. branch_spelling-is (branch_of t) ∙ ap (λ l. punct p.Question t.0.0.0 ∷ l) (sym (append_assoc (expr_spelling t.0.0.1) (punct p.Colon t.0.1 ∷ []) (expr_spelling t.1)));
  seen = λ names t. ap (λ f. (f names).1) (branch_level-is (branch_of t));
  stop = λ names t behind rest g h. h;
  from_stop = λ names t behind rest g h. h;
}

branch_exact : (more : ℕ) (inner : Inner) → Exact (deeper (expr_form comma)) more (inner.expr comma) → Exact (expr_form or) more (read_or more inner) → Exact branch_form more (branch more inner)
unfolding branch
branch_exact more inner exact ors =
    whole_exact (Image branch_of) branch_form more (branch more inner)
    (λ names b g. (((((out-Branch b).question, (out-Branch b).gives), (out-Branch b).colon), (out-Branch b).operand), roll-out-Branch b))
    (same_exact (only (Image branch_of) branch_form) more _ (branch more inner)
    (four (opening more p.Question) (λ q. inner.expr comma) (λ q g. expect p.Colon) (λ q g c. read_or more inner) (λ q g c o. roll-Branch (record { question = q; gives = g; colon = c; operand = o })))
    (node_exact branch_parts branch_of branch_form more _
    (seq_exact (bracketed p.Question (deeper (expr_form comma)) p.Colon) (λ t. expr_form or) more _ (λ t. read_or more inner)
    (bracketed_exact p.Question (deeper (expr_form comma)) p.Colon more (inner.expr comma) exact (λ names x at rest g. before_mark comma (expr_ending x) p.Colon at rest (omega arith)))
    (λ t. ors) (λ names a b rest g h st. tt)) branch_node))

abbrev pub branch_items : Items (Unit {0}) Branch
branch_items = record {
  spell = branch_spelling;
  good = λ s. branch_form.good;
  adds = branch_form.adds;
  nest = branch_nesting;
  stop = branch_form.stop;
  goes = λ s. goes conditional;
  step = λ s b. tt;
}

branch_goes : (names : Names) (b : Branch) (rest : Tokens) → goes conditional (names, branch_spelling b ++ rest) ≡ true
branch_goes names b rest = ap (λ l. goes conditional (names, l ++ rest)) (branch_spelling-is b) ∙ goes_mark conditional names p.Question (out-Branch b).question _ refl

before_branch : (within : ℕ) (e : Ending) (b : Branch) (rest : Tokens) → within < conditional → within < goes_on e (peek (branch_spelling b ++ rest))
before_branch within e b rest low =
    subst (λ l. within < goes_on e (peek (l ++ rest))) (sym (branch_spelling-is b)) (before_mark within e p.Question (out-Branch b).question _ low)

branches_kept : (more : ℕ) (inner : Inner) → Exact (deeper (expr_form comma)) more (inner.expr comma) → Exact (expr_form or) more (read_or more inner) → Kept branch_items more (λ s. branch more inner)
branches_kept more inner exact ors = record {
  sound = λ s names ts x end go h. (branch_exact more inner exact ors).sound names ts x end h;
  complete = λ s names x rest g n st. (branch_exact more inner exact ors).complete names x rest g n st;
  starts = λ s names x rest g st. branch_goes names x rest;
  ends = λ s names. goes_end conditional names (omega arith);
  follows = λ s names x y rest g h st. before_branch or (expr_ending (out-Branch x).operand) y rest (omega arith);
  some = λ s names x g. rw (branch_spelling-is x) (omega arith);
}

-- ---- conditional expressions

branches_good : (names : Names) (xs : List Branch) → all_good branch_items tt names xs → all_true (in_row (map branch_level xs) names).0 ≡ true
branches_good names [] g = refl
branches_good names (x ∷ xs) g = both_are _ _ g.0 (branches_good (names ++ (branch_level x names).1) xs g.1)

branches_are : (names : Names) (xs : List Branch) → all_true (in_row (map branch_level xs) names).0 ≡ true → all_good branch_items tt names xs
branches_are names [] h = tt
branches_are names (x ∷ xs) h = let b = both_true (branch_level x names).0 _ h in (b.0, branches_are (names ++ (branch_level x names).1) xs b.1)

abbrev pub conditional_form : Form (Expr × List Branch)
conditional_form = chain (expr_form or) branch_items (λ a. tt)

pub conditional_good : (names : Names) (a : Expr) (xs : List Branch) → conditional_form.good names (a, xs) → (expr_level (with_branches a xs) names).0 ≤ conditional
conditional_good names a [] g = let h = g.0 in omega arith
conditional_good names a (x ∷ xs) g =
    rw (expr_level-Conditional a (x ∷ xs)) (where_is _ conditional conditional (both_are _ _ (nat_le-is (expr_level a names).0 or g.0) (branches_good (names ++ (expr_level a names).1) (x ∷ xs) g.1)) (omega arith))

conditional_node : (a : Expr) (xs : List Branch) (names : Names) → (expr_level (expr.Conditional a xs) names).0 ≤ conditional → Split conditional_form (λ t. with_branches t.0 t.1) (expr_form conditional) names (expr.Conditional a xs)
conditional_node a [] names h =
    let b = (good_of (nat_le (expr_level a names).0 or && false) conditional conditional (rw (expr_level-Conditional a []) at h) (omega arith)).0 in
    absurd (let z = (both_true (nat_le (expr_level a names).0 or) false b).1 in cc)
conditional_node a (x ∷ xs) names h =
    let b = both_true (nat_le (expr_level a names).0 or) _ (good_of _ conditional conditional (rw (expr_level-Conditional a (x ∷ xs)) at h) (omega arith)).0 in
    record { tuple = (a, x ∷ xs); whole = refl; good = (nat_le-true (expr_level a names).0 or b.0, branches_are (names ++ (expr_level a names).1) (x ∷ xs) b.1) }

alone : {x : Expr} (s : ExprShape x) (names : Names) → (expr_level x names).0 ≤ conditional → shape_number s ≤ or → Split conditional_form (λ t. with_branches t.0 t.1) (expr_form conditional) names x
alone {x} s names h n = record { tuple = (x, []); whole = refl; good = (tighter s names or (omega arith) n, tt) }

loose : {x : Expr} (s : ExprShape x) (names : Names) → (expr_level x names).0 ≤ conditional → conditional < shape_number s → ⊥
loose s names h n = let e = number_within s names conditional h (omega arith) in omega arith

run_low : (b : Bool) → (if b then cast else unary) ≤ cast
run_low true = omega arith
run_low false = omega arith

pub conditional_split : {x : Expr} → ExprShape x → (names : Names) → (expr_level x names).0 ≤ conditional → Split conditional_form (λ t. with_branches t.0 t.1) (expr_form conditional) names x
conditional_split (ExprShape.a_conditional a xs) names h = conditional_node a xs names h
conditional_split (ExprShape.a_name id) names h = alone (ExprShape.a_name id) names h (omega arith)
conditional_split (ExprShape.a_number value kind at) names h = alone (ExprShape.a_number value kind at) names h (omega arith)
conditional_split (ExprShape.a_char value at) names h = alone (ExprShape.a_char value at) names h (omega arith)
conditional_split (ExprShape.a_strings all) names h = alone (ExprShape.a_strings all) names h (omega arith)
conditional_split (ExprShape.a_paren from inner to) names h = alone (ExprShape.a_paren from inner to) names h (omega arith)
conditional_split (ExprShape.a_postfix a xs) names h = alone (ExprShape.a_postfix a xs) names h (omega arith)
conditional_split (ExprShape.a_sizeof_type at from type to) names h = alone (ExprShape.a_sizeof_type at from type to) names h (omega arith)
conditional_split (ExprShape.a_prefixed run a) names h = alone (ExprShape.a_prefixed run a) names h (let l = run_low (begins_cast run) in omega arith)
conditional_split (ExprShape.a_binary lv a ns) names h = alone (ExprShape.a_binary lv a ns) names h (let l = level_low lv in omega arith)
conditional_split (ExprShape.a_assign a ns) names h = absurd (loose (ExprShape.a_assign a ns) names h (omega arith))
conditional_split (ExprShape.a_comma a ns) names h = absurd (loose (ExprShape.a_comma a ns) names h (omega arith))

conditional_nested : (a : Expr) (xs : List Branch) → expr_nesting (with_branches a xs) ≡ conditional_form.nest (a, xs)
conditional_nested a [] = omega arith
conditional_nested a (x ∷ xs) = expr_nesting-Conditional a (x ∷ xs)

pub conditional_spelt : (a : Expr) (xs : List Branch) → expr_spelling (with_branches a xs) ≡ conditional_form.spell (a, xs)
conditional_spelt a [] = sym (append-nil (expr_spelling a))
conditional_spelt a (x ∷ xs) = expr_spelling-Conditional a (x ∷ xs)

conditional_seen : (names : Names) (a : Expr) (xs : List Branch) → (expr_level (with_branches a xs) names).1 ≡ conditional_form.adds names (a, xs)
conditional_seen names a [] = sym (append-nil (expr_level a names).1)
conditional_seen names a (x ∷ xs) =
    ap (λ f. (f names).1) (expr_level-Conditional a (x ∷ xs)) ∙ ap (λ l. (expr_level a names).1 ++ l) (sym (added_in_row branch_items branch_level (λ names x. refl) (names ++ (expr_level a names).1) (x ∷ xs)))

pub branch_last : (e : Ending) (x : Branch) (xs : List Branch) → last e (map branch_ending (x ∷ xs)) ≡ expr_ending (out-Branch (last_of branch_items x xs)).operand
branch_last e x [] = branch_ending-is x
branch_last e x (y ∷ ys) = branch_last (branch_ending x) y ys

conditional_stop : (a : Expr) (xs : List Branch) (behind : Names) (rest : Tokens) → conditional_form.stop (a, xs) behind rest → conditional < goes_on (expr_ending (with_branches a xs)) (peek rest)
conditional_stop a [] behind rest h = next_production or conditional (expr_ending a) (peek rest) (omega arith) (omega arith) h.0 h.1
conditional_stop a (x ∷ xs) behind rest h =
    let own = stop_last branch_items tt x xs behind rest h in
    let more = stop_goes branch_items tt (x ∷ xs) behind rest h in
    subst (λ e. conditional < goes_on e (peek rest)) (sym (expr_ending-Conditional a (x ∷ xs))) (no_target_to conditional _ (peek rest) (omega arith)
    (subst (λ e. conditional < goes_on e (peek rest)) (sym (branch_last (expr_ending a) x xs)) (next_production or conditional (expr_ending (out-Branch (last_of branch_items x xs)).operand) (peek rest) (omega arith) (omega arith) own more)))

conditional_from_stop : (a : Expr) (xs : List Branch) (behind : Names) (rest : Tokens) → conditional < goes_on (expr_ending (with_branches a xs)) (peek rest) → conditional_form.stop (a, xs) behind rest
conditional_from_stop a [] behind rest h = (omega arith, no_goes_level conditional (expr_ending a) behind rest (omega arith) (λ e. omega arith) (omega arith) h)
conditional_from_stop a (x ∷ xs) behind rest h =
    let h1 = subst (λ e. conditional < goes_on e (peek rest)) (expr_ending-Conditional a (x ∷ xs)) h in
    stop_made branch_items tt x xs behind rest (subst (λ e. or < goes_on e (peek rest)) (branch_last (expr_ending a) x xs) (no_target_from or _ (peek rest) (omega arith) (omega arith)))
    (no_goes_level conditional (no_target (last (expr_ending a) (map branch_ending (x ∷ xs)))) behind rest (omega arith) (λ e. omega arith) (omega arith) h1)

conditional_joint : Joint conditional_form (λ t. with_branches t.0 t.1) (expr_form conditional)
conditional_joint = record {
  good = λ names t g. conditional_good names t.0 t.1 g;
  split = λ names x g. conditional_split (expr_shape x) names g;
  nested = λ t. conditional_nested t.0 t.1;
  spelt = λ t. conditional_spelt t.0 t.1;
  seen = λ names t. conditional_seen names t.0 t.1;
  stop = λ names t behind rest g h. conditional_stop t.0 t.1 behind rest h;
  from_stop = λ names t behind rest g h. conditional_from_stop t.0 t.1 behind rest h;
}

pub conditional_exact : (more : ℕ) (inner : Inner) → Exact (deeper (expr_form comma)) more (inner.expr comma) → Exact (expr_form or) more (read_or more inner) → Exact (expr_form conditional) more (read_conditional more inner)
unfolding read_conditional
conditional_exact more inner exact ors =
    same_exact (expr_form conditional) more _ (read_conditional more inner) (two (read_or more inner) (λ a. many (goes conditional) (branch more inner)) with_branches)
    (joint_exact conditional_form (λ t. with_branches t.0 t.1) (expr_form conditional) more _
    (chain_exact (expr_form or) branch_items (λ a. tt) more (read_or more inner) (λ s. branch more inner) ors (branches_kept more inner exact ors)
    (λ names a x rest g h st. before_branch or (expr_ending a) x rest (omega arith))) conditional_joint)
