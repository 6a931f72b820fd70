-- Assignments are read exactly (C11 6.5.16): what may stand behind an operand depends on whether it is a unary expression.
use Rattle.std.specs.Prelude.{◌≡◌, ℕ, ◌≤◌, ◌<◌, max, Bool, true, false, not, ◌&&◌, if◌then◌else◌, nat_le, List, [], ◌∷◌, ◌++◌, map, Option, Some, None, refl}
use Rattle.std.proofs.Common.{ap, sym, ◌∙◌, subst, cond, arith, append-nil}
use denote.Hole.Carrier.{out}
use Rattle.c_tree.specs.declared.token.TokenKind.{TokenKind}
use Rattle.c_tree.specs.declared.token.TokenKind.TheVariants as k
use Rattle.c_tree.specs.declared.expression.Expr.{Expr, out-Expr, out-roll-Expr}
use Rattle.c_tree.specs.declared.expression.Expr.TheVariants as expr
use Rattle.c_tree.specs.declared.expression.Prefix.{Prefix, out-Prefix}
use Rattle.c_tree.specs.declared.expression.Next.{Next}
use Rattle.c_tree.specs.declared.declarator.DeclaratorSuffix.TheOpen.{Expr-F}
use Rattle.c_tree.specs.Spelling.Trees.{expr_spelling, next_spelling, expr_spelling-Assign}
use Rattle.c_tree.specs.Levels.Names.{Names, in_row}
use Rattle.c_tree.specs.Levels.Productions.{postfix, unary, cast, conditional, assignment, none, joins}
use Rattle.c_tree.specs.Levels.Facts.{same, targets, Operand}
use Rattle.c_tree.specs.Levels.Trees.{expr_level, next_level}
use Rattle.c_grammar.specs.Laws.Tests.{and_false}
use Rattle.c_grammar.specs.Laws.Told.{next_level-is, expr_level-Assign}
use Rattle.c_tree.specs.Nesting.Trees.{expr_nesting, next_nesting, expr_nesting-Assign}
use Rattle.c_grammar.specs.Input.{Tokens, Parser, peek, joins_with, goes, many_by}
use Rattle.c_grammar.specs.Read.Nodes.{with_targets, is_unary, is_unary_layer, begins_cast, is_cast}
use Rattle.c_grammar.specs.Read.Expressions.{after_operator, goes_assign, last_unary, assigned_by}
use Rattle.c_grammar.specs.Ending.OfTrees.{Ending, run_target}
use Rattle.c_grammar.specs.Ending.Trees.{expr_ending, prefix_ending, expr_ending-Name, expr_ending-Number, expr_ending-Char, expr_ending-Strings, expr_ending-Paren, expr_ending-Postfix, expr_ending-SizeofType, expr_ending-Prefixed, expr_ending-Binary, expr_ending-Conditional, expr_ending-Assign, prefix_ending-Operator, prefix_ending-Sizeof, prefix_ending-Cast}
use Rattle.c_grammar.specs.Laws.Form.{Form, Exact, Split, Joint, joint_exact, same_exact, two}
use Rattle.c_grammar.specs.Laws.Lists.{Items, Kept, all_good, chain, chain_exact, last_of, left, stop_goes, stop_last, stop_made, added_in_row}
use Rattle.c_grammar.specs.Laws.Cases.{ExprShape, expr_shape, PrefixShape, prefix_shape}
use Rattle.c_grammar.specs.Laws.Behind.{goes_on, expr_form, both_true, both_are, nat_le-true, nat_le-is, nat_le-not, same-true, same-itself, same-false, good_of, where_is, goes_end, next_level as next_production, no_goes}
use Rattle.c_grammar.specs.Laws.Numbers.{shape_number, level_number, number_within, tighter, level_low}
use Rattle.c_grammar.specs.Laws.Levels.{flat}
use Rattle.c_grammar.specs.Laws.Operators.{operand_of, operator_of, next_exact, next_goes, goes_next, before_next, some_next, last_ending}

-- ---- which expressions are unary

prefixed_unary : (run : List Prefix) (a : Expr) → is_unary (expr.Prefixed run a) ≡ not (begins_cast run)
unfolding is_unary
prefixed_unary run a = ap is_unary_layer (ap out-Expr (sym (expr.rolls-Prefixed run a)) ∙ out-roll-Expr (Expr-F.Prefixed run a))

run_unary : (b : Bool) → not b ≡ nat_le (if b then cast else unary) unary
run_unary true = refl
run_unary false = refl

-- a conditional expression by its kind of node
unary_number : {x : Expr} (s : ExprShape x) → shape_number s ≤ conditional → is_unary x ≡ nat_le (shape_number s) unary
unfolding is_unary out-Expr out
unary_number (ExprShape.a_name id) h = refl
unary_number (ExprShape.a_number value kind at) h = refl
unary_number (ExprShape.a_char value at) h = refl
unary_number (ExprShape.a_strings all) h = refl
unary_number (ExprShape.a_paren from inner to) h = refl
unary_number (ExprShape.a_postfix a xs) h = refl
unary_number (ExprShape.a_sizeof_type at from type to) h = refl
unary_number (ExprShape.a_prefixed run a) h = prefixed_unary run a ∙ run_unary (begins_cast run)
unary_number (ExprShape.a_binary lv a ns) h = sym (nat_le-not _ unary (let l = level_low lv in omega arith))
unary_number (ExprShape.a_conditional a bs) h = refl
unary_number (ExprShape.a_assign a ns) h = absurd (omega arith)
unary_number (ExprShape.a_comma a ns) h = absurd (omega arith)

pub unary_is : (x : Expr) (names : Names) → (expr_level x names).0 ≤ conditional → is_unary x ≡ nat_le (expr_level x names).0 unary
unary_is x names h =
    unary_number (expr_shape x) (number_within (expr_shape x) names conditional h (omega arith)) ∙ ap (λ n. nat_le n unary) (sym (level_number (expr_shape x) names (omega arith)))

cast_target : {x : Prefix} → PrefixShape x → (prefix_ending x).target ≡ not (is_cast x)
unfolding is_cast out-Prefix out
cast_target (PrefixShape.a_operator m) = ap (λ e. e.target) (prefix_ending-Operator m)
cast_target (PrefixShape.a_sizeof at) = ap (λ e. e.target) (prefix_ending-Sizeof at)
cast_target (PrefixShape.a_cast from type to) = ap (λ e. e.target) (prefix_ending-Cast from type to)

run_targets : (run : List Prefix) → run_target (map prefix_ending run) ≡ not (begins_cast run)
run_targets [] = refl
run_targets (x ∷ xs) = cast_target (prefix_shape x)

shape_target : {x : Expr} (s : ExprShape x) → shape_number s ≤ conditional → (expr_ending x).target ≡ is_unary x
unfolding is_unary out-Expr out
shape_target (ExprShape.a_name id) h = ap (λ e. e.target) (expr_ending-Name id)
shape_target (ExprShape.a_number value kind at) h = ap (λ e. e.target) (expr_ending-Number value kind at)
shape_target (ExprShape.a_char value at) h = ap (λ e. e.target) (expr_ending-Char value at)
shape_target (ExprShape.a_strings all) h = ap (λ e. e.target) (expr_ending-Strings all)
shape_target (ExprShape.a_paren from inner to) h = ap (λ e. e.target) (expr_ending-Paren from inner to)
shape_target (ExprShape.a_postfix a xs) h = ap (λ e. e.target) (expr_ending-Postfix a xs)
shape_target (ExprShape.a_sizeof_type at from type to) h = ap (λ e. e.target) (expr_ending-SizeofType at from type to)
shape_target (ExprShape.a_prefixed run a) h = ap (λ e. e.target) (expr_ending-Prefixed run a) ∙ run_targets run ∙ sym (prefixed_unary run a)
shape_target (ExprShape.a_binary lv a ns) h = ap (λ e. e.target) (expr_ending-Binary lv a ns)
shape_target (ExprShape.a_conditional a bs) h = ap (λ e. e.target) (expr_ending-Conditional a bs)
shape_target (ExprShape.a_assign a ns) h = absurd (omega arith)
shape_target (ExprShape.a_comma a ns) h = absurd (omega arith)

pub target_is : (x : Expr) (names : Names) → (expr_level x names).0 ≤ conditional → (expr_ending x).target ≡ is_unary x
target_is x names h = shape_target (expr_shape x) (number_within (expr_shape x) names conditional h (omega arith))

-- ---- whether an assignment's operator goes on

after_by : (a t s : Bool) (j : ℕ) → (s ≡ true → j ≡ assignment) → (s ≡ false → j ≡ assignment → ⊥) → conditional < cond a none (cond (not t && s) none j) → (t && s) ≡ false → assignment < cond a none (cond (not t && s) none j)
after_by true t s j f g h e = omega arith
after_by false true true j f g h e = absurd cc
after_by false true false j f g h e = let n = g refl in omega arith
after_by false false true j f g h e = omega arith
after_by false false false j f g h e = let n = g refl in omega arith

pub next_assignment : (e : Ending) (o : Option TokenKind) → conditional < goes_on e o → (e.target && same (joins_with o) assignment) ≡ false → assignment < goes_on e o
next_assignment e None h n = omega arith
next_assignment e (Some (k.Punct op)) h n =
    after_by (e.size && nat_le (joins op) postfix) e.target (same (joins op) assignment) (joins op) (same-true (joins op) assignment) (same-false (joins op) assignment) h n
next_assignment e (Some (k.Bytes bytes)) h n = next_production conditional assignment e (Some (k.Bytes bytes)) (omega arith) (omega arith) h refl
next_assignment e (Some (k.Keyword key)) h n = omega arith
next_assignment e (Some (k.Name text)) h n = omega arith
next_assignment e (Some (k.Number value kind)) h n = omega arith
next_assignment e (Some (k.Char value)) h n = omega arith

no_assign : (e : Ending) (t : Bool) (names : Names) (rest : Tokens) → e.target ≡ t → assignment < goes_on e (peek rest) → (t && goes assignment (names, rest)) ≡ false
no_assign e false names rest t h = refl
no_assign e true names rest t h = no_goes assignment e names rest (omega arith) (and_false e.size) (ap (λ b. not b && same assignment assignment) t) h

-- ---- the operands behind the first

abbrev pub target_items : Items Bool Next
target_items = record {
  spell = next_spelling;
  good = λ u names n. (u ≡ true) × ((joins (operator_of n).punct ≡ assignment) × ((expr_level (operand_of n) names).0 ≤ conditional));
  adds = λ names n. (next_level n names).1;
  nest = next_nesting;
  stop = λ n names rest. conditional < goes_on (expr_ending (operand_of n)) (peek rest);
  goes = goes_assign;
  step = last_unary;
}

flat_is : (n : ℕ) → max 0 (flat n) ≡ flat n
flat_is n = omega arith

targets_kept : (more : ℕ) (operand : Parser Expr) → Exact (expr_form conditional) more operand → Kept target_items more (λ u. after_operator operand)
targets_kept more operand exact =
    let next = next_exact conditional flat flat_is more operand exact in record {
      sound = λ u names ts n end go h.
          let g = next.sound names ts n end h in
          let b = both_true u _ go in
          record { good = (b.0, (goes_next assignment names n end.1 (subst (λ l. goes assignment (names, l) ≡ true) g.spelt b.1), g.good)); nested = g.nested; spelt = g.spelt; seen = g.seen; stops = g.stops };
      complete = λ u names n rest g d st. next.complete names n rest g.1.1 d st;
      starts = λ u names n rest g st. both_are u _ g.0 (next_goes assignment names n rest g.1.0);
      ends = λ u names. ap (λ b. u && b) (goes_end assignment names (omega arith)) ∙ and_false u;
      follows = λ u names x y rest g h st. before_next conditional assignment (expr_ending (operand_of x)) y rest (omega arith) h.1.0;
      some = λ u names n g. some_next n;
    }

targets_low : (a : ℕ) (row : List Operand) → targets a row ≡ true → a ≤ conditional
targets_low a [] h = nat_le-true a conditional h
targets_low a (n ∷ ns) h = let g = nat_le-true a unary (both_true (nat_le a unary) _ h).0 in omega arith

targets_told : (a : ℕ) (u : Bool) (names : Names) (ns : List Next) → u ≡ nat_le a unary → a ≤ conditional → all_good target_items u names ns → targets a (in_row (map next_level ns) names).0 ≡ true
targets_told a u names [] e low g = nat_le-is a conditional low
targets_told a u names (n ∷ ns) e low g =
    let o : (next_level n names).0 ≡ ((operator_of n).punct, (expr_level (operand_of n) names).0) = ap (λ f. (f names).0) (next_level-is n) in
    let rest = targets_told (expr_level (operand_of n) names).0 (is_unary (operand_of n)) (names ++ (next_level n names).1) ns (unary_is (operand_of n) names g.0.1.1) g.0.1.1 g.1 in
    both_are _ _ (sym e ∙ g.0.0) (both_are _ _ (ap (λ (f : Operand). same (joins f.0) assignment) o ∙ subst (λ m. same (joins (operator_of n).punct) m ≡ true) g.0.1.0 (same-itself (joins (operator_of n).punct)))
    (ap (λ (f : Operand). targets f.1 (in_row (map next_level ns) (names ++ (next_level n names).1)).0) o ∙ rest))

targets_are : (a : ℕ) (u : Bool) (names : Names) (ns : List Next) → u ≡ nat_le a unary → targets a (in_row (map next_level ns) names).0 ≡ true → all_good target_items u names ns
targets_are a u names [] e h = tt
targets_are a u names (n ∷ ns) e h =
    let o : (next_level n names).0 ≡ ((operator_of n).punct, (expr_level (operand_of n) names).0) = ap (λ f. (f names).0) (next_level-is n) in
    let b = both_true (nat_le a unary) _ h in
    let c = both_true (same (joins (next_level n names).0.0) assignment) _ b.1 in
    let rest : targets (expr_level (operand_of n) names).0 (in_row (map next_level ns) (names ++ (next_level n names).1)).0 ≡ true =
    sym (ap (λ (f : Operand). targets f.1 (in_row (map next_level ns) (names ++ (next_level n names).1)).0) o) ∙ c.1 in
    let low = targets_low (expr_level (operand_of n) names).0 _ rest in (
      (e ∙ b.0, (same-true (joins (operator_of n).punct) assignment (sym (ap (λ (f : Operand). same (joins f.0) assignment) o) ∙ c.0), low)),
      targets_are (expr_level (operand_of n) names).0 (is_unary (operand_of n)) (names ++ (next_level n names).1) ns (unary_is (operand_of n) names low) rest,
    )

-- ---- assignments

abbrev pub assign_form : Form (Expr × List Next)
assign_form = chain (expr_form conditional) target_items is_unary

pub assign_good : (names : Names) (a : Expr) (ns : List Next) → assign_form.good names (a, ns) → (expr_level (with_targets a ns) names).0 ≤ assignment
assign_good names a [] g = let h = g.0 in omega arith
assign_good names a (n ∷ ns) g =
    rw (expr_level-Assign a (n ∷ ns)) (where_is _ assignment assignment (targets_told (expr_level a names).0 (is_unary a) (names ++ (expr_level a names).1) (n ∷ ns) (unary_is a names g.0) g.0 g.1) (omega arith))

assign_node : (a : Expr) (ns : List Next) (names : Names) → (expr_level (expr.Assign a ns) names).0 ≤ assignment → Split assign_form (λ t. with_targets t.0 t.1) (expr_form assignment) names (expr.Assign a ns)
assign_node a [] names h = absurd (let b : false ≡ true = (good_of false assignment assignment (rw (expr_level-Assign a []) at h) (omega arith)).0 in cc)
assign_node a (n ∷ ns) names h =
    let b = (good_of _ assignment assignment (rw (expr_level-Assign a (n ∷ ns)) at h) (omega arith)).0 in
    let low = targets_low (expr_level a names).0 (in_row (map next_level (n ∷ ns)) (names ++ (expr_level a names).1)).0 b in
    record { tuple = (a, n ∷ ns); whole = refl; good = (low, targets_are (expr_level a names).0 (is_unary a) (names ++ (expr_level a names).1) (n ∷ ns) (unary_is a names low) b) }

alone : {x : Expr} (s : ExprShape x) (names : Names) → (expr_level x names).0 ≤ assignment → shape_number s ≤ conditional → Split assign_form (λ t. with_targets t.0 t.1) (expr_form assignment) names x
alone {x} s names h n = record { tuple = (x, []); whole = refl; good = (tighter s names conditional (omega arith) n, tt) }

run_low : (b : Bool) → (if b then cast else unary) ≤ cast
run_low true = omega arith
run_low false = omega arith

pub assign_split : {x : Expr} → ExprShape x → (names : Names) → (expr_level x names).0 ≤ assignment → Split assign_form (λ t. with_targets t.0 t.1) (expr_form assignment) names x
assign_split (ExprShape.a_assign a ns) names h = assign_node a ns names h
assign_split (ExprShape.a_name id) names h = alone (ExprShape.a_name id) names h (omega arith)
assign_split (ExprShape.a_number value kind at) names h = alone (ExprShape.a_number value kind at) names h (omega arith)
assign_split (ExprShape.a_char value at) names h = alone (ExprShape.a_char value at) names h (omega arith)
assign_split (ExprShape.a_strings all) names h = alone (ExprShape.a_strings all) names h (omega arith)
assign_split (ExprShape.a_paren from inner to) names h = alone (ExprShape.a_paren from inner to) names h (omega arith)
assign_split (ExprShape.a_postfix a xs) names h = alone (ExprShape.a_postfix a xs) names h (omega arith)
assign_split (ExprShape.a_sizeof_type at from type to) names h = alone (ExprShape.a_sizeof_type at from type to) names h (omega arith)
assign_split (ExprShape.a_prefixed run a) names h = alone (ExprShape.a_prefixed run a) names h (let l = run_low (begins_cast run) in omega arith)
assign_split (ExprShape.a_binary lv a ns) names h = alone (ExprShape.a_binary lv a ns) names h (let l = level_low lv in omega arith)
assign_split (ExprShape.a_conditional a bs) names h = alone (ExprShape.a_conditional a bs) names h (omega arith)
assign_split (ExprShape.a_comma a ns) names h = absurd (let e = number_within (ExprShape.a_comma a ns) names assignment h (omega arith) in omega arith)

assign_nested : (a : Expr) (ns : List Next) → expr_nesting (with_targets a ns) ≡ assign_form.nest (a, ns)
assign_nested a [] = omega arith
assign_nested a (n ∷ ns) = expr_nesting-Assign a (n ∷ ns)

pub assign_spelt : (a : Expr) (ns : List Next) → expr_spelling (with_targets a ns) ≡ assign_form.spell (a, ns)
assign_spelt a [] = sym (append-nil (expr_spelling a))
assign_spelt a (n ∷ ns) = expr_spelling-Assign a (n ∷ ns)

assign_seen : (names : Names) (a : Expr) (ns : List Next) → (expr_level (with_targets a ns) names).1 ≡ assign_form.adds names (a, ns)
assign_seen names a [] = sym (append-nil (expr_level a names).1)
assign_seen names a (n ∷ ns) =
    ap (λ f. (f names).1) (expr_level-Assign a (n ∷ ns)) ∙ ap (λ l. (expr_level a names).1 ++ l) (sym (added_in_row target_items next_level (λ names x. refl) (names ++ (expr_level a names).1) (n ∷ ns)))

-- whether the last operand is unary
pub left_unary : (u : Bool) (n : Next) (ns : List Next) → left target_items u (n ∷ ns) ≡ is_unary (operand_of (last_of target_items n ns))
left_unary u n [] = refl
left_unary u n (m ∷ ns) = left_unary (last_unary u n) m ns

pub last_good : (u : Bool) (names : Names) (n : Next) (ns : List Next) → all_good target_items u names (n ∷ ns) → (expr_ending (operand_of (last_of target_items n ns))).target ≡ is_unary (operand_of (last_of target_items n ns))
last_good u names n [] g = target_is (operand_of n) names g.0.1.1
last_good u names n (m ∷ ns) g = last_good (last_unary u n) (names ++ (next_level n names).1) m ns g.1

assign_stop : (names : Names) (a : Expr) (ns : List Next) (behind : Names) (rest : Tokens) → assign_form.good names (a, ns) → assign_form.stop (a, ns) behind rest → assignment < goes_on (expr_ending (with_targets a ns)) (peek rest)
assign_stop names a [] behind rest g h =
    next_assignment (expr_ending a) (peek rest) h.0 (ap (λ b. b && same (joins_with (peek rest)) assignment) (target_is a names g.0) ∙ h.1)
assign_stop names a (n ∷ ns) behind rest g h =
    let x : Expr = operand_of (last_of target_items n ns) in
    let own = stop_last target_items (is_unary a) n ns behind rest h in
    let more = stop_goes target_items (is_unary a) (n ∷ ns) behind rest h in
    let t = last_good (is_unary a) (names ++ (expr_level a names).1) n ns g.1 in
    subst (λ e. assignment < goes_on e (peek rest)) (sym (expr_ending-Assign a (n ∷ ns) ∙ last_ending Bool target_items (expr_ending a) n ns))
    (next_assignment (expr_ending x) (peek rest) own (ap (λ b. b && same (joins_with (peek rest)) assignment) (t ∙ sym (left_unary (is_unary a) n ns)) ∙ more))

assign_from_stop : (names : Names) (a : Expr) (ns : List Next) (behind : Names) (rest : Tokens) → assign_form.good names (a, ns) → assignment < goes_on (expr_ending (with_targets a ns)) (peek rest) → assign_form.stop (a, ns) behind rest
assign_from_stop names a [] behind rest g h = (omega arith, no_assign (expr_ending a) (is_unary a) behind rest (target_is a names g.0) h)
assign_from_stop names a (n ∷ ns) behind rest g h =
    let x : Expr = operand_of (last_of target_items n ns) in
    let h1 : assignment < goes_on (expr_ending x) (peek rest) = subst (λ e. assignment < goes_on e (peek rest)) (expr_ending-Assign a (n ∷ ns) ∙ last_ending Bool target_items (expr_ending a) n ns) h in
    let t = last_good (is_unary a) (names ++ (expr_level a names).1) n ns g.1 in
    stop_made target_items (is_unary a) n ns behind rest (omega arith)
    (ap (λ b. b && goes assignment (behind, rest)) (left_unary (is_unary a) n ns) ∙ no_assign (expr_ending x) (is_unary x) behind rest t h1)

assign_joint : Joint assign_form (λ t. with_targets t.0 t.1) (expr_form assignment)
assign_joint = record {
  good = λ names t g. assign_good names t.0 t.1 g;
  split = λ names x g. assign_split (expr_shape x) names g;
  nested = λ t. assign_nested t.0 t.1;
  spelt = λ t. assign_spelt t.0 t.1;
  seen = λ names t. assign_seen names t.0 t.1;
  stop = λ names t behind rest g h. assign_stop names t.0 t.1 behind rest g h;
  from_stop = λ names t behind rest g h. assign_from_stop names t.0 t.1 behind rest g h;
}

pub assigned_exact : (more : ℕ) (operand : Parser Expr) → Exact (expr_form conditional) more operand → Exact (expr_form assignment) more (assigned_by operand)
unfolding assigned_by
assigned_exact more operand exact =
    same_exact (expr_form assignment) more _ (assigned_by operand) (two operand (λ first. many_by goes_assign (λ _. after_operator operand) last_unary (is_unary first)) with_targets)
    (joint_exact assign_form (λ t. with_targets t.0 t.1) (expr_form assignment) more _
    (chain_exact (expr_form conditional) target_items is_unary more operand (λ u. after_operator operand) exact (targets_kept more operand exact)
    (λ names a n rest g h st. before_next conditional assignment (expr_ending a) n rest (omega arith) h.1.0)) assign_joint)
