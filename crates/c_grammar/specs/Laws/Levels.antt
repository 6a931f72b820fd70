-- The levels of operators, and commas: an operand alone, or a node of the production.
use Rattle.std.specs.Prelude.{◌≡◌, ℕ, ◌+◌, ◌≤◌, ◌<◌, max, Bool, true, false, not, ◌&&◌, if◌then◌else◌, nat_le, List, [], ◌∷◌, ◌++◌, map, Option, Some, None, refl}
use Rattle.std.proofs.Common.{ap, sym, ◌∙◌, subst, cond, arith, append-nil, ◌⊎◌, inl, inr}
use Rattle.c_tree.specs.declared.token.TokenKind.{TokenKind}
use Rattle.c_tree.specs.declared.token.TokenKind.TheVariants as k
use Rattle.c_tree.specs.declared.expression.Level.{Level}
use Rattle.c_tree.specs.declared.expression.Expr.{Expr}
use Rattle.c_tree.specs.declared.expression.Expr.TheVariants as expr
use Rattle.c_tree.specs.declared.expression.Next.{Next}
use Rattle.c_tree.specs.Spelling.Tokens.{joined}
use Rattle.c_tree.specs.Spelling.Trees.{expr_spelling, next_spelling, expr_spelling-Binary, expr_spelling-Comma}
use Rattle.c_tree.specs.Levels.Names.{Names, in_row}
use Rattle.c_tree.specs.Levels.Productions.{postfix, prefixed, unary, cast, or, assignment, comma, none, joins, of_level, below}
use Rattle.c_tree.specs.Levels.Facts.{same, where_good, operands}
use Rattle.c_tree.specs.Levels.Trees.{expr_level, next_level}
use Rattle.c_grammar.specs.Laws.Told.{expr_level-Binary, expr_level-Comma}
use Rattle.c_tree.specs.Nesting.OfTrees.{deepest}
use Rattle.c_tree.specs.Nesting.Trees.{expr_nesting, next_nesting, expr_nesting-Binary, expr_nesting-Comma}
use Rattle.c_grammar.specs.Input.{Tokens, Parser, ◌>>=◌, pure, peek}
use Rattle.c_grammar.specs.Read.Nodes.{with_operands, with_commas, begins_cast}
use Rattle.c_grammar.specs.Read.Expressions.{after_operator, nexts, binary, commas_by}
use Rattle.c_grammar.specs.Ending.OfTrees.{Ending, last, no_target}
use Rattle.c_grammar.specs.Ending.Trees.{expr_ending, next_ending, expr_ending-Binary, expr_ending-Comma}
use Rattle.c_grammar.specs.Laws.Form.{Form, Exact, Split, Joint, joint_exact, same_exact, two}
use Rattle.c_grammar.specs.Laws.Lists.{chain, chain_exact, last_of, stop_goes, stop_last, stop_made}
use Rattle.c_grammar.specs.Laws.Cases.{ExprShape, expr_shape}
use Rattle.c_grammar.specs.Laws.Behind.{goes_on, expr_form, both_true, both_are, nat_le-true, nat_le-is, nat_le-false, same-true, good_of, where_is, next_level as next_production, no_goes_level}
use Rattle.c_grammar.specs.Laws.Numbers.{shape_number, number_within, tighter, level_low, below_level, same_level}
use Rattle.c_grammar.specs.Laws.Operators.{operand_of, next_items, nexts_kept, before_next, operands_good, operands_are, operands_added, last_ending}

-- a node of the production
pub record Made (make : Expr → List Next → Expr) (x : Expr) : Type 0 where
  pub first : Expr
  pub next : Next
  pub rest : List Next
  pub whole : make first (next ∷ rest) ≡ x

abbrev pub flat : ℕ → ℕ
flat n = n

pub flat_is : (n : ℕ) → max 0 (flat n) ≡ flat n
flat_is n = omega arith

-- how nodes of a production are made of an operand and a list
pub record Row (level within : ℕ) (make : Expr → List Next → Expr) (turn : Ending → Ending) : Type 0 where
  pub alone : (a : Expr) → make a [] ≡ a
  pub told : (names : Names) (a : Expr) (n : Next) (ns : List Next)
      → (expr_level (make a (n ∷ ns)) names).0 ≡ where_good (nat_le (expr_level a names).0 within && operands level within (in_row (map next_level (n ∷ ns)) (names ++ (expr_level a names).1)).0) level
  pub adds : (names : Names) (a : Expr) (n : Next) (ns : List Next) → (expr_level (make a (n ∷ ns)) names).1 ≡ (expr_level a names).1 ++ (in_row (map next_level (n ∷ ns)) (names ++ (expr_level a names).1)).1
  pub spelt : (a : Expr) (n : Next) (ns : List Next) → expr_spelling (make a (n ∷ ns)) ≡ expr_spelling a ++ joined (map next_spelling (n ∷ ns))
  pub nested : (a : Expr) (n : Next) (ns : List Next) → expr_nesting (make a (n ∷ ns)) ≡ max (expr_nesting a) (deepest (map next_nesting (n ∷ ns)))
  pub ends : (a : Expr) (n : Next) (ns : List Next) → expr_ending (make a (n ∷ ns)) ≡ turn (last (expr_ending a) (map next_ending (n ∷ ns)))
  pub turn_to : (e : Ending) (o : Option TokenKind) → level < goes_on e o → level < goes_on (turn e) o
  pub turn_from : (e : Ending) (o : Option TokenKind) → level < goes_on (turn e) o → within < goes_on e o
  pub split : (names : Names) (x : Expr) → (expr_level x names).0 ≤ level → (expr_level x names).0 ≤ within ⊎ Made make x

module _ (level within : ℕ) (make : Expr → List Next → Expr) (turn : Ending → Ending) (row : Row level within make turn)
    (above : level ≡ within + 1) (high : prefixed ≤ level) (low : level < none) (no_assignment : level ≡ assignment → ⊥) where
  abbrev pub row_form : Form (Expr × List Next)
  row_form = chain (expr_form within) (next_items level within flat) (λ a. tt)

  pub row_good : (names : Names) (a : Expr) (ns : List Next) → row_form.good names (a, ns) → (expr_level (make a ns) names).0 ≤ level
  row_good names a [] g = subst (λ x. (expr_level x names).0 ≤ level) (sym (row.alone a)) (let h = g.0 in omega arith)
  row_good names a (n ∷ ns) g =
      subst (λ m. m ≤ level) (sym (row.told names a n ns))
      (where_is _ level level (both_are _ _ (nat_le-is (expr_level a names).0 within g.0) (operands_good level within flat flat_is (omega arith) low (names ++ (expr_level a names).1) (n ∷ ns) g.1)) (omega arith))

  pub row_split : (names : Names) (x : Expr) → (expr_level x names).0 ≤ level → (expr_level x names).0 ≤ within ⊎ Made make x → Split row_form (λ t. make t.0 t.1) (expr_form level) names x
  row_split names x h (inl g) = record { tuple = (x, []); whole = row.alone x; good = (g, tt) }
  row_split names x h (inr m) =
      let h1 : (expr_level (make m.first (m.next ∷ m.rest)) names).0 ≤ level = subst (λ x. (expr_level x names).0 ≤ level) (sym m.whole) h in
      let b = both_true (nat_le (expr_level m.first names).0 within) _ (good_of _ level level (subst (λ n. n ≤ level) (row.told names m.first m.next m.rest) h1) low).0 in
      record {
        tuple = (m.first, m.next ∷ m.rest);
        whole = m.whole;
        good = (nat_le-true (expr_level m.first names).0 within b.0, operands_are level within flat flat_is (omega arith) low (names ++ (expr_level m.first names).1) (m.next ∷ m.rest) b.1);
      }

  row_nested : (a : Expr) (ns : List Next) → expr_nesting (make a ns) ≡ row_form.nest (a, ns)
  row_nested a [] = ap expr_nesting (row.alone a) ∙ omega arith
  row_nested a (n ∷ ns) = row.nested a n ns

  pub row_spelt : (a : Expr) (ns : List Next) → expr_spelling (make a ns) ≡ row_form.spell (a, ns)
  row_spelt a [] = ap expr_spelling (row.alone a) ∙ sym (append-nil (expr_spelling a))
  row_spelt a (n ∷ ns) = row.spelt a n ns

  row_seen : (names : Names) (a : Expr) (ns : List Next) → (expr_level (make a ns) names).1 ≡ row_form.adds names (a, ns)
  row_seen names a [] = ap (λ x. (expr_level x names).1) (row.alone a) ∙ sym (append-nil (expr_level a names).1)
  row_seen names a (n ∷ ns) = row.adds names a n ns ∙ ap (λ l. (expr_level a names).1 ++ l) (sym (operands_added level within flat flat_is (omega arith) low (names ++ (expr_level a names).1) (n ∷ ns)))

  row_stop : (a : Expr) (ns : List Next) (behind : Names) (rest : Tokens) → row_form.stop (a, ns) behind rest → level < goes_on (expr_ending (make a ns)) (peek rest)
  row_stop a [] behind rest h = subst (λ x. level < goes_on (expr_ending x) (peek rest)) (sym (row.alone a)) (next_production within level (expr_ending a) (peek rest) above low h.0 h.1)
  row_stop a (n ∷ ns) behind rest h =
      let own = stop_last (next_items level within flat) tt n ns behind rest h in
      let more = stop_goes (next_items level within flat) tt (n ∷ ns) behind rest h in
      let e = last_ending (Unit {0}) (next_items level within flat) (expr_ending a) n ns in
      subst (λ e. level < goes_on e (peek rest)) (sym (row.ends a n ns)) (row.turn_to _ (peek rest)
      (subst (λ e. level < goes_on e (peek rest)) (sym e) (next_production within level (expr_ending (operand_of (last_of (next_items level within flat) n ns))) (peek rest) above low own more)))

  row_from_stop : (a : Expr) (ns : List Next) (behind : Names) (rest : Tokens) → level < goes_on (expr_ending (make a ns)) (peek rest) → row_form.stop (a, ns) behind rest
  row_from_stop a [] behind rest h =
      let h1 : level < goes_on (expr_ending a) (peek rest) = subst (λ x. level < goes_on (expr_ending x) (peek rest)) (row.alone a) h in
      (omega arith, no_goes_level level (expr_ending a) behind rest high no_assignment low h1)
  row_from_stop a (n ∷ ns) behind rest h =
      let h1 = subst (λ e. level < goes_on e (peek rest)) (row.ends a n ns) h in
      let e = last_ending (Unit {0}) (next_items level within flat) (expr_ending a) n ns in
      stop_made (next_items level within flat) tt n ns behind rest (subst (λ e. within < goes_on e (peek rest)) e (row.turn_from _ (peek rest) h1))
      (no_goes_level level (turn (last (expr_ending a) (map next_ending (n ∷ ns)))) behind rest high no_assignment low h1)

  row_joint : Joint row_form (λ t. make t.0 t.1) (expr_form level)
  row_joint = record {
    good = λ names t g. row_good names t.0 t.1 g;
    split = λ names x g. row_split names x g (row.split names x g);
    nested = λ t. row_nested t.0 t.1;
    spelt = λ t. row_spelt t.0 t.1;
    seen = λ names t. row_seen names t.0 t.1;
    stop = λ names t behind rest g h. row_stop t.0 t.1 behind rest h;
    from_stop = λ names t behind rest g h. row_from_stop t.0 t.1 behind rest h;
  }

  pub row_exact : (more : ℕ) (operand : Parser Expr) → Exact (expr_form within) more operand → Exact (expr_form level) more (operand >>= (λ first. nexts level operand >>= (λ rest. pure (make first rest))))
  unfolding nexts
  row_exact more operand exact =
      same_exact (expr_form level) more _ _ (two operand (λ first. nexts level operand) make)
      (joint_exact row_form (λ t. make t.0 t.1) (expr_form level) more _
      (chain_exact (expr_form within) (next_items level within flat) (λ a. tt) more operand (λ s. after_operator operand) exact (nexts_kept level within flat flat_is (omega arith) low more operand exact)
      (λ names a n rest g h st. before_next within level (expr_ending a) n rest (omega arith) h.0)) row_joint)

-- ---- operators of a level (C11 6.5.5 to 6.5.14)

-- an assignment's operator does not stand behind operators, and of the others nothing is changed
turned_to : (b t s : Bool) (j level : ℕ) → level < none → level < cond b none (cond (not t && s) none j) → level < cond b none (cond (true && s) none j)
turned_to true t s j level low h = low
turned_to false t true j level low h = low
turned_to false true false j level low h = h
turned_to false false false j level low h = h

pub no_target_to : (level : ℕ) (e : Ending) (o : Option TokenKind) → level < none → level < goes_on e o → level < goes_on (no_target e) o
no_target_to level e None low h = h
no_target_to level e (Some (k.Punct op)) low h = turned_to (e.size && nat_le (joins op) postfix) e.target (same (joins op) assignment) (joins op) level low h
no_target_to level e (Some (k.Bytes bytes)) low h = h
no_target_to level e (Some (k.Keyword key)) low h = h
no_target_to level e (Some (k.Name text)) low h = h
no_target_to level e (Some (k.Number value kind)) low h = h
no_target_to level e (Some (k.Char value)) low h = h

turned_from : (b t s : Bool) (j within : ℕ) → within < assignment → (s ≡ true → j ≡ assignment) → within < cond b none (cond (true && s) none j) → within < cond b none (cond (not t && s) none j)
turned_from true t s j within low e h = omega arith
turned_from false true true j within low e h = let a = e refl in omega arith
turned_from false false true j within low e h = h
turned_from false true false j within low e h = h
turned_from false false false j within low e h = h

pub no_target_from : (within : ℕ) (e : Ending) (o : Option TokenKind) → within < assignment → within < goes_on (no_target e) o → within < goes_on e o
no_target_from within e None low h = h
no_target_from within e (Some (k.Punct op)) low h = turned_from (e.size && nat_le (joins op) postfix) e.target (same (joins op) assignment) (joins op) within low (same-true (joins op) assignment) h
no_target_from within e (Some (k.Bytes bytes)) low h = h
no_target_from within e (Some (k.Keyword key)) low h = h
no_target_from within e (Some (k.Name text)) low h = h
no_target_from within e (Some (k.Number value kind)) low h = h
no_target_from within e (Some (k.Char value)) low h = h

run_low : (b : Bool) → (if b then cast else unary) ≤ cast
run_low true = omega arith
run_low false = omega arith

binary_of : (lv : Level) (a : Expr) (ns : List Next) (names : Names) → (expr_level (expr.Binary lv a ns) names).0 ≤ of_level lv → Made (with_operands lv) (expr.Binary lv a ns)
binary_of lv a [] names h =
    let l = level_low lv in
    let b = (good_of (nat_le (expr_level a names).0 (below lv) && false) (of_level lv) (of_level lv) (rw (expr_level-Binary lv a []) at h) (omega arith)).0 in
    absurd (let z = (both_true (nat_le (expr_level a names).0 (below lv)) false b).1 in cc)
binary_of lv a (n ∷ ns) names h = record { first = a; next = n; rest = ns; whole = refl }

of_other : (lv other : Level) (a : Expr) (ns : List Next) (names : Names) (b : Bool) → nat_le (of_level other) (below lv) ≡ b → (expr_level (expr.Binary other a ns) names).0 ≤ of_level lv
    → (expr_level (expr.Binary other a ns) names).0 ≤ below lv ⊎ Made (with_operands lv) (expr.Binary other a ns)
of_other lv other a ns names true e h = inl (tighter (ExprShape.a_binary other a ns) names (below lv) (let l = level_low lv in omega arith) (nat_le-true (of_level other) (below lv) e))
of_other lv other a ns names false e h =
    let l = level_low lv in
    let d = below_level lv in
    let n = number_within (ExprShape.a_binary other a ns) names (of_level lv) h (omega arith) in
    let m = nat_le-false (of_level other) (below lv) e in
    let same : lv ≡ other = same_level lv other (omega arith) in
    inr (subst (λ l. (expr_level (expr.Binary l a ns) names).0 ≤ of_level lv → Made (with_operands lv) (expr.Binary l a ns)) same (binary_of lv a ns names) h)

tight : {x : Expr} (s : ExprShape x) (lv : Level) (names : Names) → (expr_level x names).0 ≤ of_level lv → shape_number s ≤ cast → (expr_level x names).0 ≤ below lv ⊎ Made (with_operands lv) x
tight s lv names h n = let l = level_low lv in let d = below_level lv in inl (tighter s names (below lv) (omega arith) (omega arith))

loose : {x : Expr} (s : ExprShape x) (lv : Level) (names : Names) → (expr_level x names).0 ≤ of_level lv → or < shape_number s → (expr_level x names).0 ≤ below lv ⊎ Made (with_operands lv) x
loose s lv names h n = let l = level_low lv in let m = number_within s names (of_level lv) h (omega arith) in absurd (omega arith)

binary_split : {x : Expr} → ExprShape x → (lv : Level) (names : Names) → (expr_level x names).0 ≤ of_level lv → (expr_level x names).0 ≤ below lv ⊎ Made (with_operands lv) x
binary_split (ExprShape.a_binary other a ns) lv names h = of_other lv other a ns names (nat_le (of_level other) (below lv)) refl h
binary_split (ExprShape.a_conditional first rest) lv names h = loose (ExprShape.a_conditional first rest) lv names h (omega arith)
binary_split (ExprShape.a_assign first rest) lv names h = loose (ExprShape.a_assign first rest) lv names h (omega arith)
binary_split (ExprShape.a_comma first rest) lv names h = loose (ExprShape.a_comma first rest) lv names h (omega arith)
binary_split (ExprShape.a_prefixed run operand) lv names h = tight (ExprShape.a_prefixed run operand) lv names h (run_low (begins_cast run))
binary_split (ExprShape.a_name id) lv names h = tight (ExprShape.a_name id) lv names h (omega arith)
binary_split (ExprShape.a_number value kind at) lv names h = tight (ExprShape.a_number value kind at) lv names h (omega arith)
binary_split (ExprShape.a_char value at) lv names h = tight (ExprShape.a_char value at) lv names h (omega arith)
binary_split (ExprShape.a_strings all) lv names h = tight (ExprShape.a_strings all) lv names h (omega arith)
binary_split (ExprShape.a_paren from inner to) lv names h = tight (ExprShape.a_paren from inner to) lv names h (omega arith)
binary_split (ExprShape.a_postfix operand suffixes) lv names h = tight (ExprShape.a_postfix operand suffixes) lv names h (omega arith)
binary_split (ExprShape.a_sizeof_type at from type to) lv names h = tight (ExprShape.a_sizeof_type at from type to) lv names h (omega arith)

pub binary_row : (lv : Level) → Row (of_level lv) (below lv) (with_operands lv) no_target
binary_row lv = let l = level_low lv in let d = below_level lv in record {
  alone = λ a. refl;
  told = λ names a n ns. ap (λ f. (f names).0) (expr_level-Binary lv a (n ∷ ns));
  adds = λ names a n ns. ap (λ f. (f names).1) (expr_level-Binary lv a (n ∷ ns));
  spelt = λ a n ns. expr_spelling-Binary lv a (n ∷ ns);
  nested = λ a n ns. expr_nesting-Binary lv a (n ∷ ns);
  ends = λ a n ns. expr_ending-Binary lv a (n ∷ ns);
  turn_to = λ e o h. no_target_to (of_level lv) e o (omega arith) h;
  turn_from = λ e o h. no_target_from (below lv) e o (omega arith) (omega arith);
  split = λ names x h. binary_split (expr_shape x) lv names h;
}

-- a level of operators is read exactly where its operands are
pub binary_exact : (lv : Level) (more : ℕ) (operand : Parser Expr) → Exact (expr_form (below lv)) more operand → Exact (expr_form (of_level lv)) more (binary lv operand)
unfolding binary
binary_exact lv more operand exact =
    let l = level_low lv in let d = below_level lv in
    row_exact (of_level lv) (below lv) (with_operands lv) no_target (binary_row lv) d (omega arith) (omega arith) (λ e. omega arith) more operand exact

-- ---- commas (C11 6.5.17)

comma_of : (a : Expr) (ns : List Next) (names : Names) → (expr_level (expr.Comma a ns) names).0 ≤ comma → Made with_commas (expr.Comma a ns)
comma_of a [] names h =
    let b = (good_of (nat_le (expr_level a names).0 assignment && false) comma comma (rw (expr_level-Comma a []) at h) (omega arith)).0 in
    absurd (let z = (both_true (nat_le (expr_level a names).0 assignment) false b).1 in cc)
comma_of a (n ∷ ns) names h = record { first = a; next = n; rest = ns; whole = refl }

within_assignment : {x : Expr} (s : ExprShape x) (names : Names) → (expr_level x names).0 ≤ comma → shape_number s ≤ assignment → (expr_level x names).0 ≤ assignment ⊎ Made with_commas x
within_assignment s names h n = inl (tighter s names assignment (omega arith) n)

comma_split : {x : Expr} → ExprShape x → (names : Names) → (expr_level x names).0 ≤ comma → (expr_level x names).0 ≤ assignment ⊎ Made with_commas x
comma_split (ExprShape.a_comma a ns) names h = inr (comma_of a ns names h)
comma_split (ExprShape.a_binary lv a ns) names h = within_assignment (ExprShape.a_binary lv a ns) names h (let l = level_low lv in omega arith)
comma_split (ExprShape.a_prefixed run operand) names h = within_assignment (ExprShape.a_prefixed run operand) names h (let l = run_low (begins_cast run) in omega arith)
comma_split (ExprShape.a_conditional first rest) names h = within_assignment (ExprShape.a_conditional first rest) names h (omega arith)
comma_split (ExprShape.a_assign first rest) names h = within_assignment (ExprShape.a_assign first rest) names h (omega arith)
comma_split (ExprShape.a_name id) names h = within_assignment (ExprShape.a_name id) names h (omega arith)
comma_split (ExprShape.a_number value kind at) names h = within_assignment (ExprShape.a_number value kind at) names h (omega arith)
comma_split (ExprShape.a_char value at) names h = within_assignment (ExprShape.a_char value at) names h (omega arith)
comma_split (ExprShape.a_strings all) names h = within_assignment (ExprShape.a_strings all) names h (omega arith)
comma_split (ExprShape.a_paren from inner to) names h = within_assignment (ExprShape.a_paren from inner to) names h (omega arith)
comma_split (ExprShape.a_postfix operand suffixes) names h = within_assignment (ExprShape.a_postfix operand suffixes) names h (omega arith)
comma_split (ExprShape.a_sizeof_type at from type to) names h = within_assignment (ExprShape.a_sizeof_type at from type to) names h (omega arith)

pub comma_row : Row comma assignment with_commas (λ e. e)
comma_row = record {
  alone = λ a. refl;
  told = λ names a n ns. ap (λ f. (f names).0) (expr_level-Comma a (n ∷ ns));
  adds = λ names a n ns. ap (λ f. (f names).1) (expr_level-Comma a (n ∷ ns));
  spelt = λ a n ns. expr_spelling-Comma a (n ∷ ns);
  nested = λ a n ns. expr_nesting-Comma a (n ∷ ns);
  ends = λ a n ns. expr_ending-Comma a (n ∷ ns);
  turn_to = λ e o h. h;
  turn_from = λ e o h. omega arith;
  split = λ names x h. comma_split (expr_shape x) names h;
}

pub commas_exact : (more : ℕ) (operand : Parser Expr) → Exact (expr_form assignment) more operand → Exact (expr_form comma) more (commas_by operand)
unfolding commas_by
commas_exact more operand exact =
    row_exact comma assignment with_commas (λ e. e) comma_row (omega arith) (omega arith) (omega arith) (λ e. omega arith) more operand exact
