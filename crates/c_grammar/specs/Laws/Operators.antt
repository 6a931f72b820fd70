-- Operands of one production with operators between are read exactly.
use Rattle.std.specs.Prelude.{◌≡◌, ℕ, ◌≤◌, ◌<◌, max, true, nat_le, List, [], ◌∷◌, ◌++◌, length, map, Some, refl}
use Rattle.std.proofs.Common.{ap, sym, ◌∙◌, subst, arith}
use Rattle.c_tree.specs.declared.token.Pos.{Pos}
use Rattle.c_tree.specs.declared.token.TokenKind.{TokenKind}
use Rattle.c_tree.specs.declared.token.TokenKind.TheVariants as k
use Rattle.c_tree.specs.declared.expression.Mark.{Mark}
use Rattle.c_tree.specs.declared.expression.Expr.{Expr}
use Rattle.c_tree.specs.declared.expression.Next.{Next, out-Next, roll-Next, roll-out-Next}
use Rattle.c_tree.specs.Spelling.Tokens.{token, mark}
use Rattle.c_tree.specs.Spelling.Trees.{expr_spelling, next_spelling, next_spelling-is}
use Rattle.c_tree.specs.Levels.Names.{Names, in_row}
use Rattle.c_tree.specs.Levels.Productions.{none, joins}
use Rattle.c_tree.specs.Levels.Facts.{same, Operand, operands}
use Rattle.c_tree.specs.Levels.Trees.{expr_level, next_level}
use Rattle.c_grammar.specs.Laws.Told.{next_level-is}
use Rattle.c_tree.specs.Nesting.Trees.{expr_nesting, next_nesting, next_nesting-is}
use Rattle.c_grammar.specs.Input.{Tokens, Parser, peek, goes, one}
use Rattle.c_grammar.specs.Read.Expressions.{operator_at, after_operator}
use Rattle.c_grammar.specs.Ending.OfTrees.{Ending, last}
use Rattle.c_grammar.specs.Ending.Trees.{expr_ending, next_ending, next_ending-is}
use Rattle.c_grammar.specs.Laws.Form.{Form, Exact, Node, Image, only, node_exact, same_exact, whole_exact, two}
use Rattle.c_grammar.specs.Laws.Lists.{Items, Kept, all_good, all_added, last_of, added_in_row}
use Rattle.c_grammar.specs.Laws.Single.{single, one_exact, always}
use Rattle.c_grammar.specs.Laws.Rows.{pre, pre_exact}
use Rattle.c_grammar.specs.Laws.Behind.{goes_on, expr_form, both_true, both_are, nat_le-true, nat_le-is, same-true, same-itself, before_mark, goes_mark, mark_goes, goes_end}

-- ---- an operator, and the operand behind it

-- expressions of a production, where nesting is counted from somewhere
abbrev pub expr_at : ℕ → (ℕ → ℕ) → Form Expr
expr_at within up = record { spell = (expr_form within).spell; good = (expr_form within).good; adds = (expr_form within).adds; nest = λ x. up (expr_nesting x); stop = (expr_form within).stop }

abbrev pub operand_of : Next → Expr
operand_of n = (out-Next n).operand

abbrev pub operator_of : Next → Mark
operator_of n = (out-Next n).operator

operator_picks : (names : Names) (kind : TokenKind) (place : Pos) (a : Mark) → operator_at names kind place ≡ Some a → (mark a ≡ token kind place) × Unit {0}
operator_picks names (k.Punct op) place a h = let e : record { punct = op; place = place } ≡ a = cc in (ap mark (sym e), tt)
operator_picks names (k.Keyword key) place a h = absurd cc
operator_picks names (k.Name text) place a h = absurd cc
operator_picks names (k.Number value kind) place a h = absurd cc
operator_picks names (k.Char value) place a h = absurd cc
operator_picks names (k.Bytes bytes) place a h = absurd cc

abbrev pub operator_form : Form Mark
operator_form = single mark always

pub operator_exact : (more : ℕ) → Exact operator_form more (one operator_at)
operator_exact more = one_exact mark always operator_at operator_picks (λ names a g. refl) more

-- an operator of any production, and an operand of this one
abbrev pub next_form : ℕ → (ℕ → ℕ) → Form Next
next_form within up = record {
  spell = next_spelling;
  good = λ names n. (expr_level (operand_of n) names).0 ≤ within;
  adds = λ names n. (next_level n names).1;
  nest = λ n. up (next_nesting n);
  stop = λ n names rest. within < goes_on (expr_ending (operand_of n)) (peek rest);
}

abbrev pub next_of : Mark × Expr → Next
next_of t = roll-Next (record { operator = t.0; operand = t.1 })

module _ (within : ℕ) (up : ℕ → ℕ) (higher : (n : ℕ) → max 0 (up n) ≡ up n) where
  next_node : Node (pre operator_form (λ _. expr_at within up)) next_of (next_form within up)
  next_node = record {
    good = λ names t g. g.1;
    parts = λ names t g. (tt, g);
    nested = λ t. ap up (next_nesting-is (next_of t)) ∙ sym (higher (expr_nesting t.1));
    spelt = λ t. next_spelling-is (next_of t);
    seen = λ names t. ap (λ f. (f names).1) (next_level-is (next_of t));
    stop = λ names t behind rest g h. h;
    from_stop = λ names t behind rest g h. h;
  }

  pub next_exact : (more : ℕ) (operand : Parser Expr) → Exact (expr_at within up) more operand → Exact (next_form within up) more (after_operator operand)
  unfolding after_operator
  next_exact more operand exact =
      whole_exact (Image next_of) (next_form within up) more (after_operator operand) (λ names n g. ((operator_of n, operand_of n), roll-out-Next n))
      (same_exact (only (Image next_of) (next_form within up)) more _ (after_operator operand) (two (one operator_at) (λ m. operand) (λ m x. roll-Next (record { operator = m; operand = x })))
      (node_exact (pre operator_form (λ _. expr_at within up)) next_of (next_form within up) more _
      (pre_exact operator_form (λ _. expr_at within up) more (one operator_at) (λ _. operand) (λ names a. refl) (operator_exact more) (λ _. exact) (λ names a b rest g h s. tt)) next_node))

-- ---- operators of one production

abbrev pub next_items : ℕ → ℕ → (ℕ → ℕ) → Items (Unit {0}) Next
next_items level within up = record {
  spell = next_spelling;
  good = λ s names n. (joins (operator_of n).punct ≡ level) × (next_form within up).good names n;
  adds = (next_form within up).adds;
  nest = (next_form within up).nest;
  stop = (next_form within up).stop;
  goes = λ s. goes level;
  step = λ s n. tt;
}

pub next_goes : (level : ℕ) (names : Names) (n : Next) (rest : Tokens) → joins (operator_of n).punct ≡ level → goes level (names, next_spelling n ++ rest) ≡ true
next_goes level names n rest j = ap (λ l. goes level (names, l ++ rest)) (next_spelling-is n) ∙ goes_mark level names (operator_of n).punct (operator_of n).place (expr_spelling (operand_of n) ++ rest) j

pub goes_next : (level : ℕ) (names : Names) (n : Next) (rest : Tokens) → goes level (names, next_spelling n ++ rest) ≡ true → joins (operator_of n).punct ≡ level
goes_next level names n rest h = mark_goes level names (operator_of n).punct (operator_of n).place (expr_spelling (operand_of n) ++ rest) (sym (ap (λ l. goes level (names, l ++ rest)) (next_spelling-is n)) ∙ h)

-- an operator of a looser production does not go on with the operand before it
pub before_next : (within level : ℕ) (e : Ending) (n : Next) (rest : Tokens) → within < level → joins (operator_of n).punct ≡ level → within < goes_on e (peek (next_spelling n ++ rest))
before_next within level e n rest low j =
    subst (λ l. within < goes_on e (peek (l ++ rest))) (sym (next_spelling-is n)) (before_mark within e (operator_of n).punct (operator_of n).place (expr_spelling (operand_of n) ++ rest) (omega arith))

pub some_next : (n : Next) → 0 < length (next_spelling n)
some_next n = rw (next_spelling-is n) (omega arith)

module _ (level within : ℕ) (up : ℕ → ℕ) (higher : (n : ℕ) → max 0 (up n) ≡ up n) (above : within < level) (low : level < none) where
  pub nexts_kept : (more : ℕ) (operand : Parser Expr) → Exact (expr_at within up) more operand → Kept (next_items level within up) more (λ s. after_operator operand)
  nexts_kept more operand exact =
      let next = next_exact within up higher more operand exact in record {
        sound = λ s names ts n end go h.
            let g = next.sound names ts n end h in
            record { good = (goes_next level names n end.1 (subst (λ l. goes level (names, l) ≡ true) g.spelt go), g.good); nested = g.nested; spelt = g.spelt; seen = g.seen; stops = g.stops };
        complete = λ s names n rest g d st. next.complete names n rest g.1 d st;
        starts = λ s names n rest g st. next_goes level names n rest g.0;
        ends = λ s names. goes_end level names low;
        follows = λ s names x y rest g h st. before_next within level (expr_ending (operand_of x)) y rest above h.0;
        some = λ s names n g. some_next n;
      }

  -- what is told of the operands
  pub operands_good : (names : Names) (ns : List Next) → all_good (next_items level within up) tt names ns → operands level within (in_row (map next_level ns) names).0 ≡ true
  operands_good names [] g = refl
  operands_good names (n ∷ ns) g =
      let rest = operands_good (names ++ (next_level n names).1) ns g.1 in
      let o : (next_level n names).0 ≡ ((operator_of n).punct, (expr_level (operand_of n) names).0) = ap (λ f. (f names).0) (next_level-is n) in
      both_are _ _ (ap (λ (f : Operand). same (joins f.0) level) o ∙ subst (λ m. same (joins (operator_of n).punct) m ≡ true) g.0.0 (same-itself (joins (operator_of n).punct)))
      (both_are _ _ (ap (λ (f : Operand). nat_le f.1 within) o ∙ nat_le-is (expr_level (operand_of n) names).0 within g.0.1) rest)

  pub operands_are : (names : Names) (ns : List Next) → operands level within (in_row (map next_level ns) names).0 ≡ true → all_good (next_items level within up) tt names ns
  operands_are names [] h = tt
  operands_are names (n ∷ ns) h =
      let o : (next_level n names).0 ≡ ((operator_of n).punct, (expr_level (operand_of n) names).0) = ap (λ f. (f names).0) (next_level-is n) in
      let a = both_true (same (joins (next_level n names).0.0) level) _ h in
      let b = both_true (nat_le (next_level n names).0.1 within) _ a.1 in (
        (same-true (joins (operator_of n).punct) level (sym (ap (λ (f : Operand). same (joins f.0) level) o) ∙ a.0), nat_le-true (expr_level (operand_of n) names).0 within (sym (ap (λ (f : Operand). nat_le f.1 within) o) ∙ b.0)),
        operands_are (names ++ (next_level n names).1) ns b.1,
      )

  pub operands_added : (names : Names) (ns : List Next) → all_added (next_items level within up) names ns ≡ (in_row (map next_level ns) names).1
  operands_added names ns = added_in_row (next_items level within up) next_level (λ names x. refl) names ns

-- how a list of operands ends
pub last_ending : (S : Type 0) (I : Items S Next) (e : Ending) (n : Next) (ns : List Next) → last e (map next_ending (n ∷ ns)) ≡ expr_ending (operand_of (last_of I n ns))
last_ending S I e n [] = next_ending-is n
last_ending S I e n (m ∷ ns) = last_ending S I (next_ending n) m ns
