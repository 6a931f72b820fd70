-- The levels of operators: read one in the other, or one behind the other.
-- The grammar reads each level inside the next; the parser climbs from the first operand, level by level.
use Rattle.std.specs.Prelude.{◌≡◌, ◌≢◌, ℕ, zero, suc, ◌+◌, ◌-◌, ◌<◌, ◌≤◌, List, Ok, Err, refl}
use Rattle.std.proofs.Common.{ap, sym, ◌∙◌, add-one, arith}
use Rattle.c_tree.specs.declared.expression.Level.{Level}
use Rattle.c_tree.specs.declared.expression.Expr.{Expr}
use Rattle.c_tree.specs.declared.expression.Next.{Next}
use Rattle.c_grammar.specs.Input.{State, Tokens, Parser, Outcome, Fault, and_then, pure}
use Rattle.c_grammar.specs.Read.Inner.{Inner}
use Rattle.c_grammar.specs.Read.Nodes.{with_operands}
use Rattle.c_grammar.specs.Read.Expressions.{cast, binary, or, and, bit_or, bit_xor, bit_and, equality, relation, shift, sum, product}
use Rattle.c_expr_parser.specs.declared.fault.Stop.{Stop}
use Rattle.c_expr_parser.specs.declared.fault.Stop.TheVariants as stop
use Rattle.c_expr_parser.specs.Parts.{level_at, levels, level_rest}
use Rattle.c_expr_parser.specs.Reads.{Keeps, reason_of}
use Rattle.c_expr_parser.proofs.Turns.{one_more, no_more}

pub all_levels : (more : ℕ) (inner : Inner) (i : State) → or more inner i ≡ levels more inner 10 i
unfolding levels or and bit_or bit_xor bit_and equality relation shift sum product
all_levels more inner i = refl

-- behind the first operand of a level, so many levels
unfoldable pub climb : ℕ → Inner → ℕ → ℕ → Expr → Parser Expr
climb more inner zero index tree = pure tree
climb more inner (suc k) index tree = λ i. and_then (level_rest more inner index i) (λ rest. climb more inner k (index + 1) (with_operands (level_at index) tree rest))

whole : (r : Outcome Expr) → and_then r pure ≡ r
whole (Ok p) = refl
whole (Err e) = refl

listed : (r : Outcome (List Next)) (node : List Next → Expr) (on : Expr → Parser Expr)
    → and_then r (λ xs. on (node xs)) ≡ and_then (and_then r (λ xs. pure (node xs))) on
listed (Ok p) node on = refl
listed (Err e) node on = refl

turned : (r : Outcome Expr) (rest : Parser (List Next)) (node : Expr → List Next → Expr) (on : Expr → Parser Expr)
    → and_then r (λ tree i. and_then (rest i) (λ xs. on (node tree xs))) ≡ and_then (and_then r (λ tree i. and_then (rest i) (λ xs. pure (node tree xs)))) on
turned (Ok p) rest node on = listed (rest p.1) (node p.0) on
turned (Err e) rest node on = refl

climbed : (more : ℕ) (inner : Inner) (k index n : ℕ) (i : State) → index + k ≡ n
    → and_then (levels more inner index i) (climb more inner k index) ≡ levels more inner n i
unfolding climb levels level_rest binary
climbed more inner zero index n i e =
    let same : index ≡ n = omega arith in
    whole (levels more inner index i) ∙ ap (λ m. levels more inner m i) same
climbed more inner (suc k) index n i e =
    let rest : (index + 1) + k ≡ n = omega arith in
    turned (levels more inner index i) (level_rest more inner index) (with_operands (level_at index)) (climb more inner k (index + 1))
    ∙ ap (λ (m : ℕ). and_then (levels more inner m i) (climb more inner k (index + 1))) (sym (add-one index))
    ∙ climbed more inner k (index + 1) n i rest

pub behind_cast : (more : ℕ) (inner : Inner) (n : ℕ) (i j : State) (tree : Expr) → cast more inner i ≡ Ok (tree, j) → levels more inner n i ≡ climb more inner n 0 tree j
unfolding levels
behind_cast more inner n i j tree e = sym (climbed more inner n 0 n i (omega arith)) ∙ ap (λ r. and_then r (climb more inner n 0)) e

pub no_cast : (more : ℕ) (inner : Inner) (n : ℕ) (i : State) (e : Fault) → cast more inner i ≡ Err e → levels more inner n i ≡ Err e
unfolding levels
no_cast more inner n i e refused = sym (climbed more inner n 0 n i (omega arith)) ∙ ap (λ r. and_then r (climb more inner n 0)) refused

-- The levels below `at` are read: behind the tree so far, the levels that are left give what all of them give. The marks of
-- the names are good.
pub record Climbing (more : ℕ) (inner : Inner) (whole : Outcome Expr) (old : State) (n at : ℕ) (tree : Expr) (now : State) : Type 0 where
  pub same : whole ≡ climb more inner (n - at) at tree now
  pub keeps : Keeps old now

module _ {more : ℕ} {inner : Inner} {whole : Outcome Expr} {old : State} {n at : ℕ} {tree : Expr} {i : State} where
  -- one more level
  pub level_read : Climbing more inner whole old n at tree i → at < n → {rest : List Next} {j : State} → level_rest more inner at i ≡ Ok (rest, j) → Keeps i j
      → {level : Level} → level ≡ level_at at → {all : Expr} → all ≡ with_operands level tree rest → Climbing more inner whole old n (at + 1) all j
  unfolding climb
  level_read so_far below {rest} {j} read keeps {level} there {all} is = record {
    same = one_more (λ m. climb more inner m at tree i) n at below so_far.same ∙ rw (read, is, there) refl;
    keeps = λ mark names m. keeps mark names (so_far.keeps mark names m);
  }

  -- a level that is refused
  pub level_refused : Climbing more inner whole old n at tree i → at < n
      → {e : Stop} {left : Tokens} → (e ≢ stop.Memory → level_rest more inner at i ≡ Err (reason_of e, left)) → e ≢ stop.Memory → whole ≡ Err (reason_of e, left)
  unfolding climb
  level_refused so_far below refused = λ not_memory. one_more (λ m. climb more inner m at tree i) n at below so_far.same ∙ rw (refused not_memory) refl

  -- no more levels
  pub levels_end : Climbing more inner whole old n at tree i → n ≤ at → whole ≡ Ok (tree, i)
  unfolding climb
  levels_end so_far done = no_more (λ m. climb more inner m at tree i) n at done so_far.same
