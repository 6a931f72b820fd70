-- Small expressions and what is told of each from its parts, for examples. All tokens stand at one place.
use Rattle.std.specs.Prelude.{◌≡◌, ℕ, not, [], ◌∷◌}
use Rattle.std.proofs.Common.{ap, ◌∙◌}
use Rattle.c_tree.specs.declared.token.Pos.{Pos}
use Rattle.c_tree.specs.declared.token.Punct.{Punct}
use Rattle.c_tree.specs.declared.expression.Identifier.{Identifier}
use Rattle.c_tree.specs.declared.expression.Mark.{Mark}
use Rattle.c_tree.specs.declared.expression.Level.{Level}
use Rattle.c_tree.specs.declared.expression.Expr.{Expr}
use Rattle.c_tree.specs.declared.expression.Expr.TheVariants as e
use Rattle.c_tree.specs.declared.expression.Next.{Next, roll-Next}
use Rattle.c_tree.specs.declared.expression.Branch.{Branch, roll-Branch}
use Rattle.c_tree.specs.declared.declarator.DeclaratorSuffix.TheOpen.{Expr-F}
use Rattle.c_tree.specs.Levels.Names.{Names, is_typedef_name}
use Rattle.c_tree.specs.Levels.Productions.{primary}
use Rattle.c_tree.specs.Levels.Facts.{where_good}
use Rattle.c_tree.specs.Levels.OfTrees.{level_of_expr, level_of_next, level_of_branch}
use Rattle.c_tree.specs.Levels.Trees.{expr_level, expr_level-Name, expr_level-Paren, expr_level-Binary, expr_level-Assign, expr_level-Conditional, next_level-roll, branch_level-roll}
use Rattle.c_tree.specs.Nesting.Trees.{expr_nesting, expr_nesting-Name, expr_nesting-Paren, expr_nesting-Binary, expr_nesting-Conditional, next_nesting-roll, branch_nesting-roll}
use Rattle.c_tree.specs.Nesting.OfTrees.{nested_expr, nested_next, nested_branch}

abbrev pub here : Pos
here = record { line = 1; column = 1 }

abbrev pub letter : ℕ → Identifier
letter code = record { text = code ∷ []; place = here }

abbrev pub at : Punct → Mark
at punct = record { punct = punct; place = here }

abbrev next : Punct → Expr → Next
next punct operand = roll-Next (record { operator = at punct; operand = operand })

abbrev branch : Expr → Expr → Branch
branch gives operand = roll-Branch (record { question = here; gives = gives; colon = here; operand = operand })

-- ---- a name of one letter

pub named : ℕ → Expr
named code = e.Name (letter code)

pub named-level : (code : ℕ) (names : Names) → expr_level (named code) names ≡ (where_good (not (is_typedef_name names (code ∷ []))) primary, [])
unfolding named
named-level code names = expr_level-Name (letter code) names

pub named-nesting : (code : ℕ) → expr_nesting (named code) ≡ 0
unfolding named
named-nesting code = expr_nesting-Name (letter code)

-- ---- `(` inner `)`

pub paren : Expr → Expr
paren inner = e.Paren here inner here

pub paren-level : (inner : Expr) (names : Names) → expr_level (paren inner) names ≡ level_of_expr (Expr-F.Paren here (expr_level inner) here) names
unfolding paren
paren-level inner names = expr_level-Paren here inner here names

pub paren-nesting : (inner : Expr) → expr_nesting (paren inner) ≡ nested_expr (Expr-F.Paren here (expr_nesting inner) here)
unfolding paren
paren-nesting inner = expr_nesting-Paren here inner here

-- ---- left operator right

pub binary : Level → Expr → Punct → Expr → Expr
binary level left punct right = e.Binary level left (next punct right ∷ [])

pub binary-level : (level : Level) (left : Expr) (punct : Punct) (right : Expr) (names : Names) →
    expr_level (binary level left punct right) names ≡ level_of_expr (Expr-F.Binary level (expr_level left) (level_of_next (record { operator = at punct; operand = expr_level right }) ∷ [])) names
unfolding binary
binary-level level left punct right names =
    expr_level-Binary level left (next punct right ∷ []) names
    ∙ ap (λ x. level_of_expr (Expr-F.Binary level (expr_level left) (x ∷ [])) names) (next_level-roll (record { operator = at punct; operand = right }))

pub binary-nesting : (level : Level) (left : Expr) (punct : Punct) (right : Expr) →
    expr_nesting (binary level left punct right) ≡ nested_expr (Expr-F.Binary level (expr_nesting left) (nested_next (record { operator = at punct; operand = expr_nesting right }) ∷ []))
unfolding binary
binary-nesting level left punct right =
    expr_nesting-Binary level left (next punct right ∷ [])
    ∙ ap (λ x. nested_expr (Expr-F.Binary level (expr_nesting left) (x ∷ []))) (next_nesting-roll (record { operator = at punct; operand = right }))

pub assigned : Expr → Punct → Expr → Expr
assigned left punct right = e.Assign left (next punct right ∷ [])

pub assigned-level : (left : Expr) (punct : Punct) (right : Expr) (names : Names) →
    expr_level (assigned left punct right) names ≡ level_of_expr (Expr-F.Assign (expr_level left) (level_of_next (record { operator = at punct; operand = expr_level right }) ∷ [])) names
unfolding assigned
assigned-level left punct right names =
    expr_level-Assign left (next punct right ∷ []) names
    ∙ ap (λ x. level_of_expr (Expr-F.Assign (expr_level left) (x ∷ [])) names) (next_level-roll (record { operator = at punct; operand = right }))

-- ---- first `?` gives `:` operand

pub chosen : Expr → Expr → Expr → Expr
chosen first gives operand = e.Conditional first (branch gives operand ∷ [])

pub chosen-level : (first gives operand : Expr) (names : Names) →
    expr_level (chosen first gives operand) names ≡ level_of_expr (Expr-F.Conditional (expr_level first) (level_of_branch (record { question = here; gives = expr_level gives; colon = here; operand = expr_level operand }) ∷ [])) names
unfolding chosen
chosen-level first gives operand names =
    expr_level-Conditional first (branch gives operand ∷ []) names
    ∙ ap (λ x. level_of_expr (Expr-F.Conditional (expr_level first) (x ∷ [])) names) (branch_level-roll (record { question = here; gives = gives; colon = here; operand = operand }))

pub chosen-nesting : (first gives operand : Expr) →
    expr_nesting (chosen first gives operand) ≡ nested_expr (Expr-F.Conditional (expr_nesting first) (nested_branch (record { question = here; gives = expr_nesting gives; colon = here; operand = expr_nesting operand }) ∷ []))
unfolding chosen
chosen-nesting first gives operand =
    expr_nesting-Conditional first (branch gives operand ∷ [])
    ∙ ap (λ x. nested_expr (Expr-F.Conditional (expr_nesting first) (x ∷ []))) (branch_nesting-roll (record { question = here; gives = gives; colon = here; operand = operand }))
