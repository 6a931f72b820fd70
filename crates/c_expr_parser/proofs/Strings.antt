-- String literals side by side: the first, and the list behind it.
-- The grammar puts the first before the list that it reads; the parser begins its list with it.
use Rattle.std.specs.Prelude.{◌≡◌, ℕ, List, [], ◌∷◌, length, Ok, Err, refl}
use Rattle.std.proofs.Common.{ap, sym, ◌∙◌}
use Rattle.c_tree.specs.declared.expression.Literal.{Literal}
use Rattle.c_tree.specs.declared.expression.Expr.TheVariants as expr
use Rattle.c_grammar.specs.Input.{State, Outcome, Fault, ◌>>=◌, and_then, pure, one, peek, is_bytes, many}
use Rattle.c_grammar.specs.Read.Inner.{Inner}
use Rattle.c_grammar.specs.Read.Expressions.{literal_at, strings}
use Rattle.c_expr_parser.specs.Parts.{literals}
use Rattle.c_expr_parser.proofs.Lists.{first_before}

in_front : (r : Outcome (List Literal)) (first : Literal)
    → and_then r (λ rest. pure (expr.Strings (first ∷ rest))) ≡ and_then (and_then r (λ rest. pure (first ∷ rest))) (λ all. pure (expr.Strings all))
in_front (Ok p) first = refl
in_front (Err e) first = refl

behind_first : (more : ℕ) (inner : Inner) (i j : State) (first : Literal) → one literal_at i ≡ Ok (first, j)
    → strings more inner i ≡ and_then (literals first j) (λ all. pure (expr.Strings all))
unfolding strings
behind_first more inner i j first read =
    ap (λ r. and_then r (λ first. (many (λ i. is_bytes (peek i.1)) (one literal_at)) >>= (λ rest. pure (expr.Strings (first ∷ rest))))) read
    ∙ in_front (many (λ i. is_bytes (peek i.1)) (one literal_at) j) first
    ∙ ap (λ r. and_then r (λ all. pure (expr.Strings all))) (sym (first_before {S = Unit {0}} (λ _ i. is_bytes (peek i.1)) (λ _. one literal_at) (λ _ _. tt) (length j.1) tt first [] j))

pub strings_read : (more : ℕ) (inner : Inner) (i j k : State) (first : Literal) (all : List Literal)
    → one literal_at i ≡ Ok (first, j) → literals first j ≡ Ok (all, k) → strings more inner i ≡ Ok (expr.Strings all, k)
strings_read more inner i j k first all read behind = behind_first more inner i j first read ∙ ap (λ r. and_then r (λ all. pure (expr.Strings all))) behind

pub strings_refused : (more : ℕ) (inner : Inner) (i j : State) (first : Literal) (e : Fault)
    → one literal_at i ≡ Ok (first, j) → literals first j ≡ Err e → strings more inner i ≡ Err e
strings_refused more inner i j first e read behind = behind_first more inner i j first read ∙ ap (λ r. and_then r (λ all. pure (expr.Strings all))) behind

pub no_strings : (more : ℕ) (inner : Inner) (i : State) (e : Fault) → one literal_at i ≡ Err e → strings more inner i ≡ Err e
unfolding strings
no_strings more inner i e refused = rw refused refl
