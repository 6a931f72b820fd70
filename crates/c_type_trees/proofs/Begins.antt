-- Each expression begins with an operand, or is one of the others.
-- The answers of `expression`, `behind`, `other` and `first_operand` cite these lemmas.
use Rattle.std.specs.Prelude.{◌≡◌, ℕ, List, [], ◌∷◌, ◌++◌, Option, Some, None, Result}
use Rattle.std.specs.Borrow.{Bor}
use Rattle.std.proofs.Common.{ap, sym, ◌∙◌, subst}
use Rattle.word_ops.specs.declared.memory.Memory.{Memory}
use Rattle.c_tree.specs.Layers.{ExprLayer}
use Rattle.c_tree.specs.declared.declarator.DeclaratorSuffix.TheOpen.{Expr-F}
use Rattle.c_tree.specs.declared.token.Pos.{Pos}
use Rattle.c_tree.specs.declared.token.IntKind.{IntKind}
use Rattle.c_tree.specs.declared.expression.Branch.{Branch}
use Rattle.c_tree.specs.declared.expression.Identifier.{Identifier}
use Rattle.c_tree.specs.declared.expression.Level.{Level}
use Rattle.c_tree.specs.declared.expression.Literal.{Literal}
use Rattle.c_tree.specs.declared.expression.Next.{Next}
use Rattle.c_tree.specs.declared.expression.Prefix.{Prefix}
use Rattle.c_tree.specs.declared.expression.Suffix.{Suffix}
use Rattle.c_tree.specs.declared.expression.TypeName.{TypeName}
use Rattle.c_tree.specs.declared.expression.Expr.{Expr, out-Expr, roll-Expr, roll-out-Expr, out-roll-Expr}
use Rattle.c_tree.specs.declared.expression.Expr.TheVariants as expr
use Rattle.c_typing.specs.declared.operand.Operand.{Operand}
use Rattle.c_typing.specs.Scopes.{Walk, ◌>>=◌}
use Rattle.c_typing.specs.OfTrees.{chain_row, assigns_row}
use Rattle.c_typing.specs.Trees.{expr_typing, expr_typing-roll, next_typing, branch_typing}
use Rattle.c_type_walk.specs.declared.around.Around.{Around}
use Rattle.c_type_walk.specs.declared.found.Found.{Found}
use Rattle.c_type_walk.specs.Walks.{Gave, Walks, fixed}
use Rattle.c_type_trees.specs.Operands.{first_operand, behind_row, behind_all, other_row}
use Rattle.c_type_trees.specs.Sequences.{whole_chain, whole_assigned}
use Rattle.c_type_trees.proofs.After.{Same, same_then, same_sym, bind_assoc, bind_left, bind_right, bind_offer, offer_bind, after, after_same, step, tail}
use Rattle.std.specs.Prelude.{map}

-- ---- a tree as one node

pub out_Name : (id : Identifier) → out-Expr (expr.Name id) ≡ Expr-F.Name id
out_Name id = ap out-Expr (sym (expr.rolls-Name id)) ∙ out-roll-Expr (Expr-F.Name id)

pub out_Number : (n : ℕ) (k : IntKind) (at : Pos) → out-Expr (expr.Number n k at) ≡ Expr-F.Number n k at
out_Number n k at = ap out-Expr (sym (expr.rolls-Number n k at)) ∙ out-roll-Expr (Expr-F.Number n k at)

pub out_Char : (n : ℕ) (at : Pos) → out-Expr (expr.Char n at) ≡ Expr-F.Char n at
out_Char n at = ap out-Expr (sym (expr.rolls-Char n at)) ∙ out-roll-Expr (Expr-F.Char n at)

pub out_Strings : (all : List Literal) → out-Expr (expr.Strings all) ≡ Expr-F.Strings all
out_Strings all = ap out-Expr (sym (expr.rolls-Strings all)) ∙ out-roll-Expr (Expr-F.Strings all)

pub out_Paren : (from : Pos) (e : Expr) (to : Pos) → out-Expr (expr.Paren from e to) ≡ Expr-F.Paren from e to
out_Paren from e to = ap out-Expr (sym (expr.rolls-Paren from e to)) ∙ out-roll-Expr (Expr-F.Paren from e to)

pub out_Postfix : (e : Expr) (all : List Suffix) → out-Expr (expr.Postfix e all) ≡ Expr-F.Postfix e all
out_Postfix e all = ap out-Expr (sym (expr.rolls-Postfix e all)) ∙ out-roll-Expr (Expr-F.Postfix e all)

pub out_SizeofType : (at from : Pos) (type : TypeName) (to : Pos) → out-Expr (expr.SizeofType at from type to) ≡ Expr-F.SizeofType at from type to
out_SizeofType at from type to = ap out-Expr (sym (expr.rolls-SizeofType at from type to)) ∙ out-roll-Expr (Expr-F.SizeofType at from type to)

pub out_Prefixed : (run : List Prefix) (e : Expr) → out-Expr (expr.Prefixed run e) ≡ Expr-F.Prefixed run e
out_Prefixed run e = ap out-Expr (sym (expr.rolls-Prefixed run e)) ∙ out-roll-Expr (Expr-F.Prefixed run e)

pub out_Binary : (l : Level) (e : Expr) (rest : List Next) → out-Expr (expr.Binary l e rest) ≡ Expr-F.Binary l e rest
out_Binary l e rest = ap out-Expr (sym (expr.rolls-Binary l e rest)) ∙ out-roll-Expr (Expr-F.Binary l e rest)

pub out_Conditional : (e : Expr) (rest : List Branch) → out-Expr (expr.Conditional e rest) ≡ Expr-F.Conditional e rest
out_Conditional e rest = ap out-Expr (sym (expr.rolls-Conditional e rest)) ∙ out-roll-Expr (Expr-F.Conditional e rest)

pub out_Assign : (e : Expr) (rest : List Next) → out-Expr (expr.Assign e rest) ≡ Expr-F.Assign e rest
out_Assign e rest = ap out-Expr (sym (expr.rolls-Assign e rest)) ∙ out-roll-Expr (Expr-F.Assign e rest)

pub out_Comma : (e : Expr) (rest : List Next) → out-Expr (expr.Comma e rest) ≡ Expr-F.Comma e rest
out_Comma e rest = ap out-Expr (sym (expr.rolls-Comma e rest)) ∙ out-roll-Expr (Expr-F.Comma e rest)

-- ---- expressions that begin with an operand

equal : (w v : Walk Operand) → w ≡ v → Same w v
equal w v e = record { at = λ c s. ap (λ u. u c s) e }

begins : (node : ExprLayer) (e x : Expr) → e ≡ x
    → Same (expr_typing (roll-Expr node)).typed ((expr_typing e).typed >>= behind_row node)
    → Same (expr_typing (roll-Expr node)).typed ((expr_typing x).typed >>= behind_row node)
begins node e x same h = subst (λ (y : Expr). Same (expr_typing (roll-Expr node)).typed ((expr_typing y).typed >>= behind_row node)) same h

firsts : (node : ExprLayer) (x : Expr) → first_operand node ≡ Some x
    → Same (expr_typing (roll-Expr node)).typed ((expr_typing x).typed >>= behind_row node)
firsts (Expr-F.Paren from e to) x h = begins (Expr-F.Paren from e to) e x (cc)
    (same_then _ _ _ (equal _ _ (ap (λ t. t.typed) (expr_typing-roll (Expr-F.Paren from e to)))) (same_sym _ _ (bind_offer (expr_typing e).typed)))
firsts (Expr-F.Binary l e rest) x h = begins (Expr-F.Binary l e rest) e x (cc)
    (equal _ _ (ap (λ t. t.typed) (expr_typing-roll (Expr-F.Binary l e rest))))
firsts (Expr-F.Conditional e rest) x h = begins (Expr-F.Conditional e rest) e x (cc)
    (same_then _ _ _ (equal _ _ (ap (λ t. t.typed) (expr_typing-roll (Expr-F.Conditional e rest)))) (bind_assoc (expr_typing e).typed (chain_row (map branch_typing rest)) whole_chain))
firsts (Expr-F.Assign e rest) x h = begins (Expr-F.Assign e rest) e x (cc)
    (same_then _ _ _ (equal _ _ (ap (λ t. t.typed) (expr_typing-roll (Expr-F.Assign e rest)))) (bind_assoc (expr_typing e).typed (assigns_row (map next_typing rest)) whole_assigned))
firsts (Expr-F.Comma e rest) x h = begins (Expr-F.Comma e rest) e x (cc)
    (equal _ _ (ap (λ t. t.typed) (expr_typing-roll (Expr-F.Comma e rest))))
firsts (Expr-F.Name id) x h = cc
firsts (Expr-F.Number n k at) x h = cc
firsts (Expr-F.Char n at) x h = cc
firsts (Expr-F.Strings all) x h = cc
firsts (Expr-F.Postfix e suffixes) x h = cc
firsts (Expr-F.SizeofType at from type to) x h = cc
firsts (Expr-F.Prefixed run e) x h = cc

-- ---- all others

others : (node : ExprLayer) → first_operand node ≡ None → (expr_typing (roll-Expr node)).typed ≡ other_row node
others (Expr-F.Name id) h = ap (λ e. e.typed) (expr_typing-roll (Expr-F.Name id))
others (Expr-F.Number n k at) h = ap (λ e. e.typed) (expr_typing-roll (Expr-F.Number n k at))
others (Expr-F.Char n at) h = ap (λ e. e.typed) (expr_typing-roll (Expr-F.Char n at))
others (Expr-F.Strings all) h = ap (λ e. e.typed) (expr_typing-roll (Expr-F.Strings all))
others (Expr-F.Postfix e suffixes) h = ap (λ e. e.typed) (expr_typing-roll (Expr-F.Postfix e suffixes))
others (Expr-F.SizeofType at from type to) h = ap (λ e. e.typed) (expr_typing-roll (Expr-F.SizeofType at from type to))
others (Expr-F.Prefixed run e) h = ap (λ e. e.typed) (expr_typing-roll (Expr-F.Prefixed run e))
others (Expr-F.Paren from e to) h = cc
others (Expr-F.Binary l e rest) h = cc
others (Expr-F.Conditional e rest) h = cc
others (Expr-F.Assign e rest) h = cc
others (Expr-F.Comma e rest) h = cc

pub other_is : (tree : Expr) → first_operand (out-Expr tree) ≡ None → (expr_typing tree).typed ≡ other_row (out-Expr tree)
other_is tree h = ap (λ t. (expr_typing t).typed) (sym (roll-out-Expr tree)) ∙ others (out-Expr tree) h

-- ---- operands with which expressions begin, each inside the one before it

-- what stands behind the innermost comes first
behind_back : (ts : List (Bor Expr)) (t : Bor Expr) (o : Option Operand)
    → Same (behind_all (ts ++ t ∷ []) o) (behind_row (out-Expr t.now) o >>= behind_all ts)
behind_back [] t o =
    same_then _ _ _ (offer_bind o (behind_row (out-Expr t.now))) (same_sym _ _ (bind_offer (behind_row (out-Expr t.now) o)))
behind_back (x ∷ ts) t o =
    same_then _ _ _ (bind_left (behind_all (ts ++ t ∷ []) o) (behind_row (out-Expr t.now) o >>= behind_all ts) (behind_row (out-Expr x.now)) (behind_back ts t o))
    (bind_assoc (behind_row (out-Expr t.now) o) (behind_all ts) (behind_row (out-Expr x.now)))

first_walked : (tree e : Expr) → first_operand (out-Expr tree) ≡ Some e
    → Same (expr_typing tree).typed ((expr_typing e).typed >>= behind_row (out-Expr tree))
first_walked tree e h =
    same_then _ _ _ (equal _ _ (ap (λ t. (expr_typing t).typed) (sym (roll-out-Expr tree)))) (firsts (out-Expr tree) e h)

-- one operand further inside
pub deeper_begun : (whole tree e : Expr) (ts us : List (Bor Expr)) (t : Bor Expr) → t.now ≡ tree → first_operand (out-Expr tree) ≡ Some e → us ≡ ts ++ t ∷ []
    → Same (expr_typing whole).typed ((expr_typing tree).typed >>= behind_all ts)
    → Same (expr_typing whole).typed ((expr_typing e).typed >>= behind_all us)
deeper_begun whole tree e ts us t is h pushed before =
    let first : Same (expr_typing t.now).typed ((expr_typing e).typed >>= behind_row (out-Expr t.now)) =
    first_walked t.now e (subst (λ (x : Expr). first_operand (out-Expr x) ≡ Some e) (sym is) h) in
    let here : Same (expr_typing whole).typed ((expr_typing t.now).typed >>= behind_all ts) =
    subst (λ (x : Expr). Same (expr_typing whole).typed ((expr_typing x).typed >>= behind_all ts)) (sym is) before in
    let there : Same (expr_typing whole).typed ((expr_typing e).typed >>= behind_all (ts ++ t ∷ [])) =
    same_then _ _ _ here
    (same_then _ _ _ (bind_left (expr_typing t.now).typed ((expr_typing e).typed >>= behind_row (out-Expr t.now)) (behind_all ts) first)
    (same_then _ _ _ (bind_assoc (expr_typing e).typed (behind_row (out-Expr t.now)) (behind_all ts))
    (bind_right (expr_typing e).typed _ _ (λ o. same_sym _ _ (behind_back ts t o))))) in
    subst (λ (vs : List (Bor Expr)). Same (expr_typing whole).typed ((expr_typing e).typed >>= behind_all vs)) (sym pushed) there

-- no operand is further inside
pub innermost_begun : (whole tree : Expr) (ts : List (Bor Expr)) (v : Option Operand) (r : Result (Option Operand) Memory) (c : Around) (old mid new : Found)
    → Same (expr_typing whole).typed ((expr_typing tree).typed >>= behind_all ts) → first_operand (out-Expr tree) ≡ None
    → Gave (other_row (out-Expr tree) (fixed c) old.state) old mid v → Walks (behind_all ts v) c mid r new
    → Walks (expr_typing whole).typed c old r new
innermost_begun whole tree ts v r c old mid new same none g w =
    let typed : Gave ((expr_typing tree).typed (fixed c) old.state) old mid v = rw (other_is tree none) g in
    tail (expr_typing whole).typed (behind_all ts v) c old mid new r
    (after_same _ _ c old same ∙ step (expr_typing tree).typed (behind_all ts) c old mid v typed) w

pub behind_popped : (all rest : List (Bor Expr)) (t : Bor Expr) (o v : Option Operand) (c : Around) (old new : Found)
    → all ≡ rest ++ t ∷ [] → Gave (behind_row (out-Expr t.now) o (fixed c) old.state) old new v
    → after (behind_all all o) c old ≡ after (behind_all rest v) c new
behind_popped all rest t o v c old new e g =
    ap (λ ts. after (behind_all ts o) c old) e
    ∙ after_same _ _ c old (behind_back rest t o)
    ∙ step (behind_row (out-Expr t.now) o) (behind_all rest) c old new v g
