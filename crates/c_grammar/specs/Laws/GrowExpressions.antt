-- A token that goes on with an expression begins a longer one.
use Rattle.std.specs.Prelude.{◌≡◌, ℕ, ◌+◌, ◌≤◌, ◌<◌, Bool, true, false, not, ◌&&◌, nat_le, List, [], ◌∷◌, ◌++◌, map, Option, Some, refl}
use Rattle.std.proofs.Common.{ap, sym, ◌∙◌, subst, cond, arith, append_assoc}
use Rattle.c_tree.specs.declared.token.Pos.{Pos}
use Rattle.c_tree.specs.declared.token.Punct.{Punct}
use Rattle.c_tree.specs.declared.token.Punct.TheVariants as p
use Rattle.c_tree.specs.declared.token.IntKind.TheVariants.{Int}
use Rattle.c_tree.specs.declared.token.Token.{Token}
use Rattle.c_tree.specs.declared.token.TokenKind.{TokenKind}
use Rattle.c_tree.specs.declared.token.TokenKind.TheVariants as k
use Rattle.c_tree.specs.declared.expression.Identifier.{Identifier}
use Rattle.c_tree.specs.declared.expression.Literal.{Literal}
use Rattle.c_tree.specs.declared.expression.Level.{Level}
use Rattle.c_tree.specs.declared.expression.Level.TheVariants as level
use Rattle.c_tree.specs.declared.expression.Expr.{Expr}
use Rattle.c_tree.specs.declared.expression.Expr.TheVariants as expr
use Rattle.c_tree.specs.declared.expression.Suffix.{Suffix}
use Rattle.c_tree.specs.declared.expression.Suffix.TheVariants as suffix
use Rattle.c_tree.specs.declared.expression.Prefix.{Prefix}
use Rattle.c_tree.specs.declared.expression.Next.{Next, roll-Next}
use Rattle.c_tree.specs.declared.expression.Branch.{Branch, out-Branch, roll-Branch}
use Rattle.c_tree.specs.Spelling.Tokens.{token, punct, mark, joined}
use Rattle.c_grammar.specs.Laws.Spelled.{literal, literals}
use Rattle.c_tree.specs.Spelling.Trees.{expr_spelling, suffix_spelling, prefix_spelling, next_spelling, branch_spelling, next_spelling-is, branch_spelling-is, expr_spelling-Strings, suffix_spelling-Index, suffix_spelling-Call, suffix_spelling-Member, suffix_spelling-Arrow, suffix_spelling-Increment, suffix_spelling-Decrement}
use Rattle.c_tree.specs.Levels.Names.{Names}
use Rattle.c_tree.specs.Levels.Productions.{primary, postfix, prefixed, cast, or, conditional, assignment, comma, none, joins, of_level, below}
use Rattle.c_tree.specs.Levels.Facts.{same, filled}
use Rattle.c_tree.specs.Levels.Trees.{expr_level, branch_level}
use Rattle.c_grammar.specs.Laws.Told.{branch_level-is, expr_level-Number, expr_level-Strings, suffix_level-Index, suffix_level-Call, suffix_level-Member, suffix_level-Arrow, suffix_level-Increment, suffix_level-Decrement}
use Rattle.c_grammar.specs.Input.{Tokens}
use Rattle.c_grammar.specs.Read.Nodes.{with_suffixes, with_run, with_operands, with_branches, with_targets, with_commas, is_unary, begins_cast}
use Rattle.c_grammar.specs.Ending.OfTrees.{Ending, no_target, run_target}
use Rattle.c_grammar.specs.Ending.Trees.{expr_ending, prefix_ending, expr_ending-Name, expr_ending-Number, expr_ending-Char, expr_ending-Paren, expr_ending-Postfix, expr_ending-Prefixed, expr_ending-SizeofType, expr_ending-Conditional, expr_ending-Assign}
use Rattle.c_grammar.specs.Laws.Lists.{Items, all_good, all_added, last_of, left}
use Rattle.c_grammar.specs.Laws.Cases.{ExprShape, expr_shape}
use Rattle.c_grammar.specs.Laws.Behind.{goes_on, expr_form, both_true, both_are, nat_le-true, nat_le-is, nat_le-false, same-itself, where_is, joins_above, goes_above, over_gap, retarget}
use Rattle.c_grammar.specs.Laws.Numbers.{number_within, tighter, level_low, below_level}
use Rattle.c_grammar.specs.Laws.Front.{Longer}
use Rattle.c_grammar.specs.Laws.Operators.{operand_of, operator_of, next_items, last_ending}
use Rattle.c_grammar.specs.Laws.Levels.{Row, flat, no_target_to, row_good, row_split, row_spelt, binary_row, comma_row}
use Rattle.c_grammar.specs.Laws.Unary.{prefix_items, run_good, run_split, run_spelt, sized, sized_stop}
use Rattle.c_grammar.specs.Laws.Conditional.{branch_items, conditional_good, conditional_split, conditional_spelt, branch_last}
use Rattle.c_grammar.specs.Laws.Assignment.{target_items, target_is, assign_good, assign_split, assign_spelt, left_unary, last_good}
use Rattle.c_grammar.specs.Laws.Grow.{LongerItem, NewItem, LongerList, last_longer, another}
use Rattle.c_grammar.specs.Laws.Postfix.{suffix_items, postfix_form, postfix_split, postfix_good, postfix_spelt, above_primary, run_high}

-- a token that goes on with an expression of the production begins a longer one
abbrev pub Grows : ℕ → Type 0
Grows within = (names : Names) (x : Expr) (t : Token) → (expr_level x names).0 ≤ within → goes_on (expr_ending x) (Some t.kind) ≤ within → Longer (expr_form within) names x t

-- what goes on is a mark, where it is no literal
mark_of : (e : Ending) (kind : TokenKind) (within : ℕ) → primary < goes_on e (Some kind) → goes_on e (Some kind) ≤ within → within < none → (op : Punct) × (k.Punct op ≡ kind) × (joins op ≤ within)
mark_of e (k.Punct op) within a b low = (op, refl, let g = goes_above e op in omega arith)
mark_of e (k.Bytes bytes) within a b low = absurd (by e.text a b) where
  by : (t : Bool) → primary < cond t primary none → cond t primary none ≤ within → ⊥
  by true a b = omega arith
  by false a b = omega arith
mark_of e (k.Keyword key) within a b low = absurd (omega arith)
mark_of e (k.Name text) within a b low = absurd (omega arith)
mark_of e (k.Number value kind) within a b low = absurd (omega arith)
mark_of e (k.Char value) within a b low = absurd (omega arith)

-- and a literal, where the production is the tightest
literal_of : (e : Ending) (kind : TokenKind) → goes_on e (Some kind) ≤ primary → (bytes : List ℕ) × (k.Bytes bytes ≡ kind) × (e.text ≡ true)
literal_of e (k.Bytes bytes) h = (bytes, refl, by e.text h) where
  by : (t : Bool) → cond t primary none ≤ primary → t ≡ true
  by true h = refl
  by false h = absurd (omega arith)
literal_of e (k.Punct op) h = absurd (let a = joins_above op in let g = goes_above e op in omega arith)
literal_of e (k.Keyword key) h = absurd (omega arith)
literal_of e (k.Name text) h = absurd (omega arith)
literal_of e (k.Number value kind) h = absurd (omega arith)
literal_of e (k.Char value) h = absurd (omega arith)

token_is : (t : Token) (kind : TokenKind) → kind ≡ t.kind → token kind t.place ≡ t
token_is t kind e = ap (λ (d : TokenKind). token d t.place) e

-- ---- primary expressions: another string literal

literals_snoc : (ls : List Literal) (l : Literal) → literals (ls ++ l ∷ []) ≡ literals ls ++ literal l ∷ []
literals_snoc [] l = refl
literals_snoc (x ∷ xs) l = ap (λ r. literal x ∷ r) (literals_snoc xs l)

filled_snoc : {A : Type 0} (xs : List A) (x : A) → filled (xs ++ x ∷ []) ≡ true
filled_snoc [] x = refl
filled_snoc (y ∷ ys) x = refl

strings_longer : (names : Names) (all : List Literal) (t : Token) (bytes : List ℕ) → k.Bytes bytes ≡ t.kind → Longer (expr_form primary) names (expr.Strings all) t
strings_longer names all t bytes e =
    let l : Literal = record { bytes = bytes; place = t.place } in
    record {
      tree = expr.Strings (all ++ l ∷ []);
      good = rw (expr_level-Strings (all ++ l ∷ [])) (where_is _ primary primary (filled_snoc all l) (omega arith));
      tokens = [];
      spelt = expr_spelling-Strings (all ++ l ∷ []) ∙ literals_snoc all l ∙ ap (λ (u : Token). literals all ++ u ∷ []) (token_is t (k.Bytes bytes) e) ∙ ap (λ r. r ++ t ∷ []) (sym (expr_spelling-Strings all));
    }

no_text : (e f : Ending) → e ≡ f → f.text ≡ false → e.text ≡ true → ⊥
no_text e f h a b = let z : true ≡ false = sym b ∙ ap (λ e. e.text) h ∙ a in absurd cc

primary_by : {x : Expr} → ExprShape x → (names : Names) (t : Token) → (expr_level x names).0 ≤ primary → (bytes : List ℕ) → k.Bytes bytes ≡ t.kind → (expr_ending x).text ≡ true → Longer (expr_form primary) names x t
primary_by (ExprShape.a_strings all) names t g bytes e h = strings_longer names all t bytes e
primary_by (ExprShape.a_name id) names t g bytes e h = absurd (no_text _ _ (expr_ending-Name id) refl h)
primary_by (ExprShape.a_number value kind at) names t g bytes e h = absurd (no_text _ _ (expr_ending-Number value kind at) refl h)
primary_by (ExprShape.a_char value at) names t g bytes e h = absurd (no_text _ _ (expr_ending-Char value at) refl h)
primary_by (ExprShape.a_paren from inner to) names t g bytes e h = absurd (no_text _ _ (expr_ending-Paren from inner to) refl h)
primary_by (ExprShape.a_postfix a xs) names t g bytes e h = absurd (above_primary (ExprShape.a_postfix a xs) names g (omega arith))
primary_by (ExprShape.a_sizeof_type at from type to) names t g bytes e h = absurd (above_primary (ExprShape.a_sizeof_type at from type to) names g (omega arith))
primary_by (ExprShape.a_prefixed run a) names t g bytes e h = absurd (above_primary (ExprShape.a_prefixed run a) names g (let l = run_high (begins_cast run) in omega arith))
primary_by (ExprShape.a_binary lv a ns) names t g bytes e h = absurd (above_primary (ExprShape.a_binary lv a ns) names g (let l = level_low lv in omega arith))
primary_by (ExprShape.a_conditional a bs) names t g bytes e h = absurd (above_primary (ExprShape.a_conditional a bs) names g (omega arith))
primary_by (ExprShape.a_assign a ns) names t g bytes e h = absurd (above_primary (ExprShape.a_assign a ns) names g (omega arith))
primary_by (ExprShape.a_comma a ns) names t g bytes e h = absurd (above_primary (ExprShape.a_comma a ns) names g (omega arith))

grows_primary : Grows primary
grows_primary names x t g h = let l = literal_of (expr_ending x) t.kind h in primary_by (expr_shape x) names t g l.0 l.1 l.2

-- ---- a number may stand wherever an operand does

-- ---- suffixes

new_by : (names : Names) (op : Punct) (at : Pos) → joins op ≤ postfix → NewItem suffix_items tt names (punct op at)
new_by names p.LeftBracket at j = record { item = suffix.Index at (expr.Number 0 Int at) at; good = ap (λ f. (f names).0) (suffix_level-Index at (expr.Number 0 Int at) at) ∙ ap (λ f. nat_le (f names).0 comma) (expr_level-Number 0 Int at); tokens = _; spelt = suffix_spelling-Index at (expr.Number 0 Int at) at }
new_by names p.LeftParen at j = record { item = suffix.Call at at; good = ap (λ f. (f names).0) (suffix_level-Call at at); tokens = _; spelt = suffix_spelling-Call at at }
new_by names p.Dot at j = let id : Identifier = record { text = []; place = at } in record { item = suffix.Member at id; good = ap (λ f. (f names).0) (suffix_level-Member at id); tokens = _; spelt = suffix_spelling-Member at id }
new_by names p.Arrow at j = let id : Identifier = record { text = []; place = at } in record { item = suffix.Arrow at id; good = ap (λ f. (f names).0) (suffix_level-Arrow at id); tokens = _; spelt = suffix_spelling-Arrow at id }
new_by names p.Increment at j = record { item = suffix.Increment at; good = ap (λ f. (f names).0) (suffix_level-Increment at); tokens = []; spelt = suffix_spelling-Increment at }
new_by names p.Decrement at j = record { item = suffix.Decrement at; good = ap (λ f. (f names).0) (suffix_level-Decrement at); tokens = []; spelt = suffix_spelling-Decrement at }
new_by names _ at j = absurd (omega arith)

new_suffix : (names : Names) (t : Token) (op : Punct) → k.Punct op ≡ t.kind → joins op ≤ postfix → NewItem suffix_items tt names t
new_suffix names t op e j = subst (λ t. NewItem suffix_items tt names t) (token_is t (k.Punct op) e) (new_by names op t.place j)

with_another : (names : Names) (a : Expr) (xs : List Suffix) (t : Token) → postfix_form.good names (a, xs) → ((names : Names) → NewItem suffix_items tt names t) → Longer (expr_form postfix) names (with_suffixes a xs) t
with_another names a xs t g n =
    let m = another suffix_items tt (names ++ (expr_level a names).1) xs t g.1 (n _) in
    record {
      tree = with_suffixes a (m.head ∷ m.tail);
      good = postfix_good names a (m.head ∷ m.tail) (g.0, m.good);
      tokens = m.tokens;
      spelt = postfix_spelt a (m.head ∷ m.tail) ∙ ap (λ l. expr_spelling a ++ l) m.spelt ∙ sym (append_assoc (expr_spelling a) (joined (map suffix_spelling xs)) (t ∷ m.tokens)) ∙ ap (λ l. l ++ t ∷ m.tokens) (sym (postfix_spelt a xs));
    }

-- the same tree, of a looser production
looser : (a b : ℕ) (names : Names) (x : Expr) (t : Token) → a ≤ b → Longer (expr_form a) names x t → Longer (expr_form b) names x t
looser a b names x t h l = record { tree = l.tree; good = let g = l.good in omega arith; tokens = l.tokens; spelt = l.spelt }

postfix_by : (names : Names) (a : Expr) (xs : List Suffix) (t : Token) → postfix_form.good names (a, xs) → goes_on (expr_ending (with_suffixes a xs)) (Some t.kind) ≤ postfix → (b : Bool) → nat_le (goes_on (expr_ending (with_suffixes a xs)) (Some t.kind)) primary ≡ b
    → Longer (expr_form postfix) names (with_suffixes a xs) t
postfix_by names a [] t g h true e = looser primary postfix names a t (omega arith) (grows_primary names a t g.0 (nat_le-true _ primary e))
postfix_by names a (x ∷ xs) t g h true e =
    let l = literal_of (expr_ending (with_suffixes a (x ∷ xs))) t.kind (nat_le-true _ primary e) in
    absurd (no_text _ _ (expr_ending-Postfix a (x ∷ xs)) refl l.2)
postfix_by names a xs t g h false e =
    let m = mark_of (expr_ending (with_suffixes a xs)) t.kind postfix (nat_le-false _ primary e) h (omega arith) in
    with_another names a xs t g (λ names. new_suffix names t m.0 m.1 m.2)

grows_postfix : Grows postfix
grows_postfix names x t g h =
    let s = postfix_split (expr_shape x) names g in
    let h1 = subst (λ y. goes_on (expr_ending y) (Some t.kind) ≤ postfix) (sym s.whole) h in
    subst (λ y. Longer (expr_form postfix) names y t) s.whole (postfix_by names s.tuple.0 s.tuple.1 t s.good h1 _ refl)

-- ---- `sizeof` and runs of prefixes

under_by : (e : Ending) (o : Option TokenKind) (b : Bool) → nat_le (goes_on e o) postfix ≡ b → goes_on e o ≤ cast → goes_on e o ≤ postfix
under_by e o true h g = nat_le-true (goes_on e o) postfix h
under_by e o false h g = absurd (let a = over_gap e o (nat_le-false (goes_on e o) postfix h) in omega arith)

-- no production stands between suffixes and operators
under_gap : (e : Ending) (o : Option TokenKind) → goes_on e o ≤ cast → goes_on e o ≤ postfix
under_gap e o g = under_by e o (nat_le (goes_on e o) postfix) refl g

prefixed_by : {x : Expr} → ExprShape x → (names : Names) (t : Token) → (expr_level x names).0 ≤ prefixed → goes_on (expr_ending x) (Some t.kind) ≤ postfix → Longer (expr_form prefixed) names x t
prefixed_by (ExprShape.a_sizeof_type at from type to) names t g h =
    absurd (let a = sized_stop (Some t.kind) in let e : goes_on sized (Some t.kind) ≤ postfix = subst (λ e. goes_on e (Some t.kind) ≤ postfix) (expr_ending-SizeofType at from type to) h in omega arith)
prefixed_by (ExprShape.a_name id) names t g h = looser postfix prefixed names _ t (omega arith) (grows_postfix names _ t (tighter (ExprShape.a_name id) names postfix (omega arith) (omega arith)) h)
prefixed_by (ExprShape.a_number value kind at) names t g h = looser postfix prefixed names _ t (omega arith) (grows_postfix names _ t (tighter (ExprShape.a_number value kind at) names postfix (omega arith) (omega arith)) h)
prefixed_by (ExprShape.a_char value at) names t g h = looser postfix prefixed names _ t (omega arith) (grows_postfix names _ t (tighter (ExprShape.a_char value at) names postfix (omega arith) (omega arith)) h)
prefixed_by (ExprShape.a_strings all) names t g h = looser postfix prefixed names _ t (omega arith) (grows_postfix names _ t (tighter (ExprShape.a_strings all) names postfix (omega arith) (omega arith)) h)
prefixed_by (ExprShape.a_paren from inner to) names t g h = looser postfix prefixed names _ t (omega arith) (grows_postfix names _ t (tighter (ExprShape.a_paren from inner to) names postfix (omega arith) (omega arith)) h)
prefixed_by (ExprShape.a_postfix a xs) names t g h = looser postfix prefixed names _ t (omega arith) (grows_postfix names _ t (tighter (ExprShape.a_postfix a xs) names postfix (omega arith) (omega arith)) h)
prefixed_by (ExprShape.a_prefixed run a) names t g h = absurd (let n = number_within (ExprShape.a_prefixed run a) names prefixed g (omega arith) in let l = run_high (begins_cast run) in omega arith)
prefixed_by (ExprShape.a_binary lv a ns) names t g h = absurd (let n = number_within (ExprShape.a_binary lv a ns) names prefixed g (omega arith) in let l = level_low lv in omega arith)
prefixed_by (ExprShape.a_conditional a bs) names t g h = absurd (let n = number_within (ExprShape.a_conditional a bs) names prefixed g (omega arith) in omega arith)
prefixed_by (ExprShape.a_assign a ns) names t g h = absurd (let n = number_within (ExprShape.a_assign a ns) names prefixed g (omega arith) in omega arith)
prefixed_by (ExprShape.a_comma a ns) names t g h = absurd (let n = number_within (ExprShape.a_comma a ns) names prefixed g (omega arith) in omega arith)

operand_goes_by : (run : List Prefix) (a : Expr) (o : Option TokenKind) (b : Bool) → nat_le (goes_on (expr_ending a) o) cast ≡ b → goes_on (expr_ending (with_run run a)) o ≤ cast → goes_on (expr_ending a) o ≤ cast
operand_goes_by run a o true e h = nat_le-true (goes_on (expr_ending a) o) cast e
operand_goes_by [] a o false e h = h
operand_goes_by (x ∷ xs) a o false e h =
    let f : Ending = record { text = (expr_ending a).text; size = (expr_ending a).size; target = run_target (map prefix_ending (x ∷ xs)) } in
    let g : goes_on f o ≤ cast = subst (λ e. goes_on e o ≤ cast) (expr_ending-Prefixed (x ∷ xs) a) h in
    absurd (let r = retarget cast (expr_ending a) (run_target (map prefix_ending (x ∷ xs))) o (omega arith) (nat_le-false (goes_on (expr_ending a) o) cast e) in omega arith)

grows_cast : Grows cast
grows_cast names x t g h =
    let s = run_split (expr_shape x) names g in
    let run : List Prefix = s.tuple.0 in
    let a : Expr = s.tuple.1 in
    let h1 = subst (λ y. goes_on (expr_ending y) (Some t.kind) ≤ cast) (sym s.whole) h in
    let d = under_gap (expr_ending a) (Some t.kind) (operand_goes_by run a (Some t.kind) (nat_le (goes_on (expr_ending a) (Some t.kind)) cast) refl h1) in
    let l = prefixed_by (expr_shape a) (names ++ all_added prefix_items names run) t s.good.1 d in
    let made : Longer (expr_form cast) names (with_run run a) t = record {
      tree = with_run run l.tree;
      good = run_good names run l.tree (s.good.0, l.good);
      tokens = l.tokens;
      spelt = run_spelt run l.tree ∙ ap (λ r. joined (map prefix_spelling run) ++ r) l.spelt ∙ sym (append_assoc (joined (map prefix_spelling run)) (expr_spelling a) (t ∷ l.tokens)) ∙ ap (λ r. r ++ t ∷ l.tokens) (sym (run_spelt run a));
    } in
    subst (λ y. Longer (expr_form cast) names y t) s.whole made

-- ---- an operator of a production

goes_by_is : (a b : Bool) (j within level : ℕ) → level ≡ within + 1 → level < none → within < cond a none (cond b none j) → cond a none (cond b none j) ≤ level → (j ≡ level) × (b ≡ false)
goes_by_is true b j within level e low h g = absurd (omega arith)
goes_by_is false true j within level e low h g = absurd (omega arith)
goes_by_is false false j within level e low h g = (omega arith, refl)

text_by : (t : Bool) (within level : ℕ) → level < none → within < cond t primary none → cond t primary none ≤ level → ⊥
text_by true within level low h g = omega arith
text_by false within level low h g = omega arith

-- a token that goes on with exactly this production
record Operator (e : Ending) (kind : TokenKind) (level : ℕ) : Type 0 where
  op : Punct
  is : k.Punct op ≡ kind
  joins_is : joins op ≡ level
  target : (not e.target && same (joins op) assignment) ≡ false

operator_is : (e : Ending) (kind : TokenKind) (within level : ℕ) → level ≡ within + 1 → level < none → within < goes_on e (Some kind) → goes_on e (Some kind) ≤ level → Operator e kind level
operator_is e (k.Punct op) within level l low h g =
    let w = goes_by_is (e.size && nat_le (joins op) postfix) (not e.target && same (joins op) assignment) (joins op) within level l low h g in
    record { op = op; is = refl; joins_is = w.0; target = w.1 }
operator_is e (k.Bytes bytes) within level l low h g = absurd (text_by e.text within level low h g)
operator_is e (k.Keyword key) within level l low h g = absurd (omega arith)
operator_is e (k.Name text) within level l low h g = absurd (omega arith)
operator_is e (k.Number value kind) within level l low h g = absurd (omega arith)
operator_is e (k.Char value) within level l low h g = absurd (omega arith)

abbrev next_at : Punct → Pos → Next
next_at op at = roll-Next (record { operator = record { punct = op; place = at }; operand = expr.Number 0 Int at })

number_within_any : (names : Names) (at : Pos) (within : ℕ) → (expr_level (expr.Number 0 Int at) names).0 ≤ within
number_within_any names at within = subst (λ n. n ≤ within) (sym (ap (λ f. (f names).0) (expr_level-Number 0 Int at))) (omega arith)

next_new : (op : Punct) (t : Token) → k.Punct op ≡ t.kind → next_spelling (next_at op t.place) ≡ t ∷ expr_spelling (expr.Number 0 Int t.place)
next_new op t e = next_spelling-is (next_at op t.place) ∙ ap (λ (u : Token). u ∷ expr_spelling (expr.Number 0 Int t.place)) (token_is t (k.Punct op) e)

next_longer : (n : Next) (t : Token) (y : Expr) (tokens : Tokens) → expr_spelling y ≡ expr_spelling (operand_of n) ++ t ∷ tokens → next_spelling (roll-Next (record { operator = operator_of n; operand = y })) ≡ next_spelling n ++ t ∷ tokens
next_longer n t y tokens e =
    next_spelling-is (roll-Next (record { operator = operator_of n; operand = y })) ∙ ap (λ l. mark (operator_of n) ∷ l) e ∙ ap (λ l. l ++ t ∷ tokens) (sym (next_spelling-is n))

-- ---- levels of operators, and commas

module _ (level within : ℕ) (make : Expr → List Next → Expr) (turn : Ending → Ending) (row : Row level within make turn)
    (above : level ≡ within + 1) (high : prefixed ≤ level) (low : level < none) (no_assignment : level ≡ assignment → ⊥)
    (turn_low : (e : Ending) (o : Option TokenKind) → goes_on (turn e) o ≤ within → goes_on e o ≤ within) (tight : Grows within) where
  abbrev items : Items (Unit {0}) Next
  items = next_items level within flat

  with_list : (names : Names) (a : Expr) (ns : List Next) (t : Token) → (expr_level a names).0 ≤ within → LongerList items tt (names ++ (expr_level a names).1) ns t → Longer (expr_form level) names (make a ns) t
  with_list names a ns t g m = record {
    tree = make a (m.head ∷ m.tail);
    good = row_good level within make turn row above high low no_assignment names a (m.head ∷ m.tail) (g, m.good);
    tokens = m.tokens;
    spelt = row_spelt level within make turn row above high low no_assignment a (m.head ∷ m.tail) ∙ ap (λ l. expr_spelling a ++ l) m.spelt
        ∙ sym (append_assoc (expr_spelling a) (joined (map next_spelling ns)) (t ∷ m.tokens)) ∙ ap (λ l. l ++ t ∷ m.tokens) (sym (row_spelt level within make turn row above high low no_assignment a ns));
  }

  row_by : (names : Names) (a : Expr) (ns : List Next) (t : Token) → (expr_level a names).0 ≤ within → all_good items tt (names ++ (expr_level a names).1) ns → goes_on (expr_ending (make a ns)) (Some t.kind) ≤ level
      → (b : Bool) → nat_le (goes_on (expr_ending (make a ns)) (Some t.kind)) within ≡ b → Longer (expr_form level) names (make a ns) t
  row_by names a [] t g gs h true e =
      let h1 = subst (λ y. goes_on (expr_ending y) (Some t.kind) ≤ within) (row.alone a) (nat_le-true (goes_on (expr_ending (make a [])) (Some t.kind)) within e) in
      subst (λ y. Longer (expr_form level) names y t) (sym (row.alone a)) (looser within level names a t (omega arith) (tight names a t g h1))
  row_by names a (n ∷ ns) t g gs h true e =
      let x : Expr = operand_of (last_of items n ns) in
      let h1 = subst (λ e. goes_on e (Some t.kind) ≤ within) (row.ends a n ns) (nat_le-true (goes_on (expr_ending (make a (n ∷ ns))) (Some t.kind)) within e) in
      let h2 : goes_on (expr_ending x) (Some t.kind) ≤ within = subst (λ e. goes_on e (Some t.kind) ≤ within) (last_ending (Unit {0}) items (expr_ending a) n ns) (turn_low _ (Some t.kind) h1) in
      with_list names a (n ∷ ns) t g (last_longer items tt (names ++ (expr_level a names).1) n ns t gs (λ s names go.
      let l = tight names x t go.1 h2 in
      record { item = roll-Next (record { operator = operator_of (last_of items n ns); operand = l.tree }); good = (go.0, l.good); tokens = l.tokens; spelt = next_longer (last_of items n ns) t l.tree l.tokens l.spelt }))
  row_by names a ns t g gs h false e =
      let o = operator_is (expr_ending (make a ns)) t.kind within level above low (nat_le-false (goes_on (expr_ending (make a ns)) (Some t.kind)) within e) h in
      with_list names a ns t g (another items tt (names ++ (expr_level a names).1) ns t gs
      (record { item = next_at o.op t.place; good = (o.joins_is, number_within_any _ t.place within); tokens = _; spelt = next_new o.op t o.is }))

  grows_row : Grows level
  grows_row names x t g h =
      let s = row_split level within make turn row above high low no_assignment names x g (row.split names x g) in
      let h1 = subst (λ y. goes_on (expr_ending y) (Some t.kind) ≤ level) (sym s.whole) h in
      subst (λ y. Longer (expr_form level) names y t) s.whole (row_by names s.tuple.0 s.tuple.1 t s.good.0 s.good.1 h1 (nat_le (goes_on (expr_ending (make s.tuple.0 s.tuple.1)) (Some t.kind)) within) refl)

low_by : (within : ℕ) (e : Ending) (o : Option TokenKind) (b : Bool) → nat_le (goes_on e o) within ≡ b → within < none → goes_on (no_target e) o ≤ within → goes_on e o ≤ within
low_by within e o true h low g = nat_le-true (goes_on e o) within h
low_by within e o false h low g = absurd (let a = no_target_to within e o low (nat_le-false (goes_on e o) within h) in omega arith)

no_target_low : (within : ℕ) → within < none → (e : Ending) (o : Option TokenKind) → goes_on (no_target e) o ≤ within → goes_on e o ≤ within
no_target_low within low e o g = low_by within e o (nat_le (goes_on e o) within) refl low g

grows_binary : (lv : Level) → Grows (below lv) → Grows (of_level lv)
grows_binary lv tight =
    let l = level_low lv in let d = below_level lv in
    grows_row (of_level lv) (below lv) (with_operands lv) no_target (binary_row lv) d (omega arith) (omega arith) (λ e. omega arith) (no_target_low (below lv) (omega arith)) tight

grows_or : Grows or
grows_or =
    grows_binary level.Or (grows_binary level.And (grows_binary level.BitOr (grows_binary level.BitXor (grows_binary level.BitAnd (grows_binary level.Equality (grows_binary level.Relation
    (grows_binary level.Shift (grows_binary level.Sum (grows_binary level.Product grows_cast)))))))))

-- ---- conditional expressions

question_is : (op : Punct) → joins op ≡ conditional → op ≡ p.Question
question_is p.Question j = refl
question_is p.LeftBracket j = absurd (omega arith)
question_is _ j = absurd (omega arith)

abbrev branch_at : Pos → Branch
branch_at at = roll-Branch (record { question = at; gives = expr.Number 0 Int at; colon = at; operand = expr.Number 0 Int at })

with_branch_list : (names : Names) (a : Expr) (bs : List Branch) (t : Token) → (expr_level a names).0 ≤ or → LongerList branch_items tt (names ++ (expr_level a names).1) bs t → Longer (expr_form conditional) names (with_branches a bs) t
with_branch_list names a bs t g m = record {
  tree = with_branches a (m.head ∷ m.tail);
  good = conditional_good names a (m.head ∷ m.tail) (g, m.good);
  tokens = m.tokens;
  spelt = conditional_spelt a (m.head ∷ m.tail) ∙ ap (λ l. expr_spelling a ++ l) m.spelt ∙ sym (append_assoc (expr_spelling a) (joined (map branch_spelling bs)) (t ∷ m.tokens)) ∙ ap (λ l. l ++ t ∷ m.tokens) (sym (conditional_spelt a bs));
}

branch_good : (names : Names) (b : Branch) → (expr_level (out-Branch b).gives names).0 ≤ comma → (expr_level (out-Branch b).operand (names ++ (expr_level (out-Branch b).gives names).1)).0 ≤ or → (branch_level b names).0 ≡ true
branch_good names b g h = ap (λ f. (f names).0) (branch_level-is b) ∙ both_are _ _ (nat_le-is (expr_level (out-Branch b).gives names).0 comma g) (nat_le-is (expr_level (out-Branch b).operand (names ++ (expr_level (out-Branch b).gives names).1)).0 or h)

good_branch : (names : Names) (b : Branch) → (branch_level b names).0 ≡ true → ((expr_level (out-Branch b).gives names).0 ≤ comma) × ((expr_level (out-Branch b).operand (names ++ (expr_level (out-Branch b).gives names).1)).0 ≤ or)
good_branch names b h =
    let c = both_true (nat_le (expr_level (out-Branch b).gives names).0 comma) _ (sym (ap (λ f. (f names).0) (branch_level-is b)) ∙ h) in
    (nat_le-true (expr_level (out-Branch b).gives names).0 comma c.0, nat_le-true (expr_level (out-Branch b).operand (names ++ (expr_level (out-Branch b).gives names).1)).0 or c.1)

branch_longer : (names : Names) (b : Branch) (t : Token) → (branch_level b names).0 ≡ true → goes_on (expr_ending (out-Branch b).operand) (Some t.kind) ≤ or → LongerItem branch_items tt names b t
branch_longer names b t g h =
    let w = good_branch names b g in
    let q = out-Branch b in
    let l = grows_or (names ++ (expr_level q.gives names).1) q.operand t w.1 h in
    let made : Branch = roll-Branch (record { question = q.question; gives = q.gives; colon = q.colon; operand = l.tree }) in
    record {
      item = made;
      good = branch_good names made w.0 l.good;
      tokens = l.tokens;
      spelt = branch_spelling-is made ∙ ap (λ r. punct p.Question q.question ∷ (expr_spelling q.gives ++ punct p.Colon q.colon ∷ r)) l.spelt
          ∙ ap (λ r. punct p.Question q.question ∷ r) (sym (append_assoc (expr_spelling q.gives) (punct p.Colon q.colon ∷ expr_spelling q.operand) (t ∷ l.tokens))) ∙ ap (λ r. r ++ t ∷ l.tokens) (sym (branch_spelling-is b));
    }

branch_new : (names : Names) (t : Token) (op : Punct) → k.Punct op ≡ t.kind → joins op ≡ conditional → NewItem branch_items tt names t
branch_new names t op e j =
    record {
      item = branch_at t.place;
      good = branch_good names (branch_at t.place) (number_within_any names t.place comma) (number_within_any _ t.place or);
      tokens = _;
      spelt = branch_spelling-is (branch_at t.place) ∙ ap (λ (u : Token). u ∷ (expr_spelling (expr.Number 0 Int t.place) ++ punct p.Colon t.place ∷ expr_spelling (expr.Number 0 Int t.place)))
          (ap (λ (q : Punct). punct q t.place) (sym (question_is op j)) ∙ token_is t (k.Punct op) e);
    }

conditional_by : (names : Names) (a : Expr) (bs : List Branch) (t : Token) → (expr_level a names).0 ≤ or → all_good branch_items tt (names ++ (expr_level a names).1) bs → goes_on (expr_ending (with_branches a bs)) (Some t.kind) ≤ conditional
    → (b : Bool) → nat_le (goes_on (expr_ending (with_branches a bs)) (Some t.kind)) or ≡ b → Longer (expr_form conditional) names (with_branches a bs) t
conditional_by names a [] t g gs h true e = looser or conditional names a t (omega arith) (grows_or names a t g (nat_le-true (goes_on (expr_ending a) (Some t.kind)) or e))
conditional_by names a (x ∷ xs) t g gs h true e =
    let h1 = subst (λ e. goes_on e (Some t.kind) ≤ or) (expr_ending-Conditional a (x ∷ xs)) (nat_le-true (goes_on (expr_ending (with_branches a (x ∷ xs))) (Some t.kind)) or e) in
    let h2 = subst (λ e. goes_on e (Some t.kind) ≤ or) (branch_last (expr_ending a) x xs) (no_target_low or (omega arith) _ (Some t.kind) h1) in
    with_branch_list names a (x ∷ xs) t g (last_longer branch_items tt (names ++ (expr_level a names).1) x xs t gs (λ s names go. branch_longer names (last_of branch_items x xs) t go h2))
conditional_by names a bs t g gs h false e =
    let o = operator_is (expr_ending (with_branches a bs)) t.kind or conditional (omega arith) (omega arith) (nat_le-false (goes_on (expr_ending (with_branches a bs)) (Some t.kind)) or e) h in
    with_branch_list names a bs t g (another branch_items tt (names ++ (expr_level a names).1) bs t gs (branch_new _ t o.op o.is o.joins_is))

pub grows_conditional : Grows conditional
grows_conditional names x t g h =
    let s = conditional_split (expr_shape x) names g in
    let h1 = subst (λ y. goes_on (expr_ending y) (Some t.kind) ≤ conditional) (sym s.whole) h in
    subst (λ y. Longer (expr_form conditional) names y t) s.whole (conditional_by names s.tuple.0 s.tuple.1 t s.good.0 s.good.1 h1 (nat_le (goes_on (expr_ending (with_branches s.tuple.0 s.tuple.1)) (Some t.kind)) or) refl)

-- ---- assignments

with_target_list : (names : Names) (a : Expr) (ns : List Next) (t : Token) → (expr_level a names).0 ≤ conditional → LongerList target_items (is_unary a) (names ++ (expr_level a names).1) ns t → Longer (expr_form assignment) names (with_targets a ns) t
with_target_list names a ns t g m = record {
  tree = with_targets a (m.head ∷ m.tail);
  good = assign_good names a (m.head ∷ m.tail) (g, m.good);
  tokens = m.tokens;
  spelt = assign_spelt a (m.head ∷ m.tail) ∙ ap (λ l. expr_spelling a ++ l) m.spelt ∙ sym (append_assoc (expr_spelling a) (joined (map next_spelling ns)) (t ∷ m.tokens)) ∙ ap (λ l. l ++ t ∷ m.tokens) (sym (assign_spelt a ns));
}

target_of : (t : Bool) (j : ℕ) → j ≡ assignment → (not t && same j assignment) ≡ false → t ≡ true
target_of true j e h = refl
target_of false j e h = absurd (let z : true ≡ false = sym (same-itself assignment) ∙ ap (λ n. same n assignment) (sym e) ∙ h in cc)

-- what ends the list may be assigned to
ends_unary : (names : Names) (a : Expr) (ns : List Next) → (expr_level a names).0 ≤ conditional → all_good target_items (is_unary a) (names ++ (expr_level a names).1) ns → (expr_ending (with_targets a ns)).target ≡ left target_items (is_unary a) ns
ends_unary names a [] g gs = target_is a names g
ends_unary names a (n ∷ ns) g gs =
    ap (λ e. e.target) (expr_ending-Assign a (n ∷ ns) ∙ last_ending Bool target_items (expr_ending a) n ns) ∙ last_good (is_unary a) (names ++ (expr_level a names).1) n ns gs ∙ sym (left_unary (is_unary a) n ns)

assign_by : (names : Names) (a : Expr) (ns : List Next) (t : Token) → (expr_level a names).0 ≤ conditional → all_good target_items (is_unary a) (names ++ (expr_level a names).1) ns → goes_on (expr_ending (with_targets a ns)) (Some t.kind) ≤ assignment
    → (b : Bool) → nat_le (goes_on (expr_ending (with_targets a ns)) (Some t.kind)) conditional ≡ b → Longer (expr_form assignment) names (with_targets a ns) t
assign_by names a [] t g gs h true e = looser conditional assignment names a t (omega arith) (grows_conditional names a t g (nat_le-true (goes_on (expr_ending a) (Some t.kind)) conditional e))
assign_by names a (n ∷ ns) t g gs h true e =
    let x : Expr = operand_of (last_of target_items n ns) in
    let h1 : goes_on (expr_ending x) (Some t.kind) ≤ conditional =
    subst (λ e. goes_on e (Some t.kind) ≤ conditional) (expr_ending-Assign a (n ∷ ns) ∙ last_ending Bool target_items (expr_ending a) n ns) (nat_le-true (goes_on (expr_ending (with_targets a (n ∷ ns))) (Some t.kind)) conditional e) in
    with_target_list names a (n ∷ ns) t g (last_longer target_items (is_unary a) (names ++ (expr_level a names).1) n ns t gs (λ s names go.
    let l = grows_conditional names x t go.1.1 h1 in
    record { item = roll-Next (record { operator = operator_of (last_of target_items n ns); operand = l.tree }); good = (go.0, (go.1.0, l.good)); tokens = l.tokens; spelt = next_longer (last_of target_items n ns) t l.tree l.tokens l.spelt }))
assign_by names a ns t g gs h false e =
    let o = operator_is (expr_ending (with_targets a ns)) t.kind conditional assignment (omega arith) (omega arith) (nat_le-false (goes_on (expr_ending (with_targets a ns)) (Some t.kind)) conditional e) h in
    let u = sym (ends_unary names a ns g gs) ∙ target_of (expr_ending (with_targets a ns)).target (joins o.op) o.joins_is o.target in
    with_target_list names a ns t g (another target_items (is_unary a) (names ++ (expr_level a names).1) ns t gs
    (record { item = next_at o.op t.place; good = (u, (o.joins_is, number_within_any _ t.place conditional)); tokens = _; spelt = next_new o.op t o.is }))

pub grows_assignment : Grows assignment
grows_assignment names x t g h =
    let s = assign_split (expr_shape x) names g in
    let h1 = subst (λ y. goes_on (expr_ending y) (Some t.kind) ≤ assignment) (sym s.whole) h in
    subst (λ y. Longer (expr_form assignment) names y t) s.whole (assign_by names s.tuple.0 s.tuple.1 t s.good.0 s.good.1 h1 (nat_le (goes_on (expr_ending (with_targets s.tuple.0 s.tuple.1)) (Some t.kind)) conditional) refl)

pub grows_comma : Grows comma
grows_comma = grows_row comma assignment with_commas (λ e. e) comma_row (omega arith) (omega arith) (omega arith) (λ e. omega arith) (λ e o h. h) grows_assignment
