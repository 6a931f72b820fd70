-- What goes on with an expression, and the form of the expressions of a production.
use Rattle.std.specs.Prelude.{◌≡◌, ℕ, ◌+◌, ◌≤◌, ◌<◌, Bool, true, false, not, ◌&&◌, if◌then◌else◌, nat_le, [], ◌∷◌, Option, Some, None, refl}
use Rattle.std.proofs.Common.{ap, sym, ◌∙◌, subst, cond, arith}
use Rattle.std.proofs.lemmas.Bool.Decides.{nat_tests}
use Rattle.c_tree.specs.declared.token.Pos.{Pos}
use Rattle.c_tree.specs.declared.token.Punct.{Punct}
use Rattle.c_tree.specs.declared.token.Punct.TheVariants as p
use Rattle.c_tree.specs.declared.token.TokenKind.{TokenKind}
use Rattle.c_tree.specs.declared.token.TokenKind.TheVariants as k
use Rattle.c_tree.specs.declared.expression.Expr.{Expr}
use Rattle.c_tree.specs.Spelling.Tokens.{punct}
use Rattle.c_tree.specs.Spelling.Trees.{expr_spelling}
use Rattle.c_tree.specs.Levels.Names.{Names}
use Rattle.c_tree.specs.Levels.Productions.{primary, postfix, prefixed, cast, assignment, none, joins}
use Rattle.c_tree.specs.Levels.Facts.{same, where_good}
use Rattle.c_tree.specs.Levels.Trees.{expr_level}
use Rattle.c_tree.specs.Nesting.Trees.{expr_nesting}
use Rattle.c_grammar.specs.Input.{Tokens, peek, joins_with, goes}
use Rattle.c_grammar.specs.Ending.OfTrees.{Ending}
use Rattle.c_grammar.specs.Ending.Trees.{expr_ending}
use Rattle.c_grammar.specs.Laws.Form.{Form}

-- the production that goes on with a tree that ends so, at a mark that this production goes on with behind an operand
abbrev pub goes_by : Ending → ℕ → ℕ
goes_by e j = if e.size && nat_le j postfix then none else (if not e.target && same j assignment then none else j)

abbrev pub goes_on : Ending → Option TokenKind → ℕ
goes_on e (Some (k.Bytes bytes)) = if e.text then primary else none
goes_on e (Some (k.Punct op)) = goes_by e (joins op)
goes_on e _ = none

-- expressions of a production; what stands behind goes on with none that is as tight
abbrev pub expr_form : ℕ → Form Expr
expr_form within = record {
  spell = expr_spelling;
  good = λ names x. (expr_level x names).0 ≤ within;
  adds = λ names x. (expr_level x names).1;
  nest = expr_nesting;
  stop = λ x names rest. within < goes_on (expr_ending x) (peek rest);
}

-- ---- truth

pub both_true : (a b : Bool) → (a && b) ≡ true → (a ≡ true) × (b ≡ true)
both_true true b h = (refl, h)
both_true false b h = absurd cc

pub both_are : (a b : Bool) → a ≡ true → b ≡ true → (a && b) ≡ true
both_are a b h g = rw (h, g) refl

pub nat_le-true : (a b : ℕ) → nat_le a b ≡ true → a ≤ b
nat_le-true a b h = grind (arith, nat_tests)

pub nat_le-is : (a b : ℕ) → a ≤ b → nat_le a b ≡ true
nat_le-is a b h = grind (arith, nat_tests)

pub nat_le-not : (a b : ℕ) → b < a → nat_le a b ≡ false
nat_le-not a b h = grind (arith, nat_tests)

pub nat_le-false : (a b : ℕ) → nat_le a b ≡ false → b < a
nat_le-false a b h = grind (arith, nat_tests)

pub same-true : (a b : ℕ) → same a b ≡ true → a ≡ b
same-true a b h = let t = both_true (nat_le a b) (nat_le b a) h in omega (arith, nat_le-true a b t.0, nat_le-true b a t.1)

pub same-itself : (a : ℕ) → same a a ≡ true
same-itself a = let t = nat_le-is a a (omega arith) in ap (λ b. b && nat_le a a) t ∙ t

same_not-by : (b : Bool) (a c : ℕ) → same a c ≡ b → (a ≡ c → ⊥) → same a c ≡ false
same_not-by true a c h ne = absurd (ne (same-true a c h))
same_not-by false a c h ne = h

pub same-not : (a c : ℕ) → (a ≡ c → ⊥) → same a c ≡ false
same-not a c = same_not-by (same a c) a c refl

pub same-false : (a c : ℕ) → same a c ≡ false → a ≡ c → ⊥
same-false a c h e = let t = same-itself a in let f : same a a ≡ false = subst (λ d. same a d ≡ false) (sym e) h in absurd cc

-- ---- productions

pub good_of : (b : Bool) (n w : ℕ) → where_good b n ≤ w → w < none → (b ≡ true) × (n ≤ w)
good_of true n w h low = (refl, h)
good_of false n w h low = absurd (omega arith)

pub where_is : (b : Bool) (n w : ℕ) → b ≡ true → n ≤ w → where_good b n ≤ w
where_is true n w e h = h
where_is false n w e h = absurd cc

-- ---- marks

pub joins_below : (op : Punct) → joins op ≤ none
joins_below p.LeftBracket = omega arith
joins_below _ = omega arith

pub joins_above : (op : Punct) → 0 < joins op
joins_above p.LeftBracket = omega arith
joins_above _ = omega arith

by_target : (b : Bool) (j : ℕ) → j ≤ none → j ≤ cond b none j
by_target true j h = h
by_target false j h = omega arith

by_size : (b : Bool) (j k : ℕ) → j ≤ none → j ≤ k → j ≤ cond b none k
by_size true j k h g = h
by_size false j k h g = g

-- a mark goes on with no tighter production than it does behind an operand
pub goes_above : (e : Ending) (op : Punct) → joins op ≤ goes_on e (Some (k.Punct op))
goes_above e op = by_size (e.size && nat_le (joins op) postfix) (joins op) _ (joins_below op) (by_target (not e.target && same (joins op) assignment) (joins op) (joins_below op))

pub peek_mark : (op : Punct) (at : Pos) (rest : Tokens) → peek (punct op at ∷ rest) ≡ Some (k.Punct op)
unfolding peek
peek_mark op at rest = refl

-- a mark that goes on with a looser production stands behind a tighter expression
pub before_mark : (within : ℕ) (e : Ending) (op : Punct) (at : Pos) (rest : Tokens) → within < joins op → within < goes_on e (peek (punct op at ∷ rest))
before_mark within e op at rest h = subst (λ o. within < goes_on e o) (sym (peek_mark op at rest)) (let a = goes_above e op in omega arith)

pub before_end : (within : ℕ) (e : Ending) → within < none → within < goes_on e (peek [])
unfolding peek
before_end within e h = h

text_free : (o : Option TokenKind) (e : Ending) → e.text ≡ false → primary < goes_on e o
text_free None e t = omega arith
text_free (Some (k.Punct op)) e t = let a = joins_above op in let b = goes_above e op in omega arith
text_free (Some (k.Bytes bytes)) e t = rw t (omega arith)
text_free (Some (k.Keyword key)) e t = omega arith
text_free (Some (k.Name text)) e t = omega arith
text_free (Some (k.Number value kind)) e t = omega arith
text_free (Some (k.Char value)) e t = omega arith

-- nothing goes on with a primary expression but a string literal with others
pub primary_stop : (e : Ending) (rest : Tokens) → e.text ≡ false → primary < goes_on e (peek rest)
primary_stop e rest t = text_free (peek rest) e t

-- ---- the next operator

pub goes_mark : (level : ℕ) (names : Names) (op : Punct) (at : Pos) (rest : Tokens) → joins op ≡ level → goes level (names, punct op at ∷ rest) ≡ true
goes_mark level names op at rest j = ap (λ o. same (joins_with o) level) (peek_mark op at rest) ∙ subst (λ n. same (joins op) n ≡ true) j (same-itself (joins op))

pub mark_goes : (level : ℕ) (names : Names) (op : Punct) (at : Pos) (rest : Tokens) → goes level (names, punct op at ∷ rest) ≡ true → joins op ≡ level
mark_goes level names op at rest h = same-true (joins op) level (sym (ap (λ o. same (joins_with o) level) (peek_mark op at rest)) ∙ h)

pub goes_end : (level : ℕ) (names : Names) → level < none → goes level (names, []) ≡ false
unfolding peek
goes_end level names low = same-not none level (λ e. omega arith)

-- where no operator of the next production comes, and none of a tighter one goes on, none of that production does
above_by : (b : Bool) (level j : ℕ) → level < none → level ≤ cond b none j → (j ≡ level → ⊥) → level < cond b none j
above_by true level j low h ne = low
above_by false level j low h ne = omega arith

target_by : (t : Bool) (level j : ℕ) → level < none → level ≤ (if not t && same j assignment then none else j) → (j ≡ level → ⊥) → level < (if not t && same j assignment then none else j)
target_by t level j low h ne = above_by (not t && same j assignment) level j low h ne

size_by : (b : Bool) (level j k : ℕ) → level < none → level ≤ cond b none k → (level ≤ k → level < k) → level < cond b none k
size_by true level j k low h f = low
size_by false level j k low h f = f h

text_by : (b : Bool) (within level : ℕ) → level ≡ within + 1 → level < none → within < cond b primary none → level < cond b primary none
text_by true within level e low h = absurd (omega arith)
text_by false within level e low h = low

pub next_level : (within level : ℕ) (e : Ending) (o : Option TokenKind) → level ≡ within + 1 → level < none → within < goes_on e o → same (joins_with o) level ≡ false → level < goes_on e o
next_level within level e None l low h n = low
next_level within level e (Some (k.Punct op)) l low h n =
    size_by (e.size && nat_le (joins op) postfix) level (joins op) (if not e.target && same (joins op) assignment then none else joins op) low (omega arith)
    (λ h. target_by e.target level (joins op) low h (same-false (joins op) level n))
next_level within level e (Some (k.Bytes bytes)) l low h n = text_by e.text within level l low h
next_level within level e (Some (k.Keyword key)) l low h n = low
next_level within level e (Some (k.Name text)) l low h n = low
next_level within level e (Some (k.Number value kind)) l low h n = low
next_level within level e (Some (k.Char value)) l low h n = low

-- and where a looser production goes on at most, no operator of this one comes
no_join : (level : ℕ) (e : Ending) (o : Option TokenKind) → level < none → (e.size && nat_le level postfix) ≡ false → (not e.target && same level assignment) ≡ false → level < goes_on e o → joins_with o ≡ level → ⊥
no_join level e None low a b h j = omega arith
no_join level e (Some (k.Punct op)) low a b h j =
    let g : level < goes_by e level = subst (λ n. level < goes_by e n) j h in
    let g1 : level < (if not e.target && same level assignment then none else level) = rw a at g in
    let g2 : level < level = rw b at g1 in omega arith
no_join level e (Some (k.Bytes bytes)) low a b h j = omega arith
no_join level e (Some (k.Keyword key)) low a b h j = omega arith
no_join level e (Some (k.Name text)) low a b h j = omega arith
no_join level e (Some (k.Number value kind)) low a b h j = omega arith
no_join level e (Some (k.Char value)) low a b h j = omega arith

pub no_goes : (level : ℕ) (e : Ending) (names : Names) (rest : Tokens) → level < none → (e.size && nat_le level postfix) ≡ false → (not e.target && same level assignment) ≡ false
    → level < goes_on e (peek rest) → goes level (names, rest) ≡ false
no_goes level e names rest low a b h = same-not (joins_with (peek rest)) level (no_join level e (peek rest) low a b h)

-- a level of operators is neither of suffixes nor of assignments
pub no_goes_level : (level : ℕ) (e : Ending) (names : Names) (rest : Tokens) → prefixed ≤ level → (level ≡ assignment → ⊥) → level < none → level < goes_on e (peek rest) → goes level (names, rest) ≡ false
no_goes_level level e names rest p ne low h =
    no_goes level e names rest low (no_and e.size (nat_le level postfix) (nat_le-not level postfix (omega arith))) (no_and (not e.target) (same level assignment) (same-not level assignment ne)) h
  where
    no_and : (a b : Bool) → b ≡ false → (a && b) ≡ false
    no_and true b h = h
    no_and false b h = refl

-- no mark goes on with a production between those of suffixes and of operators
joins_gap : (op : Punct) → postfix < joins op → cast < joins op
joins_gap p.LeftBracket h = omega arith
joins_gap _ h = omega arith

gap_by : (a b : Bool) (j : ℕ) → (postfix < j → cast < j) → postfix < cond a none (cond b none j) → cast < cond a none (cond b none j)
gap_by true b j f h = omega arith
gap_by false true j f h = omega arith
gap_by false false j f h = f h

text_gap : (t : Bool) → postfix < cond t primary none → cast < cond t primary none
text_gap true h = omega arith
text_gap false h = omega arith

pub over_gap : (e : Ending) (o : Option TokenKind) → postfix < goes_on e o → cast < goes_on e o
over_gap e None h = omega arith
over_gap e (Some (k.Punct op)) h = gap_by (e.size && nat_le (joins op) postfix) (not e.target && same (joins op) assignment) (joins op) (joins_gap op) h
over_gap e (Some (k.Bytes bytes)) h = text_gap e.text h
over_gap e (Some (k.Keyword key)) h = omega arith
over_gap e (Some (k.Name text)) h = omega arith
over_gap e (Some (k.Number value kind)) h = omega arith
over_gap e (Some (k.Char value)) h = omega arith

-- an assignment may stand behind or not: it makes no difference to a tighter production
retarget_by : (a t u s : Bool) (j within : ℕ) → within < assignment → (s ≡ true → j ≡ assignment) → within < cond a none (cond (not t && s) none j) → within < cond a none (cond (not u && s) none j)
retarget_by true t u s j within low e h = h
retarget_by false true true s j within low e h = h
retarget_by false true false true j within low e h = omega arith
retarget_by false true false false j within low e h = h
retarget_by false false true true j within low e h = let a = e refl in omega arith
retarget_by false false true false j within low e h = h
retarget_by false false false s j within low e h = h

pub retarget : (within : ℕ) (e : Ending) (u : Bool) (o : Option TokenKind) → within < assignment → within < goes_on e o → within < goes_on (record { text = e.text; size = e.size; target = u }) o
retarget within e u None low h = h
retarget within e u (Some (k.Punct op)) low h = retarget_by (e.size && nat_le (joins op) postfix) e.target u (same (joins op) assignment) (joins op) within low (same-true (joins op) assignment) h
retarget within e u (Some (k.Bytes bytes)) low h = h
retarget within e u (Some (k.Keyword key)) low h = h
retarget within e u (Some (k.Name text)) low h = h
retarget within e u (Some (k.Number value kind)) low h = h
retarget within e u (Some (k.Char value)) low h = h
