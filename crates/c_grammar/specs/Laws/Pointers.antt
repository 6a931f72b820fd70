-- The pointers of a declarator are read exactly (C11 6.7.6.1).
use Rattle.std.specs.Prelude.{◌≡◌, ℕ, Bool, false, List, [], ◌∷◌, ◌++◌, map, Some, refl}
use Rattle.std.proofs.Common.{ap, sym, arith}
use Rattle.c_tree.specs.declared.token.Pos.{Pos}
use Rattle.c_tree.specs.declared.token.Punct.TheVariants as p
use Rattle.c_tree.specs.declared.token.Keyword.{Keyword}
use Rattle.c_tree.specs.declared.token.Keyword.TheVariants as word
use Rattle.c_tree.specs.declared.token.TokenKind.{TokenKind}
use Rattle.c_tree.specs.declared.token.TokenKind.TheVariants as k
use Rattle.c_tree.specs.declared.declarator.Pointer.{Pointer}
use Rattle.c_tree.specs.Spelling.Tokens.{token, punct, keyword, joined}
use Rattle.c_grammar.specs.Laws.Spelled.{consts, pointers as pointers_spelling}
use Rattle.c_tree.specs.Levels.Names.{Names}
use Rattle.c_tree.specs.Nesting.OfTrees.{deepest}
use Rattle.c_grammar.specs.Input.{Tokens, State, peek, sees, one, expect, many}
use Rattle.c_grammar.specs.Read.Inner.{is_const}
use Rattle.c_grammar.specs.Read.Declarators.{const_at, pointer, pointers}
use Rattle.c_grammar.specs.Laws.Form.{Form, Exact, Node, Image, only, node_exact, same_exact, whole_exact, two}
use Rattle.c_grammar.specs.Laws.Lists.{Items, Kept, item, all_good, all_added, all_stop, list, list_exact, stop_goes, stop_made}
use Rattle.c_grammar.specs.Laws.Single.{single, one_exact, always, mark_form, expect_exact, sees_mark}
use Rattle.c_grammar.specs.Laws.Rows.{pre, pre_exact}
use Rattle.c_grammar.specs.Laws.Behind.{peek_mark}
use Rattle.c_grammar.specs.Laws.Starts.{peek_first}
use Rattle.c_grammar.specs.Laws.Forms.{pointer_spelling, pointer_items}

-- ---- `const`, any number of times

const_key : (names : Names) (key : Keyword) (place a : Pos) → const_at names (k.Keyword key) place ≡ Some a → (keyword word.Const a ≡ token (k.Keyword key) place) × Unit {0}
const_key names word.Const place a h = let e : place ≡ a = cc in (ap (keyword word.Const) (sym e), tt)
const_key names _ place a h = absurd cc

const_picks : (names : Names) (kind : TokenKind) (place a : Pos) → const_at names kind place ≡ Some a → (keyword word.Const a ≡ token kind place) × Unit {0}
const_picks names (k.Keyword key) place a h = const_key names key place a h
const_picks names (k.Punct op) place a h = absurd cc
const_picks names (k.Name text) place a h = absurd cc
const_picks names (k.Number value kind) place a h = absurd cc
const_picks names (k.Char value) place a h = absurd cc
const_picks names (k.Bytes bytes) place a h = absurd cc

abbrev const_form : Form Pos
const_form = single (keyword word.Const) always

const_exact : (more : ℕ) → Exact const_form more (one const_at)
const_exact more = one_exact (keyword word.Const) always const_at const_picks (λ names a g. refl) more

abbrev goes_const : State → Bool
goes_const i = is_const (peek i.1)

abbrev const_items : Items (Unit {0}) Pos
const_items = record {
  spell = const_form.spell;
  good = λ s. const_form.good;
  adds = const_form.adds;
  nest = const_form.nest;
  stop = const_form.stop;
  goes = λ s. goes_const;
  step = λ s x. tt;
}

no_const : (names : Names) → goes_const (names, []) ≡ false
unfolding peek
no_const names = refl

consts_kept : (more : ℕ) → Kept const_items more (λ s. one const_at)
consts_kept more = record {
  sound = λ s names ts x end go h. (const_exact more).sound names ts x end h;
  complete = λ s names x rest g n st. (const_exact more).complete names x rest g n st;
  starts = λ s names x rest g st. ap is_const (peek_first (keyword word.Const x) rest);
  ends = λ s names. no_const names;
  follows = λ s names x y rest g h st. tt;
  some = λ s names x g. omega arith;
}

consts_spelt : (xs : List Pos) → consts xs ≡ joined (map (λ a. keyword word.Const a ∷ []) xs)
consts_spelt [] = refl
consts_spelt (x ∷ xs) = ap (λ r. keyword word.Const x ∷ r) (consts_spelt xs)

consts_good : (names : Names) (xs : List Pos) → all_good const_items tt names xs
consts_good names [] = tt
consts_good names (x ∷ xs) = (tt, consts_good (names ++ []) xs)

consts_quiet : (names : Names) (xs : List Pos) → all_added const_items names xs ≡ []
consts_quiet names [] = refl
consts_quiet names (x ∷ xs) = consts_quiet (names ++ []) xs

consts_flat : (xs : List Pos) → deepest (map (λ l. 0) xs) ≡ 0
consts_flat [] = refl
consts_flat (x ∷ xs) = let e = consts_flat xs in omega arith

consts_stop : (xs : List Pos) (names : Names) (rest : Tokens) → goes_const (names, rest) ≡ false → all_stop const_items tt xs names rest
consts_stop [] names rest h = h
consts_stop (x ∷ xs) names rest h = stop_made const_items tt x xs names rest tt h

-- ---- a pointer

abbrev pointer_of : Pos × List Pos → Pointer
pointer_of t = record { star = t.0; constants = t.1 }

abbrev pointer_form : Form Pointer
pointer_form = item pointer_items tt

pointer_node : Node (pre (mark_form p.Star) (λ _. list const_items tt)) pointer_of pointer_form
pointer_node = record {
  good = λ names t g. tt;
  parts = λ names t g. (tt, consts_good names t.1);
  nested = λ t. sym (let e = consts_flat t.1 in omega arith);
  spelt = λ t. ap (λ l. punct p.Star t.0 ∷ l) (consts_spelt t.1);
  seen = λ names t. sym (consts_quiet names t.1);
  stop = λ names t behind rest g h. stop_goes const_items tt t.1 behind rest h;
  from_stop = λ names t behind rest g h. consts_stop t.1 behind rest h;
}

pub pointer_exact : (more : ℕ) → Exact pointer_form more pointer
unfolding pointer
pointer_exact more =
    whole_exact (Image pointer_of) pointer_form more pointer (λ names q g. ((q.star, q.constants), refl))
    (same_exact (only (Image pointer_of) pointer_form) more _ pointer (two (expect p.Star) (λ star. many goes_const (one const_at)) (λ star constants. record { star = star; constants = constants }))
    (node_exact (pre (mark_form p.Star) (λ _. list const_items tt)) pointer_of pointer_form more _
    (pre_exact (mark_form p.Star) (λ _. list const_items tt) more (expect p.Star) (λ star. many goes_const (one const_at)) (λ names a. refl) (expect_exact p.Star more)
    (λ _. list_exact const_items more (λ s. one const_at) (consts_kept more) tt) (λ names a b rest g h s. tt)) pointer_node))

no_star : (names : Names) → sees p.Star (names, []) ≡ false
unfolding peek
no_star names = refl

pub pointers_kept : (more : ℕ) → Kept pointer_items more (λ s. pointer)
pointers_kept more = record {
  sound = λ s names ts x end go h. (pointer_exact more).sound names ts x end h;
  complete = λ s names x rest g n st. (pointer_exact more).complete names x rest g n st;
  starts = λ s names x rest g st. sees_mark p.Star names x.star (consts x.constants ++ rest);
  ends = λ s names. no_star names;
  follows = λ s names x y rest g h st. ap is_const (peek_mark p.Star y.star (consts y.constants ++ rest));
  some = λ s names x g. omega arith;
}

pub pointers_exact : (more : ℕ) → Exact (list pointer_items tt) more pointers
unfolding pointers
pointers_exact more = list_exact pointer_items more (λ s. pointer) (pointers_kept more) tt

pub pointers_spelt : (qs : List Pointer) → pointers_spelling qs ≡ joined (map pointer_spelling qs)
pointers_spelt [] = refl
pointers_spelt (q ∷ qs) = ap (λ l. punct p.Star q.star ∷ (consts q.constants ++ l)) (pointers_spelt qs)

pub pointers_good : (names : Names) (qs : List Pointer) → all_good pointer_items tt names qs
pointers_good names [] = tt
pointers_good names (q ∷ qs) = (tt, pointers_good (names ++ []) qs)

pub pointers_quiet : (names : Names) (qs : List Pointer) → all_added pointer_items names qs ≡ []
pointers_quiet names [] = refl
pointers_quiet names (q ∷ qs) = pointers_quiet (names ++ []) qs

pub pointers_flat : (qs : List Pointer) → deepest (map (λ q. 0) qs) ≡ 0
pointers_flat [] = refl
pointers_flat (q ∷ qs) = let e = pointers_flat qs in omega arith
