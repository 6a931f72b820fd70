-- A token that goes on with a declarator begins a longer one.
use Rattle.std.specs.Prelude.{◌≡◌, ℕ, Bool, true, false, ◌&&◌, ◌||◌, List, [], ◌∷◌, ◌++◌, map, Some, refl}
use Rattle.std.proofs.Common.{ap, sym, ◌∙◌, subst, append_assoc, append-nil, ◌⊎◌, inl, inr}
use denote.Hole.Carrier.{out}
use Rattle.c_tree.specs.declared.token.Pos.{Pos}
use Rattle.c_tree.specs.declared.token.Punct.TheVariants as p
use Rattle.c_tree.specs.declared.token.Keyword.{Keyword}
use Rattle.c_tree.specs.declared.token.Keyword.TheVariants as word
use Rattle.c_tree.specs.declared.token.Token.{Token}
use Rattle.c_tree.specs.declared.token.TokenKind.{TokenKind}
use Rattle.c_tree.specs.declared.token.TokenKind.TheVariants as k
use Rattle.c_tree.specs.declared.expression.Identifier.{Identifier}
use Rattle.c_tree.specs.declared.declarator.Pointer.{Pointer}
use Rattle.c_tree.specs.declared.declarator.Declarator.{Declarator, roll-out-Declarator}
use Rattle.c_tree.specs.declared.declarator.Direct.{Direct, out-Direct}
use Rattle.c_tree.specs.declared.declarator.Direct.TheVariants as direct
use Rattle.c_tree.specs.declared.declarator.DeclaratorSuffix.{DeclaratorSuffix}
use Rattle.c_tree.specs.declared.declarator.DeclaratorSuffix.TheVariants as suffix
use Rattle.c_tree.specs.Spelling.Tokens.{token, punct, keyword, name as name_token, joined}
use Rattle.c_grammar.specs.Laws.Spelled.{consts}
use Rattle.c_tree.specs.Spelling.Trees.{declarator_spelling, direct_spelling, declarator_suffix_spelling, direct_spelling-Nothing, direct_spelling-Named, direct_spelling-Grouped, declarator_suffix_spelling-Array, declarator_suffix_spelling-Empty}
use Rattle.c_tree.specs.Levels.Names.{Names}
use Rattle.c_tree.specs.Levels.Facts.{Use, Declaring, Abstract, Parameter, declares}
use Rattle.c_tree.specs.Levels.Trees.{declarator_level, direct_level}
use Rattle.c_grammar.specs.Laws.Told.{direct_level-Nothing, declarator_suffix_level-Array, declarator_suffix_level-Empty}
use Rattle.c_grammar.specs.Input.{Tokens, peek, behind as behind_of, is_mark, sees}
use Rattle.c_grammar.specs.Read.Inner.{is_const}
use Rattle.c_grammar.specs.Read.Declarators.{takes_name, opens_declarator}
use Rattle.c_grammar.specs.Laws.Form.{Form}
use Rattle.c_grammar.specs.Laws.Lists.{all_added, all_stop, last_of, stop_goes, stop_last, stop_made}
use Rattle.c_grammar.specs.Laws.Cases.{DirectShape, direct_shape}
use Rattle.c_grammar.specs.Laws.Starts.{peek_first}
use Rattle.c_grammar.specs.Laws.Front.{Longer, Stops}
use Rattle.c_grammar.specs.Laws.Grow.{LongerItem, NewItem, LongerList, last_longer, another}
use Rattle.c_grammar.specs.Laws.GrowSpecifiers.{mark_kind}
use Rattle.c_grammar.specs.Laws.Forms.{pointer_spelling, pointer_items, nothing_stop, is_no_name, behind_items, parts_form, parts_of, declarator_form}
use Rattle.c_grammar.specs.Laws.Pointers.{pointers_quiet}
use Rattle.c_grammar.specs.Laws.Middle.{name_seen}
use Rattle.c_grammar.specs.Laws.Declarators.{declarator_of, declarator_good, declarator_parts, declarator_node}

token_is : (t : Token) (kind : TokenKind) → kind ≡ t.kind → token kind t.place ≡ t
token_is t kind e = ap (λ (d : TokenKind). token d t.place) e

-- ---- another suffix

abbrev sees_suffix : TokenKind → Bool
sees_suffix kind = is_mark p.LeftBracket (Some kind) || is_mark p.LeftParen (Some kind)

suffix_by : (names : Names) (t : Token) (b : Bool) → is_mark p.LeftBracket (Some t.kind) ≡ b → (b || is_mark p.LeftParen (Some t.kind)) ≡ true → NewItem behind_items tt names t
suffix_by names t true e h =
    record {
      item = suffix.Array t.place t.place;
      good = ap (λ f. (f names).0.good) (declarator_suffix_level-Array t.place t.place);
      tokens = _;
      spelt = declarator_suffix_spelling-Array t.place t.place ∙ ap (λ (u : Token). u ∷ (punct p.RightBracket t.place ∷ [])) (token_is t (k.Punct p.LeftBracket) (mark_kind p.LeftBracket t.kind e));
    }
suffix_by names t false e h =
    record {
      item = suffix.Empty t.place t.place;
      good = ap (λ f. (f names).0.good) (declarator_suffix_level-Empty t.place t.place);
      tokens = _;
      spelt = declarator_suffix_spelling-Empty t.place t.place ∙ ap (λ (u : Token). u ∷ (punct p.RightParen t.place ∷ [])) (token_is t (k.Punct p.LeftParen) (mark_kind p.LeftParen t.kind h));
    }

-- ---- longer pointers

consts_snoc : (xs : List Pos) (at : Pos) → consts (xs ++ at ∷ []) ≡ consts xs ++ keyword word.Const at ∷ []
consts_snoc [] at = refl
consts_snoc (x ∷ xs) at = ap (λ l. keyword word.Const x ∷ l) (consts_snoc xs at)

const_kind : (kind : TokenKind) → is_const (Some kind) ≡ true → k.Keyword word.Const ≡ kind
const_kind (k.Keyword key) h = ap k.Keyword (by key h) where
  by : (key : Keyword) → is_const (Some (k.Keyword key)) ≡ true → word.Const ≡ key
  by word.Const h = refl
  by _ h = absurd cc
const_kind (k.Punct op) h = absurd cc
const_kind (k.Name text) h = absurd cc
const_kind (k.Number value kind) h = absurd cc
const_kind (k.Char value) h = absurd cc
const_kind (k.Bytes bytes) h = absurd cc

pointer_longer : (names : Names) (q : Pointer) (t : Token) → is_const (Some t.kind) ≡ true → LongerItem pointer_items tt names q t
pointer_longer names q t e =
    record {
      item = record { star = q.star; constants = q.constants ++ t.place ∷ [] };
      good = tt;
      tokens = [];
      spelt = ap (λ l. punct p.Star q.star ∷ l) (consts_snoc q.constants t.place ∙ ap (λ (u : Token). consts q.constants ++ u ∷ []) (token_is t (k.Keyword word.Const) (const_kind t.kind e)));
    }

star_new : (names : Names) (t : Token) → is_mark p.Star (Some t.kind) ≡ true → NewItem pointer_items tt names t
star_new names t e = record { item = record { star = t.place; constants = [] }; good = tt; tokens = []; spelt = ap (λ (u : Token). u ∷ []) (token_is t (k.Punct p.Star) (mark_kind p.Star t.kind e)) }

-- ---- the name

name_kind : (purpose : Use) (typed : Bool) (names : Names) (kind : TokenKind) → takes_name purpose typed names (Some kind) ≡ true → (text : List ℕ) × (k.Name text ≡ kind)
name_kind Abstract typed names kind h = absurd cc
name_kind Declaring typed names (k.Name text) h = (text, refl)
name_kind Declaring typed names (k.Punct op) h = absurd cc
name_kind Declaring typed names (k.Keyword key) h = absurd cc
name_kind Declaring typed names (k.Number value kind) h = absurd cc
name_kind Declaring typed names (k.Char value) h = absurd cc
name_kind Declaring typed names (k.Bytes bytes) h = absurd cc
name_kind Parameter typed names (k.Name text) h = (text, refl)
name_kind Parameter typed names (k.Punct op) h = absurd cc
name_kind Parameter typed names (k.Keyword key) h = absurd cc
name_kind Parameter typed names (k.Number value kind) h = absurd cc
name_kind Parameter typed names (k.Char value) h = absurd cc
name_kind Parameter typed names (k.Bytes bytes) h = absurd cc

direct_tokens : {d : Direct} → DirectShape d → is_no_name d ≡ false → direct_spelling d ≡ [] → ⊥
unfolding is_no_name out-Direct out
direct_tokens DirectShape.a_nothing h e = absurd cc
direct_tokens (DirectShape.a_named id) h e = let n : ◌≡◌ {A = Tokens} [] (name_token id ∷ []) = sym e ∙ direct_spelling-Named id in absurd cc
direct_tokens (DirectShape.a_grouped from d to) h e = let n : ◌≡◌ {A = Tokens} [] (punct p.LeftParen from ∷ (declarator_spelling d ++ punct p.RightParen to ∷ [])) = sym e ∙ direct_spelling-Grouped from d to in absurd cc

direct_none : {d : Direct} → DirectShape d → is_no_name d ≡ true → direct.Nothing ≡ d
unfolding is_no_name out-Direct out
direct_none DirectShape.a_nothing h = refl
direct_none (DirectShape.a_named id) h = absurd cc
direct_none (DirectShape.a_grouped from d to) h = absurd cc

nothing_is_none : is_no_name direct.Nothing ≡ true
unfolding is_no_name out-Direct out
nothing_is_none = refl

no_suffix_end : (behind : Names) → (sees p.LeftBracket (behind, []) || sees p.LeftParen (behind, [])) ≡ false
unfolding peek
no_suffix_end behind = refl

stars_end : (stars : List Pointer) (behind : Names) → all_stop pointer_items tt stars behind []
unfolding peek
stars_end [] behind = refl
stars_end (q ∷ qs) behind = stop_made pointer_items tt q qs behind [] refl refl

ends_nowhere : (purpose : Use) (typed : Bool) (behind : Names) → nothing_stop true purpose typed behind []
unfolding peek
ends_nowhere Declaring typed behind = (refl, refl)
ends_nowhere Abstract typed behind = (refl, refl)
ends_nowhere Parameter typed behind = (refl, refl)

module _ (purpose : Use) (typed : Bool) where
  abbrev Parts : Type 0
  Parts = (List Pointer × Direct) × List DeclaratorSuffix

  abbrev P : Form Parts
  P = parts_form purpose typed

  -- longer parts make a longer declarator
  made : (names : Names) (a b : Parts) (t : Token) (tokens : Tokens) → P.good names b → P.spell b ≡ P.spell a ++ t ∷ tokens → Longer (declarator_form purpose typed) names (declarator_of a) t
  made names a b t tokens g e = record {
    tree = declarator_of b;
    good = declarator_good purpose typed names b g;
    tokens = tokens;
    spelt = (declarator_node purpose typed).spelt b ∙ e ∙ ap (λ l. l ++ t ∷ tokens) (sym ((declarator_node purpose typed).spelt a));
  }

  with_suffix : (names : Names) (stars : List Pointer) (d : Direct) (xs : List DeclaratorSuffix) (t : Token) → P.good names ((stars, d), xs) → sees_suffix t.kind ≡ true → Longer (declarator_form purpose typed) names (declarator_of ((stars, d), xs)) t
  with_suffix names stars d xs t g h =
      let front : Tokens = joined (map pointer_spelling stars) ++ direct_spelling d in
      let m = another behind_items tt (names ++ (all_added pointer_items names stars ++ (direct_level d (names ++ all_added pointer_items names stars)).1)) xs t g.1 (suffix_by _ t (is_mark p.LeftBracket (Some t.kind)) refl h) in
      made names ((stars, d), xs) ((stars, d), m.head ∷ m.tail) t m.tokens (g.0, m.good)
      (ap (λ l. front ++ l) m.spelt ∙ sym (append_assoc front (joined (map declarator_suffix_spelling xs)) (t ∷ m.tokens)))

  -- where nothing stands behind the pointers

  bare_spell : (stars : List Pointer) → P.spell ((stars, direct.Nothing), []) ≡ joined (map pointer_spelling stars)
  bare_spell stars = append-nil (joined (map pointer_spelling stars) ++ direct_spelling direct.Nothing) ∙ ap (λ l. joined (map pointer_spelling stars) ++ l) direct_spelling-Nothing ∙ append-nil (joined (map pointer_spelling stars))

  with_name : (names : Names) (stars : List Pointer) (t : Token) → P.good names ((stars, direct.Nothing), []) → takes_name purpose typed (names ++ all_added pointer_items names stars) (Some t.kind) ≡ true
      → Longer (declarator_form purpose typed) names (declarator_of ((stars, direct.Nothing), [])) t
  with_name names stars t g h =
      let names1 : Names = names ++ all_added pointer_items names stars in
      let w = name_kind purpose typed names1 t.kind h in
      let id : Identifier = record { text = w.0; place = t.place } in
      made names ((stars, direct.Nothing), []) ((stars, direct.Named id), []) t []
      ((g.0.0, name_seen purpose typed names1 id (subst (λ kind. takes_name purpose typed names1 (Some kind) ≡ true) (sym w.1) h)), tt)
      (append-nil (joined (map pointer_spelling stars) ++ direct_spelling (direct.Named id)) ∙ ap (λ l. joined (map pointer_spelling stars) ++ l) (direct_spelling-Named id ∙ ap (λ (u : Token). u ∷ []) (token_is t (k.Name w.0) w.1))
      ∙ ap (λ l. l ++ t ∷ []) (sym (bare_spell stars)))

  with_pointers : (names : Names) (stars : List Pointer) (t : Token) → P.good names ((stars, direct.Nothing), []) → LongerList pointer_items tt names stars t → Longer (declarator_form purpose typed) names (declarator_of ((stars, direct.Nothing), [])) t
  with_pointers names stars t g m =
      let same : names ++ all_added pointer_items names stars ≡ names ++ all_added pointer_items names (m.head ∷ m.tail) = ap (λ l. names ++ l) (pointers_quiet names stars ∙ sym (pointers_quiet names (m.head ∷ m.tail))) in
      made names ((stars, direct.Nothing), []) ((m.head ∷ m.tail, direct.Nothing), []) t m.tokens
      ((m.good, subst (λ n. declares purpose typed (direct_level direct.Nothing n).0 ≡ true) same g.0.1), tt)
      (bare_spell (m.head ∷ m.tail) ∙ m.spelt ∙ ap (λ l. l ++ t ∷ m.tokens) (sym (bare_spell stars)))

  no_suffix : (names : Names) (t : Token) (rest : Tokens) → sees_suffix t.kind ≡ false → (sees p.LeftBracket (names, t ∷ rest) || sees p.LeftParen (names, t ∷ rest)) ≡ false
  no_suffix names t rest h = ap (λ o. is_mark p.LeftBracket o || is_mark p.LeftParen o) (peek_first t rest) ∙ h

  or_right : (a b : Bool) → (a || b) ≡ false → b ≡ false
  or_right true b h = absurd cc
  or_right false b h = h

  bare_stop : (stars : List Pointer) (behind : Names) (t : Token) (rest : Tokens) → sees_suffix t.kind ≡ false → takes_name purpose typed behind (Some t.kind) ≡ false → all_stop pointer_items tt stars behind (t ∷ rest)
      → P.stop ((stars, direct.Nothing), []) behind (t ∷ rest)
  bare_stop stars behind t rest h n s = (
    (
      subst (λ b. nothing_stop b purpose typed behind (t ∷ rest)) (sym nothing_is_none) (
        ap (λ o. is_mark p.LeftParen o && opens_declarator purpose behind (peek (behind_of (t ∷ rest)))) (peek_first t rest) ∙ ap (λ b. b && opens_declarator purpose behind (peek (behind_of (t ∷ rest)))) (or_right (is_mark p.LeftBracket (Some t.kind)) (is_mark p.LeftParen (Some t.kind)) h),
        ap (takes_name purpose typed behind) (peek_first t rest) ∙ n,
      ),
      λ z. s,
    ),
    no_suffix behind t rest h,
  )

  -- pointers and nothing declare nothing
  star_names : (names : Names) (stars : List Pointer) → names ++ all_added pointer_items names stars ≡ names
  star_names names stars = ap (λ l. names ++ l) (pointers_quiet names stars) ∙ append-nil names

  bare_names : (names : Names) (stars : List Pointer) → names ++ P.adds names ((stars, direct.Nothing), []) ≡ names
  bare_names names stars =
      ap (λ l. names ++ l) (append-nil (all_added pointer_items names stars ++ (direct_level direct.Nothing (names ++ all_added pointer_items names stars)).1)
      ∙ ap (λ f. all_added pointer_items names stars ++ (f (names ++ all_added pointer_items names stars)).1) direct_level-Nothing ∙ append-nil (all_added pointer_items names stars))
      ∙ star_names names stars

  abbrev Answer : Names → Parts → Token → Tokens → Type 0
  Answer names a t rest = P.stop a (names ++ P.adds names a) (t ∷ rest) ⊎ Longer (declarator_form purpose typed) names (declarator_of a) t

  by_const : (names : Names) (stars : List Pointer) (t : Token) (rest : Tokens) (c : Bool) → P.good names ((stars, direct.Nothing), []) → sees_suffix t.kind ≡ false → takes_name purpose typed names (Some t.kind) ≡ false
      → is_mark p.Star (Some t.kind) ≡ false → is_const (Some t.kind) ≡ c → Answer names ((stars, direct.Nothing), []) t rest
  by_const names [] t rest c g h n s e =
      inl (bare_stop [] _ t rest h (subst (λ m. takes_name purpose typed m (Some t.kind) ≡ false) (sym (bare_names names [])) n) (ap (is_mark p.Star) (peek_first t rest) ∙ s))
  by_const names (q ∷ qs) t rest true g h n s e =
      inr (with_pointers names (q ∷ qs) t g (last_longer pointer_items tt names q qs t g.0.0 (λ u names go. pointer_longer names (last_of pointer_items q qs) t e)))
  by_const names (q ∷ qs) t rest false g h n s e =
      inl (bare_stop (q ∷ qs) _ t rest h (subst (λ m. takes_name purpose typed m (Some t.kind) ≡ false) (sym (bare_names names (q ∷ qs))) n)
      (stop_made pointer_items tt q qs _ (t ∷ rest) (ap is_const (peek_first t rest) ∙ e) (ap (is_mark p.Star) (peek_first t rest) ∙ s)))

  by_star : (names : Names) (stars : List Pointer) (t : Token) (rest : Tokens) (c : Bool) → P.good names ((stars, direct.Nothing), []) → sees_suffix t.kind ≡ false → takes_name purpose typed names (Some t.kind) ≡ false
      → is_mark p.Star (Some t.kind) ≡ c → Answer names ((stars, direct.Nothing), []) t rest
  by_star names stars t rest true g h n s = inr (with_pointers names stars t g (another pointer_items tt names stars t g.0.0 (star_new _ t s)))
  by_star names stars t rest false g h n s = by_const names stars t rest (is_const (Some t.kind)) g h n s refl

  by_name : (names : Names) (stars : List Pointer) (t : Token) (rest : Tokens) (c : Bool) → P.good names ((stars, direct.Nothing), []) → sees_suffix t.kind ≡ false → takes_name purpose typed names (Some t.kind) ≡ c
      → Answer names ((stars, direct.Nothing), []) t rest
  by_name names stars t rest true g h n = inr (with_name names stars t g (subst (λ m. takes_name purpose typed m (Some t.kind) ≡ true) (sym (star_names names stars)) n))
  by_name names stars t rest false g h n = by_star names stars t rest (is_mark p.Star (Some t.kind)) g h n refl

  by_direct : (names : Names) (stars : List Pointer) (d : Direct) (t : Token) (rest : Tokens) (c : Bool) → P.good names ((stars, d), []) → sees_suffix t.kind ≡ false → is_no_name d ≡ c → Answer names ((stars, d), []) t rest
  by_direct names stars d t rest true g h e =
      subst (λ d. P.good names ((stars, d), []) → Answer names ((stars, d), []) t rest) (direct_none (direct_shape d) e) (λ g. by_name names stars t rest (takes_name purpose typed names (Some t.kind)) g h refl) g
  by_direct names stars d t rest false g h e =
      inl ((subst (λ b. nothing_stop b purpose typed (names ++ P.adds names ((stars, d), [])) (t ∷ rest)) (sym e) tt, λ z. absurd (direct_tokens (direct_shape d) e z)), no_suffix (names ++ P.adds names ((stars, d), [])) t rest h)

  by_suffix : (names : Names) (stars : List Pointer) (d : Direct) (xs : List DeclaratorSuffix) (t : Token) (rest : Tokens) (c : Bool) → P.good names ((stars, d), xs) → sees_suffix t.kind ≡ c → Answer names ((stars, d), xs) t rest
  by_suffix names stars d xs t rest true g h = inr (with_suffix names stars d xs t g h)
  by_suffix names stars d [] t rest false g h = by_direct names stars d t rest (is_no_name d) g h refl
  by_suffix names stars d (x ∷ xs) t rest false g h = inl (stop_made behind_items tt x xs (names ++ P.adds names ((stars, d), x ∷ xs)) (t ∷ rest) tt (no_suffix names t rest h))

  -- of a declarator by its parts

  whole : (d : Declarator) → declarator_of (parts_of d) ≡ d
  whole d = roll-out-Declarator d

  good_parts : (names : Names) (d : Declarator) → declares purpose typed (declarator_level d names).0 ≡ true → P.good names (parts_of d)
  good_parts names d g = declarator_parts purpose typed names (parts_of d) (subst (λ d. declares purpose typed (declarator_level d names).0 ≡ true) (sym (whole d)) g)

  same_adds : (names : Names) (d : Declarator) → (declarator_level d names).1 ≡ P.adds names (parts_of d)
  same_adds names d = ap (λ d. (declarator_level d names).1) (sym (whole d)) ∙ (declarator_node purpose typed).seen names (parts_of d)

  grows : (names : Names) (d : Declarator) (t : Token) (rest : Tokens) → declares purpose typed (declarator_level d names).0 ≡ true
      → (declarator_form purpose typed).stop d (names ++ (declarator_level d names).1) (t ∷ rest) ⊎ Longer (declarator_form purpose typed) names d t
  grows names d t rest g = by (by_suffix names (parts_of d).0.0 (parts_of d).0.1 (parts_of d).1 t rest (sees_suffix t.kind) (good_parts names d g) refl) where
    by : Answer names (parts_of d) t rest → (declarator_form purpose typed).stop d (names ++ (declarator_level d names).1) (t ∷ rest) ⊎ Longer (declarator_form purpose typed) names d t
    by (inl s) = inl (subst (λ l. P.stop (parts_of d) (names ++ l) (t ∷ rest)) (sym (same_adds names d)) s)
    by (inr l) = inr (subst (λ d. Longer (declarator_form purpose typed) names d t) (whole d) l)

  -- the next token alone tells where a declarator stops

  pointers_next : (stars : List Pointer) (behind : Names) (t : Token) (a b : Tokens) → all_stop pointer_items tt stars behind (t ∷ a) → all_stop pointer_items tt stars behind (t ∷ b)
  pointers_next [] behind t a b h = ap (is_mark p.Star) (peek_first t b) ∙ sym (ap (is_mark p.Star) (peek_first t a)) ∙ h
  pointers_next (q ∷ qs) behind t a b h =
      stop_made pointer_items tt q qs behind (t ∷ b) (ap is_const (peek_first t b) ∙ sym (ap is_const (peek_first t a)) ∙ stop_last pointer_items tt q qs behind (t ∷ a) h)
      (ap (is_mark p.Star) (peek_first t b) ∙ sym (ap (is_mark p.Star) (peek_first t a)) ∙ stop_goes pointer_items tt (q ∷ qs) behind (t ∷ a) h)

  suffix_next : (behind : Names) (t : Token) (a b : Tokens) → (sees p.LeftBracket (behind, t ∷ a) || sees p.LeftParen (behind, t ∷ a)) ≡ false → (sees p.LeftBracket (behind, t ∷ b) || sees p.LeftParen (behind, t ∷ b)) ≡ false
  suffix_next behind t a b h = ap (λ o. is_mark p.LeftBracket o || is_mark p.LeftParen o) (peek_first t b) ∙ sym (ap (λ o. is_mark p.LeftBracket o || is_mark p.LeftParen o) (peek_first t a)) ∙ h

  nothing_next : (c : Bool) (behind : Names) (t : Token) (a b : Tokens) → (sees p.LeftBracket (behind, t ∷ b) || sees p.LeftParen (behind, t ∷ b)) ≡ false → nothing_stop c purpose typed behind (t ∷ a) → nothing_stop c purpose typed behind (t ∷ b)
  nothing_next true behind t a b h s = (
    ap (λ c. c && opens_declarator purpose behind (peek (behind_of (t ∷ b)))) (or_right (sees p.LeftBracket (behind, t ∷ b)) (sees p.LeftParen (behind, t ∷ b)) h),
    ap (takes_name purpose typed behind) (peek_first t b) ∙ sym (ap (takes_name purpose typed behind) (peek_first t a)) ∙ s.1,
  )
  nothing_next false behind t a b h s = tt

  next_only : (stars : List Pointer) (d : Direct) (xs : List DeclaratorSuffix) (behind : Names) (t : Token) (a b : Tokens) → P.stop ((stars, d), xs) behind (t ∷ a) → P.stop ((stars, d), xs) behind (t ∷ b)
  next_only stars d [] behind t a b h =
      let n = suffix_next behind t a b h.1 in
      ((nothing_next (is_no_name d) behind t a b n h.0.0, λ z. pointers_next stars behind t a b (h.0.1 z)), n)
  next_only stars d (x ∷ xs) behind t a b h = stop_made behind_items tt x xs behind (t ∷ b) tt (suffix_next behind t a b (stop_goes behind_items tt (x ∷ xs) behind (t ∷ a) h))

  nothing_end : (c : Bool) (behind : Names) → nothing_stop c purpose typed behind []
  nothing_end true behind = ends_nowhere purpose typed behind
  nothing_end false behind = tt

  at_end : (stars : List Pointer) (d : Direct) (xs : List DeclaratorSuffix) (behind : Names) → P.stop ((stars, d), xs) behind []
  at_end stars d [] behind = ((nothing_end (is_no_name d) behind, λ z. stars_end stars behind), no_suffix_end behind)
  at_end stars d (x ∷ xs) behind = stop_made behind_items tt x xs behind [] tt (no_suffix_end behind)

  pub declarator_stops : Stops (declarator_form purpose typed)
  declarator_stops = record {
    next = λ names d behind t a b g h. next_only (parts_of d).0.0 (parts_of d).0.1 (parts_of d).1 behind t a b h;
    end = λ names d behind g. at_end (parts_of d).0.0 (parts_of d).0.1 (parts_of d).1 behind;
    grows = grows;
  }
