-- Specifiers are read exactly (C11 6.7.1 to 6.7.3).
use Rattle.std.specs.Prelude.{◌≡◌, ℕ, ◌<◌, Bool, true, false, not, ◌&&◌, ◌||◌, if◌then◌else◌, List, [], ◌∷◌, ◌++◌, length, map, Option, Some, None, is_some, refl}
use Rattle.std.proofs.Common.{ap, sym, ◌∙◌, subst, cond, arith, append_assoc, append-nil, ◌⊎◌, inl, inr}
use denote.Hole.Carrier.{out}
use Rattle.c_tree.specs.declared.token.Pos.{Pos}
use Rattle.c_tree.specs.declared.token.Punct.TheVariants as p
use Rattle.c_tree.specs.declared.token.Keyword.{Keyword}
use Rattle.c_tree.specs.declared.token.Keyword.TheVariants as word
use Rattle.c_tree.specs.declared.token.Token.{Token}
use Rattle.c_tree.specs.declared.token.TokenKind.{TokenKind}
use Rattle.c_tree.specs.declared.token.TokenKind.TheVariants as k
use Rattle.c_tree.specs.declared.expression.Identifier.{Identifier}
use Rattle.c_tree.specs.declared.specifier.Specifier.{Specifier, out-Specifier}
use Rattle.c_tree.specs.declared.specifier.Specifier.TheVariants as specifier
use Rattle.c_tree.specs.declared.specifier.Storage.{Storage}
use Rattle.c_tree.specs.declared.specifier.Storage.TheVariants as storage
use Rattle.c_tree.specs.declared.specifier.TypeWord.{TypeWord}
use Rattle.c_tree.specs.declared.specifier.TypeWord.TheVariants as type
use Rattle.c_tree.specs.declared.specifier.Member.{Member}
use Rattle.c_tree.specs.declared.specifier.Enumerator.{Enumerator, out-Enumerator}
use Rattle.c_tree.specs.Spelling.Tokens.{token, punct, keyword, name as name_token, comma_at, joined, storage_word, type_word}
use Rattle.c_tree.specs.Spelling.Trees.{specifier_spelling, enumerator_spelling, specifier_spelling-Storage, specifier_spelling-Const, specifier_spelling-Word, specifier_spelling-StructTag, specifier_spelling-Struct, specifier_spelling-EnumTag, specifier_spelling-Enum, specifier_spelling-TypedefName}
use Rattle.c_tree.specs.Levels.Names.{Names, is_typedef_name, in_row}
use Rattle.c_tree.specs.Levels.Facts.{Use, all_good as all_true, rest_listed}
use Rattle.c_tree.specs.Levels.OfTrees.{kind_of_word}
use Rattle.c_tree.specs.Levels.Trees.{specifier_level, member_level, enumerator_level}
use Rattle.c_grammar.specs.Laws.Tests.{and_false}
use Rattle.c_grammar.specs.Laws.Told.{specifier_level-Storage, specifier_level-Const, specifier_level-Word, specifier_level-StructTag, specifier_level-Struct, specifier_level-EnumTag, specifier_level-Enum, specifier_level-TypedefName}
use Rattle.c_tree.specs.Levels.Productions.{conditional}
use Rattle.c_tree.specs.Nesting.Trees.{specifier_nesting, member_nesting, specifier_nesting-Storage, specifier_nesting-Const, specifier_nesting-Word, specifier_nesting-StructTag, specifier_nesting-Struct, specifier_nesting-EnumTag, specifier_nesting-Enum, specifier_nesting-TypedefName}
use Rattle.c_grammar.specs.Input.{Tokens, State, Parser, ◌>>=◌, pure, choose, peek, is_mark, is_name, sees, one, expect, identifier, opening, many, many_by}
use Rattle.c_grammar.specs.Read.Nodes.{is_type}
use Rattle.c_grammar.specs.Read.Inner.{Inner, is_struct, is_enum, begins_specifier}
use Rattle.c_grammar.specs.Read.Specifiers.{struct_at, enum_at, plain_at, goes_enumerator, optional_comma, member, goes_member, struct_body, struct_tagged, struct_specifier, one_enumerator, next_enumerator, enum_body, enum_tagged, enum_specifier, one_specifier, goes_specifier, types, specifiers}
use Rattle.c_grammar.specs.Laws.Form.{Form, Exact, Node, Image, Joint, Split, only, both, map_to, node_exact, joint_exact, same_exact, choose_exact, whole_exact, two, four, five_pair, bind_same, choose_same, choose_map, either, either_exact, either_guarded, without, without_guarded}
use Rattle.c_grammar.specs.Laws.Lists.{Kept, item, all_good, all_stop, chain, chain_exact, added_in_row}
use Rattle.c_grammar.specs.Laws.Single.{single, one_exact, always, MadeOf, OneToken, pick_exact, name_form, identifier_exact, sees_mark}
use Rattle.c_grammar.specs.Laws.Rows.{pre, pre_exact, deeper}
use Rattle.c_grammar.specs.Laws.Cases.{SpecifierShape, specifier_shape}
use Rattle.c_grammar.specs.Laws.Behind.{expr_form, both_true, both_are, peek_mark}
use Rattle.c_grammar.specs.Laws.Starts.{peek_first}
use Rattle.c_grammar.specs.Laws.Postfix.{deep_list}
use Rattle.c_grammar.specs.Laws.Forms.{kind_good, is_storing, is_tag, specifier_items, specifiers_form, declarator_form}
use Rattle.c_grammar.specs.Laws.SpecifierStarts.{specifier_starts, starts_seen}
use Rattle.c_grammar.specs.Laws.Enumerators.{layer_comma, comma_told, enumerator_items, enum_body_form, enum_body_exact, layer_nest, enumerator_deep}
use Rattle.c_grammar.specs.Laws.Members.{member_items, struct_body_form, struct_body_exact}

abbrev pub one_form : Bool → Bool → Form Specifier
one_form w typed = item (specifier_items w) typed

or_true : (b : Bool) → (b || true) ≡ true
or_true true = refl
or_true false = refl

-- ---- specifiers of one token

abbrev pub IsPlain : Specifier → Type 0
IsPlain x = Image (λ (t : Storage × Pos). specifier.Storage t.0 t.1) x ⊎ (Image specifier.Const x ⊎ (Image (λ (t : TypeWord × Pos). specifier.Word t.0 t.1) x ⊎ Image specifier.TypedefName x))

storage_no_tag : (st : Storage) (at : Pos) (b : Bool) → (is_tag (specifier.Storage st at) && b) ≡ false
unfolding is_tag out-Specifier out
storage_no_tag st at b = refl

const_no_tag : (at : Pos) (b : Bool) → (is_tag (specifier.Const at) && b) ≡ false
unfolding is_tag out-Specifier out
const_no_tag at b = refl

word_no_tag : (t : TypeWord) (at : Pos) (b : Bool) → (is_tag (specifier.Word t at) && b) ≡ false
unfolding is_tag out-Specifier out
word_no_tag t at b = refl

typedef_no_tag : (id : Identifier) (b : Bool) → (is_tag (specifier.TypedefName id) && b) ≡ false
unfolding is_tag out-Specifier out
typedef_no_tag id b = refl

word_good : (typed : Bool) (t : TypeWord) → kind_good typed (kind_of_word t) ≡ true
word_good typed type.Void = refl
word_good typed _ = refl

word_storing : (t : TypeWord) → is_storing (kind_of_word t) ≡ false
word_storing type.Void = refl
word_storing _ = refl

module _ (w typed : Bool) (names : Names) where
  made_storage : (st : Storage) (place : Pos) (a : Specifier) → w ≡ true → specifier.Storage st place ≡ a → IsPlain a × MadeOf (one_form w typed) names (k.Keyword (storage_word st)) place a
  made_storage st place a e q =
      subst (λ a. IsPlain a × MadeOf (one_form w typed) names (k.Keyword (storage_word st)) place a) q (
        inl ((st, place), refl),
        record {
          good = (ap (λ f. kind_good typed (f names).0) (specifier_level-Storage st place), ap (λ b. b || not (is_storing (specifier_level (specifier.Storage st place) names).0)) e);
          spelt = specifier_spelling-Storage st place;
          seen = ap (λ f. (f names).1) (specifier_level-Storage st place);
          nested = specifier_nesting-Storage st place;
          stops = λ n rest. storage_no_tag st place _;
        },
      )

  made_const : (place : Pos) (a : Specifier) → specifier.Const place ≡ a → IsPlain a × MadeOf (one_form w typed) names (k.Keyword word.Const) place a
  made_const place a q =
      subst (λ a. IsPlain a × MadeOf (one_form w typed) names (k.Keyword word.Const) place a) q (
        inr (inl (place, refl)),
        record {
          good = (ap (λ f. kind_good typed (f names).0) (specifier_level-Const place), ap (λ f. w || not (is_storing (f names).0)) (specifier_level-Const place) ∙ or_true w);
          spelt = specifier_spelling-Const place;
          seen = ap (λ f. (f names).1) (specifier_level-Const place);
          nested = specifier_nesting-Const place;
          stops = λ n rest. const_no_tag place _;
        },
      )

  made_word : (t : TypeWord) (place : Pos) (a : Specifier) → specifier.Word t place ≡ a → IsPlain a × MadeOf (one_form w typed) names (k.Keyword (type_word t)) place a
  made_word t place a q =
      subst (λ a. IsPlain a × MadeOf (one_form w typed) names (k.Keyword (type_word t)) place a) q (
        inr (inr (inl ((t, place), refl))),
        record {
          good = (ap (λ f. kind_good typed (f names).0) (specifier_level-Word t place) ∙ word_good typed t, ap (λ f. w || not (is_storing (f names).0)) (specifier_level-Word t place) ∙ ap (λ b. w || not b) (word_storing t) ∙ or_true w);
          spelt = specifier_spelling-Word t place;
          seen = ap (λ f. (f names).1) (specifier_level-Word t place);
          nested = specifier_nesting-Word t place;
          stops = λ n rest. word_no_tag t place _;
        },
      )

  made_typedef : (id : Identifier) (a : Specifier) → (is_typedef_name names id.text && not typed) ≡ true → specifier.TypedefName id ≡ a → IsPlain a × MadeOf (one_form w typed) names (k.Name id.text) id.place a
  made_typedef id a e q =
      subst (λ a. IsPlain a × MadeOf (one_form w typed) names (k.Name id.text) id.place a) q (
        inr (inr (inr (id, refl))),
        record {
          good = (ap (λ f. kind_good typed (f names).0) (specifier_level-TypedefName id) ∙ e, ap (λ f. w || not (is_storing (f names).0)) (specifier_level-TypedefName id) ∙ or_true w);
          spelt = specifier_spelling-TypedefName id;
          seen = ap (λ f. (f names).1) (specifier_level-TypedefName id);
          nested = specifier_nesting-TypedefName id;
          stops = λ n rest. typedef_no_tag id _;
        },
      )

some_is : {A : Type 0} (a b : A) → ◌≡◌ {A = Option A} (Some a) (Some b) → a ≡ b
some_is a b h = cc

-- a storage word, where they may stand
storage_made : (w typed : Bool) (names : Names) (st : Storage) (place : Pos) (a : Specifier) → plain_at w typed names (k.Keyword (storage_word st)) place ≡ Some a → IsPlain a × MadeOf (one_form w typed) names (k.Keyword (storage_word st)) place a
storage_made true typed names storage.Typedef place a h = made_storage true typed names storage.Typedef place a refl (some_is _ _ h)
storage_made true typed names storage.Extern place a h = made_storage true typed names storage.Extern place a refl (some_is _ _ h)
storage_made true typed names storage.Static place a h = made_storage true typed names storage.Static place a refl (some_is _ _ h)
storage_made true typed names storage.Auto place a h = made_storage true typed names storage.Auto place a refl (some_is _ _ h)
storage_made true typed names storage.Register place a h = made_storage true typed names storage.Register place a refl (some_is _ _ h)
storage_made false typed names storage.Typedef place a h = absurd cc
storage_made false typed names storage.Extern place a h = absurd cc
storage_made false typed names storage.Static place a h = absurd cc
storage_made false typed names storage.Auto place a h = absurd cc
storage_made false typed names storage.Register place a h = absurd cc

key_made : (w typed : Bool) (names : Names) (key : Keyword) (place : Pos) (a : Specifier) → plain_at w typed names (k.Keyword key) place ≡ Some a → IsPlain a × MadeOf (one_form w typed) names (k.Keyword key) place a
key_made w typed names word.Const place a h = made_const w typed names place a (some_is _ _ h)
key_made w typed names word.Void place a h = made_word w typed names type.Void place a (some_is _ _ h)
key_made w typed names word.Char place a h = made_word w typed names type.Char place a (some_is _ _ h)
key_made w typed names word.Short place a h = made_word w typed names type.Short place a (some_is _ _ h)
key_made w typed names word.Int place a h = made_word w typed names type.Int place a (some_is _ _ h)
key_made w typed names word.Long place a h = made_word w typed names type.Long place a (some_is _ _ h)
key_made w typed names word.Signed place a h = made_word w typed names type.Signed place a (some_is _ _ h)
key_made w typed names word.Unsigned place a h = made_word w typed names type.Unsigned place a (some_is _ _ h)
key_made w typed names word.Bool place a h = made_word w typed names type.Bool place a (some_is _ _ h)
key_made w typed names word.Typedef place a h = storage_made w typed names storage.Typedef place a h
key_made w typed names word.Extern place a h = storage_made w typed names storage.Extern place a h
key_made w typed names word.Static place a h = storage_made w typed names storage.Static place a h
key_made w typed names word.Auto place a h = storage_made w typed names storage.Auto place a h
key_made w typed names word.Register place a h = storage_made w typed names storage.Register place a h
key_made true typed names _ place a h = absurd cc
key_made false typed names _ place a h = absurd cc

swapped : (a b : Bool) → (not b && a) ≡ true → (a && not b) ≡ true
swapped a true h = absurd cc
swapped true false h = refl
swapped false false h = absurd cc

name_by : (w typed : Bool) (names : Names) (text : List ℕ) (place : Pos) (a : Specifier) (b : Bool) → (not typed && is_typedef_name names text) ≡ b
    → (if b then Some (specifier.TypedefName (record { text = text; place = place })) else None) ≡ Some a → IsPlain a × MadeOf (one_form w typed) names (k.Name text) place a
name_by w typed names text place a true e h = made_typedef w typed names (record { text = text; place = place }) a (swapped (is_typedef_name names text) typed e) (some_is _ _ h)
name_by w typed names text place a false e h = absurd cc

pub plain_made : (w typed : Bool) (names : Names) (kind : TokenKind) (place : Pos) (a : Specifier) → plain_at w typed names kind place ≡ Some a → IsPlain a × MadeOf (one_form w typed) names kind place a
plain_made w typed names (k.Keyword key) place a h = key_made w typed names key place a h
plain_made w typed names (k.Name text) place a h = name_by w typed names text place a (not typed && is_typedef_name names text) refl h
plain_made w typed names (k.Punct op) place a h = absurd cc
plain_made w typed names (k.Number value kind) place a h = absurd cc
plain_made w typed names (k.Char value) place a h = absurd cc
plain_made w typed names (k.Bytes bytes) place a h = absurd cc

storage_picked : (w typed : Bool) (names : Names) (st : Storage) (at : Pos) → (w || false) ≡ true → plain_at w typed names (k.Keyword (storage_word st)) at ≡ Some (specifier.Storage st at)
storage_picked true typed names storage.Typedef at h = refl
storage_picked true typed names _ at h = refl
storage_picked false typed names st at h = absurd cc

word_picked : (w typed : Bool) (names : Names) (t : TypeWord) (at : Pos) → plain_at w typed names (k.Keyword (type_word t)) at ≡ Some (specifier.Word t at)
word_picked w typed names type.Void at = refl
word_picked w typed names _ at = refl

unswapped : (a b : Bool) → (a && not b) ≡ true → (not b && a) ≡ true
unswapped true b h = both_are (not b) true h refl
unswapped false b h = absurd cc

plain_taken : (w typed : Bool) (names : Names) (a : Specifier) → IsPlain a → (one_form w typed).good names a → OneToken (one_form w typed) (plain_at w typed) names a
plain_taken w typed names a (inl i) g =
    subst (λ a. (one_form w typed).good names a → OneToken (one_form w typed) (plain_at w typed) names a) i.1 (λ g. record {
      kind = k.Keyword (storage_word i.0.0);
      place = i.0.1;
      spelt = specifier_spelling-Storage i.0.0 i.0.1;
      seen = ap (λ f. (f names).1) (specifier_level-Storage i.0.0 i.0.1);
      picked = storage_picked w typed names i.0.0 i.0.1 (sym (ap (λ f. w || not (is_storing (f names).0)) (specifier_level-Storage i.0.0 i.0.1)) ∙ g.1);
    }) g
plain_taken w typed names a (inr (inl i)) g =
    subst (λ a. OneToken (one_form w typed) (plain_at w typed) names a) i.1 (record {
      kind = k.Keyword word.Const;
      place = i.0;
      spelt = specifier_spelling-Const i.0;
      seen = ap (λ f. (f names).1) (specifier_level-Const i.0);
      picked = refl;
    })
plain_taken w typed names a (inr (inr (inl i))) g =
    subst (λ a. OneToken (one_form w typed) (plain_at w typed) names a) i.1 (record {
      kind = k.Keyword (type_word i.0.0);
      place = i.0.1;
      spelt = specifier_spelling-Word i.0.0 i.0.1;
      seen = ap (λ f. (f names).1) (specifier_level-Word i.0.0 i.0.1);
      picked = word_picked w typed names i.0.0 i.0.1;
    })
plain_taken w typed names a (inr (inr (inr i))) g =
    let id : Identifier = i.0 in
    subst (λ a. (one_form w typed).good names a → OneToken (one_form w typed) (plain_at w typed) names a) i.1 (λ g. record {
      kind = k.Name id.text;
      place = id.place;
      spelt = specifier_spelling-TypedefName id;
      seen = ap (λ f. (f names).1) (specifier_level-TypedefName id);
      picked = ap (λ b. cond b (Some (specifier.TypedefName id)) None) (unswapped (is_typedef_name names id.text) typed (sym (ap (λ f. kind_good typed (f names).0) (specifier_level-TypedefName id)) ∙ g.0));
    }) g

plain_exact : (w typed : Bool) (more : ℕ) → Exact (only IsPlain (one_form w typed)) more (one (plain_at w typed))
plain_exact w typed more = pick_exact (one_form w typed) IsPlain (plain_at w typed) (plain_made w typed) (plain_taken w typed) more

-- ---- structs

struct_key : (names : Names) (key : Keyword) (place a : Pos) → struct_at names (k.Keyword key) place ≡ Some a → (keyword word.Struct a ≡ token (k.Keyword key) place) × Unit {0}
struct_key names word.Struct place a h = let e : place ≡ a = cc in (ap (keyword word.Struct) (sym e), tt)
struct_key names _ place a h = absurd cc

struct_picks : (names : Names) (kind : TokenKind) (place a : Pos) → struct_at names kind place ≡ Some a → (keyword word.Struct a ≡ token kind place) × Unit {0}
struct_picks names (k.Keyword key) place a h = struct_key names key place a h
struct_picks names (k.Punct op) place a h = absurd cc
struct_picks names (k.Name text) place a h = absurd cc
struct_picks names (k.Number value kind) place a h = absurd cc
struct_picks names (k.Char value) place a h = absurd cc
struct_picks names (k.Bytes bytes) place a h = absurd cc

enum_key : (names : Names) (key : Keyword) (place a : Pos) → enum_at names (k.Keyword key) place ≡ Some a → (keyword word.Enum a ≡ token (k.Keyword key) place) × Unit {0}
enum_key names word.Enum place a h = let e : place ≡ a = cc in (ap (keyword word.Enum) (sym e), tt)
enum_key names _ place a h = absurd cc

enum_picks : (names : Names) (kind : TokenKind) (place a : Pos) → enum_at names kind place ≡ Some a → (keyword word.Enum a ≡ token kind place) × Unit {0}
enum_picks names (k.Keyword key) place a h = enum_key names key place a h
enum_picks names (k.Punct op) place a h = absurd cc
enum_picks names (k.Name text) place a h = absurd cc
enum_picks names (k.Number value kind) place a h = absurd cc
enum_picks names (k.Char value) place a h = absurd cc
enum_picks names (k.Bytes bytes) place a h = absurd cc

-- a word, and a tag with braces behind it or without, or braces
abbrev tagged_form : {B : Type 0} → Keyword → Form B → Form (Pos × ((Identifier × (B ⊎ Unit {0})) ⊎ B))
tagged_form key body = pre (single (keyword key) always) (λ at. either (pre name_form (λ tag. either body (without (sees p.LeftBrace)))) body)

abbrev tagged_reader : {B : Type 0} → Parser Pos → Parser B → Parser (Pos × ((Identifier × (B ⊎ Unit {0})) ⊎ B))
tagged_reader word body = both word (λ at. choose (λ i. is_name (peek i.1)) (map_to (both identifier (λ tag. choose (sees p.LeftBrace) (map_to body inl) (map_to (pure tt) inr))) inl) (map_to body inr))

tagged_exact : {B : Type 0} (key : Keyword) (pick : Names → TokenKind → Pos → Option Pos) (body : Form B) (more : ℕ) (reads : Parser B) → Exact (single (keyword key) always) more (one pick) → Exact body more reads
    → ((names : Names) (b : B) (rest : Tokens) → (from : Pos) × (ts : Tokens) × (body.spell b ++ rest ≡ punct p.LeftBrace from ∷ ts)) → Exact (tagged_form key body) more (tagged_reader (one pick) reads)
tagged_exact key pick body more reads word exact opens =
    pre_exact (single (keyword key) always) (λ at. either (pre name_form (λ tag. either body (without (sees p.LeftBrace)))) body) more (one pick) _ (λ names a. refl) word
    (λ at. either_exact (pre name_form (λ tag. either body (without (sees p.LeftBrace)))) body more (λ i. is_name (peek i.1)) _ reads
    (pre_exact name_form (λ tag. either body (without (sees p.LeftBrace))) more identifier _ (λ names a. refl) (identifier_exact more)
    (λ tag. either_guarded body (without (sees p.LeftBrace)) more (sees p.LeftBrace) reads (pure tt) exact (without_guarded (sees p.LeftBrace) more)
    (λ names b rest g s. let o = opens names b rest in ap (λ l. sees p.LeftBrace (names, l)) o.2 ∙ sees_mark p.LeftBrace names o.0 o.1)
    (λ names u rest g s. subst (λ n. sees p.LeftBrace (n, rest) ≡ false) (append-nil names) s))
    (λ names a b rest g h s. tt))
    exact
    (λ names t rest g s. ap is_name (peek_first (name_token t.0) _))
    (λ names b rest g s. let o = opens names b rest in ap (λ l. is_name (peek l)) o.2 ∙ ap is_name (peek_mark p.LeftBrace o.0 o.1)))
    (λ names a b rest g h s. tt)

-- what a specifier with braces or a tag is made of
tagged_is : {B : Type 0} (word : Parser Pos) (body : Parser B) (f : Pos → (Identifier × (B ⊎ Unit {0})) ⊎ B → Specifier) (i : State)
    → (word >>= (λ at. choose (λ i. is_name (peek i.1)) (identifier >>= (λ tag. choose (sees p.LeftBrace) (map_to body (λ b. f at (inl (tag, inl b)))) (pure (f at (inl (tag, inr tt)))))) (map_to body (λ b. f at (inr b))))) i
    ≡ map_to (tagged_reader word body) (λ t. f t.0 t.1) i
tagged_is {B} word body f i =
    let inside : Identifier → Parser (B ⊎ Unit {0}) = λ tag. choose (sees p.LeftBrace) (map_to body inl) (map_to (pure tt) inr) in
    let tail : Pos → Parser ((Identifier × (B ⊎ Unit {0})) ⊎ B) = λ at. choose (λ i. is_name (peek i.1)) (map_to (both identifier inside) inl) (map_to body inr) in
    bind_same word _ (λ at. tail at >>= (λ u. pure (f at u)))
    (λ at j. choose_same (λ i. is_name (peek i.1)) _ (map_to body (λ b. f at (inr b))) (map_to (both identifier inside) (λ t. f at (inl t))) (map_to body (λ b. f at (inr b)))
    (λ j. bind_same identifier _ (λ tag. inside tag >>= (λ u. pure (f at (inl (tag, u))))) (λ tag j. choose_map (sees p.LeftBrace) body (pure tt) (λ u. f at (inl (tag, u))) j) j
    ∙ two identifier inside (λ tag u. f at (inl (tag, u))) j)
    (λ j. refl) j
    ∙ choose_map (λ i. is_name (peek i.1)) (both identifier inside) body (f at) j) i
    ∙ two word tail f i

-- ---- a struct, by its tag, its members or both

abbrev StructBody : Type 0
StructBody = ((Pos × Member) × List Member) × Pos

abbrev struct_by : Pos → (Identifier × (StructBody ⊎ Unit {0})) ⊎ StructBody → Specifier
struct_by at (inl (tag, inl b)) = specifier.Struct at (Some tag) b.0.0.0 (b.0.0.1 ∷ b.0.1) b.1
struct_by at (inl (tag, inr u)) = specifier.StructTag at tag
struct_by at (inr b) = specifier.Struct at None b.0.0.0 (b.0.0.1 ∷ b.0.1) b.1

abbrev StructTail : Type 0
StructTail = (Identifier × (StructBody ⊎ Unit {0})) ⊎ StructBody

abbrev struct_form : Form (Pos × StructTail)
struct_form = tagged_form word.Struct struct_body_form

abbrev struct_of : Pos × StructTail → Specifier
struct_of t = struct_by t.0 t.1

members_told : (names : Names) (xs : List Member) → all_good member_items tt names xs → all_true (in_row (map member_level xs) names).0 ≡ true
members_told names [] g = refl
members_told names (x ∷ xs) g = both_are _ _ g.0 (members_told (names ++ (member_level x names).1) xs g.1)

members_are : (names : Names) (xs : List Member) → all_true (in_row (map member_level xs) names).0 ≡ true → all_good member_items tt names xs
members_are names [] h = tt
members_are names (x ∷ xs) h = let b = both_true (member_level x names).0 _ h in (b.0, members_are (names ++ (member_level x names).1) xs b.1)

struct_told : (w typed : Bool) (names : Names) (at : Pos) (tag : Option Identifier) (b : StructBody) → struct_body_form.good names b → (one_form w typed).good names (specifier.Struct at tag b.0.0.0 (b.0.0.1 ∷ b.0.1) b.1)
struct_told w typed names at tag b g = (
  ap (λ f. kind_good typed (f names).0) (specifier_level-Struct at tag b.0.0.0 (b.0.0.1 ∷ b.0.1) b.1) ∙ both_are _ _ g.0.0.1 (members_told (names ++ (member_level b.0.0.1 names).1) b.0.1 g.0.1),
  ap (λ f. w || not (is_storing (f names).0)) (specifier_level-Struct at tag b.0.0.0 (b.0.0.1 ∷ b.0.1) b.1) ∙ or_true w,
)

told_struct : (w typed : Bool) (names : Names) (at : Pos) (tag : Option Identifier) (b : StructBody) → (one_form w typed).good names (specifier.Struct at tag b.0.0.0 (b.0.0.1 ∷ b.0.1) b.1) → struct_body_form.good names b
told_struct w typed names at tag b g =
    let c = both_true (member_level b.0.0.1 names).0 _ (sym (ap (λ f. kind_good typed (f names).0) (specifier_level-Struct at tag b.0.0.0 (b.0.0.1 ∷ b.0.1) b.1)) ∙ g.0) in
    (((tt, c.0), members_are (names ++ (member_level b.0.0.1 names).1) b.0.1 c.1), tt)

struct_good : (w typed : Bool) (names : Names) (at : Pos) (u : StructTail) → struct_form.good names (at, u) → (one_form w typed).good names (struct_by at u)
struct_good w typed names at (inl (tag, inl b)) g = struct_told w typed names at (Some tag) b g.1.1
struct_good w typed names at (inl (tag, inr u)) g =
    (ap (λ f. kind_good typed (f names).0) (specifier_level-StructTag at tag), ap (λ f. w || not (is_storing (f names).0)) (specifier_level-StructTag at tag) ∙ or_true w)
struct_good w typed names at (inr b) g = struct_told w typed names at None b g.1

struct_parts : (w typed : Bool) (names : Names) (at : Pos) (u : StructTail) → (one_form w typed).good names (struct_by at u) → struct_form.good names (at, u)
struct_parts w typed names at (inl (tag, inl b)) g = (tt, (tt, told_struct w typed names at (Some tag) b g))
struct_parts w typed names at (inl (tag, inr u)) g = (tt, (tt, tt))
struct_parts w typed names at (inr b) g = (tt, told_struct w typed names at None b g)

struct_deep : (at : Pos) (tag : Option Identifier) (b : StructBody) → specifier_nesting (specifier.Struct at tag b.0.0.0 (b.0.0.1 ∷ b.0.1) b.1) ≡ struct_body_form.nest b
struct_deep at tag b =
    specifier_nesting-Struct at tag b.0.0.0 (b.0.0.1 ∷ b.0.1) b.1 ∙ (let e = deep_list member_nesting (member_nesting b.0.0.1) b.0.1 in omega arith)

struct_nested : (at : Pos) (u : StructTail) → specifier_nesting (struct_by at u) ≡ struct_form.nest (at, u)
struct_nested at (inl (tag, inl b)) = struct_deep at (Some tag) b ∙ omega arith
struct_nested at (inl (tag, inr u)) = specifier_nesting-StructTag at tag ∙ omega arith
struct_nested at (inr b) = struct_deep at None b ∙ omega arith

struct_spelt : (at : Pos) (u : StructTail) → specifier_spelling (struct_by at u) ≡ struct_form.spell (at, u)
struct_spelt at (inl (tag, inl b)) = specifier_spelling-Struct at (Some tag) b.0.0.0 (b.0.0.1 ∷ b.0.1) b.1
struct_spelt at (inl (tag, inr u)) = specifier_spelling-StructTag at tag
struct_spelt at (inr b) = specifier_spelling-Struct at None b.0.0.0 (b.0.0.1 ∷ b.0.1) b.1

struct_added : (names : Names) (at : Pos) (tag : Option Identifier) (b : StructBody) → (specifier_level (specifier.Struct at tag b.0.0.0 (b.0.0.1 ∷ b.0.1) b.1) names).1 ≡ struct_body_form.adds names b
struct_added names at tag b =
    ap (λ f. (f names).1) (specifier_level-Struct at tag b.0.0.0 (b.0.0.1 ∷ b.0.1) b.1)
    ∙ ap (λ l. (member_level b.0.0.1 names).1 ++ l) (sym (added_in_row member_items member_level (λ names x. refl) (names ++ (member_level b.0.0.1 names).1) b.0.1))

struct_seen : (names : Names) (at : Pos) (u : StructTail) → (specifier_level (struct_by at u) names).1 ≡ struct_form.adds names (at, u)
struct_seen names at (inl (tag, inl b)) = struct_added names at (Some tag) b
struct_seen names at (inl (tag, inr u)) = ap (λ f. (f names).1) (specifier_level-StructTag at tag)
struct_seen names at (inr b) = struct_added names at None b

struct_no_tag : (at : Pos) (tag : Option Identifier) (from : Pos) (members : List Member) (to : Pos) (b : Bool) → (is_tag (specifier.Struct at tag from members to) && b) ≡ false
unfolding is_tag out-Specifier out
struct_no_tag at tag from members to b = refl

struct_tag_is : (at : Pos) (tag : Identifier) (b : Bool) → (is_tag (specifier.StructTag at tag) && b) ≡ b
unfolding is_tag out-Specifier out
struct_tag_is at tag b = refl

struct_stop : (at : Pos) (u : StructTail) (behind : Names) (rest : Tokens) → struct_form.stop (at, u) behind rest → (is_tag (struct_by at u) && is_mark p.LeftBrace (peek rest)) ≡ false
struct_stop at (inl (tag, inl b)) behind rest h = struct_no_tag at (Some tag) b.0.0.0 (b.0.0.1 ∷ b.0.1) b.1 _
struct_stop at (inl (tag, inr u)) behind rest h = struct_tag_is at tag _ ∙ h
struct_stop at (inr b) behind rest h = struct_no_tag at None b.0.0.0 (b.0.0.1 ∷ b.0.1) b.1 _

struct_from : (at : Pos) (u : StructTail) (behind : Names) (rest : Tokens) → (is_tag (struct_by at u) && is_mark p.LeftBrace (peek rest)) ≡ false → struct_form.stop (at, u) behind rest
struct_from at (inl (tag, inl b)) behind rest h = tt
struct_from at (inl (tag, inr u)) behind rest h = sym (struct_tag_is at tag _) ∙ h
struct_from at (inr b) behind rest h = tt

struct_node : (w typed : Bool) → Node struct_form struct_of (one_form w typed)
struct_node w typed = record {
  good = λ names t g. struct_good w typed names t.0 t.1 g;
  parts = λ names t g. struct_parts w typed names t.0 t.1 g;
  nested = λ t. struct_nested t.0 t.1;
  spelt = λ t. struct_spelt t.0 t.1;
  seen = λ names t. struct_seen names t.0 t.1;
  stop = λ names t behind rest g h. struct_stop t.0 t.1 behind rest h;
  from_stop = λ names t behind rest g h. struct_from t.0 t.1 behind rest h;
}

-- what is asked of what stands in brackets
abbrev Specs : ℕ → Inner → Type 0
Specs more inner = (w : Bool) → Exact (deeper (specifiers_form w)) more (inner.specifiers w)

abbrev Decls : ℕ → Inner → Type 0
Decls more inner = (purpose : Use) (typed : Bool) → Exact (deeper (declarator_form purpose typed)) more (inner.declarator purpose typed)

abbrev members_reader : ℕ → Inner → Parser StructBody
members_reader more inner = both (both (both (opening more p.LeftBrace) (λ from. member more inner)) (λ t. many (goes_member more inner) (member more inner))) (λ t. expect p.RightBrace)

body_is : (more : ℕ) (inner : Inner) (at : Pos) (tag : Option Identifier) (i : State) → struct_body more inner at tag i ≡ map_to (members_reader more inner) (λ b. specifier.Struct at tag b.0.0.0 (b.0.0.1 ∷ b.0.1) b.1) i
unfolding struct_body
body_is more inner at tag i =
    four (opening more p.LeftBrace) (λ from. member more inner) (λ from first. many (goes_member more inner) (member more inner)) (λ from first rest. expect p.RightBrace) (λ from first rest to. specifier.Struct at tag from (first ∷ rest) to) i

struct_reads : (more : ℕ) (inner : Inner) (i : State) → struct_specifier more inner i ≡ map_to (tagged_reader (one struct_at) (members_reader more inner)) struct_of i
unfolding struct_specifier
struct_reads more inner i =
    bind_same (one struct_at) _ (λ at. choose (λ i. is_name (peek i.1)) (identifier >>= (λ tag. choose (sees p.LeftBrace) (map_to (members_reader more inner) (λ b. struct_by at (inl (tag, inl b)))) (pure (struct_by at (inl (tag, inr tt)))))) (map_to (members_reader more inner) (λ b. struct_by at (inr b))))
    (λ at j. choose_same (λ i. is_name (peek i.1)) (struct_tagged more inner at) (struct_body more inner at None) _ _
    (λ j. bind_same identifier _ _ (λ tag j. choose_same (sees p.LeftBrace) (struct_body more inner at (Some tag)) (pure (specifier.StructTag at tag)) _ _ (body_is more inner at (Some tag)) (λ j. refl) j) j)
    (body_is more inner at None) j) i
    ∙ tagged_is (one struct_at) (members_reader more inner) struct_by i

struct_opens : (names : Names) (b : StructBody) (rest : Tokens) → (from : Pos) × (ts : Tokens) × (struct_body_form.spell b ++ rest ≡ punct p.LeftBrace from ∷ ts)
struct_opens names b rest = (b.0.0.0, _, refl)

struct_exact : (w typed : Bool) (more : ℕ) (inner : Inner) → Specs more inner → Decls more inner → Exact (only (Image struct_of) (one_form w typed)) more (struct_specifier more inner)
struct_exact w typed more inner specs decls =
    same_exact (only (Image struct_of) (one_form w typed)) more _ (struct_specifier more inner) (struct_reads more inner)
    (node_exact struct_form struct_of (one_form w typed) more _
    (tagged_exact word.Struct struct_at struct_body_form more (members_reader more inner) (one_exact (keyword word.Struct) always struct_at struct_picks (λ names a g. refl) more) (struct_body_exact more inner specs decls) struct_opens) (struct_node w typed))

-- ---- an enum, by its tag, its enumerators or both

abbrev EnumBody : Type 0
EnumBody = ((Pos × Enumerator) × List Enumerator) × (Option Pos × Pos)

abbrev EnumTail : Type 0
EnumTail = (Identifier × (EnumBody ⊎ Unit {0})) ⊎ EnumBody

abbrev braces_of : Pos → Option Identifier → EnumBody → Specifier
braces_of at tag b = specifier.Enum at tag b.0.0.0 (b.0.0.1 ∷ b.0.1) b.1.0 b.1.1

abbrev enum_by : Pos → EnumTail → Specifier
enum_by at (inl (tag, inl b)) = braces_of at (Some tag) b
enum_by at (inl (tag, inr u)) = specifier.EnumTag at tag
enum_by at (inr b) = braces_of at None b

abbrev enum_form : Form (Pos × EnumTail)
enum_form = tagged_form word.Enum enum_body_form

abbrev enum_of : Pos × EnumTail → Specifier
enum_of t = enum_by t.0 t.1

rest_told : (names : Names) (xs : List Enumerator) → all_good enumerator_items tt names xs → rest_listed (in_row (map enumerator_level xs) names).0 ≡ true
rest_told names [] g = refl
rest_told names (x ∷ xs) g = both_are _ _ (comma_told x names ∙ g.0.0) (both_are _ _ g.0.1 (rest_told (names ++ (enumerator_level x names).1) xs g.1))

rest_are : (names : Names) (xs : List Enumerator) → rest_listed (in_row (map enumerator_level xs) names).0 ≡ true → all_good enumerator_items tt names xs
rest_are names [] h = tt
rest_are names (x ∷ xs) h =
    let b = both_true (enumerator_level x names).0.comma _ h in
    let c = both_true (enumerator_level x names).0.good _ b.1 in
    ((sym (comma_told x names) ∙ b.0, c.0), rest_are (names ++ (enumerator_level x names).1) xs c.1)

no_first_comma : (c : Option Pos) → not (is_some c) ≡ true → c ≡ None
no_first_comma None h = refl
no_first_comma (Some at) h = absurd cc

enum_told : (w typed : Bool) (names : Names) (at : Pos) (tag : Option Identifier) (b : EnumBody) → enum_body_form.good names b → (one_form w typed).good names (braces_of at tag b)
enum_told w typed names at tag b g =
    let x : Enumerator = b.0.0.1 in (
      ap (λ f. kind_good typed (f names).0) (specifier_level-Enum at tag b.0.0.0 (x ∷ b.0.1) b.1.0 b.1.1)
          ∙ both_are _ _ (ap not (comma_told x names) ∙ ap (λ c. not (is_some c)) g.0.0.1.0) (both_are _ _ g.0.0.1.1 (rest_told (names ++ (enumerator_level x names).1) b.0.1 g.0.1)),
      ap (λ f. w || not (is_storing (f names).0)) (specifier_level-Enum at tag b.0.0.0 (x ∷ b.0.1) b.1.0 b.1.1) ∙ or_true w,
    )

told_enum : (w typed : Bool) (names : Names) (at : Pos) (tag : Option Identifier) (b : EnumBody) → (one_form w typed).good names (braces_of at tag b) → enum_body_form.good names b
told_enum w typed names at tag b g =
    let x : Enumerator = b.0.0.1 in
    let c = both_true (not (enumerator_level x names).0.comma) _ (sym (ap (λ f. kind_good typed (f names).0) (specifier_level-Enum at tag b.0.0.0 (x ∷ b.0.1) b.1.0 b.1.1)) ∙ g.0) in
    let d = both_true (enumerator_level x names).0.good _ c.1 in
    (((tt, (no_first_comma (layer_comma (out-Enumerator x)) (sym (ap not (comma_told x names)) ∙ c.0), d.0)), rest_are (names ++ (enumerator_level x names).1) b.0.1 d.1), (tt, tt))

enum_good : (w typed : Bool) (names : Names) (at : Pos) (u : EnumTail) → enum_form.good names (at, u) → (one_form w typed).good names (enum_by at u)
enum_good w typed names at (inl (tag, inl b)) g = enum_told w typed names at (Some tag) b g.1.1
enum_good w typed names at (inl (tag, inr u)) g =
    (ap (λ f. kind_good typed (f names).0) (specifier_level-EnumTag at tag), ap (λ f. w || not (is_storing (f names).0)) (specifier_level-EnumTag at tag) ∙ or_true w)
enum_good w typed names at (inr b) g = enum_told w typed names at None b g.1

enum_parts : (w typed : Bool) (names : Names) (at : Pos) (u : EnumTail) → (one_form w typed).good names (enum_by at u) → enum_form.good names (at, u)
enum_parts w typed names at (inl (tag, inl b)) g = (tt, (tt, told_enum w typed names at (Some tag) b g))
enum_parts w typed names at (inl (tag, inr u)) g = (tt, (tt, tt))
enum_parts w typed names at (inr b) g = (tt, told_enum w typed names at None b g)

enum_deep : (at : Pos) (tag : Option Identifier) (b : EnumBody) → specifier_nesting (braces_of at tag b) ≡ enum_body_form.nest b
enum_deep at tag b =
    let x : Enumerator = b.0.0.1 in
    specifier_nesting-Enum at tag b.0.0.0 (x ∷ b.0.1) b.1.0 b.1.1
    ∙ (let e = enumerator_deep (layer_nest (out-Enumerator x)) b.0.1 in let d = enumerator_deep 0 (x ∷ []) in omega arith)

enum_nested : (at : Pos) (u : EnumTail) → specifier_nesting (enum_by at u) ≡ enum_form.nest (at, u)
enum_nested at (inl (tag, inl b)) = enum_deep at (Some tag) b ∙ omega arith
enum_nested at (inl (tag, inr u)) = specifier_nesting-EnumTag at tag ∙ omega arith
enum_nested at (inr b) = enum_deep at None b ∙ omega arith

enum_flat : (from : Pos) (es : Tokens) (last : Tokens) (to : Pos) → punct p.LeftBrace from ∷ ((es ++ last) ++ punct p.RightBrace to ∷ []) ≡ (punct p.LeftBrace from ∷ es) ++ (last ++ punct p.RightBrace to ∷ [])
enum_flat from es last to = ap (λ l. punct p.LeftBrace from ∷ l) (append_assoc es last (punct p.RightBrace to ∷ []))

enum_spelt : (at : Pos) (u : EnumTail) → specifier_spelling (enum_by at u) ≡ enum_form.spell (at, u)
enum_spelt at (inl (tag, inl b)) =
    specifier_spelling-Enum at (Some tag) b.0.0.0 (b.0.0.1 ∷ b.0.1) b.1.0 b.1.1
    ∙ ap (λ l. keyword word.Enum at ∷ (name_token tag ∷ l)) (enum_flat b.0.0.0 (enumerator_spelling b.0.0.1 ++ joined (map enumerator_spelling b.0.1)) (comma_at b.1.0) b.1.1)
enum_spelt at (inl (tag, inr u)) = specifier_spelling-EnumTag at tag
enum_spelt at (inr b) =
    specifier_spelling-Enum at None b.0.0.0 (b.0.0.1 ∷ b.0.1) b.1.0 b.1.1
    ∙ ap (λ l. keyword word.Enum at ∷ l) (enum_flat b.0.0.0 (enumerator_spelling b.0.0.1 ++ joined (map enumerator_spelling b.0.1)) (comma_at b.1.0) b.1.1)

enum_added : (names : Names) (at : Pos) (tag : Option Identifier) (b : EnumBody) → (specifier_level (braces_of at tag b) names).1 ≡ enum_body_form.adds names b
enum_added names at tag b =
    ap (λ f. (f names).1) (specifier_level-Enum at tag b.0.0.0 (b.0.0.1 ∷ b.0.1) b.1.0 b.1.1)
    ∙ ap (λ l. (enumerator_level b.0.0.1 names).1 ++ l) (sym (added_in_row enumerator_items enumerator_level (λ names x. refl) (names ++ (enumerator_level b.0.0.1 names).1) b.0.1))

enum_seen : (names : Names) (at : Pos) (u : EnumTail) → (specifier_level (enum_by at u) names).1 ≡ enum_form.adds names (at, u)
enum_seen names at (inl (tag, inl b)) = enum_added names at (Some tag) b
enum_seen names at (inl (tag, inr u)) = ap (λ f. (f names).1) (specifier_level-EnumTag at tag)
enum_seen names at (inr b) = enum_added names at None b

enum_no_tag : (at : Pos) (tag : Option Identifier) (b : EnumBody) (c : Bool) → (is_tag (braces_of at tag b) && c) ≡ false
unfolding is_tag out-Specifier out
enum_no_tag at tag b c = refl

enum_tag_is : (at : Pos) (tag : Identifier) (b : Bool) → (is_tag (specifier.EnumTag at tag) && b) ≡ b
unfolding is_tag out-Specifier out
enum_tag_is at tag b = refl

enum_stop : (at : Pos) (u : EnumTail) (behind : Names) (rest : Tokens) → enum_form.stop (at, u) behind rest → (is_tag (enum_by at u) && is_mark p.LeftBrace (peek rest)) ≡ false
enum_stop at (inl (tag, inl b)) behind rest h = enum_no_tag at (Some tag) b _
enum_stop at (inl (tag, inr u)) behind rest h = enum_tag_is at tag _ ∙ h
enum_stop at (inr b) behind rest h = enum_no_tag at None b _

enum_from : (at : Pos) (u : EnumTail) (behind : Names) (rest : Tokens) → (is_tag (enum_by at u) && is_mark p.LeftBrace (peek rest)) ≡ false → enum_form.stop (at, u) behind rest
enum_from at (inl (tag, inl b)) behind rest h = tt
enum_from at (inl (tag, inr u)) behind rest h = sym (enum_tag_is at tag _) ∙ h
enum_from at (inr b) behind rest h = tt

enum_node : (w typed : Bool) → Node enum_form enum_of (one_form w typed)
enum_node w typed = record {
  good = λ names t g. enum_good w typed names t.0 t.1 g;
  parts = λ names t g. enum_parts w typed names t.0 t.1 g;
  nested = λ t. enum_nested t.0 t.1;
  spelt = λ t. enum_spelt t.0 t.1;
  seen = λ names t. enum_seen names t.0 t.1;
  stop = λ names t behind rest g h. enum_stop t.0 t.1 behind rest h;
  from_stop = λ names t behind rest g h. enum_from t.0 t.1 behind rest h;
}

abbrev enumerators_reader : ℕ → Inner → Parser EnumBody
enumerators_reader more inner = both (both (both (opening more p.LeftBrace) (λ from. one_enumerator more inner None)) (λ t. many goes_enumerator (next_enumerator more inner))) (λ t. both optional_comma (λ c. expect p.RightBrace))

braces_are : (more : ℕ) (inner : Inner) (at : Pos) (tag : Option Identifier) (i : State) → enum_body more inner at tag i ≡ map_to (enumerators_reader more inner) (braces_of at tag) i
unfolding enum_body
braces_are more inner at tag i =
    five_pair (opening more p.LeftBrace) (λ from. one_enumerator more inner None) (λ from first. many goes_enumerator (next_enumerator more inner)) optional_comma (expect p.RightBrace)
    (λ from first rest last to. specifier.Enum at tag from (first ∷ rest) last to) i

enum_reads : (more : ℕ) (inner : Inner) (i : State) → enum_specifier more inner i ≡ map_to (tagged_reader (one enum_at) (enumerators_reader more inner)) enum_of i
unfolding enum_specifier
enum_reads more inner i =
    bind_same (one enum_at) _ (λ at. choose (λ i. is_name (peek i.1)) (identifier >>= (λ tag. choose (sees p.LeftBrace) (map_to (enumerators_reader more inner) (λ b. enum_by at (inl (tag, inl b)))) (pure (enum_by at (inl (tag, inr tt)))))) (map_to (enumerators_reader more inner) (λ b. enum_by at (inr b))))
    (λ at j. choose_same (λ i. is_name (peek i.1)) (enum_tagged more inner at) (enum_body more inner at None) _ _
    (λ j. bind_same identifier _ _ (λ tag j. choose_same (sees p.LeftBrace) (enum_body more inner at (Some tag)) (pure (specifier.EnumTag at tag)) _ _ (braces_are more inner at (Some tag)) (λ j. refl) j) j)
    (braces_are more inner at None) j) i
    ∙ tagged_is (one enum_at) (enumerators_reader more inner) enum_by i

enum_opens : (names : Names) (b : EnumBody) (rest : Tokens) → (from : Pos) × (ts : Tokens) × (enum_body_form.spell b ++ rest ≡ punct p.LeftBrace from ∷ ts)
enum_opens names b rest = (b.0.0.0, _, refl)

enum_exact : (w typed : Bool) (more : ℕ) (inner : Inner) → Exact (deeper (expr_form conditional)) more (inner.expr conditional) → Exact (only (Image enum_of) (one_form w typed)) more (enum_specifier more inner)
enum_exact w typed more inner exact =
    same_exact (only (Image enum_of) (one_form w typed)) more _ (enum_specifier more inner) (enum_reads more inner)
    (node_exact enum_form enum_of (one_form w typed) more _
    (tagged_exact word.Enum enum_at enum_body_form more (enumerators_reader more inner) (one_exact (keyword word.Enum) always enum_at enum_picks (λ names a g. refl) more) (enum_body_exact more inner exact) enum_opens) (enum_node w typed))

-- ---- which specifier comes next

first_key : (ts : Tokens) (t : Token) (os rest : Tokens) (test : Option TokenKind → Bool) (b : Bool) → ts ≡ t ∷ os → test (Some t.kind) ≡ b → test (peek (ts ++ rest)) ≡ b
first_key ts t os rest test b e h = ap (λ l. test (peek (l ++ rest))) e ∙ ap test (peek_first t (os ++ rest)) ∙ h

struct_shown : (x : Specifier) (rest : Tokens) → Image struct_of x → is_struct (peek (specifier_spelling x ++ rest)) ≡ true
struct_shown x rest i = subst (λ x. is_struct (peek (specifier_spelling x ++ rest)) ≡ true) i.1 (first_key _ (keyword word.Struct i.0.0) _ rest is_struct true (struct_spelt i.0.0 i.0.1) refl)

enum_shown : (x : Specifier) (rest : Tokens) → Image enum_of x → is_enum (peek (specifier_spelling x ++ rest)) ≡ true
enum_shown x rest i = subst (λ x. is_enum (peek (specifier_spelling x ++ rest)) ≡ true) i.1 (first_key _ (keyword word.Enum i.0.0) _ rest is_enum true (enum_spelt i.0.0 i.0.1) refl)

enum_no_struct : (x : Specifier) (rest : Tokens) → Image enum_of x → is_struct (peek (specifier_spelling x ++ rest)) ≡ false
enum_no_struct x rest i = subst (λ x. is_struct (peek (specifier_spelling x ++ rest)) ≡ false) i.1 (first_key _ (keyword word.Enum i.0.0) _ rest is_struct false (enum_spelt i.0.0 i.0.1) refl)

storage_key : (test : Option TokenKind → Bool) → ((st : Storage) → test (Some (k.Keyword (storage_word st))) ≡ false) → (t : Storage × Pos) (rest : Tokens) → test (peek (specifier_spelling (specifier.Storage t.0 t.1) ++ rest)) ≡ false
storage_key test h t rest = first_key _ (keyword (storage_word t.0) t.1) [] rest test false (specifier_spelling-Storage t.0 t.1) (h t.0)

plain_key : (test : Option TokenKind → Bool) → ((st : Storage) → test (Some (k.Keyword (storage_word st))) ≡ false) → ((t : TypeWord) → test (Some (k.Keyword (type_word t))) ≡ false) → test (Some (k.Keyword word.Const)) ≡ false
    → ((text : List ℕ) → test (Some (k.Name text)) ≡ false) → (x : Specifier) (rest : Tokens) → IsPlain x → test (peek (specifier_spelling x ++ rest)) ≡ false
plain_key test a b c d x rest (inl i) = subst (λ x. test (peek (specifier_spelling x ++ rest)) ≡ false) i.1 (storage_key test a i.0 rest)
plain_key test a b c d x rest (inr (inl i)) = subst (λ x. test (peek (specifier_spelling x ++ rest)) ≡ false) i.1 (first_key _ (keyword word.Const i.0) [] rest test false (specifier_spelling-Const i.0) c)
plain_key test a b c d x rest (inr (inr (inl i))) = subst (λ x. test (peek (specifier_spelling x ++ rest)) ≡ false) i.1 (first_key _ (keyword (type_word i.0.0) i.0.1) [] rest test false (specifier_spelling-Word i.0.0 i.0.1) (b i.0.0))
plain_key test a b c d x rest (inr (inr (inr i))) = subst (λ x. test (peek (specifier_spelling x ++ rest)) ≡ false) i.1 (first_key _ (name_token i.0) [] rest test false (specifier_spelling-TypedefName i.0) (d i.0.text))

storage_no_struct : (st : Storage) → is_struct (Some (k.Keyword (storage_word st))) ≡ false
storage_no_struct storage.Typedef = refl
storage_no_struct _ = refl

word_no_struct : (t : TypeWord) → is_struct (Some (k.Keyword (type_word t))) ≡ false
word_no_struct type.Void = refl
word_no_struct _ = refl

storage_no_enum : (st : Storage) → is_enum (Some (k.Keyword (storage_word st))) ≡ false
storage_no_enum storage.Typedef = refl
storage_no_enum _ = refl

word_no_enum : (t : TypeWord) → is_enum (Some (k.Keyword (type_word t))) ≡ false
word_no_enum type.Void = refl
word_no_enum _ = refl

no_struct_by : (x : Specifier) (rest : Tokens) → Image enum_of x ⊎ IsPlain x → is_struct (peek (specifier_spelling x ++ rest)) ≡ false
no_struct_by x rest (inl i) = enum_no_struct x rest i
no_struct_by x rest (inr i) = plain_key is_struct storage_no_struct word_no_struct refl (λ text. refl) x rest i

no_members : (w typed : Bool) (names : Names) (at : Pos) (tag : Option Identifier) (from to : Pos) → (one_form w typed).good names (specifier.Struct at tag from [] to) → ⊥
no_members w typed names at tag from to g = let e : false ≡ true = sym (ap (λ f. kind_good typed (f names).0) (specifier_level-Struct at tag from [] to)) ∙ g.0 in absurd cc

no_enumerators : (w typed : Bool) (names : Names) (at : Pos) (tag : Option Identifier) (from : Pos) (last : Option Pos) (to : Pos) → (one_form w typed).good names (specifier.Enum at tag from [] last to) → ⊥
no_enumerators w typed names at tag from last to g = let e : false ≡ true = sym (ap (λ f. kind_good typed (f names).0) (specifier_level-Enum at tag from [] last to)) ∙ g.0 in absurd cc

specifier_is : {x : Specifier} → SpecifierShape x → (w typed : Bool) (names : Names) → (one_form w typed).good names x → Image struct_of x ⊎ (Image enum_of x ⊎ IsPlain x)
specifier_is (SpecifierShape.a_storage st at) w typed names g = inr (inr (inl ((st, at), refl)))
specifier_is (SpecifierShape.a_const at) w typed names g = inr (inr (inr (inl (at, refl))))
specifier_is (SpecifierShape.a_word t at) w typed names g = inr (inr (inr (inr (inl ((t, at), refl)))))
specifier_is (SpecifierShape.a_typedef_name id) w typed names g = inr (inr (inr (inr (inr (id, refl)))))
specifier_is (SpecifierShape.a_struct_tag at tag) w typed names g = inl ((at, inl (tag, inr tt)), refl)
specifier_is (SpecifierShape.a_enum_tag at tag) w typed names g = inr (inl ((at, inl (tag, inr tt)), refl))
specifier_is (SpecifierShape.a_struct at tag from [] to) w typed names g = absurd (no_members w typed names at tag from to g)
specifier_is (SpecifierShape.a_struct at (Some tag) from (x ∷ xs) to) w typed names g = inl ((at, inl (tag, inl (((from, x), xs), to))), refl)
specifier_is (SpecifierShape.a_struct at None from (x ∷ xs) to) w typed names g = inl ((at, inr (((from, x), xs), to)), refl)
specifier_is (SpecifierShape.a_enum at tag from [] last to) w typed names g = absurd (no_enumerators w typed names at tag from last to g)
specifier_is (SpecifierShape.a_enum at (Some tag) from (x ∷ xs) last to) w typed names g = inr (inl ((at, inl (tag, inl (((from, x), xs), (last, to)))), refl))
specifier_is (SpecifierShape.a_enum at None from (x ∷ xs) last to) w typed names g = inr (inl ((at, inr (((from, x), xs), (last, to))), refl))

one_specifier_exact : (w typed : Bool) (more : ℕ) (inner : Inner) → Specs more inner → Decls more inner → Exact (deeper (expr_form conditional)) more (inner.expr conditional) → Exact (one_form w typed) more (one_specifier more inner w typed)
unfolding one_specifier
one_specifier_exact w typed more inner specs decls exact =
    whole_exact (λ x. Image struct_of x ⊎ (Image enum_of x ⊎ IsPlain x)) (one_form w typed) more _ (λ names x g. specifier_is (specifier_shape x) w typed names g)
    (choose_exact (Image struct_of) (λ x. Image enum_of x ⊎ IsPlain x) (one_form w typed) more (λ i. is_struct (peek i.1)) (struct_specifier more inner) _ (struct_exact w typed more inner specs decls)
    (choose_exact (Image enum_of) IsPlain (one_form w typed) more (λ i. is_enum (peek i.1)) (enum_specifier more inner) (one (plain_at w typed)) (enum_exact w typed more inner exact) (plain_exact w typed more)
    (λ names x rest i g s. enum_shown x rest i)
    (λ names x rest i g s. plain_key is_enum storage_no_enum word_no_enum refl (λ text. refl) x rest i))
    (λ names x rest i g s. struct_shown x rest i)
    (λ names x rest i g s. no_struct_by x rest i))

-- ---- specifiers in a row

specifier_no_brace : (w typed : Bool) (names : Names) (kind : TokenKind) → begins_specifier w typed names (Some kind) ≡ true → is_mark p.LeftBrace (Some kind) ≡ false
specifier_no_brace w typed names (k.Keyword key) h = refl
specifier_no_brace w typed names (k.Name text) h = refl
specifier_no_brace w typed names (k.Punct op) h = absurd cc
specifier_no_brace w typed names (k.Number value kind) h = absurd cc
specifier_no_brace w typed names (k.Char value) h = absurd cc
specifier_no_brace w typed names (k.Bytes bytes) h = absurd cc

specifier_then : (w typed : Bool) (names : Names) (x y : Specifier) (rest : Tokens) → (specifier_items w).good typed names y → (is_tag x && is_mark p.LeftBrace (peek (specifier_spelling y ++ rest))) ≡ false
specifier_then w typed names x y rest g =
    let s = specifier_starts w typed names y g in
    ap (λ b. is_tag x && b) (first_key _ s.first s.others rest (is_mark p.LeftBrace) false s.spelt (specifier_no_brace w typed names s.first.kind s.good)) ∙ and_false (is_tag x)

no_specifier : (w typed : Bool) (names : Names) → begins_specifier w typed names (peek []) ≡ false
unfolding peek
no_specifier w typed names = refl

specifiers_kept : (w : Bool) (more : ℕ) (inner : Inner) → Specs more inner → Decls more inner → Exact (deeper (expr_form conditional)) more (inner.expr conditional) → Kept (specifier_items w) more (λ typed. one_specifier more inner w typed)
specifiers_kept w more inner specs decls exact = record {
  sound = λ s names ts x end go h. (one_specifier_exact w s more inner specs decls exact).sound names ts x end h;
  complete = λ s names x rest g n st. (one_specifier_exact w s more inner specs decls exact).complete names x rest g n st;
  starts = λ s names x rest g st. starts_seen w s names (specifier_spelling x) rest (specifier_starts w s names x g);
  ends = λ s names. no_specifier w s names;
  follows = λ s names x y rest g h st. specifier_then w (s || is_type x) _ x y rest h;
  some = λ s names x g. subst (λ l. 0 < length l) (sym (specifier_starts w s names x g).spelt) (omega arith);
}

abbrev row_form : Bool → Form (Specifier × List Specifier)
row_form w = chain (one_form w false) (specifier_items w) (λ x. is_type x)

row_stop : (w : Bool) (x : Specifier) (xs : List Specifier) (names : Names) (rest : Tokens) → (row_form w).stop (x, xs) names rest → all_stop (specifier_items w) false (x ∷ xs) names rest
row_stop w x [] names rest h = h
row_stop w x (y ∷ ys) names rest h = (tt, h)

stop_row : (w : Bool) (x : Specifier) (xs : List Specifier) (names : Names) (rest : Tokens) → all_stop (specifier_items w) false (x ∷ xs) names rest → (row_form w).stop (x, xs) names rest
stop_row w x [] names rest h = h
stop_row w x (y ∷ ys) names rest h = h.1

row_split : (w : Bool) (names : Names) (xs : List Specifier) → (specifiers_form w).good names xs → Split (row_form w) (λ t. t.0 ∷ t.1) (specifiers_form w) names xs
row_split w names [] g = absurd (g.0 refl)
row_split w names (x ∷ xs) g = record { tuple = (x, xs); whole = refl; good = g.1 }

not_empty : {A : Type 0} (x : A) (xs : List A) → ◌≡◌ {A = List A} (x ∷ xs) [] → ⊥
not_empty x xs h = absurd cc

row_joint : (w : Bool) → Joint (row_form w) (λ t. t.0 ∷ t.1) (specifiers_form w)
row_joint w = record {
  good = λ names t g. (not_empty t.0 t.1, g);
  split = row_split w;
  nested = λ t. refl;
  spelt = λ t. refl;
  seen = λ names t. sym (added_in_row (specifier_items w) specifier_level (λ names x. refl) names (t.0 ∷ t.1));
  stop = λ names t behind rest g h. row_stop w t.0 t.1 behind rest h;
  from_stop = λ names t behind rest g h. stop_row w t.0 t.1 behind rest h;
}

pub specifiers_exact : (w : Bool) (more : ℕ) (inner : Inner) → Specs more inner → Decls more inner → Exact (deeper (expr_form conditional)) more (inner.expr conditional) → Exact (specifiers_form w) more (specifiers more inner w)
unfolding specifiers
specifiers_exact w more inner specs decls exact =
    same_exact (specifiers_form w) more _ (specifiers more inner w)
    (two (one_specifier more inner w false) (λ first. many_by (goes_specifier more inner w) (one_specifier more inner w) (types more inner) (is_type first)) (λ first rest. first ∷ rest))
    (joint_exact (row_form w) (λ t. t.0 ∷ t.1) (specifiers_form w) more _
    (chain_exact (one_form w false) (specifier_items w) (λ x. is_type x) more (one_specifier more inner w false) (λ typed. one_specifier more inner w typed) (one_specifier_exact w false more inner specs decls exact) (specifiers_kept w more inner specs decls exact)
    (λ names x y rest g h st. specifier_then w (is_type x) _ x y rest h)) (row_joint w))
