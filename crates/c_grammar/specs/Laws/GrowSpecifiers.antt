-- A token that goes on with specifiers begins a longer list of them.
use Rattle.std.specs.Prelude.{◌≡◌, ℕ, Bool, true, false, not, ◌&&◌, ◌||◌, List, [], ◌∷◌, ◌++◌, map, Some, None, refl}
use Rattle.std.proofs.Common.{ap, sym, ◌∙◌, subst, cond, ◌⊎◌, inl, inr}
use denote.Hole.Carrier.{out}
use Rattle.c_tree.specs.declared.token.Pos.{Pos}
use Rattle.c_tree.specs.declared.token.Punct.{Punct}
use Rattle.c_tree.specs.declared.token.Punct.TheVariants as p
use Rattle.c_tree.specs.declared.token.Keyword.{Keyword}
use Rattle.c_tree.specs.declared.token.Keyword.TheVariants as word
use Rattle.c_tree.specs.declared.token.Token.{Token}
use Rattle.c_tree.specs.declared.token.TokenKind.{TokenKind}
use Rattle.c_tree.specs.declared.token.TokenKind.TheVariants as k
use Rattle.c_tree.specs.declared.expression.Identifier.{Identifier}
use Rattle.c_tree.specs.declared.specifier.Specifier.{Specifier, out-Specifier}
use Rattle.c_tree.specs.declared.specifier.Specifier.TheVariants as specifier
use Rattle.c_tree.specs.declared.specifier.Storage.TheVariants as storage
use Rattle.c_tree.specs.declared.specifier.TypeWord.TheVariants as type
use Rattle.c_tree.specs.declared.specifier.Member.{Member}
use Rattle.c_tree.specs.declared.specifier.MemberDeclarator.{MemberDeclarator, roll-MemberDeclarator}
use Rattle.c_tree.specs.declared.specifier.Enumerator.{Enumerator}
use Rattle.c_tree.specs.declared.specifier.Enumerator.TheVariants as enumerator
use Rattle.c_tree.specs.declared.declarator.Declarator.{roll-Declarator}
use Rattle.c_tree.specs.declared.declarator.Direct.TheVariants as direct
use Rattle.c_tree.specs.Spelling.Tokens.{token, punct, keyword, name as name_token, joined}
use Rattle.c_tree.specs.Spelling.Trees.{member_spelling, enumerator_spelling, specifier_spelling-StructTag, specifier_spelling-Struct, specifier_spelling-EnumTag, specifier_spelling-Enum}
use Rattle.c_tree.specs.Levels.Names.{Names, is_typedef_name, in_row}
use Rattle.c_tree.specs.Levels.Facts.{Declaring, declares}
use Rattle.c_tree.specs.Levels.Trees.{specifier_level, member_level, declarator_level}
use Rattle.c_grammar.specs.Laws.Tests.{and_false}
use Rattle.c_grammar.specs.Laws.Told.{direct_level-Named, specifier_level-Word, specifier_level-StructTag, specifier_level-Struct, specifier_level-EnumTag, specifier_level-Enum, enumerator_level-Plain}
use Rattle.c_grammar.specs.Punctuators.{same_mark-true}
use Rattle.c_grammar.specs.Input.{Tokens, peek, is_mark}
use Rattle.c_grammar.specs.Read.Nodes.{is_type, name_type}
use Rattle.c_grammar.specs.Read.Inner.{word_begins, begins_specifier}
use Rattle.c_grammar.specs.Laws.Lists.{Items, all_good, all_added, all_stop, last_of, left, stop_goes, stop_last, stop_made, added_in_row}
use Rattle.c_grammar.specs.Laws.Single.{MadeOf}
use Rattle.c_grammar.specs.Laws.Cases.{SpecifierShape, specifier_shape}
use Rattle.c_grammar.specs.Laws.Behind.{both_true, both_are}
use Rattle.c_grammar.specs.Laws.Starts.{peek_first}
use Rattle.c_grammar.specs.Laws.Front.{Longer, Stops}
use Rattle.c_grammar.specs.Laws.Grow.{LongerItem, NewItem, LongerList, last_longer, another}
use Rattle.c_grammar.specs.Laws.Forms.{kind_good, is_storing, is_tag, specifier_items, specifiers_form}
use Rattle.c_grammar.specs.Laws.Specifiers.{one_form, plain_made}
use Rattle.c_grammar.specs.Laws.Members.{member_of, member_good}
use Rattle.c_grammar.specs.Laws.DeclaratorFacts.{parts_declare}

token_is : (t : Token) (kind : TokenKind) → kind ≡ t.kind → token kind t.place ≡ t
token_is t kind e = ap (λ (d : TokenKind). token d t.place) e

-- the kind of a mark that is seen
pub mark_kind : (op : Punct) (kind : TokenKind) → is_mark op (Some kind) ≡ true → k.Punct op ≡ kind
mark_kind op (k.Punct other) h = ap k.Punct (sym (same_mark-true other op h))
mark_kind op (k.Keyword key) h = absurd cc
mark_kind op (k.Name text) h = absurd cc
mark_kind op (k.Number value kind) h = absurd cc
mark_kind op (k.Char value) h = absurd cc
mark_kind op (k.Bytes bytes) h = absurd cc

or_true : (b : Bool) → (b || true) ≡ true
or_true true = refl
or_true false = refl

-- ---- another specifier

from_plain : (w typed : Bool) (names : Names) (kind : TokenKind) (place : Pos) (a : Specifier) → MadeOf (one_form w typed) names kind place a → NewItem (specifier_items w) typed names (token kind place)
from_plain w typed names kind place a m = record { item = a; good = m.good; tokens = []; spelt = m.spelt }

struct_new : (w typed : Bool) (names : Names) (place : Pos) → NewItem (specifier_items w) typed names (keyword word.Struct place)
struct_new w typed names place =
    let id : Identifier = record { text = []; place = place } in
    record {
      item = specifier.StructTag place id;
      good = (ap (λ f. kind_good typed (f names).0) (specifier_level-StructTag place id), ap (λ f. w || not (is_storing (f names).0)) (specifier_level-StructTag place id) ∙ or_true w);
      tokens = _;
      spelt = specifier_spelling-StructTag place id;
    }

enum_new : (w typed : Bool) (names : Names) (place : Pos) → NewItem (specifier_items w) typed names (keyword word.Enum place)
enum_new w typed names place =
    let id : Identifier = record { text = []; place = place } in
    record {
      item = specifier.EnumTag place id;
      good = (ap (λ f. kind_good typed (f names).0) (specifier_level-EnumTag place id), ap (λ f. w || not (is_storing (f names).0)) (specifier_level-EnumTag place id) ∙ or_true w);
      tokens = _;
      spelt = specifier_spelling-EnumTag place id;
    }

key_new : (w typed : Bool) (names : Names) (key : Keyword) (place : Pos) → word_begins w key ≡ true → NewItem (specifier_items w) typed names (keyword key place)
key_new w typed names word.Const place h = from_plain w typed names (k.Keyword word.Const) place _ (plain_made w typed names (k.Keyword word.Const) place (specifier.Const place) refl).1
key_new w typed names word.Void place h = from_plain w typed names (k.Keyword word.Void) place _ (plain_made w typed names (k.Keyword word.Void) place (specifier.Word type.Void place) refl).1
key_new w typed names word.Char place h = from_plain w typed names (k.Keyword word.Char) place _ (plain_made w typed names (k.Keyword word.Char) place (specifier.Word type.Char place) refl).1
key_new w typed names word.Short place h = from_plain w typed names (k.Keyword word.Short) place _ (plain_made w typed names (k.Keyword word.Short) place (specifier.Word type.Short place) refl).1
key_new w typed names word.Int place h = from_plain w typed names (k.Keyword word.Int) place _ (plain_made w typed names (k.Keyword word.Int) place (specifier.Word type.Int place) refl).1
key_new w typed names word.Long place h = from_plain w typed names (k.Keyword word.Long) place _ (plain_made w typed names (k.Keyword word.Long) place (specifier.Word type.Long place) refl).1
key_new w typed names word.Signed place h = from_plain w typed names (k.Keyword word.Signed) place _ (plain_made w typed names (k.Keyword word.Signed) place (specifier.Word type.Signed place) refl).1
key_new w typed names word.Unsigned place h = from_plain w typed names (k.Keyword word.Unsigned) place _ (plain_made w typed names (k.Keyword word.Unsigned) place (specifier.Word type.Unsigned place) refl).1
key_new w typed names word.Bool place h = from_plain w typed names (k.Keyword word.Bool) place _ (plain_made w typed names (k.Keyword word.Bool) place (specifier.Word type.Bool place) refl).1
key_new w typed names word.Struct place h = struct_new w typed names place
key_new w typed names word.Enum place h = enum_new w typed names place
key_new true typed names word.Typedef place h = from_plain true typed names (k.Keyword word.Typedef) place _ (plain_made true typed names (k.Keyword word.Typedef) place (specifier.Storage storage.Typedef place) refl).1
key_new true typed names word.Extern place h = from_plain true typed names (k.Keyword word.Extern) place _ (plain_made true typed names (k.Keyword word.Extern) place (specifier.Storage storage.Extern place) refl).1
key_new true typed names word.Static place h = from_plain true typed names (k.Keyword word.Static) place _ (plain_made true typed names (k.Keyword word.Static) place (specifier.Storage storage.Static place) refl).1
key_new true typed names word.Auto place h = from_plain true typed names (k.Keyword word.Auto) place _ (plain_made true typed names (k.Keyword word.Auto) place (specifier.Storage storage.Auto place) refl).1
key_new true typed names word.Register place h = from_plain true typed names (k.Keyword word.Register) place _ (plain_made true typed names (k.Keyword word.Register) place (specifier.Storage storage.Register place) refl).1
key_new true typed names _ place h = absurd cc
key_new false typed names _ place h = absurd cc

name_new : (w typed : Bool) (names : Names) (text : List ℕ) (place : Pos) → (not typed && is_typedef_name names text) ≡ true → NewItem (specifier_items w) typed names (token (k.Name text) place)
name_new w typed names text place h =
    from_plain w typed names (k.Name text) place _ (plain_made w typed names (k.Name text) place (specifier.TypedefName (record { text = text; place = place })) (ap (λ b. cond b (Some (specifier.TypedefName (record { text = text; place = place }))) None) h)).1

kind_new : (w typed : Bool) (names : Names) (kind : TokenKind) (place : Pos) → begins_specifier w typed names (Some kind) ≡ true → NewItem (specifier_items w) typed names (token kind place)
kind_new w typed names (k.Keyword key) place h = key_new w typed names key place h
kind_new w typed names (k.Name text) place h = name_new w typed names text place h
kind_new w typed names (k.Punct op) place h = absurd cc
kind_new w typed names (k.Number value kind) place h = absurd cc
kind_new w typed names (k.Char value) place h = absurd cc
kind_new w typed names (k.Bytes bytes) place h = absurd cc

-- ---- braces behind a tag

-- `int` and a name
abbrev named_int : Pos → MemberDeclarator
named_int at = roll-MemberDeclarator (record { comma = None; declarator = roll-Declarator (record { pointers = []; direct = direct.Named (record { text = []; place = at }); suffixes = [] }) })

abbrev int_member : Pos → Member
int_member at = member_of ((((specifier.Word type.Int at ∷ [], named_int at), []), at))

int_type : (at : Pos) → is_type (specifier.Word type.Int at) ≡ true
unfolding is_type out-Specifier out
int_type at = refl

nonempty : {A : Type 0} (x : A) (xs : List A) → ◌≡◌ {A = List A} (x ∷ xs) [] → ⊥
nonempty x xs h = absurd cc

int_declares : (at : Pos) (names : Names) → declares Declaring (name_type (specifier.Word type.Int at ∷ [])) (declarator_level (roll-Declarator (record { pointers = []; direct = direct.Named (record { text = []; place = at }); suffixes = [] })) names).0 ≡ true
int_declares at names =
    subst (λ b. declares Declaring (b || false) (declarator_level (roll-Declarator (record { pointers = []; direct = direct.Named (record { text = []; place = at }); suffixes = [] })) names).0 ≡ true) (sym (int_type at))
    (parts_declare Declaring true (roll-Declarator (record { pointers = []; direct = direct.Named (record { text = []; place = at }); suffixes = [] })) names
    (ap (λ f. declares Declaring true (f names).0) (direct_level-Named (record { text = []; place = at }))) refl)

int_good : (at : Pos) (names : Names) → (member_level (int_member at) names).0 ≡ true
int_good at names =
    member_good names ((((specifier.Word type.Int at ∷ [], named_int at), []), at))
    ((
      (
        (
          (nonempty (specifier.Word type.Int at) [], ((ap (λ f. kind_good false (f names).0) (specifier_level-Word type.Int at), ap (λ f. false || not (is_storing (f names).0)) (specifier_level-Word type.Int at)), tt)),
          (refl, int_declares at _),
        ),
        tt,
      ),
      tt,
    ))

struct_longer : (w typed : Bool) (names : Names) (at : Pos) (tag : Identifier) (t : Token) → k.Punct p.LeftBrace ≡ t.kind → LongerItem (specifier_items w) typed names (specifier.StructTag at tag) t
struct_longer w typed names at tag t e =
    let m : Member = int_member t.place in
    let tail : Tokens = joined (map member_spelling (m ∷ [])) ++ punct p.RightBrace t.place ∷ [] in
    record {
      item = specifier.Struct at (Some tag) t.place (m ∷ []) t.place;
      good = (
        ap (λ f. kind_good typed (f names).0) (specifier_level-Struct at (Some tag) t.place (m ∷ []) t.place) ∙ both_are _ true (int_good t.place names) refl,
        ap (λ f. w || not (is_storing (f names).0)) (specifier_level-Struct at (Some tag) t.place (m ∷ []) t.place) ∙ or_true w,
      );
      tokens = tail;
      spelt = specifier_spelling-Struct at (Some tag) t.place (m ∷ []) t.place ∙ ap (λ (u : Token). keyword word.Struct at ∷ (name_token tag ∷ (u ∷ tail))) (token_is t (k.Punct p.LeftBrace) e) ∙ ap (λ l. l ++ t ∷ tail) (sym (specifier_spelling-StructTag at tag));
    }

enum_longer : (w typed : Bool) (names : Names) (at : Pos) (tag : Identifier) (t : Token) → k.Punct p.LeftBrace ≡ t.kind → LongerItem (specifier_items w) typed names (specifier.EnumTag at tag) t
enum_longer w typed names at tag t e =
    let x : Enumerator = enumerator.Plain None (record { text = []; place = t.place }) in
    let tail : Tokens = (joined (map enumerator_spelling (x ∷ [])) ++ []) ++ punct p.RightBrace t.place ∷ [] in
    record {
      item = specifier.Enum at (Some tag) t.place (x ∷ []) None t.place;
      good = (
        ap (λ f. kind_good typed (f names).0) (specifier_level-Enum at (Some tag) t.place (x ∷ []) None t.place)
            ∙ ap (λ f. not (f names).0.comma && ((f names).0.good && true)) (enumerator_level-Plain None (record { text = []; place = t.place })),
        ap (λ f. w || not (is_storing (f names).0)) (specifier_level-Enum at (Some tag) t.place (x ∷ []) None t.place) ∙ or_true w,
      );
      tokens = tail;
      spelt = specifier_spelling-Enum at (Some tag) t.place (x ∷ []) None t.place ∙ ap (λ (u : Token). keyword word.Enum at ∷ (name_token tag ∷ (u ∷ tail))) (token_is t (k.Punct p.LeftBrace) e) ∙ ap (λ l. l ++ t ∷ tail) (sym (specifier_spelling-EnumTag at tag));
    }

tag_longer : {x : Specifier} → SpecifierShape x → (w typed : Bool) (names : Names) (t : Token) → is_tag x ≡ true → k.Punct p.LeftBrace ≡ t.kind → LongerItem (specifier_items w) typed names x t
unfolding is_tag out-Specifier out
tag_longer (SpecifierShape.a_struct_tag at tag) w typed names t h e = struct_longer w typed names at tag t e
tag_longer (SpecifierShape.a_enum_tag at tag) w typed names t h e = enum_longer w typed names at tag t e
tag_longer (SpecifierShape.a_storage st at) w typed names t h e = absurd cc
tag_longer (SpecifierShape.a_const at) w typed names t h e = absurd cc
tag_longer (SpecifierShape.a_word ty at) w typed names t h e = absurd cc
tag_longer (SpecifierShape.a_struct at tag from members to) w typed names t h e = absurd cc
tag_longer (SpecifierShape.a_enum at tag from enumerators last to) w typed names t h e = absurd cc
tag_longer (SpecifierShape.a_typedef_name id) w typed names t h e = absurd cc

-- ---- where specifiers stop

module _ (w : Bool) where
  abbrev I : Items Bool Specifier
  I = specifier_items w

  longer_by : (names : Names) (xs : List Specifier) (t : Token) → LongerList I false names xs t → Longer (specifiers_form w) names xs t
  longer_by names xs t m = record { tree = m.head ∷ m.tail; good = (nonempty m.head m.tail, m.good); tokens = m.tokens; spelt = m.spelt }

  by_tests : (names : Names) (x : Specifier) (xs : List Specifier) (t : Token) (rest : Tokens) (a b : Bool) → all_good I false names (x ∷ xs) → (is_tag (last_of I x xs) && is_mark p.LeftBrace (Some t.kind)) ≡ a
      → begins_specifier w (left I false (x ∷ xs)) (names ++ all_added I names (x ∷ xs)) (Some t.kind) ≡ b
      → all_stop I false (x ∷ xs) (names ++ all_added I names (x ∷ xs)) (t ∷ rest) ⊎ Longer (specifiers_form w) names (x ∷ xs) t
  by_tests names x xs t rest true b g e h =
      let c = both_true (is_tag (last_of I x xs)) _ e in
      inr (longer_by names (x ∷ xs) t (last_longer I false names x xs t g (λ s names go. tag_longer (specifier_shape (last_of I x xs)) w s names t c.0 (mark_kind p.LeftBrace t.kind c.1))))
  by_tests names x xs t rest false true g e h =
      inr (longer_by names (x ∷ xs) t (another I false names (x ∷ xs) t g (kind_new w (left I false (x ∷ xs)) (names ++ all_added I names (x ∷ xs)) t.kind t.place h)))
  by_tests names x xs t rest false false g e h =
      inl (stop_made I false x xs (names ++ all_added I names (x ∷ xs)) (t ∷ rest) (ap (λ o. is_tag (last_of I x xs) && is_mark p.LeftBrace o) (peek_first t rest) ∙ e)
      (ap (begins_specifier w (left I false (x ∷ xs)) (names ++ all_added I names (x ∷ xs))) (peek_first t rest) ∙ h))

  grows : (names : Names) (xs : List Specifier) (t : Token) (rest : Tokens) → (specifiers_form w).good names xs → (specifiers_form w).stop xs (names ++ (in_row (map specifier_level xs) names).1) (t ∷ rest) ⊎ Longer (specifiers_form w) names xs t
  grows names [] t rest g = absurd (g.0 refl)
  grows names (x ∷ xs) t rest g =
      subst (λ l. (specifiers_form w).stop (x ∷ xs) (names ++ l) (t ∷ rest) ⊎ Longer (specifiers_form w) names (x ∷ xs) t) (added_in_row I specifier_level (λ names x. refl) names (x ∷ xs))
      (by_tests names x xs t rest _ _ g.1 refl refl)

  next_only : (xs : List Specifier) (behind : Names) (t : Token) (a b : Tokens) → (xs ≡ [] → ⊥) → all_stop I false xs behind (t ∷ a) → all_stop I false xs behind (t ∷ b)
  next_only [] behind t a b n h = absurd (n refl)
  next_only (x ∷ xs) behind t a b n h =
      stop_made I false x xs behind (t ∷ b)
      (ap (λ o. is_tag (last_of I x xs) && is_mark p.LeftBrace o) (peek_first t b) ∙ sym (ap (λ o. is_tag (last_of I x xs) && is_mark p.LeftBrace o) (peek_first t a)) ∙ stop_last I false x xs behind (t ∷ a) h)
      (ap (begins_specifier w (left I false (x ∷ xs)) behind) (peek_first t b) ∙ sym (ap (begins_specifier w (left I false (x ∷ xs)) behind) (peek_first t a)) ∙ stop_goes I false (x ∷ xs) behind (t ∷ a) h)

  at_end : (xs : List Specifier) (behind : Names) → (xs ≡ [] → ⊥) → all_stop I false xs behind []
  unfolding peek
  at_end [] behind n = absurd (n refl)
  at_end (x ∷ xs) behind n = stop_made I false x xs behind [] (and_false (is_tag (last_of I x xs))) refl

  pub specifiers_stop : Stops (specifiers_form w)
  specifiers_stop = record {
    next = λ names xs behind t a b g h. next_only xs behind t a b g.0 h;
    end = λ names xs behind g. at_end xs behind g.0;
    grows = grows;
  }
