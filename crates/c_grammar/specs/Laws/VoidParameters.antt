-- Two tokens tell parameters that are the one word `void`.
use Rattle.std.specs.Prelude.{◌≡◌, Bool, true, false, ◌&&◌, ◌||◌, List, [], ◌∷◌, ◌++◌, map, Option, Some, None, is_some, refl}
use Rattle.std.proofs.Common.{ap, sym, ◌∙◌, subst, append_assoc, append-nil, ◌⊎◌, inl, inr}
use Rattle.c_tree.specs.declared.token.Pos.{Pos}
use Rattle.c_tree.specs.declared.token.Punct.TheVariants as p
use Rattle.c_tree.specs.declared.token.Keyword.TheVariants as word
use Rattle.c_tree.specs.declared.token.Token.{Token}
use Rattle.c_tree.specs.declared.token.TokenKind.{TokenKind}
use Rattle.c_tree.specs.declared.token.TokenKind.TheVariants as k
use Rattle.c_tree.specs.declared.specifier.Specifier.{Specifier}
use Rattle.c_tree.specs.declared.specifier.Specifier.TheVariants as specifier
use Rattle.c_tree.specs.declared.specifier.Storage.{Storage}
use Rattle.c_tree.specs.declared.specifier.Storage.TheVariants as storage
use Rattle.c_tree.specs.declared.specifier.TypeWord.{TypeWord}
use Rattle.c_tree.specs.declared.specifier.TypeWord.TheVariants as type
use Rattle.c_tree.specs.declared.declarator.Declarator.{Declarator}
use Rattle.c_tree.specs.declared.declarator.Parameter.{Parameter as ParameterTree, out-Parameter}
use Rattle.c_tree.specs.Spelling.Tokens.{punct, keyword, comma_at, joined, storage_word}
use Rattle.c_tree.specs.Spelling.Trees.{specifier_spelling, declarator_spelling, parameter_spelling, parameter_spelling-is, specifier_spelling-Storage, specifier_spelling-Const, specifier_spelling-Word, specifier_spelling-StructTag, specifier_spelling-Struct, specifier_spelling-EnumTag, specifier_spelling-Enum, specifier_spelling-TypedefName}
use Rattle.c_tree.specs.Levels.Names.{Names, in_row}
use Rattle.c_tree.specs.Levels.Facts.{SpecifierKind, Voiding, is_void as kinds_void, only_void}
use Rattle.c_tree.specs.Levels.Trees.{specifier_level, parameter_level}
use Rattle.c_grammar.specs.Laws.Tests.{and_false}
use Rattle.c_grammar.specs.Laws.Told.{parameter_level-is, specifier_level-Storage, specifier_level-Const, specifier_level-Word, specifier_level-StructTag, specifier_level-Struct, specifier_level-EnumTag, specifier_level-Enum, specifier_level-TypedefName}
use Rattle.c_grammar.specs.Input.{Tokens, peek, behind, is_mark}
use Rattle.c_grammar.specs.Read.Nodes.{is_type, is_nothing}
use Rattle.c_grammar.specs.Read.Inner.{begins_specifier, is_void}
use Rattle.c_grammar.specs.Laws.Cases.{SpecifierShape, specifier_shape}
use Rattle.c_grammar.specs.Laws.Lists.{all_good}
use Rattle.c_grammar.specs.Laws.Starts.{peek_first}
use Rattle.c_grammar.specs.Laws.Forms.{specifier_items, specifiers_form}
use Rattle.c_grammar.specs.Laws.SpecifierStarts.{specifier_starts}
use Rattle.c_grammar.specs.Laws.DeclaratorFacts.{FirstToken, declarator_first, nothing_is, nothing_spelling}
use Rattle.c_grammar.specs.Laws.Parameters.{first_parameter, good_parts}

-- `void` `)`
abbrev void_seen : Tokens → Bool
void_seen ts = is_void (peek ts) && is_mark p.RightParen (peek (behind ts))

record NotVoid (x : Specifier) : Type 0 where
  seen : (rest : Tokens) → is_void (peek (specifier_spelling x ++ rest)) ≡ false
  told : (names : Names) (kinds : List SpecifierKind) → kinds_void ((specifier_level x names).0 ∷ kinds) ≡ false

-- the first token is this one
first_seen : (ts : Tokens) (t : Token) (os rest : Tokens) → ts ≡ t ∷ os → is_void (Some t.kind) ≡ false → is_void (peek (ts ++ rest)) ≡ false
first_seen ts t os rest e h = ap (λ l. is_void (peek (l ++ rest))) e ∙ ap is_void (peek_first t (os ++ rest)) ∙ h

storage_no_void : (st : Storage) → is_void (Some (k.Keyword (storage_word st))) ≡ false
storage_no_void storage.Typedef = refl
storage_no_void _ = refl

word_void : (t : TypeWord) (at : Pos) → ((place : Pos) × (specifier.Word type.Void place ≡ specifier.Word t at)) ⊎ NotVoid (specifier.Word t at)
word_void type.Void at = inl (at, refl)
word_void type.Char at = inr (record { seen = λ rest. first_seen _ _ [] rest (specifier_spelling-Word type.Char at) refl; told = λ names kinds. ap (λ f. kinds_void ((f names).0 ∷ kinds)) (specifier_level-Word type.Char at) })
word_void type.Short at = inr (record { seen = λ rest. first_seen _ _ [] rest (specifier_spelling-Word type.Short at) refl; told = λ names kinds. ap (λ f. kinds_void ((f names).0 ∷ kinds)) (specifier_level-Word type.Short at) })
word_void type.Int at = inr (record { seen = λ rest. first_seen _ _ [] rest (specifier_spelling-Word type.Int at) refl; told = λ names kinds. ap (λ f. kinds_void ((f names).0 ∷ kinds)) (specifier_level-Word type.Int at) })
word_void type.Long at = inr (record { seen = λ rest. first_seen _ _ [] rest (specifier_spelling-Word type.Long at) refl; told = λ names kinds. ap (λ f. kinds_void ((f names).0 ∷ kinds)) (specifier_level-Word type.Long at) })
word_void type.Signed at = inr (record { seen = λ rest. first_seen _ _ [] rest (specifier_spelling-Word type.Signed at) refl; told = λ names kinds. ap (λ f. kinds_void ((f names).0 ∷ kinds)) (specifier_level-Word type.Signed at) })
word_void type.Unsigned at = inr (record { seen = λ rest. first_seen _ _ [] rest (specifier_spelling-Word type.Unsigned at) refl; told = λ names kinds. ap (λ f. kinds_void ((f names).0 ∷ kinds)) (specifier_level-Word type.Unsigned at) })
word_void type.Bool at = inr (record { seen = λ rest. first_seen _ _ [] rest (specifier_spelling-Word type.Bool at) refl; told = λ names kinds. ap (λ f. kinds_void ((f names).0 ∷ kinds)) (specifier_level-Word type.Bool at) })

-- a specifier is `void`, or it is not
void_or : {x : Specifier} → SpecifierShape x → ((at : Pos) × (specifier.Word type.Void at ≡ x)) ⊎ NotVoid x
void_or (SpecifierShape.a_word t at) = word_void t at
void_or (SpecifierShape.a_storage st at) = inr (record { seen = λ rest. first_seen _ _ [] rest (specifier_spelling-Storage st at) (storage_no_void st); told = λ names kinds. ap (λ f. kinds_void ((f names).0 ∷ kinds)) (specifier_level-Storage st at) })
void_or (SpecifierShape.a_const at) = inr (record { seen = λ rest. first_seen _ _ [] rest (specifier_spelling-Const at) refl; told = λ names kinds. ap (λ f. kinds_void ((f names).0 ∷ kinds)) (specifier_level-Const at) })
void_or (SpecifierShape.a_struct_tag at tag) = inr (record { seen = λ rest. first_seen _ _ _ rest (specifier_spelling-StructTag at tag) refl; told = λ names kinds. ap (λ f. kinds_void ((f names).0 ∷ kinds)) (specifier_level-StructTag at tag) })
void_or (SpecifierShape.a_struct at tag from members to) = inr (record { seen = λ rest. first_seen _ _ _ rest (specifier_spelling-Struct at tag from members to) refl; told = λ names kinds. ap (λ f. kinds_void ((f names).0 ∷ kinds)) (specifier_level-Struct at tag from members to) })
void_or (SpecifierShape.a_enum_tag at tag) = inr (record { seen = λ rest. first_seen _ _ _ rest (specifier_spelling-EnumTag at tag) refl; told = λ names kinds. ap (λ f. kinds_void ((f names).0 ∷ kinds)) (specifier_level-EnumTag at tag) })
void_or (SpecifierShape.a_enum at tag from enumerators last to) = inr (record { seen = λ rest. first_seen _ _ _ rest (specifier_spelling-Enum at tag from enumerators last to) refl; told = λ names kinds. ap (λ f. kinds_void ((f names).0 ∷ kinds)) (specifier_level-Enum at tag from enumerators last to) })
void_or (SpecifierShape.a_typedef_name id) = inr (record { seen = λ rest. first_seen _ _ [] rest (specifier_spelling-TypedefName id) refl; told = λ names kinds. ap (λ f. kinds_void ((f names).0 ∷ kinds)) (specifier_level-TypedefName id) })

behind_first : (t : Token) (ts : Tokens) → behind (t ∷ ts) ≡ ts
unfolding behind
behind_first t ts = refl

pub specifier_no_close : (w typed : Bool) (names : Names) (kind : TokenKind) → begins_specifier w typed names (Some kind) ≡ true → is_mark p.RightParen (Some kind) ≡ false
specifier_no_close w typed names (k.Keyword key) h = refl
specifier_no_close w typed names (k.Name text) h = refl
specifier_no_close w typed names (k.Punct op) h = absurd cc
specifier_no_close w typed names (k.Number value kind) h = absurd cc
specifier_no_close w typed names (k.Char value) h = absurd cc
specifier_no_close w typed names (k.Bytes bytes) h = absurd cc

first_no_close : (begins : Bool) (names : Names) (kind : TokenKind) → FirstToken begins names kind → is_mark p.RightParen (Some kind) ≡ false
first_no_close begins names _ (FirstToken.star e) = refl
first_no_close begins names _ (FirstToken.paren e) = refl
first_no_close begins names _ (FirstToken.bracket e) = refl
first_no_close begins names _ (FirstToken.a_name text e) = refl

-- behind `void`
void_then : (at : Pos) (ts : Tokens) → void_seen (specifier_spelling (specifier.Word type.Void at) ++ ts) ≡ is_mark p.RightParen (peek ts)
void_then at ts =
    ap (λ l. void_seen (l ++ ts)) (specifier_spelling-Word type.Void at)
    ∙ ap (λ o. is_void o && is_mark p.RightParen (peek (behind (keyword word.Void at ∷ ts)))) (peek_first (keyword word.Void at) ts)
    ∙ ap (λ l. is_mark p.RightParen (peek l)) (behind_first (keyword word.Void at) ts)

nothing_then : (names : Names) (d : Declarator) (b : Bool) → is_nothing d ≡ b → (ts : Tokens) → is_mark p.RightParen (peek (declarator_spelling d ++ ts)) ≡ (b && is_mark p.RightParen (peek ts))
nothing_then names d true e ts = ap (λ l. is_mark p.RightParen (peek (l ++ ts))) (nothing_spelling d e)
nothing_then names d false e ts =
    let f = declarator_first names d e in
    ap (λ l. is_mark p.RightParen (peek (l ++ ts))) f.spelt ∙ ap (is_mark p.RightParen) (peek_first f.first (f.others ++ ts)) ∙ first_no_close _ names f.first.kind f.kind

-- specifiers and a declarator, and what stands behind them
by_specifiers : (names : Names) (x : Specifier) (xs : List Specifier) (d : Declarator) (ts : Tokens) → all_good (specifier_items true) false names (x ∷ xs) → ((at : Pos) × (specifier.Word type.Void at ≡ x)) ⊎ NotVoid x
    → void_seen ((joined (map specifier_spelling (x ∷ xs)) ++ declarator_spelling d) ++ ts)
    ≡ ((kinds_void (in_row (map specifier_level (x ∷ xs)) names).0 && is_nothing d) && is_mark p.RightParen (peek ts))
by_specifiers names x xs d ts g (inr n) =
    let rest : Tokens = joined (map specifier_spelling xs) ++ (declarator_spelling d ++ ts) in
    ap void_seen (append_assoc (specifier_spelling x ++ joined (map specifier_spelling xs)) (declarator_spelling d) ts ∙ append_assoc (specifier_spelling x) (joined (map specifier_spelling xs)) (declarator_spelling d ++ ts))
    ∙ ap (λ b. b && is_mark p.RightParen (peek (behind (specifier_spelling x ++ rest)))) (n.seen rest)
    ∙ sym (ap (λ b. (b && is_nothing d) && is_mark p.RightParen (peek ts)) (n.told names _))
by_specifiers names x [] d ts g (inl v) =
    subst (λ x. void_seen (((specifier_spelling x ++ []) ++ declarator_spelling d) ++ ts) ≡ ((kinds_void ((specifier_level x names).0 ∷ []) && is_nothing d) && is_mark p.RightParen (peek ts))) v.1
    (ap (λ l. void_seen ((l ++ declarator_spelling d) ++ ts)) (append-nil (specifier_spelling (specifier.Word type.Void v.0)))
    ∙ ap void_seen (append_assoc (specifier_spelling (specifier.Word type.Void v.0)) (declarator_spelling d) ts)
    ∙ void_then v.0 (declarator_spelling d ++ ts) ∙ nothing_then names d (is_nothing d) refl ts
    ∙ sym (ap (λ f. (kinds_void ((f names).0 ∷ []) && is_nothing d) && is_mark p.RightParen (peek ts)) (specifier_level-Word type.Void v.0)))
by_specifiers names x (y ∷ ys) d ts g (inl v) =
    let names1 : Names = names ++ (specifier_level x names).1 in
    let s = specifier_starts true (false || is_type x) names1 y g.1.0 in
    let tail : Tokens = joined (map specifier_spelling ys) ++ (declarator_spelling d ++ ts) in
    let two_kinds : kinds_void ((specifier_level x names).0 ∷ ((specifier_level y names1).0 ∷ (in_row (map specifier_level ys) (names1 ++ (specifier_level y names1).1)).0)) ≡ false = two_or_more (specifier_level x names).0 _ _ in
    ap void_seen (append_assoc (specifier_spelling x ++ (specifier_spelling y ++ joined (map specifier_spelling ys))) (declarator_spelling d) ts
    ∙ append_assoc (specifier_spelling x) (specifier_spelling y ++ joined (map specifier_spelling ys)) (declarator_spelling d ++ ts)
    ∙ ap (λ l. specifier_spelling x ++ l) (append_assoc (specifier_spelling y) (joined (map specifier_spelling ys)) (declarator_spelling d ++ ts)))
    ∙ ap (λ x. void_seen (specifier_spelling x ++ (specifier_spelling y ++ tail))) (sym v.1)
    ∙ void_then v.0 (specifier_spelling y ++ tail)
    ∙ ap (λ l. is_mark p.RightParen (peek (l ++ tail))) s.spelt ∙ ap (is_mark p.RightParen) (peek_first s.first (s.others ++ tail)) ∙ specifier_no_close true _ names1 s.first.kind s.good
    ∙ sym (ap (λ b. (b && is_nothing d) && is_mark p.RightParen (peek ts)) two_kinds)
  where
    two_or_more : (a b : SpecifierKind) (more : List SpecifierKind) → kinds_void (a ∷ (b ∷ more)) ≡ false
    two_or_more Voiding b more = refl
    two_or_more _ b more = refl

by_list : (names : Names) (xs : List Specifier) (d : Declarator) (ts : Tokens) → (specifiers_form true).good names xs
    → void_seen ((joined (map specifier_spelling xs) ++ declarator_spelling d) ++ ts) ≡ ((kinds_void (in_row (map specifier_level xs) names).0 && is_nothing d) && is_mark p.RightParen (peek ts))
by_list names [] d ts g = absurd (g.0 refl)
by_list names (x ∷ xs) d ts g = by_specifiers names x xs d ts g.1 (void_or (specifier_shape x))

-- a first parameter, and what stands behind it
first_void : (names : Names) (x : ParameterTree) (ts : Tokens) → first_parameter.good names x → void_seen (parameter_spelling x ++ ts) ≡ ((parameter_level x names).0.is_void && is_mark p.RightParen (peek ts))
first_void names x ts g =
    let q = out-Parameter x in
    let r = in_row (map specifier_level q.specifiers) names in
    ap (λ l. void_seen (l ++ ts)) (parameter_spelling-is x ∙ ap (λ c. comma_at c ++ (joined (map specifier_spelling q.specifiers) ++ declarator_spelling q.declarator)) g.0)
    ∙ by_list names q.specifiers q.declarator ts (good_parts names x g.1).0
    ∙ ap (λ b. (kinds_void r.0 && b) && is_mark p.RightParen (peek ts)) (sym (nothing_is q.declarator (names ++ r.1)))
    ∙ sym (ap (λ f. (f names).0.is_void && is_mark p.RightParen (peek ts)) (parameter_level-is x))

next_no_close : (x : ParameterTree) (c : Option Pos) (ts : Tokens) → (out-Parameter x).comma ≡ c → is_some c ≡ true → is_mark p.RightParen (peek (parameter_spelling x ++ ts)) ≡ false
next_no_close x None ts e h = absurd cc
next_no_close x (Some at) ts e h =
    let q = out-Parameter x in
    ap (λ l. is_mark p.RightParen (peek (l ++ ts))) (parameter_spelling-is x ∙ ap (λ c. comma_at c ++ (joined (map specifier_spelling q.specifiers) ++ declarator_spelling q.declarator)) e)
    ∙ ap (is_mark p.RightParen) (peek_first (punct p.Comma at) _)

-- so the two tokens tell the one word `void` of all else
pub void_is : (names : Names) (x : ParameterTree) (xs : List ParameterTree) (at : Pos) (rest : Tokens) → first_parameter.good names x → ((y : ParameterTree) (ys : List ParameterTree) → xs ≡ y ∷ ys → is_some (out-Parameter y).comma ≡ true)
    → void_seen ((parameter_spelling x ++ joined (map parameter_spelling xs)) ++ (punct p.RightParen at ∷ rest)) ≡ only_void (in_row (map parameter_level (x ∷ xs)) names).0
void_is names x [] at rest g commas =
    ap (λ l. void_seen (l ++ (punct p.RightParen at ∷ rest))) (append-nil (parameter_spelling x)) ∙ first_void names x (punct p.RightParen at ∷ rest) g
    ∙ ap (λ o. (parameter_level x names).0.is_void && is_mark p.RightParen o) (peek_first (punct p.RightParen at) rest) ∙ and_yes (parameter_level x names).0.is_void
  where
    and_yes : (b : Bool) → (b && true) ≡ b
    and_yes true = refl
    and_yes false = refl
void_is names x (y ∷ ys) at rest g commas =
    let tail : Tokens = joined (map parameter_spelling ys) ++ (punct p.RightParen at ∷ rest) in
    ap void_seen (append_assoc (parameter_spelling x) (parameter_spelling y ++ joined (map parameter_spelling ys)) (punct p.RightParen at ∷ rest)
    ∙ ap (λ l. parameter_spelling x ++ l) (append_assoc (parameter_spelling y) (joined (map parameter_spelling ys)) (punct p.RightParen at ∷ rest)))
    ∙ first_void names x (parameter_spelling y ++ tail) g
    ∙ ap (λ b. (parameter_level x names).0.is_void && b) (next_no_close y (out-Parameter y).comma tail refl (commas y ys refl)) ∙ and_false (parameter_level x names).0.is_void
