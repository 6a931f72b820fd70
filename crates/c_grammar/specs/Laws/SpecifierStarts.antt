-- The first token of a specifier, and of a type name.
use Rattle.std.specs.Prelude.{◌≡◌, Bool, true, false, not, ◌&&◌, ◌||◌, List, [], ◌∷◌, ◌++◌, map, Some, refl}
use Rattle.std.proofs.Common.{ap, sym, ◌∙◌}
use Rattle.c_tree.specs.declared.token.Keyword.TheVariants as word
use Rattle.c_tree.specs.declared.token.Token.{Token}
use Rattle.c_tree.specs.declared.specifier.Specifier.{Specifier}
use Rattle.c_tree.specs.declared.specifier.Storage.{Storage}
use Rattle.c_tree.specs.declared.specifier.Storage.TheVariants as storage
use Rattle.c_tree.specs.declared.specifier.TypeWord.{TypeWord}
use Rattle.c_tree.specs.declared.specifier.TypeWord.TheVariants as type
use Rattle.c_tree.specs.Spelling.Tokens.{keyword, joined, storage_word, type_word}
use Rattle.c_tree.specs.Spelling.Trees.{specifier_spelling, specifier_spelling-Storage, specifier_spelling-Const, specifier_spelling-Word, specifier_spelling-StructTag, specifier_spelling-Struct, specifier_spelling-EnumTag, specifier_spelling-Enum, specifier_spelling-TypedefName}
use Rattle.c_tree.specs.Levels.Names.{Names, is_typedef_name}
use Rattle.c_grammar.specs.Laws.Told.{specifier_level-Storage, specifier_level-TypedefName}
use Rattle.c_grammar.specs.Input.{Tokens, peek}
use Rattle.c_grammar.specs.Read.Inner.{word_begins, begins_specifier}
use Rattle.c_grammar.specs.Laws.Cases.{SpecifierShape, specifier_shape}
use Rattle.c_grammar.specs.Laws.Behind.{both_are}
use Rattle.c_grammar.specs.Laws.Starts.{peek_first}
use Rattle.c_grammar.specs.Laws.Forms.{kind_good, is_storing, specifier_items, specifiers_form}

-- the first token is a specifier's
pub record StartsSpecifier (with_storage typed : Bool) (names : Names) (ts : Tokens) : Type 0 where
  pub first : Token
  pub others : Tokens
  pub spelt : ts ≡ first ∷ others
  pub good : begins_specifier with_storage typed names (Some first.kind) ≡ true

storage_begins : (st : Storage) → word_begins true (storage_word st) ≡ true
storage_begins storage.Typedef = refl
storage_begins _ = refl

type_begins : (w : Bool) (t : TypeWord) → word_begins w (type_word t) ≡ true
type_begins w type.Void = refl
type_begins w _ = refl

swapped : (a b : Bool) → (a && not b) ≡ true → (not b && a) ≡ true
swapped true b h = both_are (not b) true h refl
swapped false b h = absurd cc

by_storage : (w : Bool) (st : Storage) → (w || false) ≡ true → word_begins w (storage_word st) ≡ true
by_storage true st h = storage_begins st
by_storage false st h = absurd cc

shape_starts : {x : Specifier} → SpecifierShape x → (w typed : Bool) (names : Names) → (specifier_items w).good typed names x → StartsSpecifier w typed names (specifier_spelling x)
shape_starts (SpecifierShape.a_storage st at) w typed names g =
    record { first = keyword (storage_word st) at; others = []; spelt = specifier_spelling-Storage st at; good = by_storage w st (sym (ap (λ f. w || not (is_storing (f names).0)) (specifier_level-Storage st at)) ∙ g.1) }
shape_starts (SpecifierShape.a_const at) w typed names g = record { first = keyword word.Const at; others = []; spelt = specifier_spelling-Const at; good = refl }
shape_starts (SpecifierShape.a_word t at) w typed names g = record { first = keyword (type_word t) at; others = []; spelt = specifier_spelling-Word t at; good = type_begins w t }
shape_starts (SpecifierShape.a_struct_tag at tag) w typed names g = record { first = keyword word.Struct at; others = _; spelt = specifier_spelling-StructTag at tag; good = refl }
shape_starts (SpecifierShape.a_struct at tag from members to) w typed names g = record { first = keyword word.Struct at; others = _; spelt = specifier_spelling-Struct at tag from members to; good = refl }
shape_starts (SpecifierShape.a_enum_tag at tag) w typed names g = record { first = keyword word.Enum at; others = _; spelt = specifier_spelling-EnumTag at tag; good = refl }
shape_starts (SpecifierShape.a_enum at tag from enumerators last to) w typed names g = record { first = keyword word.Enum at; others = _; spelt = specifier_spelling-Enum at tag from enumerators last to; good = refl }
shape_starts (SpecifierShape.a_typedef_name id) w typed names g =
    record { first = _; others = []; spelt = specifier_spelling-TypedefName id; good = swapped (is_typedef_name names id.text) typed (sym (ap (λ f. kind_good typed (f names).0) (specifier_level-TypedefName id)) ∙ g.0) }

pub specifier_starts : (w typed : Bool) (names : Names) (x : Specifier) → (specifier_items w).good typed names x → StartsSpecifier w typed names (specifier_spelling x)
specifier_starts w typed names x g = shape_starts (specifier_shape x) w typed names g

pub starts_seen : (w typed : Bool) (names : Names) (ts rest : Tokens) → StartsSpecifier w typed names ts → begins_specifier w typed names (peek (ts ++ rest)) ≡ true
starts_seen w typed names ts rest s = ap (λ l. begins_specifier w typed names (peek (l ++ rest))) s.spelt ∙ ap (begins_specifier w typed names) (peek_first s.first (s.others ++ rest)) ∙ s.good

-- specifiers begin with one
pub specifiers_start : (w : Bool) (names : Names) (xs : List Specifier) → (specifiers_form w).good names xs → StartsSpecifier w false names (joined (map specifier_spelling xs))
specifiers_start w names [] g = absurd (g.0 refl)
specifiers_start w names (x ∷ xs) g =
    let s = specifier_starts w false names x g.1.0 in
    record { first = s.first; others = s.others ++ joined (map specifier_spelling xs); spelt = ap (λ l. l ++ joined (map specifier_spelling xs)) s.spelt; good = s.good }
