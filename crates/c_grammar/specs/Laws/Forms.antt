-- The forms of specifiers, declarators and type names.
use Rattle.std.specs.Prelude.{◌≡◌, Bool, true, false, not, ◌&&◌, ◌||◌, List, [], ◌∷◌, map}
use Rattle.c_tree.specs.declared.token.Punct.TheVariants as p
use Rattle.c_tree.specs.declared.expression.TypeName.{TypeName, out-TypeName}
use Rattle.c_tree.specs.declared.specifier.Specifier.{Specifier, out-Specifier}
use Rattle.c_tree.specs.declared.declarator.Pointer.{Pointer}
use Rattle.c_tree.specs.declared.declarator.Declarator.{Declarator, out-Declarator}
use Rattle.c_tree.specs.declared.declarator.Direct.{Direct, out-Direct}
use Rattle.c_tree.specs.declared.declarator.DeclaratorSuffix.{DeclaratorSuffix}
use Rattle.c_tree.specs.declared.declarator.DeclaratorSuffix.TheOpen.{Specifier-F}
use Rattle.c_tree.specs.Layers.{SpecifierLayer}
use Rattle.c_tree.specs.Spelling.Tokens.{punct, joined}
use Rattle.c_grammar.specs.Laws.Spelled.{consts}
use Rattle.c_tree.specs.Spelling.Trees.{specifier_spelling, declarator_spelling, declarator_suffix_spelling, direct_spelling, type_name_spelling}
use Rattle.c_tree.specs.Levels.Names.{Names, in_row}
use Rattle.c_tree.specs.Levels.Facts.{Use, Abstract, declares, SpecifierKind, Storing, Qualifying, Voiding, Typing, Naming}
use Rattle.c_tree.specs.Levels.Trees.{specifier_level, declarator_level, declarator_suffix_level, direct_level, type_name_level}
use Rattle.c_tree.specs.Nesting.Trees.{specifier_nesting, declarator_nesting, declarator_suffix_nesting, direct_nesting, type_name_nesting}
use Rattle.c_grammar.specs.Input.{Tokens, peek, behind, is_mark, sees}
use Rattle.c_grammar.specs.Read.Nodes.{is_type, name_type, is_nothing_layer}
use Rattle.c_grammar.specs.Read.Inner.{begins_specifier, is_const}
use Rattle.c_grammar.specs.Read.Declarators.{takes_name, opens_declarator}
use Rattle.c_grammar.specs.Laws.Form.{Form, open_seq}
use Rattle.c_grammar.specs.Laws.Lists.{Items, all_good, all_stop, list, chain}

-- ---- specifiers

-- as the grammar has it, where `typed` tells whether one before it named a type
abbrev pub kind_good : Bool → SpecifierKind → Bool
kind_good typed (Storing is_typedef) = true
kind_good typed Qualifying = true
kind_good typed Voiding = true
kind_good typed (Typing good) = good
kind_good typed (Naming visible) = visible && not typed

abbrev pub is_storing : SpecifierKind → Bool
is_storing (Storing is_typedef) = true
is_storing _ = false

-- `struct` or `enum` and a name, behind which no `{` may stand
abbrev pub is_tag_layer : SpecifierLayer → Bool
is_tag_layer (Specifier-F.StructTag at tag) = true
is_tag_layer (Specifier-F.EnumTag at tag) = true
is_tag_layer _ = false

unfoldable pub is_tag : Specifier → Bool
is_tag x = is_tag_layer (out-Specifier x)

abbrev pub specifier_items : Bool → Items Bool Specifier
specifier_items with_storage = record {
  spell = specifier_spelling;
  good = λ typed names x. (kind_good typed (specifier_level x names).0 ≡ true) × ((with_storage || not (is_storing (specifier_level x names).0)) ≡ true);
  adds = λ names x. (specifier_level x names).1;
  nest = specifier_nesting;
  stop = λ x names rest. (is_tag x && is_mark p.LeftBrace (peek rest)) ≡ false;
  goes = λ typed i. begins_specifier with_storage typed i.0 (peek i.1);
  step = λ typed x. typed || is_type x;
}

-- specifiers, at least one
abbrev pub specifiers_form : Bool → Form (List Specifier)
specifiers_form with_storage = record {
  spell = λ xs. joined (map specifier_spelling xs);
  good = λ names xs. (xs ≡ [] → ⊥) × all_good (specifier_items with_storage) false names xs;
  adds = λ names xs. (in_row (map specifier_level xs) names).1;
  nest = (list (specifier_items with_storage) false).nest;
  stop = λ xs names rest. all_stop (specifier_items with_storage) false xs names rest;
}

-- ---- declarators

abbrev pub pointer_spelling : Pointer → Tokens
pointer_spelling q = punct p.Star q.star ∷ consts q.constants

abbrev pub pointer_items : Items (Unit {0}) Pointer
pointer_items = record {
  spell = pointer_spelling;
  good = λ s names q. Unit {0};
  adds = λ names q. [];
  nest = λ q. 0;
  stop = λ q names rest. is_const (peek rest) ≡ false;
  goes = λ s. sees p.Star;
  step = λ s q. tt;
}

abbrev pub nothing_stop : Bool → Use → Bool → Names → Tokens → Type 0
nothing_stop true purpose typed names rest = ((sees p.LeftParen (names, rest) && opens_declarator purpose names (peek (behind rest))) ≡ false) × (takes_name purpose typed names (peek rest) ≡ false)
nothing_stop false purpose typed names rest = Unit {0}

unfoldable pub is_no_name : Direct → Bool
is_no_name x = is_nothing_layer (out-Direct x)

-- what stands in the middle of a declarator
abbrev pub middle_form : Use → Bool → Form Direct
middle_form purpose typed = record {
  spell = direct_spelling;
  good = λ names x. declares purpose typed (direct_level x names).0 ≡ true;
  adds = λ names x. (direct_level x names).1;
  nest = direct_nesting;
  stop = λ x names rest. nothing_stop (is_no_name x) purpose typed names rest;
}

abbrev pub behind_items : Items (Unit {0}) DeclaratorSuffix
behind_items = record {
  spell = declarator_suffix_spelling;
  good = λ s names x. (declarator_suffix_level x names).0.good ≡ true;
  adds = λ names x. (declarator_suffix_level x names).1;
  nest = declarator_suffix_nesting;
  stop = λ x names rest. Unit {0};
  goes = λ s i. sees p.LeftBracket i || sees p.LeftParen i;
  step = λ s x. tt;
}

-- the parts of a declarator
abbrev pub parts_form : Use → Bool → Form ((List Pointer × Direct) × List DeclaratorSuffix)
parts_form purpose typed = chain (open_seq (list pointer_items tt) (λ stars. middle_form purpose typed)) behind_items (λ t. tt)

abbrev pub parts_of : Declarator → (List Pointer × Direct) × List DeclaratorSuffix
parts_of d = (((out-Declarator d).pointers, (out-Declarator d).direct), (out-Declarator d).suffixes)

abbrev pub declarator_form : Use → Bool → Form Declarator
declarator_form purpose typed = record {
  spell = declarator_spelling;
  good = λ names d. declares purpose typed (declarator_level d names).0 ≡ true;
  adds = λ names d. (declarator_level d names).1;
  nest = declarator_nesting;
  stop = λ d names rest. (parts_form purpose typed).stop (parts_of d) names rest;
}

-- ---- type names

abbrev pub type_parts : Form (List Specifier × Declarator)
type_parts = open_seq (specifiers_form false) (λ specifiers. declarator_form Abstract (name_type specifiers))

abbrev pub type_form : Form TypeName
type_form = record {
  spell = type_name_spelling;
  good = λ names t. (type_name_level t names).0 ≡ true;
  adds = λ names t. (type_name_level t names).1;
  nest = type_name_nesting;
  stop = λ t names rest. type_parts.stop ((out-TypeName t).specifiers, (out-TypeName t).declarator) names rest;
}
