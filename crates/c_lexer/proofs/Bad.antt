-- What is wrong in a token stands within it.
use Rattle.std.proofs.Common.{ℕ, zero, suc, ◌+◌, ◌-◌, ◌<◌, ◌≤◌, Bool, true, false, ◌&&◌, cond, List, [], ◌∷◌, length, take, drop, Option, Some, None, arith, length-drop, length-take}
use Rattle.std.specs.Prelude.{IfSome, nat_lt}
use Rattle.c_tree.specs.declared.token.Keyword.{Keyword}
use Rattle.c_tree.specs.declared.refusal.Feature.{Feature}
use Rattle.c_tree.specs.declared.refusal.Feature.TheVariants as feature
use Rattle.c_tree.specs.declared.token.TokenKind.{TokenKind}
use Rattle.c_tree.specs.declared.token.TokenKind.TheVariants as token
use Rattle.c_lexer.specs.declared.lexeme.Form.{Form}
use Rattle.c_lexer.specs.declared.lexeme.Form.TheVariants as form
use Rattle.c_lexer.specs.declared.literal.Element.{Element}
use Rattle.c_lexer.specs.declared.literal.Element.TheVariants as element
use Rattle.c_lexer.specs.declared.literal.Opening.{Opening}
use Rattle.c_lexer.specs.declared.number.IntType.{IntType}
use Rattle.c_lexer.specs.declared.number.IntType.TheVariants.{Int, Unsigned, Long, UnsignedLong, LongLong, UnsignedLongLong}
use Rattle.c_lexer.specs.declared.reading.Reading.{Reading}
use Rattle.c_lexer.specs.declared.reading.Reading.TheVariants.{Bad, LeftOut, Token}
use Rattle.c_lexer.specs.Fronts.{Text, is_empty}
use Rattle.c_lexer.specs.Names.{keyword_of}
use Rattle.c_lexer.specs.Numbers.{Constant, constant_of, type_of, is_floating, reading_of_type, reading_by, reading_of_number}
use Rattle.c_lexer.specs.Literals.{is_single_quote, element_of, elements_from, first_bad, has_universal, values, reading_of_character, reading_of_values, reading_of_elements, elements_of, reading_of_opened}
use Rattle.c_lexer.specs.Features.{feature_of_keyword, feature_of_punctuator}
use Rattle.c_lexer.specs.Lexemes.{left_out_or, reading_of_word}
use Rattle.c_lexer.specs.Scan.{Suits, reading_as, IsWithin}

within_cond : (n : ℕ) (b : Bool) (x y : Reading) → IsWithin n x → IsWithin n y → IsWithin n (cond b x y)
within_cond n true x y h k = h
within_cond n false x y h k = k

-- ---- words and punctuators

left_out_within : (n : ℕ) (left_out : Option Feature) (kind : TokenKind) → IsWithin n (left_out_or left_out kind)
left_out_within n None kind = tt
left_out_within n (Some left_out) kind = tt

word_within : (n : ℕ) (text : Text) (keyword : Option Keyword) → IsWithin n (reading_of_word text keyword)
word_within n text None = tt
word_within n text (Some keyword) = left_out_within n (feature_of_keyword keyword) (token.Keyword keyword)

-- ---- numbers

type_within : (n value : ℕ) (t : Option IntType) → IsWithin n (reading_of_type value t)
type_within n value None = omega arith
type_within n value (Some Int) = tt
type_within n value (Some Unsigned) = tt
type_within n value (Some Long) = tt
type_within n value (Some UnsignedLong) = tt
type_within n value (Some LongLong) = tt
type_within n value (Some UnsignedLongLong) = tt

number_within_by : (n : ℕ) (text : Text) (c : Option Constant) → IsWithin n (reading_by text c)
number_within_by n text (Some c) = type_within n c.value (type_of c)
number_within_by n text None = within_cond n (is_floating text) (LeftOut feature.Float) (Bad 0) tt (omega arith)

number_within : (n : ℕ) (text : Text) → IsWithin n (reading_of_number text)
unfolding reading_of_number
number_within n text = number_within_by n text (constant_of text)

-- ---- literals

bad_more : (n at : ℕ) (e : Element) (rest : List (ℕ × Element)) → at ≤ n → IfSome (first_bad rest) (λ k. k ≤ n) → IfSome (first_bad ((at, e) ∷ rest)) (λ k. k ≤ n)
bad_more n at (element.Bad) rest h k = h
bad_more n at (element.Byte value) rest h k = k
bad_more n at (element.Universal) rest h k = k

bad_within_by : (n left at : ℕ) (inside : Text) → at + length inside ≤ n → IfSome (first_bad (elements_from left at inside)) (λ k. k ≤ n)
bad_within_by n left at [] h = tt
bad_within_by n (suc left) at (b ∷ inside) h = bad_within_by n left (at + 1) inside (omega arith)
bad_within_by n zero at (b ∷ inside) h =
    bad_more n at (element_of (b ∷ inside)).0 (elements_from ((element_of (b ∷ inside)).1 - 1) (at + 1) inside) (omega arith)
    (bad_within_by n ((element_of (b ∷ inside)).1 - 1) (at + 1) inside (omega arith))

character_within : (n : ℕ) (vs : List ℕ) → IsWithin n (reading_of_character vs)
character_within n [] = omega arith
character_within n (v ∷ []) = tt
character_within n (v ∷ w ∷ vs) = tt

elements_within : (n : ℕ) (o : Opening) (elements : List (ℕ × Element)) (bad : Option ℕ) → IfSome bad (λ k. k ≤ n) → IsWithin n (reading_of_elements o elements bad)
elements_within n o elements (Some at) h = h
elements_within n o elements None h =
    within_cond n (is_single_quote o.quote && is_empty elements) (Bad 0)
    (cond (nat_lt 1 o.length) (LeftOut feature.Wide) (cond (has_universal elements) (LeftOut feature.UniversalName) (reading_of_values o elements))) (omega arith)
    (within_cond n (nat_lt 1 o.length) (LeftOut feature.Wide) (cond (has_universal elements) (LeftOut feature.UniversalName) (reading_of_values o elements)) tt
    (within_cond n (has_universal elements) (LeftOut feature.UniversalName) (reading_of_values o elements) tt
    (within_cond n (is_single_quote o.quote) (reading_of_character (values elements)) (Token (token.Bytes (values elements))) (character_within n (values elements)) tt)))

literal_within : (text : Text) (o : Opening) → o.length < length text → IsWithin (length text) (reading_of_opened text (Some o))
literal_within text o h =
    let inside : Text = take (length text - 1 - o.length) (drop o.length text) in
    let fits : o.length + length (take (length text - 1 - o.length) (drop o.length text)) ≤ length text =
    omega (arith, length-take (length text - 1 - o.length) (drop o.length text), length-drop o.length text) in
    elements_within (length text) o (elements_of text o) (first_bad (elements_of text o)) (bad_within_by (length text) 0 o.length (take (length text - 1 - o.length) (drop o.length text)) fits)

pub reading_within : (f : Form) (text : Text) → Suits f (length text) → IsWithin (length text) (reading_as f text)
reading_within form.Word text h = word_within (length text) text (keyword_of text)
reading_within form.Number text h = number_within (length text) text
reading_within (form.Literal o) text h = literal_within text o h
reading_within (form.Punctuator m) text h = left_out_within (length text) (feature_of_punctuator m) (token.Punct m)
