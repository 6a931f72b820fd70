-- The features that the profile leaves out, by the keywords and punctuators that tell them.
use Rattle.std.specs.Prelude.{Bool, true, false, ◌&&◌, ◌||◌, if◌then◌else◌, List, [], ◌∷◌, Option, Some, None}
use Rattle.c_tree.specs.declared.refusal.Feature.{Feature}
use Rattle.c_tree.specs.declared.refusal.Feature.TheVariants as feature
use Rattle.c_tree.specs.declared.token.Keyword.{Keyword}
use Rattle.c_tree.specs.declared.token.Keyword.TheVariants as word
use Rattle.c_tree.specs.declared.token.Punct.{Punct}
use Rattle.c_tree.specs.declared.token.Punct.TheVariants as mark
use Rattle.c_tree.specs.declared.token.TokenKind.TheVariants as token
use Rattle.c_lexer.specs.declared.reading.Reading.{Reading}
use Rattle.c_lexer.specs.declared.reading.Reading.TheVariants as reading

abbrev pub feature_of_keyword : Keyword → Option Feature
feature_of_keyword word.Float = Some feature.Float
feature_of_keyword word.Double = Some feature.Float
feature_of_keyword word.Complex = Some feature.Complex
feature_of_keyword word.Imaginary = Some feature.Complex
feature_of_keyword word.Atomic = Some feature.Atomic
feature_of_keyword word.ThreadLocal = Some feature.ThreadLocal
feature_of_keyword word.Volatile = Some feature.Volatile
feature_of_keyword word.Restrict = Some feature.Restrict
feature_of_keyword word.Inline = Some feature.Inline
feature_of_keyword word.NoReturn = Some feature.NoReturn
feature_of_keyword word.AlignAs = Some feature.AlignAs
feature_of_keyword word.AlignOf = Some feature.AlignOf
feature_of_keyword word.Generic = Some feature.Generic
feature_of_keyword word.StaticAssert = Some feature.StaticAssert
feature_of_keyword word.Union = Some feature.Union
feature_of_keyword word.Goto = Some feature.Goto
feature_of_keyword _ = None

-- a function with variable arguments
abbrev pub feature_of_punctuator : Punct → Option Feature
feature_of_punctuator mark.Ellipsis = Some feature.Variadic
feature_of_punctuator _ = None

-- ---- `long long`

-- the words that may stand between one `long` and another
abbrev pub goes_with_long : Keyword → Bool
goes_with_long word.Int = true
goes_with_long word.Signed = true
goes_with_long word.Unsigned = true
goes_with_long word.Const = true
goes_with_long word.Static = true
goes_with_long word.Extern = true
goes_with_long word.Typedef = true
goes_with_long word.Auto = true
goes_with_long word.Register = true
goes_with_long word.Long = true
goes_with_long _ = false

abbrev pub is_long : Reading → Bool
is_long (reading.Token (token.Keyword word.Long)) = true
is_long _ = false

abbrev pub is_with_long : Reading → Bool
is_with_long (reading.Token (token.Keyword keyword)) = goes_with_long keyword
is_with_long _ = false

-- among what stands before, the nearest first, there is a `long` with only such words since
abbrev pub has_long : List Reading → Bool
has_long [] = false
has_long (r ∷ before) = is_long r || (is_with_long r && has_long before)

-- the feature of a token, by whether such a `long` stands before it
abbrev pub feature_of : Bool → Reading → Option Feature
feature_of after_long (reading.LeftOut left_out) = Some left_out
feature_of after_long (reading.Token kind) = if is_long (reading.Token kind) && after_long then Some feature.LongLong else None
feature_of after_long (reading.Bad at) = None
