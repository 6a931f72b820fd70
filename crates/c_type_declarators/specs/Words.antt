-- Words that name a type, as a sign, a kind and `int`, each of which stands once at most (C11 6.7.2p2).
-- The clauses of `words` cite them; that they are the table is shown in proofs/NamedByWords.
use Rattle.std.specs.Prelude.{true, false, ◌||◌, not, ◌&&◌, if◌then◌else◌, List, [], ◌∷◌, Option, Some, None, is_some, is_none}
use Rattle.std.specs.Option.{option_and_then}
use Rattle.c_tree.specs.declared.specifier.TypeWord.{TypeWord}
use Rattle.c_tree.specs.declared.specifier.TypeWord.TheVariants as word
use Rattle.c_tree.specs.declared.typed.operator.Sign.{Sign}
use Rattle.c_tree.specs.declared.typed.operator.Sign.TheVariants as sign
use Rattle.c_tree.specs.declared.typed.types.Base.{Base}
use Rattle.c_tree.specs.declared.typed.types.Base.TheVariants as base
use Rattle.c_type_declarators.specs.declared.words.Kind.{Kind}
use Rattle.c_type_declarators.specs.declared.words.Kind.TheVariants as kind
use Rattle.c_type_declarators.specs.declared.words.Words.{Words}

abbrev pub no_words : Words
no_words = record { sign = None; kind = None; int = false }

-- ---- one word more

abbrev pub with_kind : Words → Kind → Option Words
with_kind ws k = elim ws.kind as (λ o. Option Words) [ None ↦ Some (record ws { kind = Some k }) | Some j ↦ None ]

abbrev pub with_sign : Words → Sign → Option Words
with_sign ws s = elim ws.sign as (λ o. Option Words) [ None ↦ Some (record ws { sign = Some s }) | Some j ↦ None ]

abbrev pub with_int : Words → Option Words
with_int ws = if ws.int then None else Some (record ws { int = true })

abbrev pub with_word : Words → TypeWord → Option Words
with_word ws word.Void = with_kind ws kind.Void
with_word ws word.Char = with_kind ws kind.Char
with_word ws word.Short = with_kind ws kind.Short
with_word ws word.Int = with_int ws
with_word ws word.Long = with_kind ws kind.Long
with_word ws word.Signed = with_sign ws sign.Signed
with_word ws word.Unsigned = with_sign ws sign.Unsigned
with_word ws word.Bool = with_kind ws kind.Bool

abbrev pub read_words : Words → List TypeWord → Option Words
read_words ws [] = Some ws
read_words ws (v ∷ vs) = option_and_then (λ us. read_words us vs) (with_word ws v)

-- ---- the type that they name

abbrev pub signed_or : Option Sign → (signed unsigned : Base) → Base
signed_or (Some sign.Unsigned) s u = u
signed_or (Some sign.Signed) s u = s
signed_or None s u = s

abbrev pub int_of : Words → Option Base
int_of ws = if is_none ws.sign && not ws.int then None else Some (signed_or ws.sign base.Int base.Unsigned)

abbrev pub alone : Words → Base → Option Base
alone ws b = if is_some ws.sign || ws.int then None else Some b

abbrev pub character_by : Option Sign → Base
character_by None = base.Char
character_by (Some sign.Signed) = base.SignedChar
character_by (Some sign.Unsigned) = base.UnsignedChar

abbrev pub character_of : Words → Option Base
character_of ws = if ws.int then None else Some (character_by ws.sign)

abbrev pub base_by : Option Kind → Words → Option Base
base_by None ws = int_of ws
base_by (Some kind.Void) ws = alone ws base.Void
base_by (Some kind.Bool) ws = alone ws base.Bool
base_by (Some kind.Char) ws = character_of ws
base_by (Some kind.Short) ws = Some (signed_or ws.sign base.Short base.UnsignedShort)
base_by (Some kind.Long) ws = Some (signed_or ws.sign base.Long base.UnsignedLong)

abbrev pub base_of : Words → Option Base
base_of ws = base_by ws.kind ws
