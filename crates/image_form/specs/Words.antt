-- A record as 16 words: the kind first, and 0 for each word that its kind does not name.
use Rattle.std.specs.Prelude.{ℕ, Option, Some, None, List, [], ◌∷◌, ◌++◌, if◌then◌else◌}
use Rattle.std.specs.Int.{w32, cast_unsigned}
use Rattle.term_form.specs.declared.term.Term.{Term}
use Rattle.term_form.specs.declared.facts.Facts.{Facts}
use Rattle.term_form.specs.declared.listing.Effect.{Effect}
use Rattle.term_form.specs.declared.listing.Effect.TheVariants as effects
use Rattle.term_form.specs.declared.listing.Record.{Record}
use Rattle.term_form.specs.declared.listing.Record.TheVariants as records
use Rattle.term_form.specs.Records.{none_word}
use Rattle.image_form.specs.Codes.{term_code, store_code, call_code, get_code, put_code, exit_code, end_code}

-- a number, or the word that says that there is none
abbrev pub option_word : Option ℕ → ℕ
option_word None = none_word
option_word (Some n) = n

abbrev pub option_term_word : Option Term → ℕ
option_term_word None = none_word
option_term_word (Some t) = t.0

-- a signed number stands in two's complement
abbrev pub facts_words : Facts → List ℕ
facts_words f = cast_unsigned w32 f.low ∷ cast_unsigned w32 f.high ∷ f.least ∷ f.most ∷ f.zeros ∷ f.ones ∷ f.modulus ∷ f.rest ∷ []

-- the words of an effect of a block, at an address: its kind, the address, and three words, of which those that it does not use say that there is none
abbrev pub effect_words : ℕ → ℕ → Effect → List ℕ
effect_words block at (effects.Store width address value) = block ∷ store_code width ∷ at ∷ address.0 ∷ value.0 ∷ none_word ∷ []
effect_words block at (effects.Call function arguments called) = block ∷ call_code ∷ at ∷ function ∷ arguments ∷ option_term_word called ∷ []
effect_words block at (effects.Get got) = block ∷ get_code ∷ at ∷ got.0 ∷ none_word ∷ none_word ∷ []
effect_words block at (effects.Put term) = block ∷ put_code ∷ at ∷ term.0 ∷ none_word ∷ none_word ∷ []
effect_words block at (effects.Exit term) = block ∷ exit_code ∷ at ∷ term.0 ∷ none_word ∷ none_word ∷ []

abbrev pub words_of : Record → List ℕ
words_of (records.Function f) = 1 ∷ f.number ∷ f.entry ∷ f.frame ∷ f.parameters ∷ (if f.value then 1 else 0) ∷ 0 ∷ 0 ∷ 0 ∷ 0 ∷ 0 ∷ 0 ∷ 0 ∷ 0 ∷ 0 ∷ 0 ∷ []
words_of (records.Block b) = 2 ∷ b.number ∷ b.function ∷ option_word b.parent ∷ b.address ∷ 0 ∷ 0 ∷ 0 ∷ 0 ∷ 0 ∷ 0 ∷ 0 ∷ 0 ∷ 0 ∷ 0 ∷ 0 ∷ []
words_of (records.Term t) = (3 ∷ t.term.0 ∷ option_word t.block ∷ term_code t.kind t.mode ∷ t.a ∷ t.b ∷ t.address ∷ t.place ∷ []) ++ facts_words t.facts
words_of (records.Effect e) = 4 ∷ (effect_words e.block e.address e.effect ++ 0 ∷ 0 ∷ 0 ∷ 0 ∷ 0 ∷ 0 ∷ 0 ∷ 0 ∷ 0 ∷ [])
words_of (records.Argument a) = 5 ∷ a.position ∷ a.term.0 ∷ 0 ∷ 0 ∷ 0 ∷ 0 ∷ 0 ∷ 0 ∷ 0 ∷ 0 ∷ 0 ∷ 0 ∷ 0 ∷ 0 ∷ 0 ∷ []
words_of (records.Edge e) = 6 ∷ e.from ∷ e.to ∷ e.phi.0 ∷ e.argument.0 ∷ 0 ∷ 0 ∷ 0 ∷ 0 ∷ 0 ∷ 0 ∷ 0 ∷ 0 ∷ 0 ∷ 0 ∷ 0 ∷ []
words_of (records.End e) = 7 ∷ e.block ∷ end_code e.kind ∷ option_term_word e.term ∷ option_word e.first ∷ option_word e.second ∷ e.address ∷ 0 ∷ 0 ∷ 0 ∷ 0 ∷ 0 ∷ 0 ∷ 0 ∷ 0 ∷ 0 ∷ []
