-- The limits of the form of an image, and the values that an image can have.
use Rattle.std.specs.Prelude.{◌≡◌, ℕ, ◌+◌, ◌*◌, ◌%◌, ◌^◌, ◌<◌, ◌≤◌, length, All, FitsSigned}
use Rattle.std.specs.Int.{w32}
use Rattle.term_form.specs.declared.listing.Record.{Record}
use Rattle.term_form.specs.declared.listing.Record.TheVariants as records
use Rattle.term_form.specs.Records.{IsToldRecord}
use Rattle.image_form.specs.declared.image.Image.{Image}
use Rattle.image_form.specs.Words.{words_of}

-- the address of the first word of the text
abbrev pub text_start : ℕ
text_start = 0x10000

-- how many words a text has at most, how many bytes data and a stack, and of which number a stack's bytes are a multiple
abbrev pub most_words : ℕ
most_words = 2 ^ 28

abbrev pub most_data : ℕ
most_data = 2 ^ 24

abbrev pub most_stack : ℕ
most_stack = 2 ^ 30

abbrev pub stack_unit : ℕ
stack_unit = 8

-- what has a form as bytes
pub record IsWithinLimits (i : Image) : Type 0 where
  pub text : length i.text ≤ most_words
  pub statics : length i.statics ≤ most_data
  pub stack : i.stack ≤ most_stack
  pub stack_step : i.stack % stack_unit ≡ 0
  pub entry_low : text_start ≤ i.entry
  pub entry_high : i.entry < text_start + 4 * length i.text
  pub entry_step : i.entry % 4 ≡ 0
  pub records : length i.listing.records < 2 ^ 32
  pub told : All IsToldRecord i.listing.records

-- the signed numbers of a record are those of 32 bits
abbrev pub HasSignedFacts : Record → Type 0
HasSignedFacts (records.Function f) = Unit {0}
HasSignedFacts (records.Block b) = Unit {0}
HasSignedFacts (records.Term t) = FitsSigned w32 t.facts.low × FitsSigned w32 t.facts.high
HasSignedFacts (records.Effect e) = Unit {0}
HasSignedFacts (records.Argument a) = Unit {0}
HasSignedFacts (records.Edge e) = Unit {0}
HasSignedFacts (records.End e) = Unit {0}

-- the numbers of a record are those of their types
pub record IsRecord (r : Record) : Type 0 where
  pub words : All (λ w. w < 2 ^ 32) (words_of r)
  pub signed : HasSignedFacts r

-- the numbers of an image are those of their types: in a law, a variable ranges over all numbers
pub record IsImage (i : Image) : Type 0 where
  pub text : All (λ w. w < 2 ^ 32) i.text
  pub statics : All (λ x. x < 2 ^ 8) i.statics
  pub stack : i.stack < 2 ^ 32
  pub entry : i.entry < 2 ^ 32
  pub records : All IsRecord i.listing.records
