-- The bytes of an image. All numbers are words of 32 bits, low byte first.
use Rattle.std.specs.Prelude.{ℕ, List, [], ◌∷◌, ◌++◌, length}
use Rattle.std.specs.List.{flat_map}
use Rattle.std.specs.Int.{w32, to_le_bytes}
use Rattle.term_form.specs.declared.listing.Record.{Record}
use Rattle.image_form.specs.declared.image.Image.{Image}
use Rattle.image_form.specs.Words.{words_of}

abbrev pub number_bytes : ℕ → List ℕ
number_bytes n = to_le_bytes w32 n

-- RVI1
abbrev pub magic : List ℕ
magic = 82 ∷ 86 ∷ 73 ∷ 49 ∷ []

abbrev pub record_bytes : Record → List ℕ
record_bytes r = flat_map number_bytes (words_of r)

-- the magic, five numbers, the text, the data, the records
abbrev pub bytes_of : Image → List ℕ
bytes_of i = magic
    ++ number_bytes (length i.text) ++ number_bytes (length i.statics) ++ number_bytes i.stack ++ number_bytes i.entry ++ number_bytes (length i.listing.records)
    ++ flat_map number_bytes i.text ++ i.statics ++ flat_map record_bytes i.listing.records
