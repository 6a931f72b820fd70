-- The form of an image, by the first offset at which bytes are wrong.
use Rattle.std.specs.Prelude.{ℕ, zero, suc, ◌+◌, ◌*◌, ◌%◌, ◌==◌, nat_lt, nat_le, Bool, ◌&&◌, if◌then◌else◌, List, [], ◌∷◌, length, slice_index, Option, Some, None}
use Rattle.std.specs.Int.{w32, from_le_bytes}
use Rattle.image_form.specs.Limits.{text_start, most_words, most_data, most_stack, stack_unit}
use Rattle.image_form.specs.Rightness.{is_right}

-- the number at an offset, low byte first
unfoldable pub word_at : List ℕ → ℕ → ℕ
word_at b at = from_le_bytes w32 (slice_index b at ∷ slice_index b (at + 1) ∷ slice_index b (at + 2) ∷ slice_index b (at + 3) ∷ [])

-- one check after another: where one fails, its offset
infixr 6 ◌>>◌
abbrev pub ◌>>◌ : Option ℕ → Option ℕ → Option ℕ
(Some at) >> later = Some at
None >> later = later

-- the bytes reach so far, or are wrong at their end
abbrev pub reaches : List ℕ → ℕ → Option ℕ
reaches b to = if nat_lt (length b) to then Some (length b) else None

-- an offset is wrong unless a test holds
abbrev pub unless : ℕ → Bool → Option ℕ
unless at holds = if holds then None else Some at

abbrev pub byte_is : List ℕ → ℕ → ℕ → Option ℕ
byte_is b at value = reaches b (at + 1) >> unless at (slice_index b at == value)

abbrev pub number_is : List ℕ → ℕ → (ℕ → Bool) → Option ℕ
number_is b at test = reaches b (at + 4) >> unless at (test (word_at b at))

-- a multiple of 4 inside the addresses of a text of so many words
abbrev pub is_entry : (words entry : ℕ) → Bool
is_entry words entry = nat_le text_start entry && nat_lt entry (text_start + 4 * words) && (entry % 4 == 0)

-- the numbers before the text: words of text, bytes of data, bytes of stack, entry, number of records
unfoldable pub header_wrong : List ℕ → Option ℕ
header_wrong b =
    byte_is b 0 82 >> byte_is b 1 86 >> byte_is b 2 73 >> byte_is b 3 49
    >> number_is b 4 (λ n. nat_le n most_words)
    >> number_is b 8 (λ n. nat_le n most_data)
    >> number_is b 12 (λ n. nat_le n most_stack && (n % stack_unit == 0))
    >> number_is b 16 (is_entry (word_at b 4))
    >> reaches b 24

-- the words of the record at an offset, from a place on
unfoldable pub words_wrong : List ℕ → (at place count : ℕ) → Option ℕ
words_wrong b at place zero = None
words_wrong b at place (suc count) =
    number_is b (at + 4 * place) (is_right (word_at b at) (word_at b (at + 8)) place) >> words_wrong b at (place + 1) count

-- so many records of 16 words, from an offset on
unfoldable pub records_wrong : List ℕ → (at count : ℕ) → Option ℕ
records_wrong b at zero = None
records_wrong b at (suc count) = words_wrong b at 0 16 >> records_wrong b (at + 64) count

-- text and data follow the header
abbrev pub records_start : List ℕ → ℕ
records_start b = 24 + 4 * word_at b 4 + word_at b 8

-- where bytes go on past their end, the first byte there is wrong
abbrev pub ends : List ℕ → ℕ → Option ℕ
ends b at = unless at (nat_le (length b) at)

-- the first offset at which bytes are not of the form
unfoldable pub first_wrong : List ℕ → Option ℕ
first_wrong b =
    header_wrong b
    >> reaches b (records_start b)
    >> records_wrong b (records_start b) (word_at b 20)
    >> ends b (records_start b + 64 * word_at b 20)
