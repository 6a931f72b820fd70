-- Which words of a record are right, given its kind.
use Rattle.std.specs.Prelude.{ℕ, ◌/◌, ◌%◌, Bool, true, ◌&&◌, ◌||◌, nat_le, ◌==◌, if◌then◌else◌}
use Rattle.std.specs.Int.{is_in_range}
use Rattle.term_form.specs.Records.{none_word}
use Rattle.image_form.specs.Codes.{call_code}

-- how many words a record of a kind names, the kind among them
abbrev pub words_named : ℕ → ℕ
words_named kind =
    if kind == 1 then 6 else if kind == 2 then 5 else if kind == 3 then 16 else if kind == 4 then 7 else if kind == 5 then 3 else if kind == 6 then 5 else 7

-- a word is an op code with a mode
abbrev pub is_term_code : ℕ → Bool
is_term_code word =
    is_in_range 1 3 (word / 65536)
    && (is_in_range 1 27 (word % 65536) || is_in_range 100 106 (word % 65536) || is_in_range 110 114 (word % 65536))

-- the effect of a code uses the word at this place: all have a first, stores and calls a second, calls a third
abbrev pub is_used : (effect place : ℕ) → Bool
is_used effect place = (place == 4) || ((place == 5) && nat_le effect call_code) || ((place == 6) && (effect == call_code))

-- the word at a place below 16 is right in a record of this kind, which for an effect has this code
abbrev pub is_right : (kind effect place word : ℕ) → Bool
is_right kind effect place word =
    if place == 0 then is_in_range 1 7 word
    else if nat_le (words_named kind) place then word == 0
    else if (kind == 1) && (place == 5) then nat_le word 1
    else if (kind == 3) && (place == 3) then is_term_code word
    else if (kind == 4) && (place == 2) then is_in_range 1 7 word
    else if (kind == 4) && nat_le 4 place then is_used effect place || (word == none_word)
    else if (kind == 7) && (place == 2) then is_in_range 1 4 word
    else true
