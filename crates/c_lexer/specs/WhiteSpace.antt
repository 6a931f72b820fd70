-- What stands between tokens: white space (C11 6.4p3), comments (C11 6.4.9), and the marker lines of a preprocessor.
use Rattle.std.specs.Prelude.{ℕ, Bool, false, not, ◌&&◌, ◌||◌, ◌==◌, nat_eq, if◌then◌else◌, [], ◌∷◌, drop, codes}
use Rattle.std.specs.Char.{is_ascii_digit}
use Rattle.std.specs.List.{starts_with, list_all}
use Rattle.c_lexer.specs.Fronts.{Text, begins_with, is_one_of}

abbrev pub is_newline : ℕ → Bool
is_newline b = b == 10

-- space, tab, newline, vertical tab and form feed; and carriage return, which is this project's own
abbrev pub is_white_space : ℕ → Bool
is_white_space b = is_one_of (codes " \t\n\u{b}\u{c}\r") b

-- one byte of white space
abbrev pub is_space : Text → Bool
is_space [] = false
is_space (b ∷ []) = is_white_space b
is_space (b ∷ c ∷ bytes) = false

-- no newline stands in the text
abbrev pub is_within_line : Text → Bool
is_within_line bytes = list_all (λ b. not (is_newline b)) bytes

-- `//` and what follows in the line
abbrev pub is_line_comment : Text → Bool
is_line_comment bytes = starts_with nat_eq bytes (codes "//") && is_within_line bytes

abbrev pub opens_comment : Text → Bool
opens_comment bytes = starts_with nat_eq bytes (codes "/*")

-- the text ends with its first `*/`; a star may stand before it
abbrev pub ends_comment : Bool → Text → Bool
ends_comment after_star [] = false
ends_comment after_star (b ∷ []) = after_star && b == 47
ends_comment after_star (b ∷ c ∷ bytes) = not (after_star && b == 47) && ends_comment (b == 42) (c ∷ bytes)

-- from `/*` to the next `*/`
abbrev pub is_block_comment : Text → Bool
is_block_comment bytes = opens_comment bytes && ends_comment false (drop 2 bytes)

-- a space or a tab
abbrev pub is_blank : ℕ → Bool
is_blank b = is_one_of (codes " \t") b

abbrev pub past_blanks : Text → Text
past_blanks [] = []
past_blanks (b ∷ bytes) = if is_blank b then past_blanks bytes else b ∷ bytes

-- what follows `#` in a marker line: a digit, as in `# 1 "a.c"`, or `pragma`
abbrev pub begins_marker : Text → Bool
begins_marker bytes = begins_with is_ascii_digit bytes || starts_with nat_eq bytes (codes "pragma")

-- blanks, `#`, blanks, and such a beginning
abbrev pub opens_marker : Text → Bool
opens_marker bytes = begins_with (λ b. b == 35) (past_blanks bytes) && begins_marker (past_blanks (drop 1 (past_blanks bytes)))

abbrev pub is_marker_line : Text → Bool
is_marker_line bytes = opens_marker bytes && is_within_line bytes

-- what stands between tokens: white space, a comment, or a marker line where a line begins
abbrev pub is_gap : Bool → Text → Bool
is_gap at_line_start bytes = is_space bytes || (is_line_comment bytes || (is_block_comment bytes || (at_line_start && is_marker_line bytes)))
