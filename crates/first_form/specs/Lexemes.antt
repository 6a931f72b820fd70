-- The words of a source of the first form.
use Rattle.std.specs.List.{prefix_len}
use Rattle.std.specs.Prelude.{ℕ, Bool, false, ◌==◌, ◌&&◌, ◌||◌, nat_le, if◌then◌else◌, List, [], ◌∷◌}

-- white space: space, tab, newline, vertical tab and form feed (C11 6.4p3), and carriage return
abbrev pub is_space : ℕ → Bool
is_space b = b == 32 || (nat_le 9 b && nat_le b 13)

-- a letter, a digit or an underscore
abbrev pub is_word : ℕ → Bool
is_word b = (nat_le 97 b && nat_le b 122) || ((nat_le 65 b && nat_le b 90) || ((nat_le 48 b && nat_le b 57) || b == 95))

abbrev pub starts_word : List ℕ → Bool
starts_word [] = false
starts_word (b ∷ bs) = is_word b

-- a byte in front of the first of some lexemes
abbrev pub onto_first : ℕ → List (List ℕ) → List (List ℕ)
onto_first b [] = (b ∷ []) ∷ []
onto_first b (t ∷ ts) = (b ∷ t) ∷ ts

-- the lexemes of some bytes: the longest runs of letters, digits and underscores, and each other byte
-- that is no white space by itself
abbrev pub lexemes : List ℕ → List (List ℕ)
lexemes [] = []
lexemes (b ∷ bs) = if is_space b then lexemes bs
    else if is_word b && starts_word bs then onto_first b (lexemes bs)
    else (b ∷ []) ∷ lexemes bs

-- the length of the lexeme in front of some bytes that no white space begins
abbrev pub lexeme_length : List ℕ → ℕ
lexeme_length [] = 0
lexeme_length (b ∷ bs) = if is_word b then prefix_len is_word (b ∷ bs) else 1
