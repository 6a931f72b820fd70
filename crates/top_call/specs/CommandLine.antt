-- The command line of a list of words.
use Rattle.std.specs.Prelude.{ℕ, Bool, true, not, ◌==◌, if◌then◌else◌, List, [], ◌∷◌, Option, Some, None, codes}
use Rattle.std.specs.Str.{bytes_eq}

-- what is asked for, with the name of the file that it is asked of
pub data Line : Type 0 where
  Exec : (file : List ℕ) → Line
  Run : (image : List ℕ) → Line

-- a word that does not begin with `-`
abbrev pub is_plain : List ℕ → Bool
is_plain [] = true
is_plain (b ∷ bs) = not (b == 45)

-- the line of a command's name and a plain word
abbrev pub line_of_command : List ℕ → List ℕ → Option Line
line_of_command command file = if bytes_eq command (codes "exec") then Some (Exec file)
    else if bytes_eq command (codes "run") then Some (Run file)
    else None

-- the command line of some words: a command and one plain word
abbrev pub line_of : List (List ℕ) → Option Line
line_of (command ∷ file ∷ []) = if is_plain file then line_of_command command file else None
line_of _ = None
