-- Written by tools/grammar_tables.py.
-- Whether two punctuators are one, by a number for each.
use Rattle.std.specs.Prelude.{◌≡◌, ℕ, Bool, true, ◌==◌, if◌then◌else◌, refl}
use Rattle.std.proofs.Common.{ap, sym, ◌∙◌, arith}
use Rattle.std.proofs.lemmas.Bool.Decides.{nat_tests}
use Rattle.c_tree.specs.declared.token.Punct.{Punct}
use Rattle.c_tree.specs.declared.token.Punct.TheVariants as p

abbrev pub code : Punct → ℕ
code p.LeftBracket = 0
code p.RightBracket = 1
code p.LeftParen = 2
code p.RightParen = 3
code p.LeftBrace = 4
code p.RightBrace = 5
code p.Dot = 6
code p.Arrow = 7
code p.Increment = 8
code p.Decrement = 9
code p.Ampersand = 10
code p.Star = 11
code p.Plus = 12
code p.Minus = 13
code p.Tilde = 14
code p.Not = 15
code p.Slash = 16
code p.Percent = 17
code p.ShiftLeft = 18
code p.ShiftRight = 19
code p.Less = 20
code p.Greater = 21
code p.LessEqual = 22
code p.GreaterEqual = 23
code p.Equal = 24
code p.NotEqual = 25
code p.Caret = 26
code p.Bar = 27
code p.AndAnd = 28
code p.OrOr = 29
code p.Question = 30
code p.Colon = 31
code p.Semicolon = 32
code p.Ellipsis = 33
code p.Assign = 34
code p.StarAssign = 35
code p.SlashAssign = 36
code p.PercentAssign = 37
code p.PlusAssign = 38
code p.MinusAssign = 39
code p.ShiftLeftAssign = 40
code p.ShiftRightAssign = 41
code p.AmpersandAssign = 42
code p.CaretAssign = 43
code p.BarAssign = 44
code p.Comma = 45

abbrev decode : ℕ → Punct
decode n = if n == 0 then p.LeftBracket else (if n == 1 then p.RightBracket else (if n == 2 then p.LeftParen else (if n == 3 then p.RightParen else (if n == 4 then p.LeftBrace else (if n == 5 then p.RightBrace else (if n == 6 then p.Dot else (if n == 7 then p.Arrow else (if n == 8 then p.Increment else (if n == 9 then p.Decrement else (if n == 10 then p.Ampersand else (if n == 11 then p.Star else (if n == 12 then p.Plus else (if n == 13 then p.Minus else (if n == 14 then p.Tilde else (if n == 15 then p.Not else (if n == 16 then p.Slash else (if n == 17 then p.Percent else (if n == 18 then p.ShiftLeft else (if n == 19 then p.ShiftRight else (if n == 20 then p.Less else (if n == 21 then p.Greater else (if n == 22 then p.LessEqual else (if n == 23 then p.GreaterEqual else (if n == 24 then p.Equal else (if n == 25 then p.NotEqual else (if n == 26 then p.Caret else (if n == 27 then p.Bar else (if n == 28 then p.AndAnd else (if n == 29 then p.OrOr else (if n == 30 then p.Question else (if n == 31 then p.Colon else (if n == 32 then p.Semicolon else (if n == 33 then p.Ellipsis else (if n == 34 then p.Assign else (if n == 35 then p.StarAssign else (if n == 36 then p.SlashAssign else (if n == 37 then p.PercentAssign else (if n == 38 then p.PlusAssign else (if n == 39 then p.MinusAssign else (if n == 40 then p.ShiftLeftAssign else (if n == 41 then p.ShiftRightAssign else (if n == 42 then p.AmpersandAssign else (if n == 43 then p.CaretAssign else (if n == 44 then p.BarAssign else (p.Comma)))))))))))))))))))))))))))))))))))))))))))))

decode-code : (op : Punct) → decode (code op) ≡ op
decode-code p.LeftBracket = refl
decode-code p.RightBracket = refl
decode-code p.LeftParen = refl
decode-code p.RightParen = refl
decode-code p.LeftBrace = refl
decode-code p.RightBrace = refl
decode-code p.Dot = refl
decode-code p.Arrow = refl
decode-code p.Increment = refl
decode-code p.Decrement = refl
decode-code p.Ampersand = refl
decode-code p.Star = refl
decode-code p.Plus = refl
decode-code p.Minus = refl
decode-code p.Tilde = refl
decode-code p.Not = refl
decode-code p.Slash = refl
decode-code p.Percent = refl
decode-code p.ShiftLeft = refl
decode-code p.ShiftRight = refl
decode-code p.Less = refl
decode-code p.Greater = refl
decode-code p.LessEqual = refl
decode-code p.GreaterEqual = refl
decode-code p.Equal = refl
decode-code p.NotEqual = refl
decode-code p.Caret = refl
decode-code p.Bar = refl
decode-code p.AndAnd = refl
decode-code p.OrOr = refl
decode-code p.Question = refl
decode-code p.Colon = refl
decode-code p.Semicolon = refl
decode-code p.Ellipsis = refl
decode-code p.Assign = refl
decode-code p.StarAssign = refl
decode-code p.SlashAssign = refl
decode-code p.PercentAssign = refl
decode-code p.PlusAssign = refl
decode-code p.MinusAssign = refl
decode-code p.ShiftLeftAssign = refl
decode-code p.ShiftRightAssign = refl
decode-code p.AmpersandAssign = refl
decode-code p.CaretAssign = refl
decode-code p.BarAssign = refl
decode-code p.Comma = refl

abbrev pub same_mark : Punct → Punct → Bool
same_mark a b = code a == code b

equal_numbers : (a b : ℕ) → (a == b) ≡ true → a ≡ b
equal_numbers a b h = grind (arith, nat_tests)

pub same_mark-true : (a b : Punct) → same_mark a b ≡ true → a ≡ b
same_mark-true a b h = sym (decode-code a) ∙ ap decode (equal_numbers (code a) (code b) h) ∙ decode-code b

equal_itself : (a : ℕ) → (a == a) ≡ true
equal_itself a = grind (arith, nat_tests)

pub same_mark-itself : (a : Punct) → same_mark a a ≡ true
same_mark-itself a = equal_itself (code a)
