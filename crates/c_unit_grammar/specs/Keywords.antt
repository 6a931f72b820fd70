-- Written by tools/grammar_tables.py.
-- Whether two keywords are one, by a number for each.
use Rattle.std.specs.Prelude.{◌≡◌, ℕ, Bool, true, ◌==◌, if◌then◌else◌, refl}
use Rattle.std.proofs.Common.{ap, sym, ◌∙◌, arith}
use Rattle.std.proofs.lemmas.Bool.Decides.{nat_tests}
use Rattle.c_tree.specs.declared.token.Keyword.{Keyword}
use Rattle.c_tree.specs.declared.token.Keyword.TheVariants as word

abbrev pub code : Keyword → ℕ
code word.Auto = 0
code word.Break = 1
code word.Case = 2
code word.Char = 3
code word.Const = 4
code word.Continue = 5
code word.Default = 6
code word.Do = 7
code word.Double = 8
code word.Else = 9
code word.Enum = 10
code word.Extern = 11
code word.Float = 12
code word.For = 13
code word.Goto = 14
code word.If = 15
code word.Inline = 16
code word.Int = 17
code word.Long = 18
code word.Register = 19
code word.Restrict = 20
code word.Return = 21
code word.Short = 22
code word.Signed = 23
code word.Sizeof = 24
code word.Static = 25
code word.Struct = 26
code word.Switch = 27
code word.Typedef = 28
code word.Union = 29
code word.Unsigned = 30
code word.Void = 31
code word.Volatile = 32
code word.While = 33
code word.AlignAs = 34
code word.AlignOf = 35
code word.Atomic = 36
code word.Bool = 37
code word.Complex = 38
code word.Generic = 39
code word.Imaginary = 40
code word.NoReturn = 41
code word.StaticAssert = 42
code word.ThreadLocal = 43

abbrev decode : ℕ → Keyword
decode n = if n == 0 then word.Auto else (if n == 1 then word.Break else (if n == 2 then word.Case else (if n == 3 then word.Char else (if n == 4 then word.Const else (if n == 5 then word.Continue else (if n == 6 then word.Default else (if n == 7 then word.Do else (if n == 8 then word.Double else (if n == 9 then word.Else else (if n == 10 then word.Enum else (if n == 11 then word.Extern else (if n == 12 then word.Float else (if n == 13 then word.For else (if n == 14 then word.Goto else (if n == 15 then word.If else (if n == 16 then word.Inline else (if n == 17 then word.Int else (if n == 18 then word.Long else (if n == 19 then word.Register else (if n == 20 then word.Restrict else (if n == 21 then word.Return else (if n == 22 then word.Short else (if n == 23 then word.Signed else (if n == 24 then word.Sizeof else (if n == 25 then word.Static else (if n == 26 then word.Struct else (if n == 27 then word.Switch else (if n == 28 then word.Typedef else (if n == 29 then word.Union else (if n == 30 then word.Unsigned else (if n == 31 then word.Void else (if n == 32 then word.Volatile else (if n == 33 then word.While else (if n == 34 then word.AlignAs else (if n == 35 then word.AlignOf else (if n == 36 then word.Atomic else (if n == 37 then word.Bool else (if n == 38 then word.Complex else (if n == 39 then word.Generic else (if n == 40 then word.Imaginary else (if n == 41 then word.NoReturn else (if n == 42 then word.StaticAssert else (word.ThreadLocal)))))))))))))))))))))))))))))))))))))))))))

decode-code : (key : Keyword) → decode (code key) ≡ key
decode-code word.Auto = refl
decode-code word.Break = refl
decode-code word.Case = refl
decode-code word.Char = refl
decode-code word.Const = refl
decode-code word.Continue = refl
decode-code word.Default = refl
decode-code word.Do = refl
decode-code word.Double = refl
decode-code word.Else = refl
decode-code word.Enum = refl
decode-code word.Extern = refl
decode-code word.Float = refl
decode-code word.For = refl
decode-code word.Goto = refl
decode-code word.If = refl
decode-code word.Inline = refl
decode-code word.Int = refl
decode-code word.Long = refl
decode-code word.Register = refl
decode-code word.Restrict = refl
decode-code word.Return = refl
decode-code word.Short = refl
decode-code word.Signed = refl
decode-code word.Sizeof = refl
decode-code word.Static = refl
decode-code word.Struct = refl
decode-code word.Switch = refl
decode-code word.Typedef = refl
decode-code word.Union = refl
decode-code word.Unsigned = refl
decode-code word.Void = refl
decode-code word.Volatile = refl
decode-code word.While = refl
decode-code word.AlignAs = refl
decode-code word.AlignOf = refl
decode-code word.Atomic = refl
decode-code word.Bool = refl
decode-code word.Complex = refl
decode-code word.Generic = refl
decode-code word.Imaginary = refl
decode-code word.NoReturn = refl
decode-code word.StaticAssert = refl
decode-code word.ThreadLocal = refl

abbrev pub same_word : Keyword → Keyword → Bool
same_word a b = code a == code b

equal_numbers : (a b : ℕ) → (a == b) ≡ true → a ≡ b
equal_numbers a b h = grind (arith, nat_tests)

pub same_word-true : (a b : Keyword) → same_word a b ≡ true → a ≡ b
same_word-true a b h = sym (decode-code a) ∙ ap decode (equal_numbers (code a) (code b) h) ∙ decode-code b

equal_itself : (a : ℕ) → (a == a) ≡ true
equal_itself a = grind (arith, nat_tests)

pub same_word-itself : (a : Keyword) → same_word a a ≡ true
same_word-itself a = equal_itself (code a)
