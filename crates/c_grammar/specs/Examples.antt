-- Short lists of tokens, and what the grammar reads of them.
use Rattle.std.specs.Prelude.{◌≡◌, ℕ, suc, true, false, List, [], ◌∷◌, Some, None, Ok, Err, refl}
use denote.Hole.Carrier.{out}
use Rattle.c_tree.specs.declared.token.Pos.{Pos}
use Rattle.c_tree.specs.declared.token.IntKind.TheVariants.{Int}
use Rattle.c_tree.specs.declared.token.Punct.{Punct}
use Rattle.c_tree.specs.declared.token.Punct.TheVariants as p
use Rattle.c_tree.specs.declared.token.Keyword.{Keyword}
use Rattle.c_tree.specs.declared.token.Keyword.TheVariants as word
use Rattle.c_tree.specs.declared.token.TokenKind.{TokenKind}
use Rattle.c_tree.specs.declared.token.TokenKind.TheVariants as k
use Rattle.c_tree.specs.declared.expression.Identifier.{Identifier}
use Rattle.c_tree.specs.declared.expression.Level.TheVariants as level
use Rattle.c_tree.specs.declared.expression.Expr.{Expr, out-Expr}
use Rattle.c_tree.specs.declared.expression.Expr.TheVariants as expr
use Rattle.c_tree.specs.declared.expression.Prefix.{out-Prefix}
use Rattle.c_tree.specs.declared.expression.Prefix.TheVariants as prefix
use Rattle.c_tree.specs.declared.expression.Suffix.TheVariants as suffix
use Rattle.c_tree.specs.declared.expression.Next.{Next, roll-Next}
use Rattle.c_tree.specs.declared.expression.TypeName.{TypeName, roll-TypeName}
use Rattle.c_tree.specs.declared.specifier.Specifier.{Specifier, out-Specifier}
use Rattle.c_tree.specs.declared.specifier.Specifier.TheVariants as specifier
use Rattle.c_tree.specs.declared.specifier.TypeWord.TheVariants as type
use Rattle.c_tree.specs.declared.specifier.Enumerator.TheVariants as enumerator
use Rattle.c_tree.specs.declared.declarator.Pointer.{Pointer}
use Rattle.c_tree.specs.declared.declarator.Declarator.{Declarator, roll-Declarator}
use Rattle.c_tree.specs.declared.declarator.Direct.{Direct, out-Direct}
use Rattle.c_tree.specs.declared.declarator.Direct.TheVariants as direct
use Rattle.c_tree.specs.declared.declarator.DeclaratorSuffix.{DeclaratorSuffix}
use Rattle.c_tree.specs.declared.declarator.DeclaratorSuffix.TheVariants as behind
use Rattle.c_tree.specs.declared.declarator.Parameter.{roll-Parameter}
use Rattle.c_tree.specs.Levels.Names.{Names}
use Rattle.c_tree.specs.Levels.Productions.{comma}
use Rattle.c_tree.specs.Levels.Facts.{Declaring, Parameter as Parametric}
use Rattle.c_grammar.specs.Input as input
use Rattle.c_grammar.specs.Input.{Tokens, State, Outcome, Syntax, Nest}
use Rattle.c_grammar.specs.Read.Nodes as nodes
use Rattle.c_grammar.specs.Read.Inner as inner
use Rattle.c_grammar.specs.Read.Expressions as expressions
use Rattle.c_grammar.specs.Read.Specifiers as specifiers
use Rattle.c_grammar.specs.Read.Declarators as declarators
use Rattle.c_grammar.specs.Read.Depth as depth

abbrev at : ℕ → Pos
at n = record { line = 1; column = n }

-- tokens side by side, the first in this column
abbrev columns : ℕ → List TokenKind → Tokens
columns n [] = []
columns n (kind ∷ kinds) = record { kind = kind; place = at n } ∷ columns (suc n) kinds

abbrev m : Punct → TokenKind
m op = k.Punct op

abbrev w : Keyword → TokenKind
w key = k.Keyword key

-- the names, each one byte long
abbrev n : ℕ → TokenKind
n byte = k.Name (byte ∷ [])

abbrev a : ℕ
a = 97

abbrev b : ℕ
b = 98

abbrev c : ℕ
c = 99

abbrev t : ℕ
t = 84

-- `T` is a typedef name
abbrev with_t : Names
with_t = ((t ∷ []), true) ∷ []

abbrev id : ℕ → ℕ → Identifier
id byte column = record { text = byte ∷ []; place = at column }

abbrev v : ℕ → ℕ → Expr
v byte column = expr.Name (id byte column)

abbrev next : Punct → ℕ → Expr → Next
next op column x = roll-Next (record { operator = record { punct = op; place = at column }; operand = x })

abbrev declarator : List Pointer → Direct → List DeclaratorSuffix → Declarator
declarator pointers d suffixes = roll-Declarator (record { pointers = pointers; direct = d; suffixes = suffixes })

abbrev nothing : Declarator
nothing = declarator [] direct.Nothing []

abbrev type_t : ℕ → TypeName
type_t column = roll-TypeName (record { specifiers = specifier.TypedefName (id t column) ∷ []; declarator = nothing })

abbrev reads : ℕ → Names → List TokenKind → Outcome Expr
reads more names kinds = depth.expression more comma (names, columns 1 kinds)

abbrev declares_with : Names → List TokenKind → Outcome Declarator
declares_with names kinds = depth.declarator 3 Declaring true (names, columns 1 kinds)

abbrev parameter_with : Names → List TokenKind → Outcome Declarator
parameter_with names kinds = depth.declarator 3 Parametric true (names, columns 1 kinds)

abbrev specifies_with : Names → List TokenKind → Outcome (List Specifier)
specifies_with names kinds = depth.specifiers 3 true (names, columns 1 kinds)

-- expressions
abbrev pub ExpressionsRead : Type 0
ExpressionsRead =
    (reads 3 [] (n a ∷ m p.Plus ∷ n b ∷ m p.Assign ∷ n c ∷ m p.Semicolon ∷ []) ≡ Ok (expr.Binary level.Sum (v a 1) (next p.Plus 2 (v b 3) ∷ []), ([], columns 4 (m p.Assign ∷ n c ∷ m p.Semicolon ∷ []))))
    × (reads 3 [] (n a ∷ m p.Assign ∷ n b ∷ m p.Assign ∷ n c ∷ m p.Semicolon ∷ []) ≡ Ok (expr.Assign (v a 1) (next p.Assign 2 (v b 3) ∷ next p.Assign 4 (v c 5) ∷ []), ([], columns 6 (m p.Semicolon ∷ []))))
    × (reads 3 [] (n a ∷ m p.Comma ∷ n b ∷ m p.Question ∷ n c ∷ m p.Semicolon ∷ []) ≡ Err (Syntax, columns 6 (m p.Semicolon ∷ [])))
    × (reads 3 [] (k.Bytes (a ∷ []) ∷ k.Bytes (b ∷ []) ∷ m p.LeftBracket ∷ n c ∷ m p.RightBracket ∷ []) ≡ Ok (expr.Postfix (expr.Strings (record { bytes = a ∷ []; place = at 1 } ∷ record { bytes = b ∷ []; place = at 2 } ∷ [])) (suffix.Index (at 3) (v c 4) (at 5) ∷ []), ([], columns 6 [])))

pub expressions_read : ExpressionsRead
unfolding input.peek input.behind input.one input.opening input.loop nodes.is_cast nodes.is_unary nodes.ties nodes.is_type nodes.is_typedef_word nodes.is_nothing inner.type_name expressions.sees_cast expressions.sees_sizeof_type expressions.goes_prefix expressions.after_operator expressions.nexts expressions.binary expressions.assigned_by expressions.commas_by expressions.paren expressions.strings expressions.primary expressions.index expressions.call expressions.member expressions.arrow expressions.increment expressions.decrement expressions.one_suffix expressions.postfixed expressions.cast_prefix expressions.one_prefix expressions.sizeof_type expressions.prefixed expressions.cast expressions.product expressions.sum expressions.shift expressions.relation expressions.equality expressions.bit_and expressions.bit_xor expressions.bit_or expressions.and expressions.or expressions.branch expressions.conditional expressions.assignment expressions.comma expressions.expression specifiers.member specifiers.struct_body specifiers.struct_specifier specifiers.one_enumerator specifiers.next_enumerator specifiers.enum_body specifiers.enum_specifier specifiers.one_specifier specifiers.specifiers declarators.pointer declarators.pointers declarators.grouped declarators.middle declarators.array declarators.parameter declarators.next_parameter declarators.parameters declarators.one_suffix declarators.declarator depth.inside depth.expression depth.specifiers depth.declarator out-Expr out-Prefix out-Specifier out-Direct out
expressions_read = (refl, refl, refl, refl)

-- casts and `sizeof`, with `T` a typedef name or not
abbrev pub CastsRead : Type 0
CastsRead =
    (reads 3 with_t (m p.LeftParen ∷ n t ∷ m p.RightParen ∷ m p.LeftParen ∷ n a ∷ m p.RightParen ∷ []) ≡ Ok (expr.Prefixed (prefix.Cast (at 1) (type_t 2) (at 3) ∷ []) (expr.Paren (at 4) (v a 5) (at 6)), (with_t, columns 7 [])))
    × (reads 3 [] (m p.LeftParen ∷ n t ∷ m p.RightParen ∷ m p.LeftParen ∷ n a ∷ m p.RightParen ∷ []) ≡ Ok (expr.Postfix (expr.Paren (at 1) (v t 2) (at 3)) (suffix.CallWith (at 4) (v a 5) [] (at 6) ∷ []), ([], columns 7 [])))
    × (reads 3 with_t (w word.Sizeof ∷ m p.LeftParen ∷ n t ∷ m p.RightParen ∷ m p.Star ∷ n a ∷ []) ≡ Ok (expr.Binary level.Product (expr.SizeofType (at 1) (at 2) (type_t 3) (at 4)) (next p.Star 5 (v a 6) ∷ []), (with_t, columns 7 [])))
    × (reads 3 [] (w word.Sizeof ∷ m p.LeftParen ∷ n t ∷ m p.RightParen ∷ m p.Star ∷ n a ∷ []) ≡ Ok (expr.Binary level.Product (expr.Prefixed (prefix.Sizeof (at 1) ∷ []) (expr.Paren (at 2) (v t 3) (at 4))) (next p.Star 5 (v a 6) ∷ []), ([], columns 7 [])))
    × (reads 3 with_t (w word.Sizeof ∷ m p.LeftParen ∷ n t ∷ m p.RightParen ∷ m p.LeftBracket ∷ []) ≡ Ok (expr.SizeofType (at 1) (at 2) (type_t 3) (at 4), (with_t, columns 5 (m p.LeftBracket ∷ []))))
    × (reads 3 with_t (m p.Increment ∷ m p.LeftParen ∷ n t ∷ m p.RightParen ∷ n a ∷ []) ≡ Err (Syntax, columns 3 (n t ∷ m p.RightParen ∷ n a ∷ [])))
    × (reads 3 with_t (n t ∷ []) ≡ Err (Syntax, columns 1 (n t ∷ [])))

pub casts_read : CastsRead
unfolding input.peek input.behind input.one input.opening input.loop nodes.is_cast nodes.is_unary nodes.ties nodes.is_type nodes.is_typedef_word nodes.is_nothing inner.type_name expressions.sees_cast expressions.sees_sizeof_type expressions.goes_prefix expressions.after_operator expressions.nexts expressions.binary expressions.assigned_by expressions.commas_by expressions.paren expressions.strings expressions.primary expressions.index expressions.call expressions.member expressions.arrow expressions.increment expressions.decrement expressions.one_suffix expressions.postfixed expressions.cast_prefix expressions.one_prefix expressions.sizeof_type expressions.prefixed expressions.cast expressions.product expressions.sum expressions.shift expressions.relation expressions.equality expressions.bit_and expressions.bit_xor expressions.bit_or expressions.and expressions.or expressions.branch expressions.conditional expressions.assignment expressions.comma expressions.expression specifiers.member specifiers.struct_body specifiers.struct_specifier specifiers.one_enumerator specifiers.next_enumerator specifiers.enum_body specifiers.enum_specifier specifiers.one_specifier specifiers.specifiers declarators.pointer declarators.pointers declarators.grouped declarators.middle declarators.array declarators.parameter declarators.next_parameter declarators.parameters declarators.one_suffix declarators.declarator depth.inside depth.expression depth.specifiers depth.declarator out-Expr out-Prefix out-Specifier out-Direct out
casts_read = (refl, refl, refl, refl, refl, refl, refl)

-- declarators; `( T )` behind a type is a parameter list where `T` is a typedef name
abbrev pub DeclaratorsRead : Type 0
DeclaratorsRead =
    (parameter_with with_t (m p.LeftParen ∷ n t ∷ m p.RightParen ∷ m p.Comma ∷ []) ≡ Ok (declarator [] direct.Nothing (behind.Parameters (at 1) (roll-Parameter (record { comma = None; specifiers = specifier.TypedefName (id t 2) ∷ []; declarator = nothing }) ∷ []) (at 3) ∷ []), (with_t, columns 4 (m p.Comma ∷ []))))
    × (parameter_with [] (m p.LeftParen ∷ n t ∷ m p.RightParen ∷ m p.Comma ∷ []) ≡ Ok (declarator [] (direct.Grouped (at 1) (declarator [] (direct.Named (id t 2)) []) (at 3)) [], ([], columns 4 (m p.Comma ∷ []))))
    × (declares_with with_t (m p.LeftParen ∷ n t ∷ m p.RightParen ∷ m p.Comma ∷ []) ≡ Ok (declarator [] (direct.Grouped (at 1) (declarator [] (direct.Named (id t 2)) []) (at 3)) [], (with_t, columns 4 (m p.Comma ∷ []))))
    × (declares_with [] (n a ∷ m p.LeftParen ∷ w word.Int ∷ m p.LeftParen ∷ w word.Int ∷ m p.RightParen ∷ m p.RightParen ∷ []) ≡ Ok (declarator [] (direct.Named (id a 1)) (behind.Parameters (at 2) (roll-Parameter (record { comma = None; specifiers = specifier.Word type.Int (at 3) ∷ []; declarator = declarator [] direct.Nothing (behind.Parameters (at 4) (roll-Parameter (record { comma = None; specifiers = specifier.Word type.Int (at 5) ∷ []; declarator = nothing }) ∷ []) (at 6) ∷ []) }) ∷ []) (at 7) ∷ []), ([], columns 8 [])))
    × (declares_with [] (n a ∷ m p.LeftParen ∷ w word.Void ∷ m p.RightParen ∷ []) ≡ Ok (declarator [] (direct.Named (id a 1)) (behind.Void (at 2) (at 3) (at 4) ∷ []), ([], columns 5 [])))
    × (declares_with [] (m p.Star ∷ w word.Const ∷ n a ∷ m p.LeftBracket ∷ k.Number 3 Int ∷ m p.RightBracket ∷ []) ≡ Ok (declarator (record { star = at 1; constants = at 2 ∷ [] } ∷ []) (direct.Named (id a 3)) (behind.ArrayOf (at 4) (expr.Number 3 Int (at 5)) (at 6) ∷ []), ([], columns 7 [])))
    × (declares_with [] (m p.LeftParen ∷ m p.Star ∷ n a ∷ m p.RightParen ∷ m p.LeftBracket ∷ k.Number 3 Int ∷ m p.RightBracket ∷ []) ≡ Ok (declarator [] (direct.Grouped (at 1) (declarator (record { star = at 2; constants = [] } ∷ []) (direct.Named (id a 3)) []) (at 4)) (behind.ArrayOf (at 5) (expr.Number 3 Int (at 6)) (at 7) ∷ []), ([], columns 8 [])))
    × (parameter_with [] (m p.LeftParen ∷ m p.LeftParen ∷ m p.RightParen ∷ m p.RightParen ∷ []) ≡ Ok (declarator [] (direct.Grouped (at 1) (declarator [] direct.Nothing (behind.Empty (at 2) (at 3) ∷ [])) (at 4)) [], ([], columns 5 [])))
    × (declares_with [] (m p.LeftParen ∷ m p.RightParen ∷ []) ≡ Err (Syntax, columns 2 (m p.RightParen ∷ [])))
    × (declares_with [] (n a ∷ m p.LeftParen ∷ w word.Enum ∷ m p.LeftBrace ∷ n b ∷ m p.RightBrace ∷ m p.RightParen ∷ []) ≡ Ok (declarator [] (direct.Named (id a 1)) (behind.Parameters (at 2) (roll-Parameter (record { comma = None; specifiers = specifier.Enum (at 3) None (at 4) (enumerator.Plain None (id b 5) ∷ []) None (at 6) ∷ []; declarator = nothing }) ∷ []) (at 7) ∷ []), ([], columns 8 [])))

pub declarators_read : DeclaratorsRead
unfolding input.peek input.behind input.one input.opening input.loop nodes.is_cast nodes.is_unary nodes.ties nodes.is_type nodes.is_typedef_word nodes.is_nothing inner.type_name expressions.sees_cast expressions.sees_sizeof_type expressions.goes_prefix expressions.after_operator expressions.nexts expressions.binary expressions.assigned_by expressions.commas_by expressions.paren expressions.strings expressions.primary expressions.index expressions.call expressions.member expressions.arrow expressions.increment expressions.decrement expressions.one_suffix expressions.postfixed expressions.cast_prefix expressions.one_prefix expressions.sizeof_type expressions.prefixed expressions.cast expressions.product expressions.sum expressions.shift expressions.relation expressions.equality expressions.bit_and expressions.bit_xor expressions.bit_or expressions.and expressions.or expressions.branch expressions.conditional expressions.assignment expressions.comma expressions.expression specifiers.member specifiers.struct_body specifiers.struct_specifier specifiers.one_enumerator specifiers.next_enumerator specifiers.enum_body specifiers.enum_specifier specifiers.one_specifier specifiers.specifiers declarators.pointer declarators.pointers declarators.grouped declarators.middle declarators.array declarators.parameter declarators.next_parameter declarators.parameters declarators.one_suffix declarators.declarator depth.inside depth.expression depth.specifiers depth.declarator out-Expr out-Prefix out-Specifier out-Direct out
declarators_read = (refl, refl, refl, refl, refl, refl, refl, refl, refl, refl)

-- specifiers, and the names that they declare
abbrev pub SpecifiersRead : Type 0
SpecifiersRead =
    (specifies_with with_t (w word.Const ∷ n t ∷ n t ∷ []) ≡ Ok (specifier.Const (at 1) ∷ specifier.TypedefName (id t 2) ∷ [], (with_t, columns 3 (n t ∷ []))))
    × (specifies_with with_t (w word.Unsigned ∷ n t ∷ []) ≡ Ok (specifier.Word type.Unsigned (at 1) ∷ [], (with_t, columns 2 (n t ∷ []))))
    × (specifies_with [] (w word.Enum ∷ n c ∷ m p.LeftBrace ∷ n a ∷ m p.Comma ∷ n b ∷ m p.Assign ∷ n a ∷ m p.Comma ∷ m p.RightBrace ∷ n a ∷ []) ≡ Ok (specifier.Enum (at 1) (Some (id c 2)) (at 3) (enumerator.Plain None (id a 4) ∷ enumerator.Valued (Some (at 5)) (id b 6) (at 7) (v a 8) ∷ []) (Some (at 9)) (at 10) ∷ [], ((a ∷ [], false) ∷ (b ∷ [], false) ∷ [], columns 11 (n a ∷ []))))
    × (specifies_with with_t (w word.Enum ∷ m p.LeftBrace ∷ n t ∷ m p.RightBrace ∷ n t ∷ []) ≡ Ok (specifier.Enum (at 1) None (at 2) (enumerator.Plain None (id t 3) ∷ []) None (at 4) ∷ [], ((t ∷ [], true) ∷ (t ∷ [], false) ∷ [], columns 5 (n t ∷ []))))
    × (specifies_with [] (w word.Struct ∷ n a ∷ m p.Star ∷ []) ≡ Ok (specifier.StructTag (at 1) (id a 2) ∷ [], ([], columns 3 (m p.Star ∷ []))))
    × (specifies_with [] (w word.Struct ∷ m p.Star ∷ []) ≡ Err (Syntax, columns 2 (m p.Star ∷ [])))

pub specifiers_read : SpecifiersRead
unfolding input.peek input.behind input.one input.opening input.loop nodes.is_cast nodes.is_unary nodes.ties nodes.is_type nodes.is_typedef_word nodes.is_nothing inner.type_name expressions.sees_cast expressions.sees_sizeof_type expressions.goes_prefix expressions.after_operator expressions.nexts expressions.binary expressions.assigned_by expressions.commas_by expressions.paren expressions.strings expressions.primary expressions.index expressions.call expressions.member expressions.arrow expressions.increment expressions.decrement expressions.one_suffix expressions.postfixed expressions.cast_prefix expressions.one_prefix expressions.sizeof_type expressions.prefixed expressions.cast expressions.product expressions.sum expressions.shift expressions.relation expressions.equality expressions.bit_and expressions.bit_xor expressions.bit_or expressions.and expressions.or expressions.branch expressions.conditional expressions.assignment expressions.comma expressions.expression specifiers.member specifiers.struct_body specifiers.struct_specifier specifiers.one_enumerator specifiers.next_enumerator specifiers.enum_body specifiers.enum_specifier specifiers.one_specifier specifiers.specifiers declarators.pointer declarators.pointers declarators.grouped declarators.middle declarators.array declarators.parameter declarators.next_parameter declarators.parameters declarators.one_suffix declarators.declarator depth.inside depth.expression depth.specifiers depth.declarator out-Expr out-Prefix out-Specifier out-Direct out
specifiers_read = (refl, refl, refl, refl, refl, refl)

-- the limit on brackets
abbrev pub NestingRead : Type 0
NestingRead =
    (reads 1 [] (m p.LeftParen ∷ n a ∷ m p.RightParen ∷ []) ≡ Ok (expr.Paren (at 1) (v a 2) (at 3), ([], columns 4 [])))
    × (reads 1 [] (m p.LeftParen ∷ m p.LeftParen ∷ n a ∷ m p.RightParen ∷ m p.RightParen ∷ []) ≡ Err (Nest, columns 2 (m p.LeftParen ∷ n a ∷ m p.RightParen ∷ m p.RightParen ∷ [])))
    × (reads 0 [] (n a ∷ m p.LeftParen ∷ m p.RightParen ∷ []) ≡ Err (Nest, columns 2 (m p.LeftParen ∷ m p.RightParen ∷ [])))
    × (reads 0 [] (n a ∷ m p.Question ∷ []) ≡ Err (Nest, columns 2 (m p.Question ∷ [])))
    × (reads 0 [] (n a ∷ m p.RightParen ∷ []) ≡ Ok (v a 1, ([], columns 2 (m p.RightParen ∷ []))))

pub nesting_read : NestingRead
unfolding input.peek input.behind input.one input.opening input.loop nodes.is_cast nodes.is_unary nodes.ties nodes.is_type nodes.is_typedef_word nodes.is_nothing inner.type_name expressions.sees_cast expressions.sees_sizeof_type expressions.goes_prefix expressions.after_operator expressions.nexts expressions.binary expressions.assigned_by expressions.commas_by expressions.paren expressions.strings expressions.primary expressions.index expressions.call expressions.member expressions.arrow expressions.increment expressions.decrement expressions.one_suffix expressions.postfixed expressions.cast_prefix expressions.one_prefix expressions.sizeof_type expressions.prefixed expressions.cast expressions.product expressions.sum expressions.shift expressions.relation expressions.equality expressions.bit_and expressions.bit_xor expressions.bit_or expressions.and expressions.or expressions.branch expressions.conditional expressions.assignment expressions.comma expressions.expression specifiers.member specifiers.struct_body specifiers.struct_specifier specifiers.one_enumerator specifiers.next_enumerator specifiers.enum_body specifiers.enum_specifier specifiers.one_specifier specifiers.specifiers declarators.pointer declarators.pointers declarators.grouped declarators.middle declarators.array declarators.parameter declarators.next_parameter declarators.parameters declarators.one_suffix declarators.declarator depth.inside depth.expression depth.specifiers depth.declarator out-Expr out-Prefix out-Specifier out-Direct out
nesting_read = (refl, refl, refl, refl, refl)
