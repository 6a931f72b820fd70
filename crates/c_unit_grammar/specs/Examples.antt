-- Short lists of tokens, and what the grammar reads of them.
use Rattle.std.specs.Prelude.{◌≡◌, ℕ, suc, Bool, true, false, List, [], ◌∷◌, Some, None, Result, Ok, Err, refl}
use denote.Hole.Carrier.{out}
use Rattle.c_tree.specs.declared.token.Pos.{Pos}
use Rattle.c_tree.specs.declared.token.IntKind.TheVariants.{Int}
use Rattle.c_tree.specs.declared.token.Punct.{Punct}
use Rattle.c_tree.specs.declared.token.Punct.TheVariants as p
use Rattle.c_tree.specs.declared.token.Keyword.{Keyword}
use Rattle.c_tree.specs.declared.token.Keyword.TheVariants as word
use Rattle.c_tree.specs.declared.token.TokenKind.{TokenKind}
use Rattle.c_tree.specs.declared.token.TokenKind.TheVariants as k
use Rattle.c_tree.specs.declared.expression.Expr.{Expr, out-Expr}
use Rattle.c_tree.specs.declared.expression.Expr.TheVariants as expr
use Rattle.c_tree.specs.declared.expression.Prefix.{out-Prefix}
use Rattle.c_tree.specs.declared.specifier.Specifier.{out-Specifier}
use Rattle.c_tree.specs.declared.declarator.Direct.{out-Direct}
use Rattle.c_tree.specs.declared.declaration.Initialiser.{Initialiser}
use Rattle.c_tree.specs.declared.declaration.Initialiser.TheVariants as init
use Rattle.c_tree.specs.declared.declaration.InitialiserItem.{roll-InitialiserItem}
use Rattle.c_tree.specs.declared.statement.Stmt.{Stmt}
use Rattle.c_tree.specs.declared.statement.Stmt.TheVariants as stmt
use Rattle.c_tree.specs.declared.statement.Else.{roll-Else}
use Rattle.c_grammar.specs.Input as input
use Rattle.c_grammar.specs.Input.{Tokens, State, Reason, Fault, Outcome, Syntax, Nest}
use Rattle.c_grammar.specs.Read.Nodes as nodes
use Rattle.c_grammar.specs.Read.Inner as inner
use Rattle.c_grammar.specs.Read.Expressions as expressions
use Rattle.c_grammar.specs.Read.Specifiers as specifiers
use Rattle.c_grammar.specs.Read.Declarators as declarators
use Rattle.c_grammar.specs.Read.Depth as depth
use Rattle.c_unit_grammar.specs.Read.Initialisers as initialisers
use Rattle.c_unit_grammar.specs.Read.Declarations as declarations
use Rattle.c_unit_grammar.specs.Read.Statements as statements
use Rattle.c_unit_grammar.specs.Read.Units as units

abbrev at : ℕ → Pos
at n = record { line = 1; column = n }

-- tokens side by side, the first in this column
abbrev columns : ℕ → List TokenKind → Tokens
columns n [] = []
columns n (kind ∷ kinds) = record { kind = kind; place = at n } ∷ columns (suc n) kinds

abbrev m : Punct → TokenKind
m op = k.Punct op

abbrev w : Keyword → TokenKind
w key = k.Keyword key

-- the names, each one byte long
abbrev n : ℕ → TokenKind
n byte = k.Name (byte ∷ [])

abbrev one : TokenKind
one = k.Number 1 Int

abbrev a : ℕ
a = 97

abbrev b : ℕ
b = 98

abbrev f : ℕ
f = 102

abbrev t : ℕ
t = 116

-- the name as an expression, at this column
abbrev v : ℕ → ℕ → Expr
v byte column = expr.Name (record { text = byte ∷ []; place = at column })

-- what is read where so many brackets may be opened
abbrev initialises : ℕ → List TokenKind → Outcome Initialiser
initialises more kinds = initialisers.initialiser more ([], columns 1 kinds)

abbrev states : ℕ → List TokenKind → Outcome Stmt
states more kinds = statements.statement more (statements.within more) ([], columns 1 kinds)

-- how a source ends
pub data Ending : Type 0 where
  -- all its tokens are a unit
  Whole : Ending
  -- it is refused at the token in this column, counted from 1, or at the end
  Stopped : Reason → ℕ → Ending
  AtEnd : Reason → Ending

abbrev ending : {A : Type 0} → Result A Fault → Ending
ending (Ok u) = Whole
ending (Err (reason, [])) = AtEnd reason
ending (Err (reason, token ∷ more)) = Stopped reason token.place.column

abbrev source : List TokenKind → Ending
source kinds = ending (units.parse (columns 1 kinds) (at 99))

-- how a block ends, of a switch or another, where `t` is a typedef name
abbrev in_block : Bool → List TokenKind → Ending
in_block labels kinds = ending (statements.block 9 (statements.within 9) labels ((t ∷ [], true) ∷ [], columns 1 kinds))

-- an initialiser with a last comma and without one
abbrev pub InitialisersRead : Type 0
InitialisersRead =
    (initialises 1 (m p.LeftBrace ∷ n a ∷ m p.Comma ∷ n b ∷ m p.RightBrace ∷ []) ≡ Ok (init.List (at 1) (roll-InitialiserItem (record { comma = None; value = init.Expression (v a 2) }) ∷ roll-InitialiserItem (record { comma = Some (at 3); value = init.Expression (v b 4) }) ∷ []) None (at 5), ([], [])))
    × (initialises 1 (m p.LeftBrace ∷ n a ∷ m p.Comma ∷ m p.RightBrace ∷ []) ≡ Ok (init.List (at 1) (roll-InitialiserItem (record { comma = None; value = init.Expression (v a 2) }) ∷ []) (Some (at 3)) (at 4), ([], [])))
    × (ending (initialises 1 (m p.LeftBrace ∷ m p.RightBrace ∷ [])) ≡ Stopped Syntax 2)
    × (ending (initialises 1 (m p.LeftBrace ∷ n a ∷ m p.Comma ∷ m p.Comma ∷ m p.RightBrace ∷ [])) ≡ Stopped Syntax 4)
    × (ending (initialises 1 (m p.LeftBrace ∷ n a ∷ [])) ≡ AtEnd Syntax)
    × (ending (initialises 1 (m p.LeftBrace ∷ m p.LeftBrace ∷ n a ∷ m p.RightBrace ∷ m p.RightBrace ∷ [])) ≡ Stopped Nest 2)
    × (ending (initialises 2 (m p.LeftBrace ∷ m p.LeftBrace ∷ n a ∷ m p.RightBrace ∷ m p.RightBrace ∷ [])) ≡ Whole)

pub initialisers_read : InitialisersRead
unfolding input.peek input.behind input.one input.opening input.loop nodes.is_cast nodes.is_unary nodes.ties nodes.is_type nodes.is_typedef_word nodes.is_nothing inner.type_name expressions.sees_cast expressions.sees_sizeof_type expressions.goes_prefix expressions.after_operator expressions.nexts expressions.binary expressions.assigned_by expressions.commas_by expressions.paren expressions.strings expressions.primary expressions.index expressions.call expressions.member expressions.arrow expressions.increment expressions.decrement expressions.one_suffix expressions.postfixed expressions.cast_prefix expressions.one_prefix expressions.sizeof_type expressions.prefixed expressions.cast expressions.product expressions.sum expressions.shift expressions.relation expressions.equality expressions.bit_and expressions.bit_xor expressions.bit_or expressions.and expressions.or expressions.branch expressions.conditional expressions.assignment expressions.comma expressions.expression specifiers.member specifiers.struct_body specifiers.struct_specifier specifiers.one_enumerator specifiers.next_enumerator specifiers.enum_body specifiers.enum_specifier specifiers.one_specifier specifiers.specifiers declarators.pointer declarators.pointers declarators.grouped declarators.middle declarators.array declarators.parameter declarators.next_parameter declarators.parameters declarators.one_suffix declarators.declarator depth.inside depth.expression depth.specifiers depth.declarator initialisers.assigned initialisers.first_initialiser initialisers.next_initialiser initialisers.in_braces initialisers.one_initialiser initialisers.inside_initialiser initialisers.initialiser declarations.named declarations.start declarations.first_declarator declarations.next_declarator declarations.declarators declarations.declaration declarations.inside_declaration statements.value_until statements.condition statements.for_head statements.for_control statements.expression_statement statements.break_statement statements.continue_statement statements.return_statement statements.block statements.block_statement statements.body statements.one_else statements.if_statement statements.while_statement statements.do_statement statements.for_statement statements.switch_statement statements.statement statements.item statements.within units.function_body units.one_external units.externals units.parse out-Expr out-Prefix out-Specifier out-Direct out
initialisers_read = (refl, refl, refl, refl, refl, refl, refl)

-- declarations, and a unit of them
abbrev pub DeclarationsRead : Type 0
DeclarationsRead =
    (source [] ≡ AtEnd Syntax)
    × (source (m p.Semicolon ∷ []) ≡ Stopped Syntax 1)
    × (source (w word.Int ∷ m p.Semicolon ∷ []) ≡ Whole)
    × (source (w word.Int ∷ n a ∷ m p.Assign ∷ one ∷ m p.Comma ∷ n b ∷ m p.Semicolon ∷ []) ≡ Whole)
    × (source (w word.Int ∷ n a ∷ n b ∷ m p.Semicolon ∷ []) ≡ Stopped Syntax 3)
    × (source (w word.Int ∷ n f ∷ m p.LeftParen ∷ w word.Int ∷ n a ∷ n b ∷ m p.RightParen ∷ m p.Semicolon ∷ []) ≡ Stopped Syntax 6)
    × (source (n t ∷ n a ∷ m p.Semicolon ∷ []) ≡ Stopped Syntax 1)
    × (source (w word.Int ∷ n a ∷ m p.Assign ∷ one ∷ m p.Comma ∷ []) ≡ AtEnd Syntax)

pub declarations_read : DeclarationsRead
unfolding input.peek input.behind input.one input.opening input.loop nodes.is_cast nodes.is_unary nodes.ties nodes.is_type nodes.is_typedef_word nodes.is_nothing inner.type_name expressions.sees_cast expressions.sees_sizeof_type expressions.goes_prefix expressions.after_operator expressions.nexts expressions.binary expressions.assigned_by expressions.commas_by expressions.paren expressions.strings expressions.primary expressions.index expressions.call expressions.member expressions.arrow expressions.increment expressions.decrement expressions.one_suffix expressions.postfixed expressions.cast_prefix expressions.one_prefix expressions.sizeof_type expressions.prefixed expressions.cast expressions.product expressions.sum expressions.shift expressions.relation expressions.equality expressions.bit_and expressions.bit_xor expressions.bit_or expressions.and expressions.or expressions.branch expressions.conditional expressions.assignment expressions.comma expressions.expression specifiers.member specifiers.struct_body specifiers.struct_specifier specifiers.one_enumerator specifiers.next_enumerator specifiers.enum_body specifiers.enum_specifier specifiers.one_specifier specifiers.specifiers declarators.pointer declarators.pointers declarators.grouped declarators.middle declarators.array declarators.parameter declarators.next_parameter declarators.parameters declarators.one_suffix declarators.declarator depth.inside depth.expression depth.specifiers depth.declarator initialisers.assigned initialisers.first_initialiser initialisers.next_initialiser initialisers.in_braces initialisers.one_initialiser initialisers.inside_initialiser initialisers.initialiser declarations.named declarations.start declarations.first_declarator declarations.next_declarator declarations.declarators declarations.declaration declarations.inside_declaration statements.value_until statements.condition statements.for_head statements.for_control statements.expression_statement statements.break_statement statements.continue_statement statements.return_statement statements.block statements.block_statement statements.body statements.one_else statements.if_statement statements.while_statement statements.do_statement statements.for_statement statements.switch_statement statements.statement statements.item statements.within units.function_body units.one_external units.externals units.parse out-Expr out-Prefix out-Specifier out-Direct out
declarations_read = (refl, refl, refl, refl, refl, refl, refl, refl)

-- each `else` goes with the nearest `if`
abbrev pub StatementsRead : Type 0
StatementsRead =
    (states 3 (w word.If ∷ m p.LeftParen ∷ n a ∷ m p.RightParen ∷ w word.If ∷ m p.LeftParen ∷ n b ∷ m p.RightParen ∷ m p.Semicolon ∷ w word.Else ∷ m p.Semicolon ∷ []) ≡ Ok (stmt.If (at 1) (record { opening = at 2; value = v a 3; closing = at 4 }) (stmt.If (at 5) (record { opening = at 6; value = v b 7; closing = at 8 }) (stmt.Expression None (at 9)) (roll-Else (record { word = at 10; head = None; body = stmt.Expression None (at 11) }) ∷ [])) [], ([], [])))
    × (states 1 (w word.If ∷ m p.LeftParen ∷ n a ∷ m p.RightParen ∷ m p.Semicolon ∷ w word.Else ∷ w word.If ∷ m p.LeftParen ∷ n b ∷ m p.RightParen ∷ m p.Semicolon ∷ w word.Else ∷ m p.Semicolon ∷ []) ≡ Ok (stmt.If (at 1) (record { opening = at 2; value = v a 3; closing = at 4 }) (stmt.Expression None (at 5)) (roll-Else (record { word = at 6; head = Some (record { word = at 7; condition = record { opening = at 8; value = v b 9; closing = at 10 } }); body = stmt.Expression None (at 11) }) ∷ roll-Else (record { word = at 12; head = None; body = stmt.Expression None (at 13) }) ∷ []), ([], [])))
    × (ending (states 9 (w word.Else ∷ m p.Semicolon ∷ [])) ≡ Stopped Syntax 1)
    × (in_block false (m p.LeftBrace ∷ w word.If ∷ m p.LeftParen ∷ n a ∷ m p.RightParen ∷ m p.Semicolon ∷ w word.Else ∷ m p.Semicolon ∷ w word.Else ∷ m p.Semicolon ∷ m p.RightBrace ∷ []) ≡ Stopped Syntax 9)
    × (in_block false (m p.LeftBrace ∷ w word.Do ∷ m p.Semicolon ∷ w word.While ∷ m p.LeftParen ∷ n a ∷ m p.RightParen ∷ m p.Semicolon ∷ m p.RightBrace ∷ []) ≡ Whole)
    × (in_block false (m p.LeftBrace ∷ w word.Return ∷ one ∷ m p.Semicolon ∷ m p.RightBrace ∷ []) ≡ Whole)
    × (in_block false (m p.LeftBrace ∷ w word.Return ∷ w word.Int ∷ m p.Semicolon ∷ m p.RightBrace ∷ []) ≡ Stopped Syntax 3)

pub statements_read : StatementsRead
unfolding input.peek input.behind input.one input.opening input.loop nodes.is_cast nodes.is_unary nodes.ties nodes.is_type nodes.is_typedef_word nodes.is_nothing inner.type_name expressions.sees_cast expressions.sees_sizeof_type expressions.goes_prefix expressions.after_operator expressions.nexts expressions.binary expressions.assigned_by expressions.commas_by expressions.paren expressions.strings expressions.primary expressions.index expressions.call expressions.member expressions.arrow expressions.increment expressions.decrement expressions.one_suffix expressions.postfixed expressions.cast_prefix expressions.one_prefix expressions.sizeof_type expressions.prefixed expressions.cast expressions.product expressions.sum expressions.shift expressions.relation expressions.equality expressions.bit_and expressions.bit_xor expressions.bit_or expressions.and expressions.or expressions.branch expressions.conditional expressions.assignment expressions.comma expressions.expression specifiers.member specifiers.struct_body specifiers.struct_specifier specifiers.one_enumerator specifiers.next_enumerator specifiers.enum_body specifiers.enum_specifier specifiers.one_specifier specifiers.specifiers declarators.pointer declarators.pointers declarators.grouped declarators.middle declarators.array declarators.parameter declarators.next_parameter declarators.parameters declarators.one_suffix declarators.declarator depth.inside depth.expression depth.specifiers depth.declarator initialisers.assigned initialisers.first_initialiser initialisers.next_initialiser initialisers.in_braces initialisers.one_initialiser initialisers.inside_initialiser initialisers.initialiser declarations.named declarations.start declarations.first_declarator declarations.next_declarator declarations.declarators declarations.declaration declarations.inside_declaration statements.value_until statements.condition statements.for_head statements.for_control statements.expression_statement statements.break_statement statements.continue_statement statements.return_statement statements.block statements.block_statement statements.body statements.one_else statements.if_statement statements.while_statement statements.do_statement statements.for_statement statements.switch_statement statements.statement statements.item statements.within units.function_body units.one_external units.externals units.parse out-Expr out-Prefix out-Specifier out-Direct out
statements_read = (refl, refl, refl, refl, refl, refl, refl)

-- blocks, and labels in those of a switch
abbrev pub BlocksRead : Type 0
BlocksRead =
    (in_block false (m p.LeftBrace ∷ m p.RightBrace ∷ []) ≡ Whole)
    × (in_block false (m p.LeftBrace ∷ []) ≡ AtEnd Syntax)
    × (in_block false (m p.LeftBrace ∷ n a ∷ m p.Semicolon ∷ []) ≡ AtEnd Syntax)
    × (in_block false (m p.LeftBrace ∷ w word.Else ∷ m p.Semicolon ∷ m p.RightBrace ∷ []) ≡ Stopped Syntax 2)
    × (in_block true (m p.LeftBrace ∷ w word.Case ∷ one ∷ m p.Colon ∷ w word.Int ∷ n b ∷ m p.Semicolon ∷ w word.Default ∷ m p.Colon ∷ m p.RightBrace ∷ []) ≡ Whole)
    × (in_block false (m p.LeftBrace ∷ w word.Switch ∷ m p.LeftParen ∷ n a ∷ m p.RightParen ∷ m p.LeftBrace ∷ w word.Case ∷ one ∷ m p.Colon ∷ w word.Int ∷ n b ∷ m p.Semicolon ∷ w word.Default ∷ m p.Colon ∷ m p.RightBrace ∷ m p.RightBrace ∷ []) ≡ Whole)
    × (in_block false (m p.LeftBrace ∷ w word.Switch ∷ m p.LeftParen ∷ n a ∷ m p.RightParen ∷ m p.LeftBrace ∷ w word.Case ∷ one ∷ m p.Colon ∷ m p.LeftBrace ∷ w word.Default ∷ m p.Colon ∷ m p.Semicolon ∷ m p.RightBrace ∷ m p.RightBrace ∷ m p.RightBrace ∷ []) ≡ Stopped Syntax 11)
    × (in_block false (m p.LeftBrace ∷ w word.Case ∷ one ∷ m p.Colon ∷ m p.Semicolon ∷ m p.RightBrace ∷ []) ≡ Stopped Syntax 2)

pub blocks_read : BlocksRead
unfolding input.peek input.behind input.one input.opening input.loop nodes.is_cast nodes.is_unary nodes.ties nodes.is_type nodes.is_typedef_word nodes.is_nothing inner.type_name expressions.sees_cast expressions.sees_sizeof_type expressions.goes_prefix expressions.after_operator expressions.nexts expressions.binary expressions.assigned_by expressions.commas_by expressions.paren expressions.strings expressions.primary expressions.index expressions.call expressions.member expressions.arrow expressions.increment expressions.decrement expressions.one_suffix expressions.postfixed expressions.cast_prefix expressions.one_prefix expressions.sizeof_type expressions.prefixed expressions.cast expressions.product expressions.sum expressions.shift expressions.relation expressions.equality expressions.bit_and expressions.bit_xor expressions.bit_or expressions.and expressions.or expressions.branch expressions.conditional expressions.assignment expressions.comma expressions.expression specifiers.member specifiers.struct_body specifiers.struct_specifier specifiers.one_enumerator specifiers.next_enumerator specifiers.enum_body specifiers.enum_specifier specifiers.one_specifier specifiers.specifiers declarators.pointer declarators.pointers declarators.grouped declarators.middle declarators.array declarators.parameter declarators.next_parameter declarators.parameters declarators.one_suffix declarators.declarator depth.inside depth.expression depth.specifiers depth.declarator initialisers.assigned initialisers.first_initialiser initialisers.next_initialiser initialisers.in_braces initialisers.one_initialiser initialisers.inside_initialiser initialisers.initialiser declarations.named declarations.start declarations.first_declarator declarations.next_declarator declarations.declarators declarations.declaration declarations.inside_declaration statements.value_until statements.condition statements.for_head statements.for_control statements.expression_statement statements.break_statement statements.continue_statement statements.return_statement statements.block statements.block_statement statements.body statements.one_else statements.if_statement statements.while_statement statements.do_statement statements.for_statement statements.switch_statement statements.statement statements.item statements.within units.function_body units.one_external units.externals units.parse out-Expr out-Prefix out-Specifier out-Direct out
blocks_read = (refl, refl, refl, refl, refl, refl, refl, refl)

-- the typedef name `t` is hidden in a scope by an enumerator, and visible again behind it
abbrev pub ScopesRead : Type 0
ScopesRead =
    (in_block false (m p.LeftBrace ∷ n t ∷ n a ∷ m p.Semicolon ∷ m p.RightBrace ∷ []) ≡ Whole)
    × (in_block false (m p.LeftBrace ∷ n t ∷ m p.Assign ∷ one ∷ m p.Semicolon ∷ m p.RightBrace ∷ []) ≡ Stopped Syntax 3)
    × (in_block false (m p.LeftBrace ∷ m p.LeftBrace ∷ w word.Enum ∷ m p.LeftBrace ∷ n t ∷ m p.RightBrace ∷ m p.Semicolon ∷ n t ∷ m p.Assign ∷ one ∷ m p.Semicolon ∷ m p.RightBrace ∷ n t ∷ n a ∷ m p.Semicolon ∷ m p.RightBrace ∷ []) ≡ Whole)
    × (in_block false (m p.LeftBrace ∷ m p.LeftBrace ∷ w word.Enum ∷ m p.LeftBrace ∷ n t ∷ m p.RightBrace ∷ m p.Semicolon ∷ n t ∷ n a ∷ m p.Semicolon ∷ m p.RightBrace ∷ m p.RightBrace ∷ []) ≡ Stopped Syntax 9)
    × (in_block false (m p.LeftBrace ∷ w word.Enum ∷ m p.LeftBrace ∷ n t ∷ m p.RightBrace ∷ m p.Semicolon ∷ n t ∷ n a ∷ m p.Semicolon ∷ m p.RightBrace ∷ []) ≡ Stopped Syntax 8)
    × (in_block false (m p.LeftBrace ∷ w word.For ∷ m p.LeftParen ∷ w word.Int ∷ n a ∷ m p.Assign ∷ one ∷ m p.Semicolon ∷ m p.Semicolon ∷ m p.RightParen ∷ m p.Semicolon ∷ m p.RightBrace ∷ []) ≡ Whole)
    × (in_block false (m p.LeftBrace ∷ w word.For ∷ m p.LeftParen ∷ w word.Enum ∷ m p.LeftBrace ∷ n t ∷ m p.RightBrace ∷ m p.Semicolon ∷ n t ∷ m p.Semicolon ∷ m p.RightParen ∷ n t ∷ m p.Assign ∷ one ∷ m p.Semicolon ∷ n t ∷ n a ∷ m p.Semicolon ∷ m p.RightBrace ∷ []) ≡ Whole)
    × (in_block false (m p.LeftBrace ∷ w word.While ∷ m p.LeftParen ∷ w word.Sizeof ∷ m p.LeftParen ∷ w word.Enum ∷ m p.LeftBrace ∷ n t ∷ m p.RightBrace ∷ m p.RightParen ∷ m p.RightParen ∷ n t ∷ m p.Assign ∷ one ∷ m p.Semicolon ∷ n t ∷ n a ∷ m p.Semicolon ∷ m p.RightBrace ∷ []) ≡ Whole)
    × (in_block false (m p.LeftBrace ∷ w word.If ∷ m p.LeftParen ∷ n a ∷ m p.RightParen ∷ w word.Sizeof ∷ m p.LeftParen ∷ w word.Enum ∷ m p.LeftBrace ∷ n t ∷ m p.RightBrace ∷ m p.RightParen ∷ m p.Semicolon ∷ w word.Else ∷ n t ∷ m p.Assign ∷ one ∷ m p.Semicolon ∷ m p.RightBrace ∷ []) ≡ Stopped Syntax 15)
    × (in_block false (m p.LeftBrace ∷ w word.If ∷ m p.LeftParen ∷ w word.Sizeof ∷ m p.LeftParen ∷ w word.Enum ∷ m p.LeftBrace ∷ n t ∷ m p.RightBrace ∷ m p.RightParen ∷ m p.RightParen ∷ m p.Semicolon ∷ w word.Else ∷ n t ∷ m p.Assign ∷ one ∷ m p.Semicolon ∷ n t ∷ n a ∷ m p.Semicolon ∷ m p.RightBrace ∷ []) ≡ Whole)

pub scopes_read : ScopesRead
unfolding input.peek input.behind input.one input.opening input.loop nodes.is_cast nodes.is_unary nodes.ties nodes.is_type nodes.is_typedef_word nodes.is_nothing inner.type_name expressions.sees_cast expressions.sees_sizeof_type expressions.goes_prefix expressions.after_operator expressions.nexts expressions.binary expressions.assigned_by expressions.commas_by expressions.paren expressions.strings expressions.primary expressions.index expressions.call expressions.member expressions.arrow expressions.increment expressions.decrement expressions.one_suffix expressions.postfixed expressions.cast_prefix expressions.one_prefix expressions.sizeof_type expressions.prefixed expressions.cast expressions.product expressions.sum expressions.shift expressions.relation expressions.equality expressions.bit_and expressions.bit_xor expressions.bit_or expressions.and expressions.or expressions.branch expressions.conditional expressions.assignment expressions.comma expressions.expression specifiers.member specifiers.struct_body specifiers.struct_specifier specifiers.one_enumerator specifiers.next_enumerator specifiers.enum_body specifiers.enum_specifier specifiers.one_specifier specifiers.specifiers declarators.pointer declarators.pointers declarators.grouped declarators.middle declarators.array declarators.parameter declarators.next_parameter declarators.parameters declarators.one_suffix declarators.declarator depth.inside depth.expression depth.specifiers depth.declarator initialisers.assigned initialisers.first_initialiser initialisers.next_initialiser initialisers.in_braces initialisers.one_initialiser initialisers.inside_initialiser initialisers.initialiser declarations.named declarations.start declarations.first_declarator declarations.next_declarator declarations.declarators declarations.declaration declarations.inside_declaration statements.value_until statements.condition statements.for_head statements.for_control statements.expression_statement statements.break_statement statements.continue_statement statements.return_statement statements.block statements.block_statement statements.body statements.one_else statements.if_statement statements.while_statement statements.do_statement statements.for_statement statements.switch_statement statements.statement statements.item statements.within units.function_body units.one_external units.externals units.parse out-Expr out-Prefix out-Specifier out-Direct out
scopes_read = (refl, refl, refl, refl, refl, refl, refl, refl, refl, refl)

-- the limit on brackets and on bodies that are no blocks
abbrev pub NestingRead : Type 0
NestingRead =
    (ending (states 1 (w word.While ∷ m p.LeftParen ∷ n a ∷ m p.RightParen ∷ m p.Semicolon ∷ [])) ≡ Whole)
    × (ending (states 0 (w word.While ∷ m p.LeftParen ∷ n a ∷ m p.RightParen ∷ m p.Semicolon ∷ [])) ≡ Stopped Nest 2)
    × (ending (states 1 (w word.While ∷ m p.LeftParen ∷ n a ∷ m p.RightParen ∷ w word.While ∷ m p.LeftParen ∷ n b ∷ m p.RightParen ∷ m p.Semicolon ∷ [])) ≡ Stopped Nest 6)
    × (ending (states 1 (w word.While ∷ m p.LeftParen ∷ n a ∷ m p.RightParen ∷ m p.LeftBrace ∷ m p.Semicolon ∷ m p.RightBrace ∷ [])) ≡ Whole)
    × (ending (states 1 (w word.While ∷ m p.LeftParen ∷ n a ∷ m p.RightParen ∷ m p.LeftBrace ∷ m p.LeftBrace ∷ m p.RightBrace ∷ m p.RightBrace ∷ [])) ≡ Stopped Nest 6)
    × (ending (states 0 (w word.Do ∷ m p.Semicolon ∷ w word.While ∷ m p.LeftParen ∷ n a ∷ m p.RightParen ∷ m p.Semicolon ∷ [])) ≡ Stopped Nest 2)
    × (ending (states 0 (w word.Do ∷ w word.Else ∷ [])) ≡ Stopped Syntax 2)
    × (ending (states 1 (w word.If ∷ m p.LeftParen ∷ n a ∷ m p.RightParen ∷ m p.Semicolon ∷ w word.Else ∷ w word.If ∷ m p.LeftParen ∷ n b ∷ m p.RightParen ∷ m p.Semicolon ∷ w word.Else ∷ m p.Semicolon ∷ [])) ≡ Whole)

pub nesting_read : NestingRead
unfolding input.peek input.behind input.one input.opening input.loop nodes.is_cast nodes.is_unary nodes.ties nodes.is_type nodes.is_typedef_word nodes.is_nothing inner.type_name expressions.sees_cast expressions.sees_sizeof_type expressions.goes_prefix expressions.after_operator expressions.nexts expressions.binary expressions.assigned_by expressions.commas_by expressions.paren expressions.strings expressions.primary expressions.index expressions.call expressions.member expressions.arrow expressions.increment expressions.decrement expressions.one_suffix expressions.postfixed expressions.cast_prefix expressions.one_prefix expressions.sizeof_type expressions.prefixed expressions.cast expressions.product expressions.sum expressions.shift expressions.relation expressions.equality expressions.bit_and expressions.bit_xor expressions.bit_or expressions.and expressions.or expressions.branch expressions.conditional expressions.assignment expressions.comma expressions.expression specifiers.member specifiers.struct_body specifiers.struct_specifier specifiers.one_enumerator specifiers.next_enumerator specifiers.enum_body specifiers.enum_specifier specifiers.one_specifier specifiers.specifiers declarators.pointer declarators.pointers declarators.grouped declarators.middle declarators.array declarators.parameter declarators.next_parameter declarators.parameters declarators.one_suffix declarators.declarator depth.inside depth.expression depth.specifiers depth.declarator initialisers.assigned initialisers.first_initialiser initialisers.next_initialiser initialisers.in_braces initialisers.one_initialiser initialisers.inside_initialiser initialisers.initialiser declarations.named declarations.start declarations.first_declarator declarations.next_declarator declarations.declarators declarations.declaration declarations.inside_declaration statements.value_until statements.condition statements.for_head statements.for_control statements.expression_statement statements.break_statement statements.continue_statement statements.return_statement statements.block statements.block_statement statements.body statements.one_else statements.if_statement statements.while_statement statements.do_statement statements.for_statement statements.switch_statement statements.statement statements.item statements.within units.function_body units.one_external units.externals units.parse out-Expr out-Prefix out-Specifier out-Direct out
nesting_read = (refl, refl, refl, refl, refl, refl, refl, refl)
