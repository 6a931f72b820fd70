-- The spelling of one node of a statement, from the spellings of its parts (C11 6.8).
use Rattle.std.specs.Prelude.{[], ◌∷◌, ◌++◌, Option, Some, None}
use Rattle.c_tree.specs.declared.token.Punct.TheVariants as p
use Rattle.c_tree.specs.declared.token.Keyword.TheVariants as word
use Rattle.c_tree.specs.declared.expression.Expr.{Expr}
use Rattle.c_tree.specs.declared.statement.Condition.{Condition}
use Rattle.c_tree.specs.declared.statement.IfHead.{IfHead}
use Rattle.c_tree.specs.declared.statement.ForHead.{ForHead}
use Rattle.c_tree.specs.declared.statement.ForHead.TheVariants as head
use Rattle.c_tree.specs.declared.statement.ForControl.{ForControl}
use Rattle.c_tree.specs.declared.statement.BlockItem.TheOpen.{BlockItem-F, Stmt-F}
use Rattle.c_tree.specs.Layers.{BlockItemOf, StmtOf, BlockOf, ElseOf}
use Rattle.c_tree.specs.Spelling.Tokens.{Spelling, punct, keyword, joined, parens, braces}
use Rattle.c_tree.specs.Spelling.Trees.{expr_spelling}
use Rattle.c_tree.specs.Spelling.Declarations.{declaration_spelling}

-- an expression, where one stands
abbrev pub value_spelling : Option Expr → Spelling
value_spelling None = []
value_spelling (Some value) = expr_spelling value

-- `(` expression `)` (C11 6.8.4, 6.8.5)
abbrev pub condition_spelling : Condition → Spelling
condition_spelling c = parens c.opening (expr_spelling c.value) c.closing

-- what stands first in the brackets of `for` (C11 6.8.5.3)
abbrev pub for_head_spelling : ForHead → Spelling
for_head_spelling (head.Expression value semicolon) = value_spelling value ++ punct p.Semicolon semicolon ∷ []
for_head_spelling (head.Declaration declaration) = declaration_spelling declaration

-- the brackets of `for` (C11 6.8.5.3)
abbrev pub for_control_spelling : ForControl → Spelling
for_control_spelling c = parens c.opening (for_head_spelling c.head ++ (value_spelling c.condition ++ punct p.Semicolon c.semicolon ∷ value_spelling c.step)) c.closing

-- `if` and its condition, where they stand behind `else`
abbrev pub if_head_spelling : Option IfHead → Spelling
if_head_spelling None = []
if_head_spelling (Some h) = keyword word.If h.word ∷ condition_spelling h.condition

-- a statement (C11 6.8)
abbrev pub spelled_stmt : StmtOf Spelling → Spelling
spelled_stmt (Stmt-F.Block block) = block
spelled_stmt (Stmt-F.Expression value semicolon) = value_spelling value ++ punct p.Semicolon semicolon ∷ []
spelled_stmt (Stmt-F.If at condition body others) = keyword word.If at ∷ (condition_spelling condition ++ (body ++ joined others))
spelled_stmt (Stmt-F.While at condition body) = keyword word.While at ∷ (condition_spelling condition ++ body)
spelled_stmt (Stmt-F.Do at body while_at condition semicolon) = keyword word.Do at ∷ (body ++ keyword word.While while_at ∷ (condition_spelling condition ++ punct p.Semicolon semicolon ∷ []))
spelled_stmt (Stmt-F.For at control body) = keyword word.For at ∷ (for_control_spelling control ++ body)
spelled_stmt (Stmt-F.Switch at condition body) = keyword word.Switch at ∷ (condition_spelling condition ++ body)
spelled_stmt (Stmt-F.Break at semicolon) = keyword word.Break at ∷ (punct p.Semicolon semicolon ∷ [])
spelled_stmt (Stmt-F.Continue at semicolon) = keyword word.Continue at ∷ (punct p.Semicolon semicolon ∷ [])
spelled_stmt (Stmt-F.Return at value semicolon) = keyword word.Return at ∷ (value_spelling value ++ punct p.Semicolon semicolon ∷ [])

-- `else` and its body (C11 6.8.4.1)
abbrev pub spelled_else : ElseOf Spelling → Spelling
spelled_else e = keyword word.Else e.word ∷ (if_head_spelling e.head ++ e.body)

-- a block (C11 6.8.2)
abbrev pub spelled_block : BlockOf Spelling → Spelling
spelled_block b = braces b.opening (joined b.items) b.closing

-- an item of a block (C11 6.8.2, 6.8.1)
abbrev pub spelled_block_item : BlockItemOf Spelling → Spelling
spelled_block_item (BlockItem-F.Declaration declaration) = declaration_spelling declaration
spelled_block_item (BlockItem-F.Statement statement) = statement
spelled_block_item (BlockItem-F.Case at value colon) = keyword word.Case at ∷ (expr_spelling value ++ punct p.Colon colon ∷ [])
spelled_block_item (BlockItem-F.Default at colon) = keyword word.Default at ∷ (punct p.Colon colon ∷ [])
