-- How deep one node of a statement nests, from how deep its parts nest.
use Rattle.std.specs.Prelude.{ℕ, ◌+◌, max, Bool, true, false, if◌then◌else◌, Option, Some, None}
use Rattle.c_tree.specs.declared.expression.Expr.{Expr}
use Rattle.c_tree.specs.declared.statement.Condition.{Condition}
use Rattle.c_tree.specs.declared.statement.IfHead.{IfHead}
use Rattle.c_tree.specs.declared.statement.ForHead.{ForHead}
use Rattle.c_tree.specs.declared.statement.ForHead.TheVariants as head
use Rattle.c_tree.specs.declared.statement.ForControl.{ForControl}
use Rattle.c_tree.specs.declared.statement.BlockItem.TheOpen.{BlockItem-F, Stmt-F, Block-F, Else-F}
use Rattle.c_tree.specs.Nesting.OfTrees.{deepest}
use Rattle.c_tree.specs.Nesting.Trees.{expr_nesting}
use Rattle.c_tree.specs.Nesting.Declarations.{declaration_nesting}

-- how deep a statement nests where it stands by itself, and whether it is a block
pub record Depth : Type 0 where
  pub is_block : Bool
  pub alone : ℕ

-- how deep a statement nests as a body: a body that is no block is one construct more
abbrev pub as_body : Depth → ℕ
as_body d = if d.is_block then d.alone else d.alone + 1

-- a statement that is no block and nests so deep
abbrev pub open_at : ℕ → Depth
open_at n = record { is_block = false; alone = n }

-- how deep an expression nests, where one stands
abbrev pub value_nesting : Option Expr → ℕ
value_nesting None = 0
value_nesting (Some value) = expr_nesting value

-- how deep `(` expression `)` nests
abbrev pub condition_nesting : Condition → ℕ
condition_nesting c = expr_nesting c.value + 1

-- how deep what stands first in the brackets of `for` nests
abbrev pub for_head_nesting : ForHead → ℕ
for_head_nesting (head.Expression value semicolon) = value_nesting value
for_head_nesting (head.Declaration declaration) = declaration_nesting declaration

-- how deep the brackets of `for` nest
abbrev pub for_control_nesting : ForControl → ℕ
for_control_nesting c = max (for_head_nesting c.head) (max (value_nesting c.condition) (value_nesting c.step)) + 1

-- how deep `if` and its condition nest, where they stand behind `else`
abbrev pub if_head_nesting : Option IfHead → ℕ
if_head_nesting None = 0
if_head_nesting (Some h) = condition_nesting h.condition

-- how deep a statement nests
abbrev pub nested_stmt : Stmt-F ℕ Depth ℕ ℕ → Depth
nested_stmt (Stmt-F.Block block) = record { is_block = true; alone = block }
nested_stmt (Stmt-F.Expression value semicolon) = open_at (value_nesting value)
nested_stmt (Stmt-F.If at condition body others) = open_at (max (condition_nesting condition) (max (as_body body) (deepest others)))
nested_stmt (Stmt-F.While at condition body) = open_at (max (condition_nesting condition) (as_body body))
nested_stmt (Stmt-F.Do at body while_at condition semicolon) = open_at (max (as_body body) (condition_nesting condition))
nested_stmt (Stmt-F.For at control body) = open_at (max (for_control_nesting control) (as_body body))
nested_stmt (Stmt-F.Switch at condition body) = open_at (max (condition_nesting condition) body)
nested_stmt (Stmt-F.Break at semicolon) = open_at 0
nested_stmt (Stmt-F.Continue at semicolon) = open_at 0
nested_stmt (Stmt-F.Return at value semicolon) = open_at (value_nesting value)

-- an `if` right behind its `else` adds none
abbrev pub nested_else : Else-F ℕ Depth ℕ ℕ → ℕ
nested_else e = max (if_head_nesting e.head) (as_body e.body)

-- how deep a block nests
abbrev pub nested_block : Block-F ℕ Depth ℕ ℕ → ℕ
nested_block b = deepest b.items + 1

-- how deep an item of a block nests
abbrev pub nested_block_item : BlockItem-F ℕ Depth ℕ ℕ → ℕ
nested_block_item (BlockItem-F.Declaration declaration) = declaration_nesting declaration
nested_block_item (BlockItem-F.Statement statement) = statement.alone
nested_block_item (BlockItem-F.Case at value colon) = expr_nesting value
nested_block_item (BlockItem-F.Default at colon) = 0
