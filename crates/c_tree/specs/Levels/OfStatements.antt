-- Whether one node of a statement is as the grammar has it (C11 6.8). Scopes are a block, an `if`, `while`,
-- `do`, `for` and `switch` statement, and each of their bodies (C11 6.8.4p3, 6.8.5p5).
use Rattle.std.specs.Prelude.{ℕ, Bool, true, false, not, ◌&&◌, nat_le, Option, Some, None, is_none}
use Rattle.c_tree.specs.declared.expression.Expr.{Expr}
use Rattle.c_tree.specs.declared.statement.Condition.{Condition}
use Rattle.c_tree.specs.declared.statement.IfHead.{IfHead}
use Rattle.c_tree.specs.declared.statement.ForHead.{ForHead}
use Rattle.c_tree.specs.declared.statement.ForHead.TheVariants as head
use Rattle.c_tree.specs.declared.statement.ForControl.{ForControl}
use Rattle.c_tree.specs.declared.statement.BlockItem.TheOpen.{BlockItem-F, Stmt-F}
use Rattle.c_tree.specs.Levels.Layers.{BlockItemParts, StmtParts, BlockParts, ElseParts}
use Rattle.c_tree.specs.Levels.Names.{With, told, by, ◌then◌, in_row, scoped}
use Rattle.c_tree.specs.Levels.Productions.{conditional, comma}
use Rattle.c_tree.specs.Levels.StatementFacts.{StatementFacts, closed, ElseFacts, ItemFacts, BlockFacts, facts_of_block, chained, takes_more}
use Rattle.c_tree.specs.Levels.Trees.{expr_level}
use Rattle.c_tree.specs.Levels.Declarations.{declaration_level}

-- whether an expression is of a production
abbrev pub within : ℕ → Expr → With Bool
within production value = by (λ n. nat_le n production) (expr_level value)

-- an expression, where one stands
abbrev pub value_level : Option Expr → With Bool
value_level None = told true
value_level (Some value) = within comma value

-- whether a condition is an expression
abbrev pub condition_level : Condition → With Bool
condition_level c = within comma c.value

-- whether what stands first in the brackets of `for` is as the grammar has it
abbrev pub for_head_level : ForHead → With Bool
for_head_level (head.Expression value semicolon) = value_level value
for_head_level (head.Declaration declaration) = declaration_level declaration

-- whether the brackets of `for` are as the grammar has them
abbrev pub for_control_level : ForControl → With Bool
for_control_level c = by (λ r. r.0 && (r.1.0 && r.1.1)) (for_head_level c.head then (value_level c.condition then value_level c.step))

-- `if` and its condition, where they stand behind `else`
abbrev pub if_head_level : Option IfHead → With Bool
if_head_level None = told true
if_head_level (Some h) = condition_level h.condition

-- what is told of a statement (C11 6.8)
abbrev pub level_of_stmt : StmtParts → With StatementFacts
level_of_stmt (Stmt-F.Block block) = by (λ b. closed (b.good && not b.has_label)) (scoped block)
level_of_stmt (Stmt-F.Expression value semicolon) = by closed (value_level value)
level_of_stmt (Stmt-F.If at condition body others) = scoped (by (λ r. record {
  good = r.0 && (r.1.0.good && chained r.1.0.takes_else r.1.1);
  takes_else = takes_more r.1.1;
  is_if = true;
}) (condition_level condition then (scoped body then in_row others)))
level_of_stmt (Stmt-F.While at condition body) = scoped (by (λ r. record { good = r.0 && r.1.good; takes_else = r.1.takes_else; is_if = false }) (condition_level condition then scoped body))
level_of_stmt (Stmt-F.Do at body while_at condition semicolon) = scoped (by (λ r. closed (r.0.good && r.1)) (scoped body then condition_level condition))
level_of_stmt (Stmt-F.For at control body) = scoped (by (λ r. record { good = r.0 && r.1.good; takes_else = r.1.takes_else; is_if = false }) (for_control_level control then scoped body))
level_of_stmt (Stmt-F.Switch at condition body) = scoped (by (λ r. closed (r.0 && r.1.good)) (condition_level condition then scoped body))
level_of_stmt (Stmt-F.Break at semicolon) = told (closed true)
level_of_stmt (Stmt-F.Continue at semicolon) = told (closed true)
level_of_stmt (Stmt-F.Return at value semicolon) = by closed (value_level value)

-- An `if` right behind `else` is a statement of its own, whose scope ends with the whole.
abbrev pub level_of_else : ElseParts → With ElseFacts
level_of_else e = by (λ r. record { good = r.0 && r.1.good; is_last = is_none e.head; body = r.1 }) (if_head_level e.head then scoped e.body)

-- what is told of a block: its items in a row (C11 6.8.2)
abbrev pub level_of_block : BlockParts → With BlockFacts
level_of_block b = by facts_of_block (in_row b.items)

-- what is told of an item of a block (C11 6.8.2, 6.8.1)
abbrev pub level_of_block_item : BlockItemParts → With ItemFacts
level_of_block_item (BlockItem-F.Declaration declaration) = by (λ good. record { good = good; is_label = false }) (declaration_level declaration)
level_of_block_item (BlockItem-F.Statement statement) = by (λ s. record { good = s.good; is_label = false }) statement
level_of_block_item (BlockItem-F.Case at value colon) = by (λ good. record { good = good; is_label = true }) (within conditional value)
level_of_block_item (BlockItem-F.Default at colon) = told (record { good = true; is_label = true })
