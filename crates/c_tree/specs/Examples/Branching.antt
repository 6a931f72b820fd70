-- Small statements and what is told of each from its parts, for examples. Each condition is the number 0.
use Rattle.std.specs.Prelude.{◌≡◌, [], ◌∷◌, Option, None}
use Rattle.std.proofs.Common.{ap, ◌∙◌}
use Rattle.c_tree.specs.declared.statement.Condition.{Condition}
use Rattle.c_tree.specs.declared.statement.IfHead.{IfHead}
use Rattle.c_tree.specs.declared.statement.Stmt.{Stmt}
use Rattle.c_tree.specs.declared.statement.Stmt.TheVariants as stmt
use Rattle.c_tree.specs.declared.statement.Block.{roll-Block}
use Rattle.c_tree.specs.declared.statement.Else.{roll-Else}
use Rattle.c_tree.specs.declared.statement.BlockItem.TheOpen.{Stmt-F}
use Rattle.c_tree.specs.Levels.Names.{Names}
use Rattle.c_tree.specs.Levels.OfStatements.{level_of_stmt, level_of_else}
use Rattle.c_tree.specs.Levels.Statements.{stmt_level, stmt_level-Expression, stmt_level-If, stmt_level-While, else_level-roll}
use Rattle.c_tree.specs.Nesting.OfStatements.{nested_stmt, nested_else, nested_block}
use Rattle.c_tree.specs.Nesting.Statements.{stmt_nesting, stmt_nesting-Expression, stmt_nesting-If, stmt_nesting-While, stmt_nesting-Block, else_nesting-roll, block_nesting-roll}
use Rattle.c_tree.specs.Examples.Built.{here, named}

-- `(a)`
abbrev pub test : Condition
test = record { opening = here; value = named 97; closing = here }

abbrev pub head : IfHead
head = record { word = here; condition = test }

-- ---- `;`

pub skip : Stmt
skip = stmt.Expression None here

pub skip-level : (names : Names) → stmt_level skip names ≡ level_of_stmt (Stmt-F.Expression None here) names
unfolding skip
skip-level names = stmt_level-Expression None here names

pub skip-nesting : stmt_nesting skip ≡ nested_stmt (Stmt-F.Expression None here)
unfolding skip
skip-nesting = stmt_nesting-Expression None here

-- ---- `{ }`

pub empty_block : Stmt
empty_block = stmt.Block (roll-Block (record { opening = here; items = []; closing = here }))

pub empty_block-nesting : stmt_nesting empty_block ≡ nested_stmt (Stmt-F.Block (nested_block (record { opening = here; items = []; closing = here })))
unfolding empty_block
empty_block-nesting =
    stmt_nesting-Block (roll-Block (record { opening = here; items = []; closing = here }))
    ∙ ap (λ x. nested_stmt (Stmt-F.Block x)) (block_nesting-roll (record { opening = here; items = []; closing = here }))

-- ---- `if (a)` body

pub if_alone : Stmt → Stmt
if_alone body = stmt.If here test body []

pub if_alone-level : (body : Stmt) (names : Names) → stmt_level (if_alone body) names ≡ level_of_stmt (Stmt-F.If here test (stmt_level body) []) names
unfolding if_alone
if_alone-level body names = stmt_level-If here test body [] names

pub if_alone-nesting : (body : Stmt) → stmt_nesting (if_alone body) ≡ nested_stmt (Stmt-F.If here test (stmt_nesting body) [])
unfolding if_alone
if_alone-nesting body = stmt_nesting-If here test body []

-- ---- `if (a)` body `else` other, where `if (a)` stands behind `else` or not

pub if_else : Stmt → Option IfHead → Stmt → Stmt
if_else body begins other = stmt.If here test body (roll-Else (record { word = here; head = begins; body = other }) ∷ [])

pub if_else-level : (body : Stmt) (begins : Option IfHead) (other : Stmt) (names : Names) →
    stmt_level (if_else body begins other) names ≡ level_of_stmt (Stmt-F.If here test (stmt_level body) (level_of_else (record { word = here; head = begins; body = stmt_level other }) ∷ [])) names
unfolding if_else
if_else-level body begins other names =
    stmt_level-If here test body (roll-Else (record { word = here; head = begins; body = other }) ∷ []) names
    ∙ ap (λ x. level_of_stmt (Stmt-F.If here test (stmt_level body) (x ∷ [])) names) (else_level-roll (record { word = here; head = begins; body = other }))

pub if_else-nesting : (body : Stmt) (begins : Option IfHead) (other : Stmt) →
    stmt_nesting (if_else body begins other) ≡ nested_stmt (Stmt-F.If here test (stmt_nesting body) (nested_else (record { word = here; head = begins; body = stmt_nesting other }) ∷ []))
unfolding if_else
if_else-nesting body begins other =
    stmt_nesting-If here test body (roll-Else (record { word = here; head = begins; body = other }) ∷ [])
    ∙ ap (λ x. nested_stmt (Stmt-F.If here test (stmt_nesting body) (x ∷ []))) (else_nesting-roll (record { word = here; head = begins; body = other }))

-- ---- `while (a)` body

pub while : Stmt → Stmt
while body = stmt.While here test body

pub while-level : (body : Stmt) (names : Names) → stmt_level (while body) names ≡ level_of_stmt (Stmt-F.While here test (stmt_level body)) names
unfolding while
while-level body names = stmt_level-While here test body names

pub while-nesting : (body : Stmt) → stmt_nesting (while body) ≡ nested_stmt (Stmt-F.While here test (stmt_nesting body))
unfolding while
while-nesting body = stmt_nesting-While here test body
