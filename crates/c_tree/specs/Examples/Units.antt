-- Examples of units, each computed from the definitions.
use Rattle.std.specs.Prelude.{◌≡◌, ℕ, true, false, List, [], ◌∷◌, Some, None, refl}
use Rattle.std.proofs.Common.{ap, ◌∙◌}
use Rattle.c_tree.specs.declared.specifier.Specifier.{Specifier}
use Rattle.c_tree.specs.declared.specifier.TypeWord.TheVariants as type
use Rattle.c_tree.specs.declared.expression.Expr.{Expr}
use Rattle.c_tree.specs.declared.statement.Stmt.{Stmt}
use Rattle.c_tree.specs.declared.statement.Stmt.TheVariants as stmt
use Rattle.c_tree.specs.declared.statement.Block.{Block, roll-Block}
use Rattle.c_tree.specs.declared.statement.BlockItem.TheVariants as item
use Rattle.c_tree.specs.declared.statement.BlockItem.TheOpen.{Stmt-F, BlockItem-F}
use Rattle.c_tree.specs.declared.unit.External.{External}
use Rattle.c_tree.specs.declared.unit.External.TheVariants as external
use Rattle.c_tree.specs.declared.unit.Unit as tree
use Rattle.c_tree.specs.Levels.Names.{Names}
use Rattle.c_tree.specs.Levels.OfStatements.{level_of_stmt, level_of_block, level_of_block_item}
use Rattle.c_tree.specs.Levels.Statements.{block_level, stmt_level-Expression, block_item_level-Statement, block_level-roll}
use Rattle.c_tree.specs.Levels.Units.{unit_level}
use Rattle.c_tree.specs.Examples.Built.{here, named, named-level}
use Rattle.c_tree.specs.Examples.Declared.{word, word-level, typedef, typedef-level, typedef_name, typedef_name-level, declared, declared-level, function, function-level}

-- `T` is declared as a typedef name by some of these
abbrev T : ℕ
T = 84

abbrev declaration : List Specifier → ℕ → External
declaration specifiers code = external.Declaration (record { specifiers = specifiers; declarators = record { comma = None; declarator = declared code; start = None } ∷ []; semicolon = here })

-- `{` value `;` `}`
pub stating : Expr → Block
stating value = roll-Block (record { opening = here; items = item.Statement (stmt.Expression (Some value) here) ∷ []; closing = here })

stating-level : (value : Expr) (names : Names) → block_level (stating value) names ≡ level_of_block (record { opening = here; items = level_of_block_item (BlockItem-F.Statement (level_of_stmt (Stmt-F.Expression (Some value) here))) ∷ []; closing = here }) names
unfolding stating
stating-level value names =
    let one : Stmt = stmt.Expression (Some value) here in
    ap (λ f. f names) (block_level-roll (record { opening = here; items = item.Statement one ∷ []; closing = here }))
    ∙ ap (λ x. level_of_block (record { opening = here; items = x ∷ []; closing = here }) names) (λ i seen. block_item_level-Statement one seen i)
    ∙ ap (λ x. level_of_block (record { opening = here; items = level_of_block_item (BlockItem-F.Statement x) ∷ []; closing = here }) names) (λ i seen. stmt_level-Expression (Some value) here seen i)

-- `int f(int` parameter `) {` value `; }`
abbrev definition : ℕ → Expr → External
definition parameter value = external.Definition (record { specifiers = word type.Int ∷ []; declarator = function 102 (word type.Int) (declared parameter); body = stating value })

abbrev unit : List External → tree.Unit
unit items = record { items = items; end = here }

ruleset levels = (named-level, word-level, typedef-level, typedef_name-level, declared-level, function-level, stating-level)

-- `typedef int T; T x;`
pub typedef_and_use : (unit_level (unit (declaration (typedef ∷ (word type.Int ∷ [])) T ∷ (declaration (typedef_name T ∷ []) 120 ∷ []))) []).0 ≡ true
typedef_and_use = simp levels

-- `T x;` alone
pub use_alone : (unit_level (unit (declaration (typedef_name T ∷ []) 120 ∷ [])) []).0 ≡ false
use_alone = simp levels

-- `int T; T x;`: the declaration is no typedef
pub object_is_no_type : (unit_level (unit (declaration (word type.Int ∷ []) T ∷ (declaration (typedef_name T ∷ []) 120 ∷ []))) []).0 ≡ false
object_is_no_type = simp levels

-- `typedef int T; int f(int T) { T; }`: the parameter hides the typedef in the body
pub parameter_hides_typedef : (unit_level (unit (declaration (typedef ∷ (word type.Int ∷ [])) T ∷ (definition T (named T) ∷ []))) []).0 ≡ true
parameter_hides_typedef = simp levels

-- `typedef int T; int f(int x) { T; }`: a typedef name is no expression
pub typedef_in_body : (unit_level (unit (declaration (typedef ∷ (word type.Int ∷ [])) T ∷ (definition 120 (named T) ∷ []))) []).0 ≡ false
typedef_in_body = simp levels

-- `typedef int T; int f(int T) { T; } T x;`: behind the definition it is visible again
pub typedef_visible_again : (unit_level (unit (declaration (typedef ∷ (word type.Int ∷ [])) T ∷ (definition T (named T) ∷ (declaration (typedef_name T ∷ []) 120 ∷ [])))) []).0 ≡ true
typedef_visible_again = simp levels

-- a unit has at least one declaration
pub empty_file : (unit_level (unit []) []).0 ≡ false
empty_file = refl
