-- When a tree is one that the grammar has: each part is of the production that the grammar names there, each
-- name is a typedef name where the grammar wants one and nowhere else, parameters that are the one word `void`
-- are the tree for it, no brackets are round nothing, and each `else` belongs to the nearest `if`. Of a whole
-- unit also that it nests no deeper than 256.
use Rattle.std.specs.Prelude.{ℕ, ◌≤◌, Bool, IsTrue, List, []}
use Rattle.c_tree.specs.declared.expression.Expr.{Expr}
use Rattle.c_tree.specs.declared.expression.TypeName.{TypeName}
use Rattle.c_tree.specs.declared.specifier.Specifier.{Specifier}
use Rattle.c_tree.specs.declared.declarator.Declarator.{Declarator}
use Rattle.c_tree.specs.declared.declaration.Initialiser.{Initialiser}
use Rattle.c_tree.specs.declared.declaration.Declaration.{Declaration}
use Rattle.c_tree.specs.declared.statement.Stmt.{Stmt}
use Rattle.c_tree.specs.declared.unit.Unit as tree
use Rattle.c_tree.specs.Levels.Names.{Names}
use Rattle.c_tree.specs.Levels.Facts.{Use, declares}
use Rattle.c_tree.specs.Levels.Trees.{expr_level, type_name_level, declarator_level}
use Rattle.c_tree.specs.Levels.Initialisers.{initialiser_level}
use Rattle.c_tree.specs.Levels.Declarations.{specifiers_level, declaration_level}
use Rattle.c_tree.specs.Levels.Statements.{stmt_level}
use Rattle.c_tree.specs.Levels.Units.{unit_level}
use Rattle.c_tree.specs.Nesting.Units.{unit_nesting}

-- an expression of this production, where these names are visible
abbrev pub IsExpression : ℕ → Names → Expr → Type 0
IsExpression within names tree = (expr_level tree names).0 ≤ within

-- a type name, where these names are visible
abbrev pub IsTypeName : Names → TypeName → Type 0
IsTypeName names tree = IsTrue (type_name_level tree names).0

-- specifiers: at least one, each as the grammar has it
abbrev pub IsSpecifiers : Names → List Specifier → Type 0
IsSpecifiers names trees = IsTrue (specifiers_level trees names).0.good

-- a declarator for this use, behind specifiers that name a type or do not
abbrev pub IsDeclarator : Use → Bool → Names → Declarator → Type 0
IsDeclarator purpose typed names tree = IsTrue (declares purpose typed (declarator_level tree names).0)

-- an initialiser
abbrev pub IsInitialiser : Names → Initialiser → Type 0
IsInitialiser names tree = IsTrue (initialiser_level tree names).0

-- a declaration
abbrev pub IsDeclaration : Names → Declaration → Type 0
IsDeclaration names tree = IsTrue (declaration_level tree names).0

-- a statement
abbrev pub IsStatement : Names → Stmt → Type 0
IsStatement names tree = IsTrue (stmt_level tree names).0.good

-- the deepest nesting of a token in a source
abbrev pub nesting_limit : ℕ
nesting_limit = 256

-- a unit that the grammar has, whatever its nesting
abbrev pub IsUnit : tree.Unit → Type 0
IsUnit unit = IsTrue (unit_level unit []).0

-- a unit that the grammar has, nested no deeper than the limit
pub record IsLevelled (unit : tree.Unit) : Type 0 where
  pub parts : IsUnit unit
  pub nesting : unit_nesting unit ≤ nesting_limit
