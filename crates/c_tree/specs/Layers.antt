-- Written by tools/tree_equations.py.
-- One node of a tree: `ExprLayer` with trees as its parts, `ExprOf A` with an `A` in place of each part.
use Rattle.c_tree.specs.declared.declarator.DeclaratorSuffix.{DeclaratorSuffix}
use Rattle.c_tree.specs.declared.declarator.Direct.{Direct}
use Rattle.c_tree.specs.declared.expression.Expr.{Expr}
use Rattle.c_tree.specs.declared.expression.Prefix.{Prefix}
use Rattle.c_tree.specs.declared.expression.Suffix.{Suffix}
use Rattle.c_tree.specs.declared.specifier.Enumerator.{Enumerator}
use Rattle.c_tree.specs.declared.specifier.Specifier.{Specifier}
use Rattle.c_tree.specs.declared.declarator.Declarator.{Declarator}
use Rattle.c_tree.specs.declared.declarator.Parameter.{Parameter}
use Rattle.c_tree.specs.declared.expression.Branch.{Branch}
use Rattle.c_tree.specs.declared.expression.Next.{Next}
use Rattle.c_tree.specs.declared.expression.TypeName.{TypeName}
use Rattle.c_tree.specs.declared.specifier.Member.{Member}
use Rattle.c_tree.specs.declared.specifier.MemberDeclarator.{MemberDeclarator}
use Rattle.c_tree.specs.declared.declarator.DeclaratorSuffix.TheOpen.{DeclaratorSuffix-F, Direct-F, Expr-F, Prefix-F, Suffix-F, Enumerator-F, Specifier-F, Declarator-F, Parameter-F, Branch-F, Next-F, TypeName-F, Member-F, MemberDeclarator-F}
use Rattle.c_tree.specs.declared.declaration.Initialiser.{Initialiser}
use Rattle.c_tree.specs.declared.declaration.InitialiserItem.{InitialiserItem}
use Rattle.c_tree.specs.declared.declaration.Initialiser.TheOpen.{Initialiser-F, InitialiserItem-F}
use Rattle.c_tree.specs.declared.statement.BlockItem.{BlockItem}
use Rattle.c_tree.specs.declared.statement.Stmt.{Stmt}
use Rattle.c_tree.specs.declared.statement.Block.{Block}
use Rattle.c_tree.specs.declared.statement.Else.{Else}
use Rattle.c_tree.specs.declared.statement.BlockItem.TheOpen.{BlockItem-F, Stmt-F, Block-F, Else-F}

abbrev pub DeclaratorSuffixLayer : Type 0
DeclaratorSuffixLayer = DeclaratorSuffix-F DeclaratorSuffix Direct Expr Prefix Suffix Enumerator Specifier Declarator Parameter Branch Next TypeName Member MemberDeclarator

abbrev pub DeclaratorSuffixOf : Type 0 → Type 0
DeclaratorSuffixOf A = DeclaratorSuffix-F A A A A A A A A A A A A A A

abbrev pub DirectLayer : Type 0
DirectLayer = Direct-F DeclaratorSuffix Direct Expr Prefix Suffix Enumerator Specifier Declarator Parameter Branch Next TypeName Member MemberDeclarator

abbrev pub DirectOf : Type 0 → Type 0
DirectOf A = Direct-F A A A A A A A A A A A A A A

abbrev pub ExprLayer : Type 0
ExprLayer = Expr-F DeclaratorSuffix Direct Expr Prefix Suffix Enumerator Specifier Declarator Parameter Branch Next TypeName Member MemberDeclarator

abbrev pub ExprOf : Type 0 → Type 0
ExprOf A = Expr-F A A A A A A A A A A A A A A

abbrev pub PrefixLayer : Type 0
PrefixLayer = Prefix-F DeclaratorSuffix Direct Expr Prefix Suffix Enumerator Specifier Declarator Parameter Branch Next TypeName Member MemberDeclarator

abbrev pub PrefixOf : Type 0 → Type 0
PrefixOf A = Prefix-F A A A A A A A A A A A A A A

abbrev pub SuffixLayer : Type 0
SuffixLayer = Suffix-F DeclaratorSuffix Direct Expr Prefix Suffix Enumerator Specifier Declarator Parameter Branch Next TypeName Member MemberDeclarator

abbrev pub SuffixOf : Type 0 → Type 0
SuffixOf A = Suffix-F A A A A A A A A A A A A A A

abbrev pub EnumeratorLayer : Type 0
EnumeratorLayer = Enumerator-F DeclaratorSuffix Direct Expr Prefix Suffix Enumerator Specifier Declarator Parameter Branch Next TypeName Member MemberDeclarator

abbrev pub EnumeratorOf : Type 0 → Type 0
EnumeratorOf A = Enumerator-F A A A A A A A A A A A A A A

abbrev pub SpecifierLayer : Type 0
SpecifierLayer = Specifier-F DeclaratorSuffix Direct Expr Prefix Suffix Enumerator Specifier Declarator Parameter Branch Next TypeName Member MemberDeclarator

abbrev pub SpecifierOf : Type 0 → Type 0
SpecifierOf A = Specifier-F A A A A A A A A A A A A A A

abbrev pub DeclaratorLayer : Type 0
DeclaratorLayer = Declarator-F DeclaratorSuffix Direct Expr Prefix Suffix Enumerator Specifier Declarator Parameter Branch Next TypeName Member MemberDeclarator

abbrev pub DeclaratorOf : Type 0 → Type 0
DeclaratorOf A = Declarator-F A A A A A A A A A A A A A A

abbrev pub ParameterLayer : Type 0
ParameterLayer = Parameter-F DeclaratorSuffix Direct Expr Prefix Suffix Enumerator Specifier Declarator Parameter Branch Next TypeName Member MemberDeclarator

abbrev pub ParameterOf : Type 0 → Type 0
ParameterOf A = Parameter-F A A A A A A A A A A A A A A

abbrev pub BranchLayer : Type 0
BranchLayer = Branch-F DeclaratorSuffix Direct Expr Prefix Suffix Enumerator Specifier Declarator Parameter Branch Next TypeName Member MemberDeclarator

abbrev pub BranchOf : Type 0 → Type 0
BranchOf A = Branch-F A A A A A A A A A A A A A A

abbrev pub NextLayer : Type 0
NextLayer = Next-F DeclaratorSuffix Direct Expr Prefix Suffix Enumerator Specifier Declarator Parameter Branch Next TypeName Member MemberDeclarator

abbrev pub NextOf : Type 0 → Type 0
NextOf A = Next-F A A A A A A A A A A A A A A

abbrev pub TypeNameLayer : Type 0
TypeNameLayer = TypeName-F DeclaratorSuffix Direct Expr Prefix Suffix Enumerator Specifier Declarator Parameter Branch Next TypeName Member MemberDeclarator

abbrev pub TypeNameOf : Type 0 → Type 0
TypeNameOf A = TypeName-F A A A A A A A A A A A A A A

abbrev pub MemberLayer : Type 0
MemberLayer = Member-F DeclaratorSuffix Direct Expr Prefix Suffix Enumerator Specifier Declarator Parameter Branch Next TypeName Member MemberDeclarator

abbrev pub MemberOf : Type 0 → Type 0
MemberOf A = Member-F A A A A A A A A A A A A A A

abbrev pub MemberDeclaratorLayer : Type 0
MemberDeclaratorLayer = MemberDeclarator-F DeclaratorSuffix Direct Expr Prefix Suffix Enumerator Specifier Declarator Parameter Branch Next TypeName Member MemberDeclarator

abbrev pub MemberDeclaratorOf : Type 0 → Type 0
MemberDeclaratorOf A = MemberDeclarator-F A A A A A A A A A A A A A A

abbrev pub InitialiserLayer : Type 0
InitialiserLayer = Initialiser-F Initialiser InitialiserItem

abbrev pub InitialiserOf : Type 0 → Type 0
InitialiserOf A = Initialiser-F A A

abbrev pub InitialiserItemLayer : Type 0
InitialiserItemLayer = InitialiserItem-F Initialiser InitialiserItem

abbrev pub InitialiserItemOf : Type 0 → Type 0
InitialiserItemOf A = InitialiserItem-F A A

abbrev pub BlockItemLayer : Type 0
BlockItemLayer = BlockItem-F BlockItem Stmt Block Else

abbrev pub BlockItemOf : Type 0 → Type 0
BlockItemOf A = BlockItem-F A A A A

abbrev pub StmtLayer : Type 0
StmtLayer = Stmt-F BlockItem Stmt Block Else

abbrev pub StmtOf : Type 0 → Type 0
StmtOf A = Stmt-F A A A A

abbrev pub BlockLayer : Type 0
BlockLayer = Block-F BlockItem Stmt Block Else

abbrev pub BlockOf : Type 0 → Type 0
BlockOf A = Block-F A A A A

abbrev pub ElseLayer : Type 0
ElseLayer = Else-F BlockItem Stmt Block Else

abbrev pub ElseOf : Type 0 → Type 0
ElseOf A = Else-F A A A A
