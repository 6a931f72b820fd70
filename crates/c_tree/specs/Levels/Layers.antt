-- Written by tools/tree_equations.py.
-- One node of a tree, with what the levels tell of each part in its place.
use Rattle.std.specs.Prelude.{ℕ, Bool}
use Rattle.c_tree.specs.Levels.Names.{With}
use Rattle.c_tree.specs.Levels.Facts.{DeclaratorFacts, ListedFacts, MemberDeclaratorFacts, Operand, ParameterFacts, PrefixKind, SpecifierKind, SuffixFacts}
use Rattle.c_tree.specs.Levels.StatementFacts.{BlockFacts, ElseFacts, ItemFacts, StatementFacts}
use Rattle.c_tree.specs.declared.declarator.DeclaratorSuffix.TheOpen.{DeclaratorSuffix-F, Direct-F, Expr-F, Prefix-F, Suffix-F, Enumerator-F, Specifier-F, Declarator-F, Parameter-F, Branch-F, Next-F, TypeName-F, Member-F, MemberDeclarator-F}
use Rattle.c_tree.specs.declared.declaration.Initialiser.TheOpen.{Initialiser-F, InitialiserItem-F}
use Rattle.c_tree.specs.declared.statement.BlockItem.TheOpen.{BlockItem-F, Stmt-F, Block-F, Else-F}

abbrev pub DeclaratorSuffixParts : Type 0
DeclaratorSuffixParts = DeclaratorSuffix-F (With SuffixFacts) (With DeclaratorFacts) (With ℕ) (With PrefixKind) (With Bool) (With ListedFacts) (With SpecifierKind) (With DeclaratorFacts) (With ParameterFacts) (With Bool) (With Operand) (With Bool) (With Bool) (With MemberDeclaratorFacts)

abbrev pub DirectParts : Type 0
DirectParts = Direct-F (With SuffixFacts) (With DeclaratorFacts) (With ℕ) (With PrefixKind) (With Bool) (With ListedFacts) (With SpecifierKind) (With DeclaratorFacts) (With ParameterFacts) (With Bool) (With Operand) (With Bool) (With Bool) (With MemberDeclaratorFacts)

abbrev pub ExprParts : Type 0
ExprParts = Expr-F (With SuffixFacts) (With DeclaratorFacts) (With ℕ) (With PrefixKind) (With Bool) (With ListedFacts) (With SpecifierKind) (With DeclaratorFacts) (With ParameterFacts) (With Bool) (With Operand) (With Bool) (With Bool) (With MemberDeclaratorFacts)

abbrev pub PrefixParts : Type 0
PrefixParts = Prefix-F (With SuffixFacts) (With DeclaratorFacts) (With ℕ) (With PrefixKind) (With Bool) (With ListedFacts) (With SpecifierKind) (With DeclaratorFacts) (With ParameterFacts) (With Bool) (With Operand) (With Bool) (With Bool) (With MemberDeclaratorFacts)

abbrev pub SuffixParts : Type 0
SuffixParts = Suffix-F (With SuffixFacts) (With DeclaratorFacts) (With ℕ) (With PrefixKind) (With Bool) (With ListedFacts) (With SpecifierKind) (With DeclaratorFacts) (With ParameterFacts) (With Bool) (With Operand) (With Bool) (With Bool) (With MemberDeclaratorFacts)

abbrev pub EnumeratorParts : Type 0
EnumeratorParts = Enumerator-F (With SuffixFacts) (With DeclaratorFacts) (With ℕ) (With PrefixKind) (With Bool) (With ListedFacts) (With SpecifierKind) (With DeclaratorFacts) (With ParameterFacts) (With Bool) (With Operand) (With Bool) (With Bool) (With MemberDeclaratorFacts)

abbrev pub SpecifierParts : Type 0
SpecifierParts = Specifier-F (With SuffixFacts) (With DeclaratorFacts) (With ℕ) (With PrefixKind) (With Bool) (With ListedFacts) (With SpecifierKind) (With DeclaratorFacts) (With ParameterFacts) (With Bool) (With Operand) (With Bool) (With Bool) (With MemberDeclaratorFacts)

abbrev pub DeclaratorParts : Type 0
DeclaratorParts = Declarator-F (With SuffixFacts) (With DeclaratorFacts) (With ℕ) (With PrefixKind) (With Bool) (With ListedFacts) (With SpecifierKind) (With DeclaratorFacts) (With ParameterFacts) (With Bool) (With Operand) (With Bool) (With Bool) (With MemberDeclaratorFacts)

abbrev pub ParameterParts : Type 0
ParameterParts = Parameter-F (With SuffixFacts) (With DeclaratorFacts) (With ℕ) (With PrefixKind) (With Bool) (With ListedFacts) (With SpecifierKind) (With DeclaratorFacts) (With ParameterFacts) (With Bool) (With Operand) (With Bool) (With Bool) (With MemberDeclaratorFacts)

abbrev pub BranchParts : Type 0
BranchParts = Branch-F (With SuffixFacts) (With DeclaratorFacts) (With ℕ) (With PrefixKind) (With Bool) (With ListedFacts) (With SpecifierKind) (With DeclaratorFacts) (With ParameterFacts) (With Bool) (With Operand) (With Bool) (With Bool) (With MemberDeclaratorFacts)

abbrev pub NextParts : Type 0
NextParts = Next-F (With SuffixFacts) (With DeclaratorFacts) (With ℕ) (With PrefixKind) (With Bool) (With ListedFacts) (With SpecifierKind) (With DeclaratorFacts) (With ParameterFacts) (With Bool) (With Operand) (With Bool) (With Bool) (With MemberDeclaratorFacts)

abbrev pub TypeNameParts : Type 0
TypeNameParts = TypeName-F (With SuffixFacts) (With DeclaratorFacts) (With ℕ) (With PrefixKind) (With Bool) (With ListedFacts) (With SpecifierKind) (With DeclaratorFacts) (With ParameterFacts) (With Bool) (With Operand) (With Bool) (With Bool) (With MemberDeclaratorFacts)

abbrev pub MemberParts : Type 0
MemberParts = Member-F (With SuffixFacts) (With DeclaratorFacts) (With ℕ) (With PrefixKind) (With Bool) (With ListedFacts) (With SpecifierKind) (With DeclaratorFacts) (With ParameterFacts) (With Bool) (With Operand) (With Bool) (With Bool) (With MemberDeclaratorFacts)

abbrev pub MemberDeclaratorParts : Type 0
MemberDeclaratorParts = MemberDeclarator-F (With SuffixFacts) (With DeclaratorFacts) (With ℕ) (With PrefixKind) (With Bool) (With ListedFacts) (With SpecifierKind) (With DeclaratorFacts) (With ParameterFacts) (With Bool) (With Operand) (With Bool) (With Bool) (With MemberDeclaratorFacts)

abbrev pub InitialiserParts : Type 0
InitialiserParts = Initialiser-F (With Bool) (With ListedFacts)

abbrev pub InitialiserItemParts : Type 0
InitialiserItemParts = InitialiserItem-F (With Bool) (With ListedFacts)

abbrev pub BlockItemParts : Type 0
BlockItemParts = BlockItem-F (With ItemFacts) (With StatementFacts) (With BlockFacts) (With ElseFacts)

abbrev pub StmtParts : Type 0
StmtParts = Stmt-F (With ItemFacts) (With StatementFacts) (With BlockFacts) (With ElseFacts)

abbrev pub BlockParts : Type 0
BlockParts = Block-F (With ItemFacts) (With StatementFacts) (With BlockFacts) (With ElseFacts)

abbrev pub ElseParts : Type 0
ElseParts = Else-F (With ItemFacts) (With StatementFacts) (With BlockFacts) (With ElseFacts)
