-- Written by tools/grammar_tables.py.
-- What is shown of typing of each node whose parts answer holds of every tree.
use Rattle.std.proofs.Common.{subst}
use Rattle.c_tree.specs.declared.declarator.DeclaratorSuffix.{DeclaratorSuffix, roll-DeclaratorSuffix}
use Rattle.c_tree.specs.declared.declarator.Direct.{Direct, roll-Direct}
use Rattle.c_tree.specs.declared.expression.Expr.{Expr, roll-Expr}
use Rattle.c_tree.specs.declared.expression.Prefix.{Prefix, roll-Prefix}
use Rattle.c_tree.specs.declared.expression.Suffix.{Suffix, roll-Suffix}
use Rattle.c_tree.specs.declared.specifier.Enumerator.{Enumerator, roll-Enumerator}
use Rattle.c_tree.specs.declared.specifier.Specifier.{Specifier, roll-Specifier}
use Rattle.c_tree.specs.declared.declarator.Declarator.{Declarator, roll-Declarator}
use Rattle.c_tree.specs.declared.declarator.Parameter.{Parameter, roll-Parameter}
use Rattle.c_tree.specs.declared.expression.Branch.{Branch, roll-Branch}
use Rattle.c_tree.specs.declared.expression.Next.{Next, roll-Next}
use Rattle.c_tree.specs.declared.expression.TypeName.{TypeName, roll-TypeName}
use Rattle.c_tree.specs.declared.specifier.Member.{Member, roll-Member}
use Rattle.c_tree.specs.declared.specifier.MemberDeclarator.{MemberDeclarator, roll-MemberDeclarator}
use Rattle.c_tree.specs.declared.declarator.DeclaratorSuffix.TheOpen.{DeclaratorSuffix-F, Direct-F, Expr-F, Prefix-F, Suffix-F, Enumerator-F, Specifier-F, Declarator-F, Parameter-F, Branch-F, Next-F, TypeName-F, Member-F, MemberDeclarator-F}
use Rattle.c_tree.specs.declared.declarator.DeclaratorSuffix.TheFolds.{map-DeclaratorSuffix, map-Direct, map-Expr, ind-Expr, map-Prefix, map-Suffix, map-Enumerator, map-Specifier, ind-Specifier, map-Declarator, ind-Declarator, map-Parameter, map-Branch, map-Next, map-TypeName, map-Member, map-MemberDeclarator}
use Rattle.c_tree.specs.Layers.{DeclaratorSuffixLayer, DirectLayer, ExprLayer, PrefixLayer, SuffixLayer, EnumeratorLayer, SpecifierLayer, DeclaratorLayer, ParameterLayer, BranchLayer, NextLayer, TypeNameLayer, MemberLayer, MemberDeclaratorLayer}
use Rattle.c_typing.specs.Trees.{declarator_suffix_typing, direct_typing, expr_typing, prefix_typing, suffix_typing, enumerator_typing, specifier_typing, declarator_typing, parameter_typing, branch_typing, next_typing, type_name_typing, member_typing, member_declarator_typing}
use Rattle.c_typing_laws.specs.Declarators.{Says, Derives, Counts, IsSpecific}
use Rattle.c_typing_laws.specs.OfTrees.{Suffixes, Prefixes, Continues, Branches, Operates, NamesType, ListsMembers, Listed}

abbrev pub KnownDeclaratorSuffix : Type 0
KnownDeclaratorSuffix = (x : DeclaratorSuffix) × Suffixes (declarator_suffix_typing x)

abbrev pub KnownDirect : Type 0
KnownDirect = (x : Direct) × Derives (direct_typing x)

abbrev pub KnownExpr : Type 0
KnownExpr = (x : Expr) × Says (expr_typing x)

abbrev pub KnownPrefix : Type 0
KnownPrefix = (x : Prefix) × Prefixes (prefix_typing x)

abbrev pub KnownSuffix : Type 0
KnownSuffix = (x : Suffix) × Continues (suffix_typing x)

abbrev pub KnownEnumerator : Type 0
KnownEnumerator = (x : Enumerator) × Counts (enumerator_typing x)

abbrev pub KnownSpecifier : Type 0
KnownSpecifier = (x : Specifier) × IsSpecific (specifier_typing x)

abbrev pub KnownDeclarator : Type 0
KnownDeclarator = (x : Declarator) × Derives (declarator_typing x)

abbrev pub KnownParameter : Type 0
KnownParameter = (x : Parameter) × Listed (parameter_typing x)

abbrev pub KnownBranch : Type 0
KnownBranch = (x : Branch) × Branches (branch_typing x)

abbrev pub KnownNext : Type 0
KnownNext = (x : Next) × Operates (next_typing x)

abbrev pub KnownTypeName : Type 0
KnownTypeName = (x : TypeName) × NamesType (type_name_typing x)

abbrev pub KnownMember : Type 0
KnownMember = (x : Member) × ListsMembers (member_typing x)

abbrev pub KnownMemberDeclarator : Type 0
KnownMemberDeclarator = (x : MemberDeclarator) × Derives (member_declarator_typing x)

abbrev pub DeclaratorSuffixOfKnown : Type 0
DeclaratorSuffixOfKnown = DeclaratorSuffix-F KnownDeclaratorSuffix KnownDirect KnownExpr KnownPrefix KnownSuffix KnownEnumerator KnownSpecifier KnownDeclarator KnownParameter KnownBranch KnownNext KnownTypeName KnownMember KnownMemberDeclarator

abbrev pub bare_declarator_suffix : DeclaratorSuffixOfKnown → DeclaratorSuffixLayer
bare_declarator_suffix = map-DeclaratorSuffix KnownDeclaratorSuffix KnownDirect KnownExpr KnownPrefix KnownSuffix KnownEnumerator KnownSpecifier KnownDeclarator KnownParameter KnownBranch KnownNext KnownTypeName KnownMember KnownMemberDeclarator DeclaratorSuffix Direct Expr Prefix Suffix Enumerator Specifier Declarator Parameter Branch Next TypeName Member MemberDeclarator (λ e. e.0) (λ e. e.0) (λ e. e.0) (λ e. e.0) (λ e. e.0) (λ e. e.0) (λ e. e.0) (λ e. e.0) (λ e. e.0) (λ e. e.0) (λ e. e.0) (λ e. e.0) (λ e. e.0) (λ e. e.0)

abbrev pub DirectOfKnown : Type 0
DirectOfKnown = Direct-F KnownDeclaratorSuffix KnownDirect KnownExpr KnownPrefix KnownSuffix KnownEnumerator KnownSpecifier KnownDeclarator KnownParameter KnownBranch KnownNext KnownTypeName KnownMember KnownMemberDeclarator

abbrev pub bare_direct : DirectOfKnown → DirectLayer
bare_direct = map-Direct KnownDeclaratorSuffix KnownDirect KnownExpr KnownPrefix KnownSuffix KnownEnumerator KnownSpecifier KnownDeclarator KnownParameter KnownBranch KnownNext KnownTypeName KnownMember KnownMemberDeclarator DeclaratorSuffix Direct Expr Prefix Suffix Enumerator Specifier Declarator Parameter Branch Next TypeName Member MemberDeclarator (λ e. e.0) (λ e. e.0) (λ e. e.0) (λ e. e.0) (λ e. e.0) (λ e. e.0) (λ e. e.0) (λ e. e.0) (λ e. e.0) (λ e. e.0) (λ e. e.0) (λ e. e.0) (λ e. e.0) (λ e. e.0)

abbrev pub ExprOfKnown : Type 0
ExprOfKnown = Expr-F KnownDeclaratorSuffix KnownDirect KnownExpr KnownPrefix KnownSuffix KnownEnumerator KnownSpecifier KnownDeclarator KnownParameter KnownBranch KnownNext KnownTypeName KnownMember KnownMemberDeclarator

abbrev pub bare_expr : ExprOfKnown → ExprLayer
bare_expr = map-Expr KnownDeclaratorSuffix KnownDirect KnownExpr KnownPrefix KnownSuffix KnownEnumerator KnownSpecifier KnownDeclarator KnownParameter KnownBranch KnownNext KnownTypeName KnownMember KnownMemberDeclarator DeclaratorSuffix Direct Expr Prefix Suffix Enumerator Specifier Declarator Parameter Branch Next TypeName Member MemberDeclarator (λ e. e.0) (λ e. e.0) (λ e. e.0) (λ e. e.0) (λ e. e.0) (λ e. e.0) (λ e. e.0) (λ e. e.0) (λ e. e.0) (λ e. e.0) (λ e. e.0) (λ e. e.0) (λ e. e.0) (λ e. e.0)

abbrev pub PrefixOfKnown : Type 0
PrefixOfKnown = Prefix-F KnownDeclaratorSuffix KnownDirect KnownExpr KnownPrefix KnownSuffix KnownEnumerator KnownSpecifier KnownDeclarator KnownParameter KnownBranch KnownNext KnownTypeName KnownMember KnownMemberDeclarator

abbrev pub bare_prefix : PrefixOfKnown → PrefixLayer
bare_prefix = map-Prefix KnownDeclaratorSuffix KnownDirect KnownExpr KnownPrefix KnownSuffix KnownEnumerator KnownSpecifier KnownDeclarator KnownParameter KnownBranch KnownNext KnownTypeName KnownMember KnownMemberDeclarator DeclaratorSuffix Direct Expr Prefix Suffix Enumerator Specifier Declarator Parameter Branch Next TypeName Member MemberDeclarator (λ e. e.0) (λ e. e.0) (λ e. e.0) (λ e. e.0) (λ e. e.0) (λ e. e.0) (λ e. e.0) (λ e. e.0) (λ e. e.0) (λ e. e.0) (λ e. e.0) (λ e. e.0) (λ e. e.0) (λ e. e.0)

abbrev pub SuffixOfKnown : Type 0
SuffixOfKnown = Suffix-F KnownDeclaratorSuffix KnownDirect KnownExpr KnownPrefix KnownSuffix KnownEnumerator KnownSpecifier KnownDeclarator KnownParameter KnownBranch KnownNext KnownTypeName KnownMember KnownMemberDeclarator

abbrev pub bare_suffix : SuffixOfKnown → SuffixLayer
bare_suffix = map-Suffix KnownDeclaratorSuffix KnownDirect KnownExpr KnownPrefix KnownSuffix KnownEnumerator KnownSpecifier KnownDeclarator KnownParameter KnownBranch KnownNext KnownTypeName KnownMember KnownMemberDeclarator DeclaratorSuffix Direct Expr Prefix Suffix Enumerator Specifier Declarator Parameter Branch Next TypeName Member MemberDeclarator (λ e. e.0) (λ e. e.0) (λ e. e.0) (λ e. e.0) (λ e. e.0) (λ e. e.0) (λ e. e.0) (λ e. e.0) (λ e. e.0) (λ e. e.0) (λ e. e.0) (λ e. e.0) (λ e. e.0) (λ e. e.0)

abbrev pub EnumeratorOfKnown : Type 0
EnumeratorOfKnown = Enumerator-F KnownDeclaratorSuffix KnownDirect KnownExpr KnownPrefix KnownSuffix KnownEnumerator KnownSpecifier KnownDeclarator KnownParameter KnownBranch KnownNext KnownTypeName KnownMember KnownMemberDeclarator

abbrev pub bare_enumerator : EnumeratorOfKnown → EnumeratorLayer
bare_enumerator = map-Enumerator KnownDeclaratorSuffix KnownDirect KnownExpr KnownPrefix KnownSuffix KnownEnumerator KnownSpecifier KnownDeclarator KnownParameter KnownBranch KnownNext KnownTypeName KnownMember KnownMemberDeclarator DeclaratorSuffix Direct Expr Prefix Suffix Enumerator Specifier Declarator Parameter Branch Next TypeName Member MemberDeclarator (λ e. e.0) (λ e. e.0) (λ e. e.0) (λ e. e.0) (λ e. e.0) (λ e. e.0) (λ e. e.0) (λ e. e.0) (λ e. e.0) (λ e. e.0) (λ e. e.0) (λ e. e.0) (λ e. e.0) (λ e. e.0)

abbrev pub SpecifierOfKnown : Type 0
SpecifierOfKnown = Specifier-F KnownDeclaratorSuffix KnownDirect KnownExpr KnownPrefix KnownSuffix KnownEnumerator KnownSpecifier KnownDeclarator KnownParameter KnownBranch KnownNext KnownTypeName KnownMember KnownMemberDeclarator

abbrev pub bare_specifier : SpecifierOfKnown → SpecifierLayer
bare_specifier = map-Specifier KnownDeclaratorSuffix KnownDirect KnownExpr KnownPrefix KnownSuffix KnownEnumerator KnownSpecifier KnownDeclarator KnownParameter KnownBranch KnownNext KnownTypeName KnownMember KnownMemberDeclarator DeclaratorSuffix Direct Expr Prefix Suffix Enumerator Specifier Declarator Parameter Branch Next TypeName Member MemberDeclarator (λ e. e.0) (λ e. e.0) (λ e. e.0) (λ e. e.0) (λ e. e.0) (λ e. e.0) (λ e. e.0) (λ e. e.0) (λ e. e.0) (λ e. e.0) (λ e. e.0) (λ e. e.0) (λ e. e.0) (λ e. e.0)

abbrev pub DeclaratorOfKnown : Type 0
DeclaratorOfKnown = Declarator-F KnownDeclaratorSuffix KnownDirect KnownExpr KnownPrefix KnownSuffix KnownEnumerator KnownSpecifier KnownDeclarator KnownParameter KnownBranch KnownNext KnownTypeName KnownMember KnownMemberDeclarator

abbrev pub bare_declarator : DeclaratorOfKnown → DeclaratorLayer
bare_declarator = map-Declarator KnownDeclaratorSuffix KnownDirect KnownExpr KnownPrefix KnownSuffix KnownEnumerator KnownSpecifier KnownDeclarator KnownParameter KnownBranch KnownNext KnownTypeName KnownMember KnownMemberDeclarator DeclaratorSuffix Direct Expr Prefix Suffix Enumerator Specifier Declarator Parameter Branch Next TypeName Member MemberDeclarator (λ e. e.0) (λ e. e.0) (λ e. e.0) (λ e. e.0) (λ e. e.0) (λ e. e.0) (λ e. e.0) (λ e. e.0) (λ e. e.0) (λ e. e.0) (λ e. e.0) (λ e. e.0) (λ e. e.0) (λ e. e.0)

abbrev pub ParameterOfKnown : Type 0
ParameterOfKnown = Parameter-F KnownDeclaratorSuffix KnownDirect KnownExpr KnownPrefix KnownSuffix KnownEnumerator KnownSpecifier KnownDeclarator KnownParameter KnownBranch KnownNext KnownTypeName KnownMember KnownMemberDeclarator

abbrev pub bare_parameter : ParameterOfKnown → ParameterLayer
bare_parameter = map-Parameter KnownDeclaratorSuffix KnownDirect KnownExpr KnownPrefix KnownSuffix KnownEnumerator KnownSpecifier KnownDeclarator KnownParameter KnownBranch KnownNext KnownTypeName KnownMember KnownMemberDeclarator DeclaratorSuffix Direct Expr Prefix Suffix Enumerator Specifier Declarator Parameter Branch Next TypeName Member MemberDeclarator (λ e. e.0) (λ e. e.0) (λ e. e.0) (λ e. e.0) (λ e. e.0) (λ e. e.0) (λ e. e.0) (λ e. e.0) (λ e. e.0) (λ e. e.0) (λ e. e.0) (λ e. e.0) (λ e. e.0) (λ e. e.0)

abbrev pub BranchOfKnown : Type 0
BranchOfKnown = Branch-F KnownDeclaratorSuffix KnownDirect KnownExpr KnownPrefix KnownSuffix KnownEnumerator KnownSpecifier KnownDeclarator KnownParameter KnownBranch KnownNext KnownTypeName KnownMember KnownMemberDeclarator

abbrev pub bare_branch : BranchOfKnown → BranchLayer
bare_branch = map-Branch KnownDeclaratorSuffix KnownDirect KnownExpr KnownPrefix KnownSuffix KnownEnumerator KnownSpecifier KnownDeclarator KnownParameter KnownBranch KnownNext KnownTypeName KnownMember KnownMemberDeclarator DeclaratorSuffix Direct Expr Prefix Suffix Enumerator Specifier Declarator Parameter Branch Next TypeName Member MemberDeclarator (λ e. e.0) (λ e. e.0) (λ e. e.0) (λ e. e.0) (λ e. e.0) (λ e. e.0) (λ e. e.0) (λ e. e.0) (λ e. e.0) (λ e. e.0) (λ e. e.0) (λ e. e.0) (λ e. e.0) (λ e. e.0)

abbrev pub NextOfKnown : Type 0
NextOfKnown = Next-F KnownDeclaratorSuffix KnownDirect KnownExpr KnownPrefix KnownSuffix KnownEnumerator KnownSpecifier KnownDeclarator KnownParameter KnownBranch KnownNext KnownTypeName KnownMember KnownMemberDeclarator

abbrev pub bare_next : NextOfKnown → NextLayer
bare_next = map-Next KnownDeclaratorSuffix KnownDirect KnownExpr KnownPrefix KnownSuffix KnownEnumerator KnownSpecifier KnownDeclarator KnownParameter KnownBranch KnownNext KnownTypeName KnownMember KnownMemberDeclarator DeclaratorSuffix Direct Expr Prefix Suffix Enumerator Specifier Declarator Parameter Branch Next TypeName Member MemberDeclarator (λ e. e.0) (λ e. e.0) (λ e. e.0) (λ e. e.0) (λ e. e.0) (λ e. e.0) (λ e. e.0) (λ e. e.0) (λ e. e.0) (λ e. e.0) (λ e. e.0) (λ e. e.0) (λ e. e.0) (λ e. e.0)

abbrev pub TypeNameOfKnown : Type 0
TypeNameOfKnown = TypeName-F KnownDeclaratorSuffix KnownDirect KnownExpr KnownPrefix KnownSuffix KnownEnumerator KnownSpecifier KnownDeclarator KnownParameter KnownBranch KnownNext KnownTypeName KnownMember KnownMemberDeclarator

abbrev pub bare_type_name : TypeNameOfKnown → TypeNameLayer
bare_type_name = map-TypeName KnownDeclaratorSuffix KnownDirect KnownExpr KnownPrefix KnownSuffix KnownEnumerator KnownSpecifier KnownDeclarator KnownParameter KnownBranch KnownNext KnownTypeName KnownMember KnownMemberDeclarator DeclaratorSuffix Direct Expr Prefix Suffix Enumerator Specifier Declarator Parameter Branch Next TypeName Member MemberDeclarator (λ e. e.0) (λ e. e.0) (λ e. e.0) (λ e. e.0) (λ e. e.0) (λ e. e.0) (λ e. e.0) (λ e. e.0) (λ e. e.0) (λ e. e.0) (λ e. e.0) (λ e. e.0) (λ e. e.0) (λ e. e.0)

abbrev pub MemberOfKnown : Type 0
MemberOfKnown = Member-F KnownDeclaratorSuffix KnownDirect KnownExpr KnownPrefix KnownSuffix KnownEnumerator KnownSpecifier KnownDeclarator KnownParameter KnownBranch KnownNext KnownTypeName KnownMember KnownMemberDeclarator

abbrev pub bare_member : MemberOfKnown → MemberLayer
bare_member = map-Member KnownDeclaratorSuffix KnownDirect KnownExpr KnownPrefix KnownSuffix KnownEnumerator KnownSpecifier KnownDeclarator KnownParameter KnownBranch KnownNext KnownTypeName KnownMember KnownMemberDeclarator DeclaratorSuffix Direct Expr Prefix Suffix Enumerator Specifier Declarator Parameter Branch Next TypeName Member MemberDeclarator (λ e. e.0) (λ e. e.0) (λ e. e.0) (λ e. e.0) (λ e. e.0) (λ e. e.0) (λ e. e.0) (λ e. e.0) (λ e. e.0) (λ e. e.0) (λ e. e.0) (λ e. e.0) (λ e. e.0) (λ e. e.0)

abbrev pub MemberDeclaratorOfKnown : Type 0
MemberDeclaratorOfKnown = MemberDeclarator-F KnownDeclaratorSuffix KnownDirect KnownExpr KnownPrefix KnownSuffix KnownEnumerator KnownSpecifier KnownDeclarator KnownParameter KnownBranch KnownNext KnownTypeName KnownMember KnownMemberDeclarator

abbrev pub bare_member_declarator : MemberDeclaratorOfKnown → MemberDeclaratorLayer
bare_member_declarator = map-MemberDeclarator KnownDeclaratorSuffix KnownDirect KnownExpr KnownPrefix KnownSuffix KnownEnumerator KnownSpecifier KnownDeclarator KnownParameter KnownBranch KnownNext KnownTypeName KnownMember KnownMemberDeclarator DeclaratorSuffix Direct Expr Prefix Suffix Enumerator Specifier Declarator Parameter Branch Next TypeName Member MemberDeclarator (λ e. e.0) (λ e. e.0) (λ e. e.0) (λ e. e.0) (λ e. e.0) (λ e. e.0) (λ e. e.0) (λ e. e.0) (λ e. e.0) (λ e. e.0) (λ e. e.0) (λ e. e.0) (λ e. e.0) (λ e. e.0)

pub record Steps : Type 0 where
  pub of_declarator_suffix : (y : DeclaratorSuffixOfKnown) → Suffixes (declarator_suffix_typing (roll-DeclaratorSuffix (bare_declarator_suffix y)))
  pub of_direct : (y : DirectOfKnown) → Derives (direct_typing (roll-Direct (bare_direct y)))
  pub of_expr : (y : ExprOfKnown) → Says (expr_typing (roll-Expr (bare_expr y)))
  pub of_prefix : (y : PrefixOfKnown) → Prefixes (prefix_typing (roll-Prefix (bare_prefix y)))
  pub of_suffix : (y : SuffixOfKnown) → Continues (suffix_typing (roll-Suffix (bare_suffix y)))
  pub of_enumerator : (y : EnumeratorOfKnown) → Counts (enumerator_typing (roll-Enumerator (bare_enumerator y)))
  pub of_specifier : (y : SpecifierOfKnown) → IsSpecific (specifier_typing (roll-Specifier (bare_specifier y)))
  pub of_declarator : (y : DeclaratorOfKnown) → Derives (declarator_typing (roll-Declarator (bare_declarator y)))
  pub of_parameter : (y : ParameterOfKnown) → Listed (parameter_typing (roll-Parameter (bare_parameter y)))
  pub of_branch : (y : BranchOfKnown) → Branches (branch_typing (roll-Branch (bare_branch y)))
  pub of_next : (y : NextOfKnown) → Operates (next_typing (roll-Next (bare_next y)))
  pub of_type_name : (y : TypeNameOfKnown) → NamesType (type_name_typing (roll-TypeName (bare_type_name y)))
  pub of_member : (y : MemberOfKnown) → ListsMembers (member_typing (roll-Member (bare_member y)))
  pub of_member_declarator : (y : MemberDeclaratorOfKnown) → Derives (member_declarator_typing (roll-MemberDeclarator (bare_member_declarator y)))

pub every_expr : Steps → (x : Expr) → Says (expr_typing x)
every_expr steps = ind-Expr (λ x. Suffixes (declarator_suffix_typing x)) (λ x. Derives (direct_typing x)) (λ x. Says (expr_typing x)) (λ x. Prefixes (prefix_typing x)) (λ x. Continues (suffix_typing x)) (λ x. Counts (enumerator_typing x)) (λ x. IsSpecific (specifier_typing x)) (λ x. Derives (declarator_typing x)) (λ x. Listed (parameter_typing x)) (λ x. Branches (branch_typing x)) (λ x. Operates (next_typing x)) (λ x. NamesType (type_name_typing x)) (λ x. ListsMembers (member_typing x)) (λ x. Derives (member_declarator_typing x)) (λ x y is. subst (λ z. Suffixes (declarator_suffix_typing (roll-DeclaratorSuffix z))) is (steps.of_declarator_suffix y)) (λ x y is. subst (λ z. Derives (direct_typing (roll-Direct z))) is (steps.of_direct y)) (λ x y is. subst (λ z. Says (expr_typing (roll-Expr z))) is (steps.of_expr y)) (λ x y is. subst (λ z. Prefixes (prefix_typing (roll-Prefix z))) is (steps.of_prefix y)) (λ x y is. subst (λ z. Continues (suffix_typing (roll-Suffix z))) is (steps.of_suffix y)) (λ x y is. subst (λ z. Counts (enumerator_typing (roll-Enumerator z))) is (steps.of_enumerator y)) (λ x y is. subst (λ z. IsSpecific (specifier_typing (roll-Specifier z))) is (steps.of_specifier y)) (λ x y is. subst (λ z. Derives (declarator_typing (roll-Declarator z))) is (steps.of_declarator y)) (λ x y is. subst (λ z. Listed (parameter_typing (roll-Parameter z))) is (steps.of_parameter y)) (λ x y is. subst (λ z. Branches (branch_typing (roll-Branch z))) is (steps.of_branch y)) (λ x y is. subst (λ z. Operates (next_typing (roll-Next z))) is (steps.of_next y)) (λ x y is. subst (λ z. NamesType (type_name_typing (roll-TypeName z))) is (steps.of_type_name y)) (λ x y is. subst (λ z. ListsMembers (member_typing (roll-Member z))) is (steps.of_member y)) (λ x y is. subst (λ z. Derives (member_declarator_typing (roll-MemberDeclarator z))) is (steps.of_member_declarator y))

pub every_specifier : Steps → (x : Specifier) → IsSpecific (specifier_typing x)
every_specifier steps = ind-Specifier (λ x. Suffixes (declarator_suffix_typing x)) (λ x. Derives (direct_typing x)) (λ x. Says (expr_typing x)) (λ x. Prefixes (prefix_typing x)) (λ x. Continues (suffix_typing x)) (λ x. Counts (enumerator_typing x)) (λ x. IsSpecific (specifier_typing x)) (λ x. Derives (declarator_typing x)) (λ x. Listed (parameter_typing x)) (λ x. Branches (branch_typing x)) (λ x. Operates (next_typing x)) (λ x. NamesType (type_name_typing x)) (λ x. ListsMembers (member_typing x)) (λ x. Derives (member_declarator_typing x)) (λ x y is. subst (λ z. Suffixes (declarator_suffix_typing (roll-DeclaratorSuffix z))) is (steps.of_declarator_suffix y)) (λ x y is. subst (λ z. Derives (direct_typing (roll-Direct z))) is (steps.of_direct y)) (λ x y is. subst (λ z. Says (expr_typing (roll-Expr z))) is (steps.of_expr y)) (λ x y is. subst (λ z. Prefixes (prefix_typing (roll-Prefix z))) is (steps.of_prefix y)) (λ x y is. subst (λ z. Continues (suffix_typing (roll-Suffix z))) is (steps.of_suffix y)) (λ x y is. subst (λ z. Counts (enumerator_typing (roll-Enumerator z))) is (steps.of_enumerator y)) (λ x y is. subst (λ z. IsSpecific (specifier_typing (roll-Specifier z))) is (steps.of_specifier y)) (λ x y is. subst (λ z. Derives (declarator_typing (roll-Declarator z))) is (steps.of_declarator y)) (λ x y is. subst (λ z. Listed (parameter_typing (roll-Parameter z))) is (steps.of_parameter y)) (λ x y is. subst (λ z. Branches (branch_typing (roll-Branch z))) is (steps.of_branch y)) (λ x y is. subst (λ z. Operates (next_typing (roll-Next z))) is (steps.of_next y)) (λ x y is. subst (λ z. NamesType (type_name_typing (roll-TypeName z))) is (steps.of_type_name y)) (λ x y is. subst (λ z. ListsMembers (member_typing (roll-Member z))) is (steps.of_member y)) (λ x y is. subst (λ z. Derives (member_declarator_typing (roll-MemberDeclarator z))) is (steps.of_member_declarator y))

pub every_declarator : Steps → (x : Declarator) → Derives (declarator_typing x)
every_declarator steps = ind-Declarator (λ x. Suffixes (declarator_suffix_typing x)) (λ x. Derives (direct_typing x)) (λ x. Says (expr_typing x)) (λ x. Prefixes (prefix_typing x)) (λ x. Continues (suffix_typing x)) (λ x. Counts (enumerator_typing x)) (λ x. IsSpecific (specifier_typing x)) (λ x. Derives (declarator_typing x)) (λ x. Listed (parameter_typing x)) (λ x. Branches (branch_typing x)) (λ x. Operates (next_typing x)) (λ x. NamesType (type_name_typing x)) (λ x. ListsMembers (member_typing x)) (λ x. Derives (member_declarator_typing x)) (λ x y is. subst (λ z. Suffixes (declarator_suffix_typing (roll-DeclaratorSuffix z))) is (steps.of_declarator_suffix y)) (λ x y is. subst (λ z. Derives (direct_typing (roll-Direct z))) is (steps.of_direct y)) (λ x y is. subst (λ z. Says (expr_typing (roll-Expr z))) is (steps.of_expr y)) (λ x y is. subst (λ z. Prefixes (prefix_typing (roll-Prefix z))) is (steps.of_prefix y)) (λ x y is. subst (λ z. Continues (suffix_typing (roll-Suffix z))) is (steps.of_suffix y)) (λ x y is. subst (λ z. Counts (enumerator_typing (roll-Enumerator z))) is (steps.of_enumerator y)) (λ x y is. subst (λ z. IsSpecific (specifier_typing (roll-Specifier z))) is (steps.of_specifier y)) (λ x y is. subst (λ z. Derives (declarator_typing (roll-Declarator z))) is (steps.of_declarator y)) (λ x y is. subst (λ z. Listed (parameter_typing (roll-Parameter z))) is (steps.of_parameter y)) (λ x y is. subst (λ z. Branches (branch_typing (roll-Branch z))) is (steps.of_branch y)) (λ x y is. subst (λ z. Operates (next_typing (roll-Next z))) is (steps.of_next y)) (λ x y is. subst (λ z. NamesType (type_name_typing (roll-TypeName z))) is (steps.of_type_name y)) (λ x y is. subst (λ z. ListsMembers (member_typing (roll-Member z))) is (steps.of_member y)) (λ x y is. subst (λ z. Derives (member_declarator_typing (roll-MemberDeclarator z))) is (steps.of_member_declarator y))
