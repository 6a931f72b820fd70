-- Written by tools/tree_equations.py.
-- The fold whose steps stand in Levels.OfTrees, and one equation for each kind of node.
use Rattle.std.specs.Prelude.{◌≡◌, ℕ, Bool, List, Option, map}
use Rattle.std.proofs.Common.{ap, sym, ◌∙◌}
use Rattle.c_tree.specs.declared.expression.Identifier.{Identifier}
use Rattle.c_tree.specs.declared.token.IntKind.{IntKind}
use Rattle.c_tree.specs.declared.expression.Level.{Level}
use Rattle.c_tree.specs.declared.expression.Literal.{Literal}
use Rattle.c_tree.specs.declared.expression.Mark.{Mark}
use Rattle.c_tree.specs.declared.token.Pos.{Pos}
use Rattle.c_tree.specs.declared.specifier.Storage.{Storage}
use Rattle.c_tree.specs.declared.specifier.TypeWord.{TypeWord}
use Rattle.c_tree.specs.declared.declarator.DeclaratorSuffix.{DeclaratorSuffix, roll-DeclaratorSuffix}
use Rattle.c_tree.specs.declared.declarator.DeclaratorSuffix.TheVariants as declarator_suffix
use Rattle.c_tree.specs.declared.declarator.Direct.{Direct, roll-Direct}
use Rattle.c_tree.specs.declared.declarator.Direct.TheVariants as direct
use Rattle.c_tree.specs.declared.expression.Expr.{Expr, roll-Expr}
use Rattle.c_tree.specs.declared.expression.Expr.TheVariants as expr
use Rattle.c_tree.specs.declared.expression.Prefix.{Prefix, roll-Prefix}
use Rattle.c_tree.specs.declared.expression.Prefix.TheVariants as prefix
use Rattle.c_tree.specs.declared.expression.Suffix.{Suffix, roll-Suffix}
use Rattle.c_tree.specs.declared.expression.Suffix.TheVariants as suffix
use Rattle.c_tree.specs.declared.specifier.Enumerator.{Enumerator, roll-Enumerator}
use Rattle.c_tree.specs.declared.specifier.Enumerator.TheVariants as enumerator
use Rattle.c_tree.specs.declared.specifier.Specifier.{Specifier, roll-Specifier}
use Rattle.c_tree.specs.declared.specifier.Specifier.TheVariants as specifier
use Rattle.c_tree.specs.declared.declarator.Declarator.{Declarator, out-Declarator, roll-Declarator, roll-out-Declarator}
use Rattle.c_tree.specs.declared.declarator.Parameter.{Parameter, out-Parameter, roll-Parameter, roll-out-Parameter}
use Rattle.c_tree.specs.declared.expression.Branch.{Branch, out-Branch, roll-Branch, roll-out-Branch}
use Rattle.c_tree.specs.declared.expression.Next.{Next, out-Next, roll-Next, roll-out-Next}
use Rattle.c_tree.specs.declared.expression.TypeName.{TypeName, out-TypeName, roll-TypeName, roll-out-TypeName}
use Rattle.c_tree.specs.declared.specifier.Member.{Member, out-Member, roll-Member, roll-out-Member}
use Rattle.c_tree.specs.declared.specifier.MemberDeclarator.{MemberDeclarator, out-MemberDeclarator, roll-MemberDeclarator, roll-out-MemberDeclarator}
use Rattle.c_tree.specs.declared.declarator.DeclaratorSuffix.TheOpen.{DeclaratorSuffix-F, Direct-F, Expr-F, Prefix-F, Suffix-F, Enumerator-F, Specifier-F}
use Rattle.c_tree.specs.Layers.{DeclaratorSuffixLayer, DirectLayer, ExprLayer, PrefixLayer, SuffixLayer, EnumeratorLayer, SpecifierLayer, DeclaratorLayer, ParameterLayer, BranchLayer, NextLayer, TypeNameLayer, MemberLayer, MemberDeclaratorLayer}
use Rattle.c_tree.specs.declared.declarator.DeclaratorSuffix.TheFolds.{fold-DeclaratorSuffix, fold-roll-DeclaratorSuffix, map-DeclaratorSuffix, fold-Direct, fold-roll-Direct, map-Direct, fold-Expr, fold-roll-Expr, map-Expr, fold-Prefix, fold-roll-Prefix, map-Prefix, fold-Suffix, fold-roll-Suffix, map-Suffix, fold-Enumerator, fold-roll-Enumerator, map-Enumerator, fold-Specifier, fold-roll-Specifier, map-Specifier, fold-Declarator, fold-roll-Declarator, map-Declarator, fold-Parameter, fold-roll-Parameter, map-Parameter, fold-Branch, fold-roll-Branch, map-Branch, fold-Next, fold-roll-Next, map-Next, fold-TypeName, fold-roll-TypeName, map-TypeName, fold-Member, fold-roll-Member, map-Member, fold-MemberDeclarator, fold-roll-MemberDeclarator, map-MemberDeclarator}
use Rattle.c_tree.specs.Levels.OfTrees.{level_of_declarator_suffix, level_of_direct, level_of_expr, level_of_prefix, level_of_suffix, level_of_enumerator, level_of_specifier, level_of_declarator, level_of_parameter, level_of_branch, level_of_next, level_of_type_name, level_of_member, level_of_member_declarator}
use Rattle.c_tree.specs.Levels.Names.{Names, With}
use Rattle.c_tree.specs.Levels.Facts.{DeclaratorFacts}
use Rattle.c_tree.specs.Levels.Facts.{ListedFacts}
use Rattle.c_tree.specs.Levels.Facts.{MemberDeclaratorFacts}
use Rattle.c_tree.specs.Levels.Facts.{Operand}
use Rattle.c_tree.specs.Levels.Facts.{ParameterFacts}
use Rattle.c_tree.specs.Levels.Facts.{PrefixKind}
use Rattle.c_tree.specs.Levels.Facts.{SpecifierKind}
use Rattle.c_tree.specs.Levels.Facts.{SuffixFacts}

unfoldable pub declarator_suffix_level : DeclaratorSuffix → (With SuffixFacts)
declarator_suffix_level = fold-DeclaratorSuffix (With SuffixFacts) (With DeclaratorFacts) (With ℕ) (With PrefixKind) (With Bool) (With ListedFacts) (With SpecifierKind) (With DeclaratorFacts) (With ParameterFacts) (With Bool) (With Operand) (With Bool) (With Bool) (With MemberDeclaratorFacts) level_of_declarator_suffix level_of_direct level_of_expr level_of_prefix level_of_suffix level_of_enumerator level_of_specifier level_of_declarator level_of_parameter level_of_branch level_of_next level_of_type_name level_of_member level_of_member_declarator

unfoldable pub direct_level : Direct → (With DeclaratorFacts)
direct_level = fold-Direct (With SuffixFacts) (With DeclaratorFacts) (With ℕ) (With PrefixKind) (With Bool) (With ListedFacts) (With SpecifierKind) (With DeclaratorFacts) (With ParameterFacts) (With Bool) (With Operand) (With Bool) (With Bool) (With MemberDeclaratorFacts) level_of_declarator_suffix level_of_direct level_of_expr level_of_prefix level_of_suffix level_of_enumerator level_of_specifier level_of_declarator level_of_parameter level_of_branch level_of_next level_of_type_name level_of_member level_of_member_declarator

unfoldable pub expr_level : Expr → (With ℕ)
expr_level = fold-Expr (With SuffixFacts) (With DeclaratorFacts) (With ℕ) (With PrefixKind) (With Bool) (With ListedFacts) (With SpecifierKind) (With DeclaratorFacts) (With ParameterFacts) (With Bool) (With Operand) (With Bool) (With Bool) (With MemberDeclaratorFacts) level_of_declarator_suffix level_of_direct level_of_expr level_of_prefix level_of_suffix level_of_enumerator level_of_specifier level_of_declarator level_of_parameter level_of_branch level_of_next level_of_type_name level_of_member level_of_member_declarator

unfoldable pub prefix_level : Prefix → (With PrefixKind)
prefix_level = fold-Prefix (With SuffixFacts) (With DeclaratorFacts) (With ℕ) (With PrefixKind) (With Bool) (With ListedFacts) (With SpecifierKind) (With DeclaratorFacts) (With ParameterFacts) (With Bool) (With Operand) (With Bool) (With Bool) (With MemberDeclaratorFacts) level_of_declarator_suffix level_of_direct level_of_expr level_of_prefix level_of_suffix level_of_enumerator level_of_specifier level_of_declarator level_of_parameter level_of_branch level_of_next level_of_type_name level_of_member level_of_member_declarator

unfoldable pub suffix_level : Suffix → (With Bool)
suffix_level = fold-Suffix (With SuffixFacts) (With DeclaratorFacts) (With ℕ) (With PrefixKind) (With Bool) (With ListedFacts) (With SpecifierKind) (With DeclaratorFacts) (With ParameterFacts) (With Bool) (With Operand) (With Bool) (With Bool) (With MemberDeclaratorFacts) level_of_declarator_suffix level_of_direct level_of_expr level_of_prefix level_of_suffix level_of_enumerator level_of_specifier level_of_declarator level_of_parameter level_of_branch level_of_next level_of_type_name level_of_member level_of_member_declarator

unfoldable pub enumerator_level : Enumerator → (With ListedFacts)
enumerator_level = fold-Enumerator (With SuffixFacts) (With DeclaratorFacts) (With ℕ) (With PrefixKind) (With Bool) (With ListedFacts) (With SpecifierKind) (With DeclaratorFacts) (With ParameterFacts) (With Bool) (With Operand) (With Bool) (With Bool) (With MemberDeclaratorFacts) level_of_declarator_suffix level_of_direct level_of_expr level_of_prefix level_of_suffix level_of_enumerator level_of_specifier level_of_declarator level_of_parameter level_of_branch level_of_next level_of_type_name level_of_member level_of_member_declarator

unfoldable pub specifier_level : Specifier → (With SpecifierKind)
specifier_level = fold-Specifier (With SuffixFacts) (With DeclaratorFacts) (With ℕ) (With PrefixKind) (With Bool) (With ListedFacts) (With SpecifierKind) (With DeclaratorFacts) (With ParameterFacts) (With Bool) (With Operand) (With Bool) (With Bool) (With MemberDeclaratorFacts) level_of_declarator_suffix level_of_direct level_of_expr level_of_prefix level_of_suffix level_of_enumerator level_of_specifier level_of_declarator level_of_parameter level_of_branch level_of_next level_of_type_name level_of_member level_of_member_declarator

unfoldable pub declarator_level : Declarator → (With DeclaratorFacts)
declarator_level = fold-Declarator (With SuffixFacts) (With DeclaratorFacts) (With ℕ) (With PrefixKind) (With Bool) (With ListedFacts) (With SpecifierKind) (With DeclaratorFacts) (With ParameterFacts) (With Bool) (With Operand) (With Bool) (With Bool) (With MemberDeclaratorFacts) level_of_declarator_suffix level_of_direct level_of_expr level_of_prefix level_of_suffix level_of_enumerator level_of_specifier level_of_declarator level_of_parameter level_of_branch level_of_next level_of_type_name level_of_member level_of_member_declarator

unfoldable pub parameter_level : Parameter → (With ParameterFacts)
parameter_level = fold-Parameter (With SuffixFacts) (With DeclaratorFacts) (With ℕ) (With PrefixKind) (With Bool) (With ListedFacts) (With SpecifierKind) (With DeclaratorFacts) (With ParameterFacts) (With Bool) (With Operand) (With Bool) (With Bool) (With MemberDeclaratorFacts) level_of_declarator_suffix level_of_direct level_of_expr level_of_prefix level_of_suffix level_of_enumerator level_of_specifier level_of_declarator level_of_parameter level_of_branch level_of_next level_of_type_name level_of_member level_of_member_declarator

unfoldable pub branch_level : Branch → (With Bool)
branch_level = fold-Branch (With SuffixFacts) (With DeclaratorFacts) (With ℕ) (With PrefixKind) (With Bool) (With ListedFacts) (With SpecifierKind) (With DeclaratorFacts) (With ParameterFacts) (With Bool) (With Operand) (With Bool) (With Bool) (With MemberDeclaratorFacts) level_of_declarator_suffix level_of_direct level_of_expr level_of_prefix level_of_suffix level_of_enumerator level_of_specifier level_of_declarator level_of_parameter level_of_branch level_of_next level_of_type_name level_of_member level_of_member_declarator

unfoldable pub next_level : Next → (With Operand)
next_level = fold-Next (With SuffixFacts) (With DeclaratorFacts) (With ℕ) (With PrefixKind) (With Bool) (With ListedFacts) (With SpecifierKind) (With DeclaratorFacts) (With ParameterFacts) (With Bool) (With Operand) (With Bool) (With Bool) (With MemberDeclaratorFacts) level_of_declarator_suffix level_of_direct level_of_expr level_of_prefix level_of_suffix level_of_enumerator level_of_specifier level_of_declarator level_of_parameter level_of_branch level_of_next level_of_type_name level_of_member level_of_member_declarator

unfoldable pub type_name_level : TypeName → (With Bool)
type_name_level = fold-TypeName (With SuffixFacts) (With DeclaratorFacts) (With ℕ) (With PrefixKind) (With Bool) (With ListedFacts) (With SpecifierKind) (With DeclaratorFacts) (With ParameterFacts) (With Bool) (With Operand) (With Bool) (With Bool) (With MemberDeclaratorFacts) level_of_declarator_suffix level_of_direct level_of_expr level_of_prefix level_of_suffix level_of_enumerator level_of_specifier level_of_declarator level_of_parameter level_of_branch level_of_next level_of_type_name level_of_member level_of_member_declarator

unfoldable pub member_level : Member → (With Bool)
member_level = fold-Member (With SuffixFacts) (With DeclaratorFacts) (With ℕ) (With PrefixKind) (With Bool) (With ListedFacts) (With SpecifierKind) (With DeclaratorFacts) (With ParameterFacts) (With Bool) (With Operand) (With Bool) (With Bool) (With MemberDeclaratorFacts) level_of_declarator_suffix level_of_direct level_of_expr level_of_prefix level_of_suffix level_of_enumerator level_of_specifier level_of_declarator level_of_parameter level_of_branch level_of_next level_of_type_name level_of_member level_of_member_declarator

unfoldable pub member_declarator_level : MemberDeclarator → (With MemberDeclaratorFacts)
member_declarator_level = fold-MemberDeclarator (With SuffixFacts) (With DeclaratorFacts) (With ℕ) (With PrefixKind) (With Bool) (With ListedFacts) (With SpecifierKind) (With DeclaratorFacts) (With ParameterFacts) (With Bool) (With Operand) (With Bool) (With Bool) (With MemberDeclaratorFacts) level_of_declarator_suffix level_of_direct level_of_expr level_of_prefix level_of_suffix level_of_enumerator level_of_specifier level_of_declarator level_of_parameter level_of_branch level_of_next level_of_type_name level_of_member level_of_member_declarator

-- ---- what a fold tells of one node

pub declarator_suffix_level-roll : (node : DeclaratorSuffixLayer) → declarator_suffix_level (roll-DeclaratorSuffix node) ≡ level_of_declarator_suffix (map-DeclaratorSuffix DeclaratorSuffix Direct Expr Prefix Suffix Enumerator Specifier Declarator Parameter Branch Next TypeName Member MemberDeclarator (With SuffixFacts) (With DeclaratorFacts) (With ℕ) (With PrefixKind) (With Bool) (With ListedFacts) (With SpecifierKind) (With DeclaratorFacts) (With ParameterFacts) (With Bool) (With Operand) (With Bool) (With Bool) (With MemberDeclaratorFacts) declarator_suffix_level direct_level expr_level prefix_level suffix_level enumerator_level specifier_level declarator_level parameter_level branch_level next_level type_name_level member_level member_declarator_level node)
unfolding declarator_suffix_level direct_level expr_level prefix_level suffix_level enumerator_level specifier_level declarator_level parameter_level branch_level next_level type_name_level member_level member_declarator_level
declarator_suffix_level-roll = fold-roll-DeclaratorSuffix (With SuffixFacts) (With DeclaratorFacts) (With ℕ) (With PrefixKind) (With Bool) (With ListedFacts) (With SpecifierKind) (With DeclaratorFacts) (With ParameterFacts) (With Bool) (With Operand) (With Bool) (With Bool) (With MemberDeclaratorFacts) level_of_declarator_suffix level_of_direct level_of_expr level_of_prefix level_of_suffix level_of_enumerator level_of_specifier level_of_declarator level_of_parameter level_of_branch level_of_next level_of_type_name level_of_member level_of_member_declarator

pub direct_level-roll : (node : DirectLayer) → direct_level (roll-Direct node) ≡ level_of_direct (map-Direct DeclaratorSuffix Direct Expr Prefix Suffix Enumerator Specifier Declarator Parameter Branch Next TypeName Member MemberDeclarator (With SuffixFacts) (With DeclaratorFacts) (With ℕ) (With PrefixKind) (With Bool) (With ListedFacts) (With SpecifierKind) (With DeclaratorFacts) (With ParameterFacts) (With Bool) (With Operand) (With Bool) (With Bool) (With MemberDeclaratorFacts) declarator_suffix_level direct_level expr_level prefix_level suffix_level enumerator_level specifier_level declarator_level parameter_level branch_level next_level type_name_level member_level member_declarator_level node)
unfolding declarator_suffix_level direct_level expr_level prefix_level suffix_level enumerator_level specifier_level declarator_level parameter_level branch_level next_level type_name_level member_level member_declarator_level
direct_level-roll = fold-roll-Direct (With SuffixFacts) (With DeclaratorFacts) (With ℕ) (With PrefixKind) (With Bool) (With ListedFacts) (With SpecifierKind) (With DeclaratorFacts) (With ParameterFacts) (With Bool) (With Operand) (With Bool) (With Bool) (With MemberDeclaratorFacts) level_of_declarator_suffix level_of_direct level_of_expr level_of_prefix level_of_suffix level_of_enumerator level_of_specifier level_of_declarator level_of_parameter level_of_branch level_of_next level_of_type_name level_of_member level_of_member_declarator

pub expr_level-roll : (node : ExprLayer) → expr_level (roll-Expr node) ≡ level_of_expr (map-Expr DeclaratorSuffix Direct Expr Prefix Suffix Enumerator Specifier Declarator Parameter Branch Next TypeName Member MemberDeclarator (With SuffixFacts) (With DeclaratorFacts) (With ℕ) (With PrefixKind) (With Bool) (With ListedFacts) (With SpecifierKind) (With DeclaratorFacts) (With ParameterFacts) (With Bool) (With Operand) (With Bool) (With Bool) (With MemberDeclaratorFacts) declarator_suffix_level direct_level expr_level prefix_level suffix_level enumerator_level specifier_level declarator_level parameter_level branch_level next_level type_name_level member_level member_declarator_level node)
unfolding declarator_suffix_level direct_level expr_level prefix_level suffix_level enumerator_level specifier_level declarator_level parameter_level branch_level next_level type_name_level member_level member_declarator_level
expr_level-roll = fold-roll-Expr (With SuffixFacts) (With DeclaratorFacts) (With ℕ) (With PrefixKind) (With Bool) (With ListedFacts) (With SpecifierKind) (With DeclaratorFacts) (With ParameterFacts) (With Bool) (With Operand) (With Bool) (With Bool) (With MemberDeclaratorFacts) level_of_declarator_suffix level_of_direct level_of_expr level_of_prefix level_of_suffix level_of_enumerator level_of_specifier level_of_declarator level_of_parameter level_of_branch level_of_next level_of_type_name level_of_member level_of_member_declarator

pub prefix_level-roll : (node : PrefixLayer) → prefix_level (roll-Prefix node) ≡ level_of_prefix (map-Prefix DeclaratorSuffix Direct Expr Prefix Suffix Enumerator Specifier Declarator Parameter Branch Next TypeName Member MemberDeclarator (With SuffixFacts) (With DeclaratorFacts) (With ℕ) (With PrefixKind) (With Bool) (With ListedFacts) (With SpecifierKind) (With DeclaratorFacts) (With ParameterFacts) (With Bool) (With Operand) (With Bool) (With Bool) (With MemberDeclaratorFacts) declarator_suffix_level direct_level expr_level prefix_level suffix_level enumerator_level specifier_level declarator_level parameter_level branch_level next_level type_name_level member_level member_declarator_level node)
unfolding declarator_suffix_level direct_level expr_level prefix_level suffix_level enumerator_level specifier_level declarator_level parameter_level branch_level next_level type_name_level member_level member_declarator_level
prefix_level-roll = fold-roll-Prefix (With SuffixFacts) (With DeclaratorFacts) (With ℕ) (With PrefixKind) (With Bool) (With ListedFacts) (With SpecifierKind) (With DeclaratorFacts) (With ParameterFacts) (With Bool) (With Operand) (With Bool) (With Bool) (With MemberDeclaratorFacts) level_of_declarator_suffix level_of_direct level_of_expr level_of_prefix level_of_suffix level_of_enumerator level_of_specifier level_of_declarator level_of_parameter level_of_branch level_of_next level_of_type_name level_of_member level_of_member_declarator

pub suffix_level-roll : (node : SuffixLayer) → suffix_level (roll-Suffix node) ≡ level_of_suffix (map-Suffix DeclaratorSuffix Direct Expr Prefix Suffix Enumerator Specifier Declarator Parameter Branch Next TypeName Member MemberDeclarator (With SuffixFacts) (With DeclaratorFacts) (With ℕ) (With PrefixKind) (With Bool) (With ListedFacts) (With SpecifierKind) (With DeclaratorFacts) (With ParameterFacts) (With Bool) (With Operand) (With Bool) (With Bool) (With MemberDeclaratorFacts) declarator_suffix_level direct_level expr_level prefix_level suffix_level enumerator_level specifier_level declarator_level parameter_level branch_level next_level type_name_level member_level member_declarator_level node)
unfolding declarator_suffix_level direct_level expr_level prefix_level suffix_level enumerator_level specifier_level declarator_level parameter_level branch_level next_level type_name_level member_level member_declarator_level
suffix_level-roll = fold-roll-Suffix (With SuffixFacts) (With DeclaratorFacts) (With ℕ) (With PrefixKind) (With Bool) (With ListedFacts) (With SpecifierKind) (With DeclaratorFacts) (With ParameterFacts) (With Bool) (With Operand) (With Bool) (With Bool) (With MemberDeclaratorFacts) level_of_declarator_suffix level_of_direct level_of_expr level_of_prefix level_of_suffix level_of_enumerator level_of_specifier level_of_declarator level_of_parameter level_of_branch level_of_next level_of_type_name level_of_member level_of_member_declarator

pub enumerator_level-roll : (node : EnumeratorLayer) → enumerator_level (roll-Enumerator node) ≡ level_of_enumerator (map-Enumerator DeclaratorSuffix Direct Expr Prefix Suffix Enumerator Specifier Declarator Parameter Branch Next TypeName Member MemberDeclarator (With SuffixFacts) (With DeclaratorFacts) (With ℕ) (With PrefixKind) (With Bool) (With ListedFacts) (With SpecifierKind) (With DeclaratorFacts) (With ParameterFacts) (With Bool) (With Operand) (With Bool) (With Bool) (With MemberDeclaratorFacts) declarator_suffix_level direct_level expr_level prefix_level suffix_level enumerator_level specifier_level declarator_level parameter_level branch_level next_level type_name_level member_level member_declarator_level node)
unfolding declarator_suffix_level direct_level expr_level prefix_level suffix_level enumerator_level specifier_level declarator_level parameter_level branch_level next_level type_name_level member_level member_declarator_level
enumerator_level-roll = fold-roll-Enumerator (With SuffixFacts) (With DeclaratorFacts) (With ℕ) (With PrefixKind) (With Bool) (With ListedFacts) (With SpecifierKind) (With DeclaratorFacts) (With ParameterFacts) (With Bool) (With Operand) (With Bool) (With Bool) (With MemberDeclaratorFacts) level_of_declarator_suffix level_of_direct level_of_expr level_of_prefix level_of_suffix level_of_enumerator level_of_specifier level_of_declarator level_of_parameter level_of_branch level_of_next level_of_type_name level_of_member level_of_member_declarator

pub specifier_level-roll : (node : SpecifierLayer) → specifier_level (roll-Specifier node) ≡ level_of_specifier (map-Specifier DeclaratorSuffix Direct Expr Prefix Suffix Enumerator Specifier Declarator Parameter Branch Next TypeName Member MemberDeclarator (With SuffixFacts) (With DeclaratorFacts) (With ℕ) (With PrefixKind) (With Bool) (With ListedFacts) (With SpecifierKind) (With DeclaratorFacts) (With ParameterFacts) (With Bool) (With Operand) (With Bool) (With Bool) (With MemberDeclaratorFacts) declarator_suffix_level direct_level expr_level prefix_level suffix_level enumerator_level specifier_level declarator_level parameter_level branch_level next_level type_name_level member_level member_declarator_level node)
unfolding declarator_suffix_level direct_level expr_level prefix_level suffix_level enumerator_level specifier_level declarator_level parameter_level branch_level next_level type_name_level member_level member_declarator_level
specifier_level-roll = fold-roll-Specifier (With SuffixFacts) (With DeclaratorFacts) (With ℕ) (With PrefixKind) (With Bool) (With ListedFacts) (With SpecifierKind) (With DeclaratorFacts) (With ParameterFacts) (With Bool) (With Operand) (With Bool) (With Bool) (With MemberDeclaratorFacts) level_of_declarator_suffix level_of_direct level_of_expr level_of_prefix level_of_suffix level_of_enumerator level_of_specifier level_of_declarator level_of_parameter level_of_branch level_of_next level_of_type_name level_of_member level_of_member_declarator

pub declarator_level-roll : (node : DeclaratorLayer) → declarator_level (roll-Declarator node) ≡ level_of_declarator (map-Declarator DeclaratorSuffix Direct Expr Prefix Suffix Enumerator Specifier Declarator Parameter Branch Next TypeName Member MemberDeclarator (With SuffixFacts) (With DeclaratorFacts) (With ℕ) (With PrefixKind) (With Bool) (With ListedFacts) (With SpecifierKind) (With DeclaratorFacts) (With ParameterFacts) (With Bool) (With Operand) (With Bool) (With Bool) (With MemberDeclaratorFacts) declarator_suffix_level direct_level expr_level prefix_level suffix_level enumerator_level specifier_level declarator_level parameter_level branch_level next_level type_name_level member_level member_declarator_level node)
unfolding declarator_suffix_level direct_level expr_level prefix_level suffix_level enumerator_level specifier_level declarator_level parameter_level branch_level next_level type_name_level member_level member_declarator_level
declarator_level-roll = fold-roll-Declarator (With SuffixFacts) (With DeclaratorFacts) (With ℕ) (With PrefixKind) (With Bool) (With ListedFacts) (With SpecifierKind) (With DeclaratorFacts) (With ParameterFacts) (With Bool) (With Operand) (With Bool) (With Bool) (With MemberDeclaratorFacts) level_of_declarator_suffix level_of_direct level_of_expr level_of_prefix level_of_suffix level_of_enumerator level_of_specifier level_of_declarator level_of_parameter level_of_branch level_of_next level_of_type_name level_of_member level_of_member_declarator

pub parameter_level-roll : (node : ParameterLayer) → parameter_level (roll-Parameter node) ≡ level_of_parameter (map-Parameter DeclaratorSuffix Direct Expr Prefix Suffix Enumerator Specifier Declarator Parameter Branch Next TypeName Member MemberDeclarator (With SuffixFacts) (With DeclaratorFacts) (With ℕ) (With PrefixKind) (With Bool) (With ListedFacts) (With SpecifierKind) (With DeclaratorFacts) (With ParameterFacts) (With Bool) (With Operand) (With Bool) (With Bool) (With MemberDeclaratorFacts) declarator_suffix_level direct_level expr_level prefix_level suffix_level enumerator_level specifier_level declarator_level parameter_level branch_level next_level type_name_level member_level member_declarator_level node)
unfolding declarator_suffix_level direct_level expr_level prefix_level suffix_level enumerator_level specifier_level declarator_level parameter_level branch_level next_level type_name_level member_level member_declarator_level
parameter_level-roll = fold-roll-Parameter (With SuffixFacts) (With DeclaratorFacts) (With ℕ) (With PrefixKind) (With Bool) (With ListedFacts) (With SpecifierKind) (With DeclaratorFacts) (With ParameterFacts) (With Bool) (With Operand) (With Bool) (With Bool) (With MemberDeclaratorFacts) level_of_declarator_suffix level_of_direct level_of_expr level_of_prefix level_of_suffix level_of_enumerator level_of_specifier level_of_declarator level_of_parameter level_of_branch level_of_next level_of_type_name level_of_member level_of_member_declarator

pub branch_level-roll : (node : BranchLayer) → branch_level (roll-Branch node) ≡ level_of_branch (map-Branch DeclaratorSuffix Direct Expr Prefix Suffix Enumerator Specifier Declarator Parameter Branch Next TypeName Member MemberDeclarator (With SuffixFacts) (With DeclaratorFacts) (With ℕ) (With PrefixKind) (With Bool) (With ListedFacts) (With SpecifierKind) (With DeclaratorFacts) (With ParameterFacts) (With Bool) (With Operand) (With Bool) (With Bool) (With MemberDeclaratorFacts) declarator_suffix_level direct_level expr_level prefix_level suffix_level enumerator_level specifier_level declarator_level parameter_level branch_level next_level type_name_level member_level member_declarator_level node)
unfolding declarator_suffix_level direct_level expr_level prefix_level suffix_level enumerator_level specifier_level declarator_level parameter_level branch_level next_level type_name_level member_level member_declarator_level
branch_level-roll = fold-roll-Branch (With SuffixFacts) (With DeclaratorFacts) (With ℕ) (With PrefixKind) (With Bool) (With ListedFacts) (With SpecifierKind) (With DeclaratorFacts) (With ParameterFacts) (With Bool) (With Operand) (With Bool) (With Bool) (With MemberDeclaratorFacts) level_of_declarator_suffix level_of_direct level_of_expr level_of_prefix level_of_suffix level_of_enumerator level_of_specifier level_of_declarator level_of_parameter level_of_branch level_of_next level_of_type_name level_of_member level_of_member_declarator

pub next_level-roll : (node : NextLayer) → next_level (roll-Next node) ≡ level_of_next (map-Next DeclaratorSuffix Direct Expr Prefix Suffix Enumerator Specifier Declarator Parameter Branch Next TypeName Member MemberDeclarator (With SuffixFacts) (With DeclaratorFacts) (With ℕ) (With PrefixKind) (With Bool) (With ListedFacts) (With SpecifierKind) (With DeclaratorFacts) (With ParameterFacts) (With Bool) (With Operand) (With Bool) (With Bool) (With MemberDeclaratorFacts) declarator_suffix_level direct_level expr_level prefix_level suffix_level enumerator_level specifier_level declarator_level parameter_level branch_level next_level type_name_level member_level member_declarator_level node)
unfolding declarator_suffix_level direct_level expr_level prefix_level suffix_level enumerator_level specifier_level declarator_level parameter_level branch_level next_level type_name_level member_level member_declarator_level
next_level-roll = fold-roll-Next (With SuffixFacts) (With DeclaratorFacts) (With ℕ) (With PrefixKind) (With Bool) (With ListedFacts) (With SpecifierKind) (With DeclaratorFacts) (With ParameterFacts) (With Bool) (With Operand) (With Bool) (With Bool) (With MemberDeclaratorFacts) level_of_declarator_suffix level_of_direct level_of_expr level_of_prefix level_of_suffix level_of_enumerator level_of_specifier level_of_declarator level_of_parameter level_of_branch level_of_next level_of_type_name level_of_member level_of_member_declarator

pub type_name_level-roll : (node : TypeNameLayer) → type_name_level (roll-TypeName node) ≡ level_of_type_name (map-TypeName DeclaratorSuffix Direct Expr Prefix Suffix Enumerator Specifier Declarator Parameter Branch Next TypeName Member MemberDeclarator (With SuffixFacts) (With DeclaratorFacts) (With ℕ) (With PrefixKind) (With Bool) (With ListedFacts) (With SpecifierKind) (With DeclaratorFacts) (With ParameterFacts) (With Bool) (With Operand) (With Bool) (With Bool) (With MemberDeclaratorFacts) declarator_suffix_level direct_level expr_level prefix_level suffix_level enumerator_level specifier_level declarator_level parameter_level branch_level next_level type_name_level member_level member_declarator_level node)
unfolding declarator_suffix_level direct_level expr_level prefix_level suffix_level enumerator_level specifier_level declarator_level parameter_level branch_level next_level type_name_level member_level member_declarator_level
type_name_level-roll = fold-roll-TypeName (With SuffixFacts) (With DeclaratorFacts) (With ℕ) (With PrefixKind) (With Bool) (With ListedFacts) (With SpecifierKind) (With DeclaratorFacts) (With ParameterFacts) (With Bool) (With Operand) (With Bool) (With Bool) (With MemberDeclaratorFacts) level_of_declarator_suffix level_of_direct level_of_expr level_of_prefix level_of_suffix level_of_enumerator level_of_specifier level_of_declarator level_of_parameter level_of_branch level_of_next level_of_type_name level_of_member level_of_member_declarator

pub member_level-roll : (node : MemberLayer) → member_level (roll-Member node) ≡ level_of_member (map-Member DeclaratorSuffix Direct Expr Prefix Suffix Enumerator Specifier Declarator Parameter Branch Next TypeName Member MemberDeclarator (With SuffixFacts) (With DeclaratorFacts) (With ℕ) (With PrefixKind) (With Bool) (With ListedFacts) (With SpecifierKind) (With DeclaratorFacts) (With ParameterFacts) (With Bool) (With Operand) (With Bool) (With Bool) (With MemberDeclaratorFacts) declarator_suffix_level direct_level expr_level prefix_level suffix_level enumerator_level specifier_level declarator_level parameter_level branch_level next_level type_name_level member_level member_declarator_level node)
unfolding declarator_suffix_level direct_level expr_level prefix_level suffix_level enumerator_level specifier_level declarator_level parameter_level branch_level next_level type_name_level member_level member_declarator_level
member_level-roll = fold-roll-Member (With SuffixFacts) (With DeclaratorFacts) (With ℕ) (With PrefixKind) (With Bool) (With ListedFacts) (With SpecifierKind) (With DeclaratorFacts) (With ParameterFacts) (With Bool) (With Operand) (With Bool) (With Bool) (With MemberDeclaratorFacts) level_of_declarator_suffix level_of_direct level_of_expr level_of_prefix level_of_suffix level_of_enumerator level_of_specifier level_of_declarator level_of_parameter level_of_branch level_of_next level_of_type_name level_of_member level_of_member_declarator

pub member_declarator_level-roll : (node : MemberDeclaratorLayer) → member_declarator_level (roll-MemberDeclarator node) ≡ level_of_member_declarator (map-MemberDeclarator DeclaratorSuffix Direct Expr Prefix Suffix Enumerator Specifier Declarator Parameter Branch Next TypeName Member MemberDeclarator (With SuffixFacts) (With DeclaratorFacts) (With ℕ) (With PrefixKind) (With Bool) (With ListedFacts) (With SpecifierKind) (With DeclaratorFacts) (With ParameterFacts) (With Bool) (With Operand) (With Bool) (With Bool) (With MemberDeclaratorFacts) declarator_suffix_level direct_level expr_level prefix_level suffix_level enumerator_level specifier_level declarator_level parameter_level branch_level next_level type_name_level member_level member_declarator_level node)
unfolding declarator_suffix_level direct_level expr_level prefix_level suffix_level enumerator_level specifier_level declarator_level parameter_level branch_level next_level type_name_level member_level member_declarator_level
member_declarator_level-roll = fold-roll-MemberDeclarator (With SuffixFacts) (With DeclaratorFacts) (With ℕ) (With PrefixKind) (With Bool) (With ListedFacts) (With SpecifierKind) (With DeclaratorFacts) (With ParameterFacts) (With Bool) (With Operand) (With Bool) (With Bool) (With MemberDeclaratorFacts) level_of_declarator_suffix level_of_direct level_of_expr level_of_prefix level_of_suffix level_of_enumerator level_of_specifier level_of_declarator level_of_parameter level_of_branch level_of_next level_of_type_name level_of_member level_of_member_declarator

-- ---- one equation for each kind of node

pub declarator_suffix_level-Array : (from : Pos) (to : Pos) (names : Names) → declarator_suffix_level (declarator_suffix.Array from to) names ≡ level_of_declarator_suffix (DeclaratorSuffix-F.Array from to) names
declarator_suffix_level-Array from to names = ap (λ f. f names) (ap declarator_suffix_level (sym (declarator_suffix.rolls-Array from to)) ∙ declarator_suffix_level-roll (DeclaratorSuffix-F.Array from to))

pub declarator_suffix_level-ArrayOf : (from : Pos) (size : Expr) (to : Pos) (names : Names) → declarator_suffix_level (declarator_suffix.ArrayOf from size to) names ≡ level_of_declarator_suffix (DeclaratorSuffix-F.ArrayOf from (expr_level size) to) names
declarator_suffix_level-ArrayOf from size to names = ap (λ f. f names) (ap declarator_suffix_level (sym (declarator_suffix.rolls-ArrayOf from size to)) ∙ declarator_suffix_level-roll (DeclaratorSuffix-F.ArrayOf from size to))

pub declarator_suffix_level-Empty : (from : Pos) (to : Pos) (names : Names) → declarator_suffix_level (declarator_suffix.Empty from to) names ≡ level_of_declarator_suffix (DeclaratorSuffix-F.Empty from to) names
declarator_suffix_level-Empty from to names = ap (λ f. f names) (ap declarator_suffix_level (sym (declarator_suffix.rolls-Empty from to)) ∙ declarator_suffix_level-roll (DeclaratorSuffix-F.Empty from to))

pub declarator_suffix_level-Void : (from : Pos) (at : Pos) (to : Pos) (names : Names) → declarator_suffix_level (declarator_suffix.Void from at to) names ≡ level_of_declarator_suffix (DeclaratorSuffix-F.Void from at to) names
declarator_suffix_level-Void from at to names = ap (λ f. f names) (ap declarator_suffix_level (sym (declarator_suffix.rolls-Void from at to)) ∙ declarator_suffix_level-roll (DeclaratorSuffix-F.Void from at to))

pub declarator_suffix_level-Parameters : (from : Pos) (all : List Parameter) (to : Pos) (names : Names) → declarator_suffix_level (declarator_suffix.Parameters from all to) names ≡ level_of_declarator_suffix (DeclaratorSuffix-F.Parameters from (map parameter_level all) to) names
declarator_suffix_level-Parameters from all to names = ap (λ f. f names) (ap declarator_suffix_level (sym (declarator_suffix.rolls-Parameters from all to)) ∙ declarator_suffix_level-roll (DeclaratorSuffix-F.Parameters from all to))

pub direct_level-Nothing : (names : Names) → direct_level direct.Nothing names ≡ level_of_direct Direct-F.Nothing names
direct_level-Nothing names = ap (λ f. f names) (ap direct_level (sym direct.rolls-Nothing) ∙ direct_level-roll Direct-F.Nothing)

pub direct_level-Named : (name : Identifier) (names : Names) → direct_level (direct.Named name) names ≡ level_of_direct (Direct-F.Named name) names
direct_level-Named name names = ap (λ f. f names) (ap direct_level (sym (direct.rolls-Named name)) ∙ direct_level-roll (Direct-F.Named name))

pub direct_level-Grouped : (from : Pos) (inner : Declarator) (to : Pos) (names : Names) → direct_level (direct.Grouped from inner to) names ≡ level_of_direct (Direct-F.Grouped from (declarator_level inner) to) names
direct_level-Grouped from inner to names = ap (λ f. f names) (ap direct_level (sym (direct.rolls-Grouped from inner to)) ∙ direct_level-roll (Direct-F.Grouped from inner to))

pub expr_level-Name : (name : Identifier) (names : Names) → expr_level (expr.Name name) names ≡ level_of_expr (Expr-F.Name name) names
expr_level-Name name names = ap (λ f. f names) (ap expr_level (sym (expr.rolls-Name name)) ∙ expr_level-roll (Expr-F.Name name))

pub expr_level-Number : (value : ℕ) (kind : IntKind) (at : Pos) (names : Names) → expr_level (expr.Number value kind at) names ≡ level_of_expr (Expr-F.Number value kind at) names
expr_level-Number value kind at names = ap (λ f. f names) (ap expr_level (sym (expr.rolls-Number value kind at)) ∙ expr_level-roll (Expr-F.Number value kind at))

pub expr_level-Char : (value : ℕ) (at : Pos) (names : Names) → expr_level (expr.Char value at) names ≡ level_of_expr (Expr-F.Char value at) names
expr_level-Char value at names = ap (λ f. f names) (ap expr_level (sym (expr.rolls-Char value at)) ∙ expr_level-roll (Expr-F.Char value at))

pub expr_level-Strings : (all : List Literal) (names : Names) → expr_level (expr.Strings all) names ≡ level_of_expr (Expr-F.Strings all) names
expr_level-Strings all names = ap (λ f. f names) (ap expr_level (sym (expr.rolls-Strings all)) ∙ expr_level-roll (Expr-F.Strings all))

pub expr_level-Paren : (from : Pos) (inner : Expr) (to : Pos) (names : Names) → expr_level (expr.Paren from inner to) names ≡ level_of_expr (Expr-F.Paren from (expr_level inner) to) names
expr_level-Paren from inner to names = ap (λ f. f names) (ap expr_level (sym (expr.rolls-Paren from inner to)) ∙ expr_level-roll (Expr-F.Paren from inner to))

pub expr_level-Postfix : (operand : Expr) (suffixes : List Suffix) (names : Names) → expr_level (expr.Postfix operand suffixes) names ≡ level_of_expr (Expr-F.Postfix (expr_level operand) (map suffix_level suffixes)) names
expr_level-Postfix operand suffixes names = ap (λ f. f names) (ap expr_level (sym (expr.rolls-Postfix operand suffixes)) ∙ expr_level-roll (Expr-F.Postfix operand suffixes))

pub expr_level-SizeofType : (at : Pos) (from : Pos) (type : TypeName) (to : Pos) (names : Names) → expr_level (expr.SizeofType at from type to) names ≡ level_of_expr (Expr-F.SizeofType at from (type_name_level type) to) names
expr_level-SizeofType at from type to names = ap (λ f. f names) (ap expr_level (sym (expr.rolls-SizeofType at from type to)) ∙ expr_level-roll (Expr-F.SizeofType at from type to))

pub expr_level-Prefixed : (run : List Prefix) (operand : Expr) (names : Names) → expr_level (expr.Prefixed run operand) names ≡ level_of_expr (Expr-F.Prefixed (map prefix_level run) (expr_level operand)) names
expr_level-Prefixed run operand names = ap (λ f. f names) (ap expr_level (sym (expr.rolls-Prefixed run operand)) ∙ expr_level-roll (Expr-F.Prefixed run operand))

pub expr_level-Binary : (level : Level) (first : Expr) (rest : List Next) (names : Names) → expr_level (expr.Binary level first rest) names ≡ level_of_expr (Expr-F.Binary level (expr_level first) (map next_level rest)) names
expr_level-Binary level first rest names = ap (λ f. f names) (ap expr_level (sym (expr.rolls-Binary level first rest)) ∙ expr_level-roll (Expr-F.Binary level first rest))

pub expr_level-Conditional : (first : Expr) (rest : List Branch) (names : Names) → expr_level (expr.Conditional first rest) names ≡ level_of_expr (Expr-F.Conditional (expr_level first) (map branch_level rest)) names
expr_level-Conditional first rest names = ap (λ f. f names) (ap expr_level (sym (expr.rolls-Conditional first rest)) ∙ expr_level-roll (Expr-F.Conditional first rest))

pub expr_level-Assign : (first : Expr) (rest : List Next) (names : Names) → expr_level (expr.Assign first rest) names ≡ level_of_expr (Expr-F.Assign (expr_level first) (map next_level rest)) names
expr_level-Assign first rest names = ap (λ f. f names) (ap expr_level (sym (expr.rolls-Assign first rest)) ∙ expr_level-roll (Expr-F.Assign first rest))

pub expr_level-Comma : (first : Expr) (rest : List Next) (names : Names) → expr_level (expr.Comma first rest) names ≡ level_of_expr (Expr-F.Comma (expr_level first) (map next_level rest)) names
expr_level-Comma first rest names = ap (λ f. f names) (ap expr_level (sym (expr.rolls-Comma first rest)) ∙ expr_level-roll (Expr-F.Comma first rest))

pub prefix_level-Operator : (mark : Mark) (names : Names) → prefix_level (prefix.Operator mark) names ≡ level_of_prefix (Prefix-F.Operator mark) names
prefix_level-Operator mark names = ap (λ f. f names) (ap prefix_level (sym (prefix.rolls-Operator mark)) ∙ prefix_level-roll (Prefix-F.Operator mark))

pub prefix_level-Sizeof : (at : Pos) (names : Names) → prefix_level (prefix.Sizeof at) names ≡ level_of_prefix (Prefix-F.Sizeof at) names
prefix_level-Sizeof at names = ap (λ f. f names) (ap prefix_level (sym (prefix.rolls-Sizeof at)) ∙ prefix_level-roll (Prefix-F.Sizeof at))

pub prefix_level-Cast : (from : Pos) (type : TypeName) (to : Pos) (names : Names) → prefix_level (prefix.Cast from type to) names ≡ level_of_prefix (Prefix-F.Cast from (type_name_level type) to) names
prefix_level-Cast from type to names = ap (λ f. f names) (ap prefix_level (sym (prefix.rolls-Cast from type to)) ∙ prefix_level-roll (Prefix-F.Cast from type to))

pub suffix_level-Index : (from : Pos) (inner : Expr) (to : Pos) (names : Names) → suffix_level (suffix.Index from inner to) names ≡ level_of_suffix (Suffix-F.Index from (expr_level inner) to) names
suffix_level-Index from inner to names = ap (λ f. f names) (ap suffix_level (sym (suffix.rolls-Index from inner to)) ∙ suffix_level-roll (Suffix-F.Index from inner to))

pub suffix_level-Call : (from : Pos) (to : Pos) (names : Names) → suffix_level (suffix.Call from to) names ≡ level_of_suffix (Suffix-F.Call from to) names
suffix_level-Call from to names = ap (λ f. f names) (ap suffix_level (sym (suffix.rolls-Call from to)) ∙ suffix_level-roll (Suffix-F.Call from to))

pub suffix_level-CallWith : (from : Pos) (first : Expr) (rest : List Next) (to : Pos) (names : Names) → suffix_level (suffix.CallWith from first rest to) names ≡ level_of_suffix (Suffix-F.CallWith from (expr_level first) (map next_level rest) to) names
suffix_level-CallWith from first rest to names = ap (λ f. f names) (ap suffix_level (sym (suffix.rolls-CallWith from first rest to)) ∙ suffix_level-roll (Suffix-F.CallWith from first rest to))

pub suffix_level-Member : (at : Pos) (name : Identifier) (names : Names) → suffix_level (suffix.Member at name) names ≡ level_of_suffix (Suffix-F.Member at name) names
suffix_level-Member at name names = ap (λ f. f names) (ap suffix_level (sym (suffix.rolls-Member at name)) ∙ suffix_level-roll (Suffix-F.Member at name))

pub suffix_level-Arrow : (at : Pos) (name : Identifier) (names : Names) → suffix_level (suffix.Arrow at name) names ≡ level_of_suffix (Suffix-F.Arrow at name) names
suffix_level-Arrow at name names = ap (λ f. f names) (ap suffix_level (sym (suffix.rolls-Arrow at name)) ∙ suffix_level-roll (Suffix-F.Arrow at name))

pub suffix_level-Increment : (at : Pos) (names : Names) → suffix_level (suffix.Increment at) names ≡ level_of_suffix (Suffix-F.Increment at) names
suffix_level-Increment at names = ap (λ f. f names) (ap suffix_level (sym (suffix.rolls-Increment at)) ∙ suffix_level-roll (Suffix-F.Increment at))

pub suffix_level-Decrement : (at : Pos) (names : Names) → suffix_level (suffix.Decrement at) names ≡ level_of_suffix (Suffix-F.Decrement at) names
suffix_level-Decrement at names = ap (λ f. f names) (ap suffix_level (sym (suffix.rolls-Decrement at)) ∙ suffix_level-roll (Suffix-F.Decrement at))

pub enumerator_level-Plain : (comma : Option Pos) (name : Identifier) (names : Names) → enumerator_level (enumerator.Plain comma name) names ≡ level_of_enumerator (Enumerator-F.Plain comma name) names
enumerator_level-Plain comma name names = ap (λ f. f names) (ap enumerator_level (sym (enumerator.rolls-Plain comma name)) ∙ enumerator_level-roll (Enumerator-F.Plain comma name))

pub enumerator_level-Valued : (comma : Option Pos) (name : Identifier) (equals : Pos) (value : Expr) (names : Names) → enumerator_level (enumerator.Valued comma name equals value) names ≡ level_of_enumerator (Enumerator-F.Valued comma name equals (expr_level value)) names
enumerator_level-Valued comma name equals value names = ap (λ f. f names) (ap enumerator_level (sym (enumerator.rolls-Valued comma name equals value)) ∙ enumerator_level-roll (Enumerator-F.Valued comma name equals value))

pub specifier_level-Storage : (storage : Storage) (at : Pos) (names : Names) → specifier_level (specifier.Storage storage at) names ≡ level_of_specifier (Specifier-F.Storage storage at) names
specifier_level-Storage storage at names = ap (λ f. f names) (ap specifier_level (sym (specifier.rolls-Storage storage at)) ∙ specifier_level-roll (Specifier-F.Storage storage at))

pub specifier_level-Const : (at : Pos) (names : Names) → specifier_level (specifier.Const at) names ≡ level_of_specifier (Specifier-F.Const at) names
specifier_level-Const at names = ap (λ f. f names) (ap specifier_level (sym (specifier.rolls-Const at)) ∙ specifier_level-roll (Specifier-F.Const at))

pub specifier_level-Word : (word : TypeWord) (at : Pos) (names : Names) → specifier_level (specifier.Word word at) names ≡ level_of_specifier (Specifier-F.Word word at) names
specifier_level-Word word at names = ap (λ f. f names) (ap specifier_level (sym (specifier.rolls-Word word at)) ∙ specifier_level-roll (Specifier-F.Word word at))

pub specifier_level-StructTag : (at : Pos) (tag : Identifier) (names : Names) → specifier_level (specifier.StructTag at tag) names ≡ level_of_specifier (Specifier-F.StructTag at tag) names
specifier_level-StructTag at tag names = ap (λ f. f names) (ap specifier_level (sym (specifier.rolls-StructTag at tag)) ∙ specifier_level-roll (Specifier-F.StructTag at tag))

pub specifier_level-Struct : (at : Pos) (tag : Option Identifier) (from : Pos) (members : List Member) (to : Pos) (names : Names) → specifier_level (specifier.Struct at tag from members to) names ≡ level_of_specifier (Specifier-F.Struct at tag from (map member_level members) to) names
specifier_level-Struct at tag from members to names = ap (λ f. f names) (ap specifier_level (sym (specifier.rolls-Struct at tag from members to)) ∙ specifier_level-roll (Specifier-F.Struct at tag from members to))

pub specifier_level-EnumTag : (at : Pos) (tag : Identifier) (names : Names) → specifier_level (specifier.EnumTag at tag) names ≡ level_of_specifier (Specifier-F.EnumTag at tag) names
specifier_level-EnumTag at tag names = ap (λ f. f names) (ap specifier_level (sym (specifier.rolls-EnumTag at tag)) ∙ specifier_level-roll (Specifier-F.EnumTag at tag))

pub specifier_level-Enum : (at : Pos) (tag : Option Identifier) (from : Pos) (enumerators : List Enumerator) (comma : Option Pos) (to : Pos) (names : Names) → specifier_level (specifier.Enum at tag from enumerators comma to) names ≡ level_of_specifier (Specifier-F.Enum at tag from (map enumerator_level enumerators) comma to) names
specifier_level-Enum at tag from enumerators comma to names = ap (λ f. f names) (ap specifier_level (sym (specifier.rolls-Enum at tag from enumerators comma to)) ∙ specifier_level-roll (Specifier-F.Enum at tag from enumerators comma to))

pub specifier_level-TypedefName : (name : Identifier) (names : Names) → specifier_level (specifier.TypedefName name) names ≡ level_of_specifier (Specifier-F.TypedefName name) names
specifier_level-TypedefName name names = ap (λ f. f names) (ap specifier_level (sym (specifier.rolls-TypedefName name)) ∙ specifier_level-roll (Specifier-F.TypedefName name))

pub declarator_level-is : (node : Declarator) (names : Names) → declarator_level node names ≡ level_of_declarator (record { pointers = (out-Declarator node).pointers; direct = direct_level (out-Declarator node).direct; suffixes = map declarator_suffix_level (out-Declarator node).suffixes }) names
declarator_level-is node names = ap (λ f. f names) (ap declarator_level (sym (roll-out-Declarator node)) ∙ declarator_level-roll (out-Declarator node))

pub parameter_level-is : (node : Parameter) (names : Names) → parameter_level node names ≡ level_of_parameter (record { comma = (out-Parameter node).comma; specifiers = map specifier_level (out-Parameter node).specifiers; declarator = declarator_level (out-Parameter node).declarator }) names
parameter_level-is node names = ap (λ f. f names) (ap parameter_level (sym (roll-out-Parameter node)) ∙ parameter_level-roll (out-Parameter node))

pub branch_level-is : (node : Branch) (names : Names) → branch_level node names ≡ level_of_branch (record { question = (out-Branch node).question; gives = expr_level (out-Branch node).gives; colon = (out-Branch node).colon; operand = expr_level (out-Branch node).operand }) names
branch_level-is node names = ap (λ f. f names) (ap branch_level (sym (roll-out-Branch node)) ∙ branch_level-roll (out-Branch node))

pub next_level-is : (node : Next) (names : Names) → next_level node names ≡ level_of_next (record { operator = (out-Next node).operator; operand = expr_level (out-Next node).operand }) names
next_level-is node names = ap (λ f. f names) (ap next_level (sym (roll-out-Next node)) ∙ next_level-roll (out-Next node))

pub type_name_level-is : (node : TypeName) (names : Names) → type_name_level node names ≡ level_of_type_name (record { specifiers = map specifier_level (out-TypeName node).specifiers; declarator = declarator_level (out-TypeName node).declarator }) names
type_name_level-is node names = ap (λ f. f names) (ap type_name_level (sym (roll-out-TypeName node)) ∙ type_name_level-roll (out-TypeName node))

pub member_level-is : (node : Member) (names : Names) → member_level node names ≡ level_of_member (record { specifiers = map specifier_level (out-Member node).specifiers; declarators = map member_declarator_level (out-Member node).declarators; semicolon = (out-Member node).semicolon }) names
member_level-is node names = ap (λ f. f names) (ap member_level (sym (roll-out-Member node)) ∙ member_level-roll (out-Member node))

pub member_declarator_level-is : (node : MemberDeclarator) (names : Names) → member_declarator_level node names ≡ level_of_member_declarator (record { comma = (out-MemberDeclarator node).comma; declarator = declarator_level (out-MemberDeclarator node).declarator }) names
member_declarator_level-is node names = ap (λ f. f names) (ap member_declarator_level (sym (roll-out-MemberDeclarator node)) ∙ member_declarator_level-roll (out-MemberDeclarator node))
