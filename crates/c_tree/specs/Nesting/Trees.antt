-- Written by tools/tree_equations.py.
-- The fold whose steps stand in Nesting.OfTrees, and one equation for each kind of node.
use Rattle.std.specs.Prelude.{◌≡◌, ℕ, List, Option, map}
use Rattle.std.proofs.Common.{ap, sym, ◌∙◌}
use Rattle.c_tree.specs.declared.expression.Identifier.{Identifier}
use Rattle.c_tree.specs.declared.token.IntKind.{IntKind}
use Rattle.c_tree.specs.declared.expression.Level.{Level}
use Rattle.c_tree.specs.declared.expression.Literal.{Literal}
use Rattle.c_tree.specs.declared.expression.Mark.{Mark}
use Rattle.c_tree.specs.declared.token.Pos.{Pos}
use Rattle.c_tree.specs.declared.specifier.Storage.{Storage}
use Rattle.c_tree.specs.declared.specifier.TypeWord.{TypeWord}
use Rattle.c_tree.specs.declared.declarator.DeclaratorSuffix.{DeclaratorSuffix, roll-DeclaratorSuffix}
use Rattle.c_tree.specs.declared.declarator.DeclaratorSuffix.TheVariants as declarator_suffix
use Rattle.c_tree.specs.declared.declarator.Direct.{Direct, roll-Direct}
use Rattle.c_tree.specs.declared.declarator.Direct.TheVariants as direct
use Rattle.c_tree.specs.declared.expression.Expr.{Expr, roll-Expr}
use Rattle.c_tree.specs.declared.expression.Expr.TheVariants as expr
use Rattle.c_tree.specs.declared.expression.Prefix.{Prefix, roll-Prefix}
use Rattle.c_tree.specs.declared.expression.Prefix.TheVariants as prefix
use Rattle.c_tree.specs.declared.expression.Suffix.{Suffix, roll-Suffix}
use Rattle.c_tree.specs.declared.expression.Suffix.TheVariants as suffix
use Rattle.c_tree.specs.declared.specifier.Enumerator.{Enumerator, roll-Enumerator}
use Rattle.c_tree.specs.declared.specifier.Enumerator.TheVariants as enumerator
use Rattle.c_tree.specs.declared.specifier.Specifier.{Specifier, roll-Specifier}
use Rattle.c_tree.specs.declared.specifier.Specifier.TheVariants as specifier
use Rattle.c_tree.specs.declared.declarator.Declarator.{Declarator, out-Declarator, roll-Declarator, roll-out-Declarator}
use Rattle.c_tree.specs.declared.declarator.Parameter.{Parameter, out-Parameter, roll-Parameter, roll-out-Parameter}
use Rattle.c_tree.specs.declared.expression.Branch.{Branch, out-Branch, roll-Branch, roll-out-Branch}
use Rattle.c_tree.specs.declared.expression.Next.{Next, out-Next, roll-Next, roll-out-Next}
use Rattle.c_tree.specs.declared.expression.TypeName.{TypeName, out-TypeName, roll-TypeName, roll-out-TypeName}
use Rattle.c_tree.specs.declared.specifier.Member.{Member, out-Member, roll-Member, roll-out-Member}
use Rattle.c_tree.specs.declared.specifier.MemberDeclarator.{MemberDeclarator, out-MemberDeclarator, roll-MemberDeclarator, roll-out-MemberDeclarator}
use Rattle.c_tree.specs.declared.declarator.DeclaratorSuffix.TheOpen.{DeclaratorSuffix-F, Direct-F, Expr-F, Prefix-F, Suffix-F, Enumerator-F, Specifier-F}
use Rattle.c_tree.specs.Layers.{DeclaratorSuffixLayer, DirectLayer, ExprLayer, PrefixLayer, SuffixLayer, EnumeratorLayer, SpecifierLayer, DeclaratorLayer, ParameterLayer, BranchLayer, NextLayer, TypeNameLayer, MemberLayer, MemberDeclaratorLayer}
use Rattle.c_tree.specs.declared.declarator.DeclaratorSuffix.TheFolds.{fold-DeclaratorSuffix, fold-roll-DeclaratorSuffix, map-DeclaratorSuffix, fold-Direct, fold-roll-Direct, map-Direct, fold-Expr, fold-roll-Expr, map-Expr, fold-Prefix, fold-roll-Prefix, map-Prefix, fold-Suffix, fold-roll-Suffix, map-Suffix, fold-Enumerator, fold-roll-Enumerator, map-Enumerator, fold-Specifier, fold-roll-Specifier, map-Specifier, fold-Declarator, fold-roll-Declarator, map-Declarator, fold-Parameter, fold-roll-Parameter, map-Parameter, fold-Branch, fold-roll-Branch, map-Branch, fold-Next, fold-roll-Next, map-Next, fold-TypeName, fold-roll-TypeName, map-TypeName, fold-Member, fold-roll-Member, map-Member, fold-MemberDeclarator, fold-roll-MemberDeclarator, map-MemberDeclarator}
use Rattle.c_tree.specs.Nesting.OfTrees.{nested_declarator_suffix, nested_direct, nested_expr, nested_prefix, nested_suffix, nested_enumerator, nested_specifier, nested_declarator, nested_parameter, nested_branch, nested_next, nested_type_name, nested_member, nested_member_declarator}

unfoldable pub declarator_suffix_nesting : DeclaratorSuffix → ℕ
declarator_suffix_nesting = fold-DeclaratorSuffix ℕ ℕ ℕ ℕ ℕ ℕ ℕ ℕ ℕ ℕ ℕ ℕ ℕ ℕ nested_declarator_suffix nested_direct nested_expr nested_prefix nested_suffix nested_enumerator nested_specifier nested_declarator nested_parameter nested_branch nested_next nested_type_name nested_member nested_member_declarator

unfoldable pub direct_nesting : Direct → ℕ
direct_nesting = fold-Direct ℕ ℕ ℕ ℕ ℕ ℕ ℕ ℕ ℕ ℕ ℕ ℕ ℕ ℕ nested_declarator_suffix nested_direct nested_expr nested_prefix nested_suffix nested_enumerator nested_specifier nested_declarator nested_parameter nested_branch nested_next nested_type_name nested_member nested_member_declarator

unfoldable pub expr_nesting : Expr → ℕ
expr_nesting = fold-Expr ℕ ℕ ℕ ℕ ℕ ℕ ℕ ℕ ℕ ℕ ℕ ℕ ℕ ℕ nested_declarator_suffix nested_direct nested_expr nested_prefix nested_suffix nested_enumerator nested_specifier nested_declarator nested_parameter nested_branch nested_next nested_type_name nested_member nested_member_declarator

unfoldable pub prefix_nesting : Prefix → ℕ
prefix_nesting = fold-Prefix ℕ ℕ ℕ ℕ ℕ ℕ ℕ ℕ ℕ ℕ ℕ ℕ ℕ ℕ nested_declarator_suffix nested_direct nested_expr nested_prefix nested_suffix nested_enumerator nested_specifier nested_declarator nested_parameter nested_branch nested_next nested_type_name nested_member nested_member_declarator

unfoldable pub suffix_nesting : Suffix → ℕ
suffix_nesting = fold-Suffix ℕ ℕ ℕ ℕ ℕ ℕ ℕ ℕ ℕ ℕ ℕ ℕ ℕ ℕ nested_declarator_suffix nested_direct nested_expr nested_prefix nested_suffix nested_enumerator nested_specifier nested_declarator nested_parameter nested_branch nested_next nested_type_name nested_member nested_member_declarator

unfoldable pub enumerator_nesting : Enumerator → ℕ
enumerator_nesting = fold-Enumerator ℕ ℕ ℕ ℕ ℕ ℕ ℕ ℕ ℕ ℕ ℕ ℕ ℕ ℕ nested_declarator_suffix nested_direct nested_expr nested_prefix nested_suffix nested_enumerator nested_specifier nested_declarator nested_parameter nested_branch nested_next nested_type_name nested_member nested_member_declarator

unfoldable pub specifier_nesting : Specifier → ℕ
specifier_nesting = fold-Specifier ℕ ℕ ℕ ℕ ℕ ℕ ℕ ℕ ℕ ℕ ℕ ℕ ℕ ℕ nested_declarator_suffix nested_direct nested_expr nested_prefix nested_suffix nested_enumerator nested_specifier nested_declarator nested_parameter nested_branch nested_next nested_type_name nested_member nested_member_declarator

unfoldable pub declarator_nesting : Declarator → ℕ
declarator_nesting = fold-Declarator ℕ ℕ ℕ ℕ ℕ ℕ ℕ ℕ ℕ ℕ ℕ ℕ ℕ ℕ nested_declarator_suffix nested_direct nested_expr nested_prefix nested_suffix nested_enumerator nested_specifier nested_declarator nested_parameter nested_branch nested_next nested_type_name nested_member nested_member_declarator

unfoldable pub parameter_nesting : Parameter → ℕ
parameter_nesting = fold-Parameter ℕ ℕ ℕ ℕ ℕ ℕ ℕ ℕ ℕ ℕ ℕ ℕ ℕ ℕ nested_declarator_suffix nested_direct nested_expr nested_prefix nested_suffix nested_enumerator nested_specifier nested_declarator nested_parameter nested_branch nested_next nested_type_name nested_member nested_member_declarator

unfoldable pub branch_nesting : Branch → ℕ
branch_nesting = fold-Branch ℕ ℕ ℕ ℕ ℕ ℕ ℕ ℕ ℕ ℕ ℕ ℕ ℕ ℕ nested_declarator_suffix nested_direct nested_expr nested_prefix nested_suffix nested_enumerator nested_specifier nested_declarator nested_parameter nested_branch nested_next nested_type_name nested_member nested_member_declarator

unfoldable pub next_nesting : Next → ℕ
next_nesting = fold-Next ℕ ℕ ℕ ℕ ℕ ℕ ℕ ℕ ℕ ℕ ℕ ℕ ℕ ℕ nested_declarator_suffix nested_direct nested_expr nested_prefix nested_suffix nested_enumerator nested_specifier nested_declarator nested_parameter nested_branch nested_next nested_type_name nested_member nested_member_declarator

unfoldable pub type_name_nesting : TypeName → ℕ
type_name_nesting = fold-TypeName ℕ ℕ ℕ ℕ ℕ ℕ ℕ ℕ ℕ ℕ ℕ ℕ ℕ ℕ nested_declarator_suffix nested_direct nested_expr nested_prefix nested_suffix nested_enumerator nested_specifier nested_declarator nested_parameter nested_branch nested_next nested_type_name nested_member nested_member_declarator

unfoldable pub member_nesting : Member → ℕ
member_nesting = fold-Member ℕ ℕ ℕ ℕ ℕ ℕ ℕ ℕ ℕ ℕ ℕ ℕ ℕ ℕ nested_declarator_suffix nested_direct nested_expr nested_prefix nested_suffix nested_enumerator nested_specifier nested_declarator nested_parameter nested_branch nested_next nested_type_name nested_member nested_member_declarator

unfoldable pub member_declarator_nesting : MemberDeclarator → ℕ
member_declarator_nesting = fold-MemberDeclarator ℕ ℕ ℕ ℕ ℕ ℕ ℕ ℕ ℕ ℕ ℕ ℕ ℕ ℕ nested_declarator_suffix nested_direct nested_expr nested_prefix nested_suffix nested_enumerator nested_specifier nested_declarator nested_parameter nested_branch nested_next nested_type_name nested_member nested_member_declarator

-- ---- what a fold tells of one node

pub declarator_suffix_nesting-roll : (node : DeclaratorSuffixLayer) → declarator_suffix_nesting (roll-DeclaratorSuffix node) ≡ nested_declarator_suffix (map-DeclaratorSuffix DeclaratorSuffix Direct Expr Prefix Suffix Enumerator Specifier Declarator Parameter Branch Next TypeName Member MemberDeclarator ℕ ℕ ℕ ℕ ℕ ℕ ℕ ℕ ℕ ℕ ℕ ℕ ℕ ℕ declarator_suffix_nesting direct_nesting expr_nesting prefix_nesting suffix_nesting enumerator_nesting specifier_nesting declarator_nesting parameter_nesting branch_nesting next_nesting type_name_nesting member_nesting member_declarator_nesting node)
unfolding declarator_suffix_nesting direct_nesting expr_nesting prefix_nesting suffix_nesting enumerator_nesting specifier_nesting declarator_nesting parameter_nesting branch_nesting next_nesting type_name_nesting member_nesting member_declarator_nesting
declarator_suffix_nesting-roll = fold-roll-DeclaratorSuffix ℕ ℕ ℕ ℕ ℕ ℕ ℕ ℕ ℕ ℕ ℕ ℕ ℕ ℕ nested_declarator_suffix nested_direct nested_expr nested_prefix nested_suffix nested_enumerator nested_specifier nested_declarator nested_parameter nested_branch nested_next nested_type_name nested_member nested_member_declarator

pub direct_nesting-roll : (node : DirectLayer) → direct_nesting (roll-Direct node) ≡ nested_direct (map-Direct DeclaratorSuffix Direct Expr Prefix Suffix Enumerator Specifier Declarator Parameter Branch Next TypeName Member MemberDeclarator ℕ ℕ ℕ ℕ ℕ ℕ ℕ ℕ ℕ ℕ ℕ ℕ ℕ ℕ declarator_suffix_nesting direct_nesting expr_nesting prefix_nesting suffix_nesting enumerator_nesting specifier_nesting declarator_nesting parameter_nesting branch_nesting next_nesting type_name_nesting member_nesting member_declarator_nesting node)
unfolding declarator_suffix_nesting direct_nesting expr_nesting prefix_nesting suffix_nesting enumerator_nesting specifier_nesting declarator_nesting parameter_nesting branch_nesting next_nesting type_name_nesting member_nesting member_declarator_nesting
direct_nesting-roll = fold-roll-Direct ℕ ℕ ℕ ℕ ℕ ℕ ℕ ℕ ℕ ℕ ℕ ℕ ℕ ℕ nested_declarator_suffix nested_direct nested_expr nested_prefix nested_suffix nested_enumerator nested_specifier nested_declarator nested_parameter nested_branch nested_next nested_type_name nested_member nested_member_declarator

pub expr_nesting-roll : (node : ExprLayer) → expr_nesting (roll-Expr node) ≡ nested_expr (map-Expr DeclaratorSuffix Direct Expr Prefix Suffix Enumerator Specifier Declarator Parameter Branch Next TypeName Member MemberDeclarator ℕ ℕ ℕ ℕ ℕ ℕ ℕ ℕ ℕ ℕ ℕ ℕ ℕ ℕ declarator_suffix_nesting direct_nesting expr_nesting prefix_nesting suffix_nesting enumerator_nesting specifier_nesting declarator_nesting parameter_nesting branch_nesting next_nesting type_name_nesting member_nesting member_declarator_nesting node)
unfolding declarator_suffix_nesting direct_nesting expr_nesting prefix_nesting suffix_nesting enumerator_nesting specifier_nesting declarator_nesting parameter_nesting branch_nesting next_nesting type_name_nesting member_nesting member_declarator_nesting
expr_nesting-roll = fold-roll-Expr ℕ ℕ ℕ ℕ ℕ ℕ ℕ ℕ ℕ ℕ ℕ ℕ ℕ ℕ nested_declarator_suffix nested_direct nested_expr nested_prefix nested_suffix nested_enumerator nested_specifier nested_declarator nested_parameter nested_branch nested_next nested_type_name nested_member nested_member_declarator

pub prefix_nesting-roll : (node : PrefixLayer) → prefix_nesting (roll-Prefix node) ≡ nested_prefix (map-Prefix DeclaratorSuffix Direct Expr Prefix Suffix Enumerator Specifier Declarator Parameter Branch Next TypeName Member MemberDeclarator ℕ ℕ ℕ ℕ ℕ ℕ ℕ ℕ ℕ ℕ ℕ ℕ ℕ ℕ declarator_suffix_nesting direct_nesting expr_nesting prefix_nesting suffix_nesting enumerator_nesting specifier_nesting declarator_nesting parameter_nesting branch_nesting next_nesting type_name_nesting member_nesting member_declarator_nesting node)
unfolding declarator_suffix_nesting direct_nesting expr_nesting prefix_nesting suffix_nesting enumerator_nesting specifier_nesting declarator_nesting parameter_nesting branch_nesting next_nesting type_name_nesting member_nesting member_declarator_nesting
prefix_nesting-roll = fold-roll-Prefix ℕ ℕ ℕ ℕ ℕ ℕ ℕ ℕ ℕ ℕ ℕ ℕ ℕ ℕ nested_declarator_suffix nested_direct nested_expr nested_prefix nested_suffix nested_enumerator nested_specifier nested_declarator nested_parameter nested_branch nested_next nested_type_name nested_member nested_member_declarator

pub suffix_nesting-roll : (node : SuffixLayer) → suffix_nesting (roll-Suffix node) ≡ nested_suffix (map-Suffix DeclaratorSuffix Direct Expr Prefix Suffix Enumerator Specifier Declarator Parameter Branch Next TypeName Member MemberDeclarator ℕ ℕ ℕ ℕ ℕ ℕ ℕ ℕ ℕ ℕ ℕ ℕ ℕ ℕ declarator_suffix_nesting direct_nesting expr_nesting prefix_nesting suffix_nesting enumerator_nesting specifier_nesting declarator_nesting parameter_nesting branch_nesting next_nesting type_name_nesting member_nesting member_declarator_nesting node)
unfolding declarator_suffix_nesting direct_nesting expr_nesting prefix_nesting suffix_nesting enumerator_nesting specifier_nesting declarator_nesting parameter_nesting branch_nesting next_nesting type_name_nesting member_nesting member_declarator_nesting
suffix_nesting-roll = fold-roll-Suffix ℕ ℕ ℕ ℕ ℕ ℕ ℕ ℕ ℕ ℕ ℕ ℕ ℕ ℕ nested_declarator_suffix nested_direct nested_expr nested_prefix nested_suffix nested_enumerator nested_specifier nested_declarator nested_parameter nested_branch nested_next nested_type_name nested_member nested_member_declarator

pub enumerator_nesting-roll : (node : EnumeratorLayer) → enumerator_nesting (roll-Enumerator node) ≡ nested_enumerator (map-Enumerator DeclaratorSuffix Direct Expr Prefix Suffix Enumerator Specifier Declarator Parameter Branch Next TypeName Member MemberDeclarator ℕ ℕ ℕ ℕ ℕ ℕ ℕ ℕ ℕ ℕ ℕ ℕ ℕ ℕ declarator_suffix_nesting direct_nesting expr_nesting prefix_nesting suffix_nesting enumerator_nesting specifier_nesting declarator_nesting parameter_nesting branch_nesting next_nesting type_name_nesting member_nesting member_declarator_nesting node)
unfolding declarator_suffix_nesting direct_nesting expr_nesting prefix_nesting suffix_nesting enumerator_nesting specifier_nesting declarator_nesting parameter_nesting branch_nesting next_nesting type_name_nesting member_nesting member_declarator_nesting
enumerator_nesting-roll = fold-roll-Enumerator ℕ ℕ ℕ ℕ ℕ ℕ ℕ ℕ ℕ ℕ ℕ ℕ ℕ ℕ nested_declarator_suffix nested_direct nested_expr nested_prefix nested_suffix nested_enumerator nested_specifier nested_declarator nested_parameter nested_branch nested_next nested_type_name nested_member nested_member_declarator

pub specifier_nesting-roll : (node : SpecifierLayer) → specifier_nesting (roll-Specifier node) ≡ nested_specifier (map-Specifier DeclaratorSuffix Direct Expr Prefix Suffix Enumerator Specifier Declarator Parameter Branch Next TypeName Member MemberDeclarator ℕ ℕ ℕ ℕ ℕ ℕ ℕ ℕ ℕ ℕ ℕ ℕ ℕ ℕ declarator_suffix_nesting direct_nesting expr_nesting prefix_nesting suffix_nesting enumerator_nesting specifier_nesting declarator_nesting parameter_nesting branch_nesting next_nesting type_name_nesting member_nesting member_declarator_nesting node)
unfolding declarator_suffix_nesting direct_nesting expr_nesting prefix_nesting suffix_nesting enumerator_nesting specifier_nesting declarator_nesting parameter_nesting branch_nesting next_nesting type_name_nesting member_nesting member_declarator_nesting
specifier_nesting-roll = fold-roll-Specifier ℕ ℕ ℕ ℕ ℕ ℕ ℕ ℕ ℕ ℕ ℕ ℕ ℕ ℕ nested_declarator_suffix nested_direct nested_expr nested_prefix nested_suffix nested_enumerator nested_specifier nested_declarator nested_parameter nested_branch nested_next nested_type_name nested_member nested_member_declarator

pub declarator_nesting-roll : (node : DeclaratorLayer) → declarator_nesting (roll-Declarator node) ≡ nested_declarator (map-Declarator DeclaratorSuffix Direct Expr Prefix Suffix Enumerator Specifier Declarator Parameter Branch Next TypeName Member MemberDeclarator ℕ ℕ ℕ ℕ ℕ ℕ ℕ ℕ ℕ ℕ ℕ ℕ ℕ ℕ declarator_suffix_nesting direct_nesting expr_nesting prefix_nesting suffix_nesting enumerator_nesting specifier_nesting declarator_nesting parameter_nesting branch_nesting next_nesting type_name_nesting member_nesting member_declarator_nesting node)
unfolding declarator_suffix_nesting direct_nesting expr_nesting prefix_nesting suffix_nesting enumerator_nesting specifier_nesting declarator_nesting parameter_nesting branch_nesting next_nesting type_name_nesting member_nesting member_declarator_nesting
declarator_nesting-roll = fold-roll-Declarator ℕ ℕ ℕ ℕ ℕ ℕ ℕ ℕ ℕ ℕ ℕ ℕ ℕ ℕ nested_declarator_suffix nested_direct nested_expr nested_prefix nested_suffix nested_enumerator nested_specifier nested_declarator nested_parameter nested_branch nested_next nested_type_name nested_member nested_member_declarator

pub parameter_nesting-roll : (node : ParameterLayer) → parameter_nesting (roll-Parameter node) ≡ nested_parameter (map-Parameter DeclaratorSuffix Direct Expr Prefix Suffix Enumerator Specifier Declarator Parameter Branch Next TypeName Member MemberDeclarator ℕ ℕ ℕ ℕ ℕ ℕ ℕ ℕ ℕ ℕ ℕ ℕ ℕ ℕ declarator_suffix_nesting direct_nesting expr_nesting prefix_nesting suffix_nesting enumerator_nesting specifier_nesting declarator_nesting parameter_nesting branch_nesting next_nesting type_name_nesting member_nesting member_declarator_nesting node)
unfolding declarator_suffix_nesting direct_nesting expr_nesting prefix_nesting suffix_nesting enumerator_nesting specifier_nesting declarator_nesting parameter_nesting branch_nesting next_nesting type_name_nesting member_nesting member_declarator_nesting
parameter_nesting-roll = fold-roll-Parameter ℕ ℕ ℕ ℕ ℕ ℕ ℕ ℕ ℕ ℕ ℕ ℕ ℕ ℕ nested_declarator_suffix nested_direct nested_expr nested_prefix nested_suffix nested_enumerator nested_specifier nested_declarator nested_parameter nested_branch nested_next nested_type_name nested_member nested_member_declarator

pub branch_nesting-roll : (node : BranchLayer) → branch_nesting (roll-Branch node) ≡ nested_branch (map-Branch DeclaratorSuffix Direct Expr Prefix Suffix Enumerator Specifier Declarator Parameter Branch Next TypeName Member MemberDeclarator ℕ ℕ ℕ ℕ ℕ ℕ ℕ ℕ ℕ ℕ ℕ ℕ ℕ ℕ declarator_suffix_nesting direct_nesting expr_nesting prefix_nesting suffix_nesting enumerator_nesting specifier_nesting declarator_nesting parameter_nesting branch_nesting next_nesting type_name_nesting member_nesting member_declarator_nesting node)
unfolding declarator_suffix_nesting direct_nesting expr_nesting prefix_nesting suffix_nesting enumerator_nesting specifier_nesting declarator_nesting parameter_nesting branch_nesting next_nesting type_name_nesting member_nesting member_declarator_nesting
branch_nesting-roll = fold-roll-Branch ℕ ℕ ℕ ℕ ℕ ℕ ℕ ℕ ℕ ℕ ℕ ℕ ℕ ℕ nested_declarator_suffix nested_direct nested_expr nested_prefix nested_suffix nested_enumerator nested_specifier nested_declarator nested_parameter nested_branch nested_next nested_type_name nested_member nested_member_declarator

pub next_nesting-roll : (node : NextLayer) → next_nesting (roll-Next node) ≡ nested_next (map-Next DeclaratorSuffix Direct Expr Prefix Suffix Enumerator Specifier Declarator Parameter Branch Next TypeName Member MemberDeclarator ℕ ℕ ℕ ℕ ℕ ℕ ℕ ℕ ℕ ℕ ℕ ℕ ℕ ℕ declarator_suffix_nesting direct_nesting expr_nesting prefix_nesting suffix_nesting enumerator_nesting specifier_nesting declarator_nesting parameter_nesting branch_nesting next_nesting type_name_nesting member_nesting member_declarator_nesting node)
unfolding declarator_suffix_nesting direct_nesting expr_nesting prefix_nesting suffix_nesting enumerator_nesting specifier_nesting declarator_nesting parameter_nesting branch_nesting next_nesting type_name_nesting member_nesting member_declarator_nesting
next_nesting-roll = fold-roll-Next ℕ ℕ ℕ ℕ ℕ ℕ ℕ ℕ ℕ ℕ ℕ ℕ ℕ ℕ nested_declarator_suffix nested_direct nested_expr nested_prefix nested_suffix nested_enumerator nested_specifier nested_declarator nested_parameter nested_branch nested_next nested_type_name nested_member nested_member_declarator

pub type_name_nesting-roll : (node : TypeNameLayer) → type_name_nesting (roll-TypeName node) ≡ nested_type_name (map-TypeName DeclaratorSuffix Direct Expr Prefix Suffix Enumerator Specifier Declarator Parameter Branch Next TypeName Member MemberDeclarator ℕ ℕ ℕ ℕ ℕ ℕ ℕ ℕ ℕ ℕ ℕ ℕ ℕ ℕ declarator_suffix_nesting direct_nesting expr_nesting prefix_nesting suffix_nesting enumerator_nesting specifier_nesting declarator_nesting parameter_nesting branch_nesting next_nesting type_name_nesting member_nesting member_declarator_nesting node)
unfolding declarator_suffix_nesting direct_nesting expr_nesting prefix_nesting suffix_nesting enumerator_nesting specifier_nesting declarator_nesting parameter_nesting branch_nesting next_nesting type_name_nesting member_nesting member_declarator_nesting
type_name_nesting-roll = fold-roll-TypeName ℕ ℕ ℕ ℕ ℕ ℕ ℕ ℕ ℕ ℕ ℕ ℕ ℕ ℕ nested_declarator_suffix nested_direct nested_expr nested_prefix nested_suffix nested_enumerator nested_specifier nested_declarator nested_parameter nested_branch nested_next nested_type_name nested_member nested_member_declarator

pub member_nesting-roll : (node : MemberLayer) → member_nesting (roll-Member node) ≡ nested_member (map-Member DeclaratorSuffix Direct Expr Prefix Suffix Enumerator Specifier Declarator Parameter Branch Next TypeName Member MemberDeclarator ℕ ℕ ℕ ℕ ℕ ℕ ℕ ℕ ℕ ℕ ℕ ℕ ℕ ℕ declarator_suffix_nesting direct_nesting expr_nesting prefix_nesting suffix_nesting enumerator_nesting specifier_nesting declarator_nesting parameter_nesting branch_nesting next_nesting type_name_nesting member_nesting member_declarator_nesting node)
unfolding declarator_suffix_nesting direct_nesting expr_nesting prefix_nesting suffix_nesting enumerator_nesting specifier_nesting declarator_nesting parameter_nesting branch_nesting next_nesting type_name_nesting member_nesting member_declarator_nesting
member_nesting-roll = fold-roll-Member ℕ ℕ ℕ ℕ ℕ ℕ ℕ ℕ ℕ ℕ ℕ ℕ ℕ ℕ nested_declarator_suffix nested_direct nested_expr nested_prefix nested_suffix nested_enumerator nested_specifier nested_declarator nested_parameter nested_branch nested_next nested_type_name nested_member nested_member_declarator

pub member_declarator_nesting-roll : (node : MemberDeclaratorLayer) → member_declarator_nesting (roll-MemberDeclarator node) ≡ nested_member_declarator (map-MemberDeclarator DeclaratorSuffix Direct Expr Prefix Suffix Enumerator Specifier Declarator Parameter Branch Next TypeName Member MemberDeclarator ℕ ℕ ℕ ℕ ℕ ℕ ℕ ℕ ℕ ℕ ℕ ℕ ℕ ℕ declarator_suffix_nesting direct_nesting expr_nesting prefix_nesting suffix_nesting enumerator_nesting specifier_nesting declarator_nesting parameter_nesting branch_nesting next_nesting type_name_nesting member_nesting member_declarator_nesting node)
unfolding declarator_suffix_nesting direct_nesting expr_nesting prefix_nesting suffix_nesting enumerator_nesting specifier_nesting declarator_nesting parameter_nesting branch_nesting next_nesting type_name_nesting member_nesting member_declarator_nesting
member_declarator_nesting-roll = fold-roll-MemberDeclarator ℕ ℕ ℕ ℕ ℕ ℕ ℕ ℕ ℕ ℕ ℕ ℕ ℕ ℕ nested_declarator_suffix nested_direct nested_expr nested_prefix nested_suffix nested_enumerator nested_specifier nested_declarator nested_parameter nested_branch nested_next nested_type_name nested_member nested_member_declarator

-- ---- one equation for each kind of node

pub declarator_suffix_nesting-Array : (from : Pos) (to : Pos) → declarator_suffix_nesting (declarator_suffix.Array from to) ≡ nested_declarator_suffix (DeclaratorSuffix-F.Array from to)
declarator_suffix_nesting-Array from to = ap declarator_suffix_nesting (sym (declarator_suffix.rolls-Array from to)) ∙ declarator_suffix_nesting-roll (DeclaratorSuffix-F.Array from to)

pub declarator_suffix_nesting-ArrayOf : (from : Pos) (size : Expr) (to : Pos) → declarator_suffix_nesting (declarator_suffix.ArrayOf from size to) ≡ nested_declarator_suffix (DeclaratorSuffix-F.ArrayOf from (expr_nesting size) to)
declarator_suffix_nesting-ArrayOf from size to = ap declarator_suffix_nesting (sym (declarator_suffix.rolls-ArrayOf from size to)) ∙ declarator_suffix_nesting-roll (DeclaratorSuffix-F.ArrayOf from size to)

pub declarator_suffix_nesting-Empty : (from : Pos) (to : Pos) → declarator_suffix_nesting (declarator_suffix.Empty from to) ≡ nested_declarator_suffix (DeclaratorSuffix-F.Empty from to)
declarator_suffix_nesting-Empty from to = ap declarator_suffix_nesting (sym (declarator_suffix.rolls-Empty from to)) ∙ declarator_suffix_nesting-roll (DeclaratorSuffix-F.Empty from to)

pub declarator_suffix_nesting-Void : (from : Pos) (at : Pos) (to : Pos) → declarator_suffix_nesting (declarator_suffix.Void from at to) ≡ nested_declarator_suffix (DeclaratorSuffix-F.Void from at to)
declarator_suffix_nesting-Void from at to = ap declarator_suffix_nesting (sym (declarator_suffix.rolls-Void from at to)) ∙ declarator_suffix_nesting-roll (DeclaratorSuffix-F.Void from at to)

pub declarator_suffix_nesting-Parameters : (from : Pos) (all : List Parameter) (to : Pos) → declarator_suffix_nesting (declarator_suffix.Parameters from all to) ≡ nested_declarator_suffix (DeclaratorSuffix-F.Parameters from (map parameter_nesting all) to)
declarator_suffix_nesting-Parameters from all to = ap declarator_suffix_nesting (sym (declarator_suffix.rolls-Parameters from all to)) ∙ declarator_suffix_nesting-roll (DeclaratorSuffix-F.Parameters from all to)

pub direct_nesting-Nothing : direct_nesting direct.Nothing ≡ nested_direct Direct-F.Nothing
direct_nesting-Nothing = ap direct_nesting (sym direct.rolls-Nothing) ∙ direct_nesting-roll Direct-F.Nothing

pub direct_nesting-Named : (name : Identifier) → direct_nesting (direct.Named name) ≡ nested_direct (Direct-F.Named name)
direct_nesting-Named name = ap direct_nesting (sym (direct.rolls-Named name)) ∙ direct_nesting-roll (Direct-F.Named name)

pub direct_nesting-Grouped : (from : Pos) (inner : Declarator) (to : Pos) → direct_nesting (direct.Grouped from inner to) ≡ nested_direct (Direct-F.Grouped from (declarator_nesting inner) to)
direct_nesting-Grouped from inner to = ap direct_nesting (sym (direct.rolls-Grouped from inner to)) ∙ direct_nesting-roll (Direct-F.Grouped from inner to)

pub expr_nesting-Name : (name : Identifier) → expr_nesting (expr.Name name) ≡ nested_expr (Expr-F.Name name)
expr_nesting-Name name = ap expr_nesting (sym (expr.rolls-Name name)) ∙ expr_nesting-roll (Expr-F.Name name)

pub expr_nesting-Number : (value : ℕ) (kind : IntKind) (at : Pos) → expr_nesting (expr.Number value kind at) ≡ nested_expr (Expr-F.Number value kind at)
expr_nesting-Number value kind at = ap expr_nesting (sym (expr.rolls-Number value kind at)) ∙ expr_nesting-roll (Expr-F.Number value kind at)

pub expr_nesting-Char : (value : ℕ) (at : Pos) → expr_nesting (expr.Char value at) ≡ nested_expr (Expr-F.Char value at)
expr_nesting-Char value at = ap expr_nesting (sym (expr.rolls-Char value at)) ∙ expr_nesting-roll (Expr-F.Char value at)

pub expr_nesting-Strings : (all : List Literal) → expr_nesting (expr.Strings all) ≡ nested_expr (Expr-F.Strings all)
expr_nesting-Strings all = ap expr_nesting (sym (expr.rolls-Strings all)) ∙ expr_nesting-roll (Expr-F.Strings all)

pub expr_nesting-Paren : (from : Pos) (inner : Expr) (to : Pos) → expr_nesting (expr.Paren from inner to) ≡ nested_expr (Expr-F.Paren from (expr_nesting inner) to)
expr_nesting-Paren from inner to = ap expr_nesting (sym (expr.rolls-Paren from inner to)) ∙ expr_nesting-roll (Expr-F.Paren from inner to)

pub expr_nesting-Postfix : (operand : Expr) (suffixes : List Suffix) → expr_nesting (expr.Postfix operand suffixes) ≡ nested_expr (Expr-F.Postfix (expr_nesting operand) (map suffix_nesting suffixes))
expr_nesting-Postfix operand suffixes = ap expr_nesting (sym (expr.rolls-Postfix operand suffixes)) ∙ expr_nesting-roll (Expr-F.Postfix operand suffixes)

pub expr_nesting-SizeofType : (at : Pos) (from : Pos) (type : TypeName) (to : Pos) → expr_nesting (expr.SizeofType at from type to) ≡ nested_expr (Expr-F.SizeofType at from (type_name_nesting type) to)
expr_nesting-SizeofType at from type to = ap expr_nesting (sym (expr.rolls-SizeofType at from type to)) ∙ expr_nesting-roll (Expr-F.SizeofType at from type to)

pub expr_nesting-Prefixed : (run : List Prefix) (operand : Expr) → expr_nesting (expr.Prefixed run operand) ≡ nested_expr (Expr-F.Prefixed (map prefix_nesting run) (expr_nesting operand))
expr_nesting-Prefixed run operand = ap expr_nesting (sym (expr.rolls-Prefixed run operand)) ∙ expr_nesting-roll (Expr-F.Prefixed run operand)

pub expr_nesting-Binary : (level : Level) (first : Expr) (rest : List Next) → expr_nesting (expr.Binary level first rest) ≡ nested_expr (Expr-F.Binary level (expr_nesting first) (map next_nesting rest))
expr_nesting-Binary level first rest = ap expr_nesting (sym (expr.rolls-Binary level first rest)) ∙ expr_nesting-roll (Expr-F.Binary level first rest)

pub expr_nesting-Conditional : (first : Expr) (rest : List Branch) → expr_nesting (expr.Conditional first rest) ≡ nested_expr (Expr-F.Conditional (expr_nesting first) (map branch_nesting rest))
expr_nesting-Conditional first rest = ap expr_nesting (sym (expr.rolls-Conditional first rest)) ∙ expr_nesting-roll (Expr-F.Conditional first rest)

pub expr_nesting-Assign : (first : Expr) (rest : List Next) → expr_nesting (expr.Assign first rest) ≡ nested_expr (Expr-F.Assign (expr_nesting first) (map next_nesting rest))
expr_nesting-Assign first rest = ap expr_nesting (sym (expr.rolls-Assign first rest)) ∙ expr_nesting-roll (Expr-F.Assign first rest)

pub expr_nesting-Comma : (first : Expr) (rest : List Next) → expr_nesting (expr.Comma first rest) ≡ nested_expr (Expr-F.Comma (expr_nesting first) (map next_nesting rest))
expr_nesting-Comma first rest = ap expr_nesting (sym (expr.rolls-Comma first rest)) ∙ expr_nesting-roll (Expr-F.Comma first rest)

pub prefix_nesting-Operator : (mark : Mark) → prefix_nesting (prefix.Operator mark) ≡ nested_prefix (Prefix-F.Operator mark)
prefix_nesting-Operator mark = ap prefix_nesting (sym (prefix.rolls-Operator mark)) ∙ prefix_nesting-roll (Prefix-F.Operator mark)

pub prefix_nesting-Sizeof : (at : Pos) → prefix_nesting (prefix.Sizeof at) ≡ nested_prefix (Prefix-F.Sizeof at)
prefix_nesting-Sizeof at = ap prefix_nesting (sym (prefix.rolls-Sizeof at)) ∙ prefix_nesting-roll (Prefix-F.Sizeof at)

pub prefix_nesting-Cast : (from : Pos) (type : TypeName) (to : Pos) → prefix_nesting (prefix.Cast from type to) ≡ nested_prefix (Prefix-F.Cast from (type_name_nesting type) to)
prefix_nesting-Cast from type to = ap prefix_nesting (sym (prefix.rolls-Cast from type to)) ∙ prefix_nesting-roll (Prefix-F.Cast from type to)

pub suffix_nesting-Index : (from : Pos) (inner : Expr) (to : Pos) → suffix_nesting (suffix.Index from inner to) ≡ nested_suffix (Suffix-F.Index from (expr_nesting inner) to)
suffix_nesting-Index from inner to = ap suffix_nesting (sym (suffix.rolls-Index from inner to)) ∙ suffix_nesting-roll (Suffix-F.Index from inner to)

pub suffix_nesting-Call : (from : Pos) (to : Pos) → suffix_nesting (suffix.Call from to) ≡ nested_suffix (Suffix-F.Call from to)
suffix_nesting-Call from to = ap suffix_nesting (sym (suffix.rolls-Call from to)) ∙ suffix_nesting-roll (Suffix-F.Call from to)

pub suffix_nesting-CallWith : (from : Pos) (first : Expr) (rest : List Next) (to : Pos) → suffix_nesting (suffix.CallWith from first rest to) ≡ nested_suffix (Suffix-F.CallWith from (expr_nesting first) (map next_nesting rest) to)
suffix_nesting-CallWith from first rest to = ap suffix_nesting (sym (suffix.rolls-CallWith from first rest to)) ∙ suffix_nesting-roll (Suffix-F.CallWith from first rest to)

pub suffix_nesting-Member : (at : Pos) (name : Identifier) → suffix_nesting (suffix.Member at name) ≡ nested_suffix (Suffix-F.Member at name)
suffix_nesting-Member at name = ap suffix_nesting (sym (suffix.rolls-Member at name)) ∙ suffix_nesting-roll (Suffix-F.Member at name)

pub suffix_nesting-Arrow : (at : Pos) (name : Identifier) → suffix_nesting (suffix.Arrow at name) ≡ nested_suffix (Suffix-F.Arrow at name)
suffix_nesting-Arrow at name = ap suffix_nesting (sym (suffix.rolls-Arrow at name)) ∙ suffix_nesting-roll (Suffix-F.Arrow at name)

pub suffix_nesting-Increment : (at : Pos) → suffix_nesting (suffix.Increment at) ≡ nested_suffix (Suffix-F.Increment at)
suffix_nesting-Increment at = ap suffix_nesting (sym (suffix.rolls-Increment at)) ∙ suffix_nesting-roll (Suffix-F.Increment at)

pub suffix_nesting-Decrement : (at : Pos) → suffix_nesting (suffix.Decrement at) ≡ nested_suffix (Suffix-F.Decrement at)
suffix_nesting-Decrement at = ap suffix_nesting (sym (suffix.rolls-Decrement at)) ∙ suffix_nesting-roll (Suffix-F.Decrement at)

pub enumerator_nesting-Plain : (comma : Option Pos) (name : Identifier) → enumerator_nesting (enumerator.Plain comma name) ≡ nested_enumerator (Enumerator-F.Plain comma name)
enumerator_nesting-Plain comma name = ap enumerator_nesting (sym (enumerator.rolls-Plain comma name)) ∙ enumerator_nesting-roll (Enumerator-F.Plain comma name)

pub enumerator_nesting-Valued : (comma : Option Pos) (name : Identifier) (equals : Pos) (value : Expr) → enumerator_nesting (enumerator.Valued comma name equals value) ≡ nested_enumerator (Enumerator-F.Valued comma name equals (expr_nesting value))
enumerator_nesting-Valued comma name equals value = ap enumerator_nesting (sym (enumerator.rolls-Valued comma name equals value)) ∙ enumerator_nesting-roll (Enumerator-F.Valued comma name equals value)

pub specifier_nesting-Storage : (storage : Storage) (at : Pos) → specifier_nesting (specifier.Storage storage at) ≡ nested_specifier (Specifier-F.Storage storage at)
specifier_nesting-Storage storage at = ap specifier_nesting (sym (specifier.rolls-Storage storage at)) ∙ specifier_nesting-roll (Specifier-F.Storage storage at)

pub specifier_nesting-Const : (at : Pos) → specifier_nesting (specifier.Const at) ≡ nested_specifier (Specifier-F.Const at)
specifier_nesting-Const at = ap specifier_nesting (sym (specifier.rolls-Const at)) ∙ specifier_nesting-roll (Specifier-F.Const at)

pub specifier_nesting-Word : (word : TypeWord) (at : Pos) → specifier_nesting (specifier.Word word at) ≡ nested_specifier (Specifier-F.Word word at)
specifier_nesting-Word word at = ap specifier_nesting (sym (specifier.rolls-Word word at)) ∙ specifier_nesting-roll (Specifier-F.Word word at)

pub specifier_nesting-StructTag : (at : Pos) (tag : Identifier) → specifier_nesting (specifier.StructTag at tag) ≡ nested_specifier (Specifier-F.StructTag at tag)
specifier_nesting-StructTag at tag = ap specifier_nesting (sym (specifier.rolls-StructTag at tag)) ∙ specifier_nesting-roll (Specifier-F.StructTag at tag)

pub specifier_nesting-Struct : (at : Pos) (tag : Option Identifier) (from : Pos) (members : List Member) (to : Pos) → specifier_nesting (specifier.Struct at tag from members to) ≡ nested_specifier (Specifier-F.Struct at tag from (map member_nesting members) to)
specifier_nesting-Struct at tag from members to = ap specifier_nesting (sym (specifier.rolls-Struct at tag from members to)) ∙ specifier_nesting-roll (Specifier-F.Struct at tag from members to)

pub specifier_nesting-EnumTag : (at : Pos) (tag : Identifier) → specifier_nesting (specifier.EnumTag at tag) ≡ nested_specifier (Specifier-F.EnumTag at tag)
specifier_nesting-EnumTag at tag = ap specifier_nesting (sym (specifier.rolls-EnumTag at tag)) ∙ specifier_nesting-roll (Specifier-F.EnumTag at tag)

pub specifier_nesting-Enum : (at : Pos) (tag : Option Identifier) (from : Pos) (enumerators : List Enumerator) (comma : Option Pos) (to : Pos) → specifier_nesting (specifier.Enum at tag from enumerators comma to) ≡ nested_specifier (Specifier-F.Enum at tag from (map enumerator_nesting enumerators) comma to)
specifier_nesting-Enum at tag from enumerators comma to = ap specifier_nesting (sym (specifier.rolls-Enum at tag from enumerators comma to)) ∙ specifier_nesting-roll (Specifier-F.Enum at tag from enumerators comma to)

pub specifier_nesting-TypedefName : (name : Identifier) → specifier_nesting (specifier.TypedefName name) ≡ nested_specifier (Specifier-F.TypedefName name)
specifier_nesting-TypedefName name = ap specifier_nesting (sym (specifier.rolls-TypedefName name)) ∙ specifier_nesting-roll (Specifier-F.TypedefName name)

pub declarator_nesting-is : (node : Declarator) → declarator_nesting node ≡ nested_declarator (record { pointers = (out-Declarator node).pointers; direct = direct_nesting (out-Declarator node).direct; suffixes = map declarator_suffix_nesting (out-Declarator node).suffixes })
declarator_nesting-is node = ap declarator_nesting (sym (roll-out-Declarator node)) ∙ declarator_nesting-roll (out-Declarator node)

pub parameter_nesting-is : (node : Parameter) → parameter_nesting node ≡ nested_parameter (record { comma = (out-Parameter node).comma; specifiers = map specifier_nesting (out-Parameter node).specifiers; declarator = declarator_nesting (out-Parameter node).declarator })
parameter_nesting-is node = ap parameter_nesting (sym (roll-out-Parameter node)) ∙ parameter_nesting-roll (out-Parameter node)

pub branch_nesting-is : (node : Branch) → branch_nesting node ≡ nested_branch (record { question = (out-Branch node).question; gives = expr_nesting (out-Branch node).gives; colon = (out-Branch node).colon; operand = expr_nesting (out-Branch node).operand })
branch_nesting-is node = ap branch_nesting (sym (roll-out-Branch node)) ∙ branch_nesting-roll (out-Branch node)

pub next_nesting-is : (node : Next) → next_nesting node ≡ nested_next (record { operator = (out-Next node).operator; operand = expr_nesting (out-Next node).operand })
next_nesting-is node = ap next_nesting (sym (roll-out-Next node)) ∙ next_nesting-roll (out-Next node)

pub type_name_nesting-is : (node : TypeName) → type_name_nesting node ≡ nested_type_name (record { specifiers = map specifier_nesting (out-TypeName node).specifiers; declarator = declarator_nesting (out-TypeName node).declarator })
type_name_nesting-is node = ap type_name_nesting (sym (roll-out-TypeName node)) ∙ type_name_nesting-roll (out-TypeName node)

pub member_nesting-is : (node : Member) → member_nesting node ≡ nested_member (record { specifiers = map specifier_nesting (out-Member node).specifiers; declarators = map member_declarator_nesting (out-Member node).declarators; semicolon = (out-Member node).semicolon })
member_nesting-is node = ap member_nesting (sym (roll-out-Member node)) ∙ member_nesting-roll (out-Member node)

pub member_declarator_nesting-is : (node : MemberDeclarator) → member_declarator_nesting node ≡ nested_member_declarator (record { comma = (out-MemberDeclarator node).comma; declarator = declarator_nesting (out-MemberDeclarator node).declarator })
member_declarator_nesting-is node = ap member_declarator_nesting (sym (roll-out-MemberDeclarator node)) ∙ member_declarator_nesting-roll (out-MemberDeclarator node)
