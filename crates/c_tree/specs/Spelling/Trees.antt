-- Written by tools/tree_equations.py.
-- The fold whose steps stand in Spelling.OfTrees, and one equation for each kind of node.
use Rattle.std.specs.Prelude.{◌≡◌, ℕ, List, Option, map}
use Rattle.std.proofs.Common.{ap, sym, ◌∙◌}
use Rattle.c_tree.specs.declared.expression.Identifier.{Identifier}
use Rattle.c_tree.specs.declared.token.IntKind.{IntKind}
use Rattle.c_tree.specs.declared.expression.Level.{Level}
use Rattle.c_tree.specs.declared.expression.Literal.{Literal}
use Rattle.c_tree.specs.declared.expression.Mark.{Mark}
use Rattle.c_tree.specs.declared.token.Pos.{Pos}
use Rattle.c_tree.specs.declared.specifier.Storage.{Storage}
use Rattle.c_tree.specs.declared.specifier.TypeWord.{TypeWord}
use Rattle.c_tree.specs.declared.declarator.DeclaratorSuffix.{DeclaratorSuffix, roll-DeclaratorSuffix}
use Rattle.c_tree.specs.declared.declarator.DeclaratorSuffix.TheVariants as declarator_suffix
use Rattle.c_tree.specs.declared.declarator.Direct.{Direct, roll-Direct}
use Rattle.c_tree.specs.declared.declarator.Direct.TheVariants as direct
use Rattle.c_tree.specs.declared.expression.Expr.{Expr, roll-Expr}
use Rattle.c_tree.specs.declared.expression.Expr.TheVariants as expr
use Rattle.c_tree.specs.declared.expression.Prefix.{Prefix, roll-Prefix}
use Rattle.c_tree.specs.declared.expression.Prefix.TheVariants as prefix
use Rattle.c_tree.specs.declared.expression.Suffix.{Suffix, roll-Suffix}
use Rattle.c_tree.specs.declared.expression.Suffix.TheVariants as suffix
use Rattle.c_tree.specs.declared.specifier.Enumerator.{Enumerator, roll-Enumerator}
use Rattle.c_tree.specs.declared.specifier.Enumerator.TheVariants as enumerator
use Rattle.c_tree.specs.declared.specifier.Specifier.{Specifier, roll-Specifier}
use Rattle.c_tree.specs.declared.specifier.Specifier.TheVariants as specifier
use Rattle.c_tree.specs.declared.declarator.Declarator.{Declarator, out-Declarator, roll-Declarator, roll-out-Declarator}
use Rattle.c_tree.specs.declared.declarator.Parameter.{Parameter, out-Parameter, roll-Parameter, roll-out-Parameter}
use Rattle.c_tree.specs.declared.expression.Branch.{Branch, out-Branch, roll-Branch, roll-out-Branch}
use Rattle.c_tree.specs.declared.expression.Next.{Next, out-Next, roll-Next, roll-out-Next}
use Rattle.c_tree.specs.declared.expression.TypeName.{TypeName, out-TypeName, roll-TypeName, roll-out-TypeName}
use Rattle.c_tree.specs.declared.specifier.Member.{Member, out-Member, roll-Member, roll-out-Member}
use Rattle.c_tree.specs.declared.specifier.MemberDeclarator.{MemberDeclarator, out-MemberDeclarator, roll-MemberDeclarator, roll-out-MemberDeclarator}
use Rattle.c_tree.specs.declared.declarator.DeclaratorSuffix.TheOpen.{DeclaratorSuffix-F, Direct-F, Expr-F, Prefix-F, Suffix-F, Enumerator-F, Specifier-F}
use Rattle.c_tree.specs.Layers.{DeclaratorSuffixLayer, DirectLayer, ExprLayer, PrefixLayer, SuffixLayer, EnumeratorLayer, SpecifierLayer, DeclaratorLayer, ParameterLayer, BranchLayer, NextLayer, TypeNameLayer, MemberLayer, MemberDeclaratorLayer}
use Rattle.c_tree.specs.declared.declarator.DeclaratorSuffix.TheFolds.{fold-DeclaratorSuffix, fold-roll-DeclaratorSuffix, map-DeclaratorSuffix, fold-Direct, fold-roll-Direct, map-Direct, fold-Expr, fold-roll-Expr, map-Expr, fold-Prefix, fold-roll-Prefix, map-Prefix, fold-Suffix, fold-roll-Suffix, map-Suffix, fold-Enumerator, fold-roll-Enumerator, map-Enumerator, fold-Specifier, fold-roll-Specifier, map-Specifier, fold-Declarator, fold-roll-Declarator, map-Declarator, fold-Parameter, fold-roll-Parameter, map-Parameter, fold-Branch, fold-roll-Branch, map-Branch, fold-Next, fold-roll-Next, map-Next, fold-TypeName, fold-roll-TypeName, map-TypeName, fold-Member, fold-roll-Member, map-Member, fold-MemberDeclarator, fold-roll-MemberDeclarator, map-MemberDeclarator}
use Rattle.c_tree.specs.Spelling.OfTrees.{spelled_declarator_suffix, spelled_direct, spelled_expr, spelled_prefix, spelled_suffix, spelled_enumerator, spelled_specifier, spelled_declarator, spelled_parameter, spelled_branch, spelled_next, spelled_type_name, spelled_member, spelled_member_declarator}
use Rattle.c_tree.specs.Spelling.Tokens.{Spelling}

unfoldable pub declarator_suffix_spelling : DeclaratorSuffix → Spelling
declarator_suffix_spelling = fold-DeclaratorSuffix Spelling Spelling Spelling Spelling Spelling Spelling Spelling Spelling Spelling Spelling Spelling Spelling Spelling Spelling spelled_declarator_suffix spelled_direct spelled_expr spelled_prefix spelled_suffix spelled_enumerator spelled_specifier spelled_declarator spelled_parameter spelled_branch spelled_next spelled_type_name spelled_member spelled_member_declarator

unfoldable pub direct_spelling : Direct → Spelling
direct_spelling = fold-Direct Spelling Spelling Spelling Spelling Spelling Spelling Spelling Spelling Spelling Spelling Spelling Spelling Spelling Spelling spelled_declarator_suffix spelled_direct spelled_expr spelled_prefix spelled_suffix spelled_enumerator spelled_specifier spelled_declarator spelled_parameter spelled_branch spelled_next spelled_type_name spelled_member spelled_member_declarator

unfoldable pub expr_spelling : Expr → Spelling
expr_spelling = fold-Expr Spelling Spelling Spelling Spelling Spelling Spelling Spelling Spelling Spelling Spelling Spelling Spelling Spelling Spelling spelled_declarator_suffix spelled_direct spelled_expr spelled_prefix spelled_suffix spelled_enumerator spelled_specifier spelled_declarator spelled_parameter spelled_branch spelled_next spelled_type_name spelled_member spelled_member_declarator

unfoldable pub prefix_spelling : Prefix → Spelling
prefix_spelling = fold-Prefix Spelling Spelling Spelling Spelling Spelling Spelling Spelling Spelling Spelling Spelling Spelling Spelling Spelling Spelling spelled_declarator_suffix spelled_direct spelled_expr spelled_prefix spelled_suffix spelled_enumerator spelled_specifier spelled_declarator spelled_parameter spelled_branch spelled_next spelled_type_name spelled_member spelled_member_declarator

unfoldable pub suffix_spelling : Suffix → Spelling
suffix_spelling = fold-Suffix Spelling Spelling Spelling Spelling Spelling Spelling Spelling Spelling Spelling Spelling Spelling Spelling Spelling Spelling spelled_declarator_suffix spelled_direct spelled_expr spelled_prefix spelled_suffix spelled_enumerator spelled_specifier spelled_declarator spelled_parameter spelled_branch spelled_next spelled_type_name spelled_member spelled_member_declarator

unfoldable pub enumerator_spelling : Enumerator → Spelling
enumerator_spelling = fold-Enumerator Spelling Spelling Spelling Spelling Spelling Spelling Spelling Spelling Spelling Spelling Spelling Spelling Spelling Spelling spelled_declarator_suffix spelled_direct spelled_expr spelled_prefix spelled_suffix spelled_enumerator spelled_specifier spelled_declarator spelled_parameter spelled_branch spelled_next spelled_type_name spelled_member spelled_member_declarator

unfoldable pub specifier_spelling : Specifier → Spelling
specifier_spelling = fold-Specifier Spelling Spelling Spelling Spelling Spelling Spelling Spelling Spelling Spelling Spelling Spelling Spelling Spelling Spelling spelled_declarator_suffix spelled_direct spelled_expr spelled_prefix spelled_suffix spelled_enumerator spelled_specifier spelled_declarator spelled_parameter spelled_branch spelled_next spelled_type_name spelled_member spelled_member_declarator

unfoldable pub declarator_spelling : Declarator → Spelling
declarator_spelling = fold-Declarator Spelling Spelling Spelling Spelling Spelling Spelling Spelling Spelling Spelling Spelling Spelling Spelling Spelling Spelling spelled_declarator_suffix spelled_direct spelled_expr spelled_prefix spelled_suffix spelled_enumerator spelled_specifier spelled_declarator spelled_parameter spelled_branch spelled_next spelled_type_name spelled_member spelled_member_declarator

unfoldable pub parameter_spelling : Parameter → Spelling
parameter_spelling = fold-Parameter Spelling Spelling Spelling Spelling Spelling Spelling Spelling Spelling Spelling Spelling Spelling Spelling Spelling Spelling spelled_declarator_suffix spelled_direct spelled_expr spelled_prefix spelled_suffix spelled_enumerator spelled_specifier spelled_declarator spelled_parameter spelled_branch spelled_next spelled_type_name spelled_member spelled_member_declarator

unfoldable pub branch_spelling : Branch → Spelling
branch_spelling = fold-Branch Spelling Spelling Spelling Spelling Spelling Spelling Spelling Spelling Spelling Spelling Spelling Spelling Spelling Spelling spelled_declarator_suffix spelled_direct spelled_expr spelled_prefix spelled_suffix spelled_enumerator spelled_specifier spelled_declarator spelled_parameter spelled_branch spelled_next spelled_type_name spelled_member spelled_member_declarator

unfoldable pub next_spelling : Next → Spelling
next_spelling = fold-Next Spelling Spelling Spelling Spelling Spelling Spelling Spelling Spelling Spelling Spelling Spelling Spelling Spelling Spelling spelled_declarator_suffix spelled_direct spelled_expr spelled_prefix spelled_suffix spelled_enumerator spelled_specifier spelled_declarator spelled_parameter spelled_branch spelled_next spelled_type_name spelled_member spelled_member_declarator

unfoldable pub type_name_spelling : TypeName → Spelling
type_name_spelling = fold-TypeName Spelling Spelling Spelling Spelling Spelling Spelling Spelling Spelling Spelling Spelling Spelling Spelling Spelling Spelling spelled_declarator_suffix spelled_direct spelled_expr spelled_prefix spelled_suffix spelled_enumerator spelled_specifier spelled_declarator spelled_parameter spelled_branch spelled_next spelled_type_name spelled_member spelled_member_declarator

unfoldable pub member_spelling : Member → Spelling
member_spelling = fold-Member Spelling Spelling Spelling Spelling Spelling Spelling Spelling Spelling Spelling Spelling Spelling Spelling Spelling Spelling spelled_declarator_suffix spelled_direct spelled_expr spelled_prefix spelled_suffix spelled_enumerator spelled_specifier spelled_declarator spelled_parameter spelled_branch spelled_next spelled_type_name spelled_member spelled_member_declarator

unfoldable pub member_declarator_spelling : MemberDeclarator → Spelling
member_declarator_spelling = fold-MemberDeclarator Spelling Spelling Spelling Spelling Spelling Spelling Spelling Spelling Spelling Spelling Spelling Spelling Spelling Spelling spelled_declarator_suffix spelled_direct spelled_expr spelled_prefix spelled_suffix spelled_enumerator spelled_specifier spelled_declarator spelled_parameter spelled_branch spelled_next spelled_type_name spelled_member spelled_member_declarator

-- ---- what a fold tells of one node

pub declarator_suffix_spelling-roll : (node : DeclaratorSuffixLayer) → declarator_suffix_spelling (roll-DeclaratorSuffix node) ≡ spelled_declarator_suffix (map-DeclaratorSuffix DeclaratorSuffix Direct Expr Prefix Suffix Enumerator Specifier Declarator Parameter Branch Next TypeName Member MemberDeclarator Spelling Spelling Spelling Spelling Spelling Spelling Spelling Spelling Spelling Spelling Spelling Spelling Spelling Spelling declarator_suffix_spelling direct_spelling expr_spelling prefix_spelling suffix_spelling enumerator_spelling specifier_spelling declarator_spelling parameter_spelling branch_spelling next_spelling type_name_spelling member_spelling member_declarator_spelling node)
unfolding declarator_suffix_spelling direct_spelling expr_spelling prefix_spelling suffix_spelling enumerator_spelling specifier_spelling declarator_spelling parameter_spelling branch_spelling next_spelling type_name_spelling member_spelling member_declarator_spelling
declarator_suffix_spelling-roll = fold-roll-DeclaratorSuffix Spelling Spelling Spelling Spelling Spelling Spelling Spelling Spelling Spelling Spelling Spelling Spelling Spelling Spelling spelled_declarator_suffix spelled_direct spelled_expr spelled_prefix spelled_suffix spelled_enumerator spelled_specifier spelled_declarator spelled_parameter spelled_branch spelled_next spelled_type_name spelled_member spelled_member_declarator

pub direct_spelling-roll : (node : DirectLayer) → direct_spelling (roll-Direct node) ≡ spelled_direct (map-Direct DeclaratorSuffix Direct Expr Prefix Suffix Enumerator Specifier Declarator Parameter Branch Next TypeName Member MemberDeclarator Spelling Spelling Spelling Spelling Spelling Spelling Spelling Spelling Spelling Spelling Spelling Spelling Spelling Spelling declarator_suffix_spelling direct_spelling expr_spelling prefix_spelling suffix_spelling enumerator_spelling specifier_spelling declarator_spelling parameter_spelling branch_spelling next_spelling type_name_spelling member_spelling member_declarator_spelling node)
unfolding declarator_suffix_spelling direct_spelling expr_spelling prefix_spelling suffix_spelling enumerator_spelling specifier_spelling declarator_spelling parameter_spelling branch_spelling next_spelling type_name_spelling member_spelling member_declarator_spelling
direct_spelling-roll = fold-roll-Direct Spelling Spelling Spelling Spelling Spelling Spelling Spelling Spelling Spelling Spelling Spelling Spelling Spelling Spelling spelled_declarator_suffix spelled_direct spelled_expr spelled_prefix spelled_suffix spelled_enumerator spelled_specifier spelled_declarator spelled_parameter spelled_branch spelled_next spelled_type_name spelled_member spelled_member_declarator

pub expr_spelling-roll : (node : ExprLayer) → expr_spelling (roll-Expr node) ≡ spelled_expr (map-Expr DeclaratorSuffix Direct Expr Prefix Suffix Enumerator Specifier Declarator Parameter Branch Next TypeName Member MemberDeclarator Spelling Spelling Spelling Spelling Spelling Spelling Spelling Spelling Spelling Spelling Spelling Spelling Spelling Spelling declarator_suffix_spelling direct_spelling expr_spelling prefix_spelling suffix_spelling enumerator_spelling specifier_spelling declarator_spelling parameter_spelling branch_spelling next_spelling type_name_spelling member_spelling member_declarator_spelling node)
unfolding declarator_suffix_spelling direct_spelling expr_spelling prefix_spelling suffix_spelling enumerator_spelling specifier_spelling declarator_spelling parameter_spelling branch_spelling next_spelling type_name_spelling member_spelling member_declarator_spelling
expr_spelling-roll = fold-roll-Expr Spelling Spelling Spelling Spelling Spelling Spelling Spelling Spelling Spelling Spelling Spelling Spelling Spelling Spelling spelled_declarator_suffix spelled_direct spelled_expr spelled_prefix spelled_suffix spelled_enumerator spelled_specifier spelled_declarator spelled_parameter spelled_branch spelled_next spelled_type_name spelled_member spelled_member_declarator

pub prefix_spelling-roll : (node : PrefixLayer) → prefix_spelling (roll-Prefix node) ≡ spelled_prefix (map-Prefix DeclaratorSuffix Direct Expr Prefix Suffix Enumerator Specifier Declarator Parameter Branch Next TypeName Member MemberDeclarator Spelling Spelling Spelling Spelling Spelling Spelling Spelling Spelling Spelling Spelling Spelling Spelling Spelling Spelling declarator_suffix_spelling direct_spelling expr_spelling prefix_spelling suffix_spelling enumerator_spelling specifier_spelling declarator_spelling parameter_spelling branch_spelling next_spelling type_name_spelling member_spelling member_declarator_spelling node)
unfolding declarator_suffix_spelling direct_spelling expr_spelling prefix_spelling suffix_spelling enumerator_spelling specifier_spelling declarator_spelling parameter_spelling branch_spelling next_spelling type_name_spelling member_spelling member_declarator_spelling
prefix_spelling-roll = fold-roll-Prefix Spelling Spelling Spelling Spelling Spelling Spelling Spelling Spelling Spelling Spelling Spelling Spelling Spelling Spelling spelled_declarator_suffix spelled_direct spelled_expr spelled_prefix spelled_suffix spelled_enumerator spelled_specifier spelled_declarator spelled_parameter spelled_branch spelled_next spelled_type_name spelled_member spelled_member_declarator

pub suffix_spelling-roll : (node : SuffixLayer) → suffix_spelling (roll-Suffix node) ≡ spelled_suffix (map-Suffix DeclaratorSuffix Direct Expr Prefix Suffix Enumerator Specifier Declarator Parameter Branch Next TypeName Member MemberDeclarator Spelling Spelling Spelling Spelling Spelling Spelling Spelling Spelling Spelling Spelling Spelling Spelling Spelling Spelling declarator_suffix_spelling direct_spelling expr_spelling prefix_spelling suffix_spelling enumerator_spelling specifier_spelling declarator_spelling parameter_spelling branch_spelling next_spelling type_name_spelling member_spelling member_declarator_spelling node)
unfolding declarator_suffix_spelling direct_spelling expr_spelling prefix_spelling suffix_spelling enumerator_spelling specifier_spelling declarator_spelling parameter_spelling branch_spelling next_spelling type_name_spelling member_spelling member_declarator_spelling
suffix_spelling-roll = fold-roll-Suffix Spelling Spelling Spelling Spelling Spelling Spelling Spelling Spelling Spelling Spelling Spelling Spelling Spelling Spelling spelled_declarator_suffix spelled_direct spelled_expr spelled_prefix spelled_suffix spelled_enumerator spelled_specifier spelled_declarator spelled_parameter spelled_branch spelled_next spelled_type_name spelled_member spelled_member_declarator

pub enumerator_spelling-roll : (node : EnumeratorLayer) → enumerator_spelling (roll-Enumerator node) ≡ spelled_enumerator (map-Enumerator DeclaratorSuffix Direct Expr Prefix Suffix Enumerator Specifier Declarator Parameter Branch Next TypeName Member MemberDeclarator Spelling Spelling Spelling Spelling Spelling Spelling Spelling Spelling Spelling Spelling Spelling Spelling Spelling Spelling declarator_suffix_spelling direct_spelling expr_spelling prefix_spelling suffix_spelling enumerator_spelling specifier_spelling declarator_spelling parameter_spelling branch_spelling next_spelling type_name_spelling member_spelling member_declarator_spelling node)
unfolding declarator_suffix_spelling direct_spelling expr_spelling prefix_spelling suffix_spelling enumerator_spelling specifier_spelling declarator_spelling parameter_spelling branch_spelling next_spelling type_name_spelling member_spelling member_declarator_spelling
enumerator_spelling-roll = fold-roll-Enumerator Spelling Spelling Spelling Spelling Spelling Spelling Spelling Spelling Spelling Spelling Spelling Spelling Spelling Spelling spelled_declarator_suffix spelled_direct spelled_expr spelled_prefix spelled_suffix spelled_enumerator spelled_specifier spelled_declarator spelled_parameter spelled_branch spelled_next spelled_type_name spelled_member spelled_member_declarator

pub specifier_spelling-roll : (node : SpecifierLayer) → specifier_spelling (roll-Specifier node) ≡ spelled_specifier (map-Specifier DeclaratorSuffix Direct Expr Prefix Suffix Enumerator Specifier Declarator Parameter Branch Next TypeName Member MemberDeclarator Spelling Spelling Spelling Spelling Spelling Spelling Spelling Spelling Spelling Spelling Spelling Spelling Spelling Spelling declarator_suffix_spelling direct_spelling expr_spelling prefix_spelling suffix_spelling enumerator_spelling specifier_spelling declarator_spelling parameter_spelling branch_spelling next_spelling type_name_spelling member_spelling member_declarator_spelling node)
unfolding declarator_suffix_spelling direct_spelling expr_spelling prefix_spelling suffix_spelling enumerator_spelling specifier_spelling declarator_spelling parameter_spelling branch_spelling next_spelling type_name_spelling member_spelling member_declarator_spelling
specifier_spelling-roll = fold-roll-Specifier Spelling Spelling Spelling Spelling Spelling Spelling Spelling Spelling Spelling Spelling Spelling Spelling Spelling Spelling spelled_declarator_suffix spelled_direct spelled_expr spelled_prefix spelled_suffix spelled_enumerator spelled_specifier spelled_declarator spelled_parameter spelled_branch spelled_next spelled_type_name spelled_member spelled_member_declarator

pub declarator_spelling-roll : (node : DeclaratorLayer) → declarator_spelling (roll-Declarator node) ≡ spelled_declarator (map-Declarator DeclaratorSuffix Direct Expr Prefix Suffix Enumerator Specifier Declarator Parameter Branch Next TypeName Member MemberDeclarator Spelling Spelling Spelling Spelling Spelling Spelling Spelling Spelling Spelling Spelling Spelling Spelling Spelling Spelling declarator_suffix_spelling direct_spelling expr_spelling prefix_spelling suffix_spelling enumerator_spelling specifier_spelling declarator_spelling parameter_spelling branch_spelling next_spelling type_name_spelling member_spelling member_declarator_spelling node)
unfolding declarator_suffix_spelling direct_spelling expr_spelling prefix_spelling suffix_spelling enumerator_spelling specifier_spelling declarator_spelling parameter_spelling branch_spelling next_spelling type_name_spelling member_spelling member_declarator_spelling
declarator_spelling-roll = fold-roll-Declarator Spelling Spelling Spelling Spelling Spelling Spelling Spelling Spelling Spelling Spelling Spelling Spelling Spelling Spelling spelled_declarator_suffix spelled_direct spelled_expr spelled_prefix spelled_suffix spelled_enumerator spelled_specifier spelled_declarator spelled_parameter spelled_branch spelled_next spelled_type_name spelled_member spelled_member_declarator

pub parameter_spelling-roll : (node : ParameterLayer) → parameter_spelling (roll-Parameter node) ≡ spelled_parameter (map-Parameter DeclaratorSuffix Direct Expr Prefix Suffix Enumerator Specifier Declarator Parameter Branch Next TypeName Member MemberDeclarator Spelling Spelling Spelling Spelling Spelling Spelling Spelling Spelling Spelling Spelling Spelling Spelling Spelling Spelling declarator_suffix_spelling direct_spelling expr_spelling prefix_spelling suffix_spelling enumerator_spelling specifier_spelling declarator_spelling parameter_spelling branch_spelling next_spelling type_name_spelling member_spelling member_declarator_spelling node)
unfolding declarator_suffix_spelling direct_spelling expr_spelling prefix_spelling suffix_spelling enumerator_spelling specifier_spelling declarator_spelling parameter_spelling branch_spelling next_spelling type_name_spelling member_spelling member_declarator_spelling
parameter_spelling-roll = fold-roll-Parameter Spelling Spelling Spelling Spelling Spelling Spelling Spelling Spelling Spelling Spelling Spelling Spelling Spelling Spelling spelled_declarator_suffix spelled_direct spelled_expr spelled_prefix spelled_suffix spelled_enumerator spelled_specifier spelled_declarator spelled_parameter spelled_branch spelled_next spelled_type_name spelled_member spelled_member_declarator

pub branch_spelling-roll : (node : BranchLayer) → branch_spelling (roll-Branch node) ≡ spelled_branch (map-Branch DeclaratorSuffix Direct Expr Prefix Suffix Enumerator Specifier Declarator Parameter Branch Next TypeName Member MemberDeclarator Spelling Spelling Spelling Spelling Spelling Spelling Spelling Spelling Spelling Spelling Spelling Spelling Spelling Spelling declarator_suffix_spelling direct_spelling expr_spelling prefix_spelling suffix_spelling enumerator_spelling specifier_spelling declarator_spelling parameter_spelling branch_spelling next_spelling type_name_spelling member_spelling member_declarator_spelling node)
unfolding declarator_suffix_spelling direct_spelling expr_spelling prefix_spelling suffix_spelling enumerator_spelling specifier_spelling declarator_spelling parameter_spelling branch_spelling next_spelling type_name_spelling member_spelling member_declarator_spelling
branch_spelling-roll = fold-roll-Branch Spelling Spelling Spelling Spelling Spelling Spelling Spelling Spelling Spelling Spelling Spelling Spelling Spelling Spelling spelled_declarator_suffix spelled_direct spelled_expr spelled_prefix spelled_suffix spelled_enumerator spelled_specifier spelled_declarator spelled_parameter spelled_branch spelled_next spelled_type_name spelled_member spelled_member_declarator

pub next_spelling-roll : (node : NextLayer) → next_spelling (roll-Next node) ≡ spelled_next (map-Next DeclaratorSuffix Direct Expr Prefix Suffix Enumerator Specifier Declarator Parameter Branch Next TypeName Member MemberDeclarator Spelling Spelling Spelling Spelling Spelling Spelling Spelling Spelling Spelling Spelling Spelling Spelling Spelling Spelling declarator_suffix_spelling direct_spelling expr_spelling prefix_spelling suffix_spelling enumerator_spelling specifier_spelling declarator_spelling parameter_spelling branch_spelling next_spelling type_name_spelling member_spelling member_declarator_spelling node)
unfolding declarator_suffix_spelling direct_spelling expr_spelling prefix_spelling suffix_spelling enumerator_spelling specifier_spelling declarator_spelling parameter_spelling branch_spelling next_spelling type_name_spelling member_spelling member_declarator_spelling
next_spelling-roll = fold-roll-Next Spelling Spelling Spelling Spelling Spelling Spelling Spelling Spelling Spelling Spelling Spelling Spelling Spelling Spelling spelled_declarator_suffix spelled_direct spelled_expr spelled_prefix spelled_suffix spelled_enumerator spelled_specifier spelled_declarator spelled_parameter spelled_branch spelled_next spelled_type_name spelled_member spelled_member_declarator

pub type_name_spelling-roll : (node : TypeNameLayer) → type_name_spelling (roll-TypeName node) ≡ spelled_type_name (map-TypeName DeclaratorSuffix Direct Expr Prefix Suffix Enumerator Specifier Declarator Parameter Branch Next TypeName Member MemberDeclarator Spelling Spelling Spelling Spelling Spelling Spelling Spelling Spelling Spelling Spelling Spelling Spelling Spelling Spelling declarator_suffix_spelling direct_spelling expr_spelling prefix_spelling suffix_spelling enumerator_spelling specifier_spelling declarator_spelling parameter_spelling branch_spelling next_spelling type_name_spelling member_spelling member_declarator_spelling node)
unfolding declarator_suffix_spelling direct_spelling expr_spelling prefix_spelling suffix_spelling enumerator_spelling specifier_spelling declarator_spelling parameter_spelling branch_spelling next_spelling type_name_spelling member_spelling member_declarator_spelling
type_name_spelling-roll = fold-roll-TypeName Spelling Spelling Spelling Spelling Spelling Spelling Spelling Spelling Spelling Spelling Spelling Spelling Spelling Spelling spelled_declarator_suffix spelled_direct spelled_expr spelled_prefix spelled_suffix spelled_enumerator spelled_specifier spelled_declarator spelled_parameter spelled_branch spelled_next spelled_type_name spelled_member spelled_member_declarator

pub member_spelling-roll : (node : MemberLayer) → member_spelling (roll-Member node) ≡ spelled_member (map-Member DeclaratorSuffix Direct Expr Prefix Suffix Enumerator Specifier Declarator Parameter Branch Next TypeName Member MemberDeclarator Spelling Spelling Spelling Spelling Spelling Spelling Spelling Spelling Spelling Spelling Spelling Spelling Spelling Spelling declarator_suffix_spelling direct_spelling expr_spelling prefix_spelling suffix_spelling enumerator_spelling specifier_spelling declarator_spelling parameter_spelling branch_spelling next_spelling type_name_spelling member_spelling member_declarator_spelling node)
unfolding declarator_suffix_spelling direct_spelling expr_spelling prefix_spelling suffix_spelling enumerator_spelling specifier_spelling declarator_spelling parameter_spelling branch_spelling next_spelling type_name_spelling member_spelling member_declarator_spelling
member_spelling-roll = fold-roll-Member Spelling Spelling Spelling Spelling Spelling Spelling Spelling Spelling Spelling Spelling Spelling Spelling Spelling Spelling spelled_declarator_suffix spelled_direct spelled_expr spelled_prefix spelled_suffix spelled_enumerator spelled_specifier spelled_declarator spelled_parameter spelled_branch spelled_next spelled_type_name spelled_member spelled_member_declarator

pub member_declarator_spelling-roll : (node : MemberDeclaratorLayer) → member_declarator_spelling (roll-MemberDeclarator node) ≡ spelled_member_declarator (map-MemberDeclarator DeclaratorSuffix Direct Expr Prefix Suffix Enumerator Specifier Declarator Parameter Branch Next TypeName Member MemberDeclarator Spelling Spelling Spelling Spelling Spelling Spelling Spelling Spelling Spelling Spelling Spelling Spelling Spelling Spelling declarator_suffix_spelling direct_spelling expr_spelling prefix_spelling suffix_spelling enumerator_spelling specifier_spelling declarator_spelling parameter_spelling branch_spelling next_spelling type_name_spelling member_spelling member_declarator_spelling node)
unfolding declarator_suffix_spelling direct_spelling expr_spelling prefix_spelling suffix_spelling enumerator_spelling specifier_spelling declarator_spelling parameter_spelling branch_spelling next_spelling type_name_spelling member_spelling member_declarator_spelling
member_declarator_spelling-roll = fold-roll-MemberDeclarator Spelling Spelling Spelling Spelling Spelling Spelling Spelling Spelling Spelling Spelling Spelling Spelling Spelling Spelling spelled_declarator_suffix spelled_direct spelled_expr spelled_prefix spelled_suffix spelled_enumerator spelled_specifier spelled_declarator spelled_parameter spelled_branch spelled_next spelled_type_name spelled_member spelled_member_declarator

-- ---- one equation for each kind of node

pub declarator_suffix_spelling-Array : (from : Pos) (to : Pos) → declarator_suffix_spelling (declarator_suffix.Array from to) ≡ spelled_declarator_suffix (DeclaratorSuffix-F.Array from to)
declarator_suffix_spelling-Array from to = ap declarator_suffix_spelling (sym (declarator_suffix.rolls-Array from to)) ∙ declarator_suffix_spelling-roll (DeclaratorSuffix-F.Array from to)

pub declarator_suffix_spelling-ArrayOf : (from : Pos) (size : Expr) (to : Pos) → declarator_suffix_spelling (declarator_suffix.ArrayOf from size to) ≡ spelled_declarator_suffix (DeclaratorSuffix-F.ArrayOf from (expr_spelling size) to)
declarator_suffix_spelling-ArrayOf from size to = ap declarator_suffix_spelling (sym (declarator_suffix.rolls-ArrayOf from size to)) ∙ declarator_suffix_spelling-roll (DeclaratorSuffix-F.ArrayOf from size to)

pub declarator_suffix_spelling-Empty : (from : Pos) (to : Pos) → declarator_suffix_spelling (declarator_suffix.Empty from to) ≡ spelled_declarator_suffix (DeclaratorSuffix-F.Empty from to)
declarator_suffix_spelling-Empty from to = ap declarator_suffix_spelling (sym (declarator_suffix.rolls-Empty from to)) ∙ declarator_suffix_spelling-roll (DeclaratorSuffix-F.Empty from to)

pub declarator_suffix_spelling-Void : (from : Pos) (at : Pos) (to : Pos) → declarator_suffix_spelling (declarator_suffix.Void from at to) ≡ spelled_declarator_suffix (DeclaratorSuffix-F.Void from at to)
declarator_suffix_spelling-Void from at to = ap declarator_suffix_spelling (sym (declarator_suffix.rolls-Void from at to)) ∙ declarator_suffix_spelling-roll (DeclaratorSuffix-F.Void from at to)

pub declarator_suffix_spelling-Parameters : (from : Pos) (all : List Parameter) (to : Pos) → declarator_suffix_spelling (declarator_suffix.Parameters from all to) ≡ spelled_declarator_suffix (DeclaratorSuffix-F.Parameters from (map parameter_spelling all) to)
declarator_suffix_spelling-Parameters from all to = ap declarator_suffix_spelling (sym (declarator_suffix.rolls-Parameters from all to)) ∙ declarator_suffix_spelling-roll (DeclaratorSuffix-F.Parameters from all to)

pub direct_spelling-Nothing : direct_spelling direct.Nothing ≡ spelled_direct Direct-F.Nothing
direct_spelling-Nothing = ap direct_spelling (sym direct.rolls-Nothing) ∙ direct_spelling-roll Direct-F.Nothing

pub direct_spelling-Named : (name : Identifier) → direct_spelling (direct.Named name) ≡ spelled_direct (Direct-F.Named name)
direct_spelling-Named name = ap direct_spelling (sym (direct.rolls-Named name)) ∙ direct_spelling-roll (Direct-F.Named name)

pub direct_spelling-Grouped : (from : Pos) (inner : Declarator) (to : Pos) → direct_spelling (direct.Grouped from inner to) ≡ spelled_direct (Direct-F.Grouped from (declarator_spelling inner) to)
direct_spelling-Grouped from inner to = ap direct_spelling (sym (direct.rolls-Grouped from inner to)) ∙ direct_spelling-roll (Direct-F.Grouped from inner to)

pub expr_spelling-Name : (name : Identifier) → expr_spelling (expr.Name name) ≡ spelled_expr (Expr-F.Name name)
expr_spelling-Name name = ap expr_spelling (sym (expr.rolls-Name name)) ∙ expr_spelling-roll (Expr-F.Name name)

pub expr_spelling-Number : (value : ℕ) (kind : IntKind) (at : Pos) → expr_spelling (expr.Number value kind at) ≡ spelled_expr (Expr-F.Number value kind at)
expr_spelling-Number value kind at = ap expr_spelling (sym (expr.rolls-Number value kind at)) ∙ expr_spelling-roll (Expr-F.Number value kind at)

pub expr_spelling-Char : (value : ℕ) (at : Pos) → expr_spelling (expr.Char value at) ≡ spelled_expr (Expr-F.Char value at)
expr_spelling-Char value at = ap expr_spelling (sym (expr.rolls-Char value at)) ∙ expr_spelling-roll (Expr-F.Char value at)

pub expr_spelling-Strings : (all : List Literal) → expr_spelling (expr.Strings all) ≡ spelled_expr (Expr-F.Strings all)
expr_spelling-Strings all = ap expr_spelling (sym (expr.rolls-Strings all)) ∙ expr_spelling-roll (Expr-F.Strings all)

pub expr_spelling-Paren : (from : Pos) (inner : Expr) (to : Pos) → expr_spelling (expr.Paren from inner to) ≡ spelled_expr (Expr-F.Paren from (expr_spelling inner) to)
expr_spelling-Paren from inner to = ap expr_spelling (sym (expr.rolls-Paren from inner to)) ∙ expr_spelling-roll (Expr-F.Paren from inner to)

pub expr_spelling-Postfix : (operand : Expr) (suffixes : List Suffix) → expr_spelling (expr.Postfix operand suffixes) ≡ spelled_expr (Expr-F.Postfix (expr_spelling operand) (map suffix_spelling suffixes))
expr_spelling-Postfix operand suffixes = ap expr_spelling (sym (expr.rolls-Postfix operand suffixes)) ∙ expr_spelling-roll (Expr-F.Postfix operand suffixes)

pub expr_spelling-SizeofType : (at : Pos) (from : Pos) (type : TypeName) (to : Pos) → expr_spelling (expr.SizeofType at from type to) ≡ spelled_expr (Expr-F.SizeofType at from (type_name_spelling type) to)
expr_spelling-SizeofType at from type to = ap expr_spelling (sym (expr.rolls-SizeofType at from type to)) ∙ expr_spelling-roll (Expr-F.SizeofType at from type to)

pub expr_spelling-Prefixed : (run : List Prefix) (operand : Expr) → expr_spelling (expr.Prefixed run operand) ≡ spelled_expr (Expr-F.Prefixed (map prefix_spelling run) (expr_spelling operand))
expr_spelling-Prefixed run operand = ap expr_spelling (sym (expr.rolls-Prefixed run operand)) ∙ expr_spelling-roll (Expr-F.Prefixed run operand)

pub expr_spelling-Binary : (level : Level) (first : Expr) (rest : List Next) → expr_spelling (expr.Binary level first rest) ≡ spelled_expr (Expr-F.Binary level (expr_spelling first) (map next_spelling rest))
expr_spelling-Binary level first rest = ap expr_spelling (sym (expr.rolls-Binary level first rest)) ∙ expr_spelling-roll (Expr-F.Binary level first rest)

pub expr_spelling-Conditional : (first : Expr) (rest : List Branch) → expr_spelling (expr.Conditional first rest) ≡ spelled_expr (Expr-F.Conditional (expr_spelling first) (map branch_spelling rest))
expr_spelling-Conditional first rest = ap expr_spelling (sym (expr.rolls-Conditional first rest)) ∙ expr_spelling-roll (Expr-F.Conditional first rest)

pub expr_spelling-Assign : (first : Expr) (rest : List Next) → expr_spelling (expr.Assign first rest) ≡ spelled_expr (Expr-F.Assign (expr_spelling first) (map next_spelling rest))
expr_spelling-Assign first rest = ap expr_spelling (sym (expr.rolls-Assign first rest)) ∙ expr_spelling-roll (Expr-F.Assign first rest)

pub expr_spelling-Comma : (first : Expr) (rest : List Next) → expr_spelling (expr.Comma first rest) ≡ spelled_expr (Expr-F.Comma (expr_spelling first) (map next_spelling rest))
expr_spelling-Comma first rest = ap expr_spelling (sym (expr.rolls-Comma first rest)) ∙ expr_spelling-roll (Expr-F.Comma first rest)

pub prefix_spelling-Operator : (mark : Mark) → prefix_spelling (prefix.Operator mark) ≡ spelled_prefix (Prefix-F.Operator mark)
prefix_spelling-Operator mark = ap prefix_spelling (sym (prefix.rolls-Operator mark)) ∙ prefix_spelling-roll (Prefix-F.Operator mark)

pub prefix_spelling-Sizeof : (at : Pos) → prefix_spelling (prefix.Sizeof at) ≡ spelled_prefix (Prefix-F.Sizeof at)
prefix_spelling-Sizeof at = ap prefix_spelling (sym (prefix.rolls-Sizeof at)) ∙ prefix_spelling-roll (Prefix-F.Sizeof at)

pub prefix_spelling-Cast : (from : Pos) (type : TypeName) (to : Pos) → prefix_spelling (prefix.Cast from type to) ≡ spelled_prefix (Prefix-F.Cast from (type_name_spelling type) to)
prefix_spelling-Cast from type to = ap prefix_spelling (sym (prefix.rolls-Cast from type to)) ∙ prefix_spelling-roll (Prefix-F.Cast from type to)

pub suffix_spelling-Index : (from : Pos) (inner : Expr) (to : Pos) → suffix_spelling (suffix.Index from inner to) ≡ spelled_suffix (Suffix-F.Index from (expr_spelling inner) to)
suffix_spelling-Index from inner to = ap suffix_spelling (sym (suffix.rolls-Index from inner to)) ∙ suffix_spelling-roll (Suffix-F.Index from inner to)

pub suffix_spelling-Call : (from : Pos) (to : Pos) → suffix_spelling (suffix.Call from to) ≡ spelled_suffix (Suffix-F.Call from to)
suffix_spelling-Call from to = ap suffix_spelling (sym (suffix.rolls-Call from to)) ∙ suffix_spelling-roll (Suffix-F.Call from to)

pub suffix_spelling-CallWith : (from : Pos) (first : Expr) (rest : List Next) (to : Pos) → suffix_spelling (suffix.CallWith from first rest to) ≡ spelled_suffix (Suffix-F.CallWith from (expr_spelling first) (map next_spelling rest) to)
suffix_spelling-CallWith from first rest to = ap suffix_spelling (sym (suffix.rolls-CallWith from first rest to)) ∙ suffix_spelling-roll (Suffix-F.CallWith from first rest to)

pub suffix_spelling-Member : (at : Pos) (name : Identifier) → suffix_spelling (suffix.Member at name) ≡ spelled_suffix (Suffix-F.Member at name)
suffix_spelling-Member at name = ap suffix_spelling (sym (suffix.rolls-Member at name)) ∙ suffix_spelling-roll (Suffix-F.Member at name)

pub suffix_spelling-Arrow : (at : Pos) (name : Identifier) → suffix_spelling (suffix.Arrow at name) ≡ spelled_suffix (Suffix-F.Arrow at name)
suffix_spelling-Arrow at name = ap suffix_spelling (sym (suffix.rolls-Arrow at name)) ∙ suffix_spelling-roll (Suffix-F.Arrow at name)

pub suffix_spelling-Increment : (at : Pos) → suffix_spelling (suffix.Increment at) ≡ spelled_suffix (Suffix-F.Increment at)
suffix_spelling-Increment at = ap suffix_spelling (sym (suffix.rolls-Increment at)) ∙ suffix_spelling-roll (Suffix-F.Increment at)

pub suffix_spelling-Decrement : (at : Pos) → suffix_spelling (suffix.Decrement at) ≡ spelled_suffix (Suffix-F.Decrement at)
suffix_spelling-Decrement at = ap suffix_spelling (sym (suffix.rolls-Decrement at)) ∙ suffix_spelling-roll (Suffix-F.Decrement at)

pub enumerator_spelling-Plain : (comma : Option Pos) (name : Identifier) → enumerator_spelling (enumerator.Plain comma name) ≡ spelled_enumerator (Enumerator-F.Plain comma name)
enumerator_spelling-Plain comma name = ap enumerator_spelling (sym (enumerator.rolls-Plain comma name)) ∙ enumerator_spelling-roll (Enumerator-F.Plain comma name)

pub enumerator_spelling-Valued : (comma : Option Pos) (name : Identifier) (equals : Pos) (value : Expr) → enumerator_spelling (enumerator.Valued comma name equals value) ≡ spelled_enumerator (Enumerator-F.Valued comma name equals (expr_spelling value))
enumerator_spelling-Valued comma name equals value = ap enumerator_spelling (sym (enumerator.rolls-Valued comma name equals value)) ∙ enumerator_spelling-roll (Enumerator-F.Valued comma name equals value)

pub specifier_spelling-Storage : (storage : Storage) (at : Pos) → specifier_spelling (specifier.Storage storage at) ≡ spelled_specifier (Specifier-F.Storage storage at)
specifier_spelling-Storage storage at = ap specifier_spelling (sym (specifier.rolls-Storage storage at)) ∙ specifier_spelling-roll (Specifier-F.Storage storage at)

pub specifier_spelling-Const : (at : Pos) → specifier_spelling (specifier.Const at) ≡ spelled_specifier (Specifier-F.Const at)
specifier_spelling-Const at = ap specifier_spelling (sym (specifier.rolls-Const at)) ∙ specifier_spelling-roll (Specifier-F.Const at)

pub specifier_spelling-Word : (word : TypeWord) (at : Pos) → specifier_spelling (specifier.Word word at) ≡ spelled_specifier (Specifier-F.Word word at)
specifier_spelling-Word word at = ap specifier_spelling (sym (specifier.rolls-Word word at)) ∙ specifier_spelling-roll (Specifier-F.Word word at)

pub specifier_spelling-StructTag : (at : Pos) (tag : Identifier) → specifier_spelling (specifier.StructTag at tag) ≡ spelled_specifier (Specifier-F.StructTag at tag)
specifier_spelling-StructTag at tag = ap specifier_spelling (sym (specifier.rolls-StructTag at tag)) ∙ specifier_spelling-roll (Specifier-F.StructTag at tag)

pub specifier_spelling-Struct : (at : Pos) (tag : Option Identifier) (from : Pos) (members : List Member) (to : Pos) → specifier_spelling (specifier.Struct at tag from members to) ≡ spelled_specifier (Specifier-F.Struct at tag from (map member_spelling members) to)
specifier_spelling-Struct at tag from members to = ap specifier_spelling (sym (specifier.rolls-Struct at tag from members to)) ∙ specifier_spelling-roll (Specifier-F.Struct at tag from members to)

pub specifier_spelling-EnumTag : (at : Pos) (tag : Identifier) → specifier_spelling (specifier.EnumTag at tag) ≡ spelled_specifier (Specifier-F.EnumTag at tag)
specifier_spelling-EnumTag at tag = ap specifier_spelling (sym (specifier.rolls-EnumTag at tag)) ∙ specifier_spelling-roll (Specifier-F.EnumTag at tag)

pub specifier_spelling-Enum : (at : Pos) (tag : Option Identifier) (from : Pos) (enumerators : List Enumerator) (comma : Option Pos) (to : Pos) → specifier_spelling (specifier.Enum at tag from enumerators comma to) ≡ spelled_specifier (Specifier-F.Enum at tag from (map enumerator_spelling enumerators) comma to)
specifier_spelling-Enum at tag from enumerators comma to = ap specifier_spelling (sym (specifier.rolls-Enum at tag from enumerators comma to)) ∙ specifier_spelling-roll (Specifier-F.Enum at tag from enumerators comma to)

pub specifier_spelling-TypedefName : (name : Identifier) → specifier_spelling (specifier.TypedefName name) ≡ spelled_specifier (Specifier-F.TypedefName name)
specifier_spelling-TypedefName name = ap specifier_spelling (sym (specifier.rolls-TypedefName name)) ∙ specifier_spelling-roll (Specifier-F.TypedefName name)

pub declarator_spelling-is : (node : Declarator) → declarator_spelling node ≡ spelled_declarator (record { pointers = (out-Declarator node).pointers; direct = direct_spelling (out-Declarator node).direct; suffixes = map declarator_suffix_spelling (out-Declarator node).suffixes })
declarator_spelling-is node = ap declarator_spelling (sym (roll-out-Declarator node)) ∙ declarator_spelling-roll (out-Declarator node)

pub parameter_spelling-is : (node : Parameter) → parameter_spelling node ≡ spelled_parameter (record { comma = (out-Parameter node).comma; specifiers = map specifier_spelling (out-Parameter node).specifiers; declarator = declarator_spelling (out-Parameter node).declarator })
parameter_spelling-is node = ap parameter_spelling (sym (roll-out-Parameter node)) ∙ parameter_spelling-roll (out-Parameter node)

pub branch_spelling-is : (node : Branch) → branch_spelling node ≡ spelled_branch (record { question = (out-Branch node).question; gives = expr_spelling (out-Branch node).gives; colon = (out-Branch node).colon; operand = expr_spelling (out-Branch node).operand })
branch_spelling-is node = ap branch_spelling (sym (roll-out-Branch node)) ∙ branch_spelling-roll (out-Branch node)

pub next_spelling-is : (node : Next) → next_spelling node ≡ spelled_next (record { operator = (out-Next node).operator; operand = expr_spelling (out-Next node).operand })
next_spelling-is node = ap next_spelling (sym (roll-out-Next node)) ∙ next_spelling-roll (out-Next node)

pub type_name_spelling-is : (node : TypeName) → type_name_spelling node ≡ spelled_type_name (record { specifiers = map specifier_spelling (out-TypeName node).specifiers; declarator = declarator_spelling (out-TypeName node).declarator })
type_name_spelling-is node = ap type_name_spelling (sym (roll-out-TypeName node)) ∙ type_name_spelling-roll (out-TypeName node)

pub member_spelling-is : (node : Member) → member_spelling node ≡ spelled_member (record { specifiers = map specifier_spelling (out-Member node).specifiers; declarators = map member_declarator_spelling (out-Member node).declarators; semicolon = (out-Member node).semicolon })
member_spelling-is node = ap member_spelling (sym (roll-out-Member node)) ∙ member_spelling-roll (out-Member node)

pub member_declarator_spelling-is : (node : MemberDeclarator) → member_declarator_spelling node ≡ spelled_member_declarator (record { comma = (out-MemberDeclarator node).comma; declarator = declarator_spelling (out-MemberDeclarator node).declarator })
member_declarator_spelling-is node = ap member_declarator_spelling (sym (roll-out-MemberDeclarator node)) ∙ member_declarator_spelling-roll (out-MemberDeclarator node)
