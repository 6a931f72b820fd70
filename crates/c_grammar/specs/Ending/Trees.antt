-- Written by tools/grammar_tables.py.
-- The fold whose steps stand in Ending.OfTrees, and one equation for each kind of node.
use Rattle.std.specs.Prelude.{◌≡◌, ℕ, List, Option, map}
use Rattle.std.proofs.Common.{ap, sym, ◌∙◌}
use Rattle.c_tree.specs.declared.expression.Identifier.{Identifier}
use Rattle.c_tree.specs.declared.token.IntKind.{IntKind}
use Rattle.c_tree.specs.declared.expression.Level.{Level}
use Rattle.c_tree.specs.declared.expression.Literal.{Literal}
use Rattle.c_tree.specs.declared.expression.Mark.{Mark}
use Rattle.c_tree.specs.declared.token.Pos.{Pos}
use Rattle.c_tree.specs.declared.specifier.Storage.{Storage}
use Rattle.c_tree.specs.declared.specifier.TypeWord.{TypeWord}
use Rattle.c_tree.specs.declared.declarator.DeclaratorSuffix.{DeclaratorSuffix, roll-DeclaratorSuffix}
use Rattle.c_tree.specs.declared.declarator.DeclaratorSuffix.TheVariants as declarator_suffix
use Rattle.c_tree.specs.declared.declarator.Direct.{Direct, roll-Direct}
use Rattle.c_tree.specs.declared.declarator.Direct.TheVariants as direct
use Rattle.c_tree.specs.declared.expression.Expr.{Expr, roll-Expr}
use Rattle.c_tree.specs.declared.expression.Expr.TheVariants as expr
use Rattle.c_tree.specs.declared.expression.Prefix.{Prefix, roll-Prefix}
use Rattle.c_tree.specs.declared.expression.Prefix.TheVariants as prefix
use Rattle.c_tree.specs.declared.expression.Suffix.{Suffix, roll-Suffix}
use Rattle.c_tree.specs.declared.expression.Suffix.TheVariants as suffix
use Rattle.c_tree.specs.declared.specifier.Enumerator.{Enumerator, roll-Enumerator}
use Rattle.c_tree.specs.declared.specifier.Enumerator.TheVariants as enumerator
use Rattle.c_tree.specs.declared.specifier.Specifier.{Specifier, roll-Specifier}
use Rattle.c_tree.specs.declared.specifier.Specifier.TheVariants as specifier
use Rattle.c_tree.specs.declared.declarator.Declarator.{Declarator, out-Declarator, roll-Declarator, roll-out-Declarator}
use Rattle.c_tree.specs.declared.declarator.Parameter.{Parameter, out-Parameter, roll-Parameter, roll-out-Parameter}
use Rattle.c_tree.specs.declared.expression.Branch.{Branch, out-Branch, roll-Branch, roll-out-Branch}
use Rattle.c_tree.specs.declared.expression.Next.{Next, out-Next, roll-Next, roll-out-Next}
use Rattle.c_tree.specs.declared.expression.TypeName.{TypeName, out-TypeName, roll-TypeName, roll-out-TypeName}
use Rattle.c_tree.specs.declared.specifier.Member.{Member, out-Member, roll-Member, roll-out-Member}
use Rattle.c_tree.specs.declared.specifier.MemberDeclarator.{MemberDeclarator, out-MemberDeclarator, roll-MemberDeclarator, roll-out-MemberDeclarator}
use Rattle.c_tree.specs.declared.declarator.DeclaratorSuffix.TheOpen.{DeclaratorSuffix-F, Direct-F, Expr-F, Prefix-F, Suffix-F, Enumerator-F, Specifier-F}
use Rattle.c_tree.specs.Layers.{DeclaratorSuffixLayer, DirectLayer, ExprLayer, PrefixLayer, SuffixLayer, EnumeratorLayer, SpecifierLayer, DeclaratorLayer, ParameterLayer, BranchLayer, NextLayer, TypeNameLayer, MemberLayer, MemberDeclaratorLayer}
use Rattle.c_tree.specs.declared.declarator.DeclaratorSuffix.TheFolds.{fold-DeclaratorSuffix, fold-roll-DeclaratorSuffix, map-DeclaratorSuffix, fold-Direct, fold-roll-Direct, map-Direct, fold-Expr, fold-roll-Expr, map-Expr, fold-Prefix, fold-roll-Prefix, map-Prefix, fold-Suffix, fold-roll-Suffix, map-Suffix, fold-Enumerator, fold-roll-Enumerator, map-Enumerator, fold-Specifier, fold-roll-Specifier, map-Specifier, fold-Declarator, fold-roll-Declarator, map-Declarator, fold-Parameter, fold-roll-Parameter, map-Parameter, fold-Branch, fold-roll-Branch, map-Branch, fold-Next, fold-roll-Next, map-Next, fold-TypeName, fold-roll-TypeName, map-TypeName, fold-Member, fold-roll-Member, map-Member, fold-MemberDeclarator, fold-roll-MemberDeclarator, map-MemberDeclarator}
use Rattle.c_grammar.specs.Ending.OfTrees.{Ending, ending_of_declarator_suffix, ending_of_direct, ending_of_expr, ending_of_prefix, ending_of_suffix, ending_of_enumerator, ending_of_specifier, ending_of_declarator, ending_of_parameter, ending_of_branch, ending_of_next, ending_of_type_name, ending_of_member, ending_of_member_declarator}

unfoldable pub declarator_suffix_ending : DeclaratorSuffix → Ending
declarator_suffix_ending = fold-DeclaratorSuffix Ending Ending Ending Ending Ending Ending Ending Ending Ending Ending Ending Ending Ending Ending ending_of_declarator_suffix ending_of_direct ending_of_expr ending_of_prefix ending_of_suffix ending_of_enumerator ending_of_specifier ending_of_declarator ending_of_parameter ending_of_branch ending_of_next ending_of_type_name ending_of_member ending_of_member_declarator

unfoldable pub direct_ending : Direct → Ending
direct_ending = fold-Direct Ending Ending Ending Ending Ending Ending Ending Ending Ending Ending Ending Ending Ending Ending ending_of_declarator_suffix ending_of_direct ending_of_expr ending_of_prefix ending_of_suffix ending_of_enumerator ending_of_specifier ending_of_declarator ending_of_parameter ending_of_branch ending_of_next ending_of_type_name ending_of_member ending_of_member_declarator

unfoldable pub expr_ending : Expr → Ending
expr_ending = fold-Expr Ending Ending Ending Ending Ending Ending Ending Ending Ending Ending Ending Ending Ending Ending ending_of_declarator_suffix ending_of_direct ending_of_expr ending_of_prefix ending_of_suffix ending_of_enumerator ending_of_specifier ending_of_declarator ending_of_parameter ending_of_branch ending_of_next ending_of_type_name ending_of_member ending_of_member_declarator

unfoldable pub prefix_ending : Prefix → Ending
prefix_ending = fold-Prefix Ending Ending Ending Ending Ending Ending Ending Ending Ending Ending Ending Ending Ending Ending ending_of_declarator_suffix ending_of_direct ending_of_expr ending_of_prefix ending_of_suffix ending_of_enumerator ending_of_specifier ending_of_declarator ending_of_parameter ending_of_branch ending_of_next ending_of_type_name ending_of_member ending_of_member_declarator

unfoldable pub suffix_ending : Suffix → Ending
suffix_ending = fold-Suffix Ending Ending Ending Ending Ending Ending Ending Ending Ending Ending Ending Ending Ending Ending ending_of_declarator_suffix ending_of_direct ending_of_expr ending_of_prefix ending_of_suffix ending_of_enumerator ending_of_specifier ending_of_declarator ending_of_parameter ending_of_branch ending_of_next ending_of_type_name ending_of_member ending_of_member_declarator

unfoldable pub enumerator_ending : Enumerator → Ending
enumerator_ending = fold-Enumerator Ending Ending Ending Ending Ending Ending Ending Ending Ending Ending Ending Ending Ending Ending ending_of_declarator_suffix ending_of_direct ending_of_expr ending_of_prefix ending_of_suffix ending_of_enumerator ending_of_specifier ending_of_declarator ending_of_parameter ending_of_branch ending_of_next ending_of_type_name ending_of_member ending_of_member_declarator

unfoldable pub specifier_ending : Specifier → Ending
specifier_ending = fold-Specifier Ending Ending Ending Ending Ending Ending Ending Ending Ending Ending Ending Ending Ending Ending ending_of_declarator_suffix ending_of_direct ending_of_expr ending_of_prefix ending_of_suffix ending_of_enumerator ending_of_specifier ending_of_declarator ending_of_parameter ending_of_branch ending_of_next ending_of_type_name ending_of_member ending_of_member_declarator

unfoldable pub declarator_ending : Declarator → Ending
declarator_ending = fold-Declarator Ending Ending Ending Ending Ending Ending Ending Ending Ending Ending Ending Ending Ending Ending ending_of_declarator_suffix ending_of_direct ending_of_expr ending_of_prefix ending_of_suffix ending_of_enumerator ending_of_specifier ending_of_declarator ending_of_parameter ending_of_branch ending_of_next ending_of_type_name ending_of_member ending_of_member_declarator

unfoldable pub parameter_ending : Parameter → Ending
parameter_ending = fold-Parameter Ending Ending Ending Ending Ending Ending Ending Ending Ending Ending Ending Ending Ending Ending ending_of_declarator_suffix ending_of_direct ending_of_expr ending_of_prefix ending_of_suffix ending_of_enumerator ending_of_specifier ending_of_declarator ending_of_parameter ending_of_branch ending_of_next ending_of_type_name ending_of_member ending_of_member_declarator

unfoldable pub branch_ending : Branch → Ending
branch_ending = fold-Branch Ending Ending Ending Ending Ending Ending Ending Ending Ending Ending Ending Ending Ending Ending ending_of_declarator_suffix ending_of_direct ending_of_expr ending_of_prefix ending_of_suffix ending_of_enumerator ending_of_specifier ending_of_declarator ending_of_parameter ending_of_branch ending_of_next ending_of_type_name ending_of_member ending_of_member_declarator

unfoldable pub next_ending : Next → Ending
next_ending = fold-Next Ending Ending Ending Ending Ending Ending Ending Ending Ending Ending Ending Ending Ending Ending ending_of_declarator_suffix ending_of_direct ending_of_expr ending_of_prefix ending_of_suffix ending_of_enumerator ending_of_specifier ending_of_declarator ending_of_parameter ending_of_branch ending_of_next ending_of_type_name ending_of_member ending_of_member_declarator

unfoldable pub type_name_ending : TypeName → Ending
type_name_ending = fold-TypeName Ending Ending Ending Ending Ending Ending Ending Ending Ending Ending Ending Ending Ending Ending ending_of_declarator_suffix ending_of_direct ending_of_expr ending_of_prefix ending_of_suffix ending_of_enumerator ending_of_specifier ending_of_declarator ending_of_parameter ending_of_branch ending_of_next ending_of_type_name ending_of_member ending_of_member_declarator

unfoldable pub member_ending : Member → Ending
member_ending = fold-Member Ending Ending Ending Ending Ending Ending Ending Ending Ending Ending Ending Ending Ending Ending ending_of_declarator_suffix ending_of_direct ending_of_expr ending_of_prefix ending_of_suffix ending_of_enumerator ending_of_specifier ending_of_declarator ending_of_parameter ending_of_branch ending_of_next ending_of_type_name ending_of_member ending_of_member_declarator

unfoldable pub member_declarator_ending : MemberDeclarator → Ending
member_declarator_ending = fold-MemberDeclarator Ending Ending Ending Ending Ending Ending Ending Ending Ending Ending Ending Ending Ending Ending ending_of_declarator_suffix ending_of_direct ending_of_expr ending_of_prefix ending_of_suffix ending_of_enumerator ending_of_specifier ending_of_declarator ending_of_parameter ending_of_branch ending_of_next ending_of_type_name ending_of_member ending_of_member_declarator

-- ---- what a fold tells of one node

pub declarator_suffix_ending-roll : (node : DeclaratorSuffixLayer) → declarator_suffix_ending (roll-DeclaratorSuffix node) ≡ ending_of_declarator_suffix (map-DeclaratorSuffix DeclaratorSuffix Direct Expr Prefix Suffix Enumerator Specifier Declarator Parameter Branch Next TypeName Member MemberDeclarator Ending Ending Ending Ending Ending Ending Ending Ending Ending Ending Ending Ending Ending Ending declarator_suffix_ending direct_ending expr_ending prefix_ending suffix_ending enumerator_ending specifier_ending declarator_ending parameter_ending branch_ending next_ending type_name_ending member_ending member_declarator_ending node)
unfolding declarator_suffix_ending direct_ending expr_ending prefix_ending suffix_ending enumerator_ending specifier_ending declarator_ending parameter_ending branch_ending next_ending type_name_ending member_ending member_declarator_ending
declarator_suffix_ending-roll = fold-roll-DeclaratorSuffix Ending Ending Ending Ending Ending Ending Ending Ending Ending Ending Ending Ending Ending Ending ending_of_declarator_suffix ending_of_direct ending_of_expr ending_of_prefix ending_of_suffix ending_of_enumerator ending_of_specifier ending_of_declarator ending_of_parameter ending_of_branch ending_of_next ending_of_type_name ending_of_member ending_of_member_declarator

pub direct_ending-roll : (node : DirectLayer) → direct_ending (roll-Direct node) ≡ ending_of_direct (map-Direct DeclaratorSuffix Direct Expr Prefix Suffix Enumerator Specifier Declarator Parameter Branch Next TypeName Member MemberDeclarator Ending Ending Ending Ending Ending Ending Ending Ending Ending Ending Ending Ending Ending Ending declarator_suffix_ending direct_ending expr_ending prefix_ending suffix_ending enumerator_ending specifier_ending declarator_ending parameter_ending branch_ending next_ending type_name_ending member_ending member_declarator_ending node)
unfolding declarator_suffix_ending direct_ending expr_ending prefix_ending suffix_ending enumerator_ending specifier_ending declarator_ending parameter_ending branch_ending next_ending type_name_ending member_ending member_declarator_ending
direct_ending-roll = fold-roll-Direct Ending Ending Ending Ending Ending Ending Ending Ending Ending Ending Ending Ending Ending Ending ending_of_declarator_suffix ending_of_direct ending_of_expr ending_of_prefix ending_of_suffix ending_of_enumerator ending_of_specifier ending_of_declarator ending_of_parameter ending_of_branch ending_of_next ending_of_type_name ending_of_member ending_of_member_declarator

pub expr_ending-roll : (node : ExprLayer) → expr_ending (roll-Expr node) ≡ ending_of_expr (map-Expr DeclaratorSuffix Direct Expr Prefix Suffix Enumerator Specifier Declarator Parameter Branch Next TypeName Member MemberDeclarator Ending Ending Ending Ending Ending Ending Ending Ending Ending Ending Ending Ending Ending Ending declarator_suffix_ending direct_ending expr_ending prefix_ending suffix_ending enumerator_ending specifier_ending declarator_ending parameter_ending branch_ending next_ending type_name_ending member_ending member_declarator_ending node)
unfolding declarator_suffix_ending direct_ending expr_ending prefix_ending suffix_ending enumerator_ending specifier_ending declarator_ending parameter_ending branch_ending next_ending type_name_ending member_ending member_declarator_ending
expr_ending-roll = fold-roll-Expr Ending Ending Ending Ending Ending Ending Ending Ending Ending Ending Ending Ending Ending Ending ending_of_declarator_suffix ending_of_direct ending_of_expr ending_of_prefix ending_of_suffix ending_of_enumerator ending_of_specifier ending_of_declarator ending_of_parameter ending_of_branch ending_of_next ending_of_type_name ending_of_member ending_of_member_declarator

pub prefix_ending-roll : (node : PrefixLayer) → prefix_ending (roll-Prefix node) ≡ ending_of_prefix (map-Prefix DeclaratorSuffix Direct Expr Prefix Suffix Enumerator Specifier Declarator Parameter Branch Next TypeName Member MemberDeclarator Ending Ending Ending Ending Ending Ending Ending Ending Ending Ending Ending Ending Ending Ending declarator_suffix_ending direct_ending expr_ending prefix_ending suffix_ending enumerator_ending specifier_ending declarator_ending parameter_ending branch_ending next_ending type_name_ending member_ending member_declarator_ending node)
unfolding declarator_suffix_ending direct_ending expr_ending prefix_ending suffix_ending enumerator_ending specifier_ending declarator_ending parameter_ending branch_ending next_ending type_name_ending member_ending member_declarator_ending
prefix_ending-roll = fold-roll-Prefix Ending Ending Ending Ending Ending Ending Ending Ending Ending Ending Ending Ending Ending Ending ending_of_declarator_suffix ending_of_direct ending_of_expr ending_of_prefix ending_of_suffix ending_of_enumerator ending_of_specifier ending_of_declarator ending_of_parameter ending_of_branch ending_of_next ending_of_type_name ending_of_member ending_of_member_declarator

pub suffix_ending-roll : (node : SuffixLayer) → suffix_ending (roll-Suffix node) ≡ ending_of_suffix (map-Suffix DeclaratorSuffix Direct Expr Prefix Suffix Enumerator Specifier Declarator Parameter Branch Next TypeName Member MemberDeclarator Ending Ending Ending Ending Ending Ending Ending Ending Ending Ending Ending Ending Ending Ending declarator_suffix_ending direct_ending expr_ending prefix_ending suffix_ending enumerator_ending specifier_ending declarator_ending parameter_ending branch_ending next_ending type_name_ending member_ending member_declarator_ending node)
unfolding declarator_suffix_ending direct_ending expr_ending prefix_ending suffix_ending enumerator_ending specifier_ending declarator_ending parameter_ending branch_ending next_ending type_name_ending member_ending member_declarator_ending
suffix_ending-roll = fold-roll-Suffix Ending Ending Ending Ending Ending Ending Ending Ending Ending Ending Ending Ending Ending Ending ending_of_declarator_suffix ending_of_direct ending_of_expr ending_of_prefix ending_of_suffix ending_of_enumerator ending_of_specifier ending_of_declarator ending_of_parameter ending_of_branch ending_of_next ending_of_type_name ending_of_member ending_of_member_declarator

pub enumerator_ending-roll : (node : EnumeratorLayer) → enumerator_ending (roll-Enumerator node) ≡ ending_of_enumerator (map-Enumerator DeclaratorSuffix Direct Expr Prefix Suffix Enumerator Specifier Declarator Parameter Branch Next TypeName Member MemberDeclarator Ending Ending Ending Ending Ending Ending Ending Ending Ending Ending Ending Ending Ending Ending declarator_suffix_ending direct_ending expr_ending prefix_ending suffix_ending enumerator_ending specifier_ending declarator_ending parameter_ending branch_ending next_ending type_name_ending member_ending member_declarator_ending node)
unfolding declarator_suffix_ending direct_ending expr_ending prefix_ending suffix_ending enumerator_ending specifier_ending declarator_ending parameter_ending branch_ending next_ending type_name_ending member_ending member_declarator_ending
enumerator_ending-roll = fold-roll-Enumerator Ending Ending Ending Ending Ending Ending Ending Ending Ending Ending Ending Ending Ending Ending ending_of_declarator_suffix ending_of_direct ending_of_expr ending_of_prefix ending_of_suffix ending_of_enumerator ending_of_specifier ending_of_declarator ending_of_parameter ending_of_branch ending_of_next ending_of_type_name ending_of_member ending_of_member_declarator

pub specifier_ending-roll : (node : SpecifierLayer) → specifier_ending (roll-Specifier node) ≡ ending_of_specifier (map-Specifier DeclaratorSuffix Direct Expr Prefix Suffix Enumerator Specifier Declarator Parameter Branch Next TypeName Member MemberDeclarator Ending Ending Ending Ending Ending Ending Ending Ending Ending Ending Ending Ending Ending Ending declarator_suffix_ending direct_ending expr_ending prefix_ending suffix_ending enumerator_ending specifier_ending declarator_ending parameter_ending branch_ending next_ending type_name_ending member_ending member_declarator_ending node)
unfolding declarator_suffix_ending direct_ending expr_ending prefix_ending suffix_ending enumerator_ending specifier_ending declarator_ending parameter_ending branch_ending next_ending type_name_ending member_ending member_declarator_ending
specifier_ending-roll = fold-roll-Specifier Ending Ending Ending Ending Ending Ending Ending Ending Ending Ending Ending Ending Ending Ending ending_of_declarator_suffix ending_of_direct ending_of_expr ending_of_prefix ending_of_suffix ending_of_enumerator ending_of_specifier ending_of_declarator ending_of_parameter ending_of_branch ending_of_next ending_of_type_name ending_of_member ending_of_member_declarator

pub declarator_ending-roll : (node : DeclaratorLayer) → declarator_ending (roll-Declarator node) ≡ ending_of_declarator (map-Declarator DeclaratorSuffix Direct Expr Prefix Suffix Enumerator Specifier Declarator Parameter Branch Next TypeName Member MemberDeclarator Ending Ending Ending Ending Ending Ending Ending Ending Ending Ending Ending Ending Ending Ending declarator_suffix_ending direct_ending expr_ending prefix_ending suffix_ending enumerator_ending specifier_ending declarator_ending parameter_ending branch_ending next_ending type_name_ending member_ending member_declarator_ending node)
unfolding declarator_suffix_ending direct_ending expr_ending prefix_ending suffix_ending enumerator_ending specifier_ending declarator_ending parameter_ending branch_ending next_ending type_name_ending member_ending member_declarator_ending
declarator_ending-roll = fold-roll-Declarator Ending Ending Ending Ending Ending Ending Ending Ending Ending Ending Ending Ending Ending Ending ending_of_declarator_suffix ending_of_direct ending_of_expr ending_of_prefix ending_of_suffix ending_of_enumerator ending_of_specifier ending_of_declarator ending_of_parameter ending_of_branch ending_of_next ending_of_type_name ending_of_member ending_of_member_declarator

pub parameter_ending-roll : (node : ParameterLayer) → parameter_ending (roll-Parameter node) ≡ ending_of_parameter (map-Parameter DeclaratorSuffix Direct Expr Prefix Suffix Enumerator Specifier Declarator Parameter Branch Next TypeName Member MemberDeclarator Ending Ending Ending Ending Ending Ending Ending Ending Ending Ending Ending Ending Ending Ending declarator_suffix_ending direct_ending expr_ending prefix_ending suffix_ending enumerator_ending specifier_ending declarator_ending parameter_ending branch_ending next_ending type_name_ending member_ending member_declarator_ending node)
unfolding declarator_suffix_ending direct_ending expr_ending prefix_ending suffix_ending enumerator_ending specifier_ending declarator_ending parameter_ending branch_ending next_ending type_name_ending member_ending member_declarator_ending
parameter_ending-roll = fold-roll-Parameter Ending Ending Ending Ending Ending Ending Ending Ending Ending Ending Ending Ending Ending Ending ending_of_declarator_suffix ending_of_direct ending_of_expr ending_of_prefix ending_of_suffix ending_of_enumerator ending_of_specifier ending_of_declarator ending_of_parameter ending_of_branch ending_of_next ending_of_type_name ending_of_member ending_of_member_declarator

pub branch_ending-roll : (node : BranchLayer) → branch_ending (roll-Branch node) ≡ ending_of_branch (map-Branch DeclaratorSuffix Direct Expr Prefix Suffix Enumerator Specifier Declarator Parameter Branch Next TypeName Member MemberDeclarator Ending Ending Ending Ending Ending Ending Ending Ending Ending Ending Ending Ending Ending Ending declarator_suffix_ending direct_ending expr_ending prefix_ending suffix_ending enumerator_ending specifier_ending declarator_ending parameter_ending branch_ending next_ending type_name_ending member_ending member_declarator_ending node)
unfolding declarator_suffix_ending direct_ending expr_ending prefix_ending suffix_ending enumerator_ending specifier_ending declarator_ending parameter_ending branch_ending next_ending type_name_ending member_ending member_declarator_ending
branch_ending-roll = fold-roll-Branch Ending Ending Ending Ending Ending Ending Ending Ending Ending Ending Ending Ending Ending Ending ending_of_declarator_suffix ending_of_direct ending_of_expr ending_of_prefix ending_of_suffix ending_of_enumerator ending_of_specifier ending_of_declarator ending_of_parameter ending_of_branch ending_of_next ending_of_type_name ending_of_member ending_of_member_declarator

pub next_ending-roll : (node : NextLayer) → next_ending (roll-Next node) ≡ ending_of_next (map-Next DeclaratorSuffix Direct Expr Prefix Suffix Enumerator Specifier Declarator Parameter Branch Next TypeName Member MemberDeclarator Ending Ending Ending Ending Ending Ending Ending Ending Ending Ending Ending Ending Ending Ending declarator_suffix_ending direct_ending expr_ending prefix_ending suffix_ending enumerator_ending specifier_ending declarator_ending parameter_ending branch_ending next_ending type_name_ending member_ending member_declarator_ending node)
unfolding declarator_suffix_ending direct_ending expr_ending prefix_ending suffix_ending enumerator_ending specifier_ending declarator_ending parameter_ending branch_ending next_ending type_name_ending member_ending member_declarator_ending
next_ending-roll = fold-roll-Next Ending Ending Ending Ending Ending Ending Ending Ending Ending Ending Ending Ending Ending Ending ending_of_declarator_suffix ending_of_direct ending_of_expr ending_of_prefix ending_of_suffix ending_of_enumerator ending_of_specifier ending_of_declarator ending_of_parameter ending_of_branch ending_of_next ending_of_type_name ending_of_member ending_of_member_declarator

pub type_name_ending-roll : (node : TypeNameLayer) → type_name_ending (roll-TypeName node) ≡ ending_of_type_name (map-TypeName DeclaratorSuffix Direct Expr Prefix Suffix Enumerator Specifier Declarator Parameter Branch Next TypeName Member MemberDeclarator Ending Ending Ending Ending Ending Ending Ending Ending Ending Ending Ending Ending Ending Ending declarator_suffix_ending direct_ending expr_ending prefix_ending suffix_ending enumerator_ending specifier_ending declarator_ending parameter_ending branch_ending next_ending type_name_ending member_ending member_declarator_ending node)
unfolding declarator_suffix_ending direct_ending expr_ending prefix_ending suffix_ending enumerator_ending specifier_ending declarator_ending parameter_ending branch_ending next_ending type_name_ending member_ending member_declarator_ending
type_name_ending-roll = fold-roll-TypeName Ending Ending Ending Ending Ending Ending Ending Ending Ending Ending Ending Ending Ending Ending ending_of_declarator_suffix ending_of_direct ending_of_expr ending_of_prefix ending_of_suffix ending_of_enumerator ending_of_specifier ending_of_declarator ending_of_parameter ending_of_branch ending_of_next ending_of_type_name ending_of_member ending_of_member_declarator

pub member_ending-roll : (node : MemberLayer) → member_ending (roll-Member node) ≡ ending_of_member (map-Member DeclaratorSuffix Direct Expr Prefix Suffix Enumerator Specifier Declarator Parameter Branch Next TypeName Member MemberDeclarator Ending Ending Ending Ending Ending Ending Ending Ending Ending Ending Ending Ending Ending Ending declarator_suffix_ending direct_ending expr_ending prefix_ending suffix_ending enumerator_ending specifier_ending declarator_ending parameter_ending branch_ending next_ending type_name_ending member_ending member_declarator_ending node)
unfolding declarator_suffix_ending direct_ending expr_ending prefix_ending suffix_ending enumerator_ending specifier_ending declarator_ending parameter_ending branch_ending next_ending type_name_ending member_ending member_declarator_ending
member_ending-roll = fold-roll-Member Ending Ending Ending Ending Ending Ending Ending Ending Ending Ending Ending Ending Ending Ending ending_of_declarator_suffix ending_of_direct ending_of_expr ending_of_prefix ending_of_suffix ending_of_enumerator ending_of_specifier ending_of_declarator ending_of_parameter ending_of_branch ending_of_next ending_of_type_name ending_of_member ending_of_member_declarator

pub member_declarator_ending-roll : (node : MemberDeclaratorLayer) → member_declarator_ending (roll-MemberDeclarator node) ≡ ending_of_member_declarator (map-MemberDeclarator DeclaratorSuffix Direct Expr Prefix Suffix Enumerator Specifier Declarator Parameter Branch Next TypeName Member MemberDeclarator Ending Ending Ending Ending Ending Ending Ending Ending Ending Ending Ending Ending Ending Ending declarator_suffix_ending direct_ending expr_ending prefix_ending suffix_ending enumerator_ending specifier_ending declarator_ending parameter_ending branch_ending next_ending type_name_ending member_ending member_declarator_ending node)
unfolding declarator_suffix_ending direct_ending expr_ending prefix_ending suffix_ending enumerator_ending specifier_ending declarator_ending parameter_ending branch_ending next_ending type_name_ending member_ending member_declarator_ending
member_declarator_ending-roll = fold-roll-MemberDeclarator Ending Ending Ending Ending Ending Ending Ending Ending Ending Ending Ending Ending Ending Ending ending_of_declarator_suffix ending_of_direct ending_of_expr ending_of_prefix ending_of_suffix ending_of_enumerator ending_of_specifier ending_of_declarator ending_of_parameter ending_of_branch ending_of_next ending_of_type_name ending_of_member ending_of_member_declarator

-- ---- one equation for each kind of node

pub declarator_suffix_ending-Array : (from : Pos) (to : Pos) → declarator_suffix_ending (declarator_suffix.Array from to) ≡ ending_of_declarator_suffix (DeclaratorSuffix-F.Array from to)
declarator_suffix_ending-Array from to = ap declarator_suffix_ending (sym (declarator_suffix.rolls-Array from to)) ∙ declarator_suffix_ending-roll (DeclaratorSuffix-F.Array from to)

pub declarator_suffix_ending-ArrayOf : (from : Pos) (size : Expr) (to : Pos) → declarator_suffix_ending (declarator_suffix.ArrayOf from size to) ≡ ending_of_declarator_suffix (DeclaratorSuffix-F.ArrayOf from (expr_ending size) to)
declarator_suffix_ending-ArrayOf from size to = ap declarator_suffix_ending (sym (declarator_suffix.rolls-ArrayOf from size to)) ∙ declarator_suffix_ending-roll (DeclaratorSuffix-F.ArrayOf from size to)

pub declarator_suffix_ending-Empty : (from : Pos) (to : Pos) → declarator_suffix_ending (declarator_suffix.Empty from to) ≡ ending_of_declarator_suffix (DeclaratorSuffix-F.Empty from to)
declarator_suffix_ending-Empty from to = ap declarator_suffix_ending (sym (declarator_suffix.rolls-Empty from to)) ∙ declarator_suffix_ending-roll (DeclaratorSuffix-F.Empty from to)

pub declarator_suffix_ending-Void : (from : Pos) (at : Pos) (to : Pos) → declarator_suffix_ending (declarator_suffix.Void from at to) ≡ ending_of_declarator_suffix (DeclaratorSuffix-F.Void from at to)
declarator_suffix_ending-Void from at to = ap declarator_suffix_ending (sym (declarator_suffix.rolls-Void from at to)) ∙ declarator_suffix_ending-roll (DeclaratorSuffix-F.Void from at to)

pub declarator_suffix_ending-Parameters : (from : Pos) (all : List Parameter) (to : Pos) → declarator_suffix_ending (declarator_suffix.Parameters from all to) ≡ ending_of_declarator_suffix (DeclaratorSuffix-F.Parameters from (map parameter_ending all) to)
declarator_suffix_ending-Parameters from all to = ap declarator_suffix_ending (sym (declarator_suffix.rolls-Parameters from all to)) ∙ declarator_suffix_ending-roll (DeclaratorSuffix-F.Parameters from all to)

pub direct_ending-Nothing : direct_ending direct.Nothing ≡ ending_of_direct Direct-F.Nothing
direct_ending-Nothing = ap direct_ending (sym direct.rolls-Nothing) ∙ direct_ending-roll Direct-F.Nothing

pub direct_ending-Named : (name : Identifier) → direct_ending (direct.Named name) ≡ ending_of_direct (Direct-F.Named name)
direct_ending-Named name = ap direct_ending (sym (direct.rolls-Named name)) ∙ direct_ending-roll (Direct-F.Named name)

pub direct_ending-Grouped : (from : Pos) (inner : Declarator) (to : Pos) → direct_ending (direct.Grouped from inner to) ≡ ending_of_direct (Direct-F.Grouped from (declarator_ending inner) to)
direct_ending-Grouped from inner to = ap direct_ending (sym (direct.rolls-Grouped from inner to)) ∙ direct_ending-roll (Direct-F.Grouped from inner to)

pub expr_ending-Name : (name : Identifier) → expr_ending (expr.Name name) ≡ ending_of_expr (Expr-F.Name name)
expr_ending-Name name = ap expr_ending (sym (expr.rolls-Name name)) ∙ expr_ending-roll (Expr-F.Name name)

pub expr_ending-Number : (value : ℕ) (kind : IntKind) (at : Pos) → expr_ending (expr.Number value kind at) ≡ ending_of_expr (Expr-F.Number value kind at)
expr_ending-Number value kind at = ap expr_ending (sym (expr.rolls-Number value kind at)) ∙ expr_ending-roll (Expr-F.Number value kind at)

pub expr_ending-Char : (value : ℕ) (at : Pos) → expr_ending (expr.Char value at) ≡ ending_of_expr (Expr-F.Char value at)
expr_ending-Char value at = ap expr_ending (sym (expr.rolls-Char value at)) ∙ expr_ending-roll (Expr-F.Char value at)

pub expr_ending-Strings : (all : List Literal) → expr_ending (expr.Strings all) ≡ ending_of_expr (Expr-F.Strings all)
expr_ending-Strings all = ap expr_ending (sym (expr.rolls-Strings all)) ∙ expr_ending-roll (Expr-F.Strings all)

pub expr_ending-Paren : (from : Pos) (inner : Expr) (to : Pos) → expr_ending (expr.Paren from inner to) ≡ ending_of_expr (Expr-F.Paren from (expr_ending inner) to)
expr_ending-Paren from inner to = ap expr_ending (sym (expr.rolls-Paren from inner to)) ∙ expr_ending-roll (Expr-F.Paren from inner to)

pub expr_ending-Postfix : (operand : Expr) (suffixes : List Suffix) → expr_ending (expr.Postfix operand suffixes) ≡ ending_of_expr (Expr-F.Postfix (expr_ending operand) (map suffix_ending suffixes))
expr_ending-Postfix operand suffixes = ap expr_ending (sym (expr.rolls-Postfix operand suffixes)) ∙ expr_ending-roll (Expr-F.Postfix operand suffixes)

pub expr_ending-SizeofType : (at : Pos) (from : Pos) (type : TypeName) (to : Pos) → expr_ending (expr.SizeofType at from type to) ≡ ending_of_expr (Expr-F.SizeofType at from (type_name_ending type) to)
expr_ending-SizeofType at from type to = ap expr_ending (sym (expr.rolls-SizeofType at from type to)) ∙ expr_ending-roll (Expr-F.SizeofType at from type to)

pub expr_ending-Prefixed : (run : List Prefix) (operand : Expr) → expr_ending (expr.Prefixed run operand) ≡ ending_of_expr (Expr-F.Prefixed (map prefix_ending run) (expr_ending operand))
expr_ending-Prefixed run operand = ap expr_ending (sym (expr.rolls-Prefixed run operand)) ∙ expr_ending-roll (Expr-F.Prefixed run operand)

pub expr_ending-Binary : (level : Level) (first : Expr) (rest : List Next) → expr_ending (expr.Binary level first rest) ≡ ending_of_expr (Expr-F.Binary level (expr_ending first) (map next_ending rest))
expr_ending-Binary level first rest = ap expr_ending (sym (expr.rolls-Binary level first rest)) ∙ expr_ending-roll (Expr-F.Binary level first rest)

pub expr_ending-Conditional : (first : Expr) (rest : List Branch) → expr_ending (expr.Conditional first rest) ≡ ending_of_expr (Expr-F.Conditional (expr_ending first) (map branch_ending rest))
expr_ending-Conditional first rest = ap expr_ending (sym (expr.rolls-Conditional first rest)) ∙ expr_ending-roll (Expr-F.Conditional first rest)

pub expr_ending-Assign : (first : Expr) (rest : List Next) → expr_ending (expr.Assign first rest) ≡ ending_of_expr (Expr-F.Assign (expr_ending first) (map next_ending rest))
expr_ending-Assign first rest = ap expr_ending (sym (expr.rolls-Assign first rest)) ∙ expr_ending-roll (Expr-F.Assign first rest)

pub expr_ending-Comma : (first : Expr) (rest : List Next) → expr_ending (expr.Comma first rest) ≡ ending_of_expr (Expr-F.Comma (expr_ending first) (map next_ending rest))
expr_ending-Comma first rest = ap expr_ending (sym (expr.rolls-Comma first rest)) ∙ expr_ending-roll (Expr-F.Comma first rest)

pub prefix_ending-Operator : (mark : Mark) → prefix_ending (prefix.Operator mark) ≡ ending_of_prefix (Prefix-F.Operator mark)
prefix_ending-Operator mark = ap prefix_ending (sym (prefix.rolls-Operator mark)) ∙ prefix_ending-roll (Prefix-F.Operator mark)

pub prefix_ending-Sizeof : (at : Pos) → prefix_ending (prefix.Sizeof at) ≡ ending_of_prefix (Prefix-F.Sizeof at)
prefix_ending-Sizeof at = ap prefix_ending (sym (prefix.rolls-Sizeof at)) ∙ prefix_ending-roll (Prefix-F.Sizeof at)

pub prefix_ending-Cast : (from : Pos) (type : TypeName) (to : Pos) → prefix_ending (prefix.Cast from type to) ≡ ending_of_prefix (Prefix-F.Cast from (type_name_ending type) to)
prefix_ending-Cast from type to = ap prefix_ending (sym (prefix.rolls-Cast from type to)) ∙ prefix_ending-roll (Prefix-F.Cast from type to)

pub suffix_ending-Index : (from : Pos) (inner : Expr) (to : Pos) → suffix_ending (suffix.Index from inner to) ≡ ending_of_suffix (Suffix-F.Index from (expr_ending inner) to)
suffix_ending-Index from inner to = ap suffix_ending (sym (suffix.rolls-Index from inner to)) ∙ suffix_ending-roll (Suffix-F.Index from inner to)

pub suffix_ending-Call : (from : Pos) (to : Pos) → suffix_ending (suffix.Call from to) ≡ ending_of_suffix (Suffix-F.Call from to)
suffix_ending-Call from to = ap suffix_ending (sym (suffix.rolls-Call from to)) ∙ suffix_ending-roll (Suffix-F.Call from to)

pub suffix_ending-CallWith : (from : Pos) (first : Expr) (rest : List Next) (to : Pos) → suffix_ending (suffix.CallWith from first rest to) ≡ ending_of_suffix (Suffix-F.CallWith from (expr_ending first) (map next_ending rest) to)
suffix_ending-CallWith from first rest to = ap suffix_ending (sym (suffix.rolls-CallWith from first rest to)) ∙ suffix_ending-roll (Suffix-F.CallWith from first rest to)

pub suffix_ending-Member : (at : Pos) (name : Identifier) → suffix_ending (suffix.Member at name) ≡ ending_of_suffix (Suffix-F.Member at name)
suffix_ending-Member at name = ap suffix_ending (sym (suffix.rolls-Member at name)) ∙ suffix_ending-roll (Suffix-F.Member at name)

pub suffix_ending-Arrow : (at : Pos) (name : Identifier) → suffix_ending (suffix.Arrow at name) ≡ ending_of_suffix (Suffix-F.Arrow at name)
suffix_ending-Arrow at name = ap suffix_ending (sym (suffix.rolls-Arrow at name)) ∙ suffix_ending-roll (Suffix-F.Arrow at name)

pub suffix_ending-Increment : (at : Pos) → suffix_ending (suffix.Increment at) ≡ ending_of_suffix (Suffix-F.Increment at)
suffix_ending-Increment at = ap suffix_ending (sym (suffix.rolls-Increment at)) ∙ suffix_ending-roll (Suffix-F.Increment at)

pub suffix_ending-Decrement : (at : Pos) → suffix_ending (suffix.Decrement at) ≡ ending_of_suffix (Suffix-F.Decrement at)
suffix_ending-Decrement at = ap suffix_ending (sym (suffix.rolls-Decrement at)) ∙ suffix_ending-roll (Suffix-F.Decrement at)

pub enumerator_ending-Plain : (comma : Option Pos) (name : Identifier) → enumerator_ending (enumerator.Plain comma name) ≡ ending_of_enumerator (Enumerator-F.Plain comma name)
enumerator_ending-Plain comma name = ap enumerator_ending (sym (enumerator.rolls-Plain comma name)) ∙ enumerator_ending-roll (Enumerator-F.Plain comma name)

pub enumerator_ending-Valued : (comma : Option Pos) (name : Identifier) (equals : Pos) (value : Expr) → enumerator_ending (enumerator.Valued comma name equals value) ≡ ending_of_enumerator (Enumerator-F.Valued comma name equals (expr_ending value))
enumerator_ending-Valued comma name equals value = ap enumerator_ending (sym (enumerator.rolls-Valued comma name equals value)) ∙ enumerator_ending-roll (Enumerator-F.Valued comma name equals value)

pub specifier_ending-Storage : (storage : Storage) (at : Pos) → specifier_ending (specifier.Storage storage at) ≡ ending_of_specifier (Specifier-F.Storage storage at)
specifier_ending-Storage storage at = ap specifier_ending (sym (specifier.rolls-Storage storage at)) ∙ specifier_ending-roll (Specifier-F.Storage storage at)

pub specifier_ending-Const : (at : Pos) → specifier_ending (specifier.Const at) ≡ ending_of_specifier (Specifier-F.Const at)
specifier_ending-Const at = ap specifier_ending (sym (specifier.rolls-Const at)) ∙ specifier_ending-roll (Specifier-F.Const at)

pub specifier_ending-Word : (word : TypeWord) (at : Pos) → specifier_ending (specifier.Word word at) ≡ ending_of_specifier (Specifier-F.Word word at)
specifier_ending-Word word at = ap specifier_ending (sym (specifier.rolls-Word word at)) ∙ specifier_ending-roll (Specifier-F.Word word at)

pub specifier_ending-StructTag : (at : Pos) (tag : Identifier) → specifier_ending (specifier.StructTag at tag) ≡ ending_of_specifier (Specifier-F.StructTag at tag)
specifier_ending-StructTag at tag = ap specifier_ending (sym (specifier.rolls-StructTag at tag)) ∙ specifier_ending-roll (Specifier-F.StructTag at tag)

pub specifier_ending-Struct : (at : Pos) (tag : Option Identifier) (from : Pos) (members : List Member) (to : Pos) → specifier_ending (specifier.Struct at tag from members to) ≡ ending_of_specifier (Specifier-F.Struct at tag from (map member_ending members) to)
specifier_ending-Struct at tag from members to = ap specifier_ending (sym (specifier.rolls-Struct at tag from members to)) ∙ specifier_ending-roll (Specifier-F.Struct at tag from members to)

pub specifier_ending-EnumTag : (at : Pos) (tag : Identifier) → specifier_ending (specifier.EnumTag at tag) ≡ ending_of_specifier (Specifier-F.EnumTag at tag)
specifier_ending-EnumTag at tag = ap specifier_ending (sym (specifier.rolls-EnumTag at tag)) ∙ specifier_ending-roll (Specifier-F.EnumTag at tag)

pub specifier_ending-Enum : (at : Pos) (tag : Option Identifier) (from : Pos) (enumerators : List Enumerator) (comma : Option Pos) (to : Pos) → specifier_ending (specifier.Enum at tag from enumerators comma to) ≡ ending_of_specifier (Specifier-F.Enum at tag from (map enumerator_ending enumerators) comma to)
specifier_ending-Enum at tag from enumerators comma to = ap specifier_ending (sym (specifier.rolls-Enum at tag from enumerators comma to)) ∙ specifier_ending-roll (Specifier-F.Enum at tag from enumerators comma to)

pub specifier_ending-TypedefName : (name : Identifier) → specifier_ending (specifier.TypedefName name) ≡ ending_of_specifier (Specifier-F.TypedefName name)
specifier_ending-TypedefName name = ap specifier_ending (sym (specifier.rolls-TypedefName name)) ∙ specifier_ending-roll (Specifier-F.TypedefName name)

pub declarator_ending-is : (node : Declarator) → declarator_ending node ≡ ending_of_declarator (record { pointers = (out-Declarator node).pointers; direct = direct_ending (out-Declarator node).direct; suffixes = map declarator_suffix_ending (out-Declarator node).suffixes })
declarator_ending-is node = ap declarator_ending (sym (roll-out-Declarator node)) ∙ declarator_ending-roll (out-Declarator node)

pub parameter_ending-is : (node : Parameter) → parameter_ending node ≡ ending_of_parameter (record { comma = (out-Parameter node).comma; specifiers = map specifier_ending (out-Parameter node).specifiers; declarator = declarator_ending (out-Parameter node).declarator })
parameter_ending-is node = ap parameter_ending (sym (roll-out-Parameter node)) ∙ parameter_ending-roll (out-Parameter node)

pub branch_ending-is : (node : Branch) → branch_ending node ≡ ending_of_branch (record { question = (out-Branch node).question; gives = expr_ending (out-Branch node).gives; colon = (out-Branch node).colon; operand = expr_ending (out-Branch node).operand })
branch_ending-is node = ap branch_ending (sym (roll-out-Branch node)) ∙ branch_ending-roll (out-Branch node)

pub next_ending-is : (node : Next) → next_ending node ≡ ending_of_next (record { operator = (out-Next node).operator; operand = expr_ending (out-Next node).operand })
next_ending-is node = ap next_ending (sym (roll-out-Next node)) ∙ next_ending-roll (out-Next node)

pub type_name_ending-is : (node : TypeName) → type_name_ending node ≡ ending_of_type_name (record { specifiers = map specifier_ending (out-TypeName node).specifiers; declarator = declarator_ending (out-TypeName node).declarator })
type_name_ending-is node = ap type_name_ending (sym (roll-out-TypeName node)) ∙ type_name_ending-roll (out-TypeName node)

pub member_ending-is : (node : Member) → member_ending node ≡ ending_of_member (record { specifiers = map specifier_ending (out-Member node).specifiers; declarators = map member_declarator_ending (out-Member node).declarators; semicolon = (out-Member node).semicolon })
member_ending-is node = ap member_ending (sym (roll-out-Member node)) ∙ member_ending-roll (out-Member node)

pub member_declarator_ending-is : (node : MemberDeclarator) → member_declarator_ending node ≡ ending_of_member_declarator (record { comma = (out-MemberDeclarator node).comma; declarator = declarator_ending (out-MemberDeclarator node).declarator })
member_declarator_ending-is node = ap member_declarator_ending (sym (roll-out-MemberDeclarator node)) ∙ member_declarator_ending-roll (out-MemberDeclarator node)
