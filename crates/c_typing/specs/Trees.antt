-- Written by tools/tree_equations.py.
-- The fold whose steps stand in OfTrees, and one equation for each kind of node.
use Rattle.std.specs.Prelude.{◌≡◌, ℕ, List, Option, map}
use Rattle.std.proofs.Common.{ap, sym, ◌∙◌}
use Rattle.c_tree.specs.declared.expression.Identifier.{Identifier}
use Rattle.c_tree.specs.declared.token.IntKind.{IntKind}
use Rattle.c_tree.specs.declared.expression.Level.{Level}
use Rattle.c_tree.specs.declared.expression.Literal.{Literal}
use Rattle.c_tree.specs.declared.expression.Mark.{Mark}
use Rattle.c_tree.specs.declared.token.Pos.{Pos}
use Rattle.c_tree.specs.declared.specifier.Storage.{Storage}
use Rattle.c_tree.specs.declared.specifier.TypeWord.{TypeWord}
use Rattle.c_tree.specs.declared.declarator.DeclaratorSuffix.{DeclaratorSuffix, roll-DeclaratorSuffix}
use Rattle.c_tree.specs.declared.declarator.DeclaratorSuffix.TheVariants as declarator_suffix
use Rattle.c_tree.specs.declared.declarator.Direct.{Direct, roll-Direct}
use Rattle.c_tree.specs.declared.declarator.Direct.TheVariants as direct
use Rattle.c_tree.specs.declared.expression.Expr.{Expr, roll-Expr}
use Rattle.c_tree.specs.declared.expression.Expr.TheVariants as expr
use Rattle.c_tree.specs.declared.expression.Prefix.{Prefix, roll-Prefix}
use Rattle.c_tree.specs.declared.expression.Prefix.TheVariants as prefix
use Rattle.c_tree.specs.declared.expression.Suffix.{Suffix, roll-Suffix}
use Rattle.c_tree.specs.declared.expression.Suffix.TheVariants as suffix
use Rattle.c_tree.specs.declared.specifier.Enumerator.{Enumerator, roll-Enumerator}
use Rattle.c_tree.specs.declared.specifier.Enumerator.TheVariants as enumerator
use Rattle.c_tree.specs.declared.specifier.Specifier.{Specifier, roll-Specifier}
use Rattle.c_tree.specs.declared.specifier.Specifier.TheVariants as specifier
use Rattle.c_tree.specs.declared.declarator.Declarator.{Declarator, out-Declarator, roll-Declarator, roll-out-Declarator}
use Rattle.c_tree.specs.declared.declarator.Parameter.{Parameter, out-Parameter, roll-Parameter, roll-out-Parameter}
use Rattle.c_tree.specs.declared.expression.Branch.{Branch, out-Branch, roll-Branch, roll-out-Branch}
use Rattle.c_tree.specs.declared.expression.Next.{Next, out-Next, roll-Next, roll-out-Next}
use Rattle.c_tree.specs.declared.expression.TypeName.{TypeName, out-TypeName, roll-TypeName, roll-out-TypeName}
use Rattle.c_tree.specs.declared.specifier.Member.{Member, out-Member, roll-Member, roll-out-Member}
use Rattle.c_tree.specs.declared.specifier.MemberDeclarator.{MemberDeclarator, out-MemberDeclarator, roll-MemberDeclarator, roll-out-MemberDeclarator}
use Rattle.c_tree.specs.declared.declarator.DeclaratorSuffix.TheOpen.{DeclaratorSuffix-F, Direct-F, Expr-F, Prefix-F, Suffix-F, Enumerator-F, Specifier-F}
use Rattle.c_tree.specs.Layers.{DeclaratorSuffixLayer, DirectLayer, ExprLayer, PrefixLayer, SuffixLayer, EnumeratorLayer, SpecifierLayer, DeclaratorLayer, ParameterLayer, BranchLayer, NextLayer, TypeNameLayer, MemberLayer, MemberDeclaratorLayer}
use Rattle.c_tree.specs.declared.declarator.DeclaratorSuffix.TheFolds.{fold-DeclaratorSuffix, fold-roll-DeclaratorSuffix, map-DeclaratorSuffix, fold-Direct, fold-roll-Direct, map-Direct, fold-Expr, fold-roll-Expr, map-Expr, fold-Prefix, fold-roll-Prefix, map-Prefix, fold-Suffix, fold-roll-Suffix, map-Suffix, fold-Enumerator, fold-roll-Enumerator, map-Enumerator, fold-Specifier, fold-roll-Specifier, map-Specifier, fold-Declarator, fold-roll-Declarator, map-Declarator, fold-Parameter, fold-roll-Parameter, map-Parameter, fold-Branch, fold-roll-Branch, map-Branch, fold-Next, fold-roll-Next, map-Next, fold-TypeName, fold-roll-TypeName, map-TypeName, fold-Member, fold-roll-Member, map-Member, fold-MemberDeclarator, fold-roll-MemberDeclarator, map-MemberDeclarator}
use Rattle.c_typing.specs.OfTrees.{typed_declarator_suffix, typed_direct, typed_expr, typed_prefix, typed_suffix, typed_enumerator, typed_specifier, typed_declarator, typed_parameter, typed_branch, typed_next, typed_type_name, typed_member, typed_member_declarator}
use Rattle.c_typing.specs.Scopes.{Walk}
use Rattle.c_typing.specs.Declarators.{Expressed, Declaring, Suffixed, Specified, TypeNamed, Enumerated, Members}
use Rattle.c_typing.specs.Parts.{Prefixed, Suffixing, Operating, Branching, Listed}

unfoldable pub declarator_suffix_typing : DeclaratorSuffix → Suffixed
declarator_suffix_typing = fold-DeclaratorSuffix Suffixed Declaring Expressed Prefixed Suffixing Enumerated Specified Declaring Listed Branching Operating TypeNamed (Walk Members) Declaring typed_declarator_suffix typed_direct typed_expr typed_prefix typed_suffix typed_enumerator typed_specifier typed_declarator typed_parameter typed_branch typed_next typed_type_name typed_member typed_member_declarator

unfoldable pub direct_typing : Direct → Declaring
direct_typing = fold-Direct Suffixed Declaring Expressed Prefixed Suffixing Enumerated Specified Declaring Listed Branching Operating TypeNamed (Walk Members) Declaring typed_declarator_suffix typed_direct typed_expr typed_prefix typed_suffix typed_enumerator typed_specifier typed_declarator typed_parameter typed_branch typed_next typed_type_name typed_member typed_member_declarator

unfoldable pub expr_typing : Expr → Expressed
expr_typing = fold-Expr Suffixed Declaring Expressed Prefixed Suffixing Enumerated Specified Declaring Listed Branching Operating TypeNamed (Walk Members) Declaring typed_declarator_suffix typed_direct typed_expr typed_prefix typed_suffix typed_enumerator typed_specifier typed_declarator typed_parameter typed_branch typed_next typed_type_name typed_member typed_member_declarator

unfoldable pub prefix_typing : Prefix → Prefixed
prefix_typing = fold-Prefix Suffixed Declaring Expressed Prefixed Suffixing Enumerated Specified Declaring Listed Branching Operating TypeNamed (Walk Members) Declaring typed_declarator_suffix typed_direct typed_expr typed_prefix typed_suffix typed_enumerator typed_specifier typed_declarator typed_parameter typed_branch typed_next typed_type_name typed_member typed_member_declarator

unfoldable pub suffix_typing : Suffix → Suffixing
suffix_typing = fold-Suffix Suffixed Declaring Expressed Prefixed Suffixing Enumerated Specified Declaring Listed Branching Operating TypeNamed (Walk Members) Declaring typed_declarator_suffix typed_direct typed_expr typed_prefix typed_suffix typed_enumerator typed_specifier typed_declarator typed_parameter typed_branch typed_next typed_type_name typed_member typed_member_declarator

unfoldable pub enumerator_typing : Enumerator → Enumerated
enumerator_typing = fold-Enumerator Suffixed Declaring Expressed Prefixed Suffixing Enumerated Specified Declaring Listed Branching Operating TypeNamed (Walk Members) Declaring typed_declarator_suffix typed_direct typed_expr typed_prefix typed_suffix typed_enumerator typed_specifier typed_declarator typed_parameter typed_branch typed_next typed_type_name typed_member typed_member_declarator

unfoldable pub specifier_typing : Specifier → Specified
specifier_typing = fold-Specifier Suffixed Declaring Expressed Prefixed Suffixing Enumerated Specified Declaring Listed Branching Operating TypeNamed (Walk Members) Declaring typed_declarator_suffix typed_direct typed_expr typed_prefix typed_suffix typed_enumerator typed_specifier typed_declarator typed_parameter typed_branch typed_next typed_type_name typed_member typed_member_declarator

unfoldable pub declarator_typing : Declarator → Declaring
declarator_typing = fold-Declarator Suffixed Declaring Expressed Prefixed Suffixing Enumerated Specified Declaring Listed Branching Operating TypeNamed (Walk Members) Declaring typed_declarator_suffix typed_direct typed_expr typed_prefix typed_suffix typed_enumerator typed_specifier typed_declarator typed_parameter typed_branch typed_next typed_type_name typed_member typed_member_declarator

unfoldable pub parameter_typing : Parameter → Listed
parameter_typing = fold-Parameter Suffixed Declaring Expressed Prefixed Suffixing Enumerated Specified Declaring Listed Branching Operating TypeNamed (Walk Members) Declaring typed_declarator_suffix typed_direct typed_expr typed_prefix typed_suffix typed_enumerator typed_specifier typed_declarator typed_parameter typed_branch typed_next typed_type_name typed_member typed_member_declarator

unfoldable pub branch_typing : Branch → Branching
branch_typing = fold-Branch Suffixed Declaring Expressed Prefixed Suffixing Enumerated Specified Declaring Listed Branching Operating TypeNamed (Walk Members) Declaring typed_declarator_suffix typed_direct typed_expr typed_prefix typed_suffix typed_enumerator typed_specifier typed_declarator typed_parameter typed_branch typed_next typed_type_name typed_member typed_member_declarator

unfoldable pub next_typing : Next → Operating
next_typing = fold-Next Suffixed Declaring Expressed Prefixed Suffixing Enumerated Specified Declaring Listed Branching Operating TypeNamed (Walk Members) Declaring typed_declarator_suffix typed_direct typed_expr typed_prefix typed_suffix typed_enumerator typed_specifier typed_declarator typed_parameter typed_branch typed_next typed_type_name typed_member typed_member_declarator

unfoldable pub type_name_typing : TypeName → TypeNamed
type_name_typing = fold-TypeName Suffixed Declaring Expressed Prefixed Suffixing Enumerated Specified Declaring Listed Branching Operating TypeNamed (Walk Members) Declaring typed_declarator_suffix typed_direct typed_expr typed_prefix typed_suffix typed_enumerator typed_specifier typed_declarator typed_parameter typed_branch typed_next typed_type_name typed_member typed_member_declarator

unfoldable pub member_typing : Member → (Walk Members)
member_typing = fold-Member Suffixed Declaring Expressed Prefixed Suffixing Enumerated Specified Declaring Listed Branching Operating TypeNamed (Walk Members) Declaring typed_declarator_suffix typed_direct typed_expr typed_prefix typed_suffix typed_enumerator typed_specifier typed_declarator typed_parameter typed_branch typed_next typed_type_name typed_member typed_member_declarator

unfoldable pub member_declarator_typing : MemberDeclarator → Declaring
member_declarator_typing = fold-MemberDeclarator Suffixed Declaring Expressed Prefixed Suffixing Enumerated Specified Declaring Listed Branching Operating TypeNamed (Walk Members) Declaring typed_declarator_suffix typed_direct typed_expr typed_prefix typed_suffix typed_enumerator typed_specifier typed_declarator typed_parameter typed_branch typed_next typed_type_name typed_member typed_member_declarator

-- ---- what a fold tells of one node

pub declarator_suffix_typing-roll : (node : DeclaratorSuffixLayer) → declarator_suffix_typing (roll-DeclaratorSuffix node) ≡ typed_declarator_suffix (map-DeclaratorSuffix DeclaratorSuffix Direct Expr Prefix Suffix Enumerator Specifier Declarator Parameter Branch Next TypeName Member MemberDeclarator Suffixed Declaring Expressed Prefixed Suffixing Enumerated Specified Declaring Listed Branching Operating TypeNamed (Walk Members) Declaring declarator_suffix_typing direct_typing expr_typing prefix_typing suffix_typing enumerator_typing specifier_typing declarator_typing parameter_typing branch_typing next_typing type_name_typing member_typing member_declarator_typing node)
unfolding declarator_suffix_typing direct_typing expr_typing prefix_typing suffix_typing enumerator_typing specifier_typing declarator_typing parameter_typing branch_typing next_typing type_name_typing member_typing member_declarator_typing
declarator_suffix_typing-roll = fold-roll-DeclaratorSuffix Suffixed Declaring Expressed Prefixed Suffixing Enumerated Specified Declaring Listed Branching Operating TypeNamed (Walk Members) Declaring typed_declarator_suffix typed_direct typed_expr typed_prefix typed_suffix typed_enumerator typed_specifier typed_declarator typed_parameter typed_branch typed_next typed_type_name typed_member typed_member_declarator

pub direct_typing-roll : (node : DirectLayer) → direct_typing (roll-Direct node) ≡ typed_direct (map-Direct DeclaratorSuffix Direct Expr Prefix Suffix Enumerator Specifier Declarator Parameter Branch Next TypeName Member MemberDeclarator Suffixed Declaring Expressed Prefixed Suffixing Enumerated Specified Declaring Listed Branching Operating TypeNamed (Walk Members) Declaring declarator_suffix_typing direct_typing expr_typing prefix_typing suffix_typing enumerator_typing specifier_typing declarator_typing parameter_typing branch_typing next_typing type_name_typing member_typing member_declarator_typing node)
unfolding declarator_suffix_typing direct_typing expr_typing prefix_typing suffix_typing enumerator_typing specifier_typing declarator_typing parameter_typing branch_typing next_typing type_name_typing member_typing member_declarator_typing
direct_typing-roll = fold-roll-Direct Suffixed Declaring Expressed Prefixed Suffixing Enumerated Specified Declaring Listed Branching Operating TypeNamed (Walk Members) Declaring typed_declarator_suffix typed_direct typed_expr typed_prefix typed_suffix typed_enumerator typed_specifier typed_declarator typed_parameter typed_branch typed_next typed_type_name typed_member typed_member_declarator

pub expr_typing-roll : (node : ExprLayer) → expr_typing (roll-Expr node) ≡ typed_expr (map-Expr DeclaratorSuffix Direct Expr Prefix Suffix Enumerator Specifier Declarator Parameter Branch Next TypeName Member MemberDeclarator Suffixed Declaring Expressed Prefixed Suffixing Enumerated Specified Declaring Listed Branching Operating TypeNamed (Walk Members) Declaring declarator_suffix_typing direct_typing expr_typing prefix_typing suffix_typing enumerator_typing specifier_typing declarator_typing parameter_typing branch_typing next_typing type_name_typing member_typing member_declarator_typing node)
unfolding declarator_suffix_typing direct_typing expr_typing prefix_typing suffix_typing enumerator_typing specifier_typing declarator_typing parameter_typing branch_typing next_typing type_name_typing member_typing member_declarator_typing
expr_typing-roll = fold-roll-Expr Suffixed Declaring Expressed Prefixed Suffixing Enumerated Specified Declaring Listed Branching Operating TypeNamed (Walk Members) Declaring typed_declarator_suffix typed_direct typed_expr typed_prefix typed_suffix typed_enumerator typed_specifier typed_declarator typed_parameter typed_branch typed_next typed_type_name typed_member typed_member_declarator

pub prefix_typing-roll : (node : PrefixLayer) → prefix_typing (roll-Prefix node) ≡ typed_prefix (map-Prefix DeclaratorSuffix Direct Expr Prefix Suffix Enumerator Specifier Declarator Parameter Branch Next TypeName Member MemberDeclarator Suffixed Declaring Expressed Prefixed Suffixing Enumerated Specified Declaring Listed Branching Operating TypeNamed (Walk Members) Declaring declarator_suffix_typing direct_typing expr_typing prefix_typing suffix_typing enumerator_typing specifier_typing declarator_typing parameter_typing branch_typing next_typing type_name_typing member_typing member_declarator_typing node)
unfolding declarator_suffix_typing direct_typing expr_typing prefix_typing suffix_typing enumerator_typing specifier_typing declarator_typing parameter_typing branch_typing next_typing type_name_typing member_typing member_declarator_typing
prefix_typing-roll = fold-roll-Prefix Suffixed Declaring Expressed Prefixed Suffixing Enumerated Specified Declaring Listed Branching Operating TypeNamed (Walk Members) Declaring typed_declarator_suffix typed_direct typed_expr typed_prefix typed_suffix typed_enumerator typed_specifier typed_declarator typed_parameter typed_branch typed_next typed_type_name typed_member typed_member_declarator

pub suffix_typing-roll : (node : SuffixLayer) → suffix_typing (roll-Suffix node) ≡ typed_suffix (map-Suffix DeclaratorSuffix Direct Expr Prefix Suffix Enumerator Specifier Declarator Parameter Branch Next TypeName Member MemberDeclarator Suffixed Declaring Expressed Prefixed Suffixing Enumerated Specified Declaring Listed Branching Operating TypeNamed (Walk Members) Declaring declarator_suffix_typing direct_typing expr_typing prefix_typing suffix_typing enumerator_typing specifier_typing declarator_typing parameter_typing branch_typing next_typing type_name_typing member_typing member_declarator_typing node)
unfolding declarator_suffix_typing direct_typing expr_typing prefix_typing suffix_typing enumerator_typing specifier_typing declarator_typing parameter_typing branch_typing next_typing type_name_typing member_typing member_declarator_typing
suffix_typing-roll = fold-roll-Suffix Suffixed Declaring Expressed Prefixed Suffixing Enumerated Specified Declaring Listed Branching Operating TypeNamed (Walk Members) Declaring typed_declarator_suffix typed_direct typed_expr typed_prefix typed_suffix typed_enumerator typed_specifier typed_declarator typed_parameter typed_branch typed_next typed_type_name typed_member typed_member_declarator

pub enumerator_typing-roll : (node : EnumeratorLayer) → enumerator_typing (roll-Enumerator node) ≡ typed_enumerator (map-Enumerator DeclaratorSuffix Direct Expr Prefix Suffix Enumerator Specifier Declarator Parameter Branch Next TypeName Member MemberDeclarator Suffixed Declaring Expressed Prefixed Suffixing Enumerated Specified Declaring Listed Branching Operating TypeNamed (Walk Members) Declaring declarator_suffix_typing direct_typing expr_typing prefix_typing suffix_typing enumerator_typing specifier_typing declarator_typing parameter_typing branch_typing next_typing type_name_typing member_typing member_declarator_typing node)
unfolding declarator_suffix_typing direct_typing expr_typing prefix_typing suffix_typing enumerator_typing specifier_typing declarator_typing parameter_typing branch_typing next_typing type_name_typing member_typing member_declarator_typing
enumerator_typing-roll = fold-roll-Enumerator Suffixed Declaring Expressed Prefixed Suffixing Enumerated Specified Declaring Listed Branching Operating TypeNamed (Walk Members) Declaring typed_declarator_suffix typed_direct typed_expr typed_prefix typed_suffix typed_enumerator typed_specifier typed_declarator typed_parameter typed_branch typed_next typed_type_name typed_member typed_member_declarator

pub specifier_typing-roll : (node : SpecifierLayer) → specifier_typing (roll-Specifier node) ≡ typed_specifier (map-Specifier DeclaratorSuffix Direct Expr Prefix Suffix Enumerator Specifier Declarator Parameter Branch Next TypeName Member MemberDeclarator Suffixed Declaring Expressed Prefixed Suffixing Enumerated Specified Declaring Listed Branching Operating TypeNamed (Walk Members) Declaring declarator_suffix_typing direct_typing expr_typing prefix_typing suffix_typing enumerator_typing specifier_typing declarator_typing parameter_typing branch_typing next_typing type_name_typing member_typing member_declarator_typing node)
unfolding declarator_suffix_typing direct_typing expr_typing prefix_typing suffix_typing enumerator_typing specifier_typing declarator_typing parameter_typing branch_typing next_typing type_name_typing member_typing member_declarator_typing
specifier_typing-roll = fold-roll-Specifier Suffixed Declaring Expressed Prefixed Suffixing Enumerated Specified Declaring Listed Branching Operating TypeNamed (Walk Members) Declaring typed_declarator_suffix typed_direct typed_expr typed_prefix typed_suffix typed_enumerator typed_specifier typed_declarator typed_parameter typed_branch typed_next typed_type_name typed_member typed_member_declarator

pub declarator_typing-roll : (node : DeclaratorLayer) → declarator_typing (roll-Declarator node) ≡ typed_declarator (map-Declarator DeclaratorSuffix Direct Expr Prefix Suffix Enumerator Specifier Declarator Parameter Branch Next TypeName Member MemberDeclarator Suffixed Declaring Expressed Prefixed Suffixing Enumerated Specified Declaring Listed Branching Operating TypeNamed (Walk Members) Declaring declarator_suffix_typing direct_typing expr_typing prefix_typing suffix_typing enumerator_typing specifier_typing declarator_typing parameter_typing branch_typing next_typing type_name_typing member_typing member_declarator_typing node)
unfolding declarator_suffix_typing direct_typing expr_typing prefix_typing suffix_typing enumerator_typing specifier_typing declarator_typing parameter_typing branch_typing next_typing type_name_typing member_typing member_declarator_typing
declarator_typing-roll = fold-roll-Declarator Suffixed Declaring Expressed Prefixed Suffixing Enumerated Specified Declaring Listed Branching Operating TypeNamed (Walk Members) Declaring typed_declarator_suffix typed_direct typed_expr typed_prefix typed_suffix typed_enumerator typed_specifier typed_declarator typed_parameter typed_branch typed_next typed_type_name typed_member typed_member_declarator

pub parameter_typing-roll : (node : ParameterLayer) → parameter_typing (roll-Parameter node) ≡ typed_parameter (map-Parameter DeclaratorSuffix Direct Expr Prefix Suffix Enumerator Specifier Declarator Parameter Branch Next TypeName Member MemberDeclarator Suffixed Declaring Expressed Prefixed Suffixing Enumerated Specified Declaring Listed Branching Operating TypeNamed (Walk Members) Declaring declarator_suffix_typing direct_typing expr_typing prefix_typing suffix_typing enumerator_typing specifier_typing declarator_typing parameter_typing branch_typing next_typing type_name_typing member_typing member_declarator_typing node)
unfolding declarator_suffix_typing direct_typing expr_typing prefix_typing suffix_typing enumerator_typing specifier_typing declarator_typing parameter_typing branch_typing next_typing type_name_typing member_typing member_declarator_typing
parameter_typing-roll = fold-roll-Parameter Suffixed Declaring Expressed Prefixed Suffixing Enumerated Specified Declaring Listed Branching Operating TypeNamed (Walk Members) Declaring typed_declarator_suffix typed_direct typed_expr typed_prefix typed_suffix typed_enumerator typed_specifier typed_declarator typed_parameter typed_branch typed_next typed_type_name typed_member typed_member_declarator

pub branch_typing-roll : (node : BranchLayer) → branch_typing (roll-Branch node) ≡ typed_branch (map-Branch DeclaratorSuffix Direct Expr Prefix Suffix Enumerator Specifier Declarator Parameter Branch Next TypeName Member MemberDeclarator Suffixed Declaring Expressed Prefixed Suffixing Enumerated Specified Declaring Listed Branching Operating TypeNamed (Walk Members) Declaring declarator_suffix_typing direct_typing expr_typing prefix_typing suffix_typing enumerator_typing specifier_typing declarator_typing parameter_typing branch_typing next_typing type_name_typing member_typing member_declarator_typing node)
unfolding declarator_suffix_typing direct_typing expr_typing prefix_typing suffix_typing enumerator_typing specifier_typing declarator_typing parameter_typing branch_typing next_typing type_name_typing member_typing member_declarator_typing
branch_typing-roll = fold-roll-Branch Suffixed Declaring Expressed Prefixed Suffixing Enumerated Specified Declaring Listed Branching Operating TypeNamed (Walk Members) Declaring typed_declarator_suffix typed_direct typed_expr typed_prefix typed_suffix typed_enumerator typed_specifier typed_declarator typed_parameter typed_branch typed_next typed_type_name typed_member typed_member_declarator

pub next_typing-roll : (node : NextLayer) → next_typing (roll-Next node) ≡ typed_next (map-Next DeclaratorSuffix Direct Expr Prefix Suffix Enumerator Specifier Declarator Parameter Branch Next TypeName Member MemberDeclarator Suffixed Declaring Expressed Prefixed Suffixing Enumerated Specified Declaring Listed Branching Operating TypeNamed (Walk Members) Declaring declarator_suffix_typing direct_typing expr_typing prefix_typing suffix_typing enumerator_typing specifier_typing declarator_typing parameter_typing branch_typing next_typing type_name_typing member_typing member_declarator_typing node)
unfolding declarator_suffix_typing direct_typing expr_typing prefix_typing suffix_typing enumerator_typing specifier_typing declarator_typing parameter_typing branch_typing next_typing type_name_typing member_typing member_declarator_typing
next_typing-roll = fold-roll-Next Suffixed Declaring Expressed Prefixed Suffixing Enumerated Specified Declaring Listed Branching Operating TypeNamed (Walk Members) Declaring typed_declarator_suffix typed_direct typed_expr typed_prefix typed_suffix typed_enumerator typed_specifier typed_declarator typed_parameter typed_branch typed_next typed_type_name typed_member typed_member_declarator

pub type_name_typing-roll : (node : TypeNameLayer) → type_name_typing (roll-TypeName node) ≡ typed_type_name (map-TypeName DeclaratorSuffix Direct Expr Prefix Suffix Enumerator Specifier Declarator Parameter Branch Next TypeName Member MemberDeclarator Suffixed Declaring Expressed Prefixed Suffixing Enumerated Specified Declaring Listed Branching Operating TypeNamed (Walk Members) Declaring declarator_suffix_typing direct_typing expr_typing prefix_typing suffix_typing enumerator_typing specifier_typing declarator_typing parameter_typing branch_typing next_typing type_name_typing member_typing member_declarator_typing node)
unfolding declarator_suffix_typing direct_typing expr_typing prefix_typing suffix_typing enumerator_typing specifier_typing declarator_typing parameter_typing branch_typing next_typing type_name_typing member_typing member_declarator_typing
type_name_typing-roll = fold-roll-TypeName Suffixed Declaring Expressed Prefixed Suffixing Enumerated Specified Declaring Listed Branching Operating TypeNamed (Walk Members) Declaring typed_declarator_suffix typed_direct typed_expr typed_prefix typed_suffix typed_enumerator typed_specifier typed_declarator typed_parameter typed_branch typed_next typed_type_name typed_member typed_member_declarator

pub member_typing-roll : (node : MemberLayer) → member_typing (roll-Member node) ≡ typed_member (map-Member DeclaratorSuffix Direct Expr Prefix Suffix Enumerator Specifier Declarator Parameter Branch Next TypeName Member MemberDeclarator Suffixed Declaring Expressed Prefixed Suffixing Enumerated Specified Declaring Listed Branching Operating TypeNamed (Walk Members) Declaring declarator_suffix_typing direct_typing expr_typing prefix_typing suffix_typing enumerator_typing specifier_typing declarator_typing parameter_typing branch_typing next_typing type_name_typing member_typing member_declarator_typing node)
unfolding declarator_suffix_typing direct_typing expr_typing prefix_typing suffix_typing enumerator_typing specifier_typing declarator_typing parameter_typing branch_typing next_typing type_name_typing member_typing member_declarator_typing
member_typing-roll = fold-roll-Member Suffixed Declaring Expressed Prefixed Suffixing Enumerated Specified Declaring Listed Branching Operating TypeNamed (Walk Members) Declaring typed_declarator_suffix typed_direct typed_expr typed_prefix typed_suffix typed_enumerator typed_specifier typed_declarator typed_parameter typed_branch typed_next typed_type_name typed_member typed_member_declarator

pub member_declarator_typing-roll : (node : MemberDeclaratorLayer) → member_declarator_typing (roll-MemberDeclarator node) ≡ typed_member_declarator (map-MemberDeclarator DeclaratorSuffix Direct Expr Prefix Suffix Enumerator Specifier Declarator Parameter Branch Next TypeName Member MemberDeclarator Suffixed Declaring Expressed Prefixed Suffixing Enumerated Specified Declaring Listed Branching Operating TypeNamed (Walk Members) Declaring declarator_suffix_typing direct_typing expr_typing prefix_typing suffix_typing enumerator_typing specifier_typing declarator_typing parameter_typing branch_typing next_typing type_name_typing member_typing member_declarator_typing node)
unfolding declarator_suffix_typing direct_typing expr_typing prefix_typing suffix_typing enumerator_typing specifier_typing declarator_typing parameter_typing branch_typing next_typing type_name_typing member_typing member_declarator_typing
member_declarator_typing-roll = fold-roll-MemberDeclarator Suffixed Declaring Expressed Prefixed Suffixing Enumerated Specified Declaring Listed Branching Operating TypeNamed (Walk Members) Declaring typed_declarator_suffix typed_direct typed_expr typed_prefix typed_suffix typed_enumerator typed_specifier typed_declarator typed_parameter typed_branch typed_next typed_type_name typed_member typed_member_declarator

-- ---- one equation for each kind of node

pub declarator_suffix_typing-Array : (from : Pos) (to : Pos) → declarator_suffix_typing (declarator_suffix.Array from to) ≡ typed_declarator_suffix (DeclaratorSuffix-F.Array from to)
declarator_suffix_typing-Array from to = ap declarator_suffix_typing (sym (declarator_suffix.rolls-Array from to)) ∙ declarator_suffix_typing-roll (DeclaratorSuffix-F.Array from to)

pub declarator_suffix_typing-ArrayOf : (from : Pos) (size : Expr) (to : Pos) → declarator_suffix_typing (declarator_suffix.ArrayOf from size to) ≡ typed_declarator_suffix (DeclaratorSuffix-F.ArrayOf from (expr_typing size) to)
declarator_suffix_typing-ArrayOf from size to = ap declarator_suffix_typing (sym (declarator_suffix.rolls-ArrayOf from size to)) ∙ declarator_suffix_typing-roll (DeclaratorSuffix-F.ArrayOf from size to)

pub declarator_suffix_typing-Empty : (from : Pos) (to : Pos) → declarator_suffix_typing (declarator_suffix.Empty from to) ≡ typed_declarator_suffix (DeclaratorSuffix-F.Empty from to)
declarator_suffix_typing-Empty from to = ap declarator_suffix_typing (sym (declarator_suffix.rolls-Empty from to)) ∙ declarator_suffix_typing-roll (DeclaratorSuffix-F.Empty from to)

pub declarator_suffix_typing-Void : (from : Pos) (at : Pos) (to : Pos) → declarator_suffix_typing (declarator_suffix.Void from at to) ≡ typed_declarator_suffix (DeclaratorSuffix-F.Void from at to)
declarator_suffix_typing-Void from at to = ap declarator_suffix_typing (sym (declarator_suffix.rolls-Void from at to)) ∙ declarator_suffix_typing-roll (DeclaratorSuffix-F.Void from at to)

pub declarator_suffix_typing-Parameters : (from : Pos) (all : List Parameter) (to : Pos) → declarator_suffix_typing (declarator_suffix.Parameters from all to) ≡ typed_declarator_suffix (DeclaratorSuffix-F.Parameters from (map parameter_typing all) to)
declarator_suffix_typing-Parameters from all to = ap declarator_suffix_typing (sym (declarator_suffix.rolls-Parameters from all to)) ∙ declarator_suffix_typing-roll (DeclaratorSuffix-F.Parameters from all to)

pub direct_typing-Nothing : direct_typing direct.Nothing ≡ typed_direct Direct-F.Nothing
direct_typing-Nothing = ap direct_typing (sym direct.rolls-Nothing) ∙ direct_typing-roll Direct-F.Nothing

pub direct_typing-Named : (name : Identifier) → direct_typing (direct.Named name) ≡ typed_direct (Direct-F.Named name)
direct_typing-Named name = ap direct_typing (sym (direct.rolls-Named name)) ∙ direct_typing-roll (Direct-F.Named name)

pub direct_typing-Grouped : (from : Pos) (inner : Declarator) (to : Pos) → direct_typing (direct.Grouped from inner to) ≡ typed_direct (Direct-F.Grouped from (declarator_typing inner) to)
direct_typing-Grouped from inner to = ap direct_typing (sym (direct.rolls-Grouped from inner to)) ∙ direct_typing-roll (Direct-F.Grouped from inner to)

pub expr_typing-Name : (name : Identifier) → expr_typing (expr.Name name) ≡ typed_expr (Expr-F.Name name)
expr_typing-Name name = ap expr_typing (sym (expr.rolls-Name name)) ∙ expr_typing-roll (Expr-F.Name name)

pub expr_typing-Number : (value : ℕ) (kind : IntKind) (at : Pos) → expr_typing (expr.Number value kind at) ≡ typed_expr (Expr-F.Number value kind at)
expr_typing-Number value kind at = ap expr_typing (sym (expr.rolls-Number value kind at)) ∙ expr_typing-roll (Expr-F.Number value kind at)

pub expr_typing-Char : (value : ℕ) (at : Pos) → expr_typing (expr.Char value at) ≡ typed_expr (Expr-F.Char value at)
expr_typing-Char value at = ap expr_typing (sym (expr.rolls-Char value at)) ∙ expr_typing-roll (Expr-F.Char value at)

pub expr_typing-Strings : (all : List Literal) → expr_typing (expr.Strings all) ≡ typed_expr (Expr-F.Strings all)
expr_typing-Strings all = ap expr_typing (sym (expr.rolls-Strings all)) ∙ expr_typing-roll (Expr-F.Strings all)

pub expr_typing-Paren : (from : Pos) (inner : Expr) (to : Pos) → expr_typing (expr.Paren from inner to) ≡ typed_expr (Expr-F.Paren from (expr_typing inner) to)
expr_typing-Paren from inner to = ap expr_typing (sym (expr.rolls-Paren from inner to)) ∙ expr_typing-roll (Expr-F.Paren from inner to)

pub expr_typing-Postfix : (operand : Expr) (suffixes : List Suffix) → expr_typing (expr.Postfix operand suffixes) ≡ typed_expr (Expr-F.Postfix (expr_typing operand) (map suffix_typing suffixes))
expr_typing-Postfix operand suffixes = ap expr_typing (sym (expr.rolls-Postfix operand suffixes)) ∙ expr_typing-roll (Expr-F.Postfix operand suffixes)

pub expr_typing-SizeofType : (at : Pos) (from : Pos) (type : TypeName) (to : Pos) → expr_typing (expr.SizeofType at from type to) ≡ typed_expr (Expr-F.SizeofType at from (type_name_typing type) to)
expr_typing-SizeofType at from type to = ap expr_typing (sym (expr.rolls-SizeofType at from type to)) ∙ expr_typing-roll (Expr-F.SizeofType at from type to)

pub expr_typing-Prefixed : (run : List Prefix) (operand : Expr) → expr_typing (expr.Prefixed run operand) ≡ typed_expr (Expr-F.Prefixed (map prefix_typing run) (expr_typing operand))
expr_typing-Prefixed run operand = ap expr_typing (sym (expr.rolls-Prefixed run operand)) ∙ expr_typing-roll (Expr-F.Prefixed run operand)

pub expr_typing-Binary : (level : Level) (first : Expr) (rest : List Next) → expr_typing (expr.Binary level first rest) ≡ typed_expr (Expr-F.Binary level (expr_typing first) (map next_typing rest))
expr_typing-Binary level first rest = ap expr_typing (sym (expr.rolls-Binary level first rest)) ∙ expr_typing-roll (Expr-F.Binary level first rest)

pub expr_typing-Conditional : (first : Expr) (rest : List Branch) → expr_typing (expr.Conditional first rest) ≡ typed_expr (Expr-F.Conditional (expr_typing first) (map branch_typing rest))
expr_typing-Conditional first rest = ap expr_typing (sym (expr.rolls-Conditional first rest)) ∙ expr_typing-roll (Expr-F.Conditional first rest)

pub expr_typing-Assign : (first : Expr) (rest : List Next) → expr_typing (expr.Assign first rest) ≡ typed_expr (Expr-F.Assign (expr_typing first) (map next_typing rest))
expr_typing-Assign first rest = ap expr_typing (sym (expr.rolls-Assign first rest)) ∙ expr_typing-roll (Expr-F.Assign first rest)

pub expr_typing-Comma : (first : Expr) (rest : List Next) → expr_typing (expr.Comma first rest) ≡ typed_expr (Expr-F.Comma (expr_typing first) (map next_typing rest))
expr_typing-Comma first rest = ap expr_typing (sym (expr.rolls-Comma first rest)) ∙ expr_typing-roll (Expr-F.Comma first rest)

pub prefix_typing-Operator : (mark : Mark) → prefix_typing (prefix.Operator mark) ≡ typed_prefix (Prefix-F.Operator mark)
prefix_typing-Operator mark = ap prefix_typing (sym (prefix.rolls-Operator mark)) ∙ prefix_typing-roll (Prefix-F.Operator mark)

pub prefix_typing-Sizeof : (at : Pos) → prefix_typing (prefix.Sizeof at) ≡ typed_prefix (Prefix-F.Sizeof at)
prefix_typing-Sizeof at = ap prefix_typing (sym (prefix.rolls-Sizeof at)) ∙ prefix_typing-roll (Prefix-F.Sizeof at)

pub prefix_typing-Cast : (from : Pos) (type : TypeName) (to : Pos) → prefix_typing (prefix.Cast from type to) ≡ typed_prefix (Prefix-F.Cast from (type_name_typing type) to)
prefix_typing-Cast from type to = ap prefix_typing (sym (prefix.rolls-Cast from type to)) ∙ prefix_typing-roll (Prefix-F.Cast from type to)

pub suffix_typing-Index : (from : Pos) (inner : Expr) (to : Pos) → suffix_typing (suffix.Index from inner to) ≡ typed_suffix (Suffix-F.Index from (expr_typing inner) to)
suffix_typing-Index from inner to = ap suffix_typing (sym (suffix.rolls-Index from inner to)) ∙ suffix_typing-roll (Suffix-F.Index from inner to)

pub suffix_typing-Call : (from : Pos) (to : Pos) → suffix_typing (suffix.Call from to) ≡ typed_suffix (Suffix-F.Call from to)
suffix_typing-Call from to = ap suffix_typing (sym (suffix.rolls-Call from to)) ∙ suffix_typing-roll (Suffix-F.Call from to)

pub suffix_typing-CallWith : (from : Pos) (first : Expr) (rest : List Next) (to : Pos) → suffix_typing (suffix.CallWith from first rest to) ≡ typed_suffix (Suffix-F.CallWith from (expr_typing first) (map next_typing rest) to)
suffix_typing-CallWith from first rest to = ap suffix_typing (sym (suffix.rolls-CallWith from first rest to)) ∙ suffix_typing-roll (Suffix-F.CallWith from first rest to)

pub suffix_typing-Member : (at : Pos) (name : Identifier) → suffix_typing (suffix.Member at name) ≡ typed_suffix (Suffix-F.Member at name)
suffix_typing-Member at name = ap suffix_typing (sym (suffix.rolls-Member at name)) ∙ suffix_typing-roll (Suffix-F.Member at name)

pub suffix_typing-Arrow : (at : Pos) (name : Identifier) → suffix_typing (suffix.Arrow at name) ≡ typed_suffix (Suffix-F.Arrow at name)
suffix_typing-Arrow at name = ap suffix_typing (sym (suffix.rolls-Arrow at name)) ∙ suffix_typing-roll (Suffix-F.Arrow at name)

pub suffix_typing-Increment : (at : Pos) → suffix_typing (suffix.Increment at) ≡ typed_suffix (Suffix-F.Increment at)
suffix_typing-Increment at = ap suffix_typing (sym (suffix.rolls-Increment at)) ∙ suffix_typing-roll (Suffix-F.Increment at)

pub suffix_typing-Decrement : (at : Pos) → suffix_typing (suffix.Decrement at) ≡ typed_suffix (Suffix-F.Decrement at)
suffix_typing-Decrement at = ap suffix_typing (sym (suffix.rolls-Decrement at)) ∙ suffix_typing-roll (Suffix-F.Decrement at)

pub enumerator_typing-Plain : (comma : Option Pos) (name : Identifier) → enumerator_typing (enumerator.Plain comma name) ≡ typed_enumerator (Enumerator-F.Plain comma name)
enumerator_typing-Plain comma name = ap enumerator_typing (sym (enumerator.rolls-Plain comma name)) ∙ enumerator_typing-roll (Enumerator-F.Plain comma name)

pub enumerator_typing-Valued : (comma : Option Pos) (name : Identifier) (equals : Pos) (value : Expr) → enumerator_typing (enumerator.Valued comma name equals value) ≡ typed_enumerator (Enumerator-F.Valued comma name equals (expr_typing value))
enumerator_typing-Valued comma name equals value = ap enumerator_typing (sym (enumerator.rolls-Valued comma name equals value)) ∙ enumerator_typing-roll (Enumerator-F.Valued comma name equals value)

pub specifier_typing-Storage : (storage : Storage) (at : Pos) → specifier_typing (specifier.Storage storage at) ≡ typed_specifier (Specifier-F.Storage storage at)
specifier_typing-Storage storage at = ap specifier_typing (sym (specifier.rolls-Storage storage at)) ∙ specifier_typing-roll (Specifier-F.Storage storage at)

pub specifier_typing-Const : (at : Pos) → specifier_typing (specifier.Const at) ≡ typed_specifier (Specifier-F.Const at)
specifier_typing-Const at = ap specifier_typing (sym (specifier.rolls-Const at)) ∙ specifier_typing-roll (Specifier-F.Const at)

pub specifier_typing-Word : (word : TypeWord) (at : Pos) → specifier_typing (specifier.Word word at) ≡ typed_specifier (Specifier-F.Word word at)
specifier_typing-Word word at = ap specifier_typing (sym (specifier.rolls-Word word at)) ∙ specifier_typing-roll (Specifier-F.Word word at)

pub specifier_typing-StructTag : (at : Pos) (tag : Identifier) → specifier_typing (specifier.StructTag at tag) ≡ typed_specifier (Specifier-F.StructTag at tag)
specifier_typing-StructTag at tag = ap specifier_typing (sym (specifier.rolls-StructTag at tag)) ∙ specifier_typing-roll (Specifier-F.StructTag at tag)

pub specifier_typing-Struct : (at : Pos) (tag : Option Identifier) (from : Pos) (members : List Member) (to : Pos) → specifier_typing (specifier.Struct at tag from members to) ≡ typed_specifier (Specifier-F.Struct at tag from (map member_typing members) to)
specifier_typing-Struct at tag from members to = ap specifier_typing (sym (specifier.rolls-Struct at tag from members to)) ∙ specifier_typing-roll (Specifier-F.Struct at tag from members to)

pub specifier_typing-EnumTag : (at : Pos) (tag : Identifier) → specifier_typing (specifier.EnumTag at tag) ≡ typed_specifier (Specifier-F.EnumTag at tag)
specifier_typing-EnumTag at tag = ap specifier_typing (sym (specifier.rolls-EnumTag at tag)) ∙ specifier_typing-roll (Specifier-F.EnumTag at tag)

pub specifier_typing-Enum : (at : Pos) (tag : Option Identifier) (from : Pos) (enumerators : List Enumerator) (comma : Option Pos) (to : Pos) → specifier_typing (specifier.Enum at tag from enumerators comma to) ≡ typed_specifier (Specifier-F.Enum at tag from (map enumerator_typing enumerators) comma to)
specifier_typing-Enum at tag from enumerators comma to = ap specifier_typing (sym (specifier.rolls-Enum at tag from enumerators comma to)) ∙ specifier_typing-roll (Specifier-F.Enum at tag from enumerators comma to)

pub specifier_typing-TypedefName : (name : Identifier) → specifier_typing (specifier.TypedefName name) ≡ typed_specifier (Specifier-F.TypedefName name)
specifier_typing-TypedefName name = ap specifier_typing (sym (specifier.rolls-TypedefName name)) ∙ specifier_typing-roll (Specifier-F.TypedefName name)

pub declarator_typing-is : (node : Declarator) → declarator_typing node ≡ typed_declarator (record { pointers = (out-Declarator node).pointers; direct = direct_typing (out-Declarator node).direct; suffixes = map declarator_suffix_typing (out-Declarator node).suffixes })
declarator_typing-is node = ap declarator_typing (sym (roll-out-Declarator node)) ∙ declarator_typing-roll (out-Declarator node)

pub parameter_typing-is : (node : Parameter) → parameter_typing node ≡ typed_parameter (record { comma = (out-Parameter node).comma; specifiers = map specifier_typing (out-Parameter node).specifiers; declarator = declarator_typing (out-Parameter node).declarator })
parameter_typing-is node = ap parameter_typing (sym (roll-out-Parameter node)) ∙ parameter_typing-roll (out-Parameter node)

pub branch_typing-is : (node : Branch) → branch_typing node ≡ typed_branch (record { question = (out-Branch node).question; gives = expr_typing (out-Branch node).gives; colon = (out-Branch node).colon; operand = expr_typing (out-Branch node).operand })
branch_typing-is node = ap branch_typing (sym (roll-out-Branch node)) ∙ branch_typing-roll (out-Branch node)

pub next_typing-is : (node : Next) → next_typing node ≡ typed_next (record { operator = (out-Next node).operator; operand = expr_typing (out-Next node).operand })
next_typing-is node = ap next_typing (sym (roll-out-Next node)) ∙ next_typing-roll (out-Next node)

pub type_name_typing-is : (node : TypeName) → type_name_typing node ≡ typed_type_name (record { specifiers = map specifier_typing (out-TypeName node).specifiers; declarator = declarator_typing (out-TypeName node).declarator })
type_name_typing-is node = ap type_name_typing (sym (roll-out-TypeName node)) ∙ type_name_typing-roll (out-TypeName node)

pub member_typing-is : (node : Member) → member_typing node ≡ typed_member (record { specifiers = map specifier_typing (out-Member node).specifiers; declarators = map member_declarator_typing (out-Member node).declarators; semicolon = (out-Member node).semicolon })
member_typing-is node = ap member_typing (sym (roll-out-Member node)) ∙ member_typing-roll (out-Member node)

pub member_declarator_typing-is : (node : MemberDeclarator) → member_declarator_typing node ≡ typed_member_declarator (record { comma = (out-MemberDeclarator node).comma; declarator = declarator_typing (out-MemberDeclarator node).declarator })
member_declarator_typing-is node = ap member_declarator_typing (sym (roll-out-MemberDeclarator node)) ∙ member_declarator_typing-roll (out-MemberDeclarator node)
