-- Every expression, specifier and declarator gives something where typing tells no fault of it.
use Rattle.std.specs.Prelude.{refl, ◌≡◌, Bool, List, [], ◌∷◌, None, map, is_some, ◌&&◌, not}
use Rattle.std.specs.List.{AllByRecursion}
use Rattle.std.proofs.Common.{sym, subst}
use Rattle.c_tree.specs.declared.declarator.DeclaratorSuffix.TheOpen.{DeclaratorSuffix-F, Direct-F, Expr-F, Prefix-F, Suffix-F, Enumerator-F, Specifier-F}
use Rattle.c_tree.specs.declared.declarator.DeclaratorSuffix.{roll-DeclaratorSuffix}
use Rattle.c_tree.specs.declared.declarator.Direct.{roll-Direct}
use Rattle.c_tree.specs.declared.declarator.Parameter.{roll-Parameter}
use Rattle.c_tree.specs.declared.expression.Expr.{Expr, roll-Expr}
use Rattle.c_tree.specs.declared.expression.Prefix.{roll-Prefix}
use Rattle.c_tree.specs.declared.expression.Suffix.{roll-Suffix}
use Rattle.c_tree.specs.declared.specifier.Enumerator.{roll-Enumerator}
use Rattle.c_tree.specs.declared.specifier.Specifier.{Specifier, roll-Specifier}
use Rattle.c_tree.specs.declared.declarator.Declarator.{Declarator, roll-Declarator}
use Rattle.c_tree.specs.declared.expression.Branch.{roll-Branch}
use Rattle.c_tree.specs.declared.expression.Next.{roll-Next}
use Rattle.c_tree.specs.declared.expression.TypeName.{roll-TypeName}
use Rattle.c_tree.specs.declared.specifier.Member.{roll-Member}
use Rattle.c_tree.specs.declared.specifier.MemberDeclarator.{roll-MemberDeclarator}
use Rattle.c_typing.specs.declared.declarator.Part.TheVariants.{Arraying, Listing}
use Rattle.c_typing.specs.Declarators.{struct_row, enum_row, struct_tag_row, enum_tag_row, first_token}
use Rattle.c_typing.specs.OfTrees as typing
use Rattle.c_typing.specs.Trees.{declarator_suffix_typing, declarator_suffix_typing-roll, direct_typing, direct_typing-roll, expr_typing, expr_typing-roll, prefix_typing, prefix_typing-roll, suffix_typing, suffix_typing-roll, enumerator_typing, enumerator_typing-roll, specifier_typing, specifier_typing-roll, declarator_typing, declarator_typing-roll, parameter_typing, parameter_typing-roll, branch_typing, branch_typing-roll, next_typing, next_typing-roll, type_name_typing, type_name_typing-roll, member_typing, member_typing-roll, member_declarator_typing, member_declarator_typing-roll}
use Rattle.c_typing_laws.specs.Scopes.{gives, chain}
use Rattle.c_typing_laws.specs.Expressions.{name_row, string_row, size_row}
use Rattle.c_typing_laws.specs.Declarators.{Says, Derives, Counts, Specifies, IsSpecific, AreMembers, storing, qualifying, wording, naming, using}
use Rattle.c_typing_laws.specs.Declarators as declarators
use Rattle.c_typing_laws.specs.OfTrees.{Suffixes, Prefixes, Continues, Branches, Operates, NamesType, ListsMembers, Listed, all_of, prefixed, postfix_row, leveled, conditional, assigned, comma, operands, named_type, member, pointing, declarator, listing, array_of, parameter}
use Rattle.c_typing_laws.specs.Known.{Steps, every_expr, every_specifier, every_declarator, DeclaratorSuffixOfKnown, bare_declarator_suffix, DirectOfKnown, bare_direct, ExprOfKnown, bare_expr, PrefixOfKnown, bare_prefix, SuffixOfKnown, bare_suffix, EnumeratorOfKnown, bare_enumerator, SpecifierOfKnown, bare_specifier, DeclaratorOfKnown, bare_declarator, ParameterOfKnown, bare_parameter, BranchOfKnown, bare_branch, NextOfKnown, bare_next, TypeNameOfKnown, bare_type_name, MemberOfKnown, bare_member, MemberDeclaratorOfKnown, bare_member_declarator}

back : {A : Type 0} (P : A → Type 0) {typed step : A} → typed ≡ step → P step → P typed
back P e h = subst P (sym e) h

-- ---- the nodes

of_expr : (y : ExprOfKnown) → Says (expr_typing (roll-Expr (bare_expr y)))
of_expr (Expr-F.Name id) = back Says (expr_typing-roll (Expr-F.Name id)) (name_row id)
of_expr (Expr-F.Number value kind at) = back Says (expr_typing-roll (Expr-F.Number value kind at)) (gives _ tt)
of_expr (Expr-F.Char value at) = back Says (expr_typing-roll (Expr-F.Char value at)) (gives _ tt)
of_expr (Expr-F.Strings all) = back Says (expr_typing-roll (Expr-F.Strings all)) (string_row (typing.first_literal all) (typing.bytes_of_all all))
of_expr (Expr-F.Paren from inner to) = back Says (expr_typing-roll (Expr-F.Paren from inner.0 to)) inner.1
of_expr (Expr-F.Postfix operand rest) =
    back Says (expr_typing-roll (Expr-F.Postfix operand.0 (map (λ e. e.0) rest)))
    (postfix_row (expr_typing operand.0) (expr_typing operand.0).callee (map suffix_typing (map (λ e. e.0) rest)) operand.1 (all_of suffix_typing Continues rest))
of_expr (Expr-F.SizeofType at from type to) =
    back Says (expr_typing-roll (Expr-F.SizeofType at from type.0 to)) (chain (type.1 at) (λ t h. size_row at t))
of_expr (Expr-F.Prefixed run operand) =
    back Says (expr_typing-roll (Expr-F.Prefixed (map (λ e. e.0) run) operand.0))
    (prefixed (map prefix_typing (map (λ e. e.0) run)) (expr_typing operand.0) (all_of prefix_typing Prefixes run) operand.1)
of_expr (Expr-F.Binary level first rest) =
    back Says (expr_typing-roll (Expr-F.Binary level first.0 (map (λ e. e.0) rest)))
    (leveled level (expr_typing first.0) (map next_typing (map (λ e. e.0) rest)) first.1 (all_of next_typing Operates rest))
of_expr (Expr-F.Conditional first rest) =
    back Says (expr_typing-roll (Expr-F.Conditional first.0 (map (λ e. e.0) rest)))
    (conditional (expr_typing first.0) (map branch_typing (map (λ e. e.0) rest)) first.1 (all_of branch_typing Branches rest))
of_expr (Expr-F.Assign first rest) =
    back Says (expr_typing-roll (Expr-F.Assign first.0 (map (λ e. e.0) rest)))
    (assigned (expr_typing first.0) (map next_typing (map (λ e. e.0) rest)) first.1 (all_of next_typing Operates rest))
of_expr (Expr-F.Comma first rest) =
    back Says (expr_typing-roll (Expr-F.Comma first.0 (map (λ e. e.0) rest)))
    (comma (expr_typing first.0) (map next_typing (map (λ e. e.0) rest)) first.1 (all_of next_typing Operates rest))

of_suffix : (y : SuffixOfKnown) → Continues (suffix_typing (roll-Suffix (bare_suffix y)))
of_suffix (Suffix-F.Index from inner to) = back Continues (suffix_typing-roll (Suffix-F.Index from inner.0 to)) inner.1
of_suffix (Suffix-F.Call from to) = back Continues (suffix_typing-roll (Suffix-F.Call from to)) tt
of_suffix (Suffix-F.CallWith from first rest to) =
    back Continues (suffix_typing-roll (Suffix-F.CallWith from first.0 (map (λ e. e.0) rest) to))
    (first.1, operands (map next_typing (map (λ e. e.0) rest)) (all_of next_typing Operates rest))
of_suffix (Suffix-F.Member at id) = back Continues (suffix_typing-roll (Suffix-F.Member at id)) tt
of_suffix (Suffix-F.Arrow at id) = back Continues (suffix_typing-roll (Suffix-F.Arrow at id)) tt
of_suffix (Suffix-F.Increment at) = back Continues (suffix_typing-roll (Suffix-F.Increment at)) tt
of_suffix (Suffix-F.Decrement at) = back Continues (suffix_typing-roll (Suffix-F.Decrement at)) tt

of_prefix : (y : PrefixOfKnown) → Prefixes (prefix_typing (roll-Prefix (bare_prefix y)))
of_prefix (Prefix-F.Operator mark) = back Prefixes (prefix_typing-roll (Prefix-F.Operator mark)) (gives _ tt)
of_prefix (Prefix-F.Sizeof at) = back Prefixes (prefix_typing-roll (Prefix-F.Sizeof at)) (gives _ tt)
of_prefix (Prefix-F.Cast from type to) = back Prefixes (prefix_typing-roll (Prefix-F.Cast from type.0 to)) (chain (type.1 from) (λ t h. gives _ tt))

of_next : (y : NextOfKnown) → Operates (next_typing (roll-Next (bare_next y)))
of_next y = back Operates (next_typing-roll (bare_next y)) y.operand.1

of_branch : (y : BranchOfKnown) → Branches (branch_typing (roll-Branch (bare_branch y)))
of_branch y = back Branches (branch_typing-roll (bare_branch y)) (y.gives.1, y.operand.1)

of_type_name : (y : TypeNameOfKnown) → NamesType (type_name_typing (roll-TypeName (bare_type_name y)))
of_type_name y =
    back NamesType (type_name_typing-roll (bare_type_name y))
    (λ at. named_type (map specifier_typing (map (λ e. e.0) y.specifiers)) (declarator_typing y.declarator.0) at (all_of specifier_typing IsSpecific y.specifiers) y.declarator.1)

of_specifier : (y : SpecifierOfKnown) → IsSpecific (specifier_typing (roll-Specifier (bare_specifier y)))
of_specifier (Specifier-F.Storage storage at) = back IsSpecific (specifier_typing-roll (Specifier-F.Storage storage at)) (storing storage)
of_specifier (Specifier-F.Const at) = back IsSpecific (specifier_typing-roll (Specifier-F.Const at)) qualifying
of_specifier (Specifier-F.Word word at) = back IsSpecific (specifier_typing-roll (Specifier-F.Word word at)) (wording word)
of_specifier (Specifier-F.StructTag at tag) =
    back IsSpecific (specifier_typing-roll (Specifier-F.StructTag at tag)) (naming (struct_tag_row tag) (declarators.struct_tag_row tag))
of_specifier (Specifier-F.Struct at tag from members to) =
    back IsSpecific (specifier_typing-roll (Specifier-F.Struct at tag from (map (λ e. e.0) members) to))
    (naming (λ alone. struct_row at tag (map member_typing (map (λ e. e.0) members)))
    (λ alone. declarators.struct_row at tag (map member_typing (map (λ e. e.0) members)) (all_of member_typing ListsMembers members)))
of_specifier (Specifier-F.EnumTag at tag) =
    back IsSpecific (specifier_typing-roll (Specifier-F.EnumTag at tag)) (naming (λ alone. enum_tag_row tag) (λ alone. declarators.enum_tag_row tag))
of_specifier (Specifier-F.Enum at tag from enumerators comma to) =
    back IsSpecific (specifier_typing-roll (Specifier-F.Enum at tag from (map (λ e. e.0) enumerators) comma to))
    (naming (λ alone. enum_row tag (map enumerator_typing (map (λ e. e.0) enumerators)))
    (λ alone. declarators.enum_row tag (map enumerator_typing (map (λ e. e.0) enumerators)) (all_of enumerator_typing Counts enumerators)))
of_specifier (Specifier-F.TypedefName id) = back IsSpecific (specifier_typing-roll (Specifier-F.TypedefName id)) (using id)

of_member : (y : MemberOfKnown) → ListsMembers (member_typing (roll-Member (bare_member y)))
of_member y =
    back ListsMembers (member_typing-roll (bare_member y))
    (member (map specifier_typing (map (λ e. e.0) y.specifiers)) (map member_declarator_typing (map (λ e. e.0) y.declarators))
    (all_of specifier_typing IsSpecific y.specifiers) (all_of member_declarator_typing Derives y.declarators))

of_member_declarator : (y : MemberDeclaratorOfKnown) → Derives (member_declarator_typing (roll-MemberDeclarator (bare_member_declarator y)))
of_member_declarator y = back Derives (member_declarator_typing-roll (bare_member_declarator y)) y.declarator.1

of_enumerator : (y : EnumeratorOfKnown) → Counts (enumerator_typing (roll-Enumerator (bare_enumerator y)))
of_enumerator (Enumerator-F.Plain comma id) =
    back Counts (enumerator_typing-roll (Enumerator-F.Plain comma id)) (λ next h. declarators.plain_enumerator id next h)
of_enumerator (Enumerator-F.Valued comma id equals value) =
    back Counts (enumerator_typing-roll (Enumerator-F.Valued comma id equals value.0)) (λ next h. declarators.valued_enumerator id (expr_typing value.0) value.1)

of_declarator : (y : DeclaratorOfKnown) → Derives (declarator_typing (roll-Declarator (bare_declarator y)))
of_declarator y =
    back Derives (declarator_typing-roll (bare_declarator y))
    (λ defining. let inside : Bool = is_some (direct_typing y.direct.0).makes in
    declarator (typing.pointing y.pointers) ((direct_typing y.direct.0).parts (inside && defining)) (not inside && defining)
    (map declarator_suffix_typing (map (λ e. e.0) y.suffixes)) (pointing y.pointers) (y.direct.1 (inside && defining)) (all_of declarator_suffix_typing Suffixes y.suffixes))

of_direct : (y : DirectOfKnown) → Derives (direct_typing (roll-Direct (bare_direct y)))
of_direct Direct-F.Nothing = back Derives (direct_typing-roll Direct-F.Nothing) (λ defining. gives [] tt)
of_direct (Direct-F.Named id) = back Derives (direct_typing-roll (Direct-F.Named id)) (λ defining. gives [] tt)
of_direct (Direct-F.Grouped from inner to) = back Derives (direct_typing-roll (Direct-F.Grouped from inner.0 to)) inner.1

of_declarator_suffix : (y : DeclaratorSuffixOfKnown) → Suffixes (declarator_suffix_typing (roll-DeclaratorSuffix (bare_declarator_suffix y)))
of_declarator_suffix (DeclaratorSuffix-F.Array from to) =
    back Suffixes (declarator_suffix_typing-roll (DeclaratorSuffix-F.Array from to)) (λ defining. gives (Arraying None) refl)
of_declarator_suffix (DeclaratorSuffix-F.ArrayOf from size to) =
    back Suffixes (declarator_suffix_typing-roll (DeclaratorSuffix-F.ArrayOf from size.0 to)) (λ defining. array_of from (expr_typing size.0) size.1)
of_declarator_suffix (DeclaratorSuffix-F.Empty from to) =
    back Suffixes (declarator_suffix_typing-roll (DeclaratorSuffix-F.Empty from to)) (λ defining. gives (Listing []) refl)
of_declarator_suffix (DeclaratorSuffix-F.Void from at to) =
    back Suffixes (declarator_suffix_typing-roll (DeclaratorSuffix-F.Void from at to)) (λ defining. gives (Listing []) refl)
of_declarator_suffix (DeclaratorSuffix-F.Parameters from all to) =
    back Suffixes (declarator_suffix_typing-roll (DeclaratorSuffix-F.Parameters from (map (λ e. e.0) all) to))
    (λ defining. listing defining (map parameter_typing (map (λ e. e.0) all)) (all_of parameter_typing Listed all))

of_parameter : (y : ParameterOfKnown) → Listed (parameter_typing (roll-Parameter (bare_parameter y)))
of_parameter y =
    back Listed (parameter_typing-roll (bare_parameter y))
    (λ n. parameter (map specifier_typing (map (λ e. e.0) y.specifiers)) (declarator_typing y.declarator.0) (first_token (map specifier_typing (map (λ e. e.0) y.specifiers))) n
    (all_of specifier_typing IsSpecific y.specifiers) y.declarator.1)

steps : Steps
steps = record {
  of_declarator_suffix = of_declarator_suffix;
  of_direct = of_direct;
  of_expr = of_expr;
  of_prefix = of_prefix;
  of_suffix = of_suffix;
  of_enumerator = of_enumerator;
  of_specifier = of_specifier;
  of_declarator = of_declarator;
  of_parameter = of_parameter;
  of_branch = of_branch;
  of_next = of_next;
  of_type_name = of_type_name;
  of_member = of_member;
  of_member_declarator = of_member_declarator;
}

-- ---- the trees

pub expression : (x : Expr) → Says (expr_typing x)
expression = every_expr steps

pub declarator_of : (x : Declarator) → Derives (declarator_typing x)
declarator_of = every_declarator steps

pub specifiers : (all : List Specifier) → AllByRecursion IsSpecific (map specifier_typing all)
specifiers [] = tt
specifiers (x ∷ all) = (every_specifier steps x, specifiers all)
