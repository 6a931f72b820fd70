-- What the trees of a production declare, enumerators, is no typedef name.
use Rattle.std.specs.Prelude.{◌≡◌, true, false, List, [], ◌∷◌, ◌++◌, map, refl}
use Rattle.std.proofs.Common.{sym, subst}
use Rattle.c_tree.specs.declared.declarator.DeclaratorSuffix.TheOpen.{DeclaratorSuffix-F, Direct-F, Expr-F, Prefix-F, Suffix-F, Enumerator-F, Specifier-F}
use Rattle.c_tree.specs.declared.declarator.DeclaratorSuffix.{roll-DeclaratorSuffix}
use Rattle.c_tree.specs.declared.declarator.Direct.{roll-Direct}
use Rattle.c_tree.specs.declared.expression.Expr.{Expr, roll-Expr}
use Rattle.c_tree.specs.declared.expression.Prefix.{roll-Prefix}
use Rattle.c_tree.specs.declared.expression.Suffix.{roll-Suffix}
use Rattle.c_tree.specs.declared.specifier.Enumerator.{roll-Enumerator}
use Rattle.c_tree.specs.declared.specifier.Specifier.{Specifier, roll-Specifier}
use Rattle.c_tree.specs.declared.declarator.Declarator.{Declarator, roll-Declarator}
use Rattle.c_tree.specs.declared.expression.Branch.{roll-Branch}
use Rattle.c_tree.specs.declared.expression.Next.{roll-Next}
use Rattle.c_tree.specs.declared.expression.TypeName.{roll-TypeName}
use Rattle.c_tree.specs.declared.specifier.Member.{roll-Member}
use Rattle.c_tree.specs.declared.specifier.MemberDeclarator.{roll-MemberDeclarator}
use Rattle.c_tree.specs.Levels.Names.{Names, With, by, ◌then◌, in_row}
use Rattle.c_tree.specs.Levels.Trees.{declarator_suffix_level, declarator_suffix_level-roll, direct_level, direct_level-roll, expr_level, expr_level-roll, prefix_level, prefix_level-roll, suffix_level, suffix_level-roll, enumerator_level, enumerator_level-roll, specifier_level, specifier_level-roll, declarator_level, declarator_level-roll, branch_level, branch_level-roll, next_level, next_level-roll, type_name_level, type_name_level-roll, member_level, member_level-roll, member_declarator_level, member_declarator_level-roll}
use Rattle.c_grammar.specs.Fronts.{no_typedefs, NoTypedefs}
use Rattle.c_grammar.specs.Laws.Known.{Steps, every_expr, every_specifier, every_declarator, DeclaratorSuffixOfKnown, bare_declarator_suffix, DirectOfKnown, bare_direct, ExprOfKnown, bare_expr, PrefixOfKnown, bare_prefix, SuffixOfKnown, bare_suffix, EnumeratorOfKnown, bare_enumerator, SpecifierOfKnown, bare_specifier, DeclaratorOfKnown, bare_declarator, BranchOfKnown, bare_branch, NextOfKnown, bare_next, TypeNameOfKnown, bare_type_name, MemberOfKnown, bare_member, MemberDeclaratorOfKnown, bare_member_declarator}

-- ---- the parts

joined_plain : (a b : Names) → no_typedefs a ≡ true → no_typedefs b ≡ true → no_typedefs (a ++ b) ≡ true
joined_plain [] b h g = g
joined_plain ((text, true) ∷ a) b h g = absurd cc
joined_plain ((text, false) ∷ a) b h g = joined_plain a b h g

by_plain : {A B : Type 0} (f : A → B) (tree : With A) → NoTypedefs tree → NoTypedefs (by f tree)
by_plain f tree h names = h names

then_plain : {A B : Type 0} (tree : With A) (next : With B) → NoTypedefs tree → NoTypedefs next → NoTypedefs (tree then next)
then_plain tree next h g names = joined_plain (tree names).1 (next (names ++ (tree names).1)).1 (h names) (g (names ++ (tree names).1))

abbrev row_of : {X A : Type 0} (level : X → With A) (all : List ((x : X) × NoTypedefs (level x))) → With (List A)
row_of level all = in_row (map level (map (λ e. e.0) all))

row_plain : {X A : Type 0} (level : X → With A) (all : List ((x : X) × NoTypedefs (level x))) → NoTypedefs (row_of level all)
row_plain level [] names = refl
row_plain level (e ∷ all) names = joined_plain (level e.0 names).1 _ (e.1 names) (row_plain level all (names ++ (level e.0 names).1))

back : {A : Type 0} {tree step : With A} → tree ≡ step → NoTypedefs step → NoTypedefs tree
back e h = subst (λ f. NoTypedefs f) (sym e) h

-- ---- the nodes

of_expr : (y : ExprOfKnown) → NoTypedefs (expr_level (roll-Expr (bare_expr y)))
of_expr (Expr-F.Name id) = back (expr_level-roll (Expr-F.Name id)) (λ names. refl)
of_expr (Expr-F.Number value kind at) = back (expr_level-roll (Expr-F.Number value kind at)) (λ names. refl)
of_expr (Expr-F.Char value at) = back (expr_level-roll (Expr-F.Char value at)) (λ names. refl)
of_expr (Expr-F.Strings all) = back (expr_level-roll (Expr-F.Strings all)) (λ names. refl)
of_expr (Expr-F.Paren from inner to) = back (expr_level-roll (Expr-F.Paren from inner.0 to)) (λ names. inner.1 names)
of_expr (Expr-F.Postfix operand rest) = back (expr_level-roll (Expr-F.Postfix operand.0 (map (λ e. e.0) rest))) (then_plain (expr_level operand.0) (row_of suffix_level rest) operand.1 (row_plain suffix_level rest))
of_expr (Expr-F.SizeofType at from type to) = back (expr_level-roll (Expr-F.SizeofType at from type.0 to)) (λ names. type.1 names)
of_expr (Expr-F.Prefixed run operand) = back (expr_level-roll (Expr-F.Prefixed (map (λ e. e.0) run) operand.0)) (then_plain (row_of prefix_level run) (expr_level operand.0) (row_plain prefix_level run) operand.1)
of_expr (Expr-F.Binary level first rest) = back (expr_level-roll (Expr-F.Binary level first.0 (map (λ e. e.0) rest))) (then_plain (expr_level first.0) (row_of next_level rest) first.1 (row_plain next_level rest))
of_expr (Expr-F.Conditional first rest) = back (expr_level-roll (Expr-F.Conditional first.0 (map (λ e. e.0) rest))) (then_plain (expr_level first.0) (row_of branch_level rest) first.1 (row_plain branch_level rest))
of_expr (Expr-F.Assign first rest) = back (expr_level-roll (Expr-F.Assign first.0 (map (λ e. e.0) rest))) (then_plain (expr_level first.0) (row_of next_level rest) first.1 (row_plain next_level rest))
of_expr (Expr-F.Comma first rest) = back (expr_level-roll (Expr-F.Comma first.0 (map (λ e. e.0) rest))) (then_plain (expr_level first.0) (row_of next_level rest) first.1 (row_plain next_level rest))

of_suffix : (y : SuffixOfKnown) → NoTypedefs (suffix_level (roll-Suffix (bare_suffix y)))
of_suffix (Suffix-F.Index from inner to) = back (suffix_level-roll (Suffix-F.Index from inner.0 to)) (λ names. inner.1 names)
of_suffix (Suffix-F.Call from to) = back (suffix_level-roll (Suffix-F.Call from to)) (λ names. refl)
of_suffix (Suffix-F.CallWith from first rest to) = back (suffix_level-roll (Suffix-F.CallWith from first.0 (map (λ e. e.0) rest) to)) (then_plain (expr_level first.0) (row_of next_level rest) first.1 (row_plain next_level rest))
of_suffix (Suffix-F.Member at id) = back (suffix_level-roll (Suffix-F.Member at id)) (λ names. refl)
of_suffix (Suffix-F.Arrow at id) = back (suffix_level-roll (Suffix-F.Arrow at id)) (λ names. refl)
of_suffix (Suffix-F.Increment at) = back (suffix_level-roll (Suffix-F.Increment at)) (λ names. refl)
of_suffix (Suffix-F.Decrement at) = back (suffix_level-roll (Suffix-F.Decrement at)) (λ names. refl)

of_prefix : (y : PrefixOfKnown) → NoTypedefs (prefix_level (roll-Prefix (bare_prefix y)))
of_prefix (Prefix-F.Operator mark) = back (prefix_level-roll (Prefix-F.Operator mark)) (λ names. refl)
of_prefix (Prefix-F.Sizeof at) = back (prefix_level-roll (Prefix-F.Sizeof at)) (λ names. refl)
of_prefix (Prefix-F.Cast from type to) = back (prefix_level-roll (Prefix-F.Cast from type.0 to)) (λ names. type.1 names)

of_next : (y : NextOfKnown) → NoTypedefs (next_level (roll-Next (bare_next y)))
of_next y = back (next_level-roll (bare_next y)) (λ names. y.operand.1 names)

of_branch : (y : BranchOfKnown) → NoTypedefs (branch_level (roll-Branch (bare_branch y)))
of_branch y = back (branch_level-roll (bare_branch y)) (then_plain (expr_level y.gives.0) (expr_level y.operand.0) y.gives.1 y.operand.1)

of_type_name : (y : TypeNameOfKnown) → NoTypedefs (type_name_level (roll-TypeName (bare_type_name y)))
of_type_name y = back (type_name_level-roll (bare_type_name y)) (then_plain (row_of specifier_level y.specifiers) (declarator_level y.declarator.0) (row_plain specifier_level y.specifiers) y.declarator.1)

of_specifier : (y : SpecifierOfKnown) → NoTypedefs (specifier_level (roll-Specifier (bare_specifier y)))
of_specifier (Specifier-F.Storage storage at) = back (specifier_level-roll (Specifier-F.Storage storage at)) (λ names. refl)
of_specifier (Specifier-F.Const at) = back (specifier_level-roll (Specifier-F.Const at)) (λ names. refl)
of_specifier (Specifier-F.Word word at) = back (specifier_level-roll (Specifier-F.Word word at)) (λ names. refl)
of_specifier (Specifier-F.StructTag at tag) = back (specifier_level-roll (Specifier-F.StructTag at tag)) (λ names. refl)
of_specifier (Specifier-F.Struct at tag from members to) = back (specifier_level-roll (Specifier-F.Struct at tag from (map (λ e. e.0) members) to)) (row_plain member_level members)
of_specifier (Specifier-F.EnumTag at tag) = back (specifier_level-roll (Specifier-F.EnumTag at tag)) (λ names. refl)
of_specifier (Specifier-F.Enum at tag from enumerators comma to) = back (specifier_level-roll (Specifier-F.Enum at tag from (map (λ e. e.0) enumerators) comma to)) (row_plain enumerator_level enumerators)
of_specifier (Specifier-F.TypedefName id) = back (specifier_level-roll (Specifier-F.TypedefName id)) (λ names. refl)

of_member : (y : MemberOfKnown) → NoTypedefs (member_level (roll-Member (bare_member y)))
of_member y = back (member_level-roll (bare_member y)) (then_plain (row_of specifier_level y.specifiers) (row_of member_declarator_level y.declarators) (row_plain specifier_level y.specifiers) (row_plain member_declarator_level y.declarators))

of_member_declarator : (y : MemberDeclaratorOfKnown) → NoTypedefs (member_declarator_level (roll-MemberDeclarator (bare_member_declarator y)))
of_member_declarator y = back (member_declarator_level-roll (bare_member_declarator y)) (λ names. y.declarator.1 names)

of_enumerator : (y : EnumeratorOfKnown) → NoTypedefs (enumerator_level (roll-Enumerator (bare_enumerator y)))
of_enumerator (Enumerator-F.Plain comma id) = back (enumerator_level-roll (Enumerator-F.Plain comma id)) (λ names. refl)
of_enumerator (Enumerator-F.Valued comma id equals value) = back (enumerator_level-roll (Enumerator-F.Valued comma id equals value.0)) (λ names. joined_plain (expr_level value.0 names).1 ((id.text, false) ∷ []) (value.1 names) refl)

of_declarator : (y : DeclaratorOfKnown) → NoTypedefs (declarator_level (roll-Declarator (bare_declarator y)))
of_declarator y = back (declarator_level-roll (bare_declarator y)) (then_plain (direct_level y.direct.0) (row_of declarator_suffix_level y.suffixes) y.direct.1 (row_plain declarator_suffix_level y.suffixes))

of_direct : (y : DirectOfKnown) → NoTypedefs (direct_level (roll-Direct (bare_direct y)))
of_direct Direct-F.Nothing = back (direct_level-roll Direct-F.Nothing) (λ names. refl)
of_direct (Direct-F.Named id) = back (direct_level-roll (Direct-F.Named id)) (λ names. refl)
of_direct (Direct-F.Grouped from inner to) = back (direct_level-roll (Direct-F.Grouped from inner.0 to)) (λ names. inner.1 names)

of_declarator_suffix : (y : DeclaratorSuffixOfKnown) → NoTypedefs (declarator_suffix_level (roll-DeclaratorSuffix (bare_declarator_suffix y)))
of_declarator_suffix (DeclaratorSuffix-F.Array from to) = back (declarator_suffix_level-roll (DeclaratorSuffix-F.Array from to)) (λ names. refl)
of_declarator_suffix (DeclaratorSuffix-F.ArrayOf from size to) = back (declarator_suffix_level-roll (DeclaratorSuffix-F.ArrayOf from size.0 to)) (λ names. size.1 names)
of_declarator_suffix (DeclaratorSuffix-F.Empty from to) = back (declarator_suffix_level-roll (DeclaratorSuffix-F.Empty from to)) (λ names. refl)
of_declarator_suffix (DeclaratorSuffix-F.Void from at to) = back (declarator_suffix_level-roll (DeclaratorSuffix-F.Void from at to)) (λ names. refl)
of_declarator_suffix (DeclaratorSuffix-F.Parameters from all to) = back (declarator_suffix_level-roll (DeclaratorSuffix-F.Parameters from (map (λ e. e.0) all) to)) (λ names. refl)

steps : Steps
steps = record {
  of_declarator_suffix = of_declarator_suffix;
  of_direct = of_direct;
  of_expr = of_expr;
  of_prefix = of_prefix;
  of_suffix = of_suffix;
  of_enumerator = of_enumerator;
  of_specifier = of_specifier;
  of_declarator = of_declarator;
  of_parameter = λ y. tt;
  of_branch = of_branch;
  of_next = of_next;
  of_type_name = of_type_name;
  of_member = of_member;
  of_member_declarator = of_member_declarator;
}

-- ---- the trees

pub expression_plain : (x : Expr) → NoTypedefs (expr_level x)
expression_plain = every_expr steps

pub declarator_plain : (x : Declarator) → NoTypedefs (declarator_level x)
declarator_plain = every_declarator steps

pub specifiers_plain : (all : List Specifier) → NoTypedefs (in_row (map specifier_level all))
specifiers_plain [] names = refl
specifiers_plain (x ∷ all) names = joined_plain (specifier_level x names).1 _ (every_specifier steps x names) (specifiers_plain all (names ++ (specifier_level x names).1))
