-- Written by tools/grammar_tables.py.
-- What is told of a tree of each kind of node, whatever names are visible.
use Rattle.std.specs.Prelude.{◌≡◌, ℕ, List, Option, map}
use Rattle.std.proofs.Common.{ap, sym, ◌∙◌}
use Rattle.c_tree.specs.declared.expression.Identifier.{Identifier}
use Rattle.c_tree.specs.declared.token.IntKind.{IntKind}
use Rattle.c_tree.specs.declared.expression.Level.{Level}
use Rattle.c_tree.specs.declared.expression.Literal.{Literal}
use Rattle.c_tree.specs.declared.expression.Mark.{Mark}
use Rattle.c_tree.specs.declared.token.Pos.{Pos}
use Rattle.c_tree.specs.declared.specifier.Storage.{Storage}
use Rattle.c_tree.specs.declared.specifier.TypeWord.{TypeWord}
use Rattle.c_tree.specs.declared.declarator.DeclaratorSuffix.TheVariants as declarator_suffix
use Rattle.c_tree.specs.declared.declarator.Direct.TheVariants as direct
use Rattle.c_tree.specs.declared.expression.Expr.{Expr}
use Rattle.c_tree.specs.declared.expression.Expr.TheVariants as expr
use Rattle.c_tree.specs.declared.expression.Prefix.{Prefix}
use Rattle.c_tree.specs.declared.expression.Prefix.TheVariants as prefix
use Rattle.c_tree.specs.declared.expression.Suffix.{Suffix}
use Rattle.c_tree.specs.declared.expression.Suffix.TheVariants as suffix
use Rattle.c_tree.specs.declared.specifier.Enumerator.{Enumerator}
use Rattle.c_tree.specs.declared.specifier.Enumerator.TheVariants as enumerator
use Rattle.c_tree.specs.declared.specifier.Specifier.TheVariants as specifier
use Rattle.c_tree.specs.declared.declarator.Declarator.{Declarator, out-Declarator, roll-out-Declarator}
use Rattle.c_tree.specs.declared.declarator.Parameter.{Parameter, out-Parameter, roll-out-Parameter}
use Rattle.c_tree.specs.declared.expression.Branch.{Branch, out-Branch, roll-out-Branch}
use Rattle.c_tree.specs.declared.expression.Next.{Next, out-Next, roll-out-Next}
use Rattle.c_tree.specs.declared.expression.TypeName.{TypeName, out-TypeName, roll-out-TypeName}
use Rattle.c_tree.specs.declared.specifier.Member.{Member, out-Member, roll-out-Member}
use Rattle.c_tree.specs.declared.specifier.MemberDeclarator.{MemberDeclarator, out-MemberDeclarator, roll-out-MemberDeclarator}
use Rattle.c_tree.specs.declared.declarator.DeclaratorSuffix.TheOpen.{DeclaratorSuffix-F, Direct-F, Expr-F, Prefix-F, Suffix-F, Enumerator-F, Specifier-F}
use Rattle.c_tree.specs.Levels.OfTrees.{level_of_declarator_suffix, level_of_direct, level_of_expr, level_of_prefix, level_of_suffix, level_of_enumerator, level_of_specifier, level_of_declarator, level_of_parameter, level_of_branch, level_of_next, level_of_type_name, level_of_member, level_of_member_declarator}
use Rattle.c_tree.specs.Levels.Trees.{declarator_suffix_level, declarator_suffix_level-roll, direct_level, direct_level-roll, expr_level, expr_level-roll, prefix_level, prefix_level-roll, suffix_level, suffix_level-roll, enumerator_level, enumerator_level-roll, specifier_level, specifier_level-roll, declarator_level, declarator_level-roll, parameter_level, parameter_level-roll, branch_level, branch_level-roll, next_level, next_level-roll, type_name_level, type_name_level-roll, member_level, member_level-roll, member_declarator_level, member_declarator_level-roll}

pub declarator_suffix_level-Array : (from : Pos) (to : Pos) → declarator_suffix_level (declarator_suffix.Array from to) ≡ level_of_declarator_suffix (DeclaratorSuffix-F.Array from to)
declarator_suffix_level-Array from to = ap declarator_suffix_level (sym (declarator_suffix.rolls-Array from to)) ∙ declarator_suffix_level-roll (DeclaratorSuffix-F.Array from to)

pub declarator_suffix_level-ArrayOf : (from : Pos) (size : Expr) (to : Pos) → declarator_suffix_level (declarator_suffix.ArrayOf from size to) ≡ level_of_declarator_suffix (DeclaratorSuffix-F.ArrayOf from (expr_level size) to)
declarator_suffix_level-ArrayOf from size to = ap declarator_suffix_level (sym (declarator_suffix.rolls-ArrayOf from size to)) ∙ declarator_suffix_level-roll (DeclaratorSuffix-F.ArrayOf from size to)

pub declarator_suffix_level-Empty : (from : Pos) (to : Pos) → declarator_suffix_level (declarator_suffix.Empty from to) ≡ level_of_declarator_suffix (DeclaratorSuffix-F.Empty from to)
declarator_suffix_level-Empty from to = ap declarator_suffix_level (sym (declarator_suffix.rolls-Empty from to)) ∙ declarator_suffix_level-roll (DeclaratorSuffix-F.Empty from to)

pub declarator_suffix_level-Void : (from : Pos) (at : Pos) (to : Pos) → declarator_suffix_level (declarator_suffix.Void from at to) ≡ level_of_declarator_suffix (DeclaratorSuffix-F.Void from at to)
declarator_suffix_level-Void from at to = ap declarator_suffix_level (sym (declarator_suffix.rolls-Void from at to)) ∙ declarator_suffix_level-roll (DeclaratorSuffix-F.Void from at to)

pub declarator_suffix_level-Parameters : (from : Pos) (all : List Parameter) (to : Pos) → declarator_suffix_level (declarator_suffix.Parameters from all to) ≡ level_of_declarator_suffix (DeclaratorSuffix-F.Parameters from (map parameter_level all) to)
declarator_suffix_level-Parameters from all to = ap declarator_suffix_level (sym (declarator_suffix.rolls-Parameters from all to)) ∙ declarator_suffix_level-roll (DeclaratorSuffix-F.Parameters from all to)

pub direct_level-Nothing : direct_level direct.Nothing ≡ level_of_direct Direct-F.Nothing
direct_level-Nothing = ap direct_level (sym direct.rolls-Nothing) ∙ direct_level-roll Direct-F.Nothing

pub direct_level-Named : (name : Identifier) → direct_level (direct.Named name) ≡ level_of_direct (Direct-F.Named name)
direct_level-Named name = ap direct_level (sym (direct.rolls-Named name)) ∙ direct_level-roll (Direct-F.Named name)

pub direct_level-Grouped : (from : Pos) (inner : Declarator) (to : Pos) → direct_level (direct.Grouped from inner to) ≡ level_of_direct (Direct-F.Grouped from (declarator_level inner) to)
direct_level-Grouped from inner to = ap direct_level (sym (direct.rolls-Grouped from inner to)) ∙ direct_level-roll (Direct-F.Grouped from inner to)

pub expr_level-Name : (name : Identifier) → expr_level (expr.Name name) ≡ level_of_expr (Expr-F.Name name)
expr_level-Name name = ap expr_level (sym (expr.rolls-Name name)) ∙ expr_level-roll (Expr-F.Name name)

pub expr_level-Number : (value : ℕ) (kind : IntKind) (at : Pos) → expr_level (expr.Number value kind at) ≡ level_of_expr (Expr-F.Number value kind at)
expr_level-Number value kind at = ap expr_level (sym (expr.rolls-Number value kind at)) ∙ expr_level-roll (Expr-F.Number value kind at)

pub expr_level-Char : (value : ℕ) (at : Pos) → expr_level (expr.Char value at) ≡ level_of_expr (Expr-F.Char value at)
expr_level-Char value at = ap expr_level (sym (expr.rolls-Char value at)) ∙ expr_level-roll (Expr-F.Char value at)

pub expr_level-Strings : (all : List Literal) → expr_level (expr.Strings all) ≡ level_of_expr (Expr-F.Strings all)
expr_level-Strings all = ap expr_level (sym (expr.rolls-Strings all)) ∙ expr_level-roll (Expr-F.Strings all)

pub expr_level-Paren : (from : Pos) (inner : Expr) (to : Pos) → expr_level (expr.Paren from inner to) ≡ level_of_expr (Expr-F.Paren from (expr_level inner) to)
expr_level-Paren from inner to = ap expr_level (sym (expr.rolls-Paren from inner to)) ∙ expr_level-roll (Expr-F.Paren from inner to)

pub expr_level-Postfix : (operand : Expr) (suffixes : List Suffix) → expr_level (expr.Postfix operand suffixes) ≡ level_of_expr (Expr-F.Postfix (expr_level operand) (map suffix_level suffixes))
expr_level-Postfix operand suffixes = ap expr_level (sym (expr.rolls-Postfix operand suffixes)) ∙ expr_level-roll (Expr-F.Postfix operand suffixes)

pub expr_level-SizeofType : (at : Pos) (from : Pos) (type : TypeName) (to : Pos) → expr_level (expr.SizeofType at from type to) ≡ level_of_expr (Expr-F.SizeofType at from (type_name_level type) to)
expr_level-SizeofType at from type to = ap expr_level (sym (expr.rolls-SizeofType at from type to)) ∙ expr_level-roll (Expr-F.SizeofType at from type to)

pub expr_level-Prefixed : (run : List Prefix) (operand : Expr) → expr_level (expr.Prefixed run operand) ≡ level_of_expr (Expr-F.Prefixed (map prefix_level run) (expr_level operand))
expr_level-Prefixed run operand = ap expr_level (sym (expr.rolls-Prefixed run operand)) ∙ expr_level-roll (Expr-F.Prefixed run operand)

pub expr_level-Binary : (level : Level) (first : Expr) (rest : List Next) → expr_level (expr.Binary level first rest) ≡ level_of_expr (Expr-F.Binary level (expr_level first) (map next_level rest))
expr_level-Binary level first rest = ap expr_level (sym (expr.rolls-Binary level first rest)) ∙ expr_level-roll (Expr-F.Binary level first rest)

pub expr_level-Conditional : (first : Expr) (rest : List Branch) → expr_level (expr.Conditional first rest) ≡ level_of_expr (Expr-F.Conditional (expr_level first) (map branch_level rest))
expr_level-Conditional first rest = ap expr_level (sym (expr.rolls-Conditional first rest)) ∙ expr_level-roll (Expr-F.Conditional first rest)

pub expr_level-Assign : (first : Expr) (rest : List Next) → expr_level (expr.Assign first rest) ≡ level_of_expr (Expr-F.Assign (expr_level first) (map next_level rest))
expr_level-Assign first rest = ap expr_level (sym (expr.rolls-Assign first rest)) ∙ expr_level-roll (Expr-F.Assign first rest)

pub expr_level-Comma : (first : Expr) (rest : List Next) → expr_level (expr.Comma first rest) ≡ level_of_expr (Expr-F.Comma (expr_level first) (map next_level rest))
expr_level-Comma first rest = ap expr_level (sym (expr.rolls-Comma first rest)) ∙ expr_level-roll (Expr-F.Comma first rest)

pub prefix_level-Operator : (mark : Mark) → prefix_level (prefix.Operator mark) ≡ level_of_prefix (Prefix-F.Operator mark)
prefix_level-Operator mark = ap prefix_level (sym (prefix.rolls-Operator mark)) ∙ prefix_level-roll (Prefix-F.Operator mark)

pub prefix_level-Sizeof : (at : Pos) → prefix_level (prefix.Sizeof at) ≡ level_of_prefix (Prefix-F.Sizeof at)
prefix_level-Sizeof at = ap prefix_level (sym (prefix.rolls-Sizeof at)) ∙ prefix_level-roll (Prefix-F.Sizeof at)

pub prefix_level-Cast : (from : Pos) (type : TypeName) (to : Pos) → prefix_level (prefix.Cast from type to) ≡ level_of_prefix (Prefix-F.Cast from (type_name_level type) to)
prefix_level-Cast from type to = ap prefix_level (sym (prefix.rolls-Cast from type to)) ∙ prefix_level-roll (Prefix-F.Cast from type to)

pub suffix_level-Index : (from : Pos) (inner : Expr) (to : Pos) → suffix_level (suffix.Index from inner to) ≡ level_of_suffix (Suffix-F.Index from (expr_level inner) to)
suffix_level-Index from inner to = ap suffix_level (sym (suffix.rolls-Index from inner to)) ∙ suffix_level-roll (Suffix-F.Index from inner to)

pub suffix_level-Call : (from : Pos) (to : Pos) → suffix_level (suffix.Call from to) ≡ level_of_suffix (Suffix-F.Call from to)
suffix_level-Call from to = ap suffix_level (sym (suffix.rolls-Call from to)) ∙ suffix_level-roll (Suffix-F.Call from to)

pub suffix_level-CallWith : (from : Pos) (first : Expr) (rest : List Next) (to : Pos) → suffix_level (suffix.CallWith from first rest to) ≡ level_of_suffix (Suffix-F.CallWith from (expr_level first) (map next_level rest) to)
suffix_level-CallWith from first rest to = ap suffix_level (sym (suffix.rolls-CallWith from first rest to)) ∙ suffix_level-roll (Suffix-F.CallWith from first rest to)

pub suffix_level-Member : (at : Pos) (name : Identifier) → suffix_level (suffix.Member at name) ≡ level_of_suffix (Suffix-F.Member at name)
suffix_level-Member at name = ap suffix_level (sym (suffix.rolls-Member at name)) ∙ suffix_level-roll (Suffix-F.Member at name)

pub suffix_level-Arrow : (at : Pos) (name : Identifier) → suffix_level (suffix.Arrow at name) ≡ level_of_suffix (Suffix-F.Arrow at name)
suffix_level-Arrow at name = ap suffix_level (sym (suffix.rolls-Arrow at name)) ∙ suffix_level-roll (Suffix-F.Arrow at name)

pub suffix_level-Increment : (at : Pos) → suffix_level (suffix.Increment at) ≡ level_of_suffix (Suffix-F.Increment at)
suffix_level-Increment at = ap suffix_level (sym (suffix.rolls-Increment at)) ∙ suffix_level-roll (Suffix-F.Increment at)

pub suffix_level-Decrement : (at : Pos) → suffix_level (suffix.Decrement at) ≡ level_of_suffix (Suffix-F.Decrement at)
suffix_level-Decrement at = ap suffix_level (sym (suffix.rolls-Decrement at)) ∙ suffix_level-roll (Suffix-F.Decrement at)

pub enumerator_level-Plain : (comma : Option Pos) (name : Identifier) → enumerator_level (enumerator.Plain comma name) ≡ level_of_enumerator (Enumerator-F.Plain comma name)
enumerator_level-Plain comma name = ap enumerator_level (sym (enumerator.rolls-Plain comma name)) ∙ enumerator_level-roll (Enumerator-F.Plain comma name)

pub enumerator_level-Valued : (comma : Option Pos) (name : Identifier) (equals : Pos) (value : Expr) → enumerator_level (enumerator.Valued comma name equals value) ≡ level_of_enumerator (Enumerator-F.Valued comma name equals (expr_level value))
enumerator_level-Valued comma name equals value = ap enumerator_level (sym (enumerator.rolls-Valued comma name equals value)) ∙ enumerator_level-roll (Enumerator-F.Valued comma name equals value)

pub specifier_level-Storage : (storage : Storage) (at : Pos) → specifier_level (specifier.Storage storage at) ≡ level_of_specifier (Specifier-F.Storage storage at)
specifier_level-Storage storage at = ap specifier_level (sym (specifier.rolls-Storage storage at)) ∙ specifier_level-roll (Specifier-F.Storage storage at)

pub specifier_level-Const : (at : Pos) → specifier_level (specifier.Const at) ≡ level_of_specifier (Specifier-F.Const at)
specifier_level-Const at = ap specifier_level (sym (specifier.rolls-Const at)) ∙ specifier_level-roll (Specifier-F.Const at)

pub specifier_level-Word : (word : TypeWord) (at : Pos) → specifier_level (specifier.Word word at) ≡ level_of_specifier (Specifier-F.Word word at)
specifier_level-Word word at = ap specifier_level (sym (specifier.rolls-Word word at)) ∙ specifier_level-roll (Specifier-F.Word word at)

pub specifier_level-StructTag : (at : Pos) (tag : Identifier) → specifier_level (specifier.StructTag at tag) ≡ level_of_specifier (Specifier-F.StructTag at tag)
specifier_level-StructTag at tag = ap specifier_level (sym (specifier.rolls-StructTag at tag)) ∙ specifier_level-roll (Specifier-F.StructTag at tag)

pub specifier_level-Struct : (at : Pos) (tag : Option Identifier) (from : Pos) (members : List Member) (to : Pos) → specifier_level (specifier.Struct at tag from members to) ≡ level_of_specifier (Specifier-F.Struct at tag from (map member_level members) to)
specifier_level-Struct at tag from members to = ap specifier_level (sym (specifier.rolls-Struct at tag from members to)) ∙ specifier_level-roll (Specifier-F.Struct at tag from members to)

pub specifier_level-EnumTag : (at : Pos) (tag : Identifier) → specifier_level (specifier.EnumTag at tag) ≡ level_of_specifier (Specifier-F.EnumTag at tag)
specifier_level-EnumTag at tag = ap specifier_level (sym (specifier.rolls-EnumTag at tag)) ∙ specifier_level-roll (Specifier-F.EnumTag at tag)

pub specifier_level-Enum : (at : Pos) (tag : Option Identifier) (from : Pos) (enumerators : List Enumerator) (comma : Option Pos) (to : Pos) → specifier_level (specifier.Enum at tag from enumerators comma to) ≡ level_of_specifier (Specifier-F.Enum at tag from (map enumerator_level enumerators) comma to)
specifier_level-Enum at tag from enumerators comma to = ap specifier_level (sym (specifier.rolls-Enum at tag from enumerators comma to)) ∙ specifier_level-roll (Specifier-F.Enum at tag from enumerators comma to)

pub specifier_level-TypedefName : (name : Identifier) → specifier_level (specifier.TypedefName name) ≡ level_of_specifier (Specifier-F.TypedefName name)
specifier_level-TypedefName name = ap specifier_level (sym (specifier.rolls-TypedefName name)) ∙ specifier_level-roll (Specifier-F.TypedefName name)

pub declarator_level-is : (node : Declarator) → declarator_level node ≡ level_of_declarator (record { pointers = (out-Declarator node).pointers; direct = direct_level (out-Declarator node).direct; suffixes = map declarator_suffix_level (out-Declarator node).suffixes })
declarator_level-is node = ap declarator_level (sym (roll-out-Declarator node)) ∙ declarator_level-roll (out-Declarator node)

pub parameter_level-is : (node : Parameter) → parameter_level node ≡ level_of_parameter (record { comma = (out-Parameter node).comma; specifiers = map specifier_level (out-Parameter node).specifiers; declarator = declarator_level (out-Parameter node).declarator })
parameter_level-is node = ap parameter_level (sym (roll-out-Parameter node)) ∙ parameter_level-roll (out-Parameter node)

pub branch_level-is : (node : Branch) → branch_level node ≡ level_of_branch (record { question = (out-Branch node).question; gives = expr_level (out-Branch node).gives; colon = (out-Branch node).colon; operand = expr_level (out-Branch node).operand })
branch_level-is node = ap branch_level (sym (roll-out-Branch node)) ∙ branch_level-roll (out-Branch node)

pub next_level-is : (node : Next) → next_level node ≡ level_of_next (record { operator = (out-Next node).operator; operand = expr_level (out-Next node).operand })
next_level-is node = ap next_level (sym (roll-out-Next node)) ∙ next_level-roll (out-Next node)

pub type_name_level-is : (node : TypeName) → type_name_level node ≡ level_of_type_name (record { specifiers = map specifier_level (out-TypeName node).specifiers; declarator = declarator_level (out-TypeName node).declarator })
type_name_level-is node = ap type_name_level (sym (roll-out-TypeName node)) ∙ type_name_level-roll (out-TypeName node)

pub member_level-is : (node : Member) → member_level node ≡ level_of_member (record { specifiers = map specifier_level (out-Member node).specifiers; declarators = map member_declarator_level (out-Member node).declarators; semicolon = (out-Member node).semicolon })
member_level-is node = ap member_level (sym (roll-out-Member node)) ∙ member_level-roll (out-Member node)

pub member_declarator_level-is : (node : MemberDeclarator) → member_declarator_level node ≡ level_of_member_declarator (record { comma = (out-MemberDeclarator node).comma; declarator = declarator_level (out-MemberDeclarator node).declarator })
member_declarator_level-is node = ap member_declarator_level (sym (roll-out-MemberDeclarator node)) ∙ member_declarator_level-roll (out-MemberDeclarator node)
