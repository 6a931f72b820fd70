-- How deep one node of an expression, a specifier or a declarator nests, from how deep its parts nest.
use Rattle.std.specs.Prelude.{ℕ, ◌+◌, max, List, [], ◌∷◌}
use Rattle.c_tree.specs.declared.declarator.DeclaratorSuffix.TheOpen.{DeclaratorSuffix-F, Direct-F, Expr-F, Prefix-F, Suffix-F, Enumerator-F, Specifier-F}
use Rattle.c_tree.specs.Layers.{DeclaratorSuffixOf, DirectOf, ExprOf, PrefixOf, SuffixOf, EnumeratorOf, SpecifierOf, DeclaratorOf, ParameterOf, BranchOf, NextOf, TypeNameOf, MemberOf, MemberDeclaratorOf}

-- the deepest of parts in a row
abbrev pub deepest : List ℕ → ℕ
deepest [] = 0
deepest (n ∷ ns) = max n (deepest ns)

-- ---- expressions

-- how deep an expression nests
abbrev pub nested_expr : ExprOf ℕ → ℕ
nested_expr (Expr-F.Name id) = 0
nested_expr (Expr-F.Number value kind at) = 0
nested_expr (Expr-F.Char value at) = 0
nested_expr (Expr-F.Strings all) = 0
nested_expr (Expr-F.Paren from inner to) = inner + 1
nested_expr (Expr-F.Postfix operand suffixes) = max operand (deepest suffixes)
nested_expr (Expr-F.SizeofType at from type to) = type + 1
nested_expr (Expr-F.Prefixed run operand) = max (deepest run) operand
nested_expr (Expr-F.Binary level first rest) = max first (deepest rest)
nested_expr (Expr-F.Conditional first rest) = max first (deepest rest)
nested_expr (Expr-F.Assign first rest) = max first (deepest rest)
nested_expr (Expr-F.Comma first rest) = max first (deepest rest)

-- how deep a suffix of a postfix expression nests
abbrev pub nested_suffix : SuffixOf ℕ → ℕ
nested_suffix (Suffix-F.Index from inner to) = inner + 1
nested_suffix (Suffix-F.Call from to) = 1
nested_suffix (Suffix-F.CallWith from first rest to) = max first (deepest rest) + 1
nested_suffix (Suffix-F.Member at id) = 0
nested_suffix (Suffix-F.Arrow at id) = 0
nested_suffix (Suffix-F.Increment at) = 0
nested_suffix (Suffix-F.Decrement at) = 0

-- how deep a prefix of a cast expression nests
abbrev pub nested_prefix : PrefixOf ℕ → ℕ
nested_prefix (Prefix-F.Operator m) = 0
nested_prefix (Prefix-F.Sizeof at) = 0
nested_prefix (Prefix-F.Cast from type to) = type + 1

-- how deep an operator or a comma and its operand nest
abbrev pub nested_next : NextOf ℕ → ℕ
nested_next n = n.operand

-- what `?` gives stands between it and its `:`, the operand behind that does not
abbrev pub nested_branch : BranchOf ℕ → ℕ
nested_branch b = max (b.gives + 1) b.operand

-- how deep a type name nests
abbrev pub nested_type_name : TypeNameOf ℕ → ℕ
nested_type_name t = max (deepest t.specifiers) t.declarator

-- ---- specifiers

-- how deep a specifier nests
abbrev pub nested_specifier : SpecifierOf ℕ → ℕ
nested_specifier (Specifier-F.Storage storage at) = 0
nested_specifier (Specifier-F.Const at) = 0
nested_specifier (Specifier-F.Word type at) = 0
nested_specifier (Specifier-F.StructTag at tag) = 0
nested_specifier (Specifier-F.Struct at tag from members to) = deepest members + 1
nested_specifier (Specifier-F.EnumTag at tag) = 0
nested_specifier (Specifier-F.Enum at tag from enumerators last to) = deepest enumerators + 1
nested_specifier (Specifier-F.TypedefName id) = 0

-- how deep a declaration of members nests
abbrev pub nested_member : MemberOf ℕ → ℕ
nested_member m = max (deepest m.specifiers) (deepest m.declarators)

-- how deep a member's declarator nests
abbrev pub nested_member_declarator : MemberDeclaratorOf ℕ → ℕ
nested_member_declarator m = m.declarator

-- how deep an enumerator nests
abbrev pub nested_enumerator : EnumeratorOf ℕ → ℕ
nested_enumerator (Enumerator-F.Plain before id) = 0
nested_enumerator (Enumerator-F.Valued before id equals value) = value

-- ---- declarators

-- how deep a declarator nests
abbrev pub nested_declarator : DeclaratorOf ℕ → ℕ
nested_declarator d = max d.direct (deepest d.suffixes)

-- how deep the middle of a declarator nests
abbrev pub nested_direct : DirectOf ℕ → ℕ
nested_direct Direct-F.Nothing = 0
nested_direct (Direct-F.Named id) = 0
nested_direct (Direct-F.Grouped from inner to) = inner + 1

-- how deep an array or a parameter list behind a declarator nests
abbrev pub nested_declarator_suffix : DeclaratorSuffixOf ℕ → ℕ
nested_declarator_suffix (DeclaratorSuffix-F.Array from to) = 1
nested_declarator_suffix (DeclaratorSuffix-F.ArrayOf from size to) = size + 1
nested_declarator_suffix (DeclaratorSuffix-F.Empty from to) = 1
nested_declarator_suffix (DeclaratorSuffix-F.Void from at to) = 1
nested_declarator_suffix (DeclaratorSuffix-F.Parameters from all to) = deepest all + 1

-- how deep a parameter nests
abbrev pub nested_parameter : ParameterOf ℕ → ℕ
nested_parameter p = max (deepest p.specifiers) p.declarator
