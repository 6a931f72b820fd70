-- The spelling of one node of an expression, a specifier or a declarator, from the spellings of its parts.
use Rattle.std.specs.Prelude.{[], ◌∷◌, ◌++◌, map}
use Rattle.c_tree.specs.declared.token.Punct.TheVariants as p
use Rattle.c_tree.specs.declared.token.Keyword.TheVariants as word
use Rattle.c_tree.specs.declared.token.TokenKind.TheVariants as k
use Rattle.c_tree.specs.declared.declarator.DeclaratorSuffix.TheOpen.{DeclaratorSuffix-F, Direct-F, Expr-F, Prefix-F, Suffix-F, Enumerator-F, Specifier-F}
use Rattle.c_tree.specs.Layers.{DeclaratorSuffixOf, DirectOf, ExprOf, PrefixOf, SuffixOf, EnumeratorOf, SpecifierOf, DeclaratorOf, ParameterOf, BranchOf, NextOf, TypeNameOf, MemberOf, MemberDeclaratorOf}
use Rattle.c_tree.specs.Spelling.Tokens.{Spelling, token, punct, keyword, mark, name, joined, literal_spelling, parens, brackets, braces, comma_at, name_at, pointer_spelling, storage_word, type_word}

-- ---- expressions (C11 6.5)

-- an expression (C11 6.5)
abbrev pub spelled_expr : ExprOf Spelling → Spelling
spelled_expr (Expr-F.Name id) = name id ∷ []
spelled_expr (Expr-F.Number value kind at) = token (k.Number value kind) at ∷ []
spelled_expr (Expr-F.Char value at) = token (k.Char value) at ∷ []
spelled_expr (Expr-F.Strings all) = joined (map literal_spelling all)
spelled_expr (Expr-F.Paren from inner to) = parens from inner to
spelled_expr (Expr-F.Postfix operand suffixes) = operand ++ joined suffixes
spelled_expr (Expr-F.SizeofType at from type to) = keyword word.Sizeof at ∷ parens from type to
spelled_expr (Expr-F.Prefixed run operand) = joined run ++ operand
spelled_expr (Expr-F.Binary level first rest) = first ++ joined rest
spelled_expr (Expr-F.Conditional first rest) = first ++ joined rest
spelled_expr (Expr-F.Assign first rest) = first ++ joined rest
spelled_expr (Expr-F.Comma first rest) = first ++ joined rest

-- a suffix of a postfix expression (C11 6.5.2)
abbrev pub spelled_suffix : SuffixOf Spelling → Spelling
spelled_suffix (Suffix-F.Index from inner to) = brackets from inner to
spelled_suffix (Suffix-F.Call from to) = parens from [] to
spelled_suffix (Suffix-F.CallWith from first rest to) = parens from (first ++ joined rest) to
spelled_suffix (Suffix-F.Member at id) = punct p.Dot at ∷ (name id ∷ [])
spelled_suffix (Suffix-F.Arrow at id) = punct p.Arrow at ∷ (name id ∷ [])
spelled_suffix (Suffix-F.Increment at) = punct p.Increment at ∷ []
spelled_suffix (Suffix-F.Decrement at) = punct p.Decrement at ∷ []

-- a prefix of a cast expression (C11 6.5.3, 6.5.4)
abbrev pub spelled_prefix : PrefixOf Spelling → Spelling
spelled_prefix (Prefix-F.Operator m) = mark m ∷ []
spelled_prefix (Prefix-F.Sizeof at) = keyword word.Sizeof at ∷ []
spelled_prefix (Prefix-F.Cast from type to) = parens from type to

-- an operator or a comma and its operand
abbrev pub spelled_next : NextOf Spelling → Spelling
spelled_next n = mark n.operator ∷ n.operand

-- `?`, what it gives, `:` and an operand (C11 6.5.15)
abbrev pub spelled_branch : BranchOf Spelling → Spelling
spelled_branch b = punct p.Question b.question ∷ (b.gives ++ punct p.Colon b.colon ∷ b.operand)

-- a type name (C11 6.7.7)
abbrev pub spelled_type_name : TypeNameOf Spelling → Spelling
spelled_type_name t = joined t.specifiers ++ t.declarator

-- ---- specifiers (C11 6.7.1 to 6.7.3)

-- a specifier (C11 6.7.1 to 6.7.3)
abbrev pub spelled_specifier : SpecifierOf Spelling → Spelling
spelled_specifier (Specifier-F.Storage storage at) = keyword (storage_word storage) at ∷ []
spelled_specifier (Specifier-F.Const at) = keyword word.Const at ∷ []
spelled_specifier (Specifier-F.Word type at) = keyword (type_word type) at ∷ []
spelled_specifier (Specifier-F.StructTag at tag) = keyword word.Struct at ∷ (name tag ∷ [])
spelled_specifier (Specifier-F.Struct at tag from members to) = keyword word.Struct at ∷ (name_at tag ++ braces from (joined members) to)
spelled_specifier (Specifier-F.EnumTag at tag) = keyword word.Enum at ∷ (name tag ∷ [])
spelled_specifier (Specifier-F.Enum at tag from enumerators comma to) = keyword word.Enum at ∷ (name_at tag ++ braces from (joined enumerators ++ comma_at comma) to)
spelled_specifier (Specifier-F.TypedefName id) = name id ∷ []

-- a declaration of members (C11 6.7.2.1)
abbrev pub spelled_member : MemberOf Spelling → Spelling
spelled_member m = joined m.specifiers ++ (joined m.declarators ++ punct p.Semicolon m.semicolon ∷ [])

-- a member's declarator (C11 6.7.2.1)
abbrev pub spelled_member_declarator : MemberDeclaratorOf Spelling → Spelling
spelled_member_declarator m = comma_at m.comma ++ m.declarator

-- an enumerator (C11 6.7.2.2)
abbrev pub spelled_enumerator : EnumeratorOf Spelling → Spelling
spelled_enumerator (Enumerator-F.Plain comma id) = comma_at comma ++ name id ∷ []
spelled_enumerator (Enumerator-F.Valued comma id equals value) = comma_at comma ++ (name id ∷ (punct p.Assign equals ∷ value))

-- ---- declarators (C11 6.7.6)

-- a declarator (C11 6.7.6)
abbrev pub spelled_declarator : DeclaratorOf Spelling → Spelling
spelled_declarator d = joined (map pointer_spelling d.pointers) ++ (d.direct ++ joined d.suffixes)

-- the middle of a declarator (C11 6.7.6)
abbrev pub spelled_direct : DirectOf Spelling → Spelling
spelled_direct Direct-F.Nothing = []
spelled_direct (Direct-F.Named id) = name id ∷ []
spelled_direct (Direct-F.Grouped from inner to) = parens from inner to

-- an array or a parameter list behind a declarator (C11 6.7.6.2, 6.7.6.3)
abbrev pub spelled_declarator_suffix : DeclaratorSuffixOf Spelling → Spelling
spelled_declarator_suffix (DeclaratorSuffix-F.Array from to) = brackets from [] to
spelled_declarator_suffix (DeclaratorSuffix-F.ArrayOf from size to) = brackets from size to
spelled_declarator_suffix (DeclaratorSuffix-F.Empty from to) = parens from [] to
spelled_declarator_suffix (DeclaratorSuffix-F.Void from at to) = parens from (keyword word.Void at ∷ []) to
spelled_declarator_suffix (DeclaratorSuffix-F.Parameters from all to) = parens from (joined all) to

-- a parameter (C11 6.7.6.3)
abbrev pub spelled_parameter : ParameterOf Spelling → Spelling
spelled_parameter p = comma_at p.comma ++ (joined p.specifiers ++ p.declarator)
