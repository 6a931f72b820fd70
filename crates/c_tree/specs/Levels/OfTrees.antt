-- The production of one node of an expression, and what is told of a specifier or a declarator, from what
-- is told of their parts.
use Rattle.std.specs.Prelude.{ℕ, Bool, true, false, not, ◌&&◌, ◌||◌, if◌then◌else◌, nat_le, [], ◌∷◌, Some, None, is_some}
use Rattle.c_tree.specs.declared.specifier.Storage.{Storage}
use Rattle.c_tree.specs.declared.specifier.Storage.TheVariants as storage
use Rattle.c_tree.specs.declared.specifier.TypeWord.{TypeWord}
use Rattle.c_tree.specs.declared.specifier.TypeWord.TheVariants as type
use Rattle.c_tree.specs.declared.declarator.DeclaratorSuffix.TheOpen.{DeclaratorSuffix-F, Direct-F, Expr-F, Prefix-F, Suffix-F, Enumerator-F, Specifier-F}
use Rattle.c_tree.specs.Levels.Layers.{DeclaratorSuffixParts, DirectParts, ExprParts, PrefixParts, SuffixParts, EnumeratorParts, SpecifierParts, DeclaratorParts, ParameterParts, BranchParts, NextParts, TypeNameParts, MemberParts, MemberDeclaratorParts}
use Rattle.c_tree.specs.Levels.Names.{With, is_typedef_name, told, by, ◌then◌, in_row, declaring}
use Rattle.c_tree.specs.Levels.Productions.{primary, postfix, prefixed, unary, cast, or, conditional, assignment, comma, of_level, below}
use Rattle.c_tree.specs.Levels.Facts.{filled, all_good, ListedFacts, listed, where_good, Operand, operands, targets, PrefixKind, Wrong, Tight, Typed, kind_of_mark, runs_on, begins_typed, SpecifierKind, Storing, Qualifying, Voiding, Typing, Naming, facts_of_specifiers, Alone, Other, Listing, SuffixFacts, DeclaratorFacts, Abstract, Parameter, declares, declared, MemberDeclaratorFacts, listed_members, suffixes_good, nearest, ParameterFacts, listed_parameters, only_void}

-- ---- expressions

-- the production that an expression is of, the tightest, or none (C11 6.5)
abbrev pub level_of_expr : ExprParts → With ℕ
level_of_expr (Expr-F.Name id) = λ names. (where_good (not (is_typedef_name names id.text)) primary, [])
level_of_expr (Expr-F.Number value kind at) = told primary
level_of_expr (Expr-F.Char value at) = told primary
level_of_expr (Expr-F.Strings all) = told (where_good (filled all) primary)
level_of_expr (Expr-F.Paren from inner to) = by (λ n. where_good (nat_le n comma) primary) inner
level_of_expr (Expr-F.Postfix operand suffixes) = by (λ r. where_good (nat_le r.0 primary && (filled r.1 && all_good r.1)) postfix) (operand then in_row suffixes)
level_of_expr (Expr-F.SizeofType at from type to) = by (λ good. where_good good prefixed) type
level_of_expr (Expr-F.Prefixed run operand) = by (λ r. where_good (filled r.0 && (runs_on false r.0 && nat_le r.1 prefixed)) (if begins_typed r.0 then cast else unary)) (in_row run then operand)
level_of_expr (Expr-F.Binary level first rest) = by (λ r. where_good (nat_le r.0 (below level) && (filled r.1 && operands (of_level level) (below level) r.1)) (of_level level)) (first then in_row rest)
level_of_expr (Expr-F.Conditional first rest) = by (λ r. where_good (nat_le r.0 or && (filled r.1 && all_good r.1)) conditional) (first then in_row rest)
level_of_expr (Expr-F.Assign first rest) = by (λ r. where_good (filled r.1 && targets r.0 r.1) assignment) (first then in_row rest)
level_of_expr (Expr-F.Comma first rest) = by (λ r. where_good (nat_le r.0 assignment && (filled r.1 && operands comma assignment r.1)) comma) (first then in_row rest)

-- whether a suffix is as the grammar has it (C11 6.5.2)
abbrev pub level_of_suffix : SuffixParts → With Bool
level_of_suffix (Suffix-F.Index from inner to) = by (λ n. nat_le n comma) inner
level_of_suffix (Suffix-F.Call from to) = told true
level_of_suffix (Suffix-F.CallWith from first rest to) = by (λ r. nat_le r.0 assignment && operands comma assignment r.1) (first then in_row rest)
level_of_suffix (Suffix-F.Member at id) = told true
level_of_suffix (Suffix-F.Arrow at id) = told true
level_of_suffix (Suffix-F.Increment at) = told true
level_of_suffix (Suffix-F.Decrement at) = told true

-- what a prefix is in a run (C11 6.5.3, 6.5.4)
abbrev pub level_of_prefix : PrefixParts → With PrefixKind
level_of_prefix (Prefix-F.Operator m) = told (kind_of_mark m.punct)
level_of_prefix (Prefix-F.Sizeof at) = told Tight
level_of_prefix (Prefix-F.Cast from type to) = by (λ good. if good then Typed else Wrong) type

-- an operator, and the production of its operand
abbrev pub level_of_next : NextParts → With Operand
level_of_next n = by (λ level. (n.operator.punct, level)) n.operand

-- whether what `?` gives is an expression and the operand one of `||` (C11 6.5.15)
abbrev pub level_of_branch : BranchParts → With Bool
level_of_branch b = by (λ r. nat_le r.0 comma && nat_le r.1 or) (b.gives then b.operand)

-- a type name has no storage words
abbrev pub level_of_type_name : TypeNameParts → With Bool
level_of_type_name t = by (λ r. let s = facts_of_specifiers r.0 in s.good && (not s.has_storage && declares Abstract s.names_type r.1)) (in_row t.specifiers then t.declarator)

-- ---- specifiers

-- the storage word is `typedef`
abbrev pub is_typedef : Storage → Bool
is_typedef storage.Typedef = true
is_typedef _ = false

-- what a type word is among specifiers
abbrev pub kind_of_word : TypeWord → SpecifierKind
kind_of_word type.Void = Voiding
kind_of_word _ = Typing true

-- what a specifier is (C11 6.7.1 to 6.7.3)
abbrev pub level_of_specifier : SpecifierParts → With SpecifierKind
level_of_specifier (Specifier-F.Storage storage at) = told (Storing (is_typedef storage))
level_of_specifier (Specifier-F.Const at) = told Qualifying
level_of_specifier (Specifier-F.Word type at) = told (kind_of_word type)
level_of_specifier (Specifier-F.StructTag at tag) = told (Typing true)
level_of_specifier (Specifier-F.Struct at tag from members to) = by (λ all. Typing (filled all && all_good all)) (in_row members)
level_of_specifier (Specifier-F.EnumTag at tag) = told (Typing true)
level_of_specifier (Specifier-F.Enum at tag from enumerators last to) = by (λ all. Typing (filled all && listed all)) (in_row enumerators)
level_of_specifier (Specifier-F.TypedefName id) = λ names. (Naming (is_typedef_name names id.text), [])

-- a member has no storage words and at least one declarator, and declares no name of this kind
abbrev pub level_of_member : MemberParts → With Bool
level_of_member m = by (λ r. let s = facts_of_specifiers r.0 in s.good && (not s.has_storage && (filled r.1 && listed (listed_members s.names_type r.1)))) (in_row m.specifiers then in_row m.declarators)

-- a member's declarator and whether a comma stands before it (C11 6.7.2.1)
abbrev pub level_of_member_declarator : MemberDeclaratorParts → With MemberDeclaratorFacts
level_of_member_declarator m = by (λ d. record { comma = is_some m.comma; declarator = d }) m.declarator

-- an enumerator is visible from its end
abbrev pub level_of_enumerator : EnumeratorParts → With ListedFacts
level_of_enumerator (Enumerator-F.Plain before id) = declaring (λ _. (id.text, false) ∷ []) (told (record { comma = is_some before; good = true }))
level_of_enumerator (Enumerator-F.Valued before id equals value) = declaring (λ _. (id.text, false) ∷ []) (by (λ n. record { comma = is_some before; good = nat_le n conditional }) value)

-- ---- declarators

-- what is told of a declarator (C11 6.7.6)
abbrev pub level_of_declarator : DeclaratorParts → With DeclaratorFacts
level_of_declarator d = by (λ r. record {
  good = r.0.good && suffixes_good r.1;
  name = r.0.name;
  is_nothing = not (filled d.pointers) && (r.0.is_nothing && not (filled r.1));
  names_typedef = r.0.names_typedef;
  begins_typed = not (filled d.pointers) && r.0.begins_typed;
  may_be_parameters = r.0.may_be_parameters;
  beside = nearest r.0.beside r.1 d.pointers;
}) (d.direct then in_row d.suffixes)

-- what is told of the middle of a declarator (C11 6.7.6)
abbrev pub level_of_direct : DirectParts → With DeclaratorFacts
level_of_direct Direct-F.Nothing = told (record { good = true; name = None; is_nothing = true; names_typedef = false; begins_typed = false; may_be_parameters = false; beside = Alone })
level_of_direct (Direct-F.Named id) = λ names. let seen = is_typedef_name names id.text in (record { good = true; name = Some id.text; is_nothing = false; names_typedef = seen; begins_typed = seen; may_be_parameters = false; beside = Alone }, [])
level_of_direct (Direct-F.Grouped from inner to) = by (λ d. record {
  good = d.good && not d.is_nothing;
  name = d.name;
  is_nothing = false;
  names_typedef = d.names_typedef;
  begins_typed = false;
  may_be_parameters = d.begins_typed || d.may_be_parameters;
  beside = d.beside;
}) inner

-- whether a suffix is as the grammar has it, and what it declares (C11 6.7.6.2, 6.7.6.3)
abbrev pub level_of_declarator_suffix : DeclaratorSuffixParts → With SuffixFacts
level_of_declarator_suffix (DeclaratorSuffix-F.Array from to) = told (record { good = true; beside = Other })
level_of_declarator_suffix (DeclaratorSuffix-F.ArrayOf from size to) = by (λ n. record { good = nat_le n conditional; beside = Other }) size
level_of_declarator_suffix (DeclaratorSuffix-F.Empty from to) = told (record { good = true; beside = Listing [] })
level_of_declarator_suffix (DeclaratorSuffix-F.Void from at to) = told (record { good = true; beside = Listing [] })
level_of_declarator_suffix (DeclaratorSuffix-F.Parameters from all to) = λ names. let r = in_row all names in (record { good = filled r.0 && (not (only_void r.0) && listed (listed_parameters r.0)); beside = Listing r.1 }, [])

-- a parameter is visible from its end to that of its list
abbrev pub level_of_parameter : ParameterParts → With ParameterFacts
level_of_parameter p = declaring (λ facts. facts.names) (by (λ r. let s = facts_of_specifiers r.0 in record {
  comma = is_some p.comma;
  good = s.good && declares Parameter s.names_type r.1;
  is_void = s.is_void && r.1.is_nothing;
  names = declared s.has_typedef r.1;
}) (in_row p.specifiers then p.declarator))
