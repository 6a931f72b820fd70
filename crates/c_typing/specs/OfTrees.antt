-- What typing makes of one node of an expression, a specifier or a declarator, from what it makes of the parts (C11 6.5, 6.7).
use Rattle.std.specs.Prelude.{ℕ, ◌+◌, nat_lt, Bool, true, false, ◌&&◌, not, if◌then◌else◌, List, [], ◌∷◌, ◌++◌, Option, Some, None, length, map, reverse, is_some}
use Rattle.std.specs.Option.{option_map}
use Rattle.c_tree.specs.declared.token.Pos.{Pos}
use Rattle.c_tree.specs.declared.token.Punct.{Punct}
use Rattle.c_tree.specs.declared.token.Punct.TheVariants as p
use Rattle.c_tree.specs.declared.expression.Identifier.{Identifier}
use Rattle.c_tree.specs.declared.expression.Literal.{Literal}
use Rattle.c_tree.specs.declared.expression.Mark.{Mark}
use Rattle.c_tree.specs.declared.expression.Level.{Level}
use Rattle.c_tree.specs.declared.expression.Level.TheVariants as level
use Rattle.c_tree.specs.declared.declarator.Pointer.{Pointer}
use Rattle.c_tree.specs.declared.refusal.FaultKind.TheVariants as kind
use Rattle.c_tree.specs.declared.typed.types.CType.{CType}
use Rattle.c_tree.specs.declared.typed.operator.Given.TheVariants as given
use Rattle.c_tree.specs.declared.typed.expression.TExpr.{TExpr}
use Rattle.c_tree.specs.declared.typed.expression.TExpr.TheVariants as x
use Rattle.c_tree.specs.declared.declarator.DeclaratorSuffix.TheOpen.{DeclaratorSuffix-F, Direct-F, Expr-F, Prefix-F, Suffix-F, Enumerator-F, Specifier-F}
use Rattle.c_typing.specs.Types.{int, plain, shape}
use Rattle.c_typing.specs.Conversions.{base_of_constant}
use Rattle.c_typing.specs.Scopes.{Automatic, Walk, give, unasked, tell, offer, ◌>>=◌, asked, both_asked, beside, fault_if, unless, here, joined, in_row, scoped, in_definition, declaring, own_meaning}
use Rattle.c_typing.specs.Operands.{Operand, tree_of, value, number, valued, dropping}
use Rattle.c_typing.specs.Expressions.{Argument, name_row, string_row, size_row, indirection_row, address_row, promoted_row, negated, complemented, not_row, increment_row, cast_row, binary_row, truth_row, index_row, member_row, arrow_row, call_row, Chain, conditional_row, Assigned, assign_row}
use Rattle.c_typing.specs.Declarators.{Expressed, Parameter, Part, Pointing, Arraying, Listing, array_part, function_part, Declaring, Suffixed, Storing, Qualifying, Wording, Naming, Using, Specified, Basis, TypeNamed, Enumerated, Members, basis_type, is_register, count_row, declared_type, name_place, adjusted, complete_parameter, nowhere, first_token, specifiers_row, struct_tag_row, enum_tag_row, struct_row, one_member, all_members, plain_enumerator, valued_enumerator, enum_row}
use Rattle.c_typing.specs.Parts.{Prefixing, Marking, Sizing, Casting, Prefixed, Suffixing, Indexing, Calling, Membering, Arrowing, Changing, Operating, Branching, Listed, DeclaratorSuffixParts, DirectParts, ExprParts, PrefixParts, SuffixParts, EnumeratorParts, SpecifierParts, DeclaratorParts, ParameterParts, BranchParts, NextParts, TypeNameParts, MemberParts, MemberDeclaratorParts}

-- ---- expressions

-- an expression that is no name and no string
abbrev pub meaning : Pos → Walk Operand → Expressed
meaning first w = record { first = first; callee = None; literal = None; typed = w }

abbrev pub bytes_of_all : List Literal → List ℕ
bytes_of_all [] = []
bytes_of_all (l ∷ ls) = l.bytes ++ bytes_of_all ls

abbrev pub first_literal : List Literal → Pos
first_literal [] = nowhere
first_literal (l ∷ ls) = l.place

-- what each of some walks gives, or not
abbrev pub each : {A : Type 0} → List (Walk A) → Walk (List (Option A))
each [] = give []
each (w ∷ ws) = w >>= λ a. each ws >>= λ rest. asked rest (λ rest. give (a ∷ rest))

abbrev pub mark_row : Punct → Mark → Operand → Walk Operand
mark_row p.Ampersand m o = address_row m.place o
mark_row p.Star m o = indirection_row m.place o
mark_row p.Plus m o = promoted_row (λ v. v) m.place (valued o)
mark_row p.Minus m o = promoted_row negated m.place (valued o)
mark_row p.Tilde m o = promoted_row complemented m.place (valued o)
mark_row p.Not m o = not_row m.place (valued o)
mark_row q m o = increment_row m given.New o

abbrev pub prefix_row : Prefixing → Operand → Walk Operand
prefix_row (Marking m) o = mark_row m.punct m o
prefix_row (Sizing at) o = size_row at o.ctype
prefix_row (Casting at t) o = cast_row at t o

-- the prefix that stands next to the operand comes first
abbrev pub prefixes_row : List (Option Prefixing) → Option Operand → Walk Operand
prefixes_row [] o = offer o
prefixes_row (q ∷ qs) o = prefixes_row qs o >>= λ v. both_asked q v prefix_row

abbrev pub first_prefix : List Prefixed → Pos → Pos
first_prefix [] at = at
first_prefix (q ∷ qs) at = q.first

abbrev pub prefix_walk : Prefixed → Walk Prefixing
prefix_walk q = q.walk

abbrev pub arguments : List Expressed → Walk (List Argument)
arguments [] = give []
arguments (e ∷ es) = e.typed >>= λ o. arguments es >>= λ rest. asked rest (λ rest. give ((e.first, o) ∷ rest))

abbrev pub suffix_row : Suffixing → Option Operand → Walk Operand
suffix_row (Indexing at e) o = e.typed >>= λ i. both_asked o i (index_row at)
suffix_row (Calling at es) o = arguments es >>= λ args. asked o (λ o. tell kind.BadCall at)
suffix_row (Membering at name) o = asked o (member_row name at)
suffix_row (Arrowing at name) o = asked o (arrow_row name at)
suffix_row (Changing m) o = asked o (increment_row m given.Old)

abbrev pub suffixes_row : List Suffixing → Option Operand → Walk Operand
suffixes_row [] o = offer o
suffixes_row (q ∷ qs) o = suffix_row q o >>= suffixes_row qs

-- a name directly before the `(` of a call is that of a function
abbrev pub postfix_row : Expressed → Option Identifier → List Suffixing → Walk Operand
postfix_row e (Some id) (Calling at es ∷ qs) = arguments es >>= λ args. asked args (call_row id at) >>= suffixes_row qs
postfix_row e callee qs = e.typed >>= suffixes_row qs

abbrev pub binaries_row : List Operating → Option Operand → Walk Operand
binaries_row [] l = offer l
binaries_row (n ∷ ns) l = n.operand.typed >>= λ r. both_asked l r (binary_row n.operator) >>= binaries_row ns

-- the operands of `&&` or `||`: each is true or false (6.5.13p2, 6.5.14p2)
abbrev pub truths_row : List Operating → Option (List TExpr) → Walk (List TExpr)
truths_row [] done = offer done
truths_row (n ∷ ns) done =
    n.operand.typed >>= λ r. asked r (truth_row n.operator.place) >>= λ t.
    truths_row ns (elim done as (λ d. Option (List TExpr)) [ None ↦ None | Some all ↦ option_map (λ t. all ++ tree_of t ∷ []) t ])

abbrev pub logical_row : (List TExpr → TExpr) → Option Operand → List Operating → Walk Operand
logical_row f first [] = offer first
logical_row f first (n ∷ ns) =
    asked first (truth_row n.operator.place) >>= λ t. truths_row (n ∷ ns) (option_map (λ t. tree_of t ∷ []) t) >>= λ all.
    asked all (λ all. give (value int (f all)))

abbrev pub level_row : Level → Option Operand → List Operating → Walk Operand
level_row level.Or first rest = logical_row (λ all. x.Any int all) first rest
level_row level.And first rest = logical_row (λ all. x.All int all) first rest
level_row l first rest = binaries_row rest first

abbrev pub chain_end : Operand → Chain
chain_end o = record { whole = valued o; arms = []; last = valued o }

abbrev pub chain_row : List Branching → Option Operand → Walk Chain
chain_row [] o = offer (option_map chain_end o)
chain_row (b ∷ bs) o =
    b.gives.typed >>= λ g. b.operand.typed >>= λ next. chain_row bs next >>= λ rest. conditional_row b.question o g rest

abbrev pub assigned_end : Operand → Assigned
assigned_end o = record { whole = valued o; targets = []; last = tree_of (valued o) }

abbrev pub assigns_row : List Operating → Option Operand → Walk Assigned
assigns_row [] o = offer (option_map assigned_end o)
assigns_row (n ∷ ns) o = n.operand.typed >>= λ r. assigns_row ns r >>= λ right. assign_row n.operator o right

-- `a, b`: the type and the value of the last operand (6.5.17p2)
abbrev pub comma_of : List TExpr → Operand → Operand
comma_of ds o = value v.ctype (x.Comma v.ctype ds (tree_of v))
  where
    v : Operand
    v = valued o

abbrev pub commas_row : List Operating → List TExpr → Option Operand → Walk Operand
commas_row [] ds o = offer (option_map (comma_of ds) o)
commas_row (n ∷ ns) ds (Some o) = n.operand.typed >>= commas_row ns (ds ++ tree_of (dropping o) ∷ [])
commas_row (n ∷ ns) ds None = n.operand.typed >>= λ r. commas_row ns ds r >>= λ v. unasked

abbrev pub typed_expr : ExprParts → Expressed
typed_expr (Expr-F.Name id) = record { first = id.place; callee = Some id; literal = None; typed = name_row id }
typed_expr (Expr-F.Number n k at) = meaning at (give (number (plain (base_of_constant k)) n))
typed_expr (Expr-F.Char n at) = meaning at (give (number int n))
typed_expr (Expr-F.Strings all) = record {
  first = first_literal all;
  callee = None;
  literal = Some (bytes_of_all all);
  typed = string_row (first_literal all) (bytes_of_all all);
}
typed_expr (Expr-F.Paren from inner to) = meaning from inner.typed
typed_expr (Expr-F.Postfix operand suffixes) = meaning operand.first (postfix_row operand operand.callee suffixes)
typed_expr (Expr-F.SizeofType at from type to) = meaning at (type.typed at >>= λ t. asked t (size_row at))
typed_expr (Expr-F.Prefixed run operand) = meaning (first_prefix run operand.first)
    (each (map prefix_walk run) >>= λ qs. operand.typed >>= λ o. asked qs (λ qs. prefixes_row qs o))
typed_expr (Expr-F.Binary l first rest) = meaning first.first (first.typed >>= λ o. level_row l o rest)
typed_expr (Expr-F.Conditional first rest) = meaning first.first
    (first.typed >>= chain_row rest >>= λ c. asked c (λ c. give c.whole))
typed_expr (Expr-F.Assign first rest) = meaning first.first
    (first.typed >>= assigns_row rest >>= λ a. asked a (λ a. give a.whole))
typed_expr (Expr-F.Comma first rest) = meaning first.first (first.typed >>= commas_row rest [])

abbrev pub operand_of : Operating → Expressed
operand_of n = n.operand

abbrev pub typed_suffix : SuffixParts → Suffixing
typed_suffix (Suffix-F.Index from inner to) = Indexing from inner
typed_suffix (Suffix-F.Call from to) = Calling from []
typed_suffix (Suffix-F.CallWith from first rest to) = Calling from (first ∷ map operand_of rest)
typed_suffix (Suffix-F.Member at id) = Membering at id
typed_suffix (Suffix-F.Arrow at id) = Arrowing at id
typed_suffix (Suffix-F.Increment at) = Changing (record { punct = p.Increment; place = at })
typed_suffix (Suffix-F.Decrement at) = Changing (record { punct = p.Decrement; place = at })

abbrev pub typed_prefix : PrefixParts → Prefixed
typed_prefix (Prefix-F.Operator m) = record { first = m.place; walk = give (Marking m) }
typed_prefix (Prefix-F.Sizeof at) = record { first = at; walk = give (Sizing at) }
typed_prefix (Prefix-F.Cast from type to) =
    record { first = from; walk = type.typed from >>= λ t. asked t (λ t. give (Casting from t)) }

abbrev pub typed_next : NextParts → Operating
typed_next n = record { operator = n.operator; operand = n.operand }

abbrev pub typed_branch : BranchParts → Branching
typed_branch b = record { question = b.question; gives = b.gives; operand = b.operand }

abbrev pub typed_type_name : TypeNameParts → TypeNamed
typed_type_name t = record {
  typed = λ at. specifiers_row false t.specifiers >>= λ b. declared_type t.declarator false at (option_map basis_type b);
}

-- ---- specifiers

abbrev pub typed_specifier : SpecifierParts → Specified
typed_specifier (Specifier-F.Storage s at) = record { first = at; specifying = Storing s }
typed_specifier (Specifier-F.Const at) = record { first = at; specifying = Qualifying }
typed_specifier (Specifier-F.Word w at) = record { first = at; specifying = Wording w }
typed_specifier (Specifier-F.StructTag at tag) = record { first = at; specifying = Naming (struct_tag_row tag) }
typed_specifier (Specifier-F.Struct at tag from members to) =
    record { first = at; specifying = Naming (λ alone. struct_row at tag members) }
typed_specifier (Specifier-F.EnumTag at tag) = record { first = at; specifying = Naming (λ alone. enum_tag_row tag) }
typed_specifier (Specifier-F.Enum at tag from enumerators last to) =
    record { first = at; specifying = Naming (λ alone. enum_row tag enumerators) }
typed_specifier (Specifier-F.TypedefName id) = record { first = id.place; specifying = Using id }

abbrev pub typed_member : MemberParts → Walk Members
typed_member m = specifiers_row false m.specifiers >>= λ b. in_row (map (one_member b) m.declarators) >>= λ ms. offer (option_map all_members ms)

abbrev pub typed_member_declarator : MemberDeclaratorParts → Declaring
typed_member_declarator m = m.declarator

abbrev pub typed_enumerator : EnumeratorParts → Enumerated
typed_enumerator (Enumerator-F.Plain before id) = record { value = plain_enumerator id }
typed_enumerator (Enumerator-F.Valued before id equals e) = record { value = λ next. valued_enumerator id e }

-- ---- declarators

abbrev pub pointing : List Pointer → List Part
pointing ps = map (λ q. Pointing (nat_lt 0 (length q.constants))) ps

-- the first suffix stands beside the name, where nothing else does
abbrev pub suffixes_parts : (defining : Bool) → List Suffixed → Walk (List Part)
suffixes_parts defining [] = give []
suffixes_parts defining (s ∷ ss) = s.part defining >>= λ a. suffixes_parts false ss >>= λ rest. offer (joined a rest)

abbrev pub makes_by : List Suffixed → List Pointer → Option Bool
makes_by (s ∷ ss) ps = Some s.makes
makes_by [] (q ∷ ps) = Some false
makes_by [] [] = None

abbrev pub typed_declarator : DeclaratorParts → Declaring
typed_declarator d = let inside : Bool = is_some d.direct.makes in record {
  name = d.direct.name;
  makes = if inside then d.direct.makes else makes_by d.suffixes d.pointers;
  parts = λ defining.
      d.direct.parts (inside && defining) >>= λ inner. suffixes_parts (not inside && defining) d.suffixes >>= λ ss.
      both_asked inner ss (λ inner ss. give (pointing d.pointers ++ (reverse ss ++ inner)));
}

abbrev pub typed_direct : DirectParts → Declaring
typed_direct Direct-F.Nothing = record { name = None; makes = None; parts = λ defining. give [] }
typed_direct (Direct-F.Named id) = record { name = Some id; makes = None; parts = λ defining. give [] }
typed_direct (Direct-F.Grouped from inner to) = inner

-- a parameter list that is not that of a definition is a scope of its own (6.2.1p4), in which no object stands
abbrev pub in_prototype : {A : Type 0} → Walk A → Walk A
in_prototype w c s =
    let said = scoped w (record c { at_file_level = false }) s in
    record { faults = said.faults; given = said.given; state = record (said.state) { addressed = s.addressed } }

abbrev pub parameters_row : ℕ → List Listed → Walk (List Parameter)
parameters_row n [] = give []
parameters_row n (q ∷ qs) = q n >>= λ a. parameters_row (n + 1) qs >>= λ rest. offer (joined a rest)

abbrev pub listing : Bool → Walk (List Parameter) → Walk Part
listing defining w = (if defining then in_definition w else in_prototype w) >>= λ ps. give (function_part ps)

abbrev pub typed_declarator_suffix : DeclaratorSuffixParts → Suffixed
typed_declarator_suffix (DeclaratorSuffix-F.Array from to) = record { makes = false; part = λ defining. give (Arraying None) }
typed_declarator_suffix (DeclaratorSuffix-F.ArrayOf from size to) = record {
  makes = false;
  part = λ defining. size.typed >>= λ o. asked o (count_row from size.first) >>= λ n. give (array_part n);
}
typed_declarator_suffix (DeclaratorSuffix-F.Empty from to) = record { makes = true; part = λ defining. give (Listing []) }
typed_declarator_suffix (DeclaratorSuffix-F.Void from at to) = record { makes = true; part = λ defining. give (Listing []) }
typed_declarator_suffix (DeclaratorSuffix-F.Parameters from all to) =
    record { makes = true; part = λ defining. listing defining (parameters_row 0 all) }

-- a parameter has no storage word but `register` (6.7.6.3p2)
abbrev pub parameter_basis : Pos → Basis → Walk Basis
parameter_basis at b = unless (is_some b.storage && not (is_register b.storage)) kind.BadSpecifier at (give b)

abbrev pub parameter_meant : Identifier → ℕ → Bool → CType → Walk CType
parameter_meant id n r t = here (λ c s.
    beside (fault_if (is_some (own_meaning c s id.text)) kind.Redeclared id.place) (declaring id.text (Automatic t n n r) (give t)))

abbrev pub parameter_named : Option Identifier → ℕ → Bool → CType → Walk CType
parameter_named (Some id) n r t = parameter_meant id n r t
parameter_named None n r t = give t

abbrev pub parameter_type : Declaring → Pos → Option Basis → Walk CType
parameter_type d at b =
    declared_type d false at (option_map basis_type b) >>= λ t.
    asked t (λ t. complete_parameter (name_place d.name at) (adjusted (shape t) t))

abbrev pub typed_parameter : ParameterParts → Listed
typed_parameter q n =
    let at = first_token q.specifiers in
    specifiers_row false q.specifiers >>= λ b. asked b (parameter_basis at) >>= λ b. parameter_type q.declarator at b >>= λ t.
    both_asked b t (λ b t. parameter_named q.declarator.name n (is_register b.storage) t >>= λ t. asked t (λ t.
    give (record { name = q.declarator.name; first = at; ctype = t; in_register = is_register b.storage })))
