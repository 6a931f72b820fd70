-- Written by tools/grammar_tables.py.
-- A tree of an enum is one of its kinds of node: what is shown of each kind holds of every tree.
use Rattle.std.specs.Prelude.{◌≡◌, ℕ, List, Option}
use Rattle.std.proofs.Common.{sym, ◌∙◌, subst}
use Rattle.c_tree.specs.declared.expression.Identifier.{Identifier}
use Rattle.c_tree.specs.declared.token.IntKind.{IntKind}
use Rattle.c_tree.specs.declared.expression.Level.{Level}
use Rattle.c_tree.specs.declared.expression.Literal.{Literal}
use Rattle.c_tree.specs.declared.expression.Mark.{Mark}
use Rattle.c_tree.specs.declared.token.Pos.{Pos}
use Rattle.c_tree.specs.declared.specifier.Storage.{Storage}
use Rattle.c_tree.specs.declared.specifier.TypeWord.{TypeWord}
use Rattle.c_tree.specs.declared.declarator.DeclaratorSuffix.{DeclaratorSuffix, out-DeclaratorSuffix, roll-DeclaratorSuffix, roll-out-DeclaratorSuffix}
use Rattle.c_tree.specs.declared.declarator.DeclaratorSuffix.TheVariants as declarator_suffix
use Rattle.c_tree.specs.declared.declarator.Direct.{Direct, out-Direct, roll-Direct, roll-out-Direct}
use Rattle.c_tree.specs.declared.declarator.Direct.TheVariants as direct
use Rattle.c_tree.specs.declared.expression.Expr.{Expr, out-Expr, roll-Expr, roll-out-Expr}
use Rattle.c_tree.specs.declared.expression.Expr.TheVariants as expr
use Rattle.c_tree.specs.declared.expression.Prefix.{Prefix, out-Prefix, roll-Prefix, roll-out-Prefix}
use Rattle.c_tree.specs.declared.expression.Prefix.TheVariants as prefix
use Rattle.c_tree.specs.declared.expression.Suffix.{Suffix, out-Suffix, roll-Suffix, roll-out-Suffix}
use Rattle.c_tree.specs.declared.expression.Suffix.TheVariants as suffix
use Rattle.c_tree.specs.declared.specifier.Enumerator.{Enumerator, out-Enumerator, roll-Enumerator, roll-out-Enumerator}
use Rattle.c_tree.specs.declared.specifier.Enumerator.TheVariants as enumerator
use Rattle.c_tree.specs.declared.specifier.Specifier.{Specifier, out-Specifier, roll-Specifier, roll-out-Specifier}
use Rattle.c_tree.specs.declared.specifier.Specifier.TheVariants as specifier
use Rattle.c_tree.specs.declared.declarator.Declarator.{Declarator}
use Rattle.c_tree.specs.declared.declarator.Parameter.{Parameter}
use Rattle.c_tree.specs.declared.expression.Branch.{Branch}
use Rattle.c_tree.specs.declared.expression.Next.{Next}
use Rattle.c_tree.specs.declared.expression.TypeName.{TypeName}
use Rattle.c_tree.specs.declared.specifier.Member.{Member}
use Rattle.c_tree.specs.declared.declarator.DeclaratorSuffix.TheOpen.{DeclaratorSuffix-F, Direct-F, Expr-F, Prefix-F, Suffix-F, Enumerator-F, Specifier-F}
use Rattle.c_tree.specs.Layers.{DeclaratorSuffixLayer, DirectLayer, ExprLayer, PrefixLayer, SuffixLayer, EnumeratorLayer, SpecifierLayer}

pub record DeclaratorSuffixCases (P : DeclaratorSuffix → Type 0) : Type 0 where
  pub array : (from : Pos) (to : Pos) → P (declarator_suffix.Array from to)
  pub array_of : (from : Pos) (size : Expr) (to : Pos) → P (declarator_suffix.ArrayOf from size to)
  pub empty : (from : Pos) (to : Pos) → P (declarator_suffix.Empty from to)
  pub void : (from : Pos) (at : Pos) (to : Pos) → P (declarator_suffix.Void from at to)
  pub parameters : (from : Pos) (all : List Parameter) (to : Pos) → P (declarator_suffix.Parameters from all to)

by_declarator_suffix : (P : DeclaratorSuffix → Type 0) → DeclaratorSuffixCases P → (x : DeclaratorSuffix) (node : DeclaratorSuffixLayer) → roll-DeclaratorSuffix node ≡ x → P x
by_declarator_suffix P c x (DeclaratorSuffix-F.Array from to) r = subst P (sym (declarator_suffix.rolls-Array from to) ∙ r) (c.array from to)
by_declarator_suffix P c x (DeclaratorSuffix-F.ArrayOf from size to) r = subst P (sym (declarator_suffix.rolls-ArrayOf from size to) ∙ r) (c.array_of from size to)
by_declarator_suffix P c x (DeclaratorSuffix-F.Empty from to) r = subst P (sym (declarator_suffix.rolls-Empty from to) ∙ r) (c.empty from to)
by_declarator_suffix P c x (DeclaratorSuffix-F.Void from at to) r = subst P (sym (declarator_suffix.rolls-Void from at to) ∙ r) (c.void from at to)
by_declarator_suffix P c x (DeclaratorSuffix-F.Parameters from all to) r = subst P (sym (declarator_suffix.rolls-Parameters from all to) ∙ r) (c.parameters from all to)

pub declarator_suffix_cases : (P : DeclaratorSuffix → Type 0) → DeclaratorSuffixCases P → (x : DeclaratorSuffix) → P x
declarator_suffix_cases P c x = by_declarator_suffix P c x (out-DeclaratorSuffix x) (roll-out-DeclaratorSuffix x)

-- which kind of node the tree is
pub data DeclaratorSuffixShape : DeclaratorSuffix → Type 0 where
  a_array : (from : Pos) (to : Pos) → DeclaratorSuffixShape (declarator_suffix.Array from to)
  a_array_of : (from : Pos) (size : Expr) (to : Pos) → DeclaratorSuffixShape (declarator_suffix.ArrayOf from size to)
  a_empty : (from : Pos) (to : Pos) → DeclaratorSuffixShape (declarator_suffix.Empty from to)
  a_void : (from : Pos) (at : Pos) (to : Pos) → DeclaratorSuffixShape (declarator_suffix.Void from at to)
  a_parameters : (from : Pos) (all : List Parameter) (to : Pos) → DeclaratorSuffixShape (declarator_suffix.Parameters from all to)

pub declarator_suffix_shape : (x : DeclaratorSuffix) → DeclaratorSuffixShape x
declarator_suffix_shape = declarator_suffix_cases DeclaratorSuffixShape (record { array = λ from to. DeclaratorSuffixShape.a_array from to; array_of = λ from size to. DeclaratorSuffixShape.a_array_of from size to; empty = λ from to. DeclaratorSuffixShape.a_empty from to; void = λ from at to. DeclaratorSuffixShape.a_void from at to; parameters = λ from all to. DeclaratorSuffixShape.a_parameters from all to })

pub record DirectCases (P : Direct → Type 0) : Type 0 where
  pub nothing : P direct.Nothing
  pub named : (name : Identifier) → P (direct.Named name)
  pub grouped : (from : Pos) (inner : Declarator) (to : Pos) → P (direct.Grouped from inner to)

by_direct : (P : Direct → Type 0) → DirectCases P → (x : Direct) (node : DirectLayer) → roll-Direct node ≡ x → P x
by_direct P c x Direct-F.Nothing r = subst P (sym direct.rolls-Nothing ∙ r) c.nothing
by_direct P c x (Direct-F.Named name) r = subst P (sym (direct.rolls-Named name) ∙ r) (c.named name)
by_direct P c x (Direct-F.Grouped from inner to) r = subst P (sym (direct.rolls-Grouped from inner to) ∙ r) (c.grouped from inner to)

pub direct_cases : (P : Direct → Type 0) → DirectCases P → (x : Direct) → P x
direct_cases P c x = by_direct P c x (out-Direct x) (roll-out-Direct x)

-- which kind of node the tree is
pub data DirectShape : Direct → Type 0 where
  a_nothing : DirectShape direct.Nothing
  a_named : (name : Identifier) → DirectShape (direct.Named name)
  a_grouped : (from : Pos) (inner : Declarator) (to : Pos) → DirectShape (direct.Grouped from inner to)

pub direct_shape : (x : Direct) → DirectShape x
direct_shape = direct_cases DirectShape (record { nothing = DirectShape.a_nothing; named = λ name. DirectShape.a_named name; grouped = λ from inner to. DirectShape.a_grouped from inner to })

pub record ExprCases (P : Expr → Type 0) : Type 0 where
  pub name : (name : Identifier) → P (expr.Name name)
  pub number : (value : ℕ) (kind : IntKind) (at : Pos) → P (expr.Number value kind at)
  pub char : (value : ℕ) (at : Pos) → P (expr.Char value at)
  pub strings : (all : List Literal) → P (expr.Strings all)
  pub paren : (from : Pos) (inner : Expr) (to : Pos) → P (expr.Paren from inner to)
  pub postfix : (operand : Expr) (suffixes : List Suffix) → P (expr.Postfix operand suffixes)
  pub sizeof_type : (at : Pos) (from : Pos) (type : TypeName) (to : Pos) → P (expr.SizeofType at from type to)
  pub prefixed : (run : List Prefix) (operand : Expr) → P (expr.Prefixed run operand)
  pub binary : (level : Level) (first : Expr) (rest : List Next) → P (expr.Binary level first rest)
  pub conditional : (first : Expr) (rest : List Branch) → P (expr.Conditional first rest)
  pub assign : (first : Expr) (rest : List Next) → P (expr.Assign first rest)
  pub comma : (first : Expr) (rest : List Next) → P (expr.Comma first rest)

by_expr : (P : Expr → Type 0) → ExprCases P → (x : Expr) (node : ExprLayer) → roll-Expr node ≡ x → P x
by_expr P c x (Expr-F.Name name) r = subst P (sym (expr.rolls-Name name) ∙ r) (c.name name)
by_expr P c x (Expr-F.Number value kind at) r = subst P (sym (expr.rolls-Number value kind at) ∙ r) (c.number value kind at)
by_expr P c x (Expr-F.Char value at) r = subst P (sym (expr.rolls-Char value at) ∙ r) (c.char value at)
by_expr P c x (Expr-F.Strings all) r = subst P (sym (expr.rolls-Strings all) ∙ r) (c.strings all)
by_expr P c x (Expr-F.Paren from inner to) r = subst P (sym (expr.rolls-Paren from inner to) ∙ r) (c.paren from inner to)
by_expr P c x (Expr-F.Postfix operand suffixes) r = subst P (sym (expr.rolls-Postfix operand suffixes) ∙ r) (c.postfix operand suffixes)
by_expr P c x (Expr-F.SizeofType at from type to) r = subst P (sym (expr.rolls-SizeofType at from type to) ∙ r) (c.sizeof_type at from type to)
by_expr P c x (Expr-F.Prefixed run operand) r = subst P (sym (expr.rolls-Prefixed run operand) ∙ r) (c.prefixed run operand)
by_expr P c x (Expr-F.Binary level first rest) r = subst P (sym (expr.rolls-Binary level first rest) ∙ r) (c.binary level first rest)
by_expr P c x (Expr-F.Conditional first rest) r = subst P (sym (expr.rolls-Conditional first rest) ∙ r) (c.conditional first rest)
by_expr P c x (Expr-F.Assign first rest) r = subst P (sym (expr.rolls-Assign first rest) ∙ r) (c.assign first rest)
by_expr P c x (Expr-F.Comma first rest) r = subst P (sym (expr.rolls-Comma first rest) ∙ r) (c.comma first rest)

pub expr_cases : (P : Expr → Type 0) → ExprCases P → (x : Expr) → P x
expr_cases P c x = by_expr P c x (out-Expr x) (roll-out-Expr x)

-- which kind of node the tree is
pub data ExprShape : Expr → Type 0 where
  a_name : (name : Identifier) → ExprShape (expr.Name name)
  a_number : (value : ℕ) (kind : IntKind) (at : Pos) → ExprShape (expr.Number value kind at)
  a_char : (value : ℕ) (at : Pos) → ExprShape (expr.Char value at)
  a_strings : (all : List Literal) → ExprShape (expr.Strings all)
  a_paren : (from : Pos) (inner : Expr) (to : Pos) → ExprShape (expr.Paren from inner to)
  a_postfix : (operand : Expr) (suffixes : List Suffix) → ExprShape (expr.Postfix operand suffixes)
  a_sizeof_type : (at : Pos) (from : Pos) (type : TypeName) (to : Pos) → ExprShape (expr.SizeofType at from type to)
  a_prefixed : (run : List Prefix) (operand : Expr) → ExprShape (expr.Prefixed run operand)
  a_binary : (level : Level) (first : Expr) (rest : List Next) → ExprShape (expr.Binary level first rest)
  a_conditional : (first : Expr) (rest : List Branch) → ExprShape (expr.Conditional first rest)
  a_assign : (first : Expr) (rest : List Next) → ExprShape (expr.Assign first rest)
  a_comma : (first : Expr) (rest : List Next) → ExprShape (expr.Comma first rest)

pub expr_shape : (x : Expr) → ExprShape x
expr_shape = expr_cases ExprShape (record { name = λ name. ExprShape.a_name name; number = λ value kind at. ExprShape.a_number value kind at; char = λ value at. ExprShape.a_char value at; strings = λ all. ExprShape.a_strings all; paren = λ from inner to. ExprShape.a_paren from inner to; postfix = λ operand suffixes. ExprShape.a_postfix operand suffixes; sizeof_type = λ at from type to. ExprShape.a_sizeof_type at from type to; prefixed = λ run operand. ExprShape.a_prefixed run operand; binary = λ level first rest. ExprShape.a_binary level first rest; conditional = λ first rest. ExprShape.a_conditional first rest; assign = λ first rest. ExprShape.a_assign first rest; comma = λ first rest. ExprShape.a_comma first rest })

pub record PrefixCases (P : Prefix → Type 0) : Type 0 where
  pub operator : (mark : Mark) → P (prefix.Operator mark)
  pub sizeof : (at : Pos) → P (prefix.Sizeof at)
  pub cast : (from : Pos) (type : TypeName) (to : Pos) → P (prefix.Cast from type to)

by_prefix : (P : Prefix → Type 0) → PrefixCases P → (x : Prefix) (node : PrefixLayer) → roll-Prefix node ≡ x → P x
by_prefix P c x (Prefix-F.Operator mark) r = subst P (sym (prefix.rolls-Operator mark) ∙ r) (c.operator mark)
by_prefix P c x (Prefix-F.Sizeof at) r = subst P (sym (prefix.rolls-Sizeof at) ∙ r) (c.sizeof at)
by_prefix P c x (Prefix-F.Cast from type to) r = subst P (sym (prefix.rolls-Cast from type to) ∙ r) (c.cast from type to)

pub prefix_cases : (P : Prefix → Type 0) → PrefixCases P → (x : Prefix) → P x
prefix_cases P c x = by_prefix P c x (out-Prefix x) (roll-out-Prefix x)

-- which kind of node the tree is
pub data PrefixShape : Prefix → Type 0 where
  a_operator : (mark : Mark) → PrefixShape (prefix.Operator mark)
  a_sizeof : (at : Pos) → PrefixShape (prefix.Sizeof at)
  a_cast : (from : Pos) (type : TypeName) (to : Pos) → PrefixShape (prefix.Cast from type to)

pub prefix_shape : (x : Prefix) → PrefixShape x
prefix_shape = prefix_cases PrefixShape (record { operator = λ mark. PrefixShape.a_operator mark; sizeof = λ at. PrefixShape.a_sizeof at; cast = λ from type to. PrefixShape.a_cast from type to })

pub record SuffixCases (P : Suffix → Type 0) : Type 0 where
  pub index : (from : Pos) (inner : Expr) (to : Pos) → P (suffix.Index from inner to)
  pub call : (from : Pos) (to : Pos) → P (suffix.Call from to)
  pub call_with : (from : Pos) (first : Expr) (rest : List Next) (to : Pos) → P (suffix.CallWith from first rest to)
  pub member : (at : Pos) (name : Identifier) → P (suffix.Member at name)
  pub arrow : (at : Pos) (name : Identifier) → P (suffix.Arrow at name)
  pub increment : (at : Pos) → P (suffix.Increment at)
  pub decrement : (at : Pos) → P (suffix.Decrement at)

by_suffix : (P : Suffix → Type 0) → SuffixCases P → (x : Suffix) (node : SuffixLayer) → roll-Suffix node ≡ x → P x
by_suffix P c x (Suffix-F.Index from inner to) r = subst P (sym (suffix.rolls-Index from inner to) ∙ r) (c.index from inner to)
by_suffix P c x (Suffix-F.Call from to) r = subst P (sym (suffix.rolls-Call from to) ∙ r) (c.call from to)
by_suffix P c x (Suffix-F.CallWith from first rest to) r = subst P (sym (suffix.rolls-CallWith from first rest to) ∙ r) (c.call_with from first rest to)
by_suffix P c x (Suffix-F.Member at name) r = subst P (sym (suffix.rolls-Member at name) ∙ r) (c.member at name)
by_suffix P c x (Suffix-F.Arrow at name) r = subst P (sym (suffix.rolls-Arrow at name) ∙ r) (c.arrow at name)
by_suffix P c x (Suffix-F.Increment at) r = subst P (sym (suffix.rolls-Increment at) ∙ r) (c.increment at)
by_suffix P c x (Suffix-F.Decrement at) r = subst P (sym (suffix.rolls-Decrement at) ∙ r) (c.decrement at)

pub suffix_cases : (P : Suffix → Type 0) → SuffixCases P → (x : Suffix) → P x
suffix_cases P c x = by_suffix P c x (out-Suffix x) (roll-out-Suffix x)

-- which kind of node the tree is
pub data SuffixShape : Suffix → Type 0 where
  a_index : (from : Pos) (inner : Expr) (to : Pos) → SuffixShape (suffix.Index from inner to)
  a_call : (from : Pos) (to : Pos) → SuffixShape (suffix.Call from to)
  a_call_with : (from : Pos) (first : Expr) (rest : List Next) (to : Pos) → SuffixShape (suffix.CallWith from first rest to)
  a_member : (at : Pos) (name : Identifier) → SuffixShape (suffix.Member at name)
  a_arrow : (at : Pos) (name : Identifier) → SuffixShape (suffix.Arrow at name)
  a_increment : (at : Pos) → SuffixShape (suffix.Increment at)
  a_decrement : (at : Pos) → SuffixShape (suffix.Decrement at)

pub suffix_shape : (x : Suffix) → SuffixShape x
suffix_shape = suffix_cases SuffixShape (record { index = λ from inner to. SuffixShape.a_index from inner to; call = λ from to. SuffixShape.a_call from to; call_with = λ from first rest to. SuffixShape.a_call_with from first rest to; member = λ at name. SuffixShape.a_member at name; arrow = λ at name. SuffixShape.a_arrow at name; increment = λ at. SuffixShape.a_increment at; decrement = λ at. SuffixShape.a_decrement at })

pub record EnumeratorCases (P : Enumerator → Type 0) : Type 0 where
  pub plain : (comma : Option Pos) (name : Identifier) → P (enumerator.Plain comma name)
  pub valued : (comma : Option Pos) (name : Identifier) (equals : Pos) (value : Expr) → P (enumerator.Valued comma name equals value)

by_enumerator : (P : Enumerator → Type 0) → EnumeratorCases P → (x : Enumerator) (node : EnumeratorLayer) → roll-Enumerator node ≡ x → P x
by_enumerator P c x (Enumerator-F.Plain comma name) r = subst P (sym (enumerator.rolls-Plain comma name) ∙ r) (c.plain comma name)
by_enumerator P c x (Enumerator-F.Valued comma name equals value) r = subst P (sym (enumerator.rolls-Valued comma name equals value) ∙ r) (c.valued comma name equals value)

pub enumerator_cases : (P : Enumerator → Type 0) → EnumeratorCases P → (x : Enumerator) → P x
enumerator_cases P c x = by_enumerator P c x (out-Enumerator x) (roll-out-Enumerator x)

-- which kind of node the tree is
pub data EnumeratorShape : Enumerator → Type 0 where
  a_plain : (comma : Option Pos) (name : Identifier) → EnumeratorShape (enumerator.Plain comma name)
  a_valued : (comma : Option Pos) (name : Identifier) (equals : Pos) (value : Expr) → EnumeratorShape (enumerator.Valued comma name equals value)

pub enumerator_shape : (x : Enumerator) → EnumeratorShape x
enumerator_shape = enumerator_cases EnumeratorShape (record { plain = λ comma name. EnumeratorShape.a_plain comma name; valued = λ comma name equals value. EnumeratorShape.a_valued comma name equals value })

pub record SpecifierCases (P : Specifier → Type 0) : Type 0 where
  pub storage : (storage : Storage) (at : Pos) → P (specifier.Storage storage at)
  pub const : (at : Pos) → P (specifier.Const at)
  pub word : (word : TypeWord) (at : Pos) → P (specifier.Word word at)
  pub struct_tag : (at : Pos) (tag : Identifier) → P (specifier.StructTag at tag)
  pub struct : (at : Pos) (tag : Option Identifier) (from : Pos) (members : List Member) (to : Pos) → P (specifier.Struct at tag from members to)
  pub enum_tag : (at : Pos) (tag : Identifier) → P (specifier.EnumTag at tag)
  pub enum : (at : Pos) (tag : Option Identifier) (from : Pos) (enumerators : List Enumerator) (comma : Option Pos) (to : Pos) → P (specifier.Enum at tag from enumerators comma to)
  pub typedef_name : (name : Identifier) → P (specifier.TypedefName name)

by_specifier : (P : Specifier → Type 0) → SpecifierCases P → (x : Specifier) (node : SpecifierLayer) → roll-Specifier node ≡ x → P x
by_specifier P c x (Specifier-F.Storage storage at) r = subst P (sym (specifier.rolls-Storage storage at) ∙ r) (c.storage storage at)
by_specifier P c x (Specifier-F.Const at) r = subst P (sym (specifier.rolls-Const at) ∙ r) (c.const at)
by_specifier P c x (Specifier-F.Word word at) r = subst P (sym (specifier.rolls-Word word at) ∙ r) (c.word word at)
by_specifier P c x (Specifier-F.StructTag at tag) r = subst P (sym (specifier.rolls-StructTag at tag) ∙ r) (c.struct_tag at tag)
by_specifier P c x (Specifier-F.Struct at tag from members to) r = subst P (sym (specifier.rolls-Struct at tag from members to) ∙ r) (c.struct at tag from members to)
by_specifier P c x (Specifier-F.EnumTag at tag) r = subst P (sym (specifier.rolls-EnumTag at tag) ∙ r) (c.enum_tag at tag)
by_specifier P c x (Specifier-F.Enum at tag from enumerators comma to) r = subst P (sym (specifier.rolls-Enum at tag from enumerators comma to) ∙ r) (c.enum at tag from enumerators comma to)
by_specifier P c x (Specifier-F.TypedefName name) r = subst P (sym (specifier.rolls-TypedefName name) ∙ r) (c.typedef_name name)

pub specifier_cases : (P : Specifier → Type 0) → SpecifierCases P → (x : Specifier) → P x
specifier_cases P c x = by_specifier P c x (out-Specifier x) (roll-out-Specifier x)

-- which kind of node the tree is
pub data SpecifierShape : Specifier → Type 0 where
  a_storage : (storage : Storage) (at : Pos) → SpecifierShape (specifier.Storage storage at)
  a_const : (at : Pos) → SpecifierShape (specifier.Const at)
  a_word : (word : TypeWord) (at : Pos) → SpecifierShape (specifier.Word word at)
  a_struct_tag : (at : Pos) (tag : Identifier) → SpecifierShape (specifier.StructTag at tag)
  a_struct : (at : Pos) (tag : Option Identifier) (from : Pos) (members : List Member) (to : Pos) → SpecifierShape (specifier.Struct at tag from members to)
  a_enum_tag : (at : Pos) (tag : Identifier) → SpecifierShape (specifier.EnumTag at tag)
  a_enum : (at : Pos) (tag : Option Identifier) (from : Pos) (enumerators : List Enumerator) (comma : Option Pos) (to : Pos) → SpecifierShape (specifier.Enum at tag from enumerators comma to)
  a_typedef_name : (name : Identifier) → SpecifierShape (specifier.TypedefName name)

pub specifier_shape : (x : Specifier) → SpecifierShape x
specifier_shape = specifier_cases SpecifierShape (record { storage = λ storage at. SpecifierShape.a_storage storage at; const = λ at. SpecifierShape.a_const at; word = λ word at. SpecifierShape.a_word word at; struct_tag = λ at tag. SpecifierShape.a_struct_tag at tag; struct = λ at tag from members to. SpecifierShape.a_struct at tag from members to; enum_tag = λ at tag. SpecifierShape.a_enum_tag at tag; enum = λ at tag from enumerators comma to. SpecifierShape.a_enum at tag from enumerators comma to; typedef_name = λ name. SpecifierShape.a_typedef_name name })
