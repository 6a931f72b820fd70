-- What typing makes of each kind of node of an expression, a specifier or a declarator.
use Rattle.std.specs.Prelude.{ℕ, List}
use Rattle.c_tree.specs.declared.token.Pos.{Pos}
use Rattle.c_tree.specs.declared.expression.Identifier.{Identifier}
use Rattle.c_tree.specs.declared.expression.Mark.{Mark}
use Rattle.c_tree.specs.declared.typed.types.CType.{CType}
use Rattle.c_tree.specs.declared.declarator.DeclaratorSuffix.TheOpen.{DeclaratorSuffix-F, Direct-F, Expr-F, Prefix-F, Suffix-F, Enumerator-F, Specifier-F, Declarator-F, Parameter-F, Branch-F, Next-F, TypeName-F, Member-F, MemberDeclarator-F}
use Rattle.c_typing.specs.Scopes.{Walk}
use Rattle.c_typing.specs.Declarators.{Expressed, Parameter, Declaring, Suffixed, Specified, TypeNamed, Enumerated, Members}

-- what a prefix does to the operand behind it
pub data Prefixing : Type 0 where
  Marking : Mark → Prefixing
  Sizing : (at : Pos) → Prefixing
  Casting : (at : Pos) → (type : CType) → Prefixing

pub record Prefixed : Type 0 where
  pub first : Pos
  pub walk : Walk Prefixing

-- what a suffix does to the operand before it
pub data Suffixing : Type 0 where
  Indexing : (at : Pos) → (index : Expressed) → Suffixing
  Calling : (at : Pos) → (arguments : List Expressed) → Suffixing
  Membering : (at : Pos) → (name : Identifier) → Suffixing
  Arrowing : (at : Pos) → (name : Identifier) → Suffixing
  Changing : Mark → Suffixing

-- an operator and the operand behind it
pub record Operating : Type 0 where
  pub operator : Mark
  pub operand : Expressed

-- `?`, what is given, and the operand behind `:`
pub record Branching : Type 0 where
  pub question : Pos
  pub gives : Expressed
  pub operand : Expressed

-- a parameter, by its place in its list
abbrev pub Listed : Type 0
Listed = ℕ → Walk Parameter

-- one node of each kind, with what is made of each part in its place

abbrev pub DeclaratorSuffixParts : Type 0
DeclaratorSuffixParts = DeclaratorSuffix-F Suffixed Declaring Expressed Prefixed Suffixing Enumerated Specified Declaring Listed Branching Operating TypeNamed (Walk Members) Declaring

abbrev pub DirectParts : Type 0
DirectParts = Direct-F Suffixed Declaring Expressed Prefixed Suffixing Enumerated Specified Declaring Listed Branching Operating TypeNamed (Walk Members) Declaring

abbrev pub ExprParts : Type 0
ExprParts = Expr-F Suffixed Declaring Expressed Prefixed Suffixing Enumerated Specified Declaring Listed Branching Operating TypeNamed (Walk Members) Declaring

abbrev pub PrefixParts : Type 0
PrefixParts = Prefix-F Suffixed Declaring Expressed Prefixed Suffixing Enumerated Specified Declaring Listed Branching Operating TypeNamed (Walk Members) Declaring

abbrev pub SuffixParts : Type 0
SuffixParts = Suffix-F Suffixed Declaring Expressed Prefixed Suffixing Enumerated Specified Declaring Listed Branching Operating TypeNamed (Walk Members) Declaring

abbrev pub EnumeratorParts : Type 0
EnumeratorParts = Enumerator-F Suffixed Declaring Expressed Prefixed Suffixing Enumerated Specified Declaring Listed Branching Operating TypeNamed (Walk Members) Declaring

abbrev pub SpecifierParts : Type 0
SpecifierParts = Specifier-F Suffixed Declaring Expressed Prefixed Suffixing Enumerated Specified Declaring Listed Branching Operating TypeNamed (Walk Members) Declaring

abbrev pub DeclaratorParts : Type 0
DeclaratorParts = Declarator-F Suffixed Declaring Expressed Prefixed Suffixing Enumerated Specified Declaring Listed Branching Operating TypeNamed (Walk Members) Declaring

abbrev pub ParameterParts : Type 0
ParameterParts = Parameter-F Suffixed Declaring Expressed Prefixed Suffixing Enumerated Specified Declaring Listed Branching Operating TypeNamed (Walk Members) Declaring

abbrev pub BranchParts : Type 0
BranchParts = Branch-F Suffixed Declaring Expressed Prefixed Suffixing Enumerated Specified Declaring Listed Branching Operating TypeNamed (Walk Members) Declaring

abbrev pub NextParts : Type 0
NextParts = Next-F Suffixed Declaring Expressed Prefixed Suffixing Enumerated Specified Declaring Listed Branching Operating TypeNamed (Walk Members) Declaring

abbrev pub TypeNameParts : Type 0
TypeNameParts = TypeName-F Suffixed Declaring Expressed Prefixed Suffixing Enumerated Specified Declaring Listed Branching Operating TypeNamed (Walk Members) Declaring

abbrev pub MemberParts : Type 0
MemberParts = Member-F Suffixed Declaring Expressed Prefixed Suffixing Enumerated Specified Declaring Listed Branching Operating TypeNamed (Walk Members) Declaring

abbrev pub MemberDeclaratorParts : Type 0
MemberDeclaratorParts = MemberDeclarator-F Suffixed Declaring Expressed Prefixed Suffixing Enumerated Specified Declaring Listed Branching Operating TypeNamed (Walk Members) Declaring
