-- Parts of the productions: lists of which the first item is read or is given, and the levels of operators as one function.
-- Each is what one function of the parser computes that is no production by itself.
use Rattle.std.specs.Prelude.{ℕ, zero, suc, Bool, false, ◌&&◌, ◌||◌, List, [], ◌∷◌, None, length, slice_index_or}
use Rattle.c_tree.specs.declared.token.Pos.{Pos}
use Rattle.c_tree.specs.declared.token.Punct.TheVariants as p
use Rattle.c_tree.specs.declared.expression.Literal.{Literal}
use Rattle.c_tree.specs.declared.expression.Level.{Level}
use Rattle.c_tree.specs.declared.expression.Level.TheVariants as level
use Rattle.c_tree.specs.declared.expression.Expr.{Expr}
use Rattle.c_tree.specs.declared.expression.Prefix.{Prefix}
use Rattle.c_tree.specs.declared.expression.Suffix.{Suffix}
use Rattle.c_tree.specs.declared.expression.Next.{Next}
use Rattle.c_tree.specs.declared.expression.Branch.{Branch}
use Rattle.c_tree.specs.declared.specifier.Member.{Member}
use Rattle.c_tree.specs.declared.specifier.MemberDeclarator.{MemberDeclarator}
use Rattle.c_tree.specs.declared.specifier.Enumerator.{Enumerator}
use Rattle.c_tree.specs.declared.declarator.Parameter.{Parameter}
use Rattle.c_tree.specs.declared.declarator.DeclaratorSuffix.{DeclaratorSuffix}
use Rattle.c_tree.specs.Levels.Productions as production
use Rattle.c_tree.specs.Levels.Facts.{Use}
use Rattle.c_grammar.specs.Input.{State, Parser, ◌>>=◌, peek, behind, is_bytes, sees, goes, one, many, many_by, loop}
use Rattle.c_grammar.specs.Read.Nodes.{ties}
use Rattle.c_grammar.specs.Read.Inner.{Inner, is_const}
use Rattle.c_grammar.specs.Read.Expressions as expressions
use Rattle.c_grammar.specs.Read.Specifiers as specifiers
use Rattle.c_grammar.specs.Read.Declarators as declarators

-- a list that goes on behind its first item
abbrev pub behind_first : {S X : Type 0} → (S → State → Bool) → (S → Parser X) → (S → X → S) → S → X → Parser (List X)
behind_first goes item step s first = λ i. loop goes item step (length i.1) s (first ∷ []) i

abbrev pub more_items : {X : Type 0} → (State → Bool) → Parser X → X → Parser (List X)
more_items goes item = behind_first {S = Unit {0}} (λ _. goes) (λ _. item) (λ _ _. tt) tt

-- ---- expressions

abbrev pub literals : Literal → Parser (List Literal)
literals first = more_items (λ i. is_bytes (peek i.1)) (one expressions.literal_at) first

-- the levels of operators that are tighter than `||`, tightest first
abbrev pub tighter : List Level
tighter = level.Product ∷ level.Sum ∷ level.Shift ∷ level.Relation ∷ level.Equality ∷ level.BitAnd ∷ level.BitXor ∷ level.BitOr ∷ level.And ∷ []

-- the levels of operators, tightest first, from 0
abbrev pub level_at : ℕ → Level
level_at n = slice_index_or tighter n level.Or

abbrev pub goes_declarator_suffix : State → Bool
goes_declarator_suffix i = sees p.LeftBracket i || sees p.LeftParen i

module _ (more : ℕ) (inner : Inner) where
  -- operators of so many levels, the tightest
  unfoldable pub levels : ℕ → Parser Expr
  levels zero = expressions.cast more inner
  levels (suc n) = expressions.binary (level_at n) (levels n)

  -- the operators of a level, each with the operand behind it
  unfoldable pub level_rest : ℕ → Parser (List Next)
  level_rest n = expressions.nexts (production.of_level (level_at n)) (levels n)

  unfoldable pub suffixes : Parser (List Suffix)
  suffixes = many (goes production.postfix) (expressions.one_suffix more inner)

  unfoldable pub run : Parser (List Prefix)
  run = many_by expressions.goes_prefix (λ _. expressions.one_prefix more inner) (λ _. ties) false

  unfoldable pub branches : Parser (List Branch)
  branches = many (goes production.conditional) (expressions.branch more inner)

  unfoldable pub targets : Bool → Parser (List Next)
  targets unary = many_by expressions.goes_assign (λ _. expressions.after_operator (expressions.conditional more inner)) expressions.last_unary unary

  -- ---- specifiers

  unfoldable pub member_declarators : Bool → Parser (List MemberDeclarator)
  member_declarators typed = specifiers.first_member_declarator more inner typed >>= more_items (sees p.Comma) (specifiers.next_member_declarator more inner typed)

  unfoldable pub members : Parser (List Member)
  members = specifiers.member more inner >>= more_items (specifiers.goes_member more inner) (specifiers.member more inner)

  unfoldable pub enumerators : Parser (List Enumerator)
  enumerators = specifiers.one_enumerator more inner None >>= more_items specifiers.goes_enumerator (specifiers.next_enumerator more inner)

  -- ---- declarators

  unfoldable pub parameter_list : Parser (List Parameter)
  parameter_list = declarators.parameter more inner None >>= more_items (sees p.Comma) (declarators.next_parameter more inner)

  unfoldable pub declarator_suffixes : Parser (List DeclaratorSuffix)
  declarator_suffixes = many goes_declarator_suffix (declarators.one_suffix more inner)

unfoldable pub constants : Parser (List Pos)
constants = many (λ i. is_const (peek i.1)) (one declarators.const_at)

abbrev pub opens_declarator : Use → State → Bool
opens_declarator purpose i = sees p.LeftParen i && declarators.opens_declarator purpose i.0 (peek (behind i.1))
