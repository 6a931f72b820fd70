-- Small declarators, type names and units, and what is told of each from its parts, for examples.
use Rattle.std.specs.Prelude.{◌≡◌, ℕ, true, [], ◌∷◌, None}
use Rattle.std.proofs.Common.{ap, ◌∙◌}
use Rattle.c_tree.specs.declared.expression.Expr.{Expr}
use Rattle.c_tree.specs.declared.expression.Expr.TheVariants as e
use Rattle.c_tree.specs.declared.expression.Prefix.TheVariants as prefix
use Rattle.c_tree.specs.declared.expression.TypeName.{TypeName, roll-TypeName}
use Rattle.c_tree.specs.declared.specifier.Storage.TheVariants as storage
use Rattle.c_tree.specs.declared.specifier.TypeWord.{TypeWord}
use Rattle.c_tree.specs.declared.specifier.Specifier.{Specifier}
use Rattle.c_tree.specs.declared.specifier.Specifier.TheVariants as specifier
use Rattle.c_tree.specs.declared.specifier.Enumerator.TheVariants as enumerator
use Rattle.c_tree.specs.declared.declarator.Direct.TheVariants as direct
use Rattle.c_tree.specs.declared.declarator.DeclaratorSuffix.{DeclaratorSuffix}
use Rattle.c_tree.specs.declared.declarator.DeclaratorSuffix.TheVariants as suffix
use Rattle.c_tree.specs.declared.declarator.Declarator.{Declarator, roll-Declarator}
use Rattle.c_tree.specs.declared.declarator.Parameter.{Parameter, roll-Parameter}
use Rattle.c_tree.specs.declared.declarator.DeclaratorSuffix.TheOpen.{DeclaratorSuffix-F, Direct-F, Expr-F, Prefix-F, Specifier-F, Enumerator-F}
use Rattle.c_tree.specs.Levels.Names.{Names, is_typedef_name}
use Rattle.c_tree.specs.Levels.Facts.{Storing, Naming}
use Rattle.c_tree.specs.Levels.OfTrees.{level_of_expr, level_of_prefix, level_of_type_name, level_of_specifier, level_of_enumerator, level_of_declarator, level_of_direct, level_of_declarator_suffix, level_of_parameter, kind_of_word}
use Rattle.c_tree.specs.Levels.Trees.{expr_level, type_name_level, prefix_level, specifier_level, declarator_level, declarator_suffix_level, expr_level-SizeofType, expr_level-Prefixed, prefix_level-Cast, prefix_level-Sizeof, type_name_level-roll, specifier_level-Word, specifier_level-Storage, specifier_level-TypedefName, specifier_level-Enum, enumerator_level-Plain, declarator_level-roll, direct_level-Nothing, direct_level-Named, direct_level-Grouped, declarator_suffix_level-Parameters, parameter_level-roll}
use Rattle.c_tree.specs.Examples.Built.{here, letter}

-- ---- specifiers

pub word : TypeWord → Specifier
word w = specifier.Word w here

pub word-level : (w : TypeWord) (names : Names) → specifier_level (word w) names ≡ (kind_of_word w, [])
unfolding word
word-level w names = specifier_level-Word w here names

pub typedef : Specifier
typedef = specifier.Storage storage.Typedef here

pub typedef-level : (names : Names) → specifier_level typedef names ≡ (Storing true, [])
unfolding typedef
typedef-level names = specifier_level-Storage storage.Typedef here names

pub typedef_name : ℕ → Specifier
typedef_name code = specifier.TypedefName (letter code)

pub typedef_name-level : (code : ℕ) (names : Names) → specifier_level (typedef_name code) names ≡ (Naming (is_typedef_name names (code ∷ [])), [])
unfolding typedef_name
typedef_name-level code names = specifier_level-TypedefName (letter code) names

-- `enum {` name `}`
pub enum : ℕ → Specifier
enum code = specifier.Enum here None here (enumerator.Plain None (letter code) ∷ []) None here

pub enum-level : (code : ℕ) (names : Names) → specifier_level (enum code) names ≡ level_of_specifier (Specifier-F.Enum here None here (level_of_enumerator (Enumerator-F.Plain None (letter code)) ∷ []) None here) names
unfolding enum
enum-level code names =
    specifier_level-Enum here None here (enumerator.Plain None (letter code) ∷ []) None here names
    ∙ ap (λ x. level_of_specifier (Specifier-F.Enum here None here (x ∷ []) None here) names) (λ i seen. enumerator_level-Plain None (letter code) seen i)

-- ---- declarators

pub nothing : Declarator
nothing = roll-Declarator (record { pointers = []; direct = direct.Nothing; suffixes = [] })

pub nothing-level : (names : Names) → declarator_level nothing names ≡ level_of_declarator (record { pointers = []; direct = level_of_direct Direct-F.Nothing; suffixes = [] }) names
unfolding nothing
nothing-level names =
    ap (λ f. f names) (declarator_level-roll (record { pointers = []; direct = direct.Nothing; suffixes = [] }))
    ∙ ap (λ x. level_of_declarator (record { pointers = []; direct = x; suffixes = [] }) names) (λ i seen. direct_level-Nothing seen i)

pub declared : ℕ → Declarator
declared code = roll-Declarator (record { pointers = []; direct = direct.Named (letter code); suffixes = [] })

pub declared-level : (code : ℕ) (names : Names) → declarator_level (declared code) names ≡ level_of_declarator (record { pointers = []; direct = level_of_direct (Direct-F.Named (letter code)); suffixes = [] }) names
unfolding declared
declared-level code names =
    ap (λ f. f names) (declarator_level-roll (record { pointers = []; direct = direct.Named (letter code); suffixes = [] }))
    ∙ ap (λ x. level_of_declarator (record { pointers = []; direct = x; suffixes = [] }) names) (λ i seen. direct_level-Named (letter code) seen i)

-- `(` inner `)`
pub grouped : Declarator → Declarator
grouped inner = roll-Declarator (record { pointers = []; direct = direct.Grouped here inner here; suffixes = [] })

pub grouped-level : (inner : Declarator) (names : Names) → declarator_level (grouped inner) names ≡ level_of_declarator (record { pointers = []; direct = level_of_direct (Direct-F.Grouped here (declarator_level inner) here); suffixes = [] }) names
unfolding grouped
grouped-level inner names =
    ap (λ f. f names) (declarator_level-roll (record { pointers = []; direct = direct.Grouped here inner here; suffixes = [] }))
    ∙ ap (λ x. level_of_declarator (record { pointers = []; direct = x; suffixes = [] }) names) (λ i seen. direct_level-Grouped here inner here seen i)

-- name `(` parameter `)`
pub function : ℕ → Specifier → Declarator → Declarator
function code s d = roll-Declarator (record { pointers = []; direct = direct.Named (letter code); suffixes = suffix.Parameters here (roll-Parameter (record { comma = None; specifiers = s ∷ []; declarator = d }) ∷ []) here ∷ [] })

pub function-level : (code : ℕ) (s : Specifier) (d : Declarator) (names : Names) → declarator_level (function code s d) names ≡
    level_of_declarator (record {
      pointers = [];
      direct = level_of_direct (Direct-F.Named (letter code));
      suffixes =
          level_of_declarator_suffix (DeclaratorSuffix-F.Parameters here (level_of_parameter (record { comma = None; specifiers = specifier_level s ∷ []; declarator = declarator_level d }) ∷ []) here) ∷ [];
    }) names
unfolding function
function-level code s d names =
    let one : Parameter = roll-Parameter (record { comma = None; specifiers = s ∷ []; declarator = d }) in
    let all : DeclaratorSuffix = suffix.Parameters here (one ∷ []) here in
    ap (λ f. f names) (declarator_level-roll (record { pointers = []; direct = direct.Named (letter code); suffixes = all ∷ [] }))
    ∙ ap (λ x. level_of_declarator (record { pointers = []; direct = x; suffixes = declarator_suffix_level all ∷ [] }) names) (λ i seen. direct_level-Named (letter code) seen i)
    ∙ ap (λ x. level_of_declarator (record { pointers = []; direct = level_of_direct (Direct-F.Named (letter code)); suffixes = x ∷ [] }) names) (λ i seen. declarator_suffix_level-Parameters here (one ∷ []) here seen i)
    ∙ ap (λ x. level_of_declarator (record {
      pointers = [];
      direct = level_of_direct (Direct-F.Named (letter code));
      suffixes =
          level_of_declarator_suffix (DeclaratorSuffix-F.Parameters here (x ∷ []) here) ∷ [];
    }) names) (parameter_level-roll (record { comma = None; specifiers = s ∷ []; declarator = d }))

-- ---- type names and casts

pub type_of : Specifier → Declarator → TypeName
type_of s d = roll-TypeName (record { specifiers = s ∷ []; declarator = d })

pub type_of-level : (s : Specifier) (d : Declarator) (names : Names) → type_name_level (type_of s d) names ≡ level_of_type_name (record { specifiers = specifier_level s ∷ []; declarator = declarator_level d }) names
unfolding type_of
type_of-level s d names = ap (λ f. f names) (type_name_level-roll (record { specifiers = s ∷ []; declarator = d }))

-- `sizeof (` type `)`
pub size_of : TypeName → Expr
size_of t = e.SizeofType here here t here

pub size_of-level : (t : TypeName) (names : Names) → expr_level (size_of t) names ≡ level_of_expr (Expr-F.SizeofType here here (type_name_level t) here) names
unfolding size_of
size_of-level t names = expr_level-SizeofType here here t here names

-- `(` type `)` operand
pub cast : TypeName → Expr → Expr
cast t operand = e.Prefixed (prefix.Cast here t here ∷ []) operand

pub cast-level : (t : TypeName) (operand : Expr) (names : Names) → expr_level (cast t operand) names ≡ level_of_expr (Expr-F.Prefixed (level_of_prefix (Prefix-F.Cast here (type_name_level t) here) ∷ []) (expr_level operand)) names
unfolding cast
cast-level t operand names =
    expr_level-Prefixed (prefix.Cast here t here ∷ []) operand names
    ∙ ap (λ x. level_of_expr (Expr-F.Prefixed (x ∷ []) (expr_level operand)) names) (λ i seen. prefix_level-Cast here t here seen i)

-- `sizeof (` type `)` operand, as a run of two
pub size_of_cast : TypeName → Expr → Expr
size_of_cast t operand = e.Prefixed (prefix.Sizeof here ∷ (prefix.Cast here t here ∷ [])) operand

pub size_of_cast-level : (t : TypeName) (operand : Expr) (names : Names) → expr_level (size_of_cast t operand) names ≡ level_of_expr (Expr-F.Prefixed (level_of_prefix (Prefix-F.Sizeof here) ∷ (level_of_prefix (Prefix-F.Cast here (type_name_level t) here) ∷ [])) (expr_level operand)) names
unfolding size_of_cast
size_of_cast-level t operand names =
    expr_level-Prefixed (prefix.Sizeof here ∷ (prefix.Cast here t here ∷ [])) operand names
    ∙ ap (λ x. level_of_expr (Expr-F.Prefixed (x ∷ (prefix_level (prefix.Cast here t here) ∷ [])) (expr_level operand)) names) (λ i seen. prefix_level-Sizeof here seen i)
    ∙ ap (λ x. level_of_expr (Expr-F.Prefixed (level_of_prefix (Prefix-F.Sizeof here) ∷ (x ∷ [])) (expr_level operand)) names) (λ i seen. prefix_level-Cast here t here seen i)
