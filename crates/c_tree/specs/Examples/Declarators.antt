-- Examples of specifiers, declarators and type names, each computed from the definitions.
use Rattle.std.specs.Prelude.{◌≡◌, ℕ, true, false, [], ◌∷◌}
use Rattle.c_tree.specs.declared.specifier.TypeWord.TheVariants as type
use Rattle.c_tree.specs.Levels.Names.{Names}
use Rattle.c_tree.specs.Levels.Productions.{prefixed, cast as cast_level, none}
use Rattle.c_tree.specs.Levels.Facts.{Declaring, Abstract, Parameter, declares}
use Rattle.c_tree.specs.Levels.Trees.{expr_level, type_name_level, declarator_level}
use Rattle.c_tree.specs.Examples.Built.{named, named-level}
use Rattle.c_tree.specs.Examples.Declared.{word, word-level, typedef_name, typedef_name-level, enum, enum-level, nothing, nothing-level, declared, declared-level, grouped, grouped-level, function, function-level, type_of, type_of-level, size_of, size_of-level, cast, cast-level, size_of_cast, size_of_cast-level}

ruleset levels = (named-level, word-level, typedef_name-level, enum-level, nothing-level, declared-level, grouped-level, function-level, type_of-level, size_of-level, cast-level, size_of_cast-level)

-- `T` is a typedef name
abbrev T : ℕ
T = 84

abbrev typedef_T : Names
typedef_T = (T ∷ [], true) ∷ []

-- ---- typedef names

-- `T` is a type name where it is a typedef name, and nowhere else
pub type_name : (type_name_level (type_of (typedef_name T) nothing) typedef_T).0 ≡ true
type_name = simp levels

pub no_type_name : (type_name_level (type_of (typedef_name T) nothing) []).0 ≡ false
no_type_name = simp levels

-- `(T) a` is a cast, and `sizeof (T)` no cast of what follows
pub cast_to_T : expr_level (cast (type_of (typedef_name T) nothing) (named 97)) typedef_T ≡ (cast_level, [])
cast_to_T = simp levels

pub size_of_T : expr_level (size_of (type_of (typedef_name T) nothing)) typedef_T ≡ (prefixed, [])
size_of_T = simp levels

pub no_cast_behind_sizeof : expr_level (size_of_cast (type_of (typedef_name T) nothing) (named 97)) typedef_T ≡ (none, [])
no_cast_behind_sizeof = simp levels

-- an enumerator in a type name is visible behind it, as no typedef name
pub enumerator_is_declared : expr_level (size_of (type_of (enum 97) nothing)) [] ≡ (prefixed, (97 ∷ [], false) ∷ [])
enumerator_is_declared = simp levels

-- ---- declarators

-- a declaration behind a type word may declare `T` anew, also in brackets
pub declared_anew : declares Declaring true (declarator_level (declared T) typedef_T).0 ≡ true
declared_anew = simp levels

pub declared_anew_in_brackets : declares Declaring true (declarator_level (grouped (declared T)) typedef_T).0 ≡ true
declared_anew_in_brackets = simp levels

-- and not where no type was named before, as in `const T`
pub not_behind_const : declares Declaring false (declarator_level (declared T) typedef_T).0 ≡ false
not_behind_const = simp levels

-- a parameter `int T` declares it; `int (T)` is a function that takes a `T`, and declares nothing
pub parameter_anew : declares Parameter true (declarator_level (declared T) typedef_T).0 ≡ true
parameter_anew = simp levels

pub parameter_in_brackets : declares Parameter true (declarator_level (grouped (declared T)) typedef_T).0 ≡ false
parameter_in_brackets = simp levels

pub twice_in_brackets : declares Parameter true (declarator_level (grouped (grouped (declared T))) typedef_T).0 ≡ false
twice_in_brackets = simp levels

pub another_name_in_brackets : declares Parameter true (declarator_level (grouped (declared T)) []).0 ≡ true
another_name_in_brackets = simp levels

-- a type name has no name, and a declaration has one
pub abstract_has_no_name : declares Abstract true (declarator_level (declared 97) []).0 ≡ false
abstract_has_no_name = simp levels

pub declaration_has_a_name : declares Declaring true (declarator_level nothing []).0 ≡ false
declaration_has_a_name = simp levels

-- no brackets are round nothing
pub brackets_round_nothing : declares Abstract true (declarator_level (grouped nothing) []).0 ≡ false
brackets_round_nothing = simp levels

-- the one word `void` as parameters is a tree of its own; a parameter of that type with a name is none
pub void_alone : declares Declaring true (declarator_level (function 102 (word type.Void) nothing) []).0 ≡ false
void_alone = simp levels

pub void_with_a_name : declares Declaring true (declarator_level (function 102 (word type.Void) (declared 97)) []).0 ≡ true
void_with_a_name = simp levels

-- what a parameter list declares ends with it
pub parameters_end : (declarator_level (function 102 (word type.Int) (declared 97)) []).1 ≡ []
parameters_end = simp levels
