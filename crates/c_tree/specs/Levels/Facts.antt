-- What is told of the parts of a tree, and how it is put together.
use Rattle.std.specs.Prelude.{ℕ, Bool, true, false, not, ◌&&◌, ◌||◌, nat_le, List, [], ◌∷◌, Option, Some, None, is_some, is_none}
use Rattle.c_tree.specs.declared.token.Punct.{Punct}
use Rattle.c_tree.specs.declared.token.Punct.TheVariants as p
use Rattle.c_tree.specs.Levels.Names.{Names}
use Rattle.c_tree.specs.Levels.Productions.{unary, conditional, assignment, none, joins}

-- ---- lists

-- a list has an item
abbrev pub filled : {A : Type 0} → List A → Bool
filled [] = false
filled (x ∷ xs) = true

-- each holds
abbrev pub all_good : List Bool → Bool
all_good [] = true
all_good (b ∷ bs) = b && all_good bs

-- an item of a list with commas: whether a comma stands before it, and whether it is as the grammar has it
pub record ListedFacts : Type 0 where
  pub comma : Bool
  pub good : Bool

-- a comma stands before each, and each is as the grammar has it
abbrev pub rest_listed : List ListedFacts → Bool
rest_listed [] = true
rest_listed (x ∷ xs) = x.comma && (x.good && rest_listed xs)

-- a comma stands before each item but the first, and each is as the grammar has it
abbrev pub listed : List ListedFacts → Bool
listed [] = true
listed (x ∷ xs) = not x.comma && (x.good && rest_listed xs)

-- ---- expressions

-- a tree is of a production, or of none
abbrev pub where_good : Bool → ℕ → ℕ
where_good true n = n
where_good false n = none

-- two numbers are equal
abbrev pub same : ℕ → ℕ → Bool
same a b = nat_le a b && nat_le b a

-- an operator, and the production of the operand after it
abbrev pub Operand : Type 0
Operand = Punct × ℕ

-- each operator is of this production, and each operand within that one
abbrev pub operands : ℕ → ℕ → List Operand → Bool
operands operator within [] = true
operands operator within (n ∷ ns) = same (joins n.0) operator && (nat_le n.1 within && operands operator within ns)

-- each operand but the last is a unary expression, the last a conditional one, and each operator an assignment
abbrev pub targets : ℕ → List Operand → Bool
targets first [] = nat_le first conditional
targets first (n ∷ ns) = nat_le first unary && (same (joins n.0) assignment && targets n.1 ns)

-- what a prefix is in a run (C11 6.5.3, 6.5.4)
pub data PrefixKind : Type 0 where
  -- no prefix of the grammar
  Wrong : PrefixKind
  -- one of `&`, `*`, `+`, `-`, `~`, `!`
  Loose : PrefixKind
  -- `++`, `--` or `sizeof`, behind which no `(` type name `)` may stand
  Tight : PrefixKind
  -- `(` type name `)`
  Typed : PrefixKind

-- what a punctuator is as a prefix (C11 6.5.3)
abbrev pub kind_of_mark : Punct → PrefixKind
kind_of_mark p.Ampersand = Loose
kind_of_mark p.Star = Loose
kind_of_mark p.Plus = Loose
kind_of_mark p.Minus = Loose
kind_of_mark p.Tilde = Loose
kind_of_mark p.Not = Loose
kind_of_mark p.Increment = Tight
kind_of_mark p.Decrement = Tight
kind_of_mark _ = Wrong

-- a run whose items are prefixes, none of them `(` type name `)` directly behind `++`, `--` or `sizeof`
abbrev pub runs_on : Bool → List PrefixKind → Bool
runs_on tight [] = true
runs_on tight (Wrong ∷ more) = false
runs_on tight (Loose ∷ more) = runs_on false more
runs_on tight (Tight ∷ more) = runs_on true more
runs_on tight (Typed ∷ more) = not tight && runs_on false more

-- a run begins with `(` type name `)`
abbrev pub begins_typed : List PrefixKind → Bool
begins_typed (Typed ∷ more) = true
begins_typed _ = false

-- ---- specifiers

-- what a specifier is (C11 6.7)
pub data SpecifierKind : Type 0 where
  -- a storage word, and whether it is `typedef`
  Storing : Bool → SpecifierKind
  -- `const`
  Qualifying : SpecifierKind
  -- `void`
  Voiding : SpecifierKind
  -- another type word, a struct or an enum, and whether it is as the grammar has it
  Typing : Bool → SpecifierKind
  -- a name, and whether it is a typedef name there
  Naming : Bool → SpecifierKind

-- each is as the grammar has it, where `typed` tells whether a type was named before; a typedef name stands only where none was
abbrev pub specify : Bool → List SpecifierKind → Bool
specify typed [] = true
specify typed (Storing is_typedef ∷ more) = specify typed more
specify typed (Qualifying ∷ more) = specify typed more
specify typed (Voiding ∷ more) = specify true more
specify typed (Typing good ∷ more) = good && specify true more
specify typed (Naming visible ∷ more) = visible && (not typed && specify true more)

-- a type word, a struct, an enum or a typedef name is among them
abbrev pub names_type : List SpecifierKind → Bool
names_type [] = false
names_type (Storing is_typedef ∷ more) = names_type more
names_type (Qualifying ∷ more) = names_type more
names_type _ = true

-- a storage word is among them
abbrev pub has_storage : List SpecifierKind → Bool
has_storage [] = false
has_storage (Storing is_typedef ∷ more) = true
has_storage (_ ∷ more) = has_storage more

-- `typedef` is among them
abbrev pub has_typedef : List SpecifierKind → Bool
has_typedef [] = false
has_typedef (Storing is_typedef ∷ more) = is_typedef || has_typedef more
has_typedef (_ ∷ more) = has_typedef more

-- they are the one word `void`
abbrev pub is_void : List SpecifierKind → Bool
is_void (Voiding ∷ []) = true
is_void _ = false

-- what is told of specifiers in a row
pub record SpecifiersFacts : Type 0 where
  -- at least one, each as the grammar has it
  pub good : Bool
  -- a type word, a struct, an enum or a typedef name is among them
  pub names_type : Bool
  -- a storage word is among them
  pub has_storage : Bool
  -- `typedef` is among them
  pub has_typedef : Bool
  -- they are the one word `void`
  pub is_void : Bool

-- the same, from what is told of each
abbrev pub facts_of_specifiers : List SpecifierKind → SpecifiersFacts
facts_of_specifiers all = record { good = filled all && specify false all; names_type = names_type all; has_storage = has_storage all; has_typedef = has_typedef all; is_void = is_void all }

-- ---- declarators

-- what stands next to a declarator's name, or where its name would stand; of a parameter list the names that it declares
pub data Beside : Type 0 where
  Alone : Beside
  Other : Beside
  Listing : Names → Beside

-- what is told of an array or a parameter list behind a declarator
pub record SuffixFacts : Type 0 where
  pub good : Bool
  pub beside : Beside

-- what is told of a declarator (C11 6.7.6)
pub record DeclaratorFacts : Type 0 where
  -- each part is as the grammar has it, and no brackets are round nothing
  pub good : Bool
  pub name : Option (List ℕ)
  -- it has no token
  pub is_nothing : Bool
  -- its name is a typedef name where it stands
  pub names_typedef : Bool
  -- and that name is its first token
  pub begins_typed : Bool
  -- and that name stands directly behind a `(`, which could as well begin parameters
  pub may_be_parameters : Bool
  pub beside : Beside

-- how a declarator is used
pub data Use : Type 0 where
  -- in a declaration, a member or a definition: with a name
  Declaring : Use
  -- in a type name: without one
  Abstract : Use
  -- in a parameter: with or without one; what can be a typedef name is no name of a parameter (C11 6.7.6.3p11)
  Parameter : Use

-- The declarator is as the grammar has it behind specifiers that name a type or do not. A typedef name is
-- declared anew only behind specifiers that name a type.
abbrev pub declares : Use → Bool → DeclaratorFacts → Bool
declares Declaring typed d = d.good && (is_some d.name && (typed || not d.names_typedef))
declares Abstract typed d = d.good && is_none d.name
declares Parameter typed d = d.good && (not d.may_be_parameters && (typed || not d.names_typedef))

-- a name as one that is declared, where there is one
abbrev pub names_of : Bool → Option (List ℕ) → Names
names_of is_typedef None = []
names_of is_typedef (Some text) = (text, is_typedef) ∷ []

-- the name that a declarator declares
abbrev pub declared : Bool → DeclaratorFacts → Names
declared is_typedef d = names_of is_typedef d.name

-- a member's declarator, and whether a comma stands before it
pub record MemberDeclaratorFacts : Type 0 where
  pub comma : Bool
  pub declarator : DeclaratorFacts

-- members' declarators as items of a list, behind specifiers that name a type or do not
abbrev pub listed_members : Bool → List MemberDeclaratorFacts → List ListedFacts
listed_members typed [] = []
listed_members typed (m ∷ ms) = record { comma = m.comma; good = declares Declaring typed m.declarator } ∷ listed_members typed ms

-- each suffix is as the grammar has it
abbrev pub suffixes_good : List SuffixFacts → Bool
suffixes_good [] = true
suffixes_good (x ∷ xs) = x.good && suffixes_good xs

-- the part next to the name: inside the brackets, else the first suffix, else a pointer
abbrev pub nearest : {A : Type 0} → Beside → List SuffixFacts → List A → Beside
nearest Alone [] [] = Alone
nearest Alone [] (pointer ∷ more) = Other
nearest Alone (x ∷ xs) pointers = x.beside
nearest Other suffixes pointers = Other
nearest (Listing names) suffixes pointers = Listing names

-- what is told of a parameter (C11 6.7.6.3)
pub record ParameterFacts : Type 0 where
  pub comma : Bool
  pub good : Bool
  -- it is the one word `void`
  pub is_void : Bool
  -- what it declares
  pub names : Names

-- parameters as items of a list
abbrev pub listed_parameters : List ParameterFacts → List ListedFacts
listed_parameters [] = []
listed_parameters (x ∷ xs) = record { comma = x.comma; good = x.good } ∷ listed_parameters xs

-- the one word `void` is a tree of its own
abbrev pub only_void : List ParameterFacts → Bool
only_void (x ∷ []) = x.is_void
only_void _ = false
