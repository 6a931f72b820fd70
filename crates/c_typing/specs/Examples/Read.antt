-- Parts of a source as typing reads them, for examples. Each is made from its parts by the step for its node; by the equation for
-- that node (`Trees`) this is what typing makes of the tree itself. Places are columns of line 1; those that no row asks are 0.
use Rattle.std.specs.Prelude.{ℕ, ◌+◌, List, [], ◌∷◌, Option, None, false, map, codes}
use Rattle.std.specs.Option.{option_map}
use Rattle.c_tree.specs.declared.token.Pos.{Pos}
use Rattle.c_tree.specs.declared.token.Punct.{Punct}
use Rattle.c_tree.specs.declared.token.IntKind.TheVariants as number
use Rattle.c_tree.specs.declared.expression.Identifier.{Identifier}
use Rattle.c_tree.specs.declared.expression.Level.{Level}
use Rattle.c_tree.specs.declared.specifier.TypeWord.{TypeWord}
use Rattle.c_tree.specs.declared.specifier.TypeWord.TheVariants as word
use Rattle.c_tree.specs.declared.typed.types.CType.{CType}
use Rattle.c_tree.specs.declared.declarator.DeclaratorSuffix.TheOpen.{Expr-F, Suffix-F, Prefix-F, Specifier-F, Direct-F, DeclaratorSuffix-F}
use Rattle.c_typing.specs.Faults.{Fault, first_of}
use Rattle.c_typing.specs.Types.{int}
use Rattle.c_typing.specs.Scopes.{Meaning, Around, State, Walk, no_scope}
use Rattle.c_typing.specs.Declarators.{Expressed, Declaring, Suffixed, Specified}
use Rattle.c_typing.specs.Parts.{Suffixing}
use Rattle.c_typing.specs.OfInitialisers.{Initialising}
use Rattle.c_typing.specs.Declarations.{Declared}
use Rattle.c_typing.specs.OfStatements.{Itemised}
use Rattle.c_typing.specs.Units.{Defined, Outer, Source}
use Rattle.c_typing.specs.OfTrees.{typed_expr, typed_suffix, typed_prefix, typed_next, typed_branch, typed_specifier, typed_declarator, typed_direct, typed_declarator_suffix, typed_parameter}

-- the place of a column of line 1
abbrev pub at : ℕ → Pos
at n = record { line = 1; column = n }

abbrev pub id : ℕ → (letter : ℕ) → Identifier
id n letter = record { text = letter ∷ []; place = at n }

-- a name of one letter
abbrev pub name : ℕ → (letter : ℕ) → Expressed
name n letter = typed_expr (Expr-F.Name (id n letter))

-- an int constant
abbrev pub constant : ℕ → (value : ℕ) → Expressed
constant n value = typed_expr (Expr-F.Number value number.Int (at n))

-- left operator right
abbrev pub binary : Level → Expressed → ℕ → Punct → Expressed → Expressed
binary level left n op right =
    typed_expr (Expr-F.Binary level left (typed_next (record { operator = record { punct = op; place = at n }; operand = right }) ∷ []))

-- left assignment operator right
abbrev pub assign : Expressed → ℕ → Punct → Expressed → Expressed
assign left n op right =
    typed_expr (Expr-F.Assign left (typed_next (record { operator = record { punct = op; place = at n }; operand = right }) ∷ []))

-- condition `?` gives `:` operand
abbrev pub choose : Expressed → ℕ → Expressed → Expressed → Expressed
choose first n gives operand =
    typed_expr (Expr-F.Conditional first (typed_branch (record { question = at n; gives = gives; colon = at 0; operand = operand }) ∷ []))

abbrev pub paren : ℕ → Expressed → Expressed
paren n inner = typed_expr (Expr-F.Paren (at n) inner (at 0))

-- a prefix operator and its operand
abbrev pub prefix : ℕ → Punct → Expressed → Expressed
prefix n op operand = typed_expr (Expr-F.Prefixed (typed_prefix (Prefix-F.Operator (record { punct = op; place = at n })) ∷ []) operand)

-- an operand and a suffix
abbrev pub suffix : Expressed → Suffixing → Expressed
suffix operand s = typed_expr (Expr-F.Postfix operand (s ∷ []))

abbrev pub index : ℕ → Expressed → Suffixing
index n inner = typed_suffix (Suffix-F.Index (at n) inner (at 0))

abbrev pub call : ℕ → Suffixing
call n = typed_suffix (Suffix-F.Call (at n) (at 0))

abbrev pub call_with : ℕ → Expressed → Suffixing
call_with n argument = typed_suffix (Suffix-F.CallWith (at n) argument [] (at 0))

abbrev pub member : ℕ → Identifier → Suffixing
member n x = typed_suffix (Suffix-F.Member (at n) x)

abbrev pub words : ℕ → List TypeWord → List Specified
words n ws = map (λ w. typed_specifier (Specifier-F.Word w (at n))) ws

-- ---- where the examples stand: in a function, with these names

-- these functions have definitions
abbrev pub among : List (List ℕ) → Around
among functions = record {
  functions = functions;
  objects = [];
  at_file_level = false;
  names_from = 0;
  tags_from = 0;
  own_from = 0;
  inner_from = 0;
  numbers_from = 0;
  may_break = false;
  may_continue = false;
  result = int;
}

abbrev pub inside : Around
inside = among []

abbrev pub with : List (List ℕ × Meaning) → State
with names = record {
  names = names;
  tags = [];
  outer = no_scope;
  listed = no_scope;
  structs = [];
  fixed = [];
  enums = 0;
  linked = [];
  starts = [];
  statics = [];
  declared = 0;
  own = [];
  addressed = [];
  unready = [];
}

abbrev pub first_fault : {A : Type 0} → Walk A → State → Option Fault
first_fault w s = first_of None (w inside s).faults

-- the type of an expression
abbrev pub type_in : Expressed → State → Option CType
type_in e s = option_map (λ o. o.ctype) (e.typed inside s).given

-- ---- declarations, definitions and units

abbrev pub text : List ℕ → ℕ → Identifier
text bytes n = record { text = bytes; place = at n }

-- a name with these suffixes
abbrev pub named : ℕ → List ℕ → List Suffixed → Declaring
named n bytes suffixes =
    typed_declarator (record { pointers = []; direct = typed_direct (Direct-F.Named (text bytes n)); suffixes = suffixes })

-- specifiers and one declarator, with an initialiser or without
abbrev pub declares : List Specified → Declaring → Option Initialising → Declared
declares specifiers d start = record { specifiers = specifiers; declarators = record { declaring = d; start = start } ∷ [] }

-- `(void)` at this column
abbrev pub void_list : ℕ → Suffixed
void_list n = typed_declarator_suffix (DeclaratorSuffix-F.Void (at n) (at 0) (at 0))

-- parameters, each a list of specifiers and a declarator
abbrev pub parameter_list : ℕ → List (List Specified × Declaring) → Suffixed
parameter_list n ps = typed_declarator_suffix (DeclaratorSuffix-F.Parameters (at n)
    (map (λ q. typed_parameter (record { comma = None; specifiers = q.0; declarator = q.1 })) ps) (at 0))

abbrev pub defines : List Specified → Declaring → List Itemised → Defined
defines specifiers d items = record { specifiers = specifiers; declaring = d; body = items; tokens = 0 }

abbrev pub main_text : List ℕ
main_text = codes "main"

-- `int main(void){`, of 15 bytes, from this column on; what stands in its body; `}`
abbrev pub main_from : ℕ → List Itemised → Defined
main_from n items = defines (words n (word.Int ∷ [])) (named (n + 4) main_text (void_list (n + 8) ∷ [])) items

-- a unit that ends at this column
abbrev pub unit : ℕ → List Outer → Source
unit n items = record { items = items; end = at n }
