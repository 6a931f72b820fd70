-- Whole units, each written out above what is told of it.
use Rattle.std.specs.Prelude.{◌≡◌, ℕ, List, [], ◌∷◌, Option, Some, None, false, map, refl}
use Rattle.std.specs.Option.{option_map}
use Rattle.std.proofs.Common.{ap}
use Rattle.c_tree.specs.declared.token.Pos.{Pos}
use Rattle.c_layout.specs.ConstantNodes.{has_constant_form-Primary, number_of-Primary}
use Rattle.word_ops.specs.declared.operation.Width.TheVariants as width
use Rattle.c_tree.specs.declared.token.Punct.TheVariants as p
use Rattle.c_tree.specs.declared.specifier.Storage.TheVariants as storage
use Rattle.c_tree.specs.declared.specifier.TypeWord.{TypeWord}
use Rattle.c_tree.specs.declared.specifier.TypeWord.TheVariants as word
use Rattle.c_tree.specs.declared.refusal.FaultKind.TheVariants as kind
use Rattle.c_tree.specs.declared.typed.operator.Conversion.TheVariants as conversion
use Rattle.c_tree.specs.declared.typed.operator.Primary.TheVariants as primary
use Rattle.c_tree.specs.declared.typed.operator.Unary.TheVariants as unary
use Rattle.c_tree.specs.declared.typed.expression.TExpr.TheVariants as x
use Rattle.c_tree.specs.declared.typed.expression.Step.TheVariants as step
use Rattle.c_tree.specs.declared.typed.statement.TStmt.{TStmt}
use Rattle.c_tree.specs.declared.typed.statement.TStmt.TheVariants as t
use Rattle.c_tree.specs.declared.typed.types.Derived.TheBlock.{shown-the_row-Derived-0, hidden-the_row-CType-1}
use denote.Hole.Carrier.{shown, hidden}
use Rattle.c_tree.specs.declared.declarator.DeclaratorSuffix.TheOpen.{Direct-F, DeclaratorSuffix-F, Specifier-F, Expr-F}
use Rattle.c_typing.specs.Faults.{fault}
use Rattle.c_typing.specs.Types.{int, unsigned}
use Rattle.c_typing.specs.Scopes.{Walk, Around, State}
use Rattle.c_typing.specs.Declarators.{SomeArray, Expressed, Suffixed, Specified, Members}
use Rattle.c_typing.specs.OfTrees.{typed_expr, typed_declarator, typed_direct, typed_specifier, typed_member, typed_member_declarator, typed_type_name, typed_declarator_suffix}
use Rattle.c_typing.specs.OfInitialisers.{by_expression}
use Rattle.c_typing.specs.Declarations.{Declared}
use Rattle.c_typing.specs.OfStatements.{Itemised, States, item_of, return_row, evaluate_row, break_row}
use Rattle.c_typing.specs.Units.{Outer, Declares, Defines, Source, first_in, typed_in}
use Rattle.c_typing.specs.Examples.Read.{at, id, name, constant, assign, suffix, call, call_with, words, named, declares, void_list, parameter_list, defines, main_from, unit}

ruleset constants = (has_constant_form-Primary, number_of-Primary)

-- ---- parts

-- `int` and a name of one letter
abbrev int_object : ℕ → ℕ → Declared
int_object n letter = declares (words n (word.Int ∷ [])) (named n (letter ∷ []) []) None

abbrev returns : ℕ → Expressed → Itemised
returns n e = States (return_row (at n) (Some e))

-- `int f(void);`, of 12 bytes
abbrev f_declared : ℕ → Outer
f_declared n = Declares (declares (words n (word.Int ∷ [])) (named n (102 ∷ []) (void_list n ∷ [])) None)

abbrev const_int : ℕ → List Specified
const_int n = typed_specifier (Specifier-F.Const (at n)) ∷ words n (word.Int ∷ [])

abbrev member : TypeWord → ℕ → Walk Members
member w letter = typed_member (record {
  specifiers = words 0 (w ∷ []);
  declarators = typed_member_declarator (record { comma = None; declarator = named 0 (letter ∷ []) [] }) ∷ [];
  semicolon = at 0;
})

-- `struct S{char c;int n;}` at this column
abbrev struct_S : ℕ → Specified
struct_S n = typed_specifier (Specifier-F.Struct (at n) (Some (id n 83)) (at 0) (member word.Char 99 ∷ member word.Int 110 ∷ []) (at 0))

-- `sizeof(struct S)` at this column
abbrev size_of_S : ℕ → Expressed
size_of_S n = typed_expr (Expr-F.SizeofType (at n) (at 0) (typed_type_name (record {
  specifiers = typed_specifier (Specifier-F.StructTag (at 0) (id 0 83)) ∷ [];
  declarator = typed_declarator (record { pointers = []; direct = typed_direct Direct-F.Nothing; suffixes = [] });
})) (at 0))

-- `struct S` at this column
abbrev tag_S : ℕ → Specified
tag_S n = typed_specifier (Specifier-F.StructTag (at n) (id n 83))

-- `int f(struct S s){return 0;}`, whose parameter is at this column
abbrev takes_S : ℕ → Outer
takes_S n = Defines (defines (words 0 (word.Int ∷ [])) (named 0 (102 ∷ []) (parameter_list 0 ((tag_S 0 ∷ [], named n (115 ∷ []) []) ∷ []) ∷ []))
    (returns 0 (constant 0 0) ∷ []))

-- `int main(void){int a` size `;return 0;}`
abbrev with_array : Suffixed → Source
with_array size = unit 34 (Defines (main_from 1
    (item_of (declares (words 16 (word.Int ∷ [])) (named 20 (97 ∷ []) (size ∷ [])) None) ∷ returns 25 (constant 32 0) ∷ [])) ∷ [])

-- `[0]` at this column, and what is told of it wherever it stands
abbrev no_elements : ℕ → Suffixed
no_elements n = typed_declarator_suffix (DeclaratorSuffix-F.ArrayOf (at n) (constant n 0) (at 0))

abbrev bad_size_told : Pos → Suffixed
bad_size_told p = record { makes = false; part = λ defining c s. record { faults = fault kind.BadSize p ∷ []; given = Some SomeArray; state = s } }

no_elements-told : (n : ℕ) → no_elements n ≡ bad_size_told (at n)
no_elements-told n = λ i. record { makes = false; part = λ defining c s. one c s i }
  where
    one : (c : Around) (s : State) → (no_elements n).part false c s ≡ (bad_size_told (at n)).part false c s
    one c s = simp constants

-- the bodies of the functions of a unit
abbrev bodies : Source → Option (List TStmt)
bodies u = option_map (λ typed. map (λ f. f.body) typed.functions) (typed_in u)

-- what typing makes of units
pub record UnitsTyped : Type 0 where
  -- `int main(void){int a;int a;return 0;}`
  pub declared_twice : first_in (unit 38 (Defines (main_from 1 (item_of (int_object 20 97) ∷ item_of (int_object 26 97) ∷ returns 28 (constant 35 0) ∷ [])) ∷ [])) ≡
      Some (fault kind.Redeclared (at 26))
  -- `int main(void){const int a=1;a=2;return 0;}`
  pub const_written : first_in (unit 44 (Defines (main_from 1
      (item_of (declares (const_int 16) (named 26 (97 ∷ []) []) (Some (by_expression (constant 28 1))))
      ∷ States (evaluate_row (assign (name 30 97) 31 p.Assign (constant 32 2))) ∷ returns 34 (constant 41 0) ∷ [])) ∷ [])) ≡
      Some (fault kind.ConstWrite (at 31))
  -- `int main(void){int a[0];return 0;}`
  pub no_size : first_in (with_array (no_elements 21)) ≡ Some (fault kind.BadSize (at 21))
  -- `struct S{char c;int n;};int main(void){return sizeof(struct S);}`: no fault, and 8 converted to int is given back
  pub size_given : bodies (unit 66 (Declares (record { specifiers = struct_S 1 ∷ []; declarators = [] }) ∷ Defines (main_from 25 (returns 40 (size_of_S 47) ∷ [])) ∷ [])) ≡
      Some (t.Block (record { first = 0; list = [] })
      (t.Return (Some (x.Applied int (x.Primary unsigned (primary.Number 8)) (step.Unary (unary.Convert (conversion.Integer width.Word)) ∷ []))) ∷ []) ∷ [])
  -- `int main(void){return x;}`
  pub undeclared : first_in (unit 26 (Defines (main_from 1 (returns 16 (name 23 120) ∷ [])) ∷ [])) ≡ Some (fault kind.Undeclared (at 23))
  -- `auto int x;int main(void){return 0;}`
  pub auto_outside : first_in (unit 37 (Declares (declares (typed_specifier (Specifier-F.Storage storage.Auto (at 1)) ∷ words 6 (word.Int ∷ [])) (named 10 (120 ∷ []) []) None)
      ∷ Defines (main_from 12 (returns 27 (constant 34 0) ∷ [])) ∷ [])) ≡ Some (fault kind.BadSpecifier (at 1))
  -- `struct S x;int main(void){return 0;}`
  pub without_members : first_in (unit 37 (Declares (declares (typed_specifier (Specifier-F.StructTag (at 1) (id 8 83)) ∷ []) (named 10 (120 ∷ []) []) None)
      ∷ Defines (main_from 12 (returns 27 (constant 34 0) ∷ [])) ∷ [])) ≡ Some (fault kind.Incomplete (at 10))
  -- `int f(void);int main(void){return f();}`: a function that has no body is called
  pub no_body : first_in (unit 40 (f_declared 1 ∷ Defines (main_from 13 (returns 28 (suffix (name 35 102) (call 36)) ∷ [])) ∷ [])) ≡
      Some (fault kind.NoBody (at 35))
  -- `int f(void);int main(void){f;return 0;}`
  pub function_used : first_in (unit 40 (f_declared 1 ∷ Defines (main_from 13 (States (evaluate_row (name 28 102)) ∷ returns 30 (constant 37 0) ∷ [])) ∷ [])) ≡
      Some (fault kind.FunctionUse (at 28))
  -- `int main(void){return;}`
  pub nothing_given : first_in (unit 24 (Defines (main_from 1 (States (return_row (at 16) None) ∷ [])) ∷ [])) ≡ Some (fault kind.Mismatch (at 16))
  -- `int main(void){break;}`
  pub stray : first_in (unit 23 (Defines (main_from 1 (States (break_row (at 16)) ∷ [])) ∷ [])) ≡ Some (fault kind.Stray (at 16))
  -- `int x;`, and `void main(void){}`
  pub no_main : first_in (unit 7 (Declares (int_object 5 120) ∷ [])) ≡ Some (fault kind.NoMain (at 7))
  pub main_gives_nothing : first_in (unit 18 (Defines (defines (words 1 (word.Void ∷ [])) (named 6 (109 ∷ 97 ∷ 105 ∷ 110 ∷ []) (void_list 10 ∷ [])) []) ∷ [])) ≡
      Some (fault kind.NoMain (at 6))
  -- `struct S{char c;int n;};int f(struct S s){return 0;}int main(void){struct S x;return f(x);}`: a structure is passed; and where
  -- nothing calls `f`, its parameter has no typed tree yet
  pub structure_passed : first_in (unit 94 (Declares (record { specifiers = struct_S 1 ∷ []; declarators = [] }) ∷ takes_S 40
      ∷ Defines (main_from 54 (item_of (declares (tag_S 69 ∷ []) (named 78 (120 ∷ []) []) None) ∷ returns 80 (suffix (name 87 102) (call_with 88 (name 89 120))) ∷ [])) ∷ [])) ≡
      Some (fault kind.StructValue (at 89))
  pub structure_parameter : first_in (unit 79 (Declares (record { specifiers = struct_S 1 ∷ []; declarators = [] }) ∷ takes_S 40
      ∷ Defines (main_from 54 (returns 69 (constant 76 0) ∷ [])) ∷ [])) ≡ Some (fault kind.StructValue (at 40))
  -- `int x;int x;int main(void){return x;}`: two tentative definitions
  pub tentative : first_in (unit 38 (Declares (int_object 5 120) ∷ Declares (int_object 11 120) ∷ Defines (main_from 13 (returns 28 (name 35 120) ∷ [])) ∷ [])) ≡ None
  -- `typedef int f(void){return 0;}int main(void){return 0;}`
  pub defined_type : first_in (unit 54 (Defines (defines (typed_specifier (Specifier-F.Storage storage.Typedef (at 1)) ∷ words 9 (word.Int ∷ [])) (named 13 (102 ∷ []) (void_list 14 ∷ []))
      (returns 21 (constant 28 0) ∷ []))
      ∷ Defines (main_from 31 (returns 46 (constant 53 0) ∷ [])) ∷ [])) ≡ Some (fault kind.BadSpecifier (at 1))
  -- `int f(void){return 0;}int main(void){f x;return 0;}`, were `f` read as a type: the name of a function names none
  pub no_type : first_in (unit 60 (Defines (defines (words 9 (word.Int ∷ [])) (named 13 (102 ∷ []) (void_list 14 ∷ []))
      (returns 21 (constant 28 0) ∷ []))
      ∷ Defines (main_from 31 (item_of (declares (typed_specifier (Specifier-F.TypedefName (id 46 102)) ∷ []) (named 48 (120 ∷ []) []) None) ∷ returns 50 (constant 57 0) ∷ [])) ∷ [])) ≡
      Some (fault kind.Undeclared (at 46))
  -- `int putchar(void);int main(void){return 0;}`: a library name with another type
  pub other_putchar : first_in (unit 44 (Declares (declares (words 1 (word.Int ∷ [])) (named 5 (112 ∷ 117 ∷ 116 ∷ 99 ∷ 104 ∷ 97 ∷ 114 ∷ []) (void_list 12 ∷ [])) None)
      ∷ Defines (main_from 19 (returns 34 (constant 41 0) ∷ [])) ∷ [])) ≡ Some (fault kind.Redeclared (at 5))

pub units_typed : UnitsTyped
unfolding shown-the_row-Derived-0 hidden-the_row-CType-1 shown hidden
units_typed = record {
  declared_twice = refl;
  const_written = refl;
  no_size = ap (λ a. first_in (with_array a)) (no_elements-told 21);
  size_given = refl;
  undeclared = refl;
  auto_outside = refl;
  without_members = refl;
  no_body = refl;
  function_used = refl;
  nothing_given = refl;
  stray = refl;
  no_main = refl;
  main_gives_nothing = refl;
  structure_passed = refl;
  structure_parameter = refl;
  tentative = refl;
  defined_type = refl;
  no_type = refl;
  other_putchar = refl;
}
