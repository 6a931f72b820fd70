-- Statements and initialisers in a function that gives an int. `i` is an int, `p` a pointer to int, `s` and `t` of one structure type.
use Rattle.std.specs.Prelude.{◌≡◌, ℕ, List, [], ◌∷◌, Option, Some, None, false, refl}
use Rattle.std.specs.Option.{option_map}
use Rattle.word_ops.specs.declared.operation.Width.TheVariants as width
use Rattle.c_tree.specs.declared.token.Punct.TheVariants as p
use Rattle.c_tree.specs.declared.refusal.FaultKind.TheVariants as kind
use Rattle.c_tree.specs.declared.typed.types.Base.{Base}
use Rattle.c_tree.specs.declared.typed.types.Base.TheVariants as base
use Rattle.c_tree.specs.declared.typed.types.CType.{CType}
use Rattle.c_tree.specs.declared.typed.types.Derived.TheVariants as derived
use Rattle.c_tree.specs.declared.typed.operator.Scalar.TheVariants as scalar
use Rattle.c_tree.specs.declared.typed.operator.Primary.TheVariants as primary
use Rattle.c_tree.specs.declared.typed.expression.TExpr.TheVariants as x
use Rattle.c_tree.specs.declared.typed.statement.Initial.{Initial}
use Rattle.c_tree.specs.declared.typed.statement.Initial.TheVariants as initial
use Rattle.c_tree.specs.declared.typed.statement.Initialiser.{Initialiser}
use Rattle.c_tree.specs.declared.typed.unit.StaticPart.{StaticPart}
use Rattle.c_tree.specs.declared.typed.unit.StaticPart.TheVariants as part
use Rattle.c_tree.specs.declared.declarator.DeclaratorSuffix.TheOpen.{Expr-F}
use Rattle.c_typing.specs.OfTrees.{typed_expr}
use Rattle.c_tree.specs.declared.typed.statement.Initialiser.TheVariants as initialiser
use Rattle.c_layout.specs.ConstantNodes.{has_constant_form-Primary, number_of-Primary}
use Rattle.c_typing.specs.Faults.{Fault, fault, first_of}
use Rattle.c_typing.specs.Types.{int, plain, made}
use Rattle.c_typing.specs.Scopes.{Automatic, State, Walk, ◌>>=◌, asked}
use Rattle.c_typing.specs.Declarators.{Expressed}
use Rattle.c_typing.specs.OfInitialisers.{Initialising, by_expression, by_list, descend}
use Rattle.c_typing.specs.Starts.{initialiser_row, starts_row}
use Rattle.c_typing.specs.OfStatements.{Itemised, States, Cases, Defaults, Stated, evaluate_row, return_row, break_row, continue_row, if_row, while_row, do_row, for_row, Controlling, First, switch_row}
use Rattle.c_typing.specs.Examples.Read.{at, name, constant, assign, inside, with}

ruleset constants = (has_constant_form-Primary, number_of-Primary)

abbrev names : State
names = with (
    (105 ∷ [], Automatic int 0 0 false)
    ∷ (112 ∷ [], Automatic (made base.Int false (derived.Pointer false ∷ [])) 1 1 false)
    ∷ (115 ∷ [], Automatic (plain (base.Struct 0)) 2 2 false)
    ∷ (116 ∷ [], Automatic (plain (base.Struct 0)) 3 3 false)
    ∷ [])

abbrev told : {A : Type 0} → Walk A → Option Fault
told w = first_of None (w inside names).faults

abbrev i : ℕ → Expressed
i n = name n 105

abbrev p' : ℕ → Expressed
p' n = name n 112

abbrev s : ℕ → Expressed
s n = name n 115

-- the expression `i;`
abbrev here : Stated
here = evaluate_row (i 0)

-- `case value:` and `break;`
abbrev case_of : ℕ → ℕ → Itemised
case_of n value = Cases (at n) (constant n value)

abbrev breaks : Itemised
breaks = States (break_row (at 0))

abbrev control : Option Expressed → Controlling
control k = record { head = First None; condition = k; step = None }

-- what statements come to
pub record StatementsTyped : Type 0 where
  -- Mismatch at the word: `if(s)i;`, `while(s)i;`, `do i;while(s);`, `for(;s;)i;`, `switch(p){}`, `return p;`
  pub if_structure : told (if_row (at 1) (s 4) here []) ≡ Some (fault kind.Mismatch (at 1))
  pub while_structure : told (while_row (at 1) (s 7) here) ≡ Some (fault kind.Mismatch (at 1))
  pub do_structure : told (do_row (at 1) here (s 12)) ≡ Some (fault kind.Mismatch (at 1))
  pub for_structure : told (for_row (at 1) (control (Some (s 6))) here (First None)) ≡ Some (fault kind.Mismatch (at 1))
  pub switch_pointer : told (switch_row (at 1) (p' 8) []) ≡ Some (fault kind.Mismatch (at 1))
  pub pointer_given : told (return_row (at 1) (Some (p' 8))) ≡ Some (fault kind.Mismatch (at 1))
  -- without a fault: `while(p)i;`, `return i;`
  pub while_pointer : told (while_row (at 1) (p' 7) here) ≡ None
  pub int_given : told (return_row (at 1) (Some (i 8))) ≡ None
  -- the condition of a `do` is asked at its word, before what is wrong in the body: `do x;while(s);`
  pub do_word_first : told (do_row (at 1) (evaluate_row (name 4 120)) (s 13)) ≡ Some (fault kind.Mismatch (at 1))
  -- StructValue: `return s;` where an int is given back is a Mismatch, `s=t` of one type is not
  pub structure_given : told (return_row (at 1) (Some (s 8))) ≡ Some (fault kind.Mismatch (at 1))
  pub structure_assigned : told (evaluate_row (assign (s 1) 2 p.Assign (name 3 116))) ≡ Some (fault kind.StructValue (at 2))
  -- Stray: `continue;` in a switch, `break;` in a switch and `continue;` in a loop are none
  pub continue_in_switch : told (switch_row (at 1) (i 8) (States (continue_row (at 11)) ∷ [])) ≡ Some (fault kind.Stray (at 11))
  pub break_in_switch : told (switch_row (at 1) (i 8) (States (break_row (at 11)) ∷ [])) ≡ None
  pub continue_in_loop : told (while_row (at 1) (i 7) (continue_row (at 9))) ≡ None
  -- Redeclared: `switch(i){default:default:}`
  pub default_twice : told (switch_row (at 1) (i 8) (Defaults (at 11) ∷ Defaults (at 19) ∷ [])) ≡ Some (fault kind.Redeclared (at 19))
  -- Redeclared: `switch(i){case 1:case 1:}`, and `switch(i){case 1:case 2:}`
  pub case_twice : told (switch_row (at 1) (i 8) (case_of 11 1 ∷ case_of 18 1 ∷ [])) ≡ Some (fault kind.Redeclared (at 18))
  pub two_cases : told (switch_row (at 1) (i 8) (case_of 11 1 ∷ case_of 18 2 ∷ [])) ≡ None
  -- NotConstant: `switch(i){case i:}` at the first token of its expression
  pub case_of_object : told (switch_row (at 1) (i 8) (Cases (at 11) (i 16) ∷ [])) ≡ Some (fault kind.NotConstant (at 16))

pub statements_typed : StatementsTyped
statements_typed = record {
  if_structure = refl;
  while_structure = refl;
  do_structure = refl;
  for_structure = refl;
  switch_pointer = refl;
  pointer_given = refl;
  while_pointer = refl;
  int_given = refl;
  do_word_first = refl;
  structure_given = refl;
  structure_assigned = refl;
  continue_in_switch = refl;
  break_in_switch = refl;
  continue_in_loop = refl;
  default_twice = refl;
  case_twice = simp constants;
  two_cases = simp constants;
  case_of_object = simp constants;
}

-- ---- initialisers

abbrev array : Base → Option ℕ → CType
array b n = made b false (derived.Array n ∷ [])

-- a number at a column
abbrev given : ℕ → Initialising
given n = by_expression (constant n n)

-- what initialises an automatic object of a type, and the fault that is told
abbrev automatic : CType → Initialising → Walk Initialiser
automatic u e = e.fill 0 u >>= λ f. asked f (λ f. initialiser_row u f.leaves)

abbrev number_at : ℕ → ℕ → Initial
number_at offset n = initial.Value offset (scalar.Integer width.Word) (x.Primary int (primary.Number n))

abbrev static : CType → Initialising → Walk (List StaticPart)
static u e = e.fill 0 u >>= λ f. asked f (λ f. starts_row f.leaves)

abbrev pairs : CType
pairs = made base.Int false (derived.Array (Some 2) ∷ derived.Array (Some 2) ∷ [])

abbrev string : ℕ → List ℕ → Expressed
string n bytes = typed_expr (Expr-F.Strings (record { bytes = bytes; place = at n } ∷ []))

-- what initialisers come to
pub record InitialisersTyped : Type 0 where
  -- `int a[2][2]={1,{2},3}`: inner braces may be left out
  pub without_braces : (automatic pairs (by_list (at 1) (given 2 ∷ by_list (at 4) (given 5 ∷ []) ∷ given 8 ∷ [])) inside names).given ≡
      Some (initialiser.Aggregate (number_at 0 2 ∷ number_at 4 5 ∷ number_at 8 8 ∷ []))
  -- `int a[2]={1,2,3}`: Mismatch at the list that has too many items, and `int a[2]={1,2}`
  pub too_many : told (automatic (array base.Int (Some 2)) (by_list (at 1) (given 2 ∷ given 4 ∷ given 6 ∷ []))) ≡ Some (fault kind.Mismatch (at 1))
  pub enough : told (automatic (array base.Int (Some 2)) (by_list (at 1) (given 2 ∷ given 4 ∷ []))) ≡ None
  -- `int a[2][2]={{1,2,3}}`: the inner list has too many
  pub inner_too_many : told (automatic pairs (by_list (at 1) (by_list (at 2) (given 3 ∷ given 5 ∷ given 7 ∷ []) ∷ []))) ≡ Some (fault kind.Mismatch (at 2))
  -- `int a[2]={1,p}`: Mismatch at the inner one
  pub inner_mismatch : told (automatic (array base.Int (Some 2)) (by_list (at 1) (given 2 ∷ by_expression (p' 4) ∷ []))) ≡ Some (fault kind.Mismatch (at 4))
  -- `char c[2]="ab"` has no room for the zero, `char c[2]="abc"` is a Mismatch
  pub string_without_zero : (automatic (array base.Char (Some 2)) (by_expression (string 1 (97 ∷ 98 ∷ []))) inside names).given ≡
      Some (initialiser.Aggregate (initial.Bytes 0 (97 ∷ 98 ∷ []) ∷ []))
  pub string_too_long : told (automatic (array base.Char (Some 2)) (by_expression (string 1 (97 ∷ 98 ∷ 99 ∷ [])))) ≡ Some (fault kind.Mismatch (at 1))
  -- `int a[]={1,2}` has two elements
  pub counted : option_map (λ f. f.count) ((by_list (at 1) (given 2 ∷ given 4 ∷ [])).fill 0 (array base.Int None) inside names).given ≡ Some 2
  -- `static int a=i`: NotConstant, and `static int a=5`: its bytes
  pub static_of_object : told (static int (by_expression (i 14))) ≡ Some (fault kind.NotConstant (at 14))
  pub static_of_number : (static int (given 5) inside names).given ≡ Some (part.Bytes 0 (5 ∷ 0 ∷ 0 ∷ 0 ∷ []) ∷ [])

pub initialisers_typed : InitialisersTyped
unfolding descend
initialisers_typed = record {
  without_braces = refl;
  too_many = refl;
  enough = refl;
  inner_too_many = refl;
  inner_mismatch = refl;
  string_without_zero = refl;
  string_too_long = refl;
  counted = refl;
  static_of_object = refl;
  static_of_number = simp constants;
}
