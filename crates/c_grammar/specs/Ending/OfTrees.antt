-- How one node ends, from how its parts end: which tokens go on with the tree that would not go on with another.
use Rattle.std.specs.Prelude.{Bool, true, false, List, [], ◌∷◌}
use Rattle.c_tree.specs.declared.declarator.DeclaratorSuffix.TheOpen.{Expr-F, Prefix-F}
use Rattle.c_tree.specs.Layers.{DeclaratorSuffixOf, DirectOf, ExprOf, PrefixOf, SuffixOf, EnumeratorOf, SpecifierOf, DeclaratorOf, ParameterOf, BranchOf, NextOf, TypeNameOf, MemberOf, MemberDeclaratorOf}

pub record Ending : Type 0 where
  -- it ends with string literals: another goes on with them
  pub text : Bool
  -- it ends with `sizeof` `(` type name `)`: no suffix goes on with that
  pub size : Bool
  -- it ends with a unary expression that an assignment may stand behind
  pub target : Bool

abbrev pub plain : Ending
plain = record { text = false; size = false; target = true }

abbrev pub no_target : Ending → Ending
no_target e = record { text = e.text; size = e.size; target = false }

-- the last of a list
abbrev pub last : Ending → List Ending → Ending
last e [] = e
last e (x ∷ xs) = last x xs

-- a run of prefixes that begins with a cast is no unary expression
abbrev pub run_target : List Ending → Bool
run_target [] = true
run_target (x ∷ xs) = x.target

abbrev pub ending_of_expr : ExprOf Ending → Ending
ending_of_expr (Expr-F.Strings all) = record { text = true; size = false; target = true }
ending_of_expr (Expr-F.SizeofType at from type to) = record { text = false; size = true; target = true }
ending_of_expr (Expr-F.Prefixed run operand) = record { text = operand.text; size = operand.size; target = run_target run }
ending_of_expr (Expr-F.Binary level first rest) = no_target (last first rest)
ending_of_expr (Expr-F.Conditional first rest) = no_target (last first rest)
ending_of_expr (Expr-F.Assign first rest) = last first rest
ending_of_expr (Expr-F.Comma first rest) = last first rest
ending_of_expr _ = plain

abbrev pub ending_of_prefix : PrefixOf Ending → Ending
ending_of_prefix (Prefix-F.Cast from type to) = no_target plain
ending_of_prefix _ = plain

abbrev pub ending_of_next : NextOf Ending → Ending
ending_of_next n = n.operand

abbrev pub ending_of_branch : BranchOf Ending → Ending
ending_of_branch b = b.operand

-- of the other parts nothing is asked
abbrev pub ending_of_suffix : SuffixOf Ending → Ending
ending_of_suffix _ = plain

abbrev pub ending_of_declarator_suffix : DeclaratorSuffixOf Ending → Ending
ending_of_declarator_suffix _ = plain

abbrev pub ending_of_direct : DirectOf Ending → Ending
ending_of_direct _ = plain

abbrev pub ending_of_enumerator : EnumeratorOf Ending → Ending
ending_of_enumerator _ = plain

abbrev pub ending_of_specifier : SpecifierOf Ending → Ending
ending_of_specifier _ = plain

abbrev pub ending_of_declarator : DeclaratorOf Ending → Ending
ending_of_declarator _ = plain

abbrev pub ending_of_parameter : ParameterOf Ending → Ending
ending_of_parameter _ = plain

abbrev pub ending_of_type_name : TypeNameOf Ending → Ending
ending_of_type_name _ = plain

abbrev pub ending_of_member : MemberOf Ending → Ending
ending_of_member _ = plain

abbrev pub ending_of_member_declarator : MemberDeclaratorOf Ending → Ending
ending_of_member_declarator _ = plain
