-- What a parameter declares.
-- Its specifiers and its declarator declare their names, and then its own name stands behind them.
use Rattle.std.specs.Prelude.{◌≡◌, ℕ, Bool, List, ◌++◌, Option, map}
use Rattle.std.proofs.Common.{ap, ◌∙◌}
use Rattle.c_tree.specs.declared.specifier.Specifier.{Specifier}
use Rattle.c_tree.specs.declared.declarator.Parameter.{Parameter, out-Parameter}
use Rattle.c_tree.specs.Levels.Names.{Names, ◌then◌, in_row}
use Rattle.c_tree.specs.Levels.Facts.{names_of}
use Rattle.c_tree.specs.Levels.Trees.{parameter_level, parameter_level-is, specifier_level, declarator_level}
use Rattle.c_grammar.specs.Read.Nodes.{have_typedef}
use Rattle.c_grammar.specs.Laws.Parameters.{typedef_is}

-- its specifiers and its declarator, and its name
pub parameter_told : (p : Parameter) (specifiers : List Specifier) → specifiers ≡ (out-Parameter p).specifiers → (is_typedef : Bool) → is_typedef ≡ have_typedef (out-Parameter p).specifiers
    → (name : Option (List ℕ)) → ((names : Names) → name ≡ (declarator_level (out-Parameter p).declarator names).0.name) → (at : Names)
    → (parameter_level p at).1 ≡ ((in_row (map specifier_level specifiers) then declarator_level (out-Parameter p).declarator) at).1 ++ names_of is_typedef name
parameter_told p specifiers same is_typedef typedef name named at =
    let behind : Names = at ++ (in_row (map specifier_level (out-Parameter p).specifiers) at).1 in
    ap (λ r. r.1) (parameter_level-is p at) ∙ rw (same, typedef, typedef_is (out-Parameter p).specifiers at, named behind)
