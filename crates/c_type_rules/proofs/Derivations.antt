-- The outermost derivation of a type
-- is the last of its list.
use Rattle.std.proofs.Common.{◌≡◌, ◌∙◌, ap, List, [], ◌∷◌, ◌++◌}
use Rattle.std.specs.Prelude.{reverse}
use Rattle.std.proofs.lemmas.List.{reverse-append}
use Rattle.c_tree.specs.declared.typed.types.Derived.{Derived}

pub outermost : (ds inner : List Derived) (d : Derived) → ds ≡ inner ++ d ∷ [] → reverse ds ≡ d ∷ reverse inner
outermost ds inner d e = ap reverse e ∙ reverse-append inner (d ∷ [])
