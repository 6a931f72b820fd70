-- The typedef names of function types, where one more is declared.
-- The answer of `add` cites it.
use Rattle.std.proofs.Common.{◌≡◌, ◌∙◌, refl, ap, Bool, true, false, if◌then◌else◌, List, Option, Some, Result, Ok, Err, OnOk}
use Rattle.std.specs.Str.{bytes_eq}
use Rattle.c_typing.specs.Scopes.{Name, latest}
use Rattle.c_typing.specs.Declarations.{FunctionNames, also}
use Rattle.c_type_declarations.specs.Counting.{since_or}

since-if : (e b : Bool) (o : Option Bool) (c : Bool) → since_or (if e then Some b else o) c ≡ (if e then b else since_or o c)
since-if true b o c = refl
since-if false b o c = refl

-- a name that is declared hides those of before
pub hides : (old new : List (Name × Bool)) (names : FunctionNames) (name : Name) (b : Bool) →
    ((asked : Name) → latest new asked ≡ (if bytes_eq name asked then Some b else latest old asked)) →
    (λ (asked : Name). since_or (latest new asked) (names asked)) ≡ also name b (λ (asked : Name). since_or (latest old asked) (names asked))
hides old new names name b h =
    λ i asked. (ap (λ (o : Option Bool). since_or o (names asked)) (h asked) ∙ since-if (bytes_eq name asked) b (latest old asked) (names asked)) i

pub where_ok : {A E P Q : Type 0} (r : Result A E) → (P → Q) → OnOk r P → OnOk r Q
where_ok (Ok a) f h = f h
where_ok (Err e) f h = tt
