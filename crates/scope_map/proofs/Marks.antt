-- Laws on marks. A caller that carries a mark through its own calls cites these.
use Rattle.std.proofs.Common.{ℕ, ◌≤◌, List, ◌++◌, length, take, refl, sym, ap, ◌∙◌, arith, length-take, take-take}
use Rattle.std.proofs.Math.Seq.{take-length}
use Rattle.std.proofs.lemmas.List.{take-append-le}
use Rattle.scope_map.specs.Scopes.{Marked}

-- a mark is good at the list where it is made
pub Marked-here : {X : Type 0} (pairs : List X) → Marked pairs (length pairs) pairs
Marked-here pairs = record { made = refl; kept = take-length pairs }

-- a good mark is within the list, so it may be left
pub Marked-within : {X : Type 0} {now at : List X} {mark : ℕ} → Marked now mark at → mark ≤ length now
Marked-within {now = now} {at = at} {mark = mark} m = omega (arith, m.made, ap length m.kept, length-take mark now)

-- what is appended keeps a mark
pub Marked-append : {X : Type 0} {now at : List X} {mark : ℕ} (more : List X) → Marked now mark at → Marked (now ++ more) mark at
Marked-append {now = now} {mark = mark} more m = record { made = m.made; kept = take-append-le mark now more (Marked-within m) ∙ m.kept }

-- to leave a younger mark keeps an older one
pub Marked-left : {X : Type 0} {now at : List X} {older : ℕ} (mark : ℕ) → older ≤ mark → Marked now older at → Marked (take mark now) older at
Marked-left {now = now} {older = older} mark le m = record { made = m.made; kept = take-take older mark now le ∙ m.kept }

-- a mark that was good where a younger one was made is good as long as the younger one is
pub Marked-trans : {X : Type 0} {now between at : List X} {older mark : ℕ} → Marked now mark between → Marked between older at → Marked now older at
Marked-trans {now = now} {older = older} {mark = mark} younger m =
    let within : older ≤ mark = omega (arith, Marked-within m, younger.made) in
    record { made = m.made; kept = sym (take-take older mark now within) ∙ ap (take older) younger.kept ∙ m.kept }
