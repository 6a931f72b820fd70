-- A list of acts as lowering makes it, act behind act: what is there so far, and the number of the next temporary.
-- Lists in an act are made by themselves, with the temporaries that follow.
use Rattle.std.specs.Prelude.{ℕ, suc, List, [], ◌∷◌, ◌++◌}
use Rattle.core_lang.specs.declared.act.Atom.{Atom}
use Rattle.core_lang.specs.declared.act.Atom.TheVariants as at
use Rattle.core_lang.specs.declared.act.Core.{Core}

-- the acts so far, and the number of the next temporary
pub record Code : Type 0 where
  pub acts : List Core
  pub next : ℕ

-- code behind which a value is known, and the atom that has it
pub record Valued : Type 0 where
  pub code : Code
  pub atom : Atom

-- the same of several values
pub record Listed : Type 0 where
  pub code : Code
  pub atoms : List Atom

-- no acts yet, behind code whose temporaries are taken
abbrev pub begun : Code → Code
begun k = record { acts = []; next = k.next }

-- a value that takes no act
abbrev pub given : Atom → Code → Valued
given v k = record { code = k; atom = v }

-- code and one act
abbrev pub with_act : Core → Code → Code
with_act a k = record { acts = k.acts ++ a ∷ []; next = k.next }

-- code and an act that assigns the next temporary, which has the value then
abbrev pub assigned : (ℕ → Core) → Code → Valued
assigned act k = record { code = record { acts = k.acts ++ act k.next ∷ []; next = suc k.next }; atom = at.Var k.next }

-- code and an act with a list in it, which was begun behind that code
abbrev pub with_list : (List Core → Core) → Code → (inner : Code) → Code
with_list act k inner = record { acts = k.acts ++ act inner.acts ∷ []; next = inner.next }
