-- When acts do in one state what they do in another (a notion of this project).
use Rattle.std.specs.Prelude.{◌≡◌, List, [], ◌∷◌, Option}
use Rattle.word_ops.specs.Store.{Value}
use Rattle.word_ops.specs.Run.{Outside, Run, Gives, Ends, Undefined}
use Rattle.core_lang.specs.declared.act.Atom.{Atom}
use Rattle.core_lang.specs.declared.act.Core.{Core, Row_of-Core, end_of-Core, more_of-Core}
use Rattle.core_lang.specs.declared.act.Core.TheVariants as c
use Rattle.core_lang.specs.State.{State}
use Rattle.core_lang.specs.Acts.{Flow, Falls, Leaves, Returned, Does}

-- acts end in the same way, and what the function gives back stands in a relation
abbrev pub FlowsAlike : (Option Value → Option Value → Type 0) → Flow → Flow → Type 0
FlowsAlike V Falls Falls = Unit {0}
FlowsAlike V (Leaves j) (Leaves k) = j ≡ k
FlowsAlike V (Returned u) (Returned v) = V u v
FlowsAlike V _ _ = ⊥

-- so they do, in states that stand in a relation
abbrev pub EndAlike : (State → State → Type 0) → (State → State → Option Value → Option Value → Type 0) → State → Flow →
    State → Flow → Type 0
EndAlike I V s f t d = I s t × FlowsAlike (V s t) f d

-- an act without acts in it
abbrev pub IsPlainAct : Core → Type 0
IsPlainAct (c.Block' n all) = ⊥
IsPlainAct (c.Loop' n all) = ⊥
IsPlainAct (c.If' v n first m second) = ⊥
IsPlainAct _ = Unit {0}

abbrev mutual
  -- each act without acts in it has a property, and each atom by which acts are chosen has one
  pub EachAct : (Core → Type 0) → (Atom → Type 0) → Core → Type 0
  EachAct P Q (c.Block' n all) = EachInRow P Q all
  EachAct P Q (c.Loop' n all) = EachInRow P Q all
  EachAct P Q (c.If' v n first m second) = Q v × EachInRow P Q first × EachInRow P Q second
  EachAct P Q a = P a

  pub EachInRow : (Core → Type 0) → (Atom → Type 0) → {n : _} → Row_of-Core n → Type 0
  EachInRow P Q end_of-Core = Unit {0}
  EachInRow P Q (more_of-Core a rest) = EachAct P Q a × EachInRow P Q rest

abbrev pub EachOf : (Core → Type 0) → (Atom → Type 0) → List Core → Type 0
EachOf P Q [] = Unit {0}
EachOf P Q (a ∷ rest) = EachAct P Q a × EachOf P Q rest

-- ---- what acts keep

-- what a run gives has a property
abbrev pub OnGives : {S A : Type 0} → (S → A → Type 0) → Run S A → Type 0
OnGives P (Gives s w a) = P s a
OnGives P (Ends e w) = Unit {0}
OnGives P Undefined = Unit {0}

-- what a function gives back, where it does, has a property
abbrev pub OnReturned : (Option Value → Type 0) → Flow → Type 0
OnReturned W (Returned v) = W v
OnReturned W _ = Unit {0}

-- a way to act keeps a property of the state, and what is given back has one
abbrev pub KeepsState : (State → Type 0) → (State → Option Value → Type 0) → Does → Type 0
KeepsState I W go = (s : State) (w : Outside) → I s → OnGives (λ s f. I s × OnReturned (W s) f) (go s w)
