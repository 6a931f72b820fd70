-- When a typed unit hangs together, so that core code made of it is well formed and its limits are kept.
use Rattle.std.specs.Prelude.{◌≡◌, ℕ, ◌+◌, ◌*◌, ◌≤◌, false, List, [], ◌∷◌, length, Some, slice_get}
use Rattle.c_tree.specs.declared.typed.unit.StaticPart.{StaticPart}
use Rattle.c_tree.specs.declared.typed.unit.StaticPart.TheVariants as part
use Rattle.c_tree.specs.declared.typed.unit.StaticObject.{StaticObject}
use Rattle.c_tree.specs.declared.typed.unit.TFunction.{TFunction}
use Rattle.c_tree.specs.declared.typed.unit.Typed.{Typed}
use Rattle.c_tree.specs.TypedUnits.{IsUnit}
use Rattle.typed_form.specs.Weights.{acts, jumps, weight_of_function}
use Rattle.typed_form.specs.Statements.{Around, Throughout, AreBytes, IsFitting}

-- ---- static objects

-- the parts of a static object stand one behind the other from a place on, and end inside it
abbrev pub PartsLie : (from size : ℕ) → List StaticPart → Type 0
PartsLie from size [] = from ≤ size
PartsLie from size (part.Bytes n bytes ∷ ps) = (from ≤ n) × AreBytes bytes × PartsLie (n + length bytes) size ps
PartsLie from size (part.Address n r o ∷ ps) = (from ≤ n) × PartsLie (n + 4) size ps

-- ---- functions

-- where the body of a function stands: its parameters are in scope, and no jump leads out of it
abbrev pub in_body : TFunction → Around
in_body f =
    record { jumps = record { breaks = false; continues = false; result = f.scalar }; objects = f.parameters }

-- a function has tokens, and its acts and the jumps among them are counted by these
pub record IsCounted (f : TFunction) : Type 0 where
  pub tokens : 1 ≤ f.tokens
  pub by_acts : weight_of_function acts f ≤ 4 * f.tokens
  pub by_jumps : weight_of_function jumps f ≤ 3 * f.tokens

pub record IsFunctionForm (f : TFunction) : Type 0 where
  pub body : Throughout IsFitting (in_body f) f.body
  pub counted : IsCounted f

-- ---- units

-- what lowering takes: each name stands for something that is there, of the kind that is asked, and each part has its place
pub record HangsTogether (u : Typed) : Type 0 where
  pub unit : IsUnit u
  pub functions : (i : ℕ) (f : TFunction) → slice_get u.functions i ≡ Some f → IsFunctionForm f
  pub objects : (i : ℕ) (o : StaticObject) → slice_get u.objects i ≡ Some o → PartsLie 0 o.object.size o.parts
