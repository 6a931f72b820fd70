-- When a layout keeps the objects of a program apart, and what stays true of the stores of its runs (the profile's tie to a
-- machine with a memory of bytes; the meaning of a program knows none of this).
use Rattle.std.specs.Prelude.{◌≡◌, ◌≢◌, ℕ, ◌+◌, ◌*◌, ◌%◌, ◌^◌, ◌<◌, ◌≤◌, ◌⊎◌, true, List, [], ◌∷◌, length, Option, Some, None, slice_get}
use Rattle.word_ops.specs.Store.{Value, Store, Shape, shape_at}
use Rattle.word_ops.specs.Addresses.{IsValueIn, IsAddressed}
use Rattle.word_ops.specs.Changes.{SameRegions}
use Rattle.core_lang.specs.declared.program.CoreFunction.{CoreFunction}
use Rattle.core_lang.specs.declared.program.Program.{Program}
use Rattle.core_lang.specs.declared.program.StaticObject.{StaticObject}
use Rattle.core_lang.specs.Layout.{Layout}
use Rattle.core_lang.specs.State.{State}
use Rattle.core_lang.specs.Acts.{Invocation}

-- at least 8 bytes lie between an object of n bytes and one of m
abbrev pub LieApart : (address n other m : ℕ) → Type 0
LieApart a n b m = (a + n + 8 ≤ b) ⊎ (b + m + 8 ≤ a)

-- the objects of a program are apart at each moment at which no more than so many calls are nested
pub record IsLayoutOf (l : Layout) (p : Program) (depth : ℕ) : Type 0 where
  -- the stack lies between the bottom and the top, and no frame is larger than this
  pub bottom : ℕ
  pub largest : ℕ
  pub above_zero : 0 < bottom
  pub top : l.top < 2 ^ 32
  pub room : bottom + depth * largest ≤ l.top
  -- objects and frames lie at multiples of 8
  pub top_aligned : l.top % 8 ≡ 0
  -- the static objects lie below it
  pub static : (x : ℕ) (o : StaticObject) → slice_get p.objects x ≡ Some o →
      (0 < l.static x) × (l.static x + o.size + 8 ≤ bottom) × (l.static x % 8 ≡ 0)
  pub static_apart : (x y : ℕ) (o q : StaticObject) → slice_get p.objects x ≡ Some o → slice_get p.objects y ≡ Some q →
      x ≢ y → LieApart (l.static x) o.size (l.static y) q.size
  -- the local objects of a function lie in its frame
  pub frame : (f : ℕ) (g : CoreFunction) → slice_get p.functions f ≡ Some g → (l.frame f ≤ largest) × (l.frame f % 8 ≡ 0)
  pub local : (f : ℕ) (g : CoreFunction) (x n : ℕ) → slice_get p.functions f ≡ Some g → slice_get g.locals x ≡ Some n →
      (l.local f x + n + 8 ≤ l.frame f) × (l.local f x % 8 ≡ 0)
  pub local_apart : (f : ℕ) (g : CoreFunction) (x y n m : ℕ) → slice_get p.functions f ≡ Some g →
      slice_get g.locals x ≡ Some n → slice_get g.locals y ≡ Some m → x ≢ y →
      LieApart (l.local f x) n (l.local f y) m

-- no live object lies in the free part of the stack
abbrev pub IsFree : (bottom stack : ℕ) → Store → Type 0
IsFree bottom stack s =
    (r : ℕ) (z : Shape) → shape_at s r ≡ Some z → z.live ≡ true → (z.address + z.size + 8 ≤ bottom) ⊎ (stack ≤ z.address)

-- each live object lies at a multiple of 8, so an access that is aligned in its object is aligned in memory
abbrev pub IsAligned : Store → Type 0
IsAligned s = (r : ℕ) (z : Shape) → shape_at s r ≡ Some z → z.live ≡ true → z.address % 8 ≡ 0

-- each live object of the second store is one of the first
abbrev pub NoneLiveBehind : Store → Store → Type 0
NoneLiveBehind s t = (r : ℕ) (z : Shape) → shape_at t r ≡ Some z → z.live ≡ true → shape_at s r ≡ Some z

-- each value is a number of one word or a pointer to an object of the store (`IsValueIn` of word_ops)
abbrev pub AreValuesIn : Store → List Value → Type 0
AreValuesIn s [] = Unit {0}
AreValuesIn s (v ∷ vs) = IsValueIn s v × AreValuesIn s vs

abbrev pub IsOptionIn : Store → Option Value → Type 0
IsOptionIn s None = Unit {0}
IsOptionIn s (Some v) = IsValueIn s v

-- the states that a function has from its beginning on, at which there was the first store: addressed, each value one of the
-- store, with the regions that there were at the beginning, and no others live
pub record IsSound (start : Store) (s : State) : Type 0 where
  pub addressed : IsAddressed s.store
  pub values : (x : ℕ) → IsValueIn s.store (s.vars x)
  pub regions : SameRegions start s.store
  pub live : NoneLiveBehind start s.store
  pub aligned : IsAligned s.store

-- the same of what a call gives
pub record KeepsAddresses (start t : Store) (v : Option Value) : Type 0 where
  pub addressed : IsAddressed t
  pub value : IsOptionIn t v
  pub regions : SameRegions start t
  pub live : NoneLiveBehind start t
  pub aligned : IsAligned t

-- a call that may be made, with so many more nested in it, itself counted
pub record IsCallable (p : Program) (bottom largest depth : ℕ) (c : Invocation) : Type 0 where
  pub addressed : IsAddressed c.store
  pub arguments : AreValuesIn c.store c.arguments
  -- the first regions are those of the static objects
  pub static : length p.objects ≤ length c.store
  pub free : IsFree bottom c.stack c.store
  pub room : bottom + depth * largest ≤ c.stack
  pub top : c.stack < 2 ^ 32
  pub aligned : IsAligned c.store
  pub stack_aligned : c.stack % 8 ≡ 0
