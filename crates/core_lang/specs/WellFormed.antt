-- When a core program is well formed: each number names something that is there, and each temporary is assigned in one place
-- and read only behind it (the profile's rules on core code).
use Rattle.std.specs.Prelude.{◌≡◌, ℕ, suc, ◌+◌, ◌*◌, ◌%◌, ◌^◌, ◌<◌, ◌≤◌, ◌⊎◌, ◌==◌, Bool, true, false, ◌&&◌, ◌||◌, List, [], ◌∷◌, ◌++◌, length, Option, Some, None, slice_get}
use Rattle.word_ops.specs.Word.{number_of_truth}
use Rattle.core_lang.specs.declared.act.Atom.{Atom}
use Rattle.core_lang.specs.declared.act.Atom.TheVariants as at
use Rattle.core_lang.specs.declared.act.Core.{Core, Row_of-Core, end_of-Core, more_of-Core}
use Rattle.core_lang.specs.declared.act.Core.TheVariants as c
use Rattle.core_lang.specs.declared.program.CoreFunction.{CoreFunction}
use Rattle.core_lang.specs.declared.program.Part.{Part}
use Rattle.core_lang.specs.declared.program.Program.{Program}
use Rattle.core_lang.specs.declared.program.Start.{Start}
use Rattle.core_lang.specs.declared.program.Start.TheVariants as st
use Rattle.core_lang.specs.declared.program.StaticObject.{StaticObject}

-- ---- names

-- a number is one of a list
abbrev pub IsAmong : ℕ → List ℕ → Type 0
IsAmong x [] = ⊥
IsAmong x (y ∷ ys) = (x ≡ y) ⊎ IsAmong x ys

-- an atom names what is there: a variable, a temporary among those that are assigned, a word, a static or a local object
abbrev pub IsAtomIn : Program → CoreFunction → (assigned : List ℕ) → Atom → Type 0
IsAtomIn p g ts (at.Var x) = (x < g.vars) ⊎ IsAmong x ts
IsAtomIn p g ts (at.Word n) = n < 2 ^ 32
IsAtomIn p g ts (at.Global x) = x < length p.objects
IsAtomIn p g ts (at.Local x) = x < length g.locals

abbrev pub AreAtomsIn : Program → CoreFunction → (assigned : List ℕ) → List Atom → Type 0
AreAtomsIn p g ts [] = Unit {0}
AreAtomsIn p g ts (v ∷ vs) = IsAtomIn p g ts v × AreAtomsIn p g ts vs

abbrev pub IsOptionIn : Program → CoreFunction → (assigned : List ℕ) → Option Atom → Type 0
IsOptionIn p g ts None = Unit {0}
IsOptionIn p g ts (Some v) = IsAtomIn p g ts v

-- what is assigned is a variable or a temporary
abbrev pub IsTarget : CoreFunction → ℕ → Type 0
IsTarget g x = x < g.vars + g.temps

abbrev pub IsResult : CoreFunction → Option ℕ → Type 0
IsResult g None = Unit {0}
IsResult g (Some x) = IsTarget g x

-- a function that is there is called with one argument for each of its parameters
abbrev pub HasParams : Option CoreFunction → ℕ → Type 0
HasParams None n = ⊥
HasParams (Some g) n = n ≡ g.params

-- a copy goes in whole units of 1, 2 or 4 bytes, and has at least one
pub record IsUnits (size alignment : ℕ) : Type 0 where
  pub unit : (alignment ≡ 1) ⊎ ((alignment ≡ 2) ⊎ (alignment ≡ 4))
  pub count : ℕ
  pub some : 0 < count
  pub whole : size ≡ count * alignment

-- ---- acts

-- the numbers that an act assigns itself, not the acts in it
abbrev pub targets : Core → List ℕ
targets (c.Move x v) = x ∷ []
targets (c.Operate x op u v) = x ∷ []
targets (c.Pointer x op u v) = x ∷ []
targets (c.Load x k p) = x ∷ []
targets (c.Call (Some x) f vs) = x ∷ []
targets (c.Get x) = x ∷ []
targets _ = []

abbrev mutual
  -- an act is well formed behind acts that assigned these, with so many blocks and loops around it
  pub IsActIn : Program → CoreFunction → (around : ℕ) → (assigned : List ℕ) → Core → Type 0
  IsActIn p g k ts (c.Move x v) = IsTarget g x × IsAtomIn p g ts v
  IsActIn p g k ts (c.Operate x op u v) = IsTarget g x × IsAtomIn p g ts u × IsAtomIn p g ts v
  IsActIn p g k ts (c.Pointer x op u v) = IsTarget g x × IsAtomIn p g ts u × IsAtomIn p g ts v
  IsActIn p g k ts (c.Load x width v) = IsTarget g x × IsAtomIn p g ts v
  IsActIn p g k ts (c.Store width u v) = IsAtomIn p g ts u × IsAtomIn p g ts v
  IsActIn p g k ts (c.Enter x) = x < length g.locals
  IsActIn p g k ts (c.Fill x) = x < length g.locals
  IsActIn p g k ts (c.Copy u v size alignment) = IsAtomIn p g ts u × IsAtomIn p g ts v × IsUnits size alignment
  IsActIn p g k ts (c.Call x f vs) = IsResult g x × HasParams (slice_get p.functions f) (length vs) × AreAtomsIn p g ts vs
  IsActIn p g k ts (c.Get x) = IsTarget g x
  IsActIn p g k ts (c.Put v) = IsAtomIn p g ts v
  IsActIn p g k ts (c.Exit v) = IsAtomIn p g ts v
  IsActIn p g k ts (c.Block' n all) = IsRowIn p g (suc k) ts all
  IsActIn p g k ts (c.Loop' n all) = IsRowIn p g (suc k) ts all
  IsActIn p g k ts (c.Break j) = j < k
  IsActIn p g k ts (c.If' v n first m second) = IsAtomIn p g ts v × IsRowIn p g k ts first × IsRowIn p g k ts second
  IsActIn p g k ts (c.Return v) = IsOptionIn p g ts v

  -- a list in an act; what an act assigns may be read behind it
  pub IsRowIn : Program → CoreFunction → (around : ℕ) → (assigned : List ℕ) → {n : _} → Row_of-Core n → Type 0
  IsRowIn p g k ts end_of-Core = Unit {0}
  IsRowIn p g k ts (more_of-Core a rest) = IsActIn p g k ts a × IsRowIn p g k (targets a ++ ts) rest

abbrev pub AreActsIn : Program → CoreFunction → (around : ℕ) → (assigned : List ℕ) → List Core → Type 0
AreActsIn p g k ts [] = Unit {0}
AreActsIn p g k ts (a ∷ rest) = IsActIn p g k ts a × AreActsIn p g k (targets a ++ ts) rest

-- what may be read behind acts: what they assigned and what was assigned before
abbrev pub assigned_behind : List Core → List ℕ → List ℕ
assigned_behind [] ts = ts
assigned_behind (a ∷ rest) ts = assigned_behind rest (targets a ++ ts)

-- ---- places

-- in how many places of a list a number stands
abbrev pub occurrences : ℕ → List ℕ → ℕ
occurrences x [] = 0
occurrences x (y ∷ ys) = number_of_truth (x == y) + occurrences x ys

abbrev mutual
  -- in how many places an act and the acts in it assign a number
  pub places_in_act : ℕ → Core → ℕ
  places_in_act x (c.Block' n all) = places_in_row x all
  places_in_act x (c.Loop' n all) = places_in_row x all
  places_in_act x (c.If' v n first m second) = places_in_row x first + places_in_row x second
  places_in_act x a = occurrences x (targets a)

  pub places_in_row : ℕ → {n : _} → Row_of-Core n → ℕ
  places_in_row x end_of-Core = 0
  places_in_row x (more_of-Core a rest) = places_in_act x a + places_in_row x rest

abbrev pub places_in : ℕ → List Core → ℕ
places_in x [] = 0
places_in x (a ∷ rest) = places_in_act x a + places_in x rest

-- ---- functions

pub record IsFunctionIn (p : Program) (g : CoreFunction) : Type 0 where
  -- the parameters are the first variables
  pub params : g.params ≤ g.vars
  -- the acts name what is there, and read a temporary only behind the act that assigns it
  pub body : AreActsIn p g 0 [] g.body
  -- a temporary is assigned in one place
  pub once : (x : ℕ) → g.vars ≤ x → places_in x g.body ≤ 1

-- ---- paths through acts

abbrev mutual
  -- whether a break in acts may leave so many blocks and loops further out, behind the one that they stand in
  pub may_leave : ℕ → Core → Bool
  may_leave k (c.Break j) = j == k
  may_leave k (c.Block' n all) = row_may_leave (suc k) all
  may_leave k (c.Loop' n all) = row_may_leave (suc k) all
  may_leave k (c.If' v n first m second) = row_may_leave k first || row_may_leave k second
  may_leave k a = false

  pub row_may_leave : ℕ → {n : _} → Row_of-Core n → Bool
  row_may_leave k end_of-Core = false
  row_may_leave k (more_of-Core a rest) = may_leave k a || row_may_leave k rest

abbrev mutual
  -- whether there may be a path through acts: to what stands behind them
  pub may_fall : Core → Bool
  may_fall (c.Block' n all) = row_may_fall all || row_may_leave 0 all
  may_fall (c.Loop' n all) = row_may_leave 0 all
  may_fall (c.If' v n first m second) = row_may_fall first || row_may_fall second
  may_fall (c.Break k) = false
  may_fall (c.Return v) = false
  may_fall (c.Exit v) = false
  may_fall a = true

  pub row_may_fall : {n : _} → Row_of-Core n → Bool
  row_may_fall end_of-Core = true
  row_may_fall (more_of-Core a rest) = may_fall a && row_may_fall rest

abbrev pub acts_may_fall : List Core → Bool
acts_may_fall [] = true
acts_may_fall (a ∷ rest) = may_fall a && acts_may_fall rest

abbrev mutual
  -- each return in acts gives a value back
  pub all_give : Core → Bool
  all_give (c.Return None) = false
  all_give (c.Block' n all) = row_all_give all
  all_give (c.Loop' n all) = row_all_give all
  all_give (c.If' v n first m second) = row_all_give first && row_all_give second
  all_give a = true

  pub row_all_give : {n : _} → Row_of-Core n → Bool
  row_all_give end_of-Core = true
  row_all_give (more_of-Core a rest) = all_give a && row_all_give rest

abbrev pub acts_all_give : List Core → Bool
acts_all_give [] = true
acts_all_give (a ∷ rest) = all_give a && acts_all_give rest

-- main takes nothing and gives a status back (C11 5.1.2.2.1p1), on every path: its closing brace is not reached, and each
-- return in it has a value
pub record IsMainFunction (g : CoreFunction) : Type 0 where
  pub params : g.params ≡ 0
  pub returns : g.returns ≡ true
  pub ends : acts_may_fall g.body ≡ false
  pub gives : acts_all_give g.body ≡ true

abbrev pub IsMain : Option CoreFunction → Type 0
IsMain None = ⊥
IsMain (Some g) = IsMainFunction g

-- ---- static objects

abbrev pub bytes_of_start : Start → ℕ
bytes_of_start (st.Byte b) = 1
bytes_of_start (st.Address x o) = 4

-- a place in a static object, or one past its end (C11 6.5.6p8)
abbrev pub IsPlaceIn : Option StaticObject → ℕ → Type 0
IsPlaceIn None o = ⊥
IsPlaceIn (Some x) o = o ≤ x.size

-- a byte may stand anywhere, an address at a multiple of 4
abbrev pub IsStartIn : Program → (offset : ℕ) → Start → Type 0
IsStartIn p offset (st.Byte b) = b < 2 ^ 8
IsStartIn p offset (st.Address x o) = (offset % 4 ≡ 0) × IsPlaceIn (slice_get p.objects x) o

-- two parts have no byte in common
abbrev pub AreApart : Part → Part → Type 0
AreApart y z = (y.offset + bytes_of_start y.word ≤ z.offset) ⊎ (z.offset + bytes_of_start z.word ≤ y.offset)

abbrev pub IsApartFrom : Part → List Part → Type 0
IsApartFrom y [] = Unit {0}
IsApartFrom y (z ∷ zs) = AreApart y z × IsApartFrom y zs

-- parts lie inside an object of a size and have no byte in common
abbrev pub ArePartsIn : Program → (size : ℕ) → List Part → Type 0
ArePartsIn p n [] = Unit {0}
ArePartsIn p n (y ∷ ys) = (y.offset + bytes_of_start y.word ≤ n) × IsStartIn p y.offset y.word × IsApartFrom y ys × ArePartsIn p n ys

-- ---- programs

pub record IsWellFormed (p : Program) : Type 0 where
  pub main : IsMain (slice_get p.functions p.main)
  pub functions : (f : ℕ) (g : CoreFunction) → slice_get p.functions f ≡ Some g → IsFunctionIn p g
  pub objects : (x : ℕ) (o : StaticObject) → slice_get p.objects x ≡ Some o → ArePartsIn p o.size o.parts
