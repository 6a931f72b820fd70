-- Laws of well-formed acts: lists that stand in acts, and one list behind another.
-- No contract cites this file: it holds proofs.
use Rattle.std.proofs.Common.{◌≡◌, refl, ap, ◌∙◌, ℕ, suc, ◌+◌, inl, inr, ⊎_elim, List, [], ◌∷◌, ◌++◌, arith}
use Rattle.std.specs.Prelude.{Option, Some, None}
use Rattle.core_lang.specs.declared.act.Atom.{Atom}
use Rattle.core_lang.specs.declared.act.Atom.TheVariants as at
use Rattle.core_lang.specs.declared.act.Core.{Core, Row_of-Core, end_of-Core, more_of-Core, items-the_row-Core, items_hidden-the_row-Core-0}
use Rattle.core_lang.specs.declared.act.Core.TheBlock.{hidden-the_row-Core-0}
use Rattle.core_lang.specs.declared.act.Core.TheVariants as c
use Rattle.core_lang.specs.declared.program.CoreFunction.{CoreFunction}
use Rattle.core_lang.specs.declared.program.Program.{Program}
use Rattle.core_lang.specs.WellFormed.{IsAmong, IsAtomIn, targets, AreAtomsIn, IsOptionIn, IsActIn, IsRowIn, AreActsIn, assigned_behind, places_in_act, places_in_row, places_in}

-- ---- lists in acts

pub IsRowIn-list : (p : Program) (g : CoreFunction) (k : ℕ) (ts : List ℕ) (n : _) (r : Row_of-Core n) →
    IsRowIn p g k ts r ≡ AreActsIn p g k ts (items-the_row-Core n r)
IsRowIn-list p g k ts n end_of-Core = refl
IsRowIn-list p g k ts n (more_of-Core a rest) =
    ap {B = Type 0} (λ (T : Type 0). IsActIn p g k ts a × T) (IsRowIn-list p g k (targets a ++ ts) _ rest)

row_hidden : (p : Program) (g : CoreFunction) (k : ℕ) (ts : List ℕ) (xs : List Core) →
    IsRowIn p g k ts (hidden-the_row-Core-0 xs) ≡ AreActsIn p g k ts xs
row_hidden p g k ts xs =
    IsRowIn-list p g k ts _ (hidden-the_row-Core-0 xs) ∙ ap {B = Type 0} (AreActsIn p g k ts) (items_hidden-the_row-Core-0 xs)

pub IsActIn-Block : (p : Program) (g : CoreFunction) (k : ℕ) (ts : List ℕ) (xs : List Core) →
    IsActIn p g k ts (c.Block xs) ≡ AreActsIn p g (suc k) ts xs
IsActIn-Block p g k ts xs = row_hidden p g (suc k) ts xs

pub IsActIn-Loop : (p : Program) (g : CoreFunction) (k : ℕ) (ts : List ℕ) (xs : List Core) →
    IsActIn p g k ts (c.Loop xs) ≡ AreActsIn p g (suc k) ts xs
IsActIn-Loop p g k ts xs = row_hidden p g (suc k) ts xs

pub IsActIn-If : (p : Program) (g : CoreFunction) (k : ℕ) (ts : List ℕ) (v : Atom) (xs ys : List Core) →
    IsActIn p g k ts (c.If v xs ys) ≡ (IsAtomIn p g ts v × AreActsIn p g k ts xs × AreActsIn p g k ts ys)
IsActIn-If p g k ts v xs ys =
    ap {B = Type 0} (λ (T : Type 0). IsAtomIn p g ts v × T × IsRowIn p g k ts (hidden-the_row-Core-0 ys)) (row_hidden p g k ts xs)
    ∙ ap {B = Type 0} (λ (T : Type 0). IsAtomIn p g ts v × AreActsIn p g k ts xs × T) (row_hidden p g k ts ys)

pub places_in_row-list : (x : ℕ) (n : _) (r : Row_of-Core n) → places_in_row x r ≡ places_in x (items-the_row-Core n r)
places_in_row-list x n end_of-Core = refl
places_in_row-list x n (more_of-Core a rest) = ap (λ k. places_in_act x a + k) (places_in_row-list x _ rest)

places_hidden : (x : ℕ) (xs : List Core) → places_in_row x (hidden-the_row-Core-0 xs) ≡ places_in x xs
places_hidden x xs = places_in_row-list x _ (hidden-the_row-Core-0 xs) ∙ ap (places_in x) (items_hidden-the_row-Core-0 xs)

pub places-Block : (x : ℕ) (xs : List Core) → places_in_act x (c.Block xs) ≡ places_in x xs
places-Block x xs = places_hidden x xs

pub places-Loop : (x : ℕ) (xs : List Core) → places_in_act x (c.Loop xs) ≡ places_in x xs
places-Loop x xs = places_hidden x xs

pub places-If : (x : ℕ) (v : Atom) (xs ys : List Core) → places_in_act x (c.If v xs ys) ≡ places_in x xs + places_in x ys
places-If x v xs ys =
    ap (λ k. k + places_in_row x (hidden-the_row-Core-0 ys)) (places_hidden x xs) ∙ ap (λ k. places_in x xs + k) (places_hidden x ys)

-- ---- one list behind another

pub AreActsIn-append : (p : Program) (g : CoreFunction) (k : ℕ) (ts : List ℕ) (xs ys : List Core) →
    AreActsIn p g k ts xs → AreActsIn p g k (assigned_behind xs ts) ys → AreActsIn p g k ts (xs ++ ys)
AreActsIn-append p g k ts [] ys h i = i
AreActsIn-append p g k ts (a ∷ xs) ys h i = (h.0, AreActsIn-append p g k (targets a ++ ts) xs ys h.1 i)

pub AreActsIn-split : (p : Program) (g : CoreFunction) (k : ℕ) (ts : List ℕ) (xs ys : List Core) →
    AreActsIn p g k ts (xs ++ ys) → AreActsIn p g k ts xs × AreActsIn p g k (assigned_behind xs ts) ys
AreActsIn-split p g k ts [] ys h = (tt, h)
AreActsIn-split p g k ts (a ∷ xs) ys h =
    let i = AreActsIn-split p g k (targets a ++ ts) xs ys h.1 in ((h.0, i.0), i.1)

pub assigned_behind-append : (xs ys : List Core) (ts : List ℕ) →
    assigned_behind (xs ++ ys) ts ≡ assigned_behind ys (assigned_behind xs ts)
assigned_behind-append [] ys ts = refl
assigned_behind-append (a ∷ xs) ys ts = assigned_behind-append xs ys (targets a ++ ts)

pub places_in-append : (x : ℕ) (xs ys : List Core) → places_in x (xs ++ ys) ≡ places_in x xs + places_in x ys
places_in-append x [] ys = omega arith
places_in-append x (a ∷ xs) ys = omega (arith, places_in-append x xs ys)

-- ---- what may be read where more is assigned

-- each number of the first list is in the second
abbrev pub AreAlsoIn : List ℕ → List ℕ → Type 0
AreAlsoIn ts us = (x : ℕ) → IsAmong x ts → IsAmong x us

pub AreAlsoIn-behind : (ns ts us : List ℕ) → AreAlsoIn ts us → AreAlsoIn (ns ++ ts) (ns ++ us)
AreAlsoIn-behind [] ts us h x i = h x i
AreAlsoIn-behind (n ∷ ns) ts us h x i = ⊎_elim (λ e. inl e) (λ j. inr (AreAlsoIn-behind ns ts us h x j)) i

pub AreAlsoIn-more : (ns ts : List ℕ) → AreAlsoIn ts (ns ++ ts)
AreAlsoIn-more [] ts x i = i
AreAlsoIn-more (n ∷ ns) ts x i = inr (AreAlsoIn-more ns ts x i)

pub AreAlsoIn-assigned : (xs : List Core) (ts : List ℕ) → AreAlsoIn ts (assigned_behind xs ts)
AreAlsoIn-assigned [] ts x i = i
AreAlsoIn-assigned (a ∷ xs) ts x i = AreAlsoIn-assigned xs (targets a ++ ts) x (AreAlsoIn-more (targets a) ts x i)

module _ (p : Program) (g : CoreFunction) where
  pub IsAtomIn-more : (ts us : List ℕ) (v : Atom) → AreAlsoIn ts us → IsAtomIn p g ts v → IsAtomIn p g us v
  IsAtomIn-more ts us (at.Var x) h i = ⊎_elim (λ l. inl l) (λ j. inr (h x j)) i
  IsAtomIn-more ts us (at.Word n) h i = i
  IsAtomIn-more ts us (at.Global x) h i = i
  IsAtomIn-more ts us (at.Local x) h i = i

  pub AreAtomsIn-more : (ts us : List ℕ) (vs : List Atom) → AreAlsoIn ts us → AreAtomsIn p g ts vs →
      AreAtomsIn p g us vs
  AreAtomsIn-more ts us [] h i = tt
  AreAtomsIn-more ts us (v ∷ vs) h i = (IsAtomIn-more ts us v h i.0, AreAtomsIn-more ts us vs h i.1)

  pub IsOptionIn-more : (ts us : List ℕ) (v : Option Atom) → AreAlsoIn ts us → IsOptionIn p g ts v →
      IsOptionIn p g us v
  IsOptionIn-more ts us None h i = tt
  IsOptionIn-more ts us (Some v) h i = IsAtomIn-more ts us v h i

  mutual
    pub IsActIn-more : (k : ℕ) (ts us : List ℕ) (a : Core) → AreAlsoIn ts us → IsActIn p g k ts a → IsActIn p g k us a
    IsActIn-more k ts us (c.Move x v) h i = (i.0, IsAtomIn-more ts us v h i.1)
    IsActIn-more k ts us (c.Operate x op u v) h i = (i.0, IsAtomIn-more ts us u h i.1, IsAtomIn-more ts us v h i.2)
    IsActIn-more k ts us (c.Pointer x op u v) h i = (i.0, IsAtomIn-more ts us u h i.1, IsAtomIn-more ts us v h i.2)
    IsActIn-more k ts us (c.Load x d v) h i = (i.0, IsAtomIn-more ts us v h i.1)
    IsActIn-more k ts us (c.Store d u v) h i = (IsAtomIn-more ts us u h i.0, IsAtomIn-more ts us v h i.1)
    IsActIn-more k ts us (c.Enter x) h i = i
    IsActIn-more k ts us (c.Fill x) h i = i
    IsActIn-more k ts us (c.Copy u v n m) h i = (IsAtomIn-more ts us u h i.0, IsAtomIn-more ts us v h i.1, i.2)
    IsActIn-more k ts us (c.Call x f vs) h i = (i.0, i.1, AreAtomsIn-more ts us vs h i.2)
    IsActIn-more k ts us (c.Get x) h i = i
    IsActIn-more k ts us (c.Put v) h i = IsAtomIn-more ts us v h i
    IsActIn-more k ts us (c.Exit v) h i = IsAtomIn-more ts us v h i
    IsActIn-more k ts us (c.Block' n all) h i = IsRowIn-more (suc k) ts us all h i
    IsActIn-more k ts us (c.Loop' n all) h i = IsRowIn-more (suc k) ts us all h i
    IsActIn-more k ts us (c.Break j) h i = i
    IsActIn-more k ts us (c.If' v n xs m ys) h i =
        (IsAtomIn-more ts us v h i.0, IsRowIn-more k ts us xs h i.1, IsRowIn-more k ts us ys h i.2)
    IsActIn-more k ts us (c.Return v) h i = IsOptionIn-more ts us v h i

    pub IsRowIn-more : (k : ℕ) (ts us : List ℕ) {n : _} (r : Row_of-Core n) → AreAlsoIn ts us → IsRowIn p g k ts r →
        IsRowIn p g k us r
    IsRowIn-more k ts us end_of-Core h i = tt
    IsRowIn-more k ts us (more_of-Core a rest) h i =
        (IsActIn-more k ts us a h i.0, IsRowIn-more k (targets a ++ ts) (targets a ++ us) rest (AreAlsoIn-behind (targets a) ts us h) i.1)

  pub AreActsIn-more : (k : ℕ) (ts us : List ℕ) (xs : List Core) → AreAlsoIn ts us → AreActsIn p g k ts xs →
      AreActsIn p g k us xs
  AreActsIn-more k ts us [] h i = tt
  AreActsIn-more k ts us (a ∷ xs) h i =
      (IsActIn-more k ts us a h i.0, AreActsIn-more k (targets a ++ ts) (targets a ++ us) xs (AreAlsoIn-behind (targets a) ts us h) i.1)
