-- What hangs together in typed statements, functions and units.
use Rattle.std.specs.Prelude.{◌≡◌, ℕ, ◌+◌, ◌≤◌, ◌%◌, Bool, true, false, List, [], ◌∷◌, ◌++◌, ◌⊎◌, length, map, Option, Some, None, slice_get}
use Rattle.word_ops.specs.declared.operation.Width.TheVariants as width
use Rattle.word_ops.specs.Access.{bytes_of}
use Rattle.c_tree.specs.declared.typed.operator.Scalar.{Scalar}
use Rattle.c_tree.specs.declared.typed.operator.Scalar.TheVariants as scalar
use Rattle.c_tree.specs.declared.typed.expression.TExpr.{TExpr}
use Rattle.c_tree.specs.declared.typed.statement.TStmt.{TStmt, Row_of-TStmt, end_of-TStmt, more_of-TStmt, Row_of-Branch, end_of-Branch, more_of-Branch, Row_of-Part, end_of-Part, more_of-Part}
use Rattle.c_tree.specs.declared.typed.statement.TStmt.TheVariants as s
use Rattle.c_tree.specs.declared.typed.statement.Objects.{Objects}
use Rattle.c_tree.specs.declared.typed.statement.Initial.{Initial}
use Rattle.c_tree.specs.declared.typed.statement.Initial.TheVariants as initial
use Rattle.c_tree.specs.declared.typed.statement.Initialiser.{Initialiser}
use Rattle.c_tree.specs.declared.typed.statement.Initialiser.TheVariants as initialiser
use Rattle.c_tree.specs.declared.typed.unit.Object.{Object}
use Rattle.c_tree.specs.declared.typed.unit.StaticPart.{StaticPart}
use Rattle.c_tree.specs.declared.typed.unit.StaticPart.TheVariants as part
use Rattle.c_tree.specs.declared.typed.unit.StaticObject.{StaticObject}
use Rattle.c_tree.specs.declared.typed.unit.TFunction.{TFunction}
use Rattle.c_tree.specs.declared.typed.unit.Typed.{Typed}
use Rattle.c_tree.specs.TypedKinds.{Kind, Void, Holds, Signature, Kept, Names, width_of, IsSize, IsScalar, IsInteger, IsOfKind}

-- ---- objects

-- an object that is kept so has the size and the alignment of its width; an aggregate is aligned as its parts are
abbrev pub IsKeptIn : Option Scalar → (size alignment : ℕ) → Type 0
IsKeptIn None n a = (a ≡ 1) ⊎ ((a ≡ 2) ⊎ (a ≡ 4))
IsKeptIn (Some k) n a = (n ≡ bytes_of (width_of k)) × (a ≡ bytes_of (width_of k))

-- a declared object
abbrev pub IsObject : Object → Type 0
IsObject o = IsSize o.size × IsKeptIn o.scalar o.size o.alignment

-- declared objects
abbrev pub AreObjects : List Object → Type 0
AreObjects [] = Unit {0}
AreObjects (o ∷ os) = IsObject o × AreObjects os

-- parameters are kept as their arguments are given: each is of scalar type
abbrev pub AreParameters : List Object → Type 0
AreParameters [] = Unit {0}
AreParameters (o ∷ os) = (k : Scalar) × (o.scalar ≡ Some k) × IsObject o × AreParameters os

-- ---- names

-- how an object is kept
abbrev pub kept_as : Object → Kept
kept_as o = record { scalar = o.scalar; addressed = o.addressed }

-- the scalar type as which an object is kept, where it is one
abbrev pub scalar_of : Object → Option Scalar
scalar_of o = o.scalar

-- what names stand for in a block that declares objects
abbrev pub with_declared : Names → List Object → Names
with_declared c os = record { statics = c.statics; functions = c.functions; objects = c.objects ++ map kept_as os }

-- what a function takes and gives
abbrev pub signature_of : TFunction → Signature
signature_of f = record { parameters = map scalar_of f.parameters; result = f.scalar }

-- what names stand for in a function
abbrev pub names_in : Typed → TFunction → Names
names_in u f =
    record { statics = length u.objects; functions = map signature_of u.functions; objects = map kept_as f.parameters }

-- ---- statements

-- which jumps may stand at a place, and what a return gives
pub record Jumps : Type 0 where
  pub breaks : Bool
  pub continues : Bool
  pub result : Option Scalar

-- in the body of a loop (C11 6.8.6.2p1, 6.8.6.3p1)
abbrev pub in_loop : Jumps → Jumps
in_loop j = record { breaks = true; continues = true; result = j.result }

-- in the body of a switch (C11 6.8.6.3p1)
abbrev pub in_switch : Jumps → Jumps
in_switch j = record { breaks = true; continues = j.continues; result = j.result }

-- a condition: an expression that gives a value that is true or false (C11 6.8.4.1p1, 6.8.5p2)
abbrev pub IsCondition : Names → TExpr → Type 0
IsCondition c e = (j : Kind) × IsOfKind c e j × IsScalar j

-- the same where there may be none (C11 6.8.5.3)
abbrev pub IsConditionIfAny : Names → Option TExpr → Type 0
IsConditionIfAny c None = Unit {0}
IsConditionIfAny c (Some e) = IsCondition c e

-- an expression whose value is dropped (C11 6.8.3p2, 6.8.5.3p1)
abbrev pub IsDroppedIfAny : Names → Option TExpr → Type 0
IsDroppedIfAny c None = Unit {0}
IsDroppedIfAny c (Some e) = IsOfKind c e Void

-- pieces of the initial value of an aggregate, each of the kind of its member or element (C11 6.7.9p11, p20)
abbrev pub AreInitials : Names → List Initial → Type 0
AreInitials c [] = Unit {0}
AreInitials c (initial.Value n k e ∷ is) = IsOfKind c e (Holds k) × AreInitials c is
AreInitials c (initial.Bytes n bytes ∷ is) = AreInitials c is

-- an initial value of an object that is kept so: a scalar one for a scalar object, pieces for an aggregate (C11 6.7.9p11, p16)
abbrev pub IsInitialOf : Names → Option Scalar → Initialiser → Type 0
IsInitialOf c None (initialiser.Scalar k e) = ⊥
IsInitialOf c (Some j) (initialiser.Scalar k e) = (k ≡ j) × IsOfKind c e (Holds k)
IsInitialOf c None (initialiser.Aggregate is) = AreInitials c is
IsInitialOf c (Some j) (initialiser.Aggregate is) = ⊥

-- a return in a function whose value is kept so (C11 6.8.6.4p1)
abbrev pub IsReturnOf : Names → Option Scalar → Option TExpr → Type 0
IsReturnOf c None None = Unit {0}
IsReturnOf c None (Some e) = ⊥
IsReturnOf c (Some k) None = ⊥
IsReturnOf c (Some k) (Some e) = IsOfKind c e (Holds k)

-- how many objects a statement declares, in itself and in the blocks in it
abbrev mutual
  -- those of a statement
  pub declared_in : TStmt → ℕ
  declared_in (s.Evaluate e) = 0
  declared_in (s.Initialise i v) = 0
  declared_in (s.Block' b n all) = length b.list + declared_in_all all
  declared_in (s.If' n branches p (more_of-TStmt a end_of-TStmt)) = declared_in_branches branches + declared_in a
  declared_in (s.While' e p (more_of-TStmt a end_of-TStmt)) = declared_in a
  declared_in (s.Do' p (more_of-TStmt a end_of-TStmt) e) = declared_in a
  declared_in (s.For' e f p (more_of-TStmt a end_of-TStmt)) = declared_in a
  declared_in (s.Switch' e b n parts) = length b.list + declared_in_parts parts
  declared_in s.Break = 0
  declared_in s.Continue = 0
  declared_in (s.Return e) = 0

  -- those of statements
  pub declared_in_all : {n : _} → Row_of-TStmt n → ℕ
  declared_in_all end_of-TStmt = 0
  declared_in_all (more_of-TStmt a rest) = declared_in a + declared_in_all rest

  -- those of the branches of an `if`
  pub declared_in_branches : {n : _} → Row_of-Branch n → ℕ
  declared_in_branches end_of-Branch = 0
  declared_in_branches (more_of-Branch e a rest) = declared_in a + declared_in_branches rest

  -- those of the parts of a switch
  pub declared_in_parts : {n : _} → Row_of-Part n → ℕ
  declared_in_parts end_of-Part = 0
  declared_in_parts (more_of-Part labels m body rest) = declared_in_all body + declared_in_parts rest

-- the objects of a block have the numbers of their function from this one on
abbrev pub IsNumbered : (declared first : ℕ) → List Object → Type 0
IsNumbered n first [] = Unit {0}
IsNumbered n first (o ∷ os) = first ≡ n

-- the objects that a block declares behind so many of its function
abbrev pub IsDeclaring : (declared : ℕ) → Objects → Type 0
IsDeclaring n b = IsNumbered n b.first b.list × AreObjects b.list

abbrev mutual
  -- a statement behind which so many objects of its function are declared
  pub IsStatement : Names → Jumps → (declared : ℕ) → TStmt → Type 0
  IsStatement c j n (s.Evaluate e) = IsOfKind c e Void
  IsStatement c j n (s.Initialise i v) =
      (h : Kept) × (slice_get c.objects i ≡ Some h) × IsInitialOf c h.scalar v
  IsStatement c j n (s.Block' b m all) =
      IsDeclaring n b × AreStatements (with_declared c b.list) j (n + length b.list) all
  IsStatement c j n (s.If' m branches p (more_of-TStmt a end_of-TStmt)) =
      AreBranches c j n branches × IsStatement c j (n + declared_in_branches branches) a
  IsStatement c j n (s.While' e p (more_of-TStmt a end_of-TStmt)) = IsCondition c e × IsStatement c (in_loop j) n a
  IsStatement c j n (s.Do' p (more_of-TStmt a end_of-TStmt) e) = IsStatement c (in_loop j) n a × IsCondition c e
  IsStatement c j n (s.For' e f p (more_of-TStmt a end_of-TStmt)) =
      IsConditionIfAny c e × IsDroppedIfAny c f × IsStatement c (in_loop j) n a
  IsStatement c j n (s.Switch' e b m parts) =
      (k : Kind) × IsOfKind c e k × IsInteger k × IsDeclaring n b × AreParts (with_declared c b.list) (in_switch j) (n + length b.list) parts
  IsStatement c j n s.Break = j.breaks ≡ true
  IsStatement c j n s.Continue = j.continues ≡ true
  IsStatement c j n (s.Return e) = IsReturnOf c j.result e

  -- statements one behind the other
  pub AreStatements : Names → Jumps → (declared : ℕ) → {n : _} → Row_of-TStmt n → Type 0
  AreStatements c j n end_of-TStmt = Unit {0}
  AreStatements c j n (more_of-TStmt a rest) = IsStatement c j n a × AreStatements c j (n + declared_in a) rest

  -- the branches of an `if`
  pub AreBranches : Names → Jumps → (declared : ℕ) → {n : _} → Row_of-Branch n → Type 0
  AreBranches c j n end_of-Branch = Unit {0}
  AreBranches c j n (more_of-Branch e a rest) =
      IsCondition c e × IsStatement c j n a × AreBranches c j (n + declared_in a) rest

  -- the parts of a switch
  pub AreParts : Names → Jumps → (declared : ℕ) → {n : _} → Row_of-Part n → Type 0
  AreParts c j n end_of-Part = Unit {0}
  AreParts c j n (more_of-Part labels m body rest) =
      AreStatements c j n body × AreParts c j (n + declared_in_all body) rest

-- ---- functions and units

-- a function definition: its parameters and its body, where no jump leads out but return (C11 6.9.1)
abbrev pub IsFunction : Typed → TFunction → Type 0
IsFunction u f =
    AreParameters f.parameters × IsStatement (names_in u f) (record { breaks = false; continues = false; result = f.scalar }) (length f.parameters) f.body

-- main: it takes nothing and returns an int (C11 5.1.2.2.1p1)
abbrev pub IsMain : Option TFunction → Type 0
IsMain None = ⊥
IsMain (Some f) = (length f.parameters ≡ 0) × (f.scalar ≡ Some (scalar.Integer width.Word))

-- a part of a static object lies in it, and an address is a place in a static object or one past its end, and stands where a
-- pointer is aligned
abbrev pub LiesIn : Typed → (size : ℕ) → StaticPart → Type 0
LiesIn u size (part.Bytes n bytes) = n + length bytes ≤ size
LiesIn u size (part.Address n r o) =
    (n + 4 ≤ size) × (n % 4 ≡ 0) × (p : StaticObject) × (slice_get u.objects r ≡ Some p) × (o ≤ p.object.size)

-- the same of several parts
abbrev pub LieIn : Typed → (size : ℕ) → List StaticPart → Type 0
LieIn u size [] = Unit {0}
LieIn u size (p ∷ ps) = LiesIn u size p × LieIn u size ps

-- what typing makes and lowering takes
pub record IsUnit (u : Typed) : Type 0 where
  pub functions : (i : ℕ) (f : TFunction) → slice_get u.functions i ≡ Some f → IsFunction u f
  pub main : IsMain (slice_get u.functions u.main)
  pub objects : (i : ℕ) (o : StaticObject) → slice_get u.objects i ≡ Some o →
      IsObject o.object × LieIn u o.object.size o.parts
