-- What is asked of the statements of a function beside the kinds of their values: each statement is looked at alone, with what
-- stands around it.
use Rattle.std.specs.Prelude.{◌≡◌, ℕ, ◌+◌, ◌==◌, ◌^◌, ◌<◌, ◌≤◌, Bool, true, false, List, [], ◌∷◌, ◌++◌, length, Option, Some, None, slice_get}
use Rattle.std.specs.List.{list_any}
use Rattle.word_ops.specs.Access.{bytes_of}
use Rattle.c_tree.specs.declared.typed.statement.TStmt.{TStmt, Row_of-TStmt, end_of-TStmt, more_of-TStmt, Row_of-Branch, end_of-Branch, more_of-Branch, Row_of-Part, end_of-Part, more_of-Part}
use Rattle.c_tree.specs.declared.typed.statement.TStmt.TheVariants as s
use Rattle.c_tree.specs.declared.typed.statement.Objects.{Objects}
use Rattle.c_tree.specs.declared.typed.statement.Initial.{Initial}
use Rattle.c_tree.specs.declared.typed.statement.Initial.TheVariants as initial
use Rattle.c_tree.specs.declared.typed.statement.Initialiser.{Initialiser}
use Rattle.c_tree.specs.declared.typed.statement.Initialiser.TheVariants as initialiser
use Rattle.c_tree.specs.declared.typed.statement.Label.{Label}
use Rattle.c_tree.specs.declared.typed.statement.Label.TheVariants as label
use Rattle.c_tree.specs.declared.typed.unit.Object.{Object}
use Rattle.c_tree.specs.TypedKinds.{width_of}
use Rattle.c_tree.specs.TypedUnits.{Jumps, in_loop, in_switch}

-- ---- every statement of a tree

-- what stands around a statement: which jumps may stand there, and the objects in scope, by their places
pub record Around : Type 0 where
  pub jumps : Jumps
  pub objects : List Object

-- in a block that declares objects
abbrev pub behind : Around → Objects → Around
behind q b = record { jumps = q.jumps; objects = q.objects ++ b.list }

-- in the body of a loop
abbrev pub looped : Around → Around
looped q = record { jumps = in_loop q.jumps; objects = q.objects }

-- in the body of a switch
abbrev pub switched : Around → Around
switched q = record { jumps = in_switch q.jumps; objects = q.objects }

abbrev mutual
  -- this holds of a statement and of all statements in it
  pub Throughout : (Around → TStmt → Type 0) → Around → TStmt → Type 0
  Throughout P q (s.Evaluate e) = P q (s.Evaluate e)
  Throughout P q (s.Initialise i v) = P q (s.Initialise i v)
  Throughout P q (s.Block' b n all) = P q (s.Block' b n all) × AllThroughout P (behind q b) all
  Throughout P q (s.If' n branches p (more_of-TStmt a end_of-TStmt)) =
      P q (s.If' n branches p (more_of-TStmt a end_of-TStmt)) × BranchesThroughout P q branches × Throughout P q a
  Throughout P q (s.While' e p (more_of-TStmt a end_of-TStmt)) =
      P q (s.While' e p (more_of-TStmt a end_of-TStmt)) × Throughout P (looped q) a
  Throughout P q (s.Do' p (more_of-TStmt a end_of-TStmt) e) =
      P q (s.Do' p (more_of-TStmt a end_of-TStmt) e) × Throughout P (looped q) a
  Throughout P q (s.For' e f p (more_of-TStmt a end_of-TStmt)) =
      P q (s.For' e f p (more_of-TStmt a end_of-TStmt)) × Throughout P (looped q) a
  Throughout P q (s.Switch' e b n parts) =
      P q (s.Switch' e b n parts) × PartsThroughout P (behind (switched q) b) parts
  Throughout P q s.Break = P q s.Break
  Throughout P q s.Continue = P q s.Continue
  Throughout P q (s.Return e) = P q (s.Return e)

  -- of statements one behind the other
  pub AllThroughout : (Around → TStmt → Type 0) → Around → {n : _} → Row_of-TStmt n → Type 0
  AllThroughout P q end_of-TStmt = Unit {0}
  AllThroughout P q (more_of-TStmt a rest) = Throughout P q a × AllThroughout P q rest

  -- of the branches of an `if`
  pub BranchesThroughout : (Around → TStmt → Type 0) → Around → {n : _} → Row_of-Branch n → Type 0
  BranchesThroughout P q end_of-Branch = Unit {0}
  BranchesThroughout P q (more_of-Branch e a rest) = Throughout P q a × BranchesThroughout P q rest

  -- of the parts of a switch
  pub PartsThroughout : (Around → TStmt → Type 0) → Around → {n : _} → Row_of-Part n → Type 0
  PartsThroughout P q end_of-Part = Unit {0}
  PartsThroughout P q (more_of-Part labels m body rest) = AllThroughout P q body × PartsThroughout P q rest

-- ---- jumps

-- a break has a loop or a switch around it, a continue has a loop (C11 6.8.6.2p1, 6.8.6.3p1)
abbrev pub HasItsTarget : Around → TStmt → Type 0
HasItsTarget q s.Break = q.jumps.breaks ≡ true
HasItsTarget q s.Continue = q.jumps.continues ≡ true
HasItsTarget q a = Unit {0}

-- ---- labels

-- two labels that a switch may not both have (C11 6.8.4.2p3)
abbrev pub is_same_label : Label → Label → Bool
is_same_label (label.Case m) (label.Case n) = m == n
is_same_label label.Default label.Default = true
is_same_label k l = false

abbrev pub has_label : List Label → Label → Bool
has_label ls l = list_any (λ k. is_same_label k l) ls

-- no label stands in a list and behind its place again
abbrev pub AreDifferent : List Label → Type 0
AreDifferent [] = Unit {0}
AreDifferent (l ∷ ls) = (list_any (λ k. is_same_label l k) ls ≡ false) × AreDifferent ls

-- the value of a `case` is one of the promoted type, a word
abbrev pub AreWords : List Label → Type 0
AreWords [] = Unit {0}
AreWords (label.Case n ∷ ls) = (n < 2 ^ 32) × AreWords ls
AreWords (label.Default ∷ ls) = AreWords ls

-- the labels of a switch, in order
abbrev pub labels_in : {n : _} → Row_of-Part n → List Label
labels_in end_of-Part = []
labels_in (more_of-Part labels m body rest) = labels ++ labels_in rest

abbrev pub LabelsDiffer : Around → TStmt → Type 0
LabelsDiffer q (s.Switch' e b n parts) = AreDifferent (labels_in parts)
LabelsDiffer q a = Unit {0}

abbrev pub LabelsAreWords : Around → TStmt → Type 0
LabelsAreWords q (s.Switch' e b n parts) = AreWords (labels_in parts)
LabelsAreWords q a = Unit {0}

-- ---- initial values

abbrev pub AreBytes : List ℕ → Type 0
AreBytes [] = Unit {0}
AreBytes (b ∷ bs) = (b < 2 ^ 8) × AreBytes bs

-- pieces of the initial value of an aggregate stand one behind the other from a place on, and end inside it
abbrev pub PiecesLie : (from size : ℕ) → List Initial → Type 0
PiecesLie from size [] = from ≤ size
PiecesLie from size (initial.Value n k e ∷ is) = (from ≤ n) × PiecesLie (n + bytes_of (width_of k)) size is
PiecesLie from size (initial.Bytes n bytes ∷ is) = (from ≤ n) × AreBytes bytes × PiecesLie (n + length bytes) size is

abbrev pub IsInitialIn : Option Object → Initialiser → Type 0
IsInitialIn None v = ⊥
IsInitialIn (Some o) (initialiser.Scalar k e) = Unit {0}
IsInitialIn (Some o) (initialiser.Aggregate is) = PiecesLie 0 o.size is

abbrev pub PiecesFit : Around → TStmt → Type 0
PiecesFit q (s.Initialise i v) = IsInitialIn (slice_get q.objects i) v
PiecesFit q a = Unit {0}

-- ---- one statement

-- what core code and the limits need of a statement beside the kinds of its values
pub record IsFitting (q : Around) (a : TStmt) : Type 0 where
  pub labels : LabelsDiffer q a
  pub words : LabelsAreWords q a
  pub pieces : PiecesFit q a
