-- What the calls of a domain promise, over the relations and functions that a domain tells of its states: the worlds that it
-- stands for, the terms in scope, their nodes and facts, the marks that are good, and the loads that it recalls.
use Rattle.std.specs.Prelude.{◌≡◌, ◌≢◌, ℕ, Bool, Some, List}
use Rattle.word_ops.specs.declared.operation.Op.{Op}
use Rattle.word_ops.specs.declared.operation.Width.{Width}
use Rattle.word_ops.specs.declared.operation.Width.TheVariants.{Word}
use Rattle.word_ops.specs.Store.{Value, Number, Cell, Store}
use Rattle.word_ops.specs.Access.{decode, cells_at}
use Rattle.word_ops.specs.Values.{value_of_operation}
use Rattle.word_ops.specs.Changes.{MayLoad, IsInRangeUnless}
use Rattle.term_form.specs.declared.term.Term.{Term}
use Rattle.term_form.specs.declared.term.Root.{Root}
use Rattle.term_form.specs.declared.term.Root.TheVariants as roots
use Rattle.term_form.specs.declared.term.Node.{Node}
use Rattle.term_form.specs.declared.term.Node.TheVariants as nodes
use Rattle.term_form.specs.declared.facts.Facts.{Facts}
use Rattle.term_form.specs.Narrower.{IsNarrower}
use Rattle.domain_laws.specs.declared.chance.Chance.{Chance}
use Rattle.domain_laws.specs.declared.chance.Chance.TheVariants.{Never, Possible}
use Rattle.domain_laws.specs.World.{World, with_term, with_store, word_of_term, IsOfRoot, HasTruth}

-- ---- what stays from one state to a later one

-- no term leaves the scope, nodes stay, and marks stay good
pub record Keeps {S M : Type 0} (has : S → ℕ → Type 0) (node : S → ℕ → Node) (marked : S → M → S → Type 0) (old new : S) : Type 0 where
  pub scope : (x : ℕ) → has old x → has new x
  pub nodes : (x : ℕ) → has old x → node new x ≡ node old x
  pub marks : (m : M) (d : S) → marked old m d → marked new m d

-- facts of terms only become narrower
abbrev pub Narrows : {S : Type 0} → (S → ℕ → Type 0) → (S → ℕ → Facts) → S → S → Type 0
Narrows {S} has facts old new = (x : ℕ) → has old x → IsNarrower (facts new x) (facts old x)

-- all of that
pub record Extends {S M : Type 0} (has : S → ℕ → Type 0) (node : S → ℕ → Node) (facts : S → ℕ → Facts) (marked : S → M → S → Type 0) (old new : S) : Type 0 where
  pub scope : (x : ℕ) → has old x → has new x
  pub nodes : (x : ℕ) → has old x → node new x ≡ node old x
  pub narrower : (x : ℕ) → has old x → IsNarrower (facts new x) (facts old x)
  pub marks : (m : M) (d : S) → marked old m d → marked new m d

-- a call that only adds terms leaves light marks light and forgets no load
pub record Adds {S M : Type 0} (light : S → M → S → Type 0) (recalls : S → ℕ → Width → Type 0) (old new : S) : Type 0 where
  pub lights : (m : M) (d : S) → light old m d → light new m d
  pub keeps : (p : ℕ) (k : Width) → recalls old p k → recalls new p k

-- the same in all that can be told
pub record Same {S M : Type 0} (stands : S → World → Type 0) (has : S → ℕ → Type 0) (node : S → ℕ → Node) (facts : S → ℕ → Facts) (marked light : S → M → S → Type 0) (recalls : S → ℕ → Width → Type 0) (old new : S) : Type 0 where
  pub stood : (w : World) → stands old w → stands new w
  pub stands_still : (w : World) → stands new w → stands old w
  pub extends : Extends has node facts marked old new
  pub scope : (x : ℕ) → has new x → has old x
  pub facts_stay : (x : ℕ) → has old x → facts new x ≡ facts old x
  pub adds : Adds light recalls old new
  pub recalled : (p : ℕ) (k : Width) → recalls new p k → recalls old p k

-- ---- scope

-- a call answers a term in scope and brings no other into it
pub record Brings {S : Type 0} (has : S → ℕ → Type 0) (old new : S) (t : ℕ) : Type 0 where
  pub answered : has new t
  pub only : (x : ℕ) → has new x → (x ≢ t) → has old x

-- a call brings no term into scope
abbrev pub BringsNone : {S : Type 0} → (S → ℕ → Type 0) → S → S → Type 0
BringsNone {S} has old new = (x : ℕ) → has new x → has old x

-- no term that was in scope has the node of this one
abbrev pub HasNodeAlone : {S : Type 0} → (S → ℕ → Type 0) → (S → ℕ → Node) → S → S → ℕ → Type 0
HasNodeAlone {S} has node old new t = (x : ℕ) → has old x → node old x ≢ node new t

-- the term is the one of this node, and was so where there was one
abbrev pub IsOneTerm : {S : Type 0} → (S → ℕ → Type 0) → (S → ℕ → Node) → S → S → ℕ → Node → Type 0
IsOneTerm {S} has node old new t n = (node new t ≡ n) × ((x : ℕ) → has old x → node old x ≡ n → x ≡ t)

-- a root whose value is told by the world: it has one term
abbrev pub IsObject : Root → Type 0
IsObject (roots.Global g) = Unit {0}
IsObject (roots.Local l) = Unit {0}
IsObject (roots.Param i) = ⊥
IsObject roots.Got = ⊥
IsObject roots.Called = ⊥

-- the node of a new term for an operation is this very operation, or a constant
abbrev pub IsMadeBy : Op → (a b : Term) → Node → Type 0
IsMadeBy op a b (nodes.Konst k) = Unit {0}
IsMadeBy op a b (nodes.Root r) = ⊥
IsMadeBy op a b (nodes.Operate o p q) = nodes.Operate o p q ≡ nodes.Operate op a b
IsMadeBy op a b (nodes.Load k p) = ⊥
IsMadeBy op a b nodes.Phi = ⊥

-- the terms of a node are in scope
abbrev pub IsOverScope : (Has : ℕ → Type 0) → Node → Type 0
IsOverScope Has (nodes.Konst k) = Unit {0}
IsOverScope Has (nodes.Root r) = Unit {0}
IsOverScope Has (nodes.Operate op a b) = Has a.0 × Has b.0
IsOverScope Has (nodes.Load k p) = Has p.0
IsOverScope Has nodes.Phi = Unit {0}

-- ---- worlds

-- the domain stands for each world that it stood for, with any value of the kind for the term t; where the term had a value,
-- that value is it
abbrev pub Gives : {S : Type 0} → (S → World → Type 0) → (S → ℕ → Type 0) → S → S → ℕ → (World → Value → Type 0) → Type 0
Gives {S} stands has old new t IsOfKind =
    (w : World) (v : Value) → stands old w → IsOfKind w v → stands new (with_term w t v) × (has old t → w.values t ≡ v)

-- a load through the pointer term p, wherever its region is live and the access lies in it and is aligned: a term that had a
-- value keeps it, and it is one that the load may give; any other may have each value that the load may give, and where the
-- cells tell none, each number in the range of the width that has the bytes which are there
abbrev pub Loads : {S : Type 0} → (S → World → Type 0) → (S → ℕ → Type 0) → S → S → ℕ → Width → ℕ → Type 0
Loads {S} stands has old new t k p =
    (w : World) (cells : List Cell) → stands old w → cells_at w.store k (w.values p) ≡ Some cells →
    (has old t → stands new w × MayLoad w.store k cells (w.values t)) ×
    ((has old t → ⊥) → (v : Value) → MayLoad w.store k cells v → IsInRangeUnless k (decode k cells) v → stands new (with_term w t v))

-- the domain stands after any change of the store that the relation allows
abbrev pub Changes : {S : Type 0} → (S → World → Type 0) → S → S → (World → Store → Type 0) → Type 0
Changes {S} stands old new May = (w : World) (s : Store) → stands old w → May w s → stands new (with_store w s)

-- what an answer of assume says
abbrev pub Decides : {S : Type 0} → (S → World → Type 0) → S → S → ℕ → Bool → Chance → Type 0
Decides {S} stands old new t holds Never = (w : World) → stands old w → HasTruth holds (word_of_term w t) → ⊥
Decides {S} stands old new t holds Possible = (w : World) → stands old w → HasTruth holds (word_of_term w t) → stands new w

-- a state that was left to one at a mark: all that stood there stands, and nothing else is in scope
pub record Restores {S M : Type 0} (stands : S → World → Type 0) (has : S → ℕ → Type 0) (node : S → ℕ → Node) (facts : S → ℕ → Facts) (marked : S → M → S → Type 0) (at new : S) : Type 0 where
  pub stood : (w : World) → stands at w → stands new w
  pub extends : Extends has node facts marked at new
  pub scope : (x : ℕ) → has new x → has at x

-- what a node says of the value of its term
abbrev pub NodeSays : World → Node → Value → Type 0
NodeSays w (nodes.Konst k) v = v ≡ Number k
NodeSays w (nodes.Root r) v = IsOfRoot w r v
NodeSays w (nodes.Operate op a b) v = value_of_operation w.store op (w.values a.0) (w.values b.0) ≡ Some v
NodeSays w (nodes.Load k p) v = Unit {0}
NodeSays w nodes.Phi v = Unit {0}

-- ---- loads that are recalled

-- a store of a word is recalled as a load of it
abbrev pub RecallsWord : {S : Type 0} → (S → ℕ → Width → Type 0) → S → ℕ → Width → Type 0
RecallsWord {S} recalls new p Word = recalls new p Word
RecallsWord {S} recalls new p _ = Unit {0}
