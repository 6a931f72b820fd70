-- A table of terms: a term's number is its place. What is asked of one, and what it says of a world.
use Rattle.std.specs.Prelude.{◌≡◌, ◌≢◌, ℕ, ◌-◌, ◌^◌, pos, negsuc, ◌<◌, ◌⊎◌, Bool, List, [], ◌∷◌, ◌++◌, length, Option, Some, None, slice_get}
use Rattle.word_ops.specs.declared.operation.Width.{Width}
use Rattle.word_ops.specs.declared.operation.Width.TheVariants.{U8, S8, U16, S16, Word}
use Rattle.term_form.specs.declared.term.Root.{Root}
use Rattle.term_form.specs.declared.term.Root.TheVariants as roots
use Rattle.term_form.specs.declared.term.Node.{Node}
use Rattle.term_form.specs.declared.term.Node.TheVariants as nodes
use Rattle.term_form.specs.declared.facts.Facts.{Facts}
use Rattle.term_form.specs.Meets.{Meets}
use Rattle.term_form.specs.Narrower.{any_word}
use Rattle.word_ops.specs.Addresses.{IsValueIn}
use Rattle.domain_laws.specs.World.{World, IsWorld, word_of_term, HasTruth}
use Rattle.domain_laws.specs.Promises.{IsOverScope, NodeSays}
use Rattle.term_domain.specs.declared.key.Key.{Key}
use Rattle.term_domain.specs.Keys.{own_place}

-- keys with the facts of their terms
abbrev pub Rows : Type 0
Rows = List (Key × Facts)

abbrev pub node_in : Option (Key × Facts) → Node
node_in None = nodes.Phi
node_in (Some row) = row.0.node

abbrev pub facts_in : Option (Key × Facts) → Facts
facts_in None = any_word
facts_in (Some row) = row.1

-- the node and the facts of a term
abbrev pub node_at : Rows → ℕ → Node
node_at rows x = node_in (slice_get rows x)

abbrev pub facts_at : Rows → ℕ → Facts
facts_at rows x = facts_in (slice_get rows x)

-- each key is that of its place, and the terms of each node are older
pub record IsTable (rows : Rows) : Type 0 where
  pub keyed : (x : ℕ) (row : Key × Facts) → slice_get rows x ≡ Some row → row.0.own ≡ own_place row.0.node x
  pub older : (x : ℕ) (row : Key × Facts) → slice_get rows x ≡ Some row → IsOverScope (λ y. y < x) row.0.node

-- one more row, of a node with facts
abbrev pub IsPushed : (old : Rows) → Node → Facts → (new : Rows) → Type 0
IsPushed old node facts new = (key : Key) × (key.node ≡ node) × (new ≡ old ++ (key, facts) ∷ [])

-- the term of the node that is there
pub record IsFound (old : Rows) (node : Node) (t : ℕ) (new : Rows) : Type 0 where
  pub within : t < length old
  pub node_is : node_at old t ≡ node
  pub only : (x : ℕ) → x < length old → node_at old x ≡ node → x ≡ t
  pub same : new ≡ old

-- a new term
pub record IsNew (old : Rows) (node : Node) (facts : Facts) (t : ℕ) (new : Rows) : Type 0 where
  pub number : t ≡ length old
  pub pushed : IsPushed old node facts new

-- a new term, of a node that no other has
pub record IsAdded (old : Rows) (node : Node) (facts : Facts) (t : ℕ) (new : Rows) : Type 0 where
  pub fresh : IsNew old node facts t new
  pub alone : (x : ℕ) → x < length old → node_at old x ≢ node

-- one term for the node
abbrev pub IsShared : (old : Rows) → Node → Facts → ℕ → (new : Rows) → Type 0
IsShared old node facts t new = IsFound old node t new ⊎ IsAdded old node facts t new

-- what is known of a term by its node alone
abbrev pub facts_of_root : Root → Facts
facts_of_root (roots.Global g) = any_word
facts_of_root (roots.Local l) = any_word
facts_of_root (roots.Param i) = any_word
facts_of_root roots.Got = record any_word { low = negsuc 0; high = pos 255 }
facts_of_root roots.Called = any_word

-- what is known of the word of a load by its width alone: the numbers that an object of that width holds
abbrev pub facts_of_width : Width → Facts
facts_of_width U8 = record any_word { low = pos 0; high = pos 255; most = 255; zeros = 2 ^ 32 - 2 ^ 8 }
facts_of_width S8 = record any_word { low = negsuc 127; high = pos 127 }
facts_of_width U16 = record any_word { low = pos 0; high = pos 65535; most = 65535; zeros = 2 ^ 32 - 2 ^ 16 }
facts_of_width S16 = record any_word { low = negsuc 32767; high = pos 32767 }
facts_of_width Word = any_word

-- what a term's node and facts say of its value
pub record RowStands (w : World) (x : ℕ) (node : Node) (facts : Facts) : Type 0 where
  pub inside : IsValueIn w.store (w.values x)
  pub older : IsOverScope (λ y. y < x) node
  pub says : NodeSays w node (w.values x)
  pub meets : Meets facts (word_of_term w x)

pub record TableStands (rows : Rows) (w : World) : Type 0 where
  pub sound : IsWorld w.store w.home
  pub each : (x : ℕ) → x < length rows → RowStands w x (node_at rows x) (facts_at rows x)

-- a constant has the truth of its word, and any other term may have either
abbrev pub MayHave : Node → (holds : Bool) → Type 0
MayHave (nodes.Konst k) holds = HasTruth holds k
MayHave (nodes.Root r) holds = Unit {0}
MayHave (nodes.Operate op a b) holds = Unit {0}
MayHave (nodes.Load k p) holds = Unit {0}
MayHave nodes.Phi holds = Unit {0}

-- a constant without that truth
abbrev pub Refutes : Node → (holds : Bool) → Type 0
Refutes node holds = (word : ℕ) × (node ≡ nodes.Konst word) × (HasTruth holds word → ⊥)
